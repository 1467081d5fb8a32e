-- The laws behind the functions' proofs.
pub mod Parting
