-- What the program's functions promise of each other.
pub mod Parts
