-- The definitions that the contracts of `numbers` cite.
pub mod Twos
pub mod Number
pub mod Quotient
pub mod Flags
pub mod Whole
pub mod Contract
pub mod Shift
pub mod Words
