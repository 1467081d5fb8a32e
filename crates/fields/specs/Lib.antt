-- The definitions that the contracts of `fields` cite.
pub mod Units
pub mod Slot
pub mod Field
pub mod Bytes
pub mod Memory
pub mod Extents
pub mod Gathers
pub mod Private
