-- The definitions that the contracts of `instructions` cite, in the order to read them, and then examples of them.
pub mod Meanings
pub mod Table
pub mod Words
pub mod Operands
pub mod Fetch
pub mod Branches
pub mod Layout
pub mod Verdict
pub mod Effects
pub mod Scalars
pub mod Items
pub mod Plan
pub mod Planned
pub mod Instruction
pub mod Examples
pub mod Private
