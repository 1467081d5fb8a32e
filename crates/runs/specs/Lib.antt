-- The definitions that the contracts and theorems of `runs` cite, in the order to read them. `Private` is for contracts of private functions alone.
pub mod Answers
pub mod Records
pub mod Steps
pub mod Calls
pub mod Hosts
pub mod Wholes
pub mod Controls
pub mod Private
