-- What only private functions promise, or ask of each other, in terms of their own; no public contract comes to it.
pub mod Inner
pub mod Accepted
pub mod Loops
