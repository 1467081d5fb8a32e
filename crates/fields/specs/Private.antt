-- What only private functions promise, in terms of their own; no public contract comes to it.
pub mod Cycles
