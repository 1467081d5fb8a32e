-- The laws that belong to no one function. `Theorems` is what the layer promises; the others are what it and the layers above cite.
pub mod Theorems  -- what a store leaves, for every width and place
pub mod Slots  -- n bits of a number
pub mod Places  -- a field, and a store to it
pub mod Lists  -- bytes as one number
pub mod Wholes  -- eight bytes as std makes a number of them
pub mod Addresses  -- from an address to an index
pub mod Turns  -- items in turn or at once
pub mod FieldMeaning  -- what the checks of a field mean, bit by bit
pub mod Compared  -- how the code tests them
pub mod Furthest  -- the largest of what items give
pub mod Cycled  -- the closed form of an extent
pub mod GatherMeaning  -- compress, merge and mask in cycles
pub mod Corners  -- the definitions, computed
