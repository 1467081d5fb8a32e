-- Laws that belong to no one function.
pub mod Integers  -- signed numbers as the code has them
pub mod Linear  -- linear facts of signed numbers, for omega
pub mod Complements  -- two's complement over the width
pub mod Quotients  -- the three roundings
pub mod Joins  -- fields side by side in a word
pub mod Rotations  -- rotation and right shift
pub mod Exact  -- no bit of a result is lost
pub mod Raised  -- the flags that a result sets
