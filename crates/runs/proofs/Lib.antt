-- `Theorems` is what the layer promises: open it first. The others are the laws behind it and behind the functions' proofs.
pub mod Theorems  -- by demand: total, right, resumable
pub mod Numbered  -- answers and their numbers
pub mod Bursting  -- items of a word are steps one by one
pub mod Soundness  -- a step leaves a possible record
pub mod Iterating  -- steps add up to a budget
pub mod Performing  -- steps of one instruction, as the code does them
pub mod Striding  -- instructions of one step each, as the code does them
pub mod Turning  -- the control state
pub mod Taking  -- a call takes up what is half done
pub mod Stepping  -- begin, step and finish are a call
pub mod Ending  -- the four ways in which a call ends
pub mod Answering  -- what each of them says
pub mod Starts  -- computed starts
pub mod Lending  -- the result of the outer call
pub mod Wholeness  -- steps lead where whole instructions lead
pub mod Keeping  -- flags and register 00
