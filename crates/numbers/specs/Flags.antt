-- The data flags, and an item with the flags that it raises: section 4 of docs/MACHINE.md.
use Rattle.std.specs.Prelude.{ℕ, ◌+◌, ◌-◌, ◌^◌}
use Rattle.numbers.specs.declared.flags.Made.{Made}

-- §4.4: flag n as a number of 64 bits: bit n of them, from the left.
abbrev pub flag : ℕ → ℕ
flag n = 2 ^ (63 - n)

-- §4.4: the three that exist.
abbrev pub all_flags : ℕ
all_flags = flag 42 + flag 43 + flag 46

-- An item, a word or a half word, with its flags.
abbrev pub with_flags : ℕ → ℕ → Made ℕ
with_flags w f = record { item = w; flags = f }
