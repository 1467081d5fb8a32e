-- Counts in four units, and bit addresses, of 48 bits each: section 2 of docs/MACHINE.md.
use Rattle.std.specs.Prelude.{ℕ, ◌+◌, ◌*◌, ◌%◌, ◌^◌}

-- §2.1, §2.3: n items of a unit as bits: shifted to the left by the unit's k places, and cut to 48 bits.
abbrev pub in_bits : ℕ → ℕ → ℕ
in_bits k n = n * 2 ^ k % 2 ^ 48

-- §2.4: the address n bits after a, cut to 48 bits.
abbrev pub formed : ℕ → ℕ → ℕ
formed a n = (a + n) % 2 ^ 48
