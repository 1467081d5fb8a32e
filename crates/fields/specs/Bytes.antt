-- The lent bytes as one number, whose bit 0 is the leftmost bit of the first byte: section 1 of docs/MACHINE.md.
use Rattle.std.specs.Prelude.{List, [], ◌∷◌, ℕ, ◌+◌, ◌*◌, ◌^◌, ◌<◌, length, get_or}

-- §1.6: the number that the bytes write, the first leftmost.
abbrev pub num : List ℕ → ℕ
num [] = 0
num (b ∷ l) = b * 2 ^ (8 * length l) + num l

-- §1.4: how many bits they are.
abbrev pub size : List ℕ → ℕ
size l = 8 * length l

-- §1.1: each element is a byte, of 8 bits.
abbrev pub Bytes : List ℕ → Type 0
Bytes l = (i : ℕ) → get_or l i 0 < 256
