-- The lent memory: where it begins, what a field of it holds, and what a store leaves. Section 1 of docs/MACHINE.md.
use Rattle.std.specs.Prelude.{Bool, ◌&&◌, ◌≡◌, List, ℕ, ◌+◌, ◌-◌, ◌*◌, ◌%◌, ◌≤◌, leb, eqb, length}
use Rattle.fields.specs.Field.{field, store}
use Rattle.fields.specs.Bytes.{num, size}

-- §1.4: a memory of n bytes may be lent: 8 to 65,536 of them, in whole words.
abbrev pub right_length : ℕ → Bool
right_length n = leb 8 n && leb n 65536 && eqb (n % 8) 0

-- §1.4, §1.5: the address of its first bit; below it is no memory.
abbrev pub origin : ℕ
origin = 0x4000

-- §12.14, §2.6: the n bits at address a lie wholly in the lent bytes m; a + n is a plain sum.
pub record InMemory (m : List ℕ) (a n : ℕ) : Type 0 where
  pub from : origin ≤ a
  pub upto : a + n ≤ origin + size m

-- §12.12: they also begin with a byte, as every byte, half word and word does that refusal 8 lets pass.
pub record AtByte (m : List ℕ) (a n : ℕ) : Type 0 where
  pub from : origin ≤ a
  pub upto : a + n ≤ origin + size m
  pub whole : a % 8 ≡ 0

-- §1.6: what the n bits at address a hold, of a memory of so many bytes that is the number x.
abbrev pub field_in : ℕ → ℕ → ℕ → ℕ → ℕ
field_in bytes x a n = field (8 * bytes) (a - origin) n x

-- The same of the lent bytes m.
abbrev pub field_at : List ℕ → ℕ → ℕ → ℕ
field_at m a n = field_in (length m) (num m) a n

-- §1.7: m' is m with v in the n bits that have a bits of m to their left: as long, and every other bit as it was.
pub record Kept (m : List ℕ) (a n v : ℕ) (m' : List ℕ) : Type 0 where
  pub as_long : length m' ≡ length m
  pub holds : num m' ≡ store (size m) a n v (num m)

-- §1.7: m' is m with v in the n bits at address a.
abbrev pub Stored : List ℕ → ℕ → ℕ → ℕ → List ℕ → Type 0
Stored m a n v m' = Kept m (a - origin) n v m'
