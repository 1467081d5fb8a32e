-- Bits as the machine numbers them, from 0 at the left: section 1 of docs/MACHINE.md. L bits of memory, of a register or of an instruction word are
-- one number below 2 ^ L, and a field is n of those bits from bit a on. The width n is free: bits, bytes, half words and words alike.
use Rattle.std.specs.Prelude.{◌⊎◌, ℕ, zero, suc, ◌+◌, ◌-◌, ◌*◌, ◌^◌, ◌≤◌}
use Rattle.fields.specs.Slot.{get, put}

-- §1.1, §1.6: the n bits from bit a on as a number, bit a its most significant one.
abbrev pub field : ℕ → ℕ → ℕ → ℕ → ℕ
field L a n x = get (L - (a + n)) n x

-- §1.7: the L bits with v in the place of those n.
abbrev pub store : ℕ → ℕ → ℕ → ℕ → ℕ → ℕ
store L a n v x = put (L - (a + n)) n v x

-- §12.15: the n bits at a and the m bits at b have none in common.
abbrev pub Apart : ℕ → ℕ → ℕ → ℕ → Type 0
Apart a n b m = (a + n ≤ b) ⊎ (b + m ≤ a)

-- The first n items of w bits side by side as one number: item i is what f makes of i and of the memory x.
abbrev pub side_by_side : ℕ → (ℕ → ℕ → ℕ) → ℕ → ℕ → ℕ
side_by_side w f zero x = 0
side_by_side w f (suc n) x = side_by_side w f n x * 2 ^ w + f n x
