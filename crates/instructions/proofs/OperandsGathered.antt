-- A word whose right half is zero names number 00 there, four times: what the three other registers supply is then all.
use mathlib.Core.Path.{◌≡◌, sym}
use mathlib.Core.List.{List}
use Prim.Native.Nat.{ℕ, ◌%◌, ◌^◌}
use native.Mathlib.Omega.{arith}
use borrow.Author.Tests.{eq-eqb}
use Rattle.fields.specs.Field.{field}
use Rattle.instructions.specs.Operands.{supplied, gathered}

none_named : (registers : List ℕ) (t : ℕ) → t ≡ 0 → supplied registers t ≡ 0x8000_0000_0000_0000
unfolding supplied
none_named registers t e = rw (eq-eqb t 0 e)

module _ (w : ℕ) (registers : List ℕ) (g x a : ℕ) (eg : g ≡ supplied registers (field 64 8 8 w)) (ex : x ≡ supplied registers (field 64 16 8 w)) (ea : a ≡ supplied registers (field 64 24 8 w)) where
  -- a word with a right half
  pub long_gathered : (y b z c : ℕ) → y ≡ supplied registers (field 64 32 8 w) → b ≡ supplied registers (field 64 40 8 w) → z ≡ supplied registers (field 64 48 8 w) → c ≡ supplied registers (field 64 56 8 w) → record { g = g; x = x; a = a; y = y; b = b; z = z; c = c } ≡ gathered w registers
  unfolding gathered
  long_gathered y b z c ey eb ez ec = rw (eg, ex, ea, ey, eb, ez, ec)

  -- a word whose right half is zero
  pub short_gathered : w % 2 ^ 32 ≡ 0 → record { g = g; x = x; a = a; y = 0x8000_0000_0000_0000; b = 0x8000_0000_0000_0000; z = 0x8000_0000_0000_0000; c = 0x8000_0000_0000_0000 } ≡ gathered w registers
  short_gathered h =
      long_gathered _ _ _ _
      (sym (none_named registers (field 64 32 8 w) (omega arith)))
      (sym (none_named registers (field 64 40 8 w) (omega arith)))
      (sym (none_named registers (field 64 48 8 w) (omega arith)))
      (sym (none_named registers (field 64 56 8 w) (omega arith)))
