-- `fields::bytes::with_bit` meets its contract: what the bit holds is taken off, and v added, at the bit's place.
use mathlib.Core.Path.{◌≡◌, ap, ◌∙◌}
use Prim.Native.Nat.{ℕ, ◌+◌, ◌-◌, ◌*◌, ◌%◌, ◌^◌, ◌<◌}
use native.Mathlib.Nat.{one-mul}
use native.Mathlib.Omega.{arith}
use lib.Pow.{pow-add, shl_exact}
use lib.Bits.{bit_and, and_high, and_le_l}
use Rattle.fields.specs.Slot.{get}
use Rattle.fields.specs.Field.{store}
use Rattle.fields.proofs.Slots.{put_sum}
use Rattle.fields.proofs.Places.{store_lt}
use Rattle.fields.proofs.bytes.with_bit.Goals as goal

one_bit : (x s : ℕ) → bit_and x (2 ^ s) ≡ get s 1 x * 2 ^ s
one_bit x s =
    let e : 2 ^ s ≡ 2 ^ (1 + s) - 2 ^ s = omega (arith, pow-add 2 1 s) in
    ap (bit_and x) e ∙ and_high x 1 s

moved : (v s : ℕ) → v < 2 → s < 8 → v * 2 ^ s % 2 ^ 64 ≡ v * 2 ^ s
moved v s h l = shl_exact 1 s 64 h (omega arith)

module _ (b j v : ℕ) (inside : j < 8) (one : v < 2) (byte : b < 256) where
  whole : b - bit_and b (1 * 2 ^ (7 - j) % 2 ^ 64) + v * 2 ^ (7 - j) % 2 ^ 64 ≡ store 8 j 1 v b
  whole =
      let e : 8 - (j + 1) ≡ 7 - j = omega arith in
      let p : 1 * 2 ^ (7 - j) % 2 ^ 64 ≡ 2 ^ (7 - j) = moved 1 (7 - j) (omega arith) (omega arith) ∙ one-mul (2 ^ (7 - j)) in
      rw (p, moved v (7 - j) one (omega arith), one_bit b (7 - j), e) (put_sum (7 - j) 1 v b)

  small : b - bit_and b (1 * 2 ^ (7 - j) % 2 ^ 64) + v * 2 ^ (7 - j) % 2 ^ 64 < 256
  small = rw whole (store_lt 8 j 1 v b one (omega arith) byte)

pub overflow_sub-result : goal.overflow_sub-result
overflow_sub-result c = and_le_l _ _

pub overflow_add-result : goal.overflow_add-result
overflow_add-result c = omega (arith, small c.args.b c.args.j c.args.v (omega arith) (omega arith) (omega arith))

pub overflow_cast-result : goal.overflow_cast-result
overflow_cast-result c = omega (arith, small c.args.b c.args.j c.args.v (omega arith) (omega arith) (omega arith))

pub returns : goal.returns
returns c = whole c.args.b c.args.j c.args.v (omega arith) (omega arith) (omega arith)
