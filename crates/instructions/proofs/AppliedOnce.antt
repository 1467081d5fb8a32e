-- What the contract of `apply` leaves open: nothing. Memory is one number of known length, and the registers are given; there are as many as before.
use mathlib.Core.Path.{◌≡◌, refl, sym, ◌∙◌}
use mathlib.Core.List.{List}
use Prim.Native.Nat.{ℕ}
use lib.ListN.{length, length-set}
use Rattle.fields.specs.Bytes.{Bytes}
use Rattle.fields.proofs.Lists.{num_inj}
use Rattle.instructions.specs.declared.effects.Effect.{Effect}
use Rattle.instructions.specs.declared.effects.Effect.TheVariants.{Nothing, Register, HalfRegister, Byte, Word}
use Rattle.instructions.specs.Effects.{registers_after}
use Rattle.instructions.specs.Private.Accepted.{Applied}

pub applied_once : (e : Effect) (m rs p q ps qs : List ℕ) → Bytes p → Bytes q → Applied e m rs p ps → Applied e m rs q qs → (p ≡ q) × (ps ≡ qs)
applied_once e m rs p q ps qs hp hq k l =
    (num_inj p q hp hq (k.as_long ∙ sym l.as_long) (k.memory ∙ sym l.memory), k.registers ∙ sym l.registers)

pub registers_as_long : (e : Effect) (rs : List ℕ) → length (registers_after e rs) ≡ length rs
registers_as_long Nothing rs = refl
registers_as_long (Register t v) rs = simp length-set
registers_as_long (HalfRegister t v) rs = simp length-set
registers_as_long (Byte a v) rs = refl
registers_as_long (Word a v) rs = refl
