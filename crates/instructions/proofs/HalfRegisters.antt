-- A half-word register is written by itself: it then holds what was written, and every other half word what it held, the other half of its register too.
-- Two half words of one register are the fields of 32 bits at 0 and at 32, which lie apart.
use mathlib.Core.Path.{◌≡◌, refl, sym, ap}
use mathlib.Core.Bool.{Bool, true, false}
use mathlib.Core.Logic.{inl, inr}
use mathlib.Core.List.{List}
use Prim.Native.Nat.{ℕ, ◌/◌, ◌%◌, ◌^◌, ◌<◌}
use native.Mathlib.Omega.{arith}
use borrow.Author.Tests.{eqb-true, eqb-false}
use lib.Dec.{eqb}
use lib.ListN.{length, get_or}
use lib.Seq.{get_or-set_same, get_or-set_other}
use Rattle.fields.specs.Field.{field, store, Apart}
use Rattle.fields.proofs.Places.{field_store, field_other}
use Rattle.instructions.specs.Effects.{half_at, with_half}

-- what half word t holds
abbrev pub half_of : ℕ → List ℕ → ℕ
half_of t rs = field 64 (half_at t) 32 (get_or rs (t / 2) 0)

module _ (t v : ℕ) (rs : List ℕ) (small : v < 2 ^ 32) (there : t / 2 < length rs) where
  pub half_written : half_of t (with_half t v rs) ≡ v
  half_written = rw (get_or-set_same rs (t / 2) (store 64 (half_at t) 32 v (get_or rs (t / 2) 0)) 0 there) (field_store 64 (half_at t) 32 v (get_or rs (t / 2) 0) small)

  pub half_kept : (u : ℕ) → (t ≡ u → ⊥) → half_of u (with_half t v rs) ≡ half_of u rs
  half_kept u n = go (eqb (t / 2) (u / 2)) refl
    where
      apart : t / 2 ≡ u / 2 → Apart (half_at t) 32 (half_at u) 32
      apart e = side (eqb (t % 2) 0) refl
        where
          side : (b : Bool) → eqb (t % 2) 0 ≡ b → Apart (half_at t) 32 (half_at u) 32
          side true q = let z : t % 2 ≡ 0 = eqb-true _ _ q in inl (omega arith)
          side false q = let z : t % 2 ≡ 0 → ⊥ = eqb-false _ _ q in inr (omega arith)

      go : (b : Bool) → eqb (t / 2) (u / 2) ≡ b → half_of u (with_half t v rs) ≡ half_of u rs
      go true e =
          let i : t / 2 ≡ u / 2 = eqb-true _ _ e in
          rw (← i, get_or-set_same rs (t / 2) (store 64 (half_at t) 32 v (get_or rs (t / 2) 0)) 0 there)
          (field_other 64 (half_at t) 32 v (half_at u) 32 (get_or rs (t / 2) 0) small (omega arith) (omega arith) (apart i))
      go false e = ap (field 64 (half_at u) 32) (get_or-set_other rs (t / 2) (u / 2) _ 0 (λ q. eqb-false _ _ e (sym q)))
