-- What is promised of every accepted plan: its items in turn are the whole instruction, cut where it stands; after k items exactly the first k are done,
-- the later ones and all else are untouched, and the flags are those of the first k; a pause changes nothing.
use mathlib.Core.Path.{◌≡◌, refl, sym, ap}
use Prim.Native.Nat.{ℕ, zero, suc, ◌+◌, ◌*◌, ◌≤◌, ◌<◌}
use native.Mathlib.Nat.{zero-mul}
use native.Mathlib.Omega.{arith}
use Rattle.fields.specs.Field.{field}
use Rattle.fields.proofs.Places.{store_none}
use Rattle.fields.proofs.Turns.{Same}
use Rattle.instructions.specs.Items.{Shape, result_at, item_at, MemoryAndFlags, worked, turns, flags_together, whole}
use Rattle.instructions.specs.Plan.{Plan, shape_of, items_of}
use Rattle.instructions.specs.Private.Accepted.{Accepted}
use Rattle.instructions.proofs.Agree.{agree, item_done, item_to_come, elsewhere, resume}
use Rattle.instructions.proofs.Passing.{sound}

none_done : (s : Shape) (L : ℕ) (w : MemoryAndFlags) → turns s L 0 0 w ≡ whole s L 0 w
none_done s L w = rw zero-mul (sym (ap (λ (x : ℕ). worked x w.flags) (store_none L s.result w.memory)))

module _ (L : ℕ) (p : Plan) (h : 0 < items_of p → Accepted L p) (w : MemoryAndFlags) where
  -- item by item is the whole instruction, cut after k items
  pub plan_agrees : (k : ℕ) → k ≤ items_of p → turns (shape_of p) L 0 k w ≡ whole (shape_of p) L k w
  plan_agrees zero le = none_done (shape_of p) L w
  plan_agrees (suc k) le = agree L (shape_of p) (items_of p) (sound L p (h (omega arith))) w (suc k) le

  -- the items done hold what the memory at the start makes of them
  pub plan_done : (k j : ℕ) → k ≤ items_of p → j < k → field L (result_at (shape_of p) j) (shape_of p).width (turns (shape_of p) L 0 k w).memory ≡ item_at (shape_of p) L j w.memory
  plan_done k j le lt = item_done L (shape_of p) (items_of p) (sound L p (h (omega arith))) w k j le lt

  -- those to come hold what they held
  pub plan_to_come : (k j : ℕ) → k ≤ j → j < items_of p
      → field L (result_at (shape_of p) j) (shape_of p).width (turns (shape_of p) L 0 k w).memory ≡ field L (result_at (shape_of p) j) (shape_of p).width w.memory
  plan_to_come k j le lt = item_to_come L (shape_of p) (items_of p) (sound L p (h (omega arith))) w k j le lt

  -- so does every field that shares no bit with the items done
  pub plan_elsewhere : (k : ℕ) → k ≤ items_of p → Same L (shape_of p).result (k * (shape_of p).width) (turns (shape_of p) L 0 k w).memory w.memory
  plan_elsewhere zero le a n la d = refl
  plan_elsewhere (suc k) le a n la d = elsewhere L (shape_of p) (items_of p) (sound L p (h (omega arith))) w (suc k) le a n la d

  pub plan_flags : (k : ℕ) → k ≤ items_of p → (turns (shape_of p) L 0 k w).flags ≡ flags_together (shape_of p) L k w.memory w.flags
  plan_flags k le = ap (λ (v : MemoryAndFlags). v.flags) (plan_agrees k le)

-- a pause after j items, and k more
pub plan_resumes : (L : ℕ) (p : Plan) (j k : ℕ) (w : MemoryAndFlags) → turns (shape_of p) L j k (turns (shape_of p) L 0 j w) ≡ turns (shape_of p) L 0 (j + k) w
plan_resumes L p j k w = let e : 0 + j ≡ j = omega arith in (rw e at (resume (shape_of p) L 0 j k w))
