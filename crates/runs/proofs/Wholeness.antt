-- Steps lead where whole instructions lead, or they and the first items of the next.
use mathlib.Core.Path.{◌≡◌, refl, sym, ◌∙◌, ap}
use mathlib.Core.Bool.{Bool, true, false, cond}
use Prim.Native.Nat.{ℕ, zero, suc, ◌+◌, ◌<◌, ◌≤◌}
use native.Mathlib.Omega.{arith}
use lib.Dec.{eqb, ltb}
use Rattle.std.proofs.Math.Nat.{pos_of_ne-zero}
use Rattle.std.proofs.lemmas.Bool.{eqb-true, eqb-false, ltb-true, ltb-false}
use Rattle.fields.specs.Memory.{right_length}
use Rattle.instructions.specs.Fetch.{length_of}
use Rattle.instructions.specs.Items.{MemoryAndFlags, worked}
use Rattle.instructions.specs.Instruction.{by_items, count_of, works_of}
use Rattle.instructions.proofs.Steps.{works_none, works_whole}
use Rattle.runs.specs.declared.answers.Answer.{Answer}
use Rattle.std.specs.Prelude.{Result, Ok, Err}
use Rattle.runs.specs.Answers.{said_of}
use Rattle.runs.specs.Records.{between}
use Rattle.runs.specs.Steps.{State, at, next, burst, held_at, passed, acted, word_at, operands_at, verdict_at, items_at, held_operands, step, strides}
use Rattle.runs.specs.Calls.{Sound}
use Rattle.runs.specs.Wholes.{first_items, all_items, whole_step, wholes, steps_of, whole_steps, Partial, cut_at, Reached, wholly, partly}
use Rattle.runs.proofs.Numbered.{said_0, allows_passes, led, answered_led}
use Rattle.runs.proofs.Soundness.{lengths_of, strides_sound, possible_marked}
use Rattle.runs.proofs.Iterating.{ended_next, still, last_stride, one_stride}
use Rattle.runs.proofs.Bursting.{Stands, holds_of, step_held, burst_half, burst_done, burst_more, strides_some}
use Rattle.runs.proofs.Performing.{step_refused, step_passed, step_first, step_acted}

-- the first k items, in turn or at once
turn_or_once : (s : State) (k : ℕ) → right_length s.bytes ≡ true → verdict_at s ≡ 0 → by_items (word_at s) ≡ true → k ≤ items_at s
    → works_of (word_at s) (operands_at s) s.bytes 0 k (worked s.memory s.rec.flags) ≡ first_items k s
turn_or_once s k lent passes is few = works_whole s.rec.p (word_at s) (operands_at s) s.bytes lent passes is k few (worked s.memory s.rec.flags)

burst_cut : (s : State) (k : ℕ) → right_length s.bytes ≡ true → Partial s k → burst (word_at s) (operands_at s) 0 k s ≡ cut_at k s
burst_cut s k lent h =
    let e : 0 + k ≡ k = omega arith in
    burst_half (word_at s) (operands_at s) 0 k s (omega (arith, h.short)) ∙ rw (e, turn_or_once s k lent h.passes h.of_items (omega (arith, h.short)))

burst_all : (s : State) (k : ℕ) → right_length s.bytes ≡ true → verdict_at s ≡ 0 → by_items (word_at s) ≡ true → k ≡ items_at s → burst (word_at s) (operands_at s) 0 k s ≡ all_items s
burst_all s k lent passes is all =
    burst_done (word_at s) (operands_at s) 0 k s (omega (arith, all))
    ∙ rw (turn_or_once s k lent passes is (omega (arith, all)))
    (ap (λ (n : ℕ). at s.bytes (first_items n s).memory s.registers (between (s.rec.p + length_of (word_at s)) (first_items n s).flags)) all)

-- one whole instruction
whole_passes : (s : State) → verdict_at s ≡ 0 → whole_step s ≡ next (cond (by_items (word_at s)) (all_items s) (acted s))
unfolding whole_step
whole_passes s passes =
    let t = cond (by_items (word_at s)) (all_items s) (acted s) in
    answered_led (verdict_at s) t ∙ ap (λ (x : Result (Unit {0}) Answer). led x t) (ap said_of passes ∙ said_0)

whole_items : (s : State) → verdict_at s ≡ 0 → by_items (word_at s) ≡ true → whole_step s ≡ next (all_items s)
whole_items s passes is = whole_passes s passes ∙ rw is

whole_acted : (s : State) → verdict_at s ≡ 0 → by_items (word_at s) ≡ false → whole_step s ≡ next (acted s)
whole_acted s passes other = whole_passes s passes ∙ rw other

one_more : (s u : State) (i : ℕ) (t : State) → wholes i s ≡ next u → whole_step u ≡ next t → wholes (suc i) s ≡ next t
unfolding wholes
one_more s u i t e h = rw e h

more_steps : (s u : State) (i k j : ℕ) → wholes i s ≡ next u → steps_of u ≡ k → j ≡ whole_steps i s + k → j ≡ whole_steps (suc i) s
unfolding whole_steps
more_steps s u i k j e h is = is ∙ rw (e, h)

-- the steps of an instruction, by its kind
steps_items : (s : State) (k : ℕ) → by_items (word_at s) ≡ true → 0 < k → k ≡ items_at s → steps_of s ≡ k
steps_items s k is some all =
    rw is (omega (arith, all))

steps_none : (s : State) → by_items (word_at s) ≡ true → items_at s ≡ 0 → steps_of s ≡ 1
steps_none s is none = rw (is, none)

steps_other : (s : State) → by_items (word_at s) ≡ false → steps_of s ≡ 1
steps_other s other = rw other

-- no items: only P moves
passed_all : (s : State) → right_length s.bytes ≡ true → verdict_at s ≡ 0 → by_items (word_at s) ≡ true → items_at s ≡ 0 → passed s ≡ all_items s
passed_all s lent passes is none =
    ap (λ (w : MemoryAndFlags). at s.bytes w.memory s.registers (between (s.rec.p + length_of (word_at s)) w.flags)) nothing
  where
    nothing : worked s.memory s.rec.flags ≡ first_items (items_at s) s
    nothing =
        sym (works_none (word_at s) (operands_at s) s.bytes 0 (worked s.memory s.rec.flags))
        ∙ turn_or_once s 0 lent passes is (omega arith)
        ∙ ap (λ (n : ℕ). first_items n s) (sym none)

-- one more instruction is whole
end_whole : (s u : State) (i k j : ℕ) → wholes i s ≡ next u → steps_of u ≡ k → j ≡ whole_steps i s + k → (t v : State) → t ≡ v → whole_step u ≡ next v → v.rec.mark ≡ 0 → Reached s j t
end_whole s u i k j e steps is t v a h m =
    wholly (suc i) (one_more s u i t e (h ∙ ap next (sym a))) (more_steps s u i k j e steps is) (ap (λ (x : State). x.rec.mark) a ∙ m)

-- after k items, k one or more
after_items : (s u : State) (i k j : ℕ) → wholes i s ≡ next u → j ≡ whole_steps i s + k → right_length u.bytes ≡ true → u.rec.mark ≡ 0 → verdict_at u ≡ 0 → by_items (word_at u) ≡ true
    → 0 < k → k ≤ items_at u → (t : State) → t ≡ burst (word_at u) (operands_at u) 0 k u → Reached s j t
after_items s u i k j e steps lent m passes is some few t b = go (ltb k (items_at u)) refl
  where
    go : (x : Bool) → ltb k (items_at u) ≡ x → Reached s j t
    go true q =
        let h : Partial u k = record { unmarked = m; passes = passes; of_items = is; some = some; short = ltb-true _ _ q } in
        partly i k u e steps h (b ∙ burst_cut u k lent h)
    go false q =
        let l : items_at u ≤ k = ltb-false _ _ q in
        let all : k ≡ items_at u = omega arith in
        end_whole s u i k j e (steps_items u k is some all) steps t (all_items u) (b ∙ burst_all u k lent passes is all) (whole_items u passes is) refl

-- a step from between two instructions
after_whole : (s u : State) (i j : ℕ) → wholes i s ≡ next u → j ≡ whole_steps i s + 1 → right_length u.bytes ≡ true → u.rec.mark ≡ 0 → (t : State) → step u ≡ next t → Reached s j t
after_whole s u i j e steps lent m t h = said (said_of (verdict_at u)) refl
  where
    same : (v : State) → step u ≡ next v → t ≡ v
    same v q = cc

    counts : verdict_at u ≡ 0 → by_items (word_at u) ≡ true → (b : Bool) → eqb (items_at u) 0 ≡ b → Reached s j t
    counts passes is true q =
        let none : items_at u ≡ 0 = eqb-true _ _ q in
        let a = same _ (step_passed u m passes is none) in
        end_whole s u i 1 j e (steps_none u is none) steps t (all_items u) (a ∙ passed_all u lent passes is none) (whole_items u passes is) refl
    counts passes is false q =
        let some : 0 < items_at u = pos_of_ne-zero (eqb-false _ _ q) in
        after_items s u i 1 j e steps lent m passes is (omega arith) some t (same _ (step_first u m passes is some))

    kinds : verdict_at u ≡ 0 → (b : Bool) → by_items (word_at u) ≡ b → Reached s j t
    kinds passes true is = counts passes is (eqb (items_at u) 0) refl
    kinds passes false other =
        let a = same _ (step_acted u m passes other) in
        end_whole s u i 1 j e (steps_other u other) steps t _ a (whole_acted u passes other) refl

    said : (x : Result (Unit {0}) Answer) → said_of (verdict_at u) ≡ x → Reached s j t
    said (Ok _) q = kinds (allows_passes u q) (by_items (word_at u)) refl
    said (Err a) q = absurd (ended_next a t (sym (step_refused u a m q) ∙ h))

-- a step from half way
after_part : (s u : State) (i k j : ℕ) → wholes i s ≡ next u → j ≡ whole_steps i s + suc k → right_length u.bytes ≡ true → Partial u k → (t : State) → step (cut_at k u) ≡ next t → Reached s j t
after_part s u i k j e steps lent h t q =
    let stands : Stands u (word_at u) = record { passes = h.passes; of_items = h.of_items } in
    let z : 0 + k ≡ k = omega arith in
    let more = burst_more (word_at u) 0 k u stands (omega (arith, h.some)) (omega (arith, h.short)) in
    let f : step (cut_at k u) ≡ next (burst (word_at u) (operands_at u) 0 (suc k) u) = ap step (sym (burst_cut u k lent h)) ∙ more in
    let a : t ≡ burst (word_at u) (operands_at u) 0 (suc k) u = cc in
    after_items s u i (suc k) j e steps lent h.unmarked h.passes h.of_items (omega arith) (omega (arith, h.short)) t a

after_step : (s v t : State) (j : ℕ) → Sound v → Reached s j v → step v ≡ next t → Reached s (suc j) t
after_step s v t j ok (wholly i e steps m) h = after_whole s v i (suc j) e (omega (arith, steps)) (lengths_of _ _ ok.lengths).0 m t h
after_step s v t j ok (partly i k u e steps p is) h =
    let lent : right_length v.bytes ≡ true = (lengths_of _ _ ok.lengths).0 in
    after_part s u i k (suc j) e (omega (arith, steps)) (rw is at lent) p t (rw is at h)

-- what steps lead to from between two instructions
pub steps_reach : (j : ℕ) (s t : State) → Sound s → s.rec.mark ≡ 0 → strides j s ≡ next t → Reached s j t
unfolding wholes whole_steps
steps_reach zero s t ok m e =
    let z = still s t e in
    wholly 0 (ap next z) refl (rw z at m)
steps_reach (suc j) s t ok m e =
    let u = last_stride j s t e in
    after_step s u.0 t j (strides_sound j s u.0 ok u.1) (steps_reach j s u.0 ok m u.1) u.2

-- k steps of an instruction with more items
pub steps_cut : (s : State) (k : ℕ) → Sound s → Partial s k → strides k s ≡ next (cut_at k s)
steps_cut s k ok h =
    let lent = (lengths_of _ _ ok.lengths).0 in
    let first = step_first s h.unmarked h.passes h.of_items (omega (arith, h.short)) in
    strides_some (word_at s) 0 s (record { passes = h.passes; of_items = h.of_items }) first k h.some (omega (arith, h.short)) ∙ ap next (burst_cut s k lent h)

-- as many steps as an instruction of items has: all of them
pub steps_whole : (s : State) → Sound s → s.rec.mark ≡ 0 → verdict_at s ≡ 0 → by_items (word_at s) ≡ true → strides (steps_of s) s ≡ next (all_items s)
steps_whole s ok m passes is = go (eqb (items_at s) 0) refl
  where
    lent : right_length s.bytes ≡ true
    lent = (lengths_of _ _ ok.lengths).0

    go : (b : Bool) → eqb (items_at s) 0 ≡ b → strides (steps_of s) s ≡ next (all_items s)
    go true q =
        let none : items_at s ≡ 0 = eqb-true _ _ q in
        ap (λ (j : ℕ). strides j s) (steps_none s is none)
        ∙ one_stride s (passed s) (step_passed s m passes is none) ∙ ap next (passed_all s lent passes is none)
    go false q =
        let some : 0 < items_at s = pos_of_ne-zero (eqb-false _ _ q) in
        ap (λ (j : ℕ). strides j s) (steps_items s (items_at s) is some refl)
        ∙ strides_some (word_at s) 0 s (record { passes = passes; of_items = is }) (step_first s m passes is some) (items_at s) some (omega arith)
        ∙ ap next (burst_all s (items_at s) lent passes is refl)

-- j steps more of what is half done
pub steps_held : (s : State) (j : ℕ) → Sound s → (s.rec.mark ≡ 0 → ⊥) → 0 < j → s.rec.items + j ≤ count_of s.rec.word (held_operands s) → strides j s ≡ next (held_at j s)
steps_held s j ok marked some few =
    let half_way = possible_marked s.bytes s.registers s.rec ok.can marked in
    let holds = holds_of s.bytes s.registers s.rec half_way in
    strides_some s.rec.word s.rec.items s (record { passes = holds.passes; of_items = holds.of_items }) (step_held s half_way) j some few
