-- Steps of one instruction: what the code of `performs` does is what `Performs` asks, by the way that the code takes.
use mathlib.Core.Path.{◌≡◌, refl, sym, ◌∙◌, ap}
use mathlib.Core.Bool.{Bool, true, false, not, ◌&&◌}
use mathlib.Core.List.{List}
use Prim.Native.Nat.{ℕ, ◌+◌, ◌-◌, ◌^◌, ◌<◌, ◌≤◌, min}
use native.Mathlib.Omega.{arith}
use lib.ListN.{length}
use Rattle.std.proofs.lemmas.Bool.{eq-eqb, ne_eqb}
use Rattle.instructions.specs.Fetch.{length_of}
use Rattle.instructions.specs.Operands.{gathered}
use Rattle.instructions.specs.Instruction.{by_items, one_step, count_of}
use Rattle.instructions.proofs.Steps.{verdict_there}
use Rattle.runs.specs.declared.answers.Answer.{Answer}
use Rattle.runs.specs.declared.answers.Answer.TheVariants.{Impossible}
use Rattle.runs.specs.declared.records.Record.{Record}
use Rattle.runs.specs.declared.strides.Did.{Did}
use Rattle.instructions.specs.declared.instruction.Instruction.{Instruction}
use Rattle.std.specs.Prelude.{Result, Err}
use Rattle.runs.specs.Answers.{said_of}
use Rattle.runs.specs.Records.{half_done, between}
use Rattle.runs.specs.Steps.{State, at, lent_at, ended, next, word_at, operands_at, verdict_at, items_at, burst, passed, acted, begun, fresh, held, step, strides}
use Rattle.runs.specs.Calls.{lengths_right}
use Rattle.runs.specs.Private.Inner.{fetched_at, held_in, Goes, did, Bursts, Proceeds, Performs, one_step_at}
use Rattle.runs.proofs.Numbered.{said_0, led, fresh_led}
use Rattle.runs.proofs.Bursting.{holds_of, step_held, proceeds_burst}
use Rattle.runs.proofs.Soundness.{lengths_of, small}

-- ITEMS

-- P after an instruction of items
pub goes_past : (bytes : ℕ) (it : Instruction) (i : ℕ) → Goes bytes it i → it.p.0 + length_of it.word < 2 ^ 48
goes_past bytes it i g =
    let there = verdict_there it.p.0 it.word it.operands bytes g.lent g.passes in
    let most : bytes ≤ 65536 = small bytes g.lent in
    omega arith

-- WHAT IS HALF DONE

pub held_goes : (bytes : ℕ) (registers : List ℕ) (c : Record) → lengths_right bytes (length registers) ≡ true → half_done bytes registers c ≡ true
    → Goes bytes (held_in registers c) c.items
held_goes bytes registers c right h =
    let holds = holds_of bytes registers c h in
    record {
      lent = (lengths_of _ _ right).0;
      passes = holds.passes;
      of_items = holds.of_items;
      more = holds.short;
    }

pub proceeds_held : (m registers : List ℕ) (c : Record) (most : ℕ) → half_done (length m) registers c ≡ true → 0 < most
    → (m' : List ℕ) (d : Did) → Bursts m (held_in registers c) c.flags c.items (min (count_of c.word (gathered c.word registers) - c.items) most) m' d
    → Proceeds (lent_at m registers c) most (lent_at m' registers) d
proceeds_held m registers c most h some m' d b =
    let holds = holds_of (length m) registers c h in
    proceeds_burst m registers c c.word c.items most (record { passes = holds.passes; of_items = holds.of_items })
    (step_held (lent_at m registers c) h) holds.short some m' d b

pub step_impossible : (s : State) → (s.rec.mark ≡ 0 → ⊥) → half_done s.bytes s.registers s.rec ≡ false → step s ≡ ended Impossible
unfolding step held
step_impossible s d h = rw (ne_eqb s.rec.mark 0 d, h)

-- AN INSTRUCTION FROM ITS START

pub step_fresh : (s : State) → s.rec.mark ≡ 0 → step s ≡ fresh s
unfolding step
step_fresh s m = rw (eq-eqb _ _ m)

-- a word that passes
pub step_begun : (s : State) → s.rec.mark ≡ 0 → verdict_at s ≡ 0 → step s ≡ next (begun s)
step_begun s m passes = step_fresh s m ∙ fresh_led s ∙ ap (λ (x : Result (Unit {0}) Answer). led x (begun s)) (ap said_of passes ∙ said_0)

-- a word that does not
pub step_refused : (s : State) (a : Answer) → s.rec.mark ≡ 0 → said_of (verdict_at s) ≡ Err a → step s ≡ ended a
step_refused s a m said = step_fresh s m ∙ fresh_led s ∙ ap (λ (x : Result (Unit {0}) Answer). led x (begun s)) said

-- the first step of a word that passes, by its kind
pub step_passed : (s : State) → s.rec.mark ≡ 0 → verdict_at s ≡ 0 → by_items (word_at s) ≡ true → items_at s ≡ 0 → step s ≡ next (passed s)
unfolding begun
step_passed s m passes is none = step_begun s m passes ∙ rw (is, eq-eqb _ _ none)

pub step_first : (s : State) → s.rec.mark ≡ 0 → verdict_at s ≡ 0 → by_items (word_at s) ≡ true → 0 < items_at s → step s ≡ next (burst (word_at s) (operands_at s) 0 1 s)
unfolding begun
step_first s m passes is some = step_begun s m passes ∙ rw (is, ne_eqb (items_at s) 0 (λ e. omega arith))

pub step_acted : (s : State) → s.rec.mark ≡ 0 → verdict_at s ≡ 0 → by_items (word_at s) ≡ false → step s ≡ next (acted s)
unfolding begun
step_acted s m passes other = step_begun s m passes ∙ rw other

-- a word that passes and does not take one step goes by items
pub items_left : (s : State) → verdict_at s ≡ 0 → one_step_at s ≡ false → by_items (word_at s) ≡ true
unfolding one_step
items_left s passes other = go (by_items (word_at s)) (rw (eq-eqb _ _ passes) at other)
  where
    go : (b : Bool) → (true && not b) ≡ false → b ≡ true
    go true e = refl
    go false e = sym e

-- P after it
pub fetched_past : (s : State) → lengths_right s.bytes (length s.registers) ≡ true → verdict_at s ≡ 0 → s.rec.p + length_of (word_at s) < 2 ^ 48
fetched_past s right passes =
    let lent = (lengths_of _ _ right).0 in
    let there = verdict_there s.rec.p (word_at s) (operands_at s) s.bytes lent passes in
    let most : s.bytes ≤ 65536 = small s.bytes lent in
    omega arith

pub performs_refused : (s : State) (most : ℕ) (a : Answer) → s.rec.mark ≡ 0 → said_of (verdict_at s) ≡ Err a
    → Performs s most (at s.bytes s.memory s.registers) (Err a)
performs_refused s most a m said = (step_refused s a m said, refl)

proceeds_step : (s : State) (most : ℕ) (there : Record → State) (c : Record) → 0 < most → step s ≡ next (there c) → Proceeds s most there (did c 1)
unfolding strides
proceeds_step s most there c some e = record { some = omega arith; few = omega arith; steps = e }

pub proceeds_passed : (s : State) (most : ℕ) → s.rec.mark ≡ 0 → verdict_at s ≡ 0 → by_items (word_at s) ≡ true → items_at s ≡ 0 → 0 < most
    → Proceeds s most (at s.bytes s.memory s.registers) (did (between (s.rec.p + length_of (word_at s)) s.rec.flags) 1)
proceeds_passed s most m passes is none some = proceeds_step s most (at s.bytes s.memory s.registers) _ some (step_passed s m passes is none)

pub proceeds_first : (m registers : List ℕ) (c : Record) (most : ℕ) → c.mark ≡ 0 → verdict_at (lent_at m registers c) ≡ 0
    → by_items (word_at (lent_at m registers c)) ≡ true → 0 < items_at (lent_at m registers c) → 0 < most
    → (m' : List ℕ) (d : Did) → Bursts m (fetched_at (lent_at m registers c)) c.flags 0 (min (items_at (lent_at m registers c) - 0) most) m' d
    → Proceeds (lent_at m registers c) most (lent_at m' registers) d
proceeds_first m registers c most mark passes is some budget m' d b =
    let s = lent_at m registers c in
    proceeds_burst m registers c (word_at s) 0 most (record { passes = passes; of_items = is }) (step_first s mark passes is some) some budget m' d b
