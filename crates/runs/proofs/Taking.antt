-- A call begins, and what is half done goes on at once.
use mathlib.Core.Path.{◌≡◌, refl, sym, ◌∙◌, ap}
use mathlib.Core.Bool.{Bool, true, false, ◌&&◌}
use mathlib.Core.List.{List}
use Prim.Native.Nat.{ℕ, ◌-◌, ◌<◌, min}
use native.Mathlib.Omega.{arith}
use lib.ListN.{length}
use Rattle.fields.specs.Bytes.{num}
use Rattle.instructions.specs.Operands.{gathered}
use Rattle.instructions.specs.Instruction.{by_items, may_work, count_of}
use Rattle.instructions.specs.Verdict.{verdict_of}
use lib.Dec.{eqb}
use Rattle.runs.specs.declared.answers.Answer.TheVariants.{Paused, Lengths, Impossible}
use Rattle.runs.specs.declared.records.Record.{Record}
use Rattle.runs.specs.declared.control.Control.{Control}
use Rattle.runs.specs.declared.strides.Did.{Did}
use Rattle.std.specs.Prelude.{Ok, Err}
use Rattle.runs.specs.Records.{between_two, half_done, possible}
use Rattle.runs.specs.Steps.{lent_at}
use Rattle.runs.specs.Calls.{lengths_right, Sound}
use Rattle.runs.specs.Controls.{control_state, seen_at, beginning}
use Rattle.runs.specs.Private.Inner.{held_in, Goes, Bursts, resume, Picked, holding, goes_on}
use Rattle.runs.proofs.Soundness.{possible_marked}
use Rattle.runs.proofs.Performing.{held_goes, proceeds_held}
use Rattle.runs.proofs.Turning.{advanced_counted, taken_begun}

and_assoc : (a b c : Bool) → (a && b) && c ≡ a && (b && c)
and_assoc true b c = refl
and_assoc false b c = refl

-- of a record with the mark, with what it holds
goes_is : (bytes : ℕ) (registers : List ℕ) (c : Record) → c.mark ≡ 1 → possible bytes registers c ≡ goes_on bytes (held_in registers c) c
unfolding possible goes_on between_two half_done holding may_work
goes_is bytes registers c marked =
    rw (marked, and_assoc (by_items c.word) (eqb (verdict_of c.p c.word (gathered c.word registers) bytes) 0))

-- the answers 2 and 3, and none
begins_2 : (bytes : ℕ) (registers : List ℕ) (c : Record) (budget : ℕ) → lengths_right bytes (length registers) ≡ false → beginning bytes registers c budget ≡ control_state c budget Lengths
unfolding beginning
begins_2 bytes registers c budget wrong = rw wrong

begins_3 : (bytes : ℕ) (registers : List ℕ) (c : Record) (budget : ℕ) → lengths_right bytes (length registers) ≡ true → possible bytes registers c ≡ false
    → beginning bytes registers c budget ≡ control_state c budget Impossible
unfolding beginning
begins_3 bytes registers c budget right not = rw (right, not)

begins : (bytes : ℕ) (registers : List ℕ) (c : Record) (budget : ℕ) → lengths_right bytes (length registers) ≡ true → possible bytes registers c ≡ true
    → beginning bytes registers c budget ≡ control_state c budget Paused
unfolding beginning
begins bytes registers c budget right can = rw (right, can)

pub picks_2 : (m registers : List ℕ) (c : Record) (budget : ℕ) → lengths_right (length m) (length registers) ≡ false
    → Picked budget (lent_at m registers c) (seen_at m registers) (Err Lengths)
picks_2 m registers c budget wrong =
    record { within = tt; taken = taken_begun budget (lent_at m registers c) (control_state c budget Lengths) (sym (begins_2 (length m) registers c budget wrong)) }

module _ (m registers : List ℕ) (c : Record) (budget : ℕ) (marked : c.mark ≡ 1) (right : lengths_right (length m) (length registers) ≡ true) where
  pub picks_3 : goes_on (length m) (held_in registers c) c ≡ false → Picked budget (lent_at m registers c) (seen_at m registers) (Err Impossible)
  picks_3 not =
      let e = begins_3 (length m) registers c budget right (goes_is (length m) registers c marked ∙ not) in
      record { within = tt; taken = taken_begun budget (lent_at m registers c) (control_state c budget Impossible) (sym e) }

  module _ (goes : goes_on (length m) (held_in registers c) c ≡ true) where
    can : possible (length m) registers c ≡ true
    can = goes_is (length m) registers c marked ∙ goes

    half : half_done (length m) registers c ≡ true
    half = possible_marked (length m) registers c can (λ e. omega arith)

    pub picks_0 : Picked budget (lent_at m registers c) (seen_at m registers) (Err Paused)
    picks_0 =
        let e = begins (length m) registers c budget right can in
        record { within = tt; taken = taken_begun budget (lent_at m registers c) (control_state c budget Paused) (sym e) }

    pub picks_goes : Goes (length m) (held_in registers c) c.items
    picks_goes = held_goes (length m) registers c right half

    pub picks_up : 0 < budget → (m' : List ℕ) (d : Did) → Bursts m (held_in registers c) c.flags c.items (min (count_of c.word (gathered c.word registers) - c.items) budget) m' d
        → Picked budget (lent_at m registers c) (seen_at m' registers) (Ok d)
    picks_up some m' d b =
        let p = proceeds_held m registers c budget half some m' d b in
        let ok : Sound (lent_at m registers c) = record { lengths = right; can = can } in
        let a = advanced_counted (seen_at m registers (control_state c budget Paused)) (length m') (num m') registers (Ok d) refl some ok p in
        record {
          within = p.few;
          taken =
              record {
                same = a.same ∙ ap (λ (x : Control). resume (seen_at m registers x)) (sym (begins (length m) registers c budget right can));
                sound = a.sound;
              };
        }
