-- Starts that are computed: the smallest memory, nothing lent, and a job of three instructions.
use mathlib.Core.Path.{◌≡◌, refl, sym, ap}
use mathlib.Core.Bool.{false≢true}
use mathlib.Core.List.{List, [], ◌∷◌}
use Prim.Native.Nat.{ℕ, ◌+◌, ◌<◌}
use native.Mathlib.Omega.{arith}
use lib.Dec.{eqb}
use lib.ListN.{replicate}
use Rattle.fields.specs.Extents.{aligned, inside, shares, in_place}
use Rattle.instructions.specs.Table.{found, meaning_of}
use Rattle.instructions.specs.Words.{not_zero}
use Rattle.instructions.specs.Operands.{supplied, gathered}
use Rattle.instructions.specs.Layout.{source_of, short_of, control_of, vector_of, of_kind, fields_of}
use Rattle.instructions.specs.Fetch.{long_in, there, two_halves_at, fetch_of, unfetched_at}
use Rattle.instructions.specs.Verdict.{misaligned, outside, overlapping, verdict_of}
use Rattle.instructions.specs.Items.{MemoryAndFlags, stored_at, made_at, item_at, flags_at}
use Rattle.instructions.specs.Plan.{shape_of, items_of}
use Rattle.instructions.specs.Planned.{plan_in}
use Rattle.instructions.specs.Scalars.{scalar_of}
use Rattle.instructions.specs.Instruction.{by_items, plan_of, count_of, whole_of, acts_of}
use Rattle.runs.specs.declared.answers.Answer.TheVariants.{Paused, Exit, Lengths}
use Rattle.runs.specs.declared.records.Record.{Record}
use Rattle.runs.specs.Records.{flags_right, place_right, between_two, half_done, possible, half, between}
use Rattle.runs.specs.Steps.{State, at, ended, next, word_at, verdict_at, items_at, begun, answered, fresh, held_operands, step}
use Rattle.runs.specs.Calls.{lengths_right, Sound, call, run}
use Rattle.runs.specs.Wholes.{first_items, Partial, cut_at}
use Rattle.runs.proofs.Iterating.{no_stride}
use Rattle.runs.proofs.Ending.{lengths_wrong, all_used, run_of}

abbrev pub blank : State
blank = at 8 0 (replicate 256 0) (between 0 0)

abbrev pub nothing_lent : State
nothing_lent = at 0 0 [] (between 0 0)

pub blank_sound : Sound blank
unfolding lengths_right possible place_right flags_right between_two
blank_sound = record { lengths = refl; can = refl }

pub blank_pauses : run 0 blank ≡ call blank Paused 0
blank_pauses = run_of 0 blank _ (all_used blank blank_sound (no_stride blank) refl)

pub nothing_refused : (n : ℕ) → run n nothing_lent ≡ call nothing_lent Lengths 0
unfolding lengths_right
nothing_refused n = run_of n nothing_lent _ (lengths_wrong refl refl)

-- ---- A JOB

-- At 4000 a vector add in place, of register 1 to the three words from 4000 on, its own word the first of them; at 40C0 register 1 to register 4; at 40E0 exit.
abbrev pub job : ℕ
job = 0x8308_0003_0001_0003_0000_0000_0000_0000_0000_0000_0000_0000_7801_0004_0900_0000

-- Register 1 is what is added; register 3 has the field of three words from 4000 on.
abbrev pub registers : List ℕ
registers = 0 ∷ 0x1_0000 ∷ 0 ∷ 0x0003_0000_0000_4000 ∷ replicate 252 0

abbrev pub adding : State
adding = at 32 job registers (between 0x4000 0)

abbrev pub transmitting : State
transmitting = at 32 job registers (between 0x40C0 0)

abbrev pub exiting : State
exiting = at 32 job registers (between 0x40E0 0)

-- One item is done: the add has stored over its own word, which names register 2 and no longer register 1.
abbrev pub added : State
added =
    at 32 0x8308_0003_0002_0003_0000_0000_0000_0000_0000_0000_0000_0000_7801_0004_0900_0000 registers
    (half 0x4000 0x8308_0003_0001_0003 1 0)

-- What is computed of them.
pub record Computed : Type 0 where
  -- neither 2 nor 3 applies
  pub adding_sound : Sound adding
  pub added_sound : Sound added
  pub transmitting_sound : Sound transmitting
  pub exiting_sound : Sound exiting
  -- the add passes every check and has more than one item; its first leaves `added`, and its others change memory further
  pub adding_partial : Partial adding 1
  pub adding_cut : cut_at 1 adding ≡ added
  pub adding_differs : first_items 1 adding ≡ first_items (items_at adding) adding → ⊥
  -- the next item is not the last; memory at P no longer holds the word, but another that passes every check too
  pub added_short : added.rec.items + 1 < count_of added.rec.word (held_operands added)
  pub added_over : added.rec.word ≡ word_at added → ⊥
  pub added_passes : verdict_at added ≡ 0
  -- the transmit takes a step, which changes the record
  pub transmits : step transmitting ≡ next (begun transmitting)
  pub transmitting_moves : transmitting.rec ≡ (begun transmitting).rec → ⊥
  -- the exit takes none
  pub exits : step exiting ≡ ended Exit

pub computed : Computed
unfolding lengths_right possible place_right flags_right between_two half_done step fresh begun answered fetch_of two_halves_at long_in there unfetched_at found
    not_zero supplied gathered verdict_of fields_of of_kind vector_of source_of short_of control_of aligned inside shares in_place misaligned outside overlapping
    by_items plan_of plan_in meaning_of items_of shape_of whole_of item_at stored_at made_at flags_at acts_of scalar_of
computed = record {
  adding_sound = record { lengths = refl; can = refl };
  added_sound = record { lengths = refl; can = refl };
  transmitting_sound = record { lengths = refl; can = refl };
  exiting_sound = record { lengths = refl; can = refl };
  adding_partial = record { unmarked = refl; passes = refl; of_items = refl; some = omega arith; short = omega arith };
  adding_cut = refl;
  adding_differs = λ e. false≢true (sym (ap (λ (w : MemoryAndFlags). eqb w.memory added.memory) e));
  added_short = omega arith;
  added_over = λ e. false≢true (sym (ap (λ (w : ℕ). eqb w added.rec.word) e));
  added_passes = refl;
  transmits = refl;
  transmitting_moves = λ e. false≢true (sym (ap (λ (c : Record). eqb c.p transmitting.rec.p) e));
  exits = refl;
}
