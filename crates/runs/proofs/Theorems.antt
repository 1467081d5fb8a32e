-- What this layer promises of a call, beside the functions' own contracts. `run n s` is the call of budget n at the state s (specs/Calls), which the
-- contract of the code's `run` cites; `strides j s` is j steps, all of them taken. Each section says which demand it serves:
-- DEMAND 1, total: a call takes every memory, register set, record and budget, ends, and answers paused, exit or one numbered refusal: sections 1 to 4.
-- DEMAND 2, right: every listed instruction that is not refused does what the machine's documents say: sections 5 to 8.
-- DEMAND 3, resumable: a budget cut into parts gives the same end as one call: sections 9 to 13.
-- Section 14 shows that wrong runs meet none of it. §N.M is a rule of docs/MACHINE.md.
use mathlib.Core.Path.{◌≡◌, refl, sym, ◌∙◌, ap}
use mathlib.Core.Bool.{Bool, true, false, false≢true}
use mathlib.Core.List.{List, [], ◌∷◌, map}
use mathlib.Core.Logic.{◌↔◌, ◌⊎◌}
use Prim.Native.Nat.{ℕ, zero, suc, ◌+◌, ◌*◌, ◌/◌, ◌%◌, ◌^◌, ◌<◌, ◌≤◌}
use native.Mathlib.Omega.{arith}
use lib.Bits.{bit_or}
use lib.ListN.{length, get_or}
use Rattle.fields.specs.Bytes.{Bytes}
use Rattle.fields.specs.Memory.{right_length}
use Rattle.fields.proofs.Lists.{num_inj}
use Rattle.instructions.specs.Meanings.{Meaning}
use Rattle.instructions.specs.Table.{Line, table}
use Rattle.instructions.specs.Operands.{code_in, meaning_in}
use Rattle.instructions.specs.Fetch.{length_of}
use Rattle.instructions.specs.Verdict.{case_of, checks}
use Rattle.instructions.specs.Items.{worked}
use Rattle.instructions.specs.Instruction.{by_items, count_of}
use Rattle.instructions.proofs.TableRules.{In}
use Rattle.instructions.proofs.Codes.{Before, Result, ends, becomes, Does, codes}
use Rattle.instructions.proofs.CodesHold.{comes_of, acts_as_listed, works_as_listed, line_means, exit_means}
use Rattle.instructions.proofs.VerdictOrder.{Earliest, Passes, verdict_is, verdict_none}
use Rattle.runs.specs.declared.answers.Answer.{Answer}
use Rattle.runs.specs.declared.answers.Answer.TheVariants.{Paused, Exit, Lengths}
use Rattle.runs.specs.declared.calls.Outcome.{Outcome}
use Rattle.runs.specs.declared.control.Control.{Control}
use Rattle.runs.specs.declared.records.Record.{Record}
use Rattle.runs.specs.Answers.{number_of, said_of, paused, OfChecks}
use Rattle.runs.specs.Records.{possible, half, between}
use Rattle.runs.specs.Steps.{State, at, lent_at, ended, next, word_at, operands_at, verdict_at, items_at, finished, acted, begun, held_operands, held_at, step, strides}
use Rattle.runs.specs.Calls.{lengths_right, Sound, Refused, Called, call, leaves, with00, afterwards, in_parts, total, OneOrMore, run}
use Rattle.runs.specs.Hosts.{LentCall, lent, handed}
use Rattle.runs.specs.Wholes.{first_items, all_items, wholes, steps_of, Partial, cut_at, Reached, wholly, partly}
use Rattle.runs.specs.Controls.{Sight, seen_at, step_controls, begin_at, finish_at}
use Rattle.std.proofs.Math.Nat.{pos_of_ne-zero}
use Rattle.runs.proofs.Numbered.{said_1, step_answers, later}
use Rattle.runs.proofs.Soundness.{lengths_of, strides_sound, possible_marked}
use Rattle.runs.proofs.Bursting.{holds_of, burst_half, burst_done}
use Rattle.runs.proofs.Performing.{step_refused, step_acted}
use Rattle.runs.proofs.Iterating.{no_stride, one_stride}
use Rattle.runs.proofs.Ending.{lengths_wrong, not_possible, all_used, stopped, run_of, ran, run_split}
use Rattle.runs.proofs.Answering.{stays, taken, says_0, says_any, says_2, says_3, nothing_changed, says_checked, checked_says}
use Rattle.runs.proofs.Lending.{packed_number, packed_steps, steps_most}
use Rattle.runs.proofs.Starts.{blank, nothing_lent, blank_pauses, nothing_refused, adding, added, transmitting, exiting, computed}
use Rattle.runs.proofs.Stepping.{stepping}
use Rattle.runs.proofs.Wholeness.{steps_reach, steps_cut, steps_whole, steps_held}
use Rattle.runs.proofs.Keeping.{flags_run, run_00, same_00_run}

-- ---- 1. STEPS (demand 1)

-- §10.7, §12.4: the reported steps are those finished in this call: so many lead from the state at its start to the one that it leaves, from every start.
-- With 0 they are the whole budget. (`anywhere`, below, counts them by items and instructions.)
pub record StepsTaken (n : ℕ) (s : State) : Type 0 where
  pub finished : strides (run n s).steps s ≡ next (run n s).state
  pub whole_budget : number_of (run n s).answer ≡ 0 → (run n s).steps ≡ n

pub steps_taken : (n : ℕ) (s : State) → StepsTaken n s
steps_taken n s = record { finished = taken n s (run n s) (ran n s); whole_budget = λ h. (says_0 n s (run n s) (ran n s) h).1.0 }

-- ---- 2. REFUSED CHANGES NOTHING (demand 1)

-- §12.16: with 2 and 3 nothing at all has changed, and no step was taken. With 1 and 4 to 11 the state is the one that the last finished step left: between
-- two instructions, with P at the word that was refused, whose verdict is the answer's number; and fewer steps were taken than the budget allows.
pub record ChangesNothing (n : ℕ) (s : State) : Type 0 where
  pub at_once : (number_of (run n s).answer ≡ 2) ⊎ (number_of (run n s).answer ≡ 3) → ((run n s).state ≡ s) × ((run n s).steps ≡ 0)
  pub at_its_word : OfChecks (number_of (run n s).answer) → Refused n s (number_of (run n s).answer) (run n s).steps (run n s).state

pub refused_changes_nothing : (n : ℕ) (s : State) → ChangesNothing n s
refused_changes_nothing n s = record {
  at_once = nothing_changed n s (run n s) (ran n s);
  at_its_word = λ h. says_checked n s (run n s) (ran n s) (later _ h);
}

-- ---- 3. EXACTLY WHEN (demand 1, and which instructions demand 2 speaks of)

-- §13.1, §12.2, §12.4, §12.6, §12.7: each number both ways. 0: neither 2 nor 3, and all the budget is used in steps. 2: the memory's length is wrong, or
-- there are not 256 registers. 3: the record is not possible, and 2 does not apply. 1 and 4 to 11: neither 2 nor 3, and fewer steps than the budget lead to
-- a state between two instructions where this is the verdict on the word at P.
pub record ExactlyWhen (n : ℕ) (s : State) : Type 0 where
  pub zero : (number_of (run n s).answer ≡ 0) ↔ (Sound s × ((t : State) × (strides n s ≡ next t)))
  pub two : (number_of (run n s).answer ≡ 2) ↔ (lengths_right s.bytes (length s.registers) ≡ false)
  pub three :
      (number_of (run n s).answer ≡ 3)
      ↔ ((lengths_right s.bytes (length s.registers) ≡ true) × (possible s.bytes s.registers s.rec ≡ false))
  pub checks : (v : ℕ) → OfChecks v → (number_of (run n s).answer ≡ v) ↔ ((j : ℕ) × ((t : State) × Refused n s v j t))

pub exactly_when : (n : ℕ) (s : State) → ExactlyWhen n s
exactly_when n s = record {
  zero = (
    λ h.
        let z = says_0 n s (run n s) (ran n s) h in
        (z.0, ((run n s).state, z.1.1)),
    λ h. ap number (run_of n s _ (all_used h.1.0 h.0 h.1.1 refl)),
  );
  two = (says_2 n s (run n s) (ran n s), λ p. ap number (run_of n s _ (lengths_wrong p refl)));
  three = (says_3 n s (run n s) (ran n s), λ p. ap number (run_of n s _ (not_possible p.0 p.1 refl)));
  checks =
      λ v which. (
        λ e. ((run n s).steps, ((run n s).state, rw e at (says_checked n s (run n s) (ran n s) (rw (sym e) at (later v which))))),
        λ h. checked_says n s v h.0 h.1.0 which h.1.1,
      );
}
  where
    number : Called → ℕ
    number c = number_of c.answer

-- §13.1: every call says one of these numbers.
pub says_one : (n : ℕ) (s : State)
    → (number_of (run n s).answer ≡ 0) ⊎ ((number_of (run n s).answer ≡ 2) ⊎ ((number_of (run n s).answer ≡ 3) ⊎ OfChecks (number_of (run n s).answer)))
says_one n s = says_any n s (run n s) (ran n s)

-- §12.2: this is the verdict exactly when the check of that number refuses the word at P and none before it does, in the order of `checks` (instructions,
-- specs/Verdict), where each stands with what it asks; no check refuses it exactly when the verdict is 0.
pub record First (t : State) : Type 0 where
  pub refuses : (v : ℕ) → OfChecks v → (verdict_at t ≡ v) ↔ Earliest v (case_of t.rec.p (word_at t) (operands_at t) t.bytes) checks
  pub none_refuses : (verdict_at t ≡ 0) ↔ Passes (case_of t.rec.p (word_at t) (operands_at t) t.bytes) checks

pub first_refuses : (t : State) → First t
first_refuses t = record {
  refuses = λ v which. verdict_is t.rec.p (word_at t) (operands_at t) t.bytes v (pos_of_ne-zero (later v which).not_0);
  none_refuses = verdict_none t.rec.p (word_at t) (operands_at t) t.bytes;
}

-- §12.17: the verdict goes by P, the word there, the registers and the memory's length, whatever else memory holds: the address of an item is checked
-- alike, whether its control bit lets it be stored or not.
pub whatever_memory_holds : (s t : State) → s.rec.p ≡ t.rec.p → word_at s ≡ word_at t → s.registers ≡ t.registers → s.bytes ≡ t.bytes → verdict_at s ≡ verdict_at t
whatever_memory_holds s t p w r b = cc

-- ---- 4. ONE OUTCOME (demand 1)

-- §13.1: what the contract of `run` says of the memory, registers and outcome that it leaves is met by one memory, one list of registers and one outcome.
-- (`Bytes`: each byte is below 256, as in every slice of them.)
pub one_outcome : (x : Called) (m m' r r' : List ℕ) (o o' : Outcome) → Bytes m → Bytes m' → leaves (lent_at m r) o ≡ x → leaves (lent_at m' r') o' ≡ x
    → (m ≡ m') × ((r ≡ r') × (o ≡ o'))
one_outcome x m m' r r' o o' b b' p q =
    let e : leaves (lent_at m r) o ≡ leaves (lent_at m' r') o' = p ∙ sym q in (
      num_inj m m' b b' (ap (λ (c : Called). c.state.bytes) e) (ap (λ (c : Called). c.state.memory) e),
      (ap (λ (c : Called). c.state.registers) e, ap (λ (c : Called). record { answer = c.answer; steps = c.steps; rec = c.state.rec }) e),
    )

-- §13.1: the same of `Control::step`.
pub one_step_lem : (x : Sight) (m m' r r' : List ℕ) (d d' : Control) → Bytes m → Bytes m' → seen_at m r d ≡ x → seen_at m' r' d' ≡ x
    → (m ≡ m') × ((r ≡ r') × (d ≡ d'))
one_step_lem x m m' r r' d d' b b' p q =
    let e : seen_at m r d ≡ seen_at m' r' d' = p ∙ sym q in (
      num_inj m m' b b' (ap (λ (v : Sight). v.bytes) e) (ap (λ (v : Sight). v.memory) e),
      (ap (λ (v : Sight). v.registers) e, ap (λ (v : Sight). v.control) e),
    )

-- §13.1: the same of the outer call, `rawgunshet_run`: one memory, one list of registers, one record and one result. Every other public function's contract
-- is an equation with its result.
pub one_lent : (x : LentCall) (m m' r r' : List ℕ) (c c' : Record) (v v' : ℕ) → Bytes m → Bytes m'
    → lent (lent_at m r c) v ≡ x → lent (lent_at m' r' c') v' ≡ x
    → (m ≡ m') × ((r ≡ r') × ((c ≡ c') × (v ≡ v')))
one_lent x m m' r r' c c' v v' b b' p q =
    let e : lent (lent_at m r c) v ≡ lent (lent_at m' r' c') v' = p ∙ sym q in (
      num_inj m m' b b' (ap (λ (l : LentCall). l.state.bytes) e) (ap (λ (l : LentCall). l.state.memory) e),
      (ap (λ (l : LentCall). l.state.registers) e, (ap (λ (l : LentCall). l.state.rec) e, ap (λ (l : LentCall). l.result) e)),
    )

-- §12.1: the outer call's result keeps both numbers: the answer's is in its left 32 bits, the steps are in its right 32, for every budget of 32 bits.
pub lent_says : (n : ℕ) (s : State) → n < 2 ^ 32
    → ((handed (run n s)).result / 2 ^ 32 ≡ number_of (run n s).answer) × ((handed (run n s)).result % 2 ^ 32 ≡ (run n s).steps)
lent_says n s fits =
    let few : (run n s).steps < 2 ^ 32 = omega (arith, fits, steps_most n s (run n s) (ran n s)) in
    (packed_number (run n s).answer (run n s).steps few, packed_steps (run n s).answer (run n s).steps few)

-- ---- 5. ONE INSTRUCTION (demand 2)

-- §13.2, §10.3: at a word that no check refuses and that does not go by items, one step does the instruction: a call of budget 1 leaves what `acted` says
-- of the word, and is paused.
pub does_one : (s : State) → Sound s → s.rec.mark ≡ 0 → verdict_at s ≡ 0 → by_items (word_at s) ≡ false → run 1 s ≡ call (acted s) Paused 1
does_one s ok m passes other = run_of 1 s _ (all_used (acted s) ok (one_stride s (acted s) (step_acted s m passes other)) refl)

-- §13.2, §10.2: at a vector, bit or move instruction that no check refuses, as many steps as it has items (one, where it has none) do the instruction as a
-- whole, from its sources as they stood when it began: a call of that budget leaves what `all_items` says, with P past the word, and is paused.
pub does_all : (s : State) → Sound s → s.rec.mark ≡ 0 → verdict_at s ≡ 0 → by_items (word_at s) ≡ true → run (steps_of s) s ≡ call (all_items s) Paused (steps_of s)
does_all s ok m passes is = run_of (steps_of s) s _ (all_used (all_items s) ok (steps_whole s ok m passes is) refl)

-- ---- 6. CODE BY CODE (demand 2)

-- What the instruction at P begins with.
abbrev before : State → Before
before s = record { p = s.rec.p; word = word_at s; bytes = s.bytes; memory = s.memory; registers = s.registers; flags = s.rec.flags }

-- What a call of as many steps as the instruction takes leaves: it is done, and the call is paused; or the call ends there, and nothing has changed.
abbrev leaves_as : Result → State → Called
leaves_as ends s = call s Exit 0
leaves_as (becomes d) s = call (finished s.bytes d) Paused (steps_of s)

-- §13.2: `codes` (instructions, proofs/Codes) is one list that says of each code, in terms of R, S, T or A, B, C, what register, memory item, flags and P
-- become. Where none of 4 to 11 refuses the word at P, a call leaves what the line of its code says.
pub does_by_code : (l : Does) → In l codes → (s : State) → Sound s → s.rec.mark ≡ 0 → code_in (word_at s) ≡ l.code → verdict_at s ≤ 1
    → run (steps_of s) s ≡ leaves_as (l.leaves (before s)) s
does_by_code l i s ok m c low = by_verdict (verdict_at s) refl low ∙ ap (λ (r : Result). leaves_as r s) (sym (line_means l i (word_at s) c (before s)))
  where
    lent : right_length s.bytes ≡ true
    lent = (lengths_of _ _ ok.lengths).0

    by_items_lem : verdict_at s ≡ 0 → (b : Bool) → by_items (word_at s) ≡ b → run (steps_of s) s ≡ leaves_as (comes_of (meaning_in (word_at s)) (before s)) s
    by_items_lem e true q = does_all s ok m e q ∙ ap (λ (r : Result). leaves_as r s) (works_as_listed (before s) lent e q)
    by_items_lem e false q =
        let one : steps_of s ≡ 1 = rw q in
        ap (λ (j : ℕ). run j s) one ∙ does_one s ok m e q ∙ ap (λ (j : ℕ). call (acted s) Paused j) (sym one)
        ∙ ap (λ (r : Result). leaves_as r s) (acts_as_listed (before s) lent e q)

    by_verdict : (n : ℕ) → verdict_at s ≡ n → n ≤ 1 → run (steps_of s) s ≡ leaves_as (comes_of (meaning_in (word_at s)) (before s)) s
    by_verdict zero e h = by_items_lem e (by_items (word_at s)) refl
    by_verdict (suc zero) e h =
        let x = exit_means s.rec.p (word_at s) (operands_at s) s.bytes e in
        let one : steps_of s ≡ 1 = rw x.1 in
        run_of (steps_of s) s _ (stopped 0 s Exit ok (omega (arith, one)) (no_stride s) (step_refused s Exit m (ap said_of e ∙ said_1)) refl)
        ∙ ap (λ (k : Meaning). leaves_as (comes_of k (before s)) s) (sym x.0)
    by_verdict (suc (suc n)) e h = absurd (omega arith)

-- §3.8: every code of the table has its line there, and no other code has one.
pub all_codes : map (λ (l : Does). l.code) codes ≡ map (λ (l : Line). l.code) table
all_codes = refl

-- §3.15: the round trip of words and parts is the theorem of the layer that has them: `taken_apart_and_joined` and `joined_and_taken_apart` (instructions,
-- proofs/Theorems).

-- ---- 7. WHOLE INSTRUCTIONS (demand 2)

-- §13.2: from a start between two instructions, wherever nothing is half done, the state is the one that some number of whole instructions lead to.
pub whole_instructions : (n : ℕ) (s : State) → Sound s → s.rec.mark ≡ 0 → (run n s).state.rec.mark ≡ 0 → (i : ℕ) × (wholes i s ≡ next (run n s).state)
whole_instructions n s ok m h = go (run n s).state (steps_reach (run n s).steps s (run n s).state ok m (steps_taken n s).finished) h
  where
    go : (t : State) → Reached s (run n s).steps t → t.rec.mark ≡ 0 → (i : ℕ) × (wholes i s ≡ next t)
    go t (wholly i e _ _) h = (i, e)
    go t (partly i k u e _ p is) h = absurd (omega (arith, rw is at h))

-- ---- 8. FLAGS AND REGISTER 00 (demand 2)

-- §4.4: from every start, a call leaves every flag that it found.
pub flags_kept : (n : ℕ) (s : State) → bit_or s.rec.flags (run n s).state.rec.flags ≡ (run n s).state.rec.flags
flags_kept = flags_run

-- §3.7: register 00 is never read: from every start, with another word in it, a call differs in nothing but that word.
pub never_read : (n v : ℕ) (s : State) → run n (with00 v s) ≡ call (with00 v (run n s).state) (run n s).answer (run n s).steps
never_read n v s = run_00 v n s

-- §3.7: and it is never written.
pub never_written : (n : ℕ) (s : State) → get_or (run n s).state.registers 0 0 ≡ get_or s.registers 0 0
never_written = same_00_run

-- ---- 9. CUTTING (demand 3)

-- §13.3: a budget may be cut into any parts of one or more: calls one after another, each on the state that the one before left, leave the same registers,
-- memory, record and flags as one call, with the same last answer and as many steps in all. From every start, an impossible one too; a first part of 0 does
-- no harm.
pub cutting : (n : ℕ) (ks : List ℕ) (s : State) → OneOrMore ks → in_parts n ks s ≡ run (n + total ks) s
cutting n [] s parts =
    let e : n + 0 ≡ n = omega arith in
    rw e
cutting n (k ∷ ks) s parts =
    let some : 0 < k + total ks = omega (arith, parts.0) in
    ap (afterwards (run n s)) (cutting k ks (run n s).state parts.1) ∙ sym (run_split n (k + total ks) s some)

-- ---- 10. ENDED (demand 3)

-- §12.16: after an exit or a refusal a larger budget gives the same: answer, steps and state.
pub ended_stays : (n k : ℕ) (s : State) → paused (run n s).answer ≡ false → run (n + k) s ≡ run n s
ended_stays n k s = stays n k s (run n s) (ran n s)

-- ---- 11. HALF DONE (demand 3)

-- §10.5: k steps at a vector, bit or move instruction that passes and has more than k items: the call is paused; memory and flags show exactly the first k
-- items, and the record holds P, the word as it was fetched, and k (`cut_at` says so).
pub half_done_lem : (s : State) (k : ℕ) → Sound s → Partial s k → run k s ≡ call (cut_at k s) Paused k
half_done_lem s k ok h = run_of k s _ (all_used (cut_at k s) ok (steps_cut s k ok h) refl)

-- §10.7, §13.2: wherever a call stops that began between two instructions, the state is the one that whole instructions lead to, or they and the first k
-- items of the next one, and the reported steps are the instructions' steps and those items. The record then holds that word as it was fetched, whatever
-- memory holds at P.
pub anywhere : (n : ℕ) (s : State) → Sound s → s.rec.mark ≡ 0 → Reached s (run n s).steps (run n s).state
anywhere n s ok m = steps_reach (run n s).steps s (run n s).state ok m (steps_taken n s).finished

-- §10.4, §10.5, §10.6: a call that goes on with what is half done, for j of the items that are left, works those of the word that the record holds,
-- whatever memory holds at P, and is paused. Short of the last item the record holds the same P and word, and j items more; after the last one nothing is
-- half done, and P is past the word.
pub record GoesOn (s : State) (j : ℕ) : Type 0 where
  pub works : run j s ≡ call (held_at j s) Paused j
  pub short :
      s.rec.items + j < count_of s.rec.word (held_operands s)
      → (held_at j s).rec ≡ half s.rec.p s.rec.word (s.rec.items + j) (held_at j s).rec.flags
  pub past_the_last :
      s.rec.items + j ≡ count_of s.rec.word (held_operands s)
      → (held_at j s).rec ≡ between (s.rec.p + length_of s.rec.word) (held_at j s).rec.flags

pub goes_on : (s : State) (j : ℕ) → Sound s → (s.rec.mark ≡ 0 → ⊥) → 0 < j → s.rec.items + j ≤ count_of s.rec.word (held_operands s) → GoesOn s j
goes_on s j ok marked some few = record {
  works = run_of j s _ (all_used (held_at j s) ok (steps_held s j ok marked some few) refl);
  short =
      λ h.
      let e = burst_half s.rec.word (held_operands s) s.rec.items j s h in
      ap (λ (t : State). t.rec) e ∙ ap (λ (f : ℕ). half s.rec.p s.rec.word (s.rec.items + j) f) (sym (ap (λ (t : State). t.rec.flags) e));
  past_the_last =
      λ h.
      let e = burst_done s.rec.word (held_operands s) s.rec.items j s (omega (arith, h)) in
      ap (λ (t : State). t.rec) e ∙ ap (λ (f : ℕ). between (s.rec.p + length_of s.rec.word) f) (sym (ap (λ (t : State). t.rec.flags) e));
}

-- ---- 12. POSSIBLE AGAIN (demand 3)

-- §11.6: a record that a call hands back is possible with the registers and the memory that it hands back, wherever neither 2 nor 3 was said.
pub possible_again : (n : ℕ) (s : State) → Sound s → Sound (run n s).state
possible_again n s ok = strides_sound (run n s).steps s (run n s).state ok (steps_taken n s).finished

-- ---- 13. STEP BY STEP (demand 3)

-- §12.1: begin, step as often as the budget says, and finish: the same as the one call.
pub step_by_step : (n : ℕ) (s : State) → finish_at n (step_controls n (begin_at n s)) ≡ run n s
step_by_step = stepping

-- ---- 14. NOT THESE (§13.4)

-- A run that refuses everything, but where the budget is 0, differs wherever a budget is used up in steps. At a transmit with budget 1 it differs.
pub not_refusing : (wrong : ℕ → State → Called) → ((n : ℕ) (s : State) → 0 < n → paused (wrong n s).answer ≡ false)
    → (n : ℕ) (s t : State) → 0 < n → Sound s → strides n s ≡ next t → wrong n s ≡ run n s → ⊥
not_refusing wrong refuses n s t some ok e same =
    false≢true (sym (refuses n s some) ∙ ap (λ (c : Called). paused c.answer) (same ∙ run_of n s _ (all_used t ok e refl)))

pub not_refusing_here : (wrong : ℕ → State → Called) → ((n : ℕ) (s : State) → 0 < n → paused (wrong n s).answer ≡ false)
    → wrong 1 transmitting ≡ run 1 transmitting → ⊥
not_refusing_here wrong refuses =
    not_refusing wrong refuses 1 transmitting (begun transmitting) (omega arith) computed.transmitting_sound
    (one_stride transmitting (begun transmitting) computed.transmits)

-- A run that gives the same answer every time differs at one of two starts.
pub not_one_answer : (wrong : ℕ → State → Called) (a : Answer) → ((n : ℕ) (s : State) → (wrong n s).answer ≡ a)
    → wrong 0 blank ≡ run 0 blank → wrong 0 nothing_lent ≡ run 0 nothing_lent → ⊥
not_one_answer wrong a same p q =
    let e : a ≡ Paused = sym (same 0 blank) ∙ ap (λ (c : Called). c.answer) (p ∙ blank_pauses) in
    let f : a ≡ Lengths = sym (same 0 nothing_lent) ∙ ap (λ (c : Called). c.answer) (q ∙ nothing_refused 0) in
    let z : ◌≡◌ {A = ℕ} 0 1 = cc in
    omega arith

-- A run that touches nothing and says paused differs wherever a step changes the state, and wherever the word at P ends the run.
pub not_idle : (s t : State) → Sound s → step s ≡ next t → (s ≡ t → ⊥) → call s Paused 1 ≡ run 1 s → ⊥
not_idle s t ok e differs same = differs (ap (λ (c : Called). c.state) (same ∙ run_of 1 s _ (all_used t ok (one_stride s t e) refl)))

pub not_idle_ended : (n : ℕ) (s : State) (a : Answer) → Sound s → step s ≡ ended a → call s Paused (suc n) ≡ run (suc n) s → ⊥
not_idle_ended n s a ok e same =
    let f : run (suc n) s ≡ call s a 0 = run_of (suc n) s _ (stopped 0 s a ok (omega arith) (no_stride s) e refl) in
    false≢true (sym (step_answers s a e) ∙ sym (ap (λ (c : Called). paused c.answer) (same ∙ f)))

-- At a transmit with budget 1 it differs, and at an exit with any budget but 0.
pub not_idle_here : call transmitting Paused 1 ≡ run 1 transmitting → ⊥
not_idle_here =
    not_idle transmitting (begun transmitting) computed.transmitting_sound computed.transmits
    (λ e. computed.transmitting_moves (ap (λ (s : State). s.rec) e))

pub not_idle_exit : (n : ℕ) → call exiting Paused (suc n) ≡ run (suc n) exiting → ⊥
not_idle_exit n = not_idle_ended n exiting Exit computed.exiting_sound computed.exits

-- A run that does a whole vector in its first step, and only counts afterwards, differs wherever one item is not all of them.
pub not_whole_first : (wrong : ℕ → State → Called) (s : State) → Sound s → Partial s 1
    → worked (wrong 1 s).state.memory (wrong 1 s).state.rec.flags ≡ first_items (items_at s) s → (first_items 1 s ≡ first_items (items_at s) s → ⊥)
    → wrong 1 s ≡ run 1 s → ⊥
not_whole_first wrong s ok h all differs same =
    differs (sym (ap (λ (c : Called). worked c.state.memory c.state.rec.flags) (same ∙ half_done_lem s 1 ok h)) ∙ all)

-- At a vector add of three words with budget 1 it differs.
pub not_whole_first_here : (wrong : ℕ → State → Called)
    → worked (wrong 1 adding).state.memory (wrong 1 adding).state.rec.flags ≡ first_items (items_at adding) adding → wrong 1 adding ≡ run 1 adding → ⊥
not_whole_first_here wrong all = not_whole_first wrong adding computed.adding_sound computed.adding_partial all computed.adding_differs

-- A run that says that the whole budget was used differs where nothing is lent, and wherever the word at P ends the run.
pub not_inventing : (wrong : ℕ → State → Called) → ((n : ℕ) (s : State) → (wrong n s).steps ≡ n) → wrong 1 nothing_lent ≡ run 1 nothing_lent → ⊥
not_inventing wrong says same =
    let e : ◌≡◌ {A = ℕ} 1 0 = sym (says 1 nothing_lent) ∙ ap (λ (c : Called). c.steps) (same ∙ nothing_refused 1) in
    omega arith

pub not_inventing_ended : (wrong : ℕ → State → Called) → ((n : ℕ) (s : State) → (wrong n s).steps ≡ n)
    → (n : ℕ) (s : State) (a : Answer) → Sound s → step s ≡ ended a → wrong (suc n) s ≡ run (suc n) s → ⊥
not_inventing_ended wrong says n s a ok e same =
    let f : suc n ≡ 0 = sym (says (suc n) s) ∙ ap (λ (c : Called). c.steps) (same ∙ run_of (suc n) s _ (stopped 0 s a ok (omega arith) (no_stride s) e refl)) in
    omega arith

-- At an exit with any budget but 0 it differs.
pub not_inventing_exit : (wrong : ℕ → State → Called) → ((n : ℕ) (s : State) → (wrong n s).steps ≡ n) → (n : ℕ) → wrong (suc n) exiting ≡ run (suc n) exiting → ⊥
not_inventing_exit wrong says n = not_inventing_ended wrong says n exiting Exit computed.exiting_sound computed.exits

-- An outer call that does not store the next record differs wherever a step changes the record. At a transmit with budget 1 it differs.
pub not_forgetting : (s t : State) (m : ℕ) (r : List ℕ) (v : ℕ) → Sound s → step s ≡ next t → (s.rec ≡ t.rec → ⊥)
    → lent (at s.bytes m r s.rec) v ≡ handed (run 1 s) → ⊥
not_forgetting s t m r v ok e differs same =
    differs (ap (λ (l : LentCall). l.state.rec) (same ∙ ap handed (run_of 1 s _ (all_used t ok (one_stride s t e) refl))))

pub not_forgetting_here : (m : ℕ) (r : List ℕ) (v : ℕ) → lent (at transmitting.bytes m r transmitting.rec) v ≡ handed (run 1 transmitting) → ⊥
not_forgetting_here m r v =
    not_forgetting transmitting (begun transmitting) m r v computed.transmitting_sound computed.transmits computed.transmitting_moves

-- An outer call whose result is the answer's number alone, without the steps, differs wherever a step is taken. At a transmit with budget 1 it differs.
pub not_number_alone : (s t u : State) → Sound s → step s ≡ next t → lent u (number_of (run 1 s).answer * 2 ^ 32) ≡ handed (run 1 s) → ⊥
not_number_alone s t u ok e same =
    let f : run 1 s ≡ call t Paused 1 = run_of 1 s _ (all_used t ok (one_stride s t e) refl) in
    let g : number_of (run 1 s).answer * 2 ^ 32 % 2 ^ 32 ≡ 1 =
    ap (λ (l : LentCall). l.result % 2 ^ 32) same ∙ (lent_says 1 s (omega arith)).1 ∙ ap (λ (c : Called). c.steps) f in
    let h : ◌≡◌ {A = ℕ} 0 1 = sym (ap (λ (c : Called). number_of c.answer * 2 ^ 32 % 2 ^ 32) f) ∙ g in
    omega arith

pub not_number_alone_here : (u : State) → lent u (number_of (run 1 transmitting).answer * 2 ^ 32) ≡ handed (run 1 transmitting) → ⊥
not_number_alone_here u = not_number_alone transmitting (begun transmitting) u computed.transmitting_sound computed.transmits

-- A run that fetches again after a pause differs wherever memory at P no longer holds the word.
pub not_fetching_again : (wrong : ℕ → State → Called) (s : State) → Sound s → (s.rec.mark ≡ 0 → ⊥) → s.rec.items + 1 < count_of s.rec.word (held_operands s)
    → (wrong 1 s).state.rec.word ≡ word_at s → (s.rec.word ≡ word_at s → ⊥) → wrong 1 s ≡ run 1 s → ⊥
not_fetching_again wrong s ok marked short fetches differs same =
    let g = goes_on s 1 ok marked (omega arith) (omega arith) in
    differs (sym (ap (λ (c : Called). c.state.rec.word) (same ∙ g.works) ∙ ap (λ (c : Record). c.word) (g.short short)) ∙ fetches)

-- One step of the add leads to a state where memory at P no longer holds the word, and where a run that fetches again differs.
pub paused_over : run 1 adding ≡ call added Paused 1
paused_over = half_done_lem adding 1 computed.adding_sound computed.adding_partial ∙ ap (λ (s : State). call s Paused 1) computed.adding_cut

pub not_fetching_again_here : (wrong : ℕ → State → Called) → (wrong 1 added).state.rec.word ≡ word_at added → wrong 1 added ≡ run 1 added → ⊥
not_fetching_again_here wrong fetches =
    not_fetching_again wrong added computed.added_sound (λ m. omega arith) computed.added_short fetches computed.added_over

-- A run that starts a half-done vector afresh differs wherever it is not done with the next item: its record would hold one item done, and not two or more.
pub not_afresh : (wrong : ℕ → State → Called) (s : State) → Sound s → (s.rec.mark ≡ 0 → ⊥) → s.rec.items + 1 < count_of s.rec.word (held_operands s)
    → (wrong 1 s).state.rec.items ≡ 1 → wrong 1 s ≡ run 1 s → ⊥
not_afresh wrong s ok marked short one same =
    let g = goes_on s 1 ok marked (omega arith) (omega arith) in
    let e : s.rec.items + 1 ≡ 1 = sym (ap (λ (c : Called). c.state.rec.items) (same ∙ g.works) ∙ ap (λ (c : Record). c.items) (g.short short)) ∙ one in
    let some = (holds_of _ _ _ (possible_marked s.bytes s.registers s.rec ok.can marked)).some in
    omega arith

-- At the same state it differs.
pub not_afresh_here : (wrong : ℕ → State → Called) → (wrong 1 added).state.rec.items ≡ 1 → wrong 1 added ≡ run 1 added → ⊥
not_afresh_here wrong one = not_afresh wrong added computed.added_sound (λ m. omega arith) computed.added_short one
