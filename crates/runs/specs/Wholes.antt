-- Whole instructions, each working from its sources as they stood when it began: definitions that know no steps of an instruction. Sections 10 and 13
-- of docs/MACHINE.md.
use Rattle.std.specs.Prelude.{◌≡◌, true, cond, ℕ, zero, suc, ◌+◌, ◌<◌, max}
use Rattle.instructions.specs.Fetch.{length_of}
use Rattle.instructions.specs.Items.{MemoryAndFlags, worked}
use Rattle.instructions.specs.Instruction.{by_items, whole_of}
use Rattle.runs.specs.Records.{half, between}
use Rattle.runs.specs.Steps.{State, at, Stepped, ended, next, word_at, operands_at, verdict_at, items_at, acted, answered, bind}

-- §10.5: memory and flags with the first k items of the word at P, all at once.
abbrev pub first_items : ℕ → State → MemoryAndFlags
first_items k s = whole_of (word_at s) (operands_at s) s.bytes k (worked s.memory s.rec.flags)

-- §13.2: a vector, bit or move instruction with all its items.
abbrev pub all_items : State → State
all_items s = at s.bytes (first_items (items_at s) s).memory s.registers (between (s.rec.p + length_of (word_at s)) (first_items (items_at s) s).flags)

-- §13.2: the instruction at P, whole, or why it is refused.
unfoldable pub whole_step : State → Stepped
whole_step s = answered (verdict_at s) (cond (by_items (word_at s)) (all_items s) (acted s))

-- §13.2: i instructions, all of them done.
unfoldable pub wholes : ℕ → State → Stepped
wholes zero s = next s
wholes (suc i) s = bind (wholes i s) whole_step

-- §10.5: the word at P goes by items, no check refuses it, and it has more than k items, k one or more.
pub record Partial (s : State) (k : ℕ) : Type 0 where
  pub unmarked : s.rec.mark ≡ 0
  pub passes : verdict_at s ≡ 0
  pub of_items : by_items (word_at s) ≡ true
  pub some : 0 < k
  pub short : k < items_at s

-- §10.5: the state after k of its items: half done, with P, the word and k in the record.
abbrev pub cut_at : ℕ → State → State
cut_at k s = at s.bytes (first_items k s).memory s.registers (half s.rec.p (word_at s) k (first_items k s).flags)

-- §10.2, §10.3: the steps of the instruction at P: one for each item, and one where there are none.
abbrev pub steps_of : State → ℕ
steps_of s = cond (by_items (word_at s)) (max 1 (items_at s)) 1

-- §10.7: the steps of the next instruction, and of i instructions.
abbrev pub steps_next : Stepped → ℕ
steps_next (ended a) = 0
steps_next (next s) = steps_of s

unfoldable pub whole_steps : ℕ → State → ℕ
whole_steps zero s = 0
whole_steps (suc i) s = whole_steps i s + steps_next (wholes i s)

-- §10.7, §13.2: t is where whole instructions lead from s, or they and the first items of the next one, and j is the instructions' steps and those
-- items.
pub data Reached (s : State) (j : ℕ) (t : State) : Type 0 where
  wholly : (i : ℕ) → wholes i s ≡ next t → j ≡ whole_steps i s → t.rec.mark ≡ 0 → Reached s j t
  partly : (i k : ℕ) (u : State) → wholes i s ≡ next u → j ≡ whole_steps i s + k → Partial u k → t ≡ cut_at k u → Reached s j t
