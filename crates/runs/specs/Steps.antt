-- One step of a job: the state before it, and the next. Sections 10 and 11 of docs/MACHINE.md.
use Rattle.std.specs.Prelude.{cond, List, ℕ, zero, suc, ◌+◌, eqb, ltb, length}
use Rattle.fields.specs.Bytes.{num}
use Rattle.instructions.specs.declared.operands.Operands.{Operands}
use Rattle.instructions.specs.Table.{look_up}
use Rattle.instructions.specs.Fetch.{fetch_of, length_of}
use Rattle.instructions.specs.Operands.{gathered}
use Rattle.instructions.specs.Verdict.{verdict_of}
use Rattle.instructions.specs.Items.{MemoryAndFlags, worked}
use Rattle.instructions.specs.Instruction.{by_items, count_of, works_of, Done, acts_of}
use Rattle.runs.specs.declared.answers.Answer.{Answer}
use Rattle.runs.specs.declared.answers.Answer.TheVariants.{Impossible}
use Rattle.runs.specs.declared.records.Record.{Record}
use Rattle.runs.specs.Answers.{number_of, refusals}
use Rattle.runs.specs.Records.{half_done, half, between}

-- §11.1: memory of so many bytes as one number, registers and record; and these put together.
pub record State : Type 0 where
  pub bytes : ℕ
  pub memory : ℕ
  pub registers : List ℕ
  pub rec : Record

abbrev pub at : ℕ → ℕ → List ℕ → Record → State
at bytes m r c = record { bytes = bytes; memory = m; registers = r; rec = c }

-- The state that bytes and registers make as they are lent, with a record.
abbrev pub lent_at : List ℕ → List ℕ → Record → State
lent_at m r c = at (length m) (num m) r c

-- §10.1: a step is taken, or an answer is given and nothing changes.
pub data Stepped : Type 0 where
  ended : Answer → Stepped
  next : State → Stepped

-- ---- the word at P

-- §12.3: the word as it is fetched.
abbrev pub word_at : State → ℕ
word_at s = fetch_of s.bytes s.memory s.rec.p

-- §3.6: what the registers supply that it names.
abbrev pub operands_at : State → Operands
operands_at s = gathered (word_at s) s.registers

-- §12.17: the verdict on it: 0, or the answer's number, 1 or 4 to 11.
abbrev pub verdict_at : State → ℕ
verdict_at s = verdict_of s.rec.p (word_at s) (operands_at s) s.bytes

-- §10.2: how many items it has.
abbrev pub items_at : State → ℕ
items_at s = count_of (word_at s) (operands_at s)

-- ---- one step

-- §7.7: memory and flags with items i, .., i + j - 1 of a word worked, one after another.
abbrev pub works_at : ℕ → Operands → ℕ → ℕ → State → MemoryAndFlags
works_at word o i j s = works_of word o s.bytes i j (worked s.memory s.rec.flags)

-- §10.5, §10.6: the record after k of the n items of a word: half done while some are left, else P past the word.
unfoldable pub after : ℕ → ℕ → ℕ → ℕ → ℕ → Record
after n word k p flags = cond (ltb k n) (half p word k flags) (between (p + length_of word) flags)

-- §10.2: the state after items i, .., i + j - 1 of a word that goes by items.
unfoldable pub burst : ℕ → Operands → ℕ → ℕ → State → State
burst word o i j s =
    at s.bytes (works_at word o i j s).memory s.registers (after (count_of word o) word (i + j) s.rec.p (works_at word o i j s).flags)

-- §10.3: the state after a word that goes by items and has none: only P moves on.
abbrev pub passed : State → State
passed s = at s.bytes s.memory s.registers (between (s.rec.p + length_of (word_at s)) s.rec.flags)

-- §10.3: the state after any other, which takes one step: from what that leaves, and for the word at P.
abbrev pub finished : ℕ → Done → State
finished bytes d = at bytes d.memory d.registers (between d.p d.flags)

abbrev pub acted : State → State
acted s = finished s.bytes (acts_of s.rec.p (word_at s) (operands_at s) s.bytes s.memory s.registers s.rec.flags)

-- §10.2, §10.3: the first step of a word that no check refuses.
unfoldable pub begun : State → State
begun s = cond (by_items (word_at s)) (cond (eqb (items_at s) 0) (passed s) (burst (word_at s) (operands_at s) 0 1 s)) (acted s)

-- The answer among `refusals` that has the number v ends the run. A number of none of them ends nothing, and the step leads to t.
unfoldable pub answered : ℕ → State → Stepped
answered v t = look_up number_of (λ a. ended a) (next t) v refusals

-- §12.2: a step between two instructions: the checks of the word at P, and then its first step.
unfoldable pub fresh : State → Stepped
fresh s = answered (verdict_at s) (begun s)

-- §10.4: what the registers supply now that the held word names.
abbrev pub held_operands : State → Operands
held_operands s = gathered s.rec.word s.registers

-- §10.4: the next j items of the held word; what memory holds at P does not matter.
abbrev pub held_at : ℕ → State → State
held_at j s = burst s.rec.word (held_operands s) s.rec.items j s

-- §10.4: a step of what is half done. A record that is marked and not half done is impossible.
unfoldable pub held : State → Stepped
held s = cond (half_done s.bytes s.registers s.rec) (next (held_at 1 s)) (ended Impossible)

-- §10.1: one step, from any state.
unfoldable pub step : State → Stepped
step s = cond (eqb s.rec.mark 0) (fresh s) (held s)

-- ---- steps

-- What comes after a step: nothing behind an answer.
abbrev pub bind : Stepped → (State → Stepped) → Stepped
bind (ended a) f = ended a
bind (next s) f = f s

-- §10.1: j steps, all of them taken.
unfoldable pub strides : ℕ → State → Stepped
strides zero s = next s
strides (suc j) s = bind (strides j s) step
