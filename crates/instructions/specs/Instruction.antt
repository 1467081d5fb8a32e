-- An instruction as the layer above sees it, whatever it is: whether it goes by items, how many, what those do one by one and all at once, and what
-- any other does in its one step. Sections 5 to 10 of docs/MACHINE.md. Memory is one number of so many bytes.
use Rattle.std.specs.Prelude.{◌≡◌, Bool, true, not, ◌&&◌, List, ℕ, ◌+◌, ◌*◌, ◌≤◌, eqb, length}
use Rattle.std.specs.Int.Bits.{bit_or}
use Rattle.fields.specs.Bytes.{num}
use Rattle.fields.specs.Memory.{right_length}
use Rattle.instructions.specs.declared.operands.Operands.{Operands}
use Rattle.instructions.specs.declared.effects.Outcome.{Outcome}
use Rattle.instructions.specs.Meanings.{goes_by_items}
use Rattle.instructions.specs.Operands.{meaning_in}
use Rattle.instructions.specs.Fetch.{length_of}
use Rattle.instructions.specs.Verdict.{verdict_of}
use Rattle.instructions.specs.Items.{MemoryAndFlags, worked, turns, whole}
use Rattle.instructions.specs.Plan.{Plan, shape_of, items_of}
use Rattle.instructions.specs.Planned.{plan_in}
use Rattle.instructions.specs.Effects.{registers_after, memory_after, next_p}
use Rattle.instructions.specs.Scalars.{scalar_of}

-- §10.2: a vector, bit or move instruction.
unfoldable pub by_items : ℕ → Bool
by_items w = goes_by_items (meaning_in w)

-- §10.3: a word that no check refuses and that does not go by items.
unfoldable pub one_step : ℕ → ℕ → Operands → ℕ → Bool
one_step p w o n = eqb (verdict_of p w o n) 0 && not (by_items w)

-- §10.2: a word that goes by items and that no check refuses.
unfoldable pub may_work : ℕ → ℕ → Operands → ℕ → Bool
may_work p w o n = by_items w && eqb (verdict_of p w o n) 0

-- §10.2: its plan.
unfoldable pub plan_of : ℕ → Operands → Plan
plan_of w o = plan_in (meaning_in w) w o

-- §10.2: how many items it has.
abbrev pub count_of : ℕ → Operands → ℕ
count_of w o = items_of (plan_of w o)

-- §7.7: items from, .., from + count - 1, one after another.
unfoldable pub works_of : ℕ → Operands → ℕ → ℕ → ℕ → MemoryAndFlags → MemoryAndFlags
works_of w o bytes from count x = turns (shape_of (plan_of w o)) (8 * bytes) from count x

-- §7.7, §10.5, §13.2: the instruction as a whole, cut after k items: all at once, from its sources as they stood when it began.
unfoldable pub whole_of : ℕ → Operands → ℕ → ℕ → MemoryAndFlags → MemoryAndFlags
whole_of w o bytes k x = whole (shape_of (plan_of w o)) (8 * bytes) k x

-- §5.1: what an instruction of one step leaves: memory, registers, P and flags; and these put together.
pub record Done : Type 0 where
  pub memory : ℕ
  pub registers : List ℕ
  pub p : ℕ
  pub flags : ℕ

abbrev pub leaving : ℕ → List ℕ → ℕ → ℕ → Done
leaving m r p f = record { memory = m; registers = r; p = p; flags = f }

-- §5.1, §4.4: an outcome, applied; its flags are added to those that are set.
abbrev pub done_by : Outcome → ℕ → ℕ → ℕ → ℕ → List ℕ → ℕ → Done
done_by u p bits bytes m r f =
    leaving (memory_after u.effect (8 * bytes) m) (registers_after u.effect r) (next_p p bits u.target) (bit_or f u.flags)

-- §5.1, §10.3: what a word that does not go by items leaves.
unfoldable pub acts_of : ℕ → ℕ → Operands → ℕ → ℕ → List ℕ → ℕ → Done
acts_of p w o bytes m r f = done_by (scalar_of w o bytes m) p (length_of w) bytes m r f

-- Items from, .., from + count - 1 of a word may be worked: no check refuses it, it goes by items, and it has them.
abbrev pub Workable : ℕ → ℕ → Operands → ℕ → ℕ → ℕ → Type 0
Workable p w o bytes from count = (right_length bytes ≡ true) × (verdict_of p w o bytes ≡ 0) × (by_items w ≡ true) × (from + count ≤ count_of w o)

-- m' and f' are what the lent bytes m and the flags f come to by those items.
abbrev pub WorksTo : ℕ → Operands → ℕ → ℕ → List ℕ → ℕ → List ℕ → ℕ → Type 0
WorksTo w o from count m f m' f' = (length m' ≡ length m) × (worked (num m') f' ≡ works_of w o (length m) from count (worked (num m) f))

-- m', r', p' and f' are what the lent bytes m, the registers r, p and the flags f come to by the one step of any other.
abbrev pub ActsTo : ℕ → ℕ → Operands → List ℕ → List ℕ → ℕ → List ℕ → List ℕ → ℕ → ℕ → Type 0
ActsTo p w o m r f m' r' p' f' = (length m' ≡ length m) × (leaving (num m') r' p' f' ≡ acts_of p w o (length m) (num m) r f)
