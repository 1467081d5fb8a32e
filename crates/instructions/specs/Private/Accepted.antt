-- What an instruction has that refusals 8 to 11 let pass: facts on places in the lent memory, counted in bits from its start (but `AtByte` counts
-- addresses). Nothing here says that a source is as long as the result.
use Rattle.std.specs.Prelude.{◌≡◌, ◌⊎◌, List, Option, Some, None, ℕ, ◌+◌, ◌*◌, ◌%◌, ◌^◌, ◌≤◌, ◌<◌, min, length}
use Rattle.fields.specs.declared.extents.Unit.TheVariants as unit
use Rattle.fields.specs.Field.{Apart}
use Rattle.fields.specs.Bytes.{num, size}
use Rattle.fields.specs.Gathers.{past_r, past_s, furthest, bit_items}
use Rattle.instructions.specs.declared.items.Source.{Source}
use Rattle.instructions.specs.declared.items.Source.TheVariants.{Field, Value}
use Rattle.instructions.specs.declared.items.Gated.{Gated}
use Rattle.instructions.specs.declared.items.VectorPlan.{VectorPlan}
use Rattle.instructions.specs.declared.items.BitPlan.{BitPlan}
use Rattle.instructions.specs.declared.items.MovePlan.{MovePlan}
use Rattle.fields.specs.Memory.{AtByte}
use Rattle.instructions.specs.declared.operands.Operands.{Operands}
use Rattle.instructions.specs.Meanings.{to_t, to_half_t, loads_byte, loads_word, stores_byte, stores_word, Meaning, unlisted, exits, acts, branches, works}
use Rattle.instructions.specs.Operands.{meaning_in, address_in}
use Rattle.instructions.specs.declared.effects.Effect.{Effect}
use Rattle.instructions.specs.declared.effects.Effect.TheVariants.{Nothing, Register, HalfRegister, Byte, Word}
use Rattle.instructions.specs.Effects.{registers_after, memory_after}
use Rattle.instructions.specs.Plan.{taken_by, Plan, vectors, bit_runs, byte_move, items_of}

-- If n is not 0, the n bits at a lie in a memory of L bits and share none with the k bits at c: a field of which nothing is read is not checked.
abbrev pub Away : ℕ → ℕ → ℕ → ℕ → ℕ → Type 0
Away L c k a n = 0 < n → (a + n ≤ L) × Apart c k a n

-- A source at a, of which n words are read, for a result of n items of w bits at c: it begins with a byte, lies in a memory of L bits, and is apart
-- from the result, or begins where it begins, both being of words.
pub record WordsPass (L c w n a : ℕ) : Type 0 where
  pub whole : a % 8 ≡ 0
  pub upto : a + n * 64 ≤ L
  pub apart : (Apart c (n * w) a (n * 64)) ⊎ ((a ≡ c) × (64 ≡ w))

-- The same of a source; a register itself is no field, and nothing is asked of it.
abbrev pub SourcePasses : ℕ → ℕ → ℕ → ℕ → Source → Type 0
SourcePasses L c w n (Field a) = WordsPass L c w n a
SourcePasses L c w n (Value v) = Unit {0}

-- The n bits of a control field lie in memory and apart from the result of n items of w bits at c.
abbrev pub ControlPasses : ℕ → ℕ → ℕ → ℕ → Option Gated → Type 0
ControlPasses L c w n None = Unit {0}
ControlPasses L c w n (Some z) = (z.base + n ≤ L) × Apart c (n * w) z.base n

-- What a vector has, with result items of w bits: its result and each field that it reads pass.
pub record VectorPasses (L w : ℕ) (v : VectorPlan) : Type 0 where
  pub whole : v.result % 8 ≡ 0
  pub upto : v.result + v.items * w ≤ L
  pub first : SourcePasses L v.result w v.items v.first
  pub second : SourcePasses L v.result w v.items v.second
  pub control : ControlPasses L v.result w v.items v.control

-- S of a bit instruction passes, of which e bits are read, for a result of n bits at c; it begins below 2^48, as every address does.
abbrev pub SecondPasses : ℕ → ℕ → ℕ → ℕ → Option ℕ → Type 0
SecondPasses L c n e (Some b) = (b < 2 ^ 48) × Away L c n b e
SecondPasses L c n e None = Unit {0}

-- The items of a bit instruction, and how far they read R and S.
abbrev pub bits_of : BitPlan → ℕ
bits_of b = bit_items b.rule b.runs

abbrev pub extent_r : BitPlan → ℕ
extent_r b = furthest (λ j. past_r (taken_by b.rule b.runs j)) (bits_of b)

abbrev pub extent_s : BitPlan → ℕ
extent_s b = furthest (λ j. past_s (taken_by b.rule b.runs j)) (bits_of b)

-- What a bit instruction has: its result, R and S pass.
pub record BitsPass (L : ℕ) (b : BitPlan) : Type 0 where
  pub upto : b.result + bits_of b ≤ L
  pub near : b.first < 2 ^ 48
  pub first : Away L b.result (bits_of b) b.first (extent_r b)
  pub second : SecondPasses L b.result (bits_of b) (extent_s b) b.second

-- What a move has: its result passes, and so do the bytes that it reads: as many as there are items, or all that the source has.
pub record MovePasses (L : ℕ) (v : MovePlan) : Type 0 where
  pub whole : v.result % 8 ≡ 0
  pub upto : v.result + v.items * 8 ≤ L
  pub whole_source : 0 < v.length → v.source % 8 ≡ 0
  pub source : Away L v.result (v.items * 8) v.source (min v.items v.length * 8)

-- What any instruction with items has.
abbrev pub Accepted : ℕ → Plan → Type 0
Accepted L (vectors v w f) = VectorPasses L w v
Accepted L (bit_runs b) = BitsPass L b
Accepted L (byte_move v) = MovePasses L v

-- What the work asks: a memory that may be lent, at most 65,536 bytes in whole words (§1.4), and an instruction that passes, unless it has no items.
pub record Ready (m : List ℕ) (p : Plan) : Type 0 where
  pub small : length m ≤ 65536
  pub whole : length m % 8 ≡ 0
  pub accepted : 0 < items_of p → Accepted (size m) p

-- What the step of any other instruction asks: the byte or word of a load or a store is in memory; first by its meaning, then by its word.
abbrev pub AddressThereBy : Meaning → Operands → List ℕ → Type 0
AddressThereBy unlisted o m = Unit {0}
AddressThereBy exits o m = Unit {0}
AddressThereBy (acts (to_t f)) o m = Unit {0}
AddressThereBy (acts (to_half_t f)) o m = Unit {0}
AddressThereBy (acts loads_byte) o m = AtByte m (address_in unit.Byte o).0 8
AddressThereBy (acts loads_word) o m = AtByte m (address_in unit.Word o).0 64
AddressThereBy (acts stores_byte) o m = AtByte m (address_in unit.Byte o).0 8
AddressThereBy (acts stores_word) o m = AtByte m (address_in unit.Word o).0 64
AddressThereBy (branches c) o m = Unit {0}
AddressThereBy (works k) o m = Unit {0}

unfoldable pub AddressThere : ℕ → Operands → List ℕ → Type 0
AddressThere w o m = AddressThereBy (meaning_in w) o m

-- What an effect stores goes to bytes that are in memory.
abbrev pub Reaches : Effect → List ℕ → Type 0
Reaches Nothing m = Unit {0}
Reaches (Register t v) m = Unit {0}
Reaches (HalfRegister t v) m = Unit {0}
Reaches (Byte a v) m = AtByte m a.0 8
Reaches (Word a v) m = AtByte m a.0 64

-- An effect was applied: the lent bytes m and the registers rs became m' and rs'.
pub record Applied (e : Effect) (m rs m' rs' : List ℕ) : Type 0 where
  pub as_long : length m' ≡ length m
  pub memory : num m' ≡ memory_after e (size m) (num m)
  pub registers : rs' ≡ registers_after e rs
