-- What the items of an instruction do to memory and flags, one after another and all at once: sections 7 to 10 of docs/MACHINE.md. Memory is one
-- number of L bits, numbered from 0 at the left.
use Rattle.std.specs.Prelude.{Bool, cond, ℕ, zero, suc, ◌+◌, ◌*◌, ◌%◌, ◌^◌, eqb}
use Rattle.std.specs.Int.Bits.{bit_or}
use Rattle.fields.specs.Field.{field, store, side_by_side}
use Rattle.numbers.specs.declared.flags.Made.{Made}

-- §7.2, §7.4, §8.2, §9.3: what an item reads: bits of memory from one on, or a value: a broadcast register, zeros for S, the byte B.
pub data Place : Type 0 where
  bits : ℕ → Place
  fixed : ℕ → Place

-- §7.7: the items of an instruction: for item i its sources and its control bit; and what is made of the sources.
pub record Shape : Type 0 where
  pub first : ℕ → Place
  pub second : ℕ → Place
  pub control : ℕ → Place
  pub sense : ℕ  -- the control bit of an item that is stored
  pub unit : ℕ  -- the bits of a source item
  pub result : ℕ  -- the first bit of the result field
  pub width : ℕ  -- the bits of a result item
  pub makes : ℕ → ℕ → Made ℕ

-- §7.2, §7.4: the n bits at a place of the memory x, or the value itself.
abbrev pub value_at : ℕ → ℕ → Place → ℕ → ℕ
value_at L n (bits a) x = field L a n x
value_at L n (fixed v) x = v

-- §7.5: item i is stored: its control bit is the one that is asked for.
unfoldable pub stored_at : Shape → ℕ → ℕ → ℕ → Bool
stored_at s L i x = eqb (value_at L 1 (s.control i) x) s.sense

-- §7.7: what is made of the sources of item i, as the memory x holds them.
unfoldable pub made_at : Shape → ℕ → ℕ → ℕ → Made ℕ
made_at s L i x = s.makes (value_at L s.unit (s.first i) x) (value_at L s.unit (s.second i) x)

-- §7.2: the first bit of result item i.
abbrev pub result_at : Shape → ℕ → ℕ
result_at s i = s.result + i * s.width

-- §7.6: result item i afterwards: what was made, or its old bits where it is not stored.
unfoldable pub item_at : Shape → ℕ → ℕ → ℕ → ℕ
item_at s L i x = cond (stored_at s L i x) ((made_at s L i x).item % 2 ^ s.width) (field L (result_at s i) s.width x)

-- §7.6: the flags of item i; none where it is not stored.
unfoldable pub flags_at : Shape → ℕ → ℕ → ℕ → ℕ
flags_at s L i x = cond (stored_at s L i x) (made_at s L i x).flags 0

-- Memory and flags, and these two put together.
pub record MemoryAndFlags : Type 0 where
  pub memory : ℕ
  pub flags : ℕ

abbrev pub worked : ℕ → ℕ → MemoryAndFlags
worked x f = record { memory = x; flags = f }

-- §7.7, §4.4: item i worked: its bits are stored, its flags are added to those that are set.
abbrev pub turn : Shape → ℕ → ℕ → MemoryAndFlags → MemoryAndFlags
turn s L i w =
    worked (store L (result_at s i) s.width (item_at s L i w.memory) w.memory) (bit_or w.flags (flags_at s L i w.memory))

-- §7.7: k items from item `from` on, each on what the ones before it left.
abbrev pub turns : Shape → ℕ → ℕ → ℕ → MemoryAndFlags → MemoryAndFlags
turns s L from zero w = w
turns s L from (suc k) w = turn s L (from + k) (turns s L from k w)

-- §7.7: the flags f with those of the first k items, all read from the memory x.
abbrev pub flags_together : Shape → ℕ → ℕ → ℕ → ℕ → ℕ
flags_together s L zero x f = f
flags_together s L (suc k) x f = bit_or (flags_together s L k x f) (flags_at s L k x)

-- §7.7, §10.5: the instruction as a whole, cut after k items. The result field gets the first k items side by side, each made of the memory at the
-- start, and nothing else changes.
abbrev pub whole : Shape → ℕ → ℕ → MemoryAndFlags → MemoryAndFlags
whole s L k w =
    worked (store L s.result (k * s.width) (side_by_side s.width (item_at s L) k w.memory) w.memory) (flags_together s L k w.memory w.flags)
