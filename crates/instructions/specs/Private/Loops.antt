-- What the loops promise, by the plain numbers that they work with. Places in memory are counted in bits from its start, or in bytes where it says
-- so.
use Rattle.std.specs.Prelude.{◌≡◌, ◌⊎◌, Bool, cond, List, ℕ, zero, suc, ◌+◌, ◌-◌, ◌*◌, ◌/◌, ◌%◌, ◌^◌, ◌≤◌, ◌<◌, min, eqb, ltb, length, Option, Some, None}
use Rattle.std.specs.Int.Bits.{bit_or}
use Rattle.fields.specs.declared.gathers.Runs.{Runs}
use Rattle.fields.specs.Slot.{get}
use Rattle.fields.specs.Field.{field, Apart}
use Rattle.fields.specs.Bytes.{num, size}
use Rattle.fields.specs.Memory.{Kept}
use Rattle.instructions.specs.declared.items.Source.{Source}
use Rattle.instructions.specs.declared.items.Source.TheVariants.{Field, Value}
use Rattle.instructions.specs.declared.items.Gated.{Gated}
use Rattle.instructions.specs.declared.items.VectorPlan.{VectorPlan}
use Rattle.fields.specs.declared.gathers.Rule.{Rule}
use Rattle.fields.specs.declared.gathers.Rule.TheVariants.{Compress, Merge, Mask}
use Rattle.instructions.specs.declared.bitruns.Period.{Period}
use Rattle.instructions.specs.declared.bitruns.Cursor.{Cursor}
use Rattle.instructions.specs.declared.items.Stretch.{Stretch}
use Rattle.instructions.specs.declared.bitruns.Weave.{Weave}
use Rattle.instructions.specs.declared.items.BitPlan.{BitPlan}
use Rattle.instructions.specs.declared.items.MovePlan.{MovePlan}
use Rattle.numbers.specs.declared.flags.Made.{Made}
use Rattle.instructions.specs.Meanings.{plain, gathers, each_of_a_b, each_of_a, half_of_a, moves, Meaning, unlisted, exits, acts, branches, works}
use Rattle.instructions.specs.Table.{meaning_of}
use Rattle.instructions.specs.Items.{Place, bits, fixed, value_at, Shape, worked, turns}
use Rattle.instructions.specs.Plan.{vector_shape, taken_shape, second_bit, byte_of}

-- m' and f' are what the lent bytes m and the flags f come to by k items from item `from` on.
pub record Turned (s : Shape) (from k : ℕ) (m : List ℕ) (f : ℕ) (m' : List ℕ) (f' : ℕ) : Type 0 where
  pub as_long : length m' ≡ length m
  pub does : worked (num m') f' ≡ turns s (size m) from k (worked (num m) f)

-- ---- vectors

-- n items of a source, of a control field, or of a result of w bits each, lie in m. A field of words begins with a byte.
abbrev pub SourceReach : List ℕ → ℕ → Source → Type 0
SourceReach m n (Field a) = (a % 8 ≡ 0) × (a + n * 64 ≤ size m)
SourceReach m n (Value v) = Unit {0}

abbrev pub ControlReach : List ℕ → ℕ → Option Gated → Type 0
ControlReach m n None = Unit {0}
ControlReach m n (Some z) = z.base + n ≤ size m

-- n items of w bits from bit c on, their sources and their control bits lie in m. m has at most 65,536 bytes (§1.4).
pub record InReach (m : List ℕ) (a b : Source) (z : Option Gated) (c w n : ℕ) : Type 0 where
  pub small : length m ≤ 65536
  pub first : SourceReach m n a
  pub second : SourceReach m n b
  pub control : ControlReach m n z
  pub whole : c % 8 ≡ 0
  pub upto : c + n * w ≤ size m

-- The same of a plan, and its items.
abbrev pub PlanReach : List ℕ → VectorPlan → ℕ → ℕ → Type 0
PlanReach m v w n = InReach m v.first v.second v.control v.result w n

abbrev pub vector_shape_of : VectorPlan → ℕ → (ℕ → ℕ → Made ℕ) → Shape
vector_shape_of v w g = vector_shape v.first v.second v.control v.result w g

-- g is what an operation gives of two words.
abbrev pub Makes : (ℕ → ℕ → Made ℕ → Type 0) → (ℕ → ℕ → Made ℕ) → Type 0
Makes gives g = (x y : ℕ) (r : Made ℕ) → x < 2 ^ 64 → y < 2 ^ 64 → gives x y r → r ≡ g x y

-- As `Turned`, of a stretch of a vector's items, made by what the operation gives.
abbrev pub TurnedBy : (ℕ → ℕ → Made ℕ → Type 0) → Source → Source → Option Gated → ℕ → ℕ → Stretch → List ℕ → List ℕ → ℕ → Type 0
TurnedBy gives a b z c w s m m' f' = (g : ℕ → ℕ → Made ℕ) → Makes gives g → Turned (vector_shape a b z c w g) s.from s.count m s.flags m' f'

-- The same of an operation on A alone.
abbrev pub AloneTurnedBy : (ℕ → Made ℕ → Type 0) → VectorPlan → ℕ → Stretch → List ℕ → List ℕ → ℕ → Type 0
AloneTurnedBy gives v w s m m' f' =
    (g : ℕ → Made ℕ) → Makes (λ x y. gives x) (λ x y. g x) → Turned (vector_shape_of v w (λ x y. g x)) s.from s.count m s.flags m' f'

-- The bytes of an item that is a half word or a word.
abbrev pub Wide : ℕ → Type 0
Wide k = (k ≡ 4) ⊎ (k ≡ 8)

-- What a vector of this meaning makes of two words, and how many bits its items have; of no other meaning is either asked.
abbrev pub makes_by : Meaning → ℕ → ℕ → Made ℕ
makes_by unlisted x y = plain 0
makes_by exits x y = plain 0
makes_by (acts a) x y = plain 0
makes_by (branches c) x y = plain 0
makes_by (works (gathers rule)) x y = plain 0
makes_by (works (each_of_a_b f)) x y = f x y
makes_by (works (each_of_a f)) x y = f x
makes_by (works (half_of_a f)) x y = f x
makes_by (works moves) x y = plain 0

abbrev pub width_by : Meaning → ℕ
width_by unlisted = 0
width_by exits = 0
width_by (acts a) = 0
width_by (branches c) = 0
width_by (works (gathers rule)) = 0
width_by (works (each_of_a_b f)) = 64
width_by (works (each_of_a f)) = 64
width_by (works (half_of_a f)) = 32
width_by (works moves) = 0

-- The two of a code, by what it means.
unfoldable pub makes_at : ℕ → ℕ → ℕ → Made ℕ
makes_at code = makes_by (meaning_of code)

unfoldable pub width_at : ℕ → ℕ
width_at code = width_by (meaning_of code)

-- go is 1 where the control bit is the one that is asked for, else 0.
pub record Gate (go bit sense : ℕ) : Type 0 where
  pub a_bit : go < 2
  pub tells : eqb go 1 ≡ eqb bit sense

-- m' is m with the new item, where `go` says so, or the old one in the w bits at a, and f' is f with the flags of a new one.
pub record Settled (m : List ℕ) (a w : ℕ) (go : Bool) (new : Made ℕ) (f : ℕ) (m' : List ℕ) (f' : ℕ) : Type 0 where
  pub kept : Kept m a w (cond go (new.item % 2 ^ w) (field (size m) a w (num m))) m'
  pub sets : f' ≡ bit_or f (cond go new.flags 0)

-- As `Turned`, of items that raise no flags: the flags stay, whatever they are.
abbrev pub TurnedQuietly : Shape → ℕ → ℕ → List ℕ → List ℕ → Type 0
TurnedQuietly s from k m m' = (f : ℕ) → Turned s from k m f m' f

-- ---- move

-- n bytes at bit c are worked, for which a source of r bytes at bit a is read: as many of its bytes as are wanted, or all. Both begin with a byte and
-- lie in m.
pub record ReadyBytes (m : List ℕ) (a r c n : ℕ) : Type 0 where
  pub small : length m ≤ 65536
  pub whole_a : 0 < r → a % 8 ≡ 0
  pub whole_c : c % 8 ≡ 0
  pub upto_a : 0 < min n r → a + min n r * 8 ≤ size m
  pub upto_c : c + n * 8 ≤ size m

-- ---- bits

-- n bits at a, 1 to 64 of them, lie in m, which is whole words.
pub record Room (m : List ℕ) (a n : ℕ) : Type 0 where
  pub small : length m ≤ 65536
  pub words : length m % 8 ≡ 0
  pub some : 0 < n
  pub few : n ≤ 64
  pub upto : a + n ≤ size m

-- How many bits of T a period has: the head of it from R, the tail from S.
abbrev pub period_bits : Period → ℕ
period_bits p = p.head + p.tail

-- The period of a rule. R goes on by `first` in a period and S by `second`; the first tail lies `over` bits past where S begins.
abbrev pub period_of : Rule → Runs → Period
period_of Compress t = record { head = t.r; tail = 0; first = t.r + t.s; second = 0; over = 0 }
period_of Merge t = record { head = t.r; tail = t.s; first = t.r; second = t.s; over = 0 }
period_of Mask t = record { head = t.r; tail = t.s; first = t.r + t.s; second = t.r + t.s; over = t.r }

-- The cursor at item i: its place in the period, the bit that the head of that period begins with, and how far past the beginning of S the tail is.
unfoldable pub cursor_at : Weave → ℕ → Cursor
cursor_at w i =
    record {
      place = i % period_bits w.period;
      r = w.r + i / period_bits w.period * w.period.first;
      s = w.period.over + i / period_bits w.period * w.period.second;
    }

-- The cursor n bits on, no further than to the end of its period.
abbrev pub cursor_on : Cursor → Period → ℕ → Cursor
cursor_on u p n =
    cond (eqb (u.place + n) (period_bits p))
    (record { place = 0; r = u.r + p.first; s = u.s + p.second })
    (record { place = u.place + n; r = u.r; s = u.s })

-- How many bits are left of the head or the tail that the cursor stands in.
abbrev pub left_at : Cursor → Period → ℕ
left_at u p = cond (ltb u.place p.head) (p.head - u.place) (period_bits p - u.place)

-- What a plan weaves. What has no tail takes nothing of S.
abbrev pub weave_of : BitPlan → Weave
weave_of b =
    record {
      r = b.first;
      s = cond (eqb (period_of b.rule b.runs).tail 0) None b.second;
      period = period_of b.rule b.runs;
      to = b.result;
    }

-- Where the cursor stands: a bit of R, a bit of S, or a zero for S.
abbrev pub stands_at : Weave → Cursor → Place
stands_at w u = cond (ltb u.place w.period.head) (bits (u.r + u.place)) (second_bit w.s (u.s + (u.place - w.period.head)))

-- n bits at a place have room; a value needs none.
abbrev pub RoomFor : List ℕ → ℕ → Place → Type 0
RoomFor m n (bits a) = Room m a n
RoomFor m n (fixed v) = Unit {0}

-- What item i takes, by its cursor.
abbrev pub woven_at : Weave → ℕ → Place
woven_at w i = stands_at w (cursor_at w i)

-- The items of what is woven, those of a bit instruction, and those of a move.
abbrev pub woven_shape : Weave → Shape
woven_shape w = taken_shape w.to 1 (woven_at w)

abbrev pub gather_shape : BitPlan → Shape
gather_shape b = woven_shape (weave_of b)

abbrev pub move_shape : MovePlan → Shape
move_shape v = taken_shape v.result 8 (byte_of v.source v.length v.fill)

-- n items are woven in a memory of whole words. R begins below 2^48, as every address does. Each item finds its bit in memory and apart from all of the
-- result. S is a source only where there is a tail.
pub record ReadyBits (m : List ℕ) (w : Weave) (n : ℕ) : Type 0 where
  pub small : length m ≤ 65536
  pub words : length m % 8 ≡ 0
  pub upto_c : w.to + n ≤ size m
  pub some_bits : 0 < period_bits w.period
  pub near_r : w.r < 2 ^ 48
  pub some_tail : (b : ℕ) → w.s ≡ Some b → 0 < w.period.tail
  pub clear : (i a : ℕ) → i < n → woven_at w i ≡ bits a → (a < size m) × Apart w.to n a 1

-- The bits of R from the first of t heads to the last, and those of S from the first of t tails to the last.
abbrev pub span_r : Period → ℕ → ℕ
span_r p t = (t - 1) * p.first + p.head

abbrev pub span_s : Period → ℕ → ℕ
span_s p t = (t - 1) * p.second + p.tail

-- t periods may be worked at once: what they make, and what they read of R and of S, fits a word each, and one period has at most half a word.
pub record Chunk (p : Period) (t : ℕ) : Type 0 where
  pub some : 0 < t
  pub part : 0 < p.head
  pub gap : period_bits p ≤ 32
  pub fits : t * period_bits p ≤ 64
  pub fits_r : t * p.first ≤ 64
  pub fits_s : t * p.second ≤ 64
  pub spans_r : span_r p t ≤ 64
  pub spans_s : span_s p t ≤ 64

-- The first k of t pieces of x, each of n bits and `step` bits after the one before it, the last at the right end of x: each at the right end of
-- `gap` bits.
abbrev pub spread_of : ℕ → ℕ → ℕ → ℕ → ℕ → ℕ → ℕ
spread_of x step n gap t zero = 0
spread_of x step n gap t (suc k) = spread_of x step n gap t k * 2 ^ gap + get ((t - suc k) * step) n x

-- Ones at the right end of each of t periods, as many as a head has, and as many as a tail.
abbrev pub front_of : Period → ℕ → ℕ
front_of p t = spread_of (2 ^ p.head - 1) 0 p.head (period_bits p) t t

abbrev pub back_of : Period → ℕ → ℕ
back_of p t = spread_of (2 ^ p.tail - 1) 0 p.tail (period_bits p) t t

-- The bits of t periods, of a memory of L bits that is the number x: the first head begins with bit r, and the first tail is s bits past where S begins.
abbrev pub periods_of : ℕ → Weave → ℕ → ℕ → ℕ → ℕ → ℕ
periods_of L w t r s x =
    spread_of (field L r (span_r w.period t) x) w.period.first w.period.head (period_bits w.period) t t * 2 ^ w.period.tail
    + spread_of (value_at L (span_s w.period t) (second_bit w.s s) x) w.period.second w.period.tail (period_bits w.period) t t
