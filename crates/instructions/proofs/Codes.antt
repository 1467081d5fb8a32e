-- What each code does: one list in the order of the table, a line a code. Of an instruction that no check refuses a line says what memory, registers, P and
-- flags become, in terms of R, S and T, or of A, B, C, X, Y and Z and their items, all as they stood when it began. `runs` proves it of `run` by one
-- statement (its Theorems, 6).
use mathlib.Core.Bool.{Bool, true, false, cond, not, ◌||◌}
use mathlib.Core.List.{List, [], ◌∷◌}
use Prim.Native.Nat.{ℕ, zero, suc, ◌+◌, ◌-◌, ◌*◌, ◌%◌, ◌^◌}
use lib.Bits.{bit_and, bit_or, bit_xor}
use lib.Dec.{eqb, ltb}
use lib.ListN.{set}
use Rattle.numbers.specs.Whole.{truncate_of, floor_of, ceiling_of}
use Rattle.numbers.specs.Contract.{contract_of}
use Rattle.numbers.specs.Shift.{shift_of}
use Rattle.numbers.specs.Words.{low48, sum_of, difference_of, exponent_word, packed_of, left16_of}
use Rattle.fields.specs.declared.extents.Unit.TheVariants.{Byte, HalfWord, Word}
use Rattle.fields.specs.declared.gathers.Runs.{Runs}
use Rattle.fields.specs.Field.{field, store}
use Rattle.fields.specs.Memory.{origin}
use Rattle.fields.specs.Gathers.{SourceBit, of_r, of_s, compress_takes, merge_takes, mask_takes, compress_items, merge_items}
use Rattle.numbers.specs.declared.flags.Made.{Made}
use Rattle.instructions.specs.declared.operands.Operands.{Operands}
use Rattle.instructions.specs.Meanings.{plain, same, less}
use Rattle.instructions.specs.Operands.{g_bit, gathered, length_in, indexed}
use Rattle.instructions.specs.Fetch.{length_of}
use Rattle.instructions.specs.Effects.{with_half}
use Rattle.instructions.specs.Scalars.{number_t}
use Rattle.instructions.specs.Instruction.{Done, leaving}

-- ---- before it

-- P, the word there, memory of so many bytes as one number, registers and flags
pub record Before : Type 0 where
  pub p : ℕ
  pub word : ℕ
  pub bytes : ℕ
  pub memory : ℕ
  pub registers : List ℕ
  pub flags : ℕ

-- the call ends here, or the instruction is done
pub data Result : Type 0 where
  ends : Result
  becomes : Done → Result

module _ (s : Before) where
  -- what the registers that the word names supply
  abbrev pub named : Operands
  named = gathered s.word s.registers

  abbrev pub R : ℕ
  R = named.g

  abbrev pub S : ℕ
  S = named.x

  abbrev pub T : ℕ
  T = named.a

  abbrev pub A : ℕ
  A = named.a

  abbrev pub B : ℕ
  B = named.b

  abbrev pub C : ℕ
  C = named.c

  abbrev pub X : ℕ
  X = named.x

  abbrev pub Y : ℕ
  Y = named.y

  abbrev pub Z : ℕ
  Z = named.z

  -- n bits of memory, from bit a of it on
  abbrev pub bits_from : ℕ → ℕ → ℕ
  bits_from a n = field (8 * s.bytes) a n s.memory

  -- P past the word
  abbrev pub past : ℕ
  past = s.p + length_of s.word

  -- ---- one step

  -- register T, or the half word T, becomes what is made, and its flags are set
  abbrev pub to_t : Made ℕ → Result
  to_t r = becomes (leaving s.memory (set s.registers (number_t s.word) r.item) past (bit_or s.flags r.flags))

  abbrev pub to_half_t : Made ℕ → Result
  to_half_t r = becomes (leaving s.memory (with_half (number_t s.word) r.item s.registers) past (bit_or s.flags r.flags))

  -- the byte at R plus S bytes, the word at R plus S words
  abbrev pub byte_at : ℕ
  byte_at = (indexed Byte R S).0 - origin

  abbrev pub word_at : ℕ
  word_at = (indexed Word R S).0 - origin

  -- the n bits of memory from bit a on become v
  abbrev pub to_memory : ℕ → ℕ → ℕ → Result
  to_memory a n v = becomes (leaving (store (8 * s.bytes) a n v s.memory) s.registers past s.flags)

  -- C becomes A plus X; P becomes B plus Y half words, where the sum compares so with Z, unsigned with G bit 4
  abbrev pub to_c : (Bool → ℕ → ℕ → Bool) → Result
  to_c compares =
      becomes (leaving s.memory (set s.registers (field 64 56 8 s.word) (sum_of A X))
      (cond (compares (g_bit 4 s.word) (sum_of A X) Z) (indexed HalfWord B Y).0 past) s.flags)

  -- ---- item by item

  -- n items of w bits from bit c of memory on: item i becomes what is made of it, if it is stored, and else keeps its bits and sets no flag
  module _ (w c : ℕ) (stored : ℕ → Bool) (made : ℕ → Made ℕ) where
    abbrev pub items_in : ℕ → ℕ
    items_in zero = s.memory
    items_in (suc i) = store (8 * s.bytes) (c + i * w) w (cond (stored i) ((made i).item % 2 ^ w) (bits_from (c + i * w) w)) (items_in i)

    abbrev pub flags_of : ℕ → ℕ
    flags_of zero = s.flags
    flags_of (suc i) = bit_or (flags_of i) (cond (stored i) (made i).flags 0)

    abbrev pub to_items : ℕ → Result
    to_items n = becomes (leaving (items_in n) s.registers past (flags_of n))

  -- item i of A, and of B: a word of its field, or the register itself with G bit 3, and 4
  abbrev pub item_a : ℕ → ℕ
  item_a i = cond (g_bit 3 s.word) A (bits_from (low48 A - origin + i * 64) 64)

  abbrev pub item_b : ℕ → ℕ
  item_b i = cond (g_bit 4 s.word) B (bits_from (low48 B - origin + i * 64) 64)

  -- item i is stored: Z is 00, or the control bit is one, and with G bit 1 zero
  abbrev pub stored : ℕ → Bool
  stored i = eqb (field 64 48 8 s.word) 0 || eqb (bits_from (low48 Z - origin + i) 1) (cond (g_bit 1 s.word) 0 1)

  -- items of C, words or half words: as many as the length of C says
  abbrev pub items_of_c : ℕ → (ℕ → Made ℕ) → Result
  items_of_c w made = to_items w (low48 C - origin) stored made (length_in C)

  -- r, s and n; a bit of R or of S, of which none is read where its base is zero
  abbrev pub runs : Runs
  runs = record { r = length_in R; s = length_in S; n = length_in T }

  abbrev pub bit_of : SourceBit → ℕ
  bit_of (of_r j) = bits_from (low48 R - origin + j) 1
  bit_of (of_s j) = cond (eqb (low48 S) 0) 0 (bits_from (low48 S - origin + j) 1)

  -- n bits of T
  abbrev pub bits_of_t : ℕ → (ℕ → SourceBit) → Result
  bits_of_t n takes = to_items 1 (low48 T - origin) (λ j. true) (λ j. plain (bit_of (takes j))) n

  -- byte i at A plus X bytes, and beyond the length of A the literal byte B
  abbrev pub byte_of : ℕ → ℕ
  byte_of i = cond (ltb i (length_in A)) (bits_from ((indexed Byte A X).0 - origin + i * 8) 8) (field 64 40 8 s.word)

  -- bytes at C plus Z bytes: as many as the length of C says
  abbrev pub bytes_of_c : (ℕ → ℕ) → Result
  bytes_of_c v = to_items 8 ((indexed Byte C Z).0 - origin) (λ i. true) (λ i. plain (v i)) (length_in C)

-- ---- the list

pub record Does : Type 0 where
  pub code : ℕ
  pub leaves : Before → Result

abbrev pub does : ℕ → (Before → Result) → Does
does k f = record { code = k; leaves = f }

abbrev pub codes : List Does
codes =
    does 0x09 (λ s. ends) ∷  -- exit
    does 0x12 (λ s. to_t s (plain (bits_from s (byte_at s) 8))) ∷  -- load byte
    does 0x13 (λ s. to_memory s (byte_at s) 8 (field 64 56 8 (T s))) ∷  -- store byte
    does 0x14 (λ s. bits_of_t s (compress_items (runs s)) (λ j. compress_takes (runs s) j)) ∷  -- bit compress
    does 0x15 (λ s. bits_of_t s (merge_items (runs s)) (λ j. merge_takes (runs s) j)) ∷  -- bit merge
    does 0x16 (λ s. bits_of_t s (merge_items (runs s)) (λ j. mask_takes (runs s) j)) ∷  -- bit mask
    does 0x2C (λ s. to_t s (plain (bit_xor (R s) (S s)))) ∷  -- exclusive or
    does 0x2D (λ s. to_t s (plain (bit_and (R s) (S s)))) ∷  -- and
    does 0x2E (λ s. to_t s (plain (bit_or (R s) (S s)))) ∷  -- inclusive or
    does 0x63 (λ s. to_t s (plain (sum_of (R s) (S s)))) ∷  -- add low 48
    does 0x67 (λ s. to_t s (plain (difference_of (R s) (S s)))) ∷  -- subtract low 48
    does 0x70 (λ s. to_t s (truncate_of (R s))) ∷  -- truncate
    does 0x71 (λ s. to_t s (floor_of (R s))) ∷  -- floor
    does 0x72 (λ s. to_t s (ceiling_of (R s))) ∷  -- ceiling
    does 0x76 (λ s. to_half_t s (contract_of false (R s))) ∷  -- contract
    does 0x77 (λ s. to_half_t s (contract_of true (R s))) ∷  -- rounded contract
    does 0x78 (λ s. to_t s (plain (R s))) ∷  -- transmit
    does 0x7A (λ s. to_t s (plain (exponent_word (R s)))) ∷  -- exponent
    does 0x7B (λ s. to_t s (plain (packed_of (R s) (S s)))) ∷  -- pack
    does 0x7C (λ s. to_t s (plain (left16_of (R s)))) ∷  -- left 16
    does 0x7E (λ s. to_t s (plain (bits_from s (word_at s) 64))) ∷  -- load word
    does 0x7F (λ s. to_memory s (word_at s) 64 (T s)) ∷  -- store word
    does 0x83 (λ s. items_of_c s 64 (λ i. plain (sum_of (item_a s i) (item_b s i)))) ∷  -- vector add low 48
    does 0x87 (λ s. items_of_c s 64 (λ i. plain (difference_of (item_a s i) (item_b s i)))) ∷  -- vector subtract low 48
    does 0x8A (λ s. items_of_c s 64 (λ i. plain (shift_of (item_a s i) (item_b s i)))) ∷  -- vector shift
    does 0x90 (λ s. items_of_c s 64 (λ i. truncate_of (item_a s i))) ∷  -- vector truncate
    does 0x91 (λ s. items_of_c s 64 (λ i. floor_of (item_a s i))) ∷  -- vector floor
    does 0x92 (λ s. items_of_c s 64 (λ i. ceiling_of (item_a s i))) ∷  -- vector ceiling
    does 0x96 (λ s. items_of_c s 32 (λ i. contract_of false (item_a s i))) ∷  -- vector contract
    does 0x97 (λ s. items_of_c s 32 (λ i. contract_of true (item_a s i))) ∷  -- vector rounded contract
    does 0x98 (λ s. items_of_c s 64 (λ i. plain (item_a s i))) ∷  -- vector transmit
    does 0xB0 (λ s. to_c s (λ unsigned sum z. same sum z)) ∷  -- add, branch if equal
    does 0xB1 (λ s. to_c s (λ unsigned sum z. not (same sum z))) ∷  -- add, branch if not equal
    does 0xB2 (λ s. to_c s (λ unsigned sum z. not (less unsigned sum z))) ∷  -- add, branch if greater or equal
    does 0xB3 (λ s. to_c s (λ unsigned sum z. less unsigned sum z)) ∷  -- add, branch if less
    does 0xB4 (λ s. to_c s (λ unsigned sum z. not (less unsigned z sum))) ∷  -- add, branch if less or equal
    does 0xB5 (λ s. to_c s (λ unsigned sum z. less unsigned z sum)) ∷  -- add, branch if greater
    does 0xF8 (λ s. bytes_of_c s (λ i. byte_of s i)) ∷  -- move bytes left
    []
