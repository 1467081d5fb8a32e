-- The one table of function codes: a line for each, with its format, its G bits, its designators and its meaning; and how a code is looked up.
-- Section 3 of docs/MACHINE.md; what the lines say is in its sections 5 to 9.
use Rattle.std.specs.Prelude.{Bool, false, true, not, cond, ◌||◌, List, [], ◌∷◌, map, ℕ, ◌+◌, ◌-◌, ◌*◌, ◌^◌, eqb, slice_get, Option, Some, None}
use Rattle.std.specs.Int.Bits.{bit_and, bit_or, bit_xor}
use Rattle.numbers.specs.Whole.{truncate_of, floor_of, ceiling_of}
use Rattle.numbers.specs.Contract.{contract_of}
use Rattle.numbers.specs.Shift.{shift_of}
use Rattle.numbers.specs.Words.{sum_of, difference_of, exponent_word, packed_of, left16_of}
use Rattle.numbers.specs.declared.flags.Made.{Made}
use Rattle.fields.specs.declared.gathers.Rule.{Rule}
use Rattle.instructions.specs.declared.table.Kind.{Kind}
use Rattle.instructions.specs.declared.table.Row.{Row}
use Rattle.instructions.specs.Meanings.{plain, same, less, Act, to_t, to_half_t, loads_byte, loads_word, stores_byte, stores_word, gathers, each_of_a_b, each_of_a, half_of_a, moves, Meaning, unlisted, exits, acts, branches, works, kind_for}

-- ---- places in a word

-- §3.2: the places of R, S and T in a word, a byte each.
abbrev pub at_r : ℕ
at_r = 0x00FF_0000_0000_0000

abbrev pub at_s : ℕ
at_s = 0x0000_FF00_0000_0000

abbrev pub at_t : ℕ
at_t = 0x0000_00FF_0000_0000

-- §3.12: T where it names a half word: its last bit only tells which half of a register.
abbrev pub at_half_t : ℕ
at_half_t = 0x0000_00FE_0000_0000

-- §3.3: the places of X, A, Y, B and C; the table asks nothing of Z.
abbrev pub at_x : ℕ
at_x = 0x0000_FF00_0000_0000

abbrev pub at_a : ℕ
at_a = 0x0000_00FF_0000_0000

abbrev pub at_y : ℕ
at_y = 0x0000_0000_FF00_0000

abbrev pub at_b : ℕ
at_b = 0x0000_0000_00FF_0000

abbrev pub at_c : ℕ
at_c = 0x0000_0000_0000_00FF

-- §3.5: G bit k, from the left, as a number of 8 bits.
abbrev pub G : ℕ → ℕ
G k = 2 ^ (7 - k)

-- ---- lines

-- §3.8: a code, its format, the G bits that may be one, the designators that must be zero, those in which 00 has no meaning, and what the code means.
pub record Line : Type 0 where
  pub code : ℕ
  pub format : ℕ
  pub allowed : ℕ
  pub zeros : ℕ
  pub named : ℕ
  pub means : Meaning

-- A line of its six parts.
abbrev pub line_of : ℕ → ℕ → ℕ → ℕ → ℕ → Meaning → Line
line_of k f g z n m = record { code = k; format = f; allowed = g; zeros = z; named = n; means = m }

-- §5.6, §5.7, §5.8, §5.9, §5.10, §5.18: format 4: T becomes what f makes of R and S.
abbrev pub three_registers : ℕ → (ℕ → ℕ → ℕ) → Line
three_registers k f = line_of k 0x4 0 0 (at_r + at_s + at_t) (acts (to_t (λ r s. plain (f r s))))

-- §5.11, §5.12, §5.13, §5.16, §5.17, §5.19: format A: T becomes what f makes of R, and the place of S is zero.
abbrev pub two_registers : ℕ → (ℕ → Made ℕ) → Line
two_registers k f = line_of k 0xA 0 at_s (at_r + at_t) (acts (to_t (λ r s. f r)))

-- §5.14, §5.15: the same, T being a half word.
abbrev pub two_registers_half : ℕ → (ℕ → Made ℕ) → Line
two_registers_half k f = line_of k 0xA 0 at_s (at_r + at_half_t) (acts (to_half_t (λ r s. f r)))

-- §5.4, §5.5, §5.20, §5.21: format 7: T, and an address of R and S.
abbrev pub addressed : ℕ → Act → Line
addressed k a = line_of k 0x7 0 0 (at_r + at_s + at_t) (acts a)

-- §8.4, §8.5, §8.6: format 7: R, S and T are descriptors of bits.
abbrev pub bit_fields : ℕ → Rule → Line
bit_fields k rule = line_of k 0x7 0 0 (at_r + at_s + at_t) (works (gathers rule))

-- §7.8, §7.9, §7.10: format 1, of A and B: G bits 1, 3 and 4; X and Y are zero.
abbrev pub vector_two : ℕ → (ℕ → ℕ → ℕ) → Line
vector_two k f = line_of k 0x1 (G 1 + G 3 + G 4) (at_x + at_y) (at_a + at_b + at_c) (works (each_of_a_b (λ a b. plain (f a b))))

-- §7.11, §7.12, §7.13, §7.16: format 1, of A alone: G bits 1 and 3; B is zero too.
abbrev pub vector_one : ℕ → (ℕ → Made ℕ) → Line
vector_one k f = line_of k 0x1 (G 1 + G 3) (at_x + at_y + at_b) (at_a + at_c) (works (each_of_a f))

-- §7.14, §7.15: the same with half words in C: G bit 1.
abbrev pub vector_half : ℕ → (ℕ → Made ℕ) → Line
vector_half k f = line_of k 0x1 (G 1) (at_x + at_y + at_b) (at_a + at_c) (works (half_of_a f))

-- §6.5, §6.6, §6.7, §6.8, §6.9, §6.10: format C: G bit 4; 00 has a meaning in A, X, Y and Z.
abbrev pub add_branch : ℕ → (Bool → ℕ → ℕ → Bool) → Line
add_branch k c = line_of k 0xC (G 4) 0 (at_b + at_c) (branches c)

-- §3.8: the table, a line for each of the 38 codes. The builders above name the rules; code 09 is §5.3, and code F8 is §9.1.
abbrev pub table : List Line
table =
    line_of 0x09 0x4 0 (at_r + at_s + at_t) 0 exits ∷  -- exit
    addressed 0x12 loads_byte ∷  -- load byte
    addressed 0x13 stores_byte ∷  -- store byte
    bit_fields 0x14 Rule.Compress ∷  -- bit compress
    bit_fields 0x15 Rule.Merge ∷  -- bit merge
    bit_fields 0x16 Rule.Mask ∷  -- bit mask
    three_registers 0x2C bit_xor ∷  -- exclusive or
    three_registers 0x2D bit_and ∷  -- and
    three_registers 0x2E bit_or ∷  -- inclusive or
    three_registers 0x63 sum_of ∷  -- add low 48
    three_registers 0x67 difference_of ∷  -- subtract low 48
    two_registers 0x70 truncate_of ∷  -- truncate
    two_registers 0x71 floor_of ∷  -- floor
    two_registers 0x72 ceiling_of ∷  -- ceiling
    two_registers_half 0x76 (contract_of false) ∷  -- contract
    two_registers_half 0x77 (contract_of true) ∷  -- rounded contract
    two_registers 0x78 (λ r. plain r) ∷  -- transmit
    two_registers 0x7A (λ r. plain (exponent_word r)) ∷  -- exponent
    three_registers 0x7B packed_of ∷  -- pack
    two_registers 0x7C (λ r. plain (left16_of r)) ∷  -- left 16
    addressed 0x7E loads_word ∷  -- load word
    addressed 0x7F stores_word ∷  -- store word
    vector_two 0x83 sum_of ∷  -- vector add low 48
    vector_two 0x87 difference_of ∷  -- vector subtract low 48
    vector_two 0x8A shift_of ∷  -- vector shift
    vector_one 0x90 truncate_of ∷  -- vector truncate
    vector_one 0x91 floor_of ∷  -- vector floor
    vector_one 0x92 ceiling_of ∷  -- vector ceiling
    vector_half 0x96 (contract_of false) ∷  -- vector contract
    vector_half 0x97 (contract_of true) ∷  -- vector rounded contract
    vector_one 0x98 (λ a. plain a) ∷  -- vector transmit
    add_branch 0xB0 (λ u m n. same m n) ∷  -- add, branch if equal
    add_branch 0xB1 (λ u m n. not (same m n)) ∷  -- add, branch if not equal
    add_branch 0xB2 (λ u m n. not (less u m n)) ∷  -- add, branch if greater or equal
    add_branch 0xB3 (λ u m n. less u m n) ∷  -- add, branch if less
    add_branch 0xB4 (λ u m n. not (less u n m)) ∷  -- add, branch if less or equal
    add_branch 0xB5 (λ u m n. less u n m) ∷  -- add, branch if greater
    line_of 0xF8 0x3 0 at_y (at_a + at_c) (works moves) ∷  -- move bytes left
    []

-- ---- rows: what the program's own table (src/table.rt) has of a line

-- A line with its kind in the place of its meaning.
abbrev pub row_of : Line → Row
row_of l = (l.code, l.format, l.allowed, l.zeros, l.named, kind_for l.means)

-- The parts of a row behind its code: format, G bits that may be one, designators that must be zero, designators in which 00 has no meaning, kind.
abbrev pub format_of : Row → ℕ
format_of r = r.1

abbrev pub allowed_of : Row → ℕ
allowed_of r = r.2

abbrev pub zero_of : Row → ℕ
zero_of r = r.3

abbrev pub named_of : Row → ℕ
named_of r = r.4

abbrev pub kind_of : Row → Kind
kind_of r = r.5

-- §10.2: the instructions of a kind go by items.
abbrev pub has_items : Kind → Bool
has_items Kind.Exit = false
has_items Kind.Register = false
has_items Kind.Branch = false
has_items Kind.LoadByte = false
has_items Kind.StoreByte = false
has_items Kind.LoadWord = false
has_items Kind.StoreWord = false
has_items Kind.Compress = true
has_items Kind.Merge = true
has_items Kind.Mask = true
has_items Kind.TwoSources = true
has_items Kind.OneSource = true
has_items Kind.HalfResult = true
has_items Kind.Move = true

-- §3.1: the words of a format have 64 bits, and a G.
abbrev pub long : ℕ → Bool
long f = eqb f 0x1 || eqb f 0x3 || eqb f 0xC

-- §3.10: the format of vectors.
abbrev pub vector_format : ℕ → Bool
vector_format f = eqb f 0x1

-- §3.9, §3.4: the bits that must be zero: designators, and the G bits that are not allowed or, in a 32-bit word, the right half.
abbrev pub zero_bits : Row → ℕ
zero_bits r = bit_or (zero_of r) (cond (long (format_of r)) ((0xFF - allowed_of r) * 2 ^ 48) 0xFFFF_FFFF)

-- ---- how a code is looked up

-- What is said of the first x that has the code k; `none` where no x has it.
abbrev pub look_up : {A B : Type 0} → (A → ℕ) → (A → B) → B → ℕ → List A → B
look_up code says none k [] = none
look_up code says none k (x ∷ xs) = cond (eqb k (code x)) (says x) (look_up code says none k xs)

-- The row of the first line with the code k.
abbrev pub find : ℕ → List Line → Option Row
find k ls = look_up (λ l. l.code) (λ l. Some (row_of l)) None k ls

-- §3.8, §12.9: the row of a code, or that it has none.
unfoldable pub found : ℕ → Option Row
found k = find k table

-- §3.8: what a code means.
unfoldable pub meaning_of : ℕ → Meaning
meaning_of k = look_up (λ l. l.code) (λ l. l.means) unlisted k table

-- The row at a place of the table.
unfoldable pub placed : ℕ → Option Row
placed i = slice_get (map row_of table) i
