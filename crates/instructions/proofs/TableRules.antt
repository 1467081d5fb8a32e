-- The rules of the table, each a test that is computed over all its lines once.
use mathlib.Core.Path.{◌≡◌, refl, sym, ap, subst, ◌∙◌}
use mathlib.Core.Bool.{Bool, true, false, not, ◌&&◌, ◌||◌, beq}
use mathlib.Core.List.{List, [], ◌∷◌}
use Prim.Native.Nat.{ℕ, ◌+◌, ◌^◌, ◌<◌}
use native.Mathlib.Omega.{arith}
use lib.Bits.{bit_and}
use lib.Dec.{eqb, ltb, leb, T, ltb→lt}
use borrow.Author.Tests.{eq-eqb, ne_eqb}
use Rattle.fields.specs.Field.{field}
use Rattle.fields.specs.declared.gathers.Rule.{Rule}
use Rattle.instructions.specs.declared.table.Kind.{Kind}
use Rattle.instructions.specs.declared.table.Row.{Row}
use Rattle.std.specs.Prelude.{Some, None}
use Rattle.instructions.specs.Meanings.{goes_by_items, kind_for, to_t, to_half_t, loads_byte, loads_word, stores_byte, stores_word, gathers, each_of_a_b, each_of_a, half_of_a, moves, Meaning, unlisted, exits, acts, branches, works}
use Rattle.instructions.specs.Table.{at_s, at_x, at_y, G, Line, table, row_of, kind_of, long, vector_format, zero_bits, look_up, found, meaning_of, has_items}
use Rattle.instructions.specs.Private.Inner.{code_of}
use Rattle.instructions.proofs.Conjunctions.{and_first, and_rest}
use Rattle.instructions.proofs.TablePlaces.{every, Looked, has, none, looked}

-- ---- meanings

-- a line has a meaning
abbrev meant : Meaning → Bool
meant unlisted = false
meant exits = true
meant (acts a) = true
meant (branches c) = true
meant (works k) = true

-- a vector of two sources, and of one
abbrev pub of_two : Meaning → Bool
of_two unlisted = false
of_two exits = false
of_two (acts a) = false
of_two (branches c) = false
of_two (works (gathers rule)) = false
of_two (works (each_of_a_b f)) = true
of_two (works (each_of_a f)) = false
of_two (works (half_of_a f)) = false
of_two (works moves) = false

abbrev pub of_one : Meaning → Bool
of_one unlisted = false
of_one exits = false
of_one (acts a) = false
of_one (branches c) = false
of_one (works (gathers rule)) = false
of_one (works (each_of_a_b f)) = false
of_one (works (each_of_a f)) = true
of_one (works (half_of_a f)) = true
of_one (works moves) = false

-- ---- the rules

-- the codes go up, so that no two lines have the same, and each line has its meaning, which is the one that is looked up
abbrev pub ascending : ℕ → List Line → Bool
ascending k [] = true
ascending k (l ∷ ls) = ltb k l.code && (meant l.means && ascending l.code ls)

-- formats are 1, 3, 4, 7, A and C, and the format decides the length: codes below 80 have 32 bits
abbrev pub length_rule : Line → Bool
length_rule l = beq (long l.format) (leb 0x80 l.code) && (long l.format || eqb l.format 0x4 || eqb l.format 0x7 || eqb l.format 0xA)

-- the format goes with what the code does; 4 and A are those of register instructions, A without S (`format_a_rule`)
abbrev pub format_is : Meaning → ℕ → Bool
format_is unlisted f = false
format_is exits f = eqb f 0x4
format_is (acts (to_t g)) f = eqb f 0x4 || eqb f 0xA
format_is (acts (to_half_t g)) f = eqb f 0xA
format_is (acts loads_byte) f = eqb f 0x7
format_is (acts loads_word) f = eqb f 0x7
format_is (acts stores_byte) f = eqb f 0x7
format_is (acts stores_word) f = eqb f 0x7
format_is (branches c) f = eqb f 0xC
format_is (works (gathers rule)) f = eqb f 0x7
format_is (works (each_of_a_b g)) f = eqb f 0x1
format_is (works (each_of_a g)) f = eqb f 0x1
format_is (works (half_of_a g)) f = eqb f 0x1
format_is (works moves) f = eqb f 0x3

abbrev pub format_rule : Line → Bool
format_rule l = format_is l.means l.format

-- only a format with a G has allowed G bits
abbrev pub allowed_rule : Line → Bool
allowed_rule l = long l.format || eqb l.allowed 0

-- F is neither to be zero nor named, and no designator is both
abbrev pub apart_rule : Line → Bool
apart_rule l = ltb (zero_bits (row_of l)) (2 ^ 56) && ltb l.named (2 ^ 56) && eqb (bit_and (zero_bits (row_of l)) l.named) 0

-- format A has eight zero bits where S would be, and of format 4 no other than the exit has
abbrev pub format_a_rule : Line → Bool
format_a_rule l =
    (not (eqb l.format 0xA) || eqb (bit_and l.zeros at_s) at_s)
    && (not (eqb l.format 0x4) || eqb l.code 0x09 || eqb (bit_and l.zeros at_s) 0)

-- the vectors are those of format 1; X and Y are zero there, G bit 1 is allowed, and Z may be 00 or not
abbrev pub vector_rule : Line → Bool
vector_rule l =
    beq (vector_format l.format) (of_two l.means || of_one l.means)
    && (not (vector_format l.format) || (eqb (bit_and l.zeros (at_x + at_y)) (at_x + at_y) && eqb (bit_and l.allowed (G 1)) (G 1) && eqb (bit_and (zero_bits (row_of l) + l.named) 0xFF00) 0))

-- B is named where it is a source, and zero where only A is
abbrev pub second_rule : Line → Bool
second_rule l = (not (of_two l.means) || eqb (field 64 40 8 l.named) 0xFF) && (not (of_one l.means) || eqb (field 64 40 8 (zero_bits (row_of l))) 0xFF)

-- a result that goes to a register has its designator named: T, a half word T, C of a branch
abbrev pub result_named : Meaning → ℕ → Bool
result_named unlisted named = true
result_named exits named = true
result_named (acts (to_t f)) named = eqb (field 64 24 8 named) 0xFF
result_named (acts (to_half_t f)) named = eqb (field 64 24 8 named) 0xFE
result_named (acts loads_byte) named = eqb (field 64 24 8 named) 0xFF
result_named (acts loads_word) named = eqb (field 64 24 8 named) 0xFF
result_named (acts stores_byte) named = true
result_named (acts stores_word) named = true
result_named (branches c) named = eqb (field 64 56 8 named) 0xFF
result_named (works k) named = true

abbrev pub result_rule : Line → Bool
result_rule l = result_named l.means l.named

-- 09 is the exit
abbrev pub ends : Kind → Bool
ends Kind.Exit = true
ends Kind.Register = false
ends Kind.Branch = false
ends Kind.LoadByte = false
ends Kind.StoreByte = false
ends Kind.LoadWord = false
ends Kind.StoreWord = false
ends Kind.Compress = false
ends Kind.Merge = false
ends Kind.Mask = false
ends Kind.TwoSources = false
ends Kind.OneSource = false
ends Kind.HalfResult = false
ends Kind.Move = false

abbrev pub exit_rule : Line → Bool
exit_rule l = beq (ends (kind_for l.means)) (eqb l.code 0x09)

abbrev pub rule : Line → Bool
rule l = length_rule l && format_rule l && allowed_rule l && apart_rule l && format_a_rule l && vector_rule l && second_rule l && result_rule l && exit_rule l

pub codes_ascend : T (ascending 0 table)
codes_ascend = tt

pub rules_hold : T (every rule table)
unfolding every
rules_hold = tt

-- ---- each line is the one that its code is looked up to: a row has one meaning, and a meaning one row

pub data In {A : Type 0} (l : A) : List A → Type 0 where
  here : {ls : List A} → In l (l ∷ ls)
  there : {x : A} {ls : List A} → In l ls → In l (x ∷ ls)

above : {l : Line} (k : ℕ) {ls : List Line} → In l ls → T (ascending k ls) → k < l.code
above {l} k here t = ltb→lt k l.code (and_first (ltb k l.code) _ t)
above {l} k (there {x} {ls} i) t =
    let lower = ltb→lt k x.code (and_first (ltb k x.code) _ t) in
    let later = above x.code i (and_rest (meant x.means) _ (and_rest (ltb k x.code) _ t)) in
    omega arith

looked_up : {B : Type 0} {l : Line} (says : Line → B) (else : B) (k : ℕ) {ls : List Line} → In l ls → T (ascending k ls) → look_up (λ x. x.code) says else l.code ls ≡ says l
looked_up {l = l} says else k here t = rw (eq-eqb l.code l.code refl)
looked_up {l = l} says else k (there {x} {ls} i) t =
    let rest = and_rest (meant x.means) _ (and_rest (ltb k x.code) _ t) in
    let later = above x.code i rest in
    rw (ne_eqb l.code x.code (λ e. omega arith)) (looked_up says else x.code i rest)

pub one_meaning : (l : Line) → In l table → (found l.code ≡ Some (row_of l)) × (meaning_of l.code ≡ l.means)
unfolding found meaning_of
one_meaning l i = (looked_up (λ x. Some (row_of x)) None 0 i codes_ascend, looked_up (λ x. x.means) unlisted 0 i codes_ascend)

-- ---- what `found` gives

-- any test that the whole table passes
pub row_passes : (f : Row → Bool) → T (every (λ l. f (row_of l)) table) → (k : ℕ) (r : Row) → found k ≡ Some r → T (f r)
row_passes f t k r e = go (looked k)
  where
    go : Looked k → T (f r)
    go (has l c q h m) = let i : row_of l ≡ r = cc in subst (λ (x : Row). T (f x)) i (q (λ x. f (row_of x)) t)
    go (none h m) = let z : ◌≡◌ {A = ℕ} 0 1 = cc in absurd (omega arith)

-- its code is the one that was looked up
pub found_code : (k : ℕ) (r : Row) → found k ≡ Some r → code_of r ≡ k
found_code k r e = go (looked k)
  where
    go : Looked k → code_of r ≡ k
    go (has l c q h m) = let i : row_of l ≡ r = cc in subst (λ (x : Row). code_of x ≡ k) i c
    go (none h m) = let z : ◌≡◌ {A = ℕ} 0 1 = cc in absurd (omega arith)

-- ---- the kind of a row

same_test : (a b : Bool) → T (beq a b) → a ≡ b
same_test true true t = refl
same_test false false t = refl
same_test true false t = absurd t
same_test false true t = absurd t

kind_items : (m : Meaning) → has_items (kind_for m) ≡ goes_by_items m
kind_items unlisted = refl
kind_items exits = refl
kind_items (acts (to_t f)) = refl
kind_items (acts (to_half_t f)) = refl
kind_items (acts loads_byte) = refl
kind_items (acts loads_word) = refl
kind_items (acts stores_byte) = refl
kind_items (acts stores_word) = refl
kind_items (branches c) = refl
kind_items (works (gathers Rule.Compress)) = refl
kind_items (works (gathers Rule.Merge)) = refl
kind_items (works (gathers Rule.Mask)) = refl
kind_items (works (each_of_a_b f)) = refl
kind_items (works (each_of_a f)) = refl
kind_items (works (half_of_a f)) = refl
kind_items (works moves) = refl

-- what a row says of its code: its kind is that of the code's meaning, and only 09 exits
pub record Its (k : ℕ) (r : Row) : Type 0 where
  pub kind : kind_of r ≡ kind_for (meaning_of k)
  pub items : has_items (kind_of r) ≡ goes_by_items (meaning_of k)
  pub exit : ends (kind_of r) ≡ eqb k 0x09

pub its : (k : ℕ) (r : Row) → found k ≡ Some r → Its k r
unfolding every
its k r e = go (looked k)
  where
    go : Looked k → Its k r
    go (has l c q h m) =
        let i : r ≡ row_of l = cc in
        let kind : kind_of r ≡ kind_for (meaning_of k) = ap kind_of i ∙ ap kind_for (sym m) in
        record {
          kind = kind;
          items = ap has_items kind ∙ kind_items (meaning_of k);
          exit = ap (λ (x : Row). ends (kind_of x)) i ∙ same_test _ _ (q exit_rule tt) ∙ ap (λ (j : ℕ). eqb j 0x09) c;
        }
    go (none h m) = let z : ◌≡◌ {A = ℕ} 0 1 = cc in absurd (omega arith)

-- of a code that has no row
pub its_none : (k : ℕ) → found k ≡ None → meaning_of k ≡ unlisted
its_none k e = go (looked k)
  where
    go : Looked k → meaning_of k ≡ unlisted
    go (has l c q h m) = let z : ◌≡◌ {A = ℕ} 0 1 = cc in absurd (omega arith)
    go (none h m) = m
