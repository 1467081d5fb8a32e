-- What this layer promises beside the functions' own contracts: open it first. What the layer above needs of an instruction, whatever it does, is in `Steps`.
use mathlib.Core.Path.{◌≡◌, sym, ap, ◌∙◌}
use mathlib.Core.Bool.{true}
use mathlib.Core.List.{List}
use Prim.Native.Nat.{ℕ, ◌^◌, ◌<◌}
use Rattle.fields.specs.Bytes.{Bytes}
use Rattle.fields.proofs.Lists.{num_inj}
use Rattle.instructions.specs.declared.operands.Operands.{Operands}
use Rattle.std.specs.Prelude.{Some, Ok, Err}
use Rattle.instructions.specs.declared.words.Parts.{Parts}
use Rattle.instructions.specs.declared.words.Refusal.{Refusal}
use Rattle.instructions.specs.Table.{Line, table, row_of, found, meaning_of}
use Rattle.instructions.specs.Words.{parts_of, joined, reading, assembled}
use Rattle.instructions.specs.Verdict.{field_checks, first_number, case_of}
use Rattle.instructions.specs.Items.{MemoryAndFlags}
use Rattle.instructions.specs.Instruction.{by_items, count_of, Done, WorksTo, ActsTo}
use Rattle.instructions.specs.Examples.{Each, examples}
use Rattle.instructions.specs.Private.Inner.{refusal_of}
use Rattle.instructions.proofs.WordsRoundTrip as RoundTrip
use Rattle.instructions.proofs.WordsRoundTrip.{Whole}
use Rattle.instructions.proofs.TableRules.{In, one_meaning}
use Rattle.instructions.proofs.VerdictEmpty.{no_items_pass}
use Rattle.instructions.proofs.Examples.{examples_hold}

-- ---- 1. WORDS AND PARTS (demand 2)

-- §3.15: a listed word taken into its parts and put together again is the same word.
pub taken_apart_and_joined : (w : ℕ) (p : Parts) → w < 2 ^ 64 → reading w ≡ Ok p → assembled p ≡ Ok w
taken_apart_and_joined = RoundTrip.read_assembled

-- §3.15: parts that are accepted read back the same.
pub joined_and_taken_apart : (p : Parts) (w : ℕ) → Whole p → assembled p ≡ Ok w → reading w ≡ Ok p
joined_and_taken_apart = RoundTrip.assembled_read

-- §3.15: putting together refuses what reading refuses, under the same number.
pub refused_either_way : (p : Parts) (n : Refusal) → assembled p ≡ Err n → reading (joined p) ≡ Err n
refused_either_way = RoundTrip.refused_alike

pub refused_apart : (w : ℕ) (n : Refusal) → w < 2 ^ 64 → reading w ≡ Err n → assembled (parts_of w) ≡ Err n
refused_apart = RoundTrip.read_refused_alike

-- ---- 2. EACH CODE ONCE (demand 2)

-- §3.8: each line of the table is the one that its code is looked up to: a listed code has one row and one meaning, and each row and each meaning has a code.
pub each_code_once : (l : Line) → In l table → (found l.code ≡ Some (row_of l)) × (meaning_of l.code ≡ l.means)
each_code_once = one_meaning

-- ---- 3. NOTHING TO CHECK (demand 1)

-- §12.19: an instruction that goes by items and has none is refused by none of 8 to 11.
pub no_items_skip : (p w : ℕ) (o : Operands) (n : ℕ) → by_items w ≡ true → count_of w o ≡ 0 → first_number field_checks (case_of p w o n) ≡ 0
unfolding refusal_of
no_items_skip p w o n = no_items_pass w o n

-- ---- 4. ONE OUTCOME (demand 1)

-- §13.1: what the contract of `work` says of memory and flags is met by one memory and one set of flags; what that of `act` says, by one memory, one list
-- of registers, one P and one set of flags. Every other public function's contract is an equation with its result, or of a verdict with its number,
-- which no other verdict has (`VerdictSteps.one_verdict`).
pub works_once : (w : ℕ) (o : Operands) (from count : ℕ) (m : List ℕ) (f : ℕ) (m' m'' : List ℕ) (f' f'' : ℕ) → Bytes m' → Bytes m''
    → WorksTo w o from count m f m' f' → WorksTo w o from count m f m'' f'' → (m' ≡ m'') × (f' ≡ f'')
works_once w o from count m f m' m'' f' f'' b b' k l =
    let e = k.1 ∙ sym l.1 in
    (num_inj m' m'' b b' (k.0 ∙ sym l.0) (ap (λ (x : MemoryAndFlags). x.memory) e), ap (λ (x : MemoryAndFlags). x.flags) e)

pub acts_once : (p w : ℕ) (o : Operands) (m r : List ℕ) (f : ℕ) (m' m'' r' r'' : List ℕ) (p' p'' f' f'' : ℕ) → Bytes m' → Bytes m''
    → ActsTo p w o m r f m' r' p' f' → ActsTo p w o m r f m'' r'' p'' f'' → (m' ≡ m'') × (r' ≡ r'') × (p' ≡ p'') × (f' ≡ f'')
acts_once p w o m r f m' m'' r' r'' p' p'' f' f'' b b' k l =
    let e = k.1 ∙ sym l.1 in (
      num_inj m' m'' b b' (k.0 ∙ sym l.0) (ap (λ (d : Done). d.memory) e),
      ap (λ (d : Done). d.registers) e,
      ap (λ (d : Done). d.p) e,
      ap (λ (d : Done). d.flags) e,
    )

-- ---- 5. EXAMPLES (demand 2)

-- The scope paper's examples 1 to 5, 7 and 9 to 14, one table.
pub as_in_the_examples : Each examples
as_in_the_examples = examples_hold
