-- What private functions promise: the cases of a look-up, and parts of the verdict.
use Rattle.std.specs.Prelude.{◌≡◌, Bool, true, false, not, ◌&&◌, List, [], ◌∷◌, ℕ, None}
use Rattle.fields.specs.declared.extents.Field.{Field}
use Rattle.fields.specs.Extents.{aligned, inside}
use Rattle.instructions.specs.declared.operands.Operands.{Operands}
use Rattle.instructions.specs.declared.layout.Fields.{Fields}
use Rattle.instructions.specs.declared.table.Kind.{Kind}
use Rattle.instructions.specs.declared.table.Row.{Row}
use Rattle.instructions.specs.Branches.{goes_to}
use Rattle.fields.specs.declared.extents.Unit.TheVariants.{Byte, Word}
use Rattle.instructions.specs.Layout.{addressed_item}
use Rattle.instructions.specs.Fetch.{unfetched_at}
use Rattle.instructions.specs.Verdict.{off_half_words, field_checks, first_number}

-- N, and no x of the list has the code k.
abbrev pub Past : {A : Type 0} → (A → ℕ) → Type 0 → List A → ℕ → Type 0
Past code N [] k = N
Past code N (x ∷ xs) k = Past code (N × (k ≡ code x → ⊥)) xs k

-- The code of a row.
abbrev pub code_of : Row → ℕ
code_of r = r.0

-- The first of refusals 8 to 11 that fields meet in a memory of n bytes; 0 if they meet none.
unfoldable pub refusal_of : Fields → ℕ → ℕ
refusal_of f n = first_number field_checks (record { p = 0; word = 0; row = None; fields = f; bytes = n })

-- Refusals 8 and 10 let a field pass, in a memory of n bytes.
abbrev pub aligned_inside : Field → ℕ → Bool
aligned_inside f n = aligned f && inside f n

-- A listed word of this kind takes one step, and refusals 8 to 11 let it pass.
unfoldable pub one_step_of : Kind → ℕ → Operands → ℕ → Bool
one_step_of Kind.Exit w o n = false
one_step_of Kind.Register w o n = true
one_step_of Kind.Branch w o n = not (off_half_words (goes_to w o))
one_step_of Kind.LoadByte w o n = aligned_inside (addressed_item Byte o) n
one_step_of Kind.StoreByte w o n = aligned_inside (addressed_item Byte o) n
one_step_of Kind.LoadWord w o n = aligned_inside (addressed_item Word o) n
one_step_of Kind.StoreWord w o n = aligned_inside (addressed_item Word o) n
one_step_of Kind.Compress w o n = false
one_step_of Kind.Merge w o n = false
one_step_of Kind.Mask w o n = false
one_step_of Kind.TwoSources w o n = false
one_step_of Kind.OneSource w o n = false
one_step_of Kind.HalfResult w o n = false
one_step_of Kind.Move w o n = false

-- A long word is not wholly in memory: refusal 4.
abbrev pub cut_off : ℕ → Bool → ℕ → Bool
cut_off p is_long n = is_long && unfetched_at p true n
