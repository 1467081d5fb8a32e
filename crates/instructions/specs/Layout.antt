-- The fields of an instruction: where its result, its sources and its control field lie, and how far they run. §12.18 of docs/MACHINE.md lists them.
use Rattle.std.specs.Prelude.{Bool, true, false, cond, not, ◌&&◌, ◌||◌, ℕ, min, eqb, ltb, None}
use Rattle.numbers.specs.Words.{low48}
use Rattle.fields.specs.declared.extents.Unit as U
use Rattle.fields.specs.declared.extents.Unit.TheVariants.{Bit, Byte, HalfWord, Word}
use Rattle.fields.specs.declared.extents.Field.{Field}
use Rattle.fields.specs.declared.gathers.Runs.{Runs}
use Rattle.fields.specs.Field.{field}
use Rattle.fields.specs.Extents.{field_of, absent_field}
use Rattle.fields.specs.Gathers.{compress_items, merge_items, compress_r, merge_r, merge_s, mask_r, mask_s}
use Rattle.instructions.specs.declared.operands.Operands.{Operands}
use Rattle.instructions.specs.declared.layout.Fields.{Fields}
use Rattle.instructions.specs.Operands.{found_in, row_says, g_bit, R, S, T, length_in, base_in, indexed, address_in}
use Rattle.instructions.specs.Branches.{goes_to}
use Rattle.instructions.specs.declared.table.Kind.{Kind}
use Rattle.instructions.specs.Table.{kind_of}

-- The fields of an instruction that is no branch; `short` is what refusal 9 asks.
abbrev pub fields_at : Field → Field → Field → Field → Bool → Fields
fields_at result first second control short =
    record { result = result; first = first; second = second; control = control; short = short; target = None }

-- §12.18: an exit and what works on registers alone have none.
abbrev pub no_fields : Fields
no_fields = fields_at absent_field absent_field absent_field absent_field false

-- ---- loads and stores (codes 12, 13, 7E, 7F)

-- §5.2: the one byte or word at R plus S.
abbrev pub addressed_item : U.Unit → Operands → Field
addressed_item u o = field_of u (address_in u o) 1

-- §12.18: a load has it as a source.
abbrev pub load_at : Field → Fields
load_at f = fields_at absent_field f absent_field absent_field false

-- §12.18: a store has it as its result.
abbrev pub store_at : Field → Fields
store_at f = fields_at f absent_field absent_field absent_field false

-- ---- vectors

-- §7.3, §7.4: n words from the base in d on; no field where the source is broadcast, or there is none (`free`).
unfoldable pub source_of : Bool → ℕ → ℕ → Field
source_of free d n = cond free absent_field (field_of Word (base_in d) n)

-- §7.3, §12.13: refusal 9: a source that is a field and has fewer than n items.
unfoldable pub short_of : Bool → ℕ → ℕ → Bool
short_of free d n = not free && ltb (length_in d) n

-- §7.5: n bits from the base in z on; no field with Z 00.
unfoldable pub control_of : ℕ → ℕ → ℕ → Field
control_of w z n = cond (eqb (field 64 48 8 w) 0) absent_field (field_of Bit (base_in z) n)

-- §7.1, §7.2: as many items as C says, from its base on; half words for codes 96 and 97.
abbrev pub result_of : U.Unit → Operands → Field
result_of u o = field_of u (base_in o.c) (length_in o.c)

-- §12.18: a vector, of its word, operands and result field; `one` where A is the only source.
unfoldable pub vector_of : ℕ → Operands → Field → Bool → Fields
vector_of w o result one =
    fields_at result
    (source_of (g_bit 3 w) o.a (length_in o.c))
    (source_of (one || g_bit 4 w) o.b (length_in o.c))
    (control_of w o.z (length_in o.c))
    (short_of (g_bit 3 w) o.a (length_in o.c) || short_of (one || g_bit 4 w) o.b (length_in o.c))

-- ---- bit fields

-- §8.1: r, s and n are the lengths in R, S and T.
abbrev pub runs_of : Operands → Runs
runs_of o = record { r = length_in (R o); s = length_in (S o); n = length_in (T o) }

-- §8.2: n bits of S; no field where its low 48 are zero.
unfoldable pub zeros_of : ℕ → ℕ → Field
zeros_of d n = cond (eqb (low48 d) 0) absent_field (field_of Bit (base_in d) n)

-- §8.4, §12.18: compress reads R alone; of S only the length counts.
abbrev pub compress_of : Operands → Fields
compress_of o =
    fields_at (field_of Bit (base_in (T o)) (compress_items (runs_of o)))
    (field_of Bit (base_in (R o)) (compress_r (runs_of o)))
    absent_field absent_field false

-- §12.18: merge or mask of n items, which read so many bits of R and of S.
abbrev pub woven_of : Operands → ℕ → ℕ → ℕ → Fields
woven_of o n r s =
    fields_at (field_of Bit (base_in (T o)) n) (field_of Bit (base_in (R o)) r) (zeros_of (S o) s) absent_field false

-- §8.3, §8.5: what merge reads.
abbrev pub merge_of : Operands → Fields
merge_of o = woven_of o (merge_items (runs_of o)) (merge_r (runs_of o)) (merge_s (runs_of o))

-- §8.3, §8.6: what mask reads.
abbrev pub mask_of : Operands → Fields
mask_of o = woven_of o (merge_items (runs_of o)) (mask_r (runs_of o)) (mask_s (runs_of o))

-- ---- move

-- §9.2, §9.3: the result at C plus Z bytes, and of the source at A plus X bytes as many bytes as are read.
abbrev pub move_of : Operands → Fields
move_of o =
    fields_at (field_of Byte (indexed Byte o.c o.z) (length_in o.c))
    (field_of Byte (indexed Byte o.a o.x) (min (length_in o.a) (length_in o.c)))
    absent_field absent_field false

-- ---- compare and branch

-- §6.4, §12.18: no field, but where it goes to if it is taken.
abbrev pub branch_fields : ℕ → Operands → Fields
branch_fields w o =
    record {
      result = absent_field;
      first = absent_field;
      second = absent_field;
      control = absent_field;
      short = false;
      target = goes_to w o;
    }

-- ---- by kind

-- §12.18: the fields of a word, by the kind that its row has.
unfoldable pub of_kind : Kind → ℕ → Operands → Fields
of_kind Kind.Exit w o = no_fields
of_kind Kind.Register w o = no_fields
of_kind Kind.Branch w o = branch_fields w o
of_kind Kind.LoadByte w o = load_at (addressed_item Byte o)
of_kind Kind.StoreByte w o = store_at (addressed_item Byte o)
of_kind Kind.LoadWord w o = load_at (addressed_item Word o)
of_kind Kind.StoreWord w o = store_at (addressed_item Word o)
of_kind Kind.Compress w o = compress_of o
of_kind Kind.Merge w o = merge_of o
of_kind Kind.Mask w o = mask_of o
of_kind Kind.TwoSources w o = vector_of w o (result_of Word o) false
of_kind Kind.OneSource w o = vector_of w o (result_of Word o) true
of_kind Kind.HalfResult w o = vector_of w o (result_of HalfWord o) true
of_kind Kind.Move w o = move_of o

-- §12.17, §12.18: the fields of a word, from the word and its operands alone.
unfoldable pub fields_of : ℕ → Operands → Fields
fields_of w o = row_says no_fields (λ r. of_kind (kind_of r) w o) (found_in w)
