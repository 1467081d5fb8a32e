-- The fields of a word are those of what its function means.
use mathlib.Core.Path.{◌≡◌, refl, ap}
use Prim.Native.Nat.{ℕ}
use Rattle.instructions.specs.declared.table.Row.{Row}
use Rattle.instructions.specs.declared.operands.Operands.{Operands}
use Rattle.instructions.specs.declared.table.Kind.{Kind}
use Rattle.std.specs.Prelude.{Option, Some, None}
use Rattle.instructions.specs.Meanings.{Meaning, unlisted, kind_for}
use Rattle.instructions.specs.Table.{kind_of}
use Rattle.instructions.specs.Operands.{code_in, found_in, row_says, meaning_in}
use Rattle.instructions.specs.Layout.{no_fields, of_kind, fields_of}
use Rattle.instructions.proofs.TableRules.{its, its_none}

no_function : (w : ℕ) (o : Operands) {m : Meaning} → m ≡ unlisted → no_fields ≡ of_kind (kind_for m) w o
unfolding of_kind
no_function w o e = rw e

pub fields_mean : (w : ℕ) (o : Operands) → fields_of w o ≡ of_kind (kind_for (meaning_in w)) w o
unfolding fields_of
fields_mean w o = go (found_in w) refl
  where
    go : (f : Option Row) → found_in w ≡ f → row_says no_fields (λ r. of_kind (kind_of r) w o) f ≡ of_kind (kind_for (meaning_in w)) w o
    go None e = no_function w o (its_none (code_in w) e)
    go (Some r) e = ap (λ (k : Kind). of_kind k w o) (its (code_in w) r e).kind
