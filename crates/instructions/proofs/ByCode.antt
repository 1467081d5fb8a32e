-- A code picks its line of the table: the one that has it, or none.
use mathlib.Core.Path.{◌≡◌}
use mathlib.Core.Bool.{Bool, false}
use Prim.Native.Nat.{ℕ}
use lib.Dec.{T}
use Rattle.instructions.specs.Meanings.{Meaning, unlisted}
use Rattle.instructions.specs.Table.{Line, table, meaning_of}
use Rattle.instructions.specs.Private.Inner.{Past}
use Rattle.instructions.proofs.TablePlaces.{every, Looked, has, none, looked, those, other}

-- the meaning of a code that is none of those that pass a test
pub not_of : (f : Meaning → Bool) → f unlisted ≡ false → (k : ℕ) → Past (λ (l : Line). l.code) (Unit {0}) (those (λ l. f l.means) table) k → f (meaning_of k) ≡ false
not_of f u k p = go (looked k) (other (λ l. f l.means) k p)
  where
    go : Looked k → ((l : Line) → l.code ≡ k → ((g : Line → Bool) → T (every g table) → T (g l)) → f l.means ≡ false) → f (meaning_of k) ≡ false
    go (has l c t e m) h = rw m (h l c t)
    go (none e m) h = rw m u
