-- What every meaning of the table has: it raises no flags but the three, its effect may be applied where its address was accepted, and control goes to the word that
-- follows or to a taken target.
use mathlib.Core.Path.{refl}
use mathlib.Core.Bool.{true, false}
use mathlib.Core.List.{List, [], ◌∷◌}
use Prim.Native.Nat.{ℕ}
use lib.Dec.{eqb}
use lib.ListN.{length}
use Rattle.fields.specs.Bytes.{num}
use Rattle.numbers.specs.declared.division.Rounding.TheVariants.{Zero, Down, Up}
use Rattle.numbers.proofs.Raised.{Among, either, whole_flags, contract_flags}
use Rattle.instructions.specs.declared.operands.Operands.{Operands}
use Rattle.instructions.specs.Meanings.{to_t, to_half_t, loads_byte, loads_word, stores_byte, stores_word, gathers, each_of_a_b, each_of_a, half_of_a, moves, Meaning, unlisted, exits, acts, branches, works}
use Rattle.instructions.specs.Table.{Line, table, meaning_of}
use Rattle.instructions.specs.Operands.{code_in, meaning_in}
use Rattle.instructions.specs.Branches.{branch_of}
use Rattle.instructions.specs.Scalars.{outcome_in, scalar_of}
use Rattle.instructions.specs.Private.Accepted.{AddressThereBy, AddressThere, Reaches}
use Rattle.instructions.proofs.TablePlaces.{means_in}

-- ---- a law of every line is one of the meaning that is looked up

abbrev Each : (Meaning → Type 0) → List Line → Type 0
Each P [] = Unit {0}
Each P (l ∷ ls) = P l.means × Each P ls

each : (P : Meaning → Type 0) → P unlisted → (ls : List Line) → Each P ls → (k : ℕ) → P (means_in k ls)
each P n [] h k = n
each P n (l ∷ ls) h k = either P (eqb k l.code) h.0 (each P n ls h.1 k)

-- ---- flags

-- what is made sets no flags but the three
abbrev pub Raises : Meaning → Type 0
Raises unlisted = Unit {0}
Raises exits = Unit {0}
Raises (acts (to_t f)) = (x y : ℕ) → Among (f x y).flags
Raises (acts (to_half_t f)) = (x y : ℕ) → Among (f x y).flags
Raises (acts loads_byte) = Unit {0}
Raises (acts loads_word) = Unit {0}
Raises (acts stores_byte) = Unit {0}
Raises (acts stores_word) = Unit {0}
Raises (branches c) = Unit {0}
Raises (works (gathers rule)) = Unit {0}
Raises (works (each_of_a_b f)) = (x y : ℕ) → Among (f x y).flags
Raises (works (each_of_a f)) = (x : ℕ) → Among (f x).flags
Raises (works (half_of_a f)) = (x : ℕ) → Among (f x).flags
Raises (works moves) = Unit {0}

-- line by line
lines_raise : Each Raises table
lines_raise = (tt, (tt, (tt, (tt, (tt, (tt, ((λ x y. refl), ((λ x y. refl), ((λ x y. refl), ((λ x y. refl), ((λ x y. refl), ((λ x y. whole_flags 15 47 Zero x), ((λ x y. whole_flags 15 47 Down x), ((λ x y. whole_flags 15 47 Up x), ((λ x y. contract_flags false x), ((λ x y. contract_flags true x), ((λ x y. refl), ((λ x y. refl), ((λ x y. refl), ((λ x y. refl), (tt, (tt, ((λ x y. refl), ((λ x y. refl), ((λ x y. refl), ((λ x. whole_flags 15 47 Zero x), ((λ x. whole_flags 15 47 Down x), ((λ x. whole_flags 15 47 Up x), ((λ x. contract_flags false x), ((λ x. contract_flags true x), ((λ x. refl), (tt, (tt, (tt, (tt, (tt, (tt, (tt, tt))))))))))))))))))))))))))))))))))))))

pub raises : (k : ℕ) → Raises (meaning_of k)
unfolding meaning_of
raises k = each Raises tt table lines_raise k

module _ (w : ℕ) (o : Operands) (n x : ℕ) where
  -- the flags that an instruction of one step raises
  pub scalar_flags : Among (scalar_of w o n x).flags
  unfolding scalar_of branch_of
  scalar_flags = go (meaning_in w) (raises (code_in w))
    where
      go : (m : Meaning) → Raises m → Among (outcome_in m w o n x).flags
      go unlisted r = refl
      go exits r = refl
      go (acts (to_t f)) r = r _ _
      go (acts (to_half_t f)) r = r _ _
      go (acts loads_byte) r = refl
      go (acts loads_word) r = refl
      go (acts stores_byte) r = refl
      go (acts stores_word) r = refl
      go (branches c) r = refl
      go (works k) r = refl

-- ---- effects

-- an effect stores in memory, if the address of the load or store lies there
pub reached_reaches : (w : ℕ) (o : Operands) (m : List ℕ) → AddressThere w o m → Reaches (scalar_of w o (length m) (num m)).effect m
unfolding scalar_of branch_of AddressThere
reached_reaches w o m h = go (meaning_in w) h
  where
    go : (k : Meaning) → AddressThereBy k o m → Reaches (outcome_in k w o (length m) (num m)).effect m
    go unlisted h = tt
    go exits h = tt
    go (acts (to_t f)) h = tt
    go (acts (to_half_t f)) h = tt
    go (acts loads_byte) h = tt
    go (acts loads_word) h = tt
    go (acts stores_byte) h = h
    go (acts stores_word) h = h
    go (branches c) h = tt
    go (works k) h = tt
