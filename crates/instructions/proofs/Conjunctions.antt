-- A conjunction of tests that passes, and each of its tests.
use mathlib.Core.Bool.{Bool, true, false, ◌&&◌}
use lib.Dec.{T}

pub and_first : (a b : Bool) → T (a && b) → T a
and_first true b t = tt
and_first false b t = t

pub and_rest : (a b : Bool) → T (a && b) → T b
and_rest true b t = t
and_rest false b t = absurd t
