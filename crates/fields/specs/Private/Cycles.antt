-- What the five source fields of Gathers.antt have in common. Items go in cycles of `period`. In each cycle the `long` items from place `from` on
-- read the source, and the first of them reads the bit `at` past the cycle's own start, which is `stride` bits after the one of the cycle before.
use Rattle.std.specs.Prelude.{cond, ◌&&◌, ℕ, ◌+◌, ◌-◌, ◌*◌, ◌/◌, ◌%◌, ◌≤◌, ◌<◌, ltb, leb}
use Rattle.fields.specs.declared.gathers.Cycles.{Cycles}

-- One past the bit that the item at a place of a cycle reads; 0 if it reads none.
abbrev pub past_at : Cycles → ℕ → ℕ → ℕ
past_at t cycle place = cond (leb t.from place && ltb place (t.from + t.long)) (cycle * t.stride + t.at + (place - t.from) + 1) 0

-- The same of item j, from the first cycle on.
abbrev pub past_of : Cycles → ℕ → ℕ
past_of t j = past_at t (j / t.period) (j % t.period)

-- The items that read stand in the period, and a cycle's bits before those of the next. A stride is r, s or r + s: two lengths of at most 65,535
-- each, so at most 131,070.
pub record Regular (t : Cycles) : Type 0 where
  pub some : 0 < t.long
  pub whole : t.from + t.long ≤ t.period
  pub ahead : t.at + t.long ≤ t.stride
  pub small : t.stride ≤ 131070

-- What `Cycles::reach` is asked: n items, a length of 16 bits and so below 65,536, and regular cycles if there are any items.
pub record Allowed (t : Cycles) (n : ℕ) : Type 0 where
  pub few : n < 65536
  pub regular : 0 < n → Regular t
