-- Which source bit each bit of T takes in compress, merge and mask (codes 14, 15, 16), and how far each source field runs: section 8 of
-- docs/MACHINE.md.
use Rattle.std.specs.Prelude.{cond, ◌||◌, ℕ, zero, suc, ◌+◌, ◌-◌, ◌*◌, ◌/◌, ◌%◌, max, eqb, ltb}
use Rattle.fields.specs.declared.gathers.Runs.{Runs}
use Rattle.fields.specs.declared.gathers.Rule.{Rule}
use Rattle.fields.specs.declared.gathers.Rule.TheVariants.{Compress, Merge, Mask}

-- What a bit of T takes: a bit of R or a bit of S.
pub data SourceBit : Type 0 where
  of_r : ℕ → SourceBit
  of_s : ℕ → SourceBit

-- §8.4: compress takes r bits of R and passes over s, period by period.
abbrev pub compress_takes : Runs → ℕ → SourceBit
compress_takes t j = of_r (j / t.r * (t.r + t.s) + j % t.r)

-- §8.5, §8.6: the place of bit j in its period of r + s bits.
abbrev pub in_period : Runs → ℕ → ℕ
in_period t j = j % (t.r + t.s)

-- §8.5: merge takes r bits of R and then s of S, each source where it stopped in the period before.
abbrev pub merge_takes : Runs → ℕ → SourceBit
merge_takes t j = cond (ltb (in_period t j) t.r) (of_r (j / (t.r + t.s) * t.r + in_period t j)) (of_s (j / (t.r + t.s) * t.s + in_period t j - t.r))

-- §8.6: mask takes bit j itself: of R in the first r places of a period, of S in the others.
abbrev pub mask_takes : Runs → ℕ → SourceBit
mask_takes t j = cond (ltb (in_period t j) t.r) (of_r j) (of_s j)

-- §8.1: compress has n items, but none where r is zero.
abbrev pub compress_items : Runs → ℕ
compress_items t = cond (eqb t.r 0) 0 t.n

-- §8.1: merge and mask have n items, but none where r or s is zero.
abbrev pub merge_items : Runs → ℕ
merge_items t = cond (eqb t.r 0 || eqb t.s 0) 0 t.n

-- §8.1: how many items each of the three has.
abbrev pub bit_items : Rule → Runs → ℕ
bit_items Compress t = compress_items t
bit_items Merge t = merge_items t
bit_items Mask t = merge_items t

-- One past the bit of R, or of S, that is taken; 0 where the other source is.
abbrev pub past_r : SourceBit → ℕ
past_r (of_r i) = i + 1
past_r (of_s i) = 0

abbrev pub past_s : SourceBit → ℕ
past_s (of_r i) = 0
past_s (of_s i) = i + 1

-- §8.3, §12.19: the largest of what `past` gives for the first n items: one past the last bit that any of them reads.
unfoldable pub furthest : (ℕ → ℕ) → ℕ → ℕ
furthest past zero = 0
furthest past (suc j) = max (furthest past j) (past j)

-- §8.3: the bits of each source field, from its base on.
abbrev pub compress_r : Runs → ℕ
compress_r t = furthest (λ j. past_r (compress_takes t j)) (compress_items t)

abbrev pub merge_r : Runs → ℕ
merge_r t = furthest (λ j. past_r (merge_takes t j)) (merge_items t)

abbrev pub merge_s : Runs → ℕ
merge_s t = furthest (λ j. past_s (merge_takes t j)) (merge_items t)

abbrev pub mask_r : Runs → ℕ
mask_r t = furthest (λ j. past_r (mask_takes t j)) (merge_items t)

abbrev pub mask_s : Runs → ℕ
mask_s t = furthest (λ j. past_s (mask_takes t j)) (merge_items t)

-- The same by rule. A compress has no S.
abbrev pub bits_of_r : Rule → Runs → ℕ
bits_of_r Compress t = compress_r t
bits_of_r Merge t = merge_r t
bits_of_r Mask t = mask_r t

abbrev pub bits_of_s : Rule → Runs → ℕ
bits_of_s Compress t = 0
bits_of_s Merge t = merge_s t
bits_of_s Mask t = mask_s t
