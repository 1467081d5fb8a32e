-- An instruction leaves every flag that it found.
use mathlib.Core.Path.{◌≡◌, sym, ap, ◌∙◌}
use mathlib.Core.List.{List}
use Prim.Native.Nat.{ℕ, zero, suc, ◌+◌, ◌*◌, ◌^◌, ◌<◌}
use native.Mathlib.Nat.{two-pow-succ}
use native.Mathlib.Omega.{arith}
use lib.Bits.{bit_or, or_self}
use lib.Dec.{lit<}
use Rattle.instructions.specs.declared.operands.Operands.{Operands}
use Rattle.instructions.specs.Items.{Shape, MemoryAndFlags, flags_at, turns}
use Rattle.instructions.specs.Scalars.{scalar_of}
use Rattle.instructions.specs.Plan.{shape_of}
use Rattle.instructions.specs.Instruction.{plan_of, works_of, acts_of}
use Rattle.instructions.proofs.Unions.{or_assoc}

-- ---- a union of numbers of any length

below : (n : ℕ) → n < 2 ^ n
below zero = lit< tt
below (suc n) =
    let e = two-pow-succ n in
    let h = below n in
    omega arith

united : (a b c : ℕ) → bit_or (bit_or a b) c ≡ bit_or a (bit_or b c)
united a b c =
    let h = below (a + b + c) in
    or_assoc (a + b + c) a b c (omega arith) (omega arith) (omega arith)

-- every flag of f is one of g
abbrev pub Kept : ℕ → ℕ → Type 0
Kept f g = bit_or f g ≡ g

pub kept_same : (f : ℕ) → Kept f f
kept_same f = or_self f

kept_more : (f g : ℕ) → Kept f (bit_or f g)
kept_more f g = sym (united f f g) ∙ ap (λ (x : ℕ). bit_or x g) (or_self f)

pub kept_on : (f g h : ℕ) → Kept f g → Kept g h → Kept f h
kept_on f g h p q = ap (bit_or f) (sym q) ∙ sym (united f g h) ∙ ap (λ (x : ℕ). bit_or x h) p ∙ q

-- ---- items, and an instruction of one step

turns_kept : (s : Shape) (L from k : ℕ) (w : MemoryAndFlags) → Kept w.flags (turns s L from k w).flags
turns_kept s L from zero w = kept_same w.flags
turns_kept s L from (suc k) w =
    let x = turns s L from k w in
    kept_on w.flags x.flags (bit_or x.flags (flags_at s L (from + k) x.memory)) (turns_kept s L from k w) (kept_more x.flags (flags_at s L (from + k) x.memory))

pub works_kept : (word : ℕ) (o : Operands) (bytes from count : ℕ) (w : MemoryAndFlags) → Kept w.flags (works_of word o bytes from count w).flags
unfolding works_of
works_kept word o bytes from count w = turns_kept (shape_of (plan_of word o)) (8 * bytes) from count w

pub acts_kept : (p word : ℕ) (o : Operands) (bytes memory : ℕ) (registers : List ℕ) (flags : ℕ) → Kept flags (acts_of p word o bytes memory registers flags).flags
unfolding acts_of
acts_kept p word o bytes memory registers flags = kept_more flags (scalar_of word o bytes memory).flags
