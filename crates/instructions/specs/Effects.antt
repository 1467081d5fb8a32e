-- What an instruction of one step changes, and memory and registers afterwards: sections 1, 5 and 6 of docs/MACHINE.md.
use Rattle.std.specs.Prelude.{List, ℕ, ◌-◌, ◌*◌, ◌/◌, ◌%◌, get_or, set, Option, Some, None}
use Rattle.fields.specs.Field.{store}
use Rattle.fields.specs.Memory.{origin}
use Rattle.fields.specs.Units.{formed}
use Rattle.instructions.specs.declared.effects.Effect.{Effect}
use Rattle.instructions.specs.declared.effects.Effect.TheVariants.{Nothing, Register, HalfRegister, Byte, Word}
use Rattle.instructions.specs.declared.effects.Outcome.{Outcome}
use Rattle.fields.specs.declared.units.BitAddress.{BitAddress}

-- §1.3: the first bit of half word t in its register.
abbrev pub half_at : ℕ → ℕ
half_at t = 32 * (t % 2)

-- §1.3: the registers with v in half word t; the other half stays.
abbrev pub with_half : ℕ → ℕ → List ℕ → List ℕ
with_half t v rs = set rs (t / 2) (store 64 (half_at t) 32 v (get_or rs (t / 2) 0))

-- §5.1: the registers after an effect.
abbrev pub registers_after : Effect → List ℕ → List ℕ
registers_after Nothing rs = rs
registers_after (Register t v) rs = set rs t v
registers_after (HalfRegister t v) rs = with_half t v rs
registers_after (Byte a v) rs = rs
registers_after (Word a v) rs = rs

-- §1.7, §5.1: the L bits x of memory after an effect.
abbrev pub memory_after : Effect → ℕ → ℕ → ℕ
memory_after Nothing L x = x
memory_after (Register t v) L x = x
memory_after (HalfRegister t v) L x = x
memory_after (Byte a v) L x = store L (a.0 - origin) 8 v x
memory_after (Word a v) L x = store L (a.0 - origin) 64 v x

-- §5.1: an effect with the flags that it raises; the word behind is next.
abbrev pub falls_through : Effect → ℕ → Outcome
falls_through e f = record { effect = e; flags = f; target = None }

-- §5.1, §6.4: the next P: a taken target, else past the word of so many bits at p.
abbrev pub next_p : ℕ → ℕ → Option BitAddress → ℕ
next_p p bits None = formed p bits
next_p p bits (Some a) = a.0
