-- `fields::bytes::bit` meets its contract: a bit is a field within its byte.
use Prim.Native.Nat.{ℕ, ◌/◌}
use native.Mathlib.Omega.{arith}
use Rattle.fields.proofs.Lists.{bit_field}
use Rattle.fields.proofs.bytes.bit.Goals as goal

pub overflow_cast-b : goal.overflow_cast-b
overflow_cast-b c = omega (arith, c.type_inv.m (c.args.at / 8))

pub returns : goal.returns
returns c = bit_field c.args.m.now c.args.at (λ (k : ℕ). (c.type_inv.m k).fits) c.requires
