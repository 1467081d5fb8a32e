-- `fields::bytes::put_bit` meets its contract: to set a byte with one bit changed is to store that bit.
use mathlib.Core.Path.{ap, ◌∙◌}
use Prim.Native.Nat.{ℕ, ◌/◌}
use lib.ListN.{set, length-set}
use Rattle.fields.specs.Bytes.{num}
use Rattle.fields.proofs.Lists.{bit_store}
use Rattle.fields.proofs.bytes.put_bit.Goals as goal

pub returns : goal.returns
returns c =
    let a = c.args in
    record {
      as_long = simp length-set;
      holds = ap (λ (y : ℕ). num (set a.m.now (a.at / 8) y)) c.with_bit.ensures
          ∙ bit_store a.m.now a.at a.v (λ (k : ℕ). (c.slice_known-1.given k).fits) c.requires.1 c.requires.0;
    }
