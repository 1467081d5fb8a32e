-- `fields::memory::write_bit` meets its contract: the index that `offset` gives is the address's.
use Rattle.fields.proofs.memory.write_bit.Goals as goal

pub returns : goal.returns
returns c = rw c.offset.ensures at c.put_bit.ensures
