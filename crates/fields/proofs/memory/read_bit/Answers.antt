-- `fields::memory::read_bit` meets its contract: the index that `offset` gives is the address's.
use Rattle.fields.proofs.memory.read_bit.Goals as goal

pub returns : goal.returns
returns c = rw c.offset.ensures at c.bit.ensures
