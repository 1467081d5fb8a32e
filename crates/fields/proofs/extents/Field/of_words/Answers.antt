-- The field is made of the bits that the count shifts to.
use Rattle.fields.proofs.Compared.{made}
use Rattle.fields.proofs.extents.Field.of_words.Goals as goal

pub returns : goal.returns
returns c = made _ _ _ _ c.shifted-bits.ensures
