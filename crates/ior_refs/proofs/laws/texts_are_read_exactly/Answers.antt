use Rattle.ior_refs.proofs.Texts.{text_laws}
use Rattle.ior_refs.proofs.laws.texts_are_read_exactly.Goals as goal

pub returns : goal.returns
returns c = text_laws c.references_are_read_exactly.ensures c.values_are_read_again.ensures
