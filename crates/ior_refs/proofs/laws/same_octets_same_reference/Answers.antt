use Rattle.ior_refs.proofs.Exact.{same_reference}
use Rattle.ior_refs.proofs.laws.same_octets_same_reference.Goals as goal

pub returns : goal.returns
returns c = same_reference c.references_are_read_again.ensures
