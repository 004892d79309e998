use Rattle.ior_refs.proofs.Endpoints.{iiop_laws}
use Rattle.ior_refs.proofs.laws.profiles_are_read_exactly.Goals as goal

pub returns : goal.returns
returns c = iiop_laws (record { reading = c.reading_is_exact.ensures; tagged = c.references_are_read_exactly.ensures; sequences = c.sequences_are_exact.ensures; again = c.values_are_read_again.ensures })
