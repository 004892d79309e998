use Rattle.ior_refs.proofs.Keys.{same_key}
use Rattle.ior_refs.proofs.laws.same_octets_same_key.Goals as goal

pub returns : goal.returns
returns c = same_key
