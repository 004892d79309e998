use Rattle.nodes_parts.proofs.SharedLemmas.{same_masked}
use Rattle.nodes_parts.proofs.shared.is_same_word.Goals as goal

pub returns : goal.returns
returns c = same_masked c.args.octets.now c.args.others.now c.args.at c.requires.within c.requires.other_within
