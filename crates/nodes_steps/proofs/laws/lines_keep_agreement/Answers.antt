use Rattle.nodes_steps.proofs.Kept.{lines_keep}
use Rattle.nodes_steps.proofs.laws.lines_keep_agreement.Goals as goal

pub returns : goal.returns
returns c = lines_keep c.reached_lines_are_safe.ensures c.outcomes_last.ensures c.deeds_are_changes.ensures
