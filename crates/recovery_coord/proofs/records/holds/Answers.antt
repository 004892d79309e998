use Rattle.std.proofs.Common.{◌∙◌}
use Rattle.recovery_coord.proofs.Ordered.{held_by}
use Rattle.recovery_coord.proofs.records.holds.Goals as goal

pub returns : goal.returns
returns c = c.is_ok.ensures.value ∙ held_by c.args.place c.args.records.now c.search.result c.search.ensures.found c.search.ensures.none
