use Rattle.std.proofs.Common.{◌∙◌, ap, length, Some}
use Rattle.coordinator.specs.Moves.{Moved}
use Rattle.family_rules.proofs.Counted.{settled_same}
use Rattle.family_rules.proofs.state.State.settle.Goals as goal

pub returns-in-Some-clause-count : goal.returns-in-Some-clause-count
returns-in-Some-clause-count c =
    ap (λ (m : Moved). length m.family.rows) c.be_answered.ensures.moved ∙ settled_same (Some c.in-Some.stood) c.args.self.now.family
