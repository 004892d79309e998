use Rattle.std.proofs.Common.{◌∙◌, ap, Some, sym}
use Rattle.coordinator.specs.Moves.{Moved, after}
use Rattle.family_rules.specs.Changes.{so_far}
use Rattle.family_step.proofs.Counted.{answered_at}
use Rattle.family_step.proofs.acting.answer.Goals as goal

pub returns-in-Some-clause-does : goal.returns-in-Some-clause-does
returns-in-Some-clause-does c =
    let f = c.args.state.now.family in
    c.answer_at.ensures.does
    ∙ ap (λ (m : Moved). after (so_far f c.args.out.now) m)
    (answered_at (Some c.in-Some.branch) c.args.number.now c.args.heard.now c.args.stood f (sym c.waiting_for.ensures ∙ c.in-Some.is))
