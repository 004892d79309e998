use Rattle.std.proofs.Common.{◌∙◌, ap, sym}
use Rattle.coordinator.specs.Moves.{after}
use Rattle.coordinator.specs.Step.{acted}
use Rattle.coordinator.specs.Table.{Acted}
use Rattle.family_rules.specs.Changes.{so_far}
use Rattle.family_step.proofs.ByKind.{as_called}
use Rattle.family_step.proofs.acting.act.Goals as goal

pub returns-in_default : goal.returns-in_default
unfolding acted
returns-in_default c =
    let f = c.args.state.now.family in
    let e = c.args.event.now in
    let same = as_called e.act c.in_default.not-GetStatus c.in_default.not-GetParentStatus c.in_default.not-Replay c.in_default.not-Superior c.in_default.not-Answer
    c.in_default.not-Tick c.in_default.not-Reread c.in_default.not-Opened e.branch e.now c.args.stood f in
    record {
      acts = (
        c.call.ensures.acts.0 ∙ ap (λ (a : Acted). after (so_far f c.args.out.now) a.moved) (sym same),
        c.call.ensures.acts.1 ∙ ap (λ (a : Acted). a.said) (sym same),
      );
      kept = c.call.ensures.kept;
    }
