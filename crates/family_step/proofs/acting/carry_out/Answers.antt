use Rattle.std.proofs.Common.{◌∙◌, ap, arith}
use Rattle.coordinator.specs.Moves.{after}
use Rattle.coordinator.specs.Table.{Acted}
use Rattle.family_rules.specs.Changes.{so_far}
use Rattle.family_step.proofs.ByKind.{as_told}
use Rattle.family_step.proofs.Counted.{nothing_more}
use Rattle.family_step.proofs.acting.carry_out.Goals as goal

pub returns-in_default : goal.returns-in_default
returns-in_default c =
    let f = c.args.state.now.family in
    let d = c.args.out.now in
    let same = as_told c.args.act.now c.in_default.not-Commit c.in_default.not-Rollback c.in_default.not-RollbackOnly c.in_default.not-RegisterResource
    c.in_default.not-RegisterSynchronization c.in_default.not-RegisterSubtranAware c.in_default.not-CreateSubtransaction c.in_default.not-GetTransactionName
    c.args.branch f in
    record {
      acts = (nothing_more f d ∙ ap (λ (a : Acted). after (so_far f d) a.moved) same, c.tell.ensures ∙ ap (λ (a : Acted). a.said) same);
      kept = omega arith;
    }
