use Rattle.std.proofs.Common.{◌≡◌, None, subst, Option}
use Rattle.family_rules.specs.Calls.{Sees}
use Rattle.family_rules.specs.declared.call.Call.{Call as KeptCall}
use Rattle.coordinator.specs.Family.{call_at}
use Rattle.family_rules.proofs.RunsOn.{stays_put}
use Rattle.family_rules.proofs.state.State.go_on.Goals as goal

pub returns-in-None-clause-does : goal.returns-in-None-clause-does
returns-in-None-clause-does c =
    let at = call_at c.args.self.now.family c.args.branch in
    let none : at ≡ None = subst (λ (o : Option KeptCall). Sees o at) c.in-None.is c.call_of.ensures.seen in
    stays_put c.args.self.now.family c.args.out.now c.args.branch none
