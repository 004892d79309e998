use Rattle.std.proofs.Common.{◌≡◌, ◌∙◌, ap, length, None, Option, subst}
use Rattle.family_rules.specs.Calls.{Sees}
use Rattle.family_rules.specs.declared.call.Call.{Call as KeptCall}
use Rattle.coordinator.specs.Family.{call_at}
use Rattle.coordinator.specs.Moves.{Moved}
use Rattle.family_rules.proofs.Counted.{heard_same}
use Rattle.family_rules.proofs.Heard.{nobody_hears}
use Rattle.family_rules.proofs.state.State.hear.Goals as goal

pub returns-in-None-clause-moved : goal.returns-in-None-clause-moved
returns-in-None-clause-moved c =
    let at = call_at c.args.self.now.family c.args.branch in
    let none : at ≡ None = subst (λ (o : Option KeptCall). Sees o at) c.in-None.is c.call_of.ensures.seen in
    nobody_hears c.args.self.now.family c.args.out.now c.args.branch c.args.number.now c.args.heard.now none

pub returns-in-Some-clause-count : goal.returns-in-Some-clause-count
returns-in-Some-clause-count c =
    let f = c.args.self.now.family in
    let b = c.args.branch in
    ap (λ (m : Moved). length m.family.rows) c.hear_at.ensures.moved ∙ heard_same (call_at f b) b c.args.number.now c.args.heard.now f
