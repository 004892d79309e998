use Rattle.std.proofs.Common.{◌∙◌, refl, sym}
use Rattle.family_rules.specs.Calls.{aim_of}
use Rattle.coordinator.specs.Closing.{waits}
use Rattle.coordinator.specs.Family.{with_call}
use Rattle.coordinator.specs.declared.call.Leg.TheVariants.{Below}
use Rattle.coordinator.specs.Running.{by_leg, runs}
use Rattle.coordinator.specs.Table.{new_call}
use Rattle.family_rules.proofs.Moving.{brings_nothing, does_as}
use Rattle.family_rules.proofs.RunsOn.{begins_free, begins_held}
use Rattle.family_rules.proofs.state.State.run.Goals as goal

pub returns-then-is_commit_held-clause-does : goal.returns-then-is_commit_held-clause-does
returns-then-is_commit_held-clause-does c =
    let f = c.args.self.now.family in
    let d = c.args.out.now in
    let b = c.args.branch in
    let aim = aim_of c.args.aim in
    let call = new_call c.args.caller aim in
    does_as f c.set_call.new.self.family d d (waits b call) (runs b call)
    (brings_nothing f c.set_call.new.self.family (with_call b call f) d d c.set_call.ensures.does refl)
    (begins_held b c.args.caller aim f (sym c.is_commit_held.ensures ∙ c.if-is_commit_held.true))

pub returns-else-is_commit_held-clause-does : goal.returns-else-is_commit_held-clause-does
returns-else-is_commit_held-clause-does c =
    let f = c.args.self.now.family in
    let d = c.args.out.now in
    let b = c.args.branch in
    let aim = aim_of c.args.aim in
    let call = new_call c.args.caller aim in
    does_as f c.go_by_leg.new.self.family d c.go_by_leg.new.out (by_leg Below b call) (runs b call)
    c.go_by_leg.ensures.does
    (begins_free b c.args.caller aim f (sym c.is_commit_held.ensures ∙ c.if-is_commit_held.false))
