use Rattle.std.proofs.Common.{◌∙◌, refl, sym, ap, ◌+◌, Bool}
use Rattle.ots_model.specs.declared.tree.Reason.{Reason}
use Rattle.family_rules.specs.Calls.{aim_of}
use Rattle.family_rules.specs.Changes.{so_far}
use Rattle.coordinator.specs.Closing.{asked_of, begins, rolling_back}
use Rattle.coordinator.specs.Family.{call_at}
use Rattle.coordinator.specs.Moves.{after}
use Rattle.family_rules.proofs.Going.{can_decide}
use Rattle.family_rules.proofs.Heard.{given_up, plainly}
use Rattle.family_rules.proofs.state.State.hear_before.Goals as goal

pub returns-then-is_plain-clause-moved : goal.returns-then-is_plain-clause-moved
returns-then-is_plain-clause-moved c = λ k at for.
    plainly c.args.self.now.family c.args.out.now c.args.branch c.args.called k c.args.heard.now (sym c.is_plain.ensures ∙ c.if-is_plain.true)

pub returns-clause-moved : goal.returns-clause-moved
returns-clause-moved c = λ k at for.
    let g = c.begin_deciding.new.self.family in
    let d = c.args.out.now in
    given_up c.args.self.now.family g c.begin_rollback.new.self.family d c.begin_rollback.new.out c.args.branch c.args.called k (aim_of c.args.aim) c.args.heard.now
    (sym c.is_plain.ensures ∙ c.if-is_plain.false) at for c.begin_deciding.ensures.does
    (c.begin_rollback.ensures.moved
    ∙ (ap (λ (a : Bool). after (so_far g d) (begins (rolling_back a c.reason_of.result g) g)) c.asked_of.ensures
    ∙ ap (λ (r : Reason). after (so_far g d) (begins (rolling_back (asked_of (aim_of c.args.aim)) r g) g)) c.reason_of.ensures))

pub returns-clause-can : goal.returns-clause-can
returns-clause-can c = λ n can.
    let f = c.args.self.now.family in
    c.begin_rollback.ensures.can n
    (can_decide (n + 1) c.args.branch f c.begin_deciding.new.self.family c.args.out.now (call_at f c.args.branch) refl c.begin_deciding.ensures.does can)
