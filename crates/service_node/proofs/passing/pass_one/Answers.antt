use Rattle.std.proofs.Common.{◌∙◌, sym, ap}
use Rattle.coordinator.specs.declared.event.Event.{Event}
use Rattle.coordinator.specs.Step.{is_silent}
use Rattle.service_node.proofs.Passed.{tick_silent}
use Rattle.service_node.proofs.passing.pass_one.Goals as goal

pub returns-then-is_silent-clause-family : goal.returns-then-is_silent-clause-family
returns-then-is_silent-clause-family c =
    sym (tick_silent c.args.now c.args.family.now.family
    (ap (λ (e : Event). is_silent e c.args.family.now.family) (sym c.tick_at.ensures) ∙ sym c.is_silent.ensures.silent ∙ c.if-is_silent.true))
