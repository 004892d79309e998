use Rattle.std.proofs.Common.{◌∙◌, ap}
use Rattle.coordinator.specs.declared.event.Event.{Event}
use Rattle.coordinator.specs.Step.{wants_journal}
use Rattle.service_node.proofs.Passed.{tick_alone}
use Rattle.service_node.proofs.passing.step_over.Goals as goal

pub step_alone-requires-clause-alone : goal.step_alone-requires-clause-alone
step_alone-requires-clause-alone c =
    ap (λ (e : Event). wants_journal c.reserve.new.self.family e) c.tick_at-event.ensures ∙ tick_alone c.args.now c.reserve.new.self.family
