use Rattle.std.proofs.Common.{◌∙◌, ap}
use Rattle.family_step.specs.Callers.{CallersParts, call_in, caller_key}
use Rattle.family_step.proofs.callers.Callers.reserve.Goals as goal

pub returns-clause-same : goal.returns-clause-same
returns-clause-same c = λ k. c.reserve.ensures.entries.2 (caller_key k) ∙ ap (λ (p : CallersParts). call_in p.places k) c.self.view_is
