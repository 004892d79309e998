use Rattle.std.proofs.Common.{subst}
use Rattle.coordinator.specs.Family.{FamilyParts}
use Rattle.family_laws.specs.Reasons.{OutcomeIsCaused}
use Rattle.family_step.proofs.family.Family.has_cause.Goals as goal

pub returns : goal.returns
returns c =
    let caused = c.families_have_causes.ensures.caused c.self.inside.state.family c.self.invariant.sound c.self.invariant.founded in
    subst (λ (p : FamilyParts). OutcomeIsCaused p.family) c.self.view_is caused
