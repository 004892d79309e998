use Rattle.std.proofs.Common.{◌≤◌, [], length, sym, subst, refl, arith}
use Rattle.coordinator.specs.Family.{Family}
use Rattle.family_laws.specs.Reasons.{IsFounded}
use Rattle.family_laws.specs.Sound.{IsSoundFamily}
use Rattle.family_step.specs.Callers.{IsIndex, Places}
use Rattle.family_step.specs.Earlier.{AreThere}
use Rattle.family_step.proofs.family.Family.new.Goals as goal

pub invariant_of-result : goal.invariant_of-result
invariant_of-result c = record {
  serial = subst (λ (f : Family). f.serial ≤ length f.entries) (sym c.in_ok-state.ensures.made) (omega arith);
  sound = subst (λ (f : Family). IsSoundFamily f) (sym c.in_ok-state.ensures.made) (c.families_stay_sound.ensures.new c.args.key c.args.deadline);
  founded = subst (λ (f : Family). IsFounded f) (sym c.in_ok-state.ensures.made) (c.families_have_causes.ensures.new c.args.key c.args.deadline);
  there = subst (λ (f : Family). AreThere f) (sym c.in_ok-state.ensures.made) (record { waiting = (tt, tt); answered = tt });
  index = subst (λ (f : Family). IsIndex c.new-callers.result.places f.entries) (sym c.in_ok-state.ensures.made)
      (subst (λ (places : Places). IsIndex places []) (sym c.new-callers.ensures.none) (λ k. refl));
  stocked = tt;
  noted = tt;
}
