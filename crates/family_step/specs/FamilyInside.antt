use Rattle.std.specs.Prelude.{◌<◌, ◌≤◌, length, IfSome}
use Rattle.std.specs.Option.{option_map}
use Rattle.coordinator.specs.Family.{FamilyParts}
use Rattle.family_laws.specs.Reasons.{IsFounded}
use Rattle.family_laws.specs.Sound.{IsSoundFamily}
use Rattle.family_step.specs.Callers.{IsIndex}
use Rattle.family_step.specs.Earlier.{AreThere}
use Rattle.family_step.specs.Reserving.{IsStockedFor}
use Rattle.family_step.specs.declared.family.Family.TheInside.{Inside}
use Rattle.family_step.specs.declared.ready.Ready.{Ready}

abbrev pub shown : Inside → FamilyParts
shown f = record { family = f.state.family; ready = option_map (λ (r : Ready). r.event) f.ready }

-- each entry has sent one word at most, the family is sound, what it is marked and rolled back for from outside has come, calls have
-- their entries before they are answered, each retry key leads to its entry and to the one that answers it, and there is memory for
-- the event that was reserved
pub record IsSound (f : Inside) : Type 0 where
  pub serial : f.state.family.serial ≤ length f.state.family.entries
  pub sound : IsSoundFamily f.state.family
  pub founded : IsFounded f.state.family
  pub there : AreThere f.state.family
  pub index : IsIndex f.callers.places f.state.family.entries
  pub stocked : IsStockedFor f.state f.ready
  pub noted : IfSome f.ready (λ (r : Ready). 0 < f.callers.room)
