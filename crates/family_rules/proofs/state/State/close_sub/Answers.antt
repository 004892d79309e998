use Rattle.std.proofs.Common.{◌≡◌, false, true, subst, sym}
use Rattle.coordinator.specs.Phases.{column, is_open}
use Rattle.family_rules.specs.Room.{StateParts}
use Rattle.family_rules.specs.StateInside.{shown}
use Rattle.family_rules.proofs.Lives.{open_lives, sound_ended}
use Rattle.family_rules.proofs.state.State.close_sub.Goals as goal

pub close-requires-clause-live : goal.close-requires-clause-live
close-requires-clause-live c =
    let b = c.args.branch in
    open_lives (shown c.self.inside).family b c.requires.below
    (subst (λ (v : StateParts). is_open (column v.family b) ≡ true) (sym c.self.view_is) c.requires.opened)

pub invariant_of-self : goal.invariant_of-self
invariant_of-self c = sound_ended c.self.inside c.close.new.self c.args.branch false c.self.invariant c.requires.below c.close.ensures
