-- What is made ready for the step of an event.
use Rattle.std.specs.Prelude.{◌≡◌, ◌+◌, ◌<◌, ◌≤◌, true, length, Option, Some, None}
use Rattle.std.specs.Option.{option_map}
use Rattle.std.specs.Vec.{vec_items}
use Rattle.coordinator.specs.Family.{Family}
use Rattle.coordinator.specs.History.{has_room, kept_for}
use Rattle.coordinator.specs.declared.event.Event.{Event}
use Rattle.family_rules.specs.Changes.{nothing_yet}
use Rattle.family_rules.specs.Going.{CanGo}
use Rattle.family_rules.specs.Room.{StateParts}
use Rattle.family_step.specs.Acting.{length_in, name_in, reference_in}
use Rattle.family_step.specs.Asking.{AreReady}
use Rattle.family_step.specs.declared.ready.Ready.{Ready}

-- all that the step of this event needs of a family was made ready
pub record IsReadyFor (e : Event) (f : Family) (r : Ready) : Type 0 where
  pub event : r.event ≡ e
  pub answered : r.answered ≡ kept_for f.entries e.key
  pub to : r.to ≡ reference_in e.act
  pub name : r.name ≡ name_in e.act e.branch f
  pub name_again : r.name_again ≡ name_in e.act e.branch f
  pub named : AreReady (option_map vec_items r.named) e f
  pub nothing : r.draft.changes ≡ (nothing_yet 0 0).changes
  pub can : CanGo (length f.rows + 8) f r.draft

-- and there is room for what it makes of the family
pub record IsStocked (s : StateParts) (r : Ready) : Type 0 where
  pub ready : IsReadyFor r.event s.family r
  pub fits : has_room s.family.entries r.event ≡ true
  pub room : 0 < s.room
  pub reach : length_in r.event.act ≤ s.reach
  pub history : 0 < s.history_room

abbrev pub IsStockedFor : StateParts → Option Ready → Type 0
IsStockedFor s None = Unit {0}
IsStockedFor s (Some r) = IsStocked s r
