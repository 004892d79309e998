-- Whom the effects of a family speak of, as the code keeps it (our profile).
use Rattle.std.specs.Prelude.{◌≡◌, ℕ, List, map, Option, None}
use Rattle.std.specs.Option.{option_and_then}
use Rattle.resource_votes.specs.Ballots.{numbered}
use Rattle.resource_votes.specs.declared.registration.Registration.{Registration}
use Rattle.coordinator.specs.Family.{Family}
use Rattle.nodes_world.specs.Happenings.{Cast, cast_of, registered, synchronized}
use Rattle.nodes_world.specs.World.{World}
use Rattle.nodes_state.specs.Telling.{IsIndexed, kept_name, name_in}
use Rattle.nodes_state.specs.declared.casts.Cast.{Cast as Kept}
use Rattle.nodes_state.specs.declared.casts.Parties.{Parties}
use Rattle.nodes_state.specs.declared.casts.Parties.TheVariants as parties
use Rattle.nodes_state.specs.declared.casts.Roster.{Roster}

-- the names of those who are registered with a family were kept, in order, and each of them has the number of its place
pub record IsRosterOf (r : Roster) (f : Family) (w : World) : Type 0 where
  pub indexed : IsIndexed (cast_of f)
  pub key : r.key ≡ f.key
  pub registered : r.registered.items ≡ map (name_in w) f.ballots.registrations
  pub synchronized : r.synchronized.items ≡ map (name_in w) f.ballots.synchronizations

-- the name of the one at the place of a number
abbrev pub name_at_number : World → List Registration → ℕ → Option (List ℕ)
name_at_number w some number = option_and_then (name_in w) (numbered some number)

abbrev pub registered_in : World → Parties → ℕ → Option (List ℕ)
registered_in w parties.Gone number = None
registered_in w (parties.Own f) number = name_at_number w f.now.family.ballots.registrations number
registered_in w (parties.Kept r) number = kept_name r.now.registered.items number

abbrev pub synchronized_in : World → Parties → ℕ → Option (List ℕ)
synchronized_in w parties.Gone number = None
synchronized_in w (parties.Own f) number = name_at_number w f.now.family.ballots.synchronizations number
synchronized_in w (parties.Kept r) number = kept_name r.now.synchronized.items number

-- this cast stands for another one in a world: both speak of the same family, and each number names the same there
pub record StandsFor (kept : Kept) (c : Cast) (w : World) : Type 0 where
  pub key : kept.key ≡ c.key
  pub registered : (number : ℕ) → registered_in w kept.parties number ≡ registered w c number
  pub synchronized : (number : ℕ) → synchronized_in w kept.parties number ≡ synchronized w c number
