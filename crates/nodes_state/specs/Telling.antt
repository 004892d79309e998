-- What a call that tells lines has done, and whom the lines speak of (our profile).
use Rattle.std.specs.Prelude.{◌≡◌, ℕ, ◌+◌, ◌++◌, List, take, slice_get, Option, Some, Result, Ok, Err}
use Rattle.std.specs.Option.{option_map, option_and_then}
use Rattle.ior_refs.specs.declared.key.ObjectKey.{ObjectKey}
use Rattle.resource_votes.specs.Ballots.{numbered}
use Rattle.resource_votes.specs.declared.registration.Registration.{Registration}
use Rattle.nodes_world.specs.Told.{Told, text}
use Rattle.nodes_world.specs.World.{NamedKey, World, transaction_name, referred}
use Rattle.nodes_world.specs.Happenings.{Cast}
use Rattle.nodes_parts.specs.Naming.{Names, name_of_key}
use Rattle.nodes_parts.specs.Referring.{referred_in}

-- these lines were told, whole
abbrev pub Tells : List Told → List ℕ → List ℕ → Type 0
Tells some before after = after ≡ before ++ text some

-- some of these lines were told, from the front, each whole
abbrev pub TellsPart : List Told → List ℕ → List ℕ → Type 0
TellsPart some before after = (k : ℕ) × (after ≡ before ++ text (take k some))

-- a line was told, where there is one; or, where memory ran out, nothing
abbrev pub TellsOne : {E : Type 0} → List Told → List ℕ → List ℕ → Result (Unit {0}) E → Type 0
TellsOne some before after (Ok _) = Tells some before after
TellsOne some before after (Err _) = after ≡ before

-- the lines were told; or, where memory ran out, some of them
abbrev pub TellsSome : {E : Type 0} → List Told → List ℕ → List ℕ → Result (Unit {0}) E → Type 0
TellsSome some before after (Ok _) = Tells some before after
TellsSome some before after (Err _) = TellsPart some before after

-- the names are those of a world
pub record AreNamesOf (n : Names) (w : World) : Type 0 where
  pub things : n.things ≡ w.names
  pub transactions : (key : ObjectKey) → name_of_key n.things key ≡ transaction_name w key
  pub references : (to : List ℕ) → referred_in n.referred to ≡ referred w to

-- the name of the object that is registered
abbrev pub name_in : World → Registration → Option (List ℕ)
name_in w r = option_map (λ (n : NamedKey). n.name) (referred w r.to)

-- the name that is kept for a number, where names are kept in order
abbrev pub kept_name : List (Option (List ℕ)) → ℕ → Option (List ℕ)
kept_name some number = option_and_then (λ (o : Option (List ℕ)). o) (numbered some number)

-- each registration has the number of its place
abbrev pub AreIndexed : List Registration → Type 0
AreIndexed some = (i : ℕ) (r : Registration) → slice_get some i ≡ Some r → r.index ≡ i + 1

-- so it is with all whom the effects of a family speak of
pub record IsIndexed (c : Cast) : Type 0 where
  pub registrations : AreIndexed c.registrations
  pub synchronizations : AreIndexed c.synchronizations
