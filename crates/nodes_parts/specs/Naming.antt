-- Names, as the code keeps them (our profile).
use Rattle.std.specs.Prelude.{◌≡◌, ℕ, List, [], ◌∷◌, ◌++◌, find, Option}
use Rattle.std.specs.List.{filter_map}
use Rattle.std.specs.Option.{option_map}
use Rattle.ior_refs.specs.declared.key.ObjectKey.{ObjectKey}
use Rattle.nodes_world.specs.declared.thing.Thing.{Thing}
use Rattle.nodes_world.specs.Objects.{same_transaction}
use Rattle.nodes_world.specs.World.{NamedKey, transaction_in}
use Rattle.nodes_parts.specs.declared.transactions.TransactionNumber.{TransactionNumber}
use Rattle.nodes_parts.specs.Index.{name_in}
use Rattle.nodes_parts.specs.Referring.{LeadsTo}

-- what names name, in the order of their making; and the resource to which each reference leads
pub record Names : Type 0 where
  pub things : List (List ℕ × Thing)
  pub referred : List (List ℕ × NamedKey)

pub record HasNoNames (n : Names) : Type 0 where
  pub things : n.things ≡ []
  pub referred : n.referred ≡ []

-- a name names something too, behind all that was named before
abbrev pub IsNamedToo : Names → Names → List ℕ → Thing → Type 0
IsNamedToo before after name thing = after.things ≡ before.things ++ (name, thing) ∷ []

-- a reference that led nowhere leads to the resource with this name and key
abbrev pub IsReferredToo : Names → Names → List ℕ → List ℕ → ObjectKey → Type 0
IsReferredToo before after reference name key = LeadsTo reference (record { name = name; key = key }) before.referred after.referred

-- the name of the transaction with a key
abbrev pub name_of_key : List (List ℕ × Thing) → ObjectKey → Option (List ℕ)
name_of_key things key =
    option_map (λ (t : NamedKey). t.name)
    (find (λ (t : NamedKey). same_transaction t.key key) (filter_map (λ (entry : List ℕ × Thing). transaction_in entry.0 entry.1) things))

-- transactions are found by their keys
abbrev pub IsFound : List (List ℕ × Thing) → List (TransactionNumber × List ℕ) → Type 0
IsFound things found = (key : ObjectKey) → name_in found key ≡ name_of_key things key
