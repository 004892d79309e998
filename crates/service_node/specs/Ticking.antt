-- What a tick of a node's clock makes of it, and what it tells its caller (our profile).
use Rattle.std.specs.Prelude.{◌≡◌, ◌⊎◌, ℕ, ◌+◌, List, [], ◌++◌, map, take, drop, filter_map, flat_map, Option}
use Rattle.std.specs.Option.{option_map_or}
use Rattle.ots_model.specs.declared.tree.Outward.{Outward}
use Rattle.decision_journal.specs.Journal.{Found}
use Rattle.recovery_coord.specs.declared.held.Held.{Held}
use Rattle.coordinator.specs.Family.{Family}
use Rattle.coordinator.specs.Node.{Node}
use Rattle.coordinator.specs.NodeTick as ticks
use Rattle.coordinator.specs.NodeTick.{happens_in, takes_all_over, ticked}
use Rattle.service_node.specs.declared.passing.Happening.{Happening}

-- what is told of it: the words go out
abbrev pub told : ticks.Happening → Happening
told h = record { key = h.key; finished = h.finished; effects = h.effects }

abbrev pub words_of : Option ticks.Happening → List Outward
words_of o = option_map_or (λ (h : ticks.Happening). h.words) o []

-- the words of families, in the order of their slots
abbrev pub words_in : List ticks.Happening → List Outward
words_in happened = flat_map (λ (h : ticks.Happening). h.words) happened

-- time has passed in a slot, and the words of its family have gone out
pub record HasPassedIn (now : ℕ) (before after : Option Family) (words more : List Outward) : Type 0 where
  pub family : after ≡ ticked now before
  pub words_are : more ≡ words ++ words_of (happens_in now before)

-- or nothing has happened in it
pub record IsStill (before after : Option Family) (words more : List Outward) : Type 0 where
  pub family : after ≡ before
  pub words_are : more ≡ words

-- time has passed for so many of the first families, and their words have gone out
pub record HasPassed (now count : ℕ) (before after : List (Option Family)) (words more : List Outward) : Type 0 where
  pub families : after ≡ map (ticked now) (take count before) ++ drop count before
  pub words_are : more ≡ words ++ words_in (filter_map (happens_in now) (take count before))

-- the records of so many of the first families go on without them, where these are finished once time has passed
abbrev pub AreTaken : Found → ℕ → ℕ → List (Option Family) → List Held → List Held → Type 0
AreTaken found now count families before after = after ≡ takes_all_over found (map (ticked now) (take count families)) before

-- time has passed for some of the first families, and the records of these, or of all of these but the last, go on
pub record HasPassedInPart (now : ℕ) (found : Found) (before after : List (Option Family)) (records later : List Held) (words more : List Outward) : Type 0 where
  pub count : ℕ
  pub passed : HasPassed now count before after words more
  pub handed : ℕ
  pub behind : (handed ≡ count) ⊎ (handed + 1 ≡ count)
  pub taken : AreTaken found now handed before records later

-- the same of a node, of which nothing else changed
pub record HasPassedSome (now : ℕ) (before after : Node) (words more : List Outward) : Type 0 where
  pub others : after ≡ record before { families = after.families; recovered = after.recovered }
  pub passed : HasPassedInPart now before.found before.families after.families before.recovered after.recovered words more

-- time has passed for all, their words have gone out, and each record that is held is to be told again
pub record HasPassedAll (now : ℕ) (before after : Node) (words more : List Outward) : Type 0 where
  pub passed : more ≡ words ++ words_in (filter_map (happens_in now) before.families)
  pub told_again : after ≡ ticks.tells_again (ticks.passes_time now before)

-- what a tick leaves that wanted memory
abbrev pub HasTickedInPart : ℕ → Node → Node → List Outward → List Outward → Type 0
HasTickedInPart now before after words more = HasPassedSome now before after words more ⊎ HasPassedAll now before after words more

-- the records of finished families go on without them
abbrev pub hands_over : Node → Node
hands_over n = record n { recovered = takes_all_over n.found n.families n.recovered }
