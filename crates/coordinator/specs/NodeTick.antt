-- What a tick of a node's clock does: time is over for some families, and the records whose families are gone are told again
-- (our profile).
use Rattle.std.specs.Prelude.{ℕ, List, [], ◌∷◌, map, filter_map, Option, Some, None, if◌then◌else◌}
use Rattle.std.specs.Option.{option_map, option_and_then}
use Rattle.ior_refs.specs.declared.key.ObjectKey.{ObjectKey}
use Rattle.ots_model.specs.declared.tree.Outward.{Outward}
use Rattle.decision_journal.specs.Journal.{Found}
use Rattle.recovery_coord.specs.Telling.{retold, words}
use Rattle.recovery_coord.specs.declared.held.Held.{Held}
use Rattle.coordinator.specs.declared.effect.Effect.{Effect}
use Rattle.coordinator.specs.declared.event.Act.TheVariants as acts
use Rattle.coordinator.specs.declared.event.Event.{Event}
use Rattle.coordinator.specs.declared.said.Finished.{Finished}
use Rattle.coordinator.specs.declared.said.Said.TheVariants as said
use Rattle.coordinator.specs.Family.{Family}
use Rattle.coordinator.specs.Step.{Stepped, family_step, is_silent, quiet}
use Rattle.coordinator.specs.Node.{Node, life}
use Rattle.coordinator.specs.History.{has_room}
use Rattle.coordinator.specs.NodeSlots.{takes_over}

-- the clock stands at a moment
abbrev pub tick_at : ℕ → Event
tick_at now = record { key = None; branch = 0; now = now; act = acts.Tick }

-- what a tick does to a family: nothing, where its history has no room for it
abbrev pub tick_of : ℕ → Family → Stepped
tick_of now f = if has_room f.entries (tick_at now) then family_step f (tick_at now) None else quiet said.Plain f

abbrev pub ticked : ℕ → Option Family → Option Family
ticked now place = option_map (λ f. (tick_of now f).family) place

-- what happened to the family with this key: whom it answered, its effects, and the words that went out, in order
pub record Happening : Type 0 where
  pub key : ObjectKey
  pub finished : List Finished
  pub effects : List Effect
  pub words : List Outward

abbrev pub happening : Family → Stepped → Happening
happening f s = record { key = f.key; finished = s.finished; effects = s.effects; words = s.words }

-- a family whose time is over, or none
abbrev pub happens_to : ℕ → Family → Option Happening
happens_to now f = if is_silent (tick_at now) f then None else Some (happening f (tick_of now f))

abbrev pub happens_in : ℕ → Option Family → Option Happening
happens_in now place = option_and_then (happens_to now) place

-- the records of finished families go on without them, each once
abbrev pub takes_all_over : Found → List (Option Family) → List Held → List Held
takes_all_over found [] records = records
takes_all_over found (place ∷ others) records = takes_all_over found others (takes_over found place records)

-- the node, what happened to families, by slot, and then the words that are told again, in record order
pub record Ticked : Type 0 where
  pub node : Node
  pub happened : List Happening
  pub words : List Outward

-- time passes for each family
abbrev pub passes_time : ℕ → Node → Node
passes_time now n = record n { families = map (ticked now) n.families }

-- what is told again then
abbrev pub tells_again : Node → Node
tells_again n = record n { recovered = map retold (takes_all_over n.found n.families n.recovered) }

unfoldable pub ticks : ℕ → Node → Ticked
ticks now n =
    let later : Node = tells_again (passes_time now n) in
    record {
      node = later;
      happened = filter_map (happens_in now) n.families;
      words = words (life later) later.recovered;
    }
