-- A client's call that was made, and what it was answered at once (our profile).
use Rattle.std.specs.Prelude.{◌≡◌, ℕ, List, [], slice_get, Option, Some, None, Result, Ok, Err}
use Rattle.std.specs.Option.{option_and_then, option_map}
use Rattle.ior_refs.specs.declared.key.ObjectKey.{ObjectKey}
use Rattle.ots_world.specs.declared.fault.WorldFault.{WorldFault}
use Rattle.coordinator.specs.History.{is_later}
use Rattle.coordinator.specs.declared.event.Act.{Act}
use Rattle.coordinator.specs.declared.said.Said.{Said}
use Rattle.coordinator.specs.declared.said.Said.TheVariants as answers
use Rattle.nodes_world.specs.Clients.{call_event, said_in, said_lines}
use Rattle.nodes_world.specs.Happenings.{Done, ◌▹◌, nothing}
use Rattle.nodes_world.specs.Nodes.{Stepping, no_step, steps}
use Rattle.nodes_world.specs.Objects.{place_of}
use Rattle.nodes_world.specs.Told.{Told}
use Rattle.nodes_world.specs.World.{World, next_message}
use Rattle.nodes_state.specs.Does.{BreaksOff, Does}
use Rattle.nodes_clients.specs.Calling.{sends_call}
use Rattle.nodes_clients.specs.declared.called.Made.{Made}

-- the call with a number acts at the node of its object
abbrev pub acts_in : ℕ → ObjectKey → Act → World → Stepping
acts_in message to act w = elim (slice_get w.seats (place_of to)) [
  | Some s ↦ steps (place_of to) to (call_event message to act s.clock) w
  | None ↦ no_step w
]

-- a call goes out, and acts
abbrev pub called : ObjectKey → Act → World → Stepping
called to act w = record {
  done = sends_call to act w ▹ (λ (v : World). (acts_in (next_message w) to act v).done);
  answer = (acts_in (next_message w) to act (sends_call to act w).world).answer;
}

-- the call has this number, and was answered so
pub record HasMade (number : ℕ) (s : Stepping) (w : World) (before after : List ℕ) (made : Made) : Type 0 where
  pub message : made.message ≡ number
  pub said : made.said ≡ option_map said_in s.answer
  pub done : Does s.done w before after (Ok tt)

-- or it broke off
abbrev pub IsMade : ℕ → Stepping → World → List ℕ → List ℕ → Result Made WorldFault → Type 0
IsMade number s w before after (Ok made) = HasMade number s w before after made
IsMade number s w before after (Err fault) = BreaksOff s.done fault before after

-- the lines that tell what a call was answered
abbrev pub made_lines : Made → List Told
made_lines made = elim made.said [ Some answer ↦ said_lines made.message (is_later answer) answer | None ↦ [] ]

-- what comes of an answer by itself, where there is one
abbrev pub comes_of : (Said → World → Done) → Option Said → World → Done
comes_of behind (Some answer) w = behind answer w
comes_of behind None w = nothing w

-- the branch that was made, where that is the answer
abbrev pub made_by : Said → Option ℕ
made_by (answers.Made branch) = Some branch
made_by _ = None

abbrev pub made_in : Option Said → Option ℕ
made_in answer = option_and_then made_by answer
