-- What the call has done that carries an event to a node, by what it answers (our profile).
use Rattle.std.specs.Prelude.{◌≡◌, ℕ, List, Option, Some, Result, Ok, Err}
use Rattle.ots_world.specs.declared.fault.WorldFault.{WorldFault}
use Rattle.coordinator.specs.declared.node.NodeFault.{NodeFault}
use Rattle.coordinator.specs.declared.said.StepAnswer.{StepAnswer}
use Rattle.ior_refs.specs.declared.key.ObjectKey.{ObjectKey}
use Rattle.ots_model.specs.declared.tree.Outward.{Outward}
use Rattle.coordinator.specs.Node.{Node}
use Rattle.coordinator.specs.NodeCalls.{family_for}
use Rattle.coordinator.specs.declared.event.Event.{Event}
use Rattle.nodes_world.specs.Happenings.{◌▹◌, requests_all, tells}
use Rattle.nodes_world.specs.Nodes.{Stepping, answer_told, entries_of}
use Rattle.nodes_world.specs.Told.{Told}
use Rattle.nodes_world.specs.World.{World}
use Rattle.nodes_state.specs.Does.{BreaksOff, Does}
use Rattle.nodes_clients.specs.Answering.{spoken_of}

-- all was done, and this is the answer; or it broke off
abbrev pub HasCarried : Stepping → World → List ℕ → List ℕ → Result (Option (Result StepAnswer NodeFault)) WorldFault → Type 0
HasCarried s w before after (Ok answer) = (answer ≡ s.answer) × Does s.done w before after (Ok tt)
HasCarried s w before after (Err fault) = BreaksOff s.done fault before after

-- the lines that tell the answer of a call that went through, by the node behind it and the family of the record that it was for
abbrev pub passed_lines : World → ObjectKey → Event → Node → Option ObjectKey → Result StepAnswer NodeFault → List Told
passed_lines w k e later recorded answer = answer_told w (spoken_of (family_for k e later) recorded) (entries_of (family_for k e later)) answer

-- these lines are told, and words go out from the seat at a place
abbrev pub passes : List Told → ℕ → List Outward → Result StepAnswer NodeFault → World → Stepping
passes some place words answer w = record { done = tells some w ▹ requests_all place words; answer = Some answer }
