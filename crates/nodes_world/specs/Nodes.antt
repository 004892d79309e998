-- What comes of a call to a node in a world: the journal is asked, the lines are told, and the words go out; or the node crashes
-- inside a write. And what its clock does (our profile).
use Rattle.std.specs.Prelude.{ℕ, ◌==◌, List, [], ◌∷◌, ◌++◌, find, slice_get, Option, Some, None, Result, Ok, Err}
use Rattle.std.specs.Option.{option_map}
use Rattle.ior_refs.specs.declared.key.ObjectKey.{ObjectKey}
use Rattle.ots_outside.specs.Disk.{DiskState, at_first}
use Rattle.recovery_coord.specs.declared.held.Held.{Held}
use Rattle.coordinator.specs.declared.effect.Effect.{Effect}
use Rattle.coordinator.specs.declared.event.Act.{Act}
use Rattle.coordinator.specs.declared.event.Act.TheVariants as acts
use Rattle.coordinator.specs.declared.event.Event.{Event}
use Rattle.coordinator.specs.declared.node.NodeFault.{NodeFault}
use Rattle.coordinator.specs.declared.said.Entry.{Entry}
use Rattle.coordinator.specs.declared.said.StepAnswer.{StepAnswer}
use Rattle.coordinator.specs.Family.{Family}
use Rattle.coordinator.specs.Names.{coordinator_kind}
use Rattle.coordinator.specs.Step.{hears}
use Rattle.coordinator.specs.Node.{Node, family_of}
use Rattle.coordinator.specs.NodeCalls.{Applied, RetoldAnswer, applies, call_wants, family_for, retold_answer}
use Rattle.coordinator.specs.NodeTick.{Happening, Ticked, ticks}
use Rattle.nodes_world.specs.Disks.{Stop}
use Rattle.nodes_world.specs.Journals.{Asked, Answers, Stops, asks}
use Rattle.nodes_world.specs.Told.{Told, Down}
use Rattle.nodes_world.specs.World.{World, Seat, OfNode, node_in, with_server, with_disk}
use Rattle.nodes_world.specs.Happenings.{Done, nothing, tells, changes, ◌▹◌, requests_all, Cast, cast_of, cast_of_key, all_effect_lines, all_finished_lines}

-- ---- a crash

-- a node goes down: nothing of it is left but these octets of its disk, and no stop is to come
abbrev pub crashes_seat : ℕ → List ℕ → Seat → World → Done
crashes_seat place image s w = record {
  world = with_server place (OfNode None) (with_disk place (at_first image) None w);
  lines = Down s.name ∷ [];
}

unfoldable pub crashes : ℕ → List ℕ → World → Done
crashes place image w = elim (slice_get w.seats place) [ Some s ↦ crashes_seat place image s w | None ↦ nothing w ]

-- ---- a call to a node

-- the family of a record
abbrev pub key_of_record : ℕ → Held → ObjectKey
key_of_record service r = record {
  kind = coordinator_kind;
  service = service;
  life = r.life;
  slot = r.slot;
  generation = r.generation;
  index = 0;
}

-- the record that an answer to a word which was told again is for
abbrev pub record_for : RetoldAnswer → Node → Option Held
record_for a n = find (λ (r : Held). r.place == a.number.generation) n.recovered

abbrev pub cast_of_record : Option RetoldAnswer → Node → Option Cast
cast_of_record (Some a) n = option_map (λ (r : Held). cast_of_key (key_of_record n.service r)) (record_for a n)
cast_of_record None n = None

-- whom an event speaks of: the family as the event leaves it, or that of the record for which an answer came
abbrev pub cast_by : Option Family → Event → Node → Option Cast
cast_by (Some f) e n = Some (cast_of f)
cast_by None e n = cast_of_record (retold_answer e.act) n

-- the history in which the calls are that an event answers
abbrev pub entries_of : Option Family → List Entry
entries_of (Some f) = f.entries
entries_of None = []

abbrev pub effects_told : World → Option Cast → List Effect → List Told
effects_told w (Some c) some = all_effect_lines w c some
effects_told w None some = []

-- what happened is told, and the answers to earlier calls
abbrev pub answer_told : World → Option Cast → List Entry → Result StepAnswer NodeFault → List Told
answer_told w c entries (Ok a) = effects_told w c a.effects ++ all_finished_lines entries a.finished
answer_told w c entries (Err fault) = []

-- the world after a call, with what it was answered, unless the node has crashed in it
pub record Stepping : Type 0 where
  pub done : Done
  pub answer : Option (Result StepAnswer NodeFault)

abbrev pub no_step : World → Stepping
no_step w = record { done = nothing w; answer = None }

-- the call went through: the node and its disk are as it leaves them, it is told what happened and whom it answered, and then its
-- words go out
abbrev pub applied_at : ℕ → ObjectKey → Event → Node → DiskState → Option Stop → Applied → World → Stepping
applied_at place k e n disk stop a w = record {
  done = changes (with_server place (OfNode (Some a.node)) (with_disk place disk stop w))
      ▹ tells (answer_told w (cast_by (family_for k e a.node) e n) (entries_of (family_for k e a.node)) a.answer)
      ▹ requests_all place a.words;
  answer = Some a.answer;
}

-- what had happened before the journal was asked: an answer was heard
abbrev pub heard_effects : Act → Family → List Effect
heard_effects (acts.Answer number h) f = (hears number h f).effects
heard_effects _ f = []

abbrev pub heard_lines : World → Option Family → Event → List Told
heard_lines w (Some f) e = all_effect_lines w (cast_of f) (heard_effects e.act f)
heard_lines w None e = []

-- a crash inside a write: what had happened before is told, and nothing else
abbrev pub stopped_at : ℕ → ObjectKey → Event → Node → List ℕ → World → Stepping
stopped_at place k e n image w = record {
  done = tells (heard_lines w (family_for k e n) e) w ▹ crashes place image;
  answer = None;
}

abbrev pub steps_by : Asked → ℕ → ObjectKey → Event → Node → World → Stepping
steps_by (Answers stood disk stop) place k e n w = applied_at place k e n disk stop (applies k e stood n) w
steps_by (Stops image) place k e n w = stopped_at place k e n image w

abbrev pub steps_node : Option Node → Seat → ℕ → ObjectKey → Event → World → Stepping
steps_node (Some n) s place k e w = steps_by (asks (call_wants k e n) n.service n.found s.disk s.stop) place k e n w
steps_node None s place k e w = no_step w

-- an event comes to the node at a place; where none is up nothing happens
unfoldable pub steps : ℕ → ObjectKey → Event → World → Stepping
steps place k e w = elim (slice_get w.seats place) [ Some s ↦ steps_node (node_in s.server) s place k e w | None ↦ no_step w ]

-- ---- a tick of its clock

-- what happened to one family, and then its words
abbrev pub happens : ℕ → Node → Happening → World → Done
happens place later h w =
    tells (elim (family_of h.key later) [
      | Some f ↦ all_effect_lines w (cast_of f) h.effects ++ all_finished_lines f.entries h.finished
      | None ↦ []
    ]) w
    ▹ requests_all place h.words

abbrev pub happens_all : ℕ → Node → List Happening → World → Done
happens_all place later [] w = nothing w
happens_all place later (h ∷ others) w = happens place later h w ▹ happens_all place later others

-- the node at a place as its tick leaves it, then what happened to its families, and then the words that are told again
abbrev pub ticked_at : ℕ → Ticked → World → Done
ticked_at place t w =
    changes (with_server place (OfNode (Some t.node)) w) ▹ happens_all place t.node t.happened ▹ requests_all place t.words

unfoldable pub ticks_node : ℕ → ℕ → Node → World → Done
ticks_node place now n w = ticked_at place (ticks now n) w
