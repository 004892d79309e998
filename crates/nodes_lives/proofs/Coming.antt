-- What has come of a call that went through.
use Rattle.std.proofs.Common.{◌≡◌, List, Option}
use Rattle.std.specs.Option.{option_map}
use Rattle.ior_refs.specs.declared.key.ObjectKey.{ObjectKey}
use Rattle.ots_model.specs.declared.completion.Stood.{Stood}
use Rattle.ots_model.specs.declared.tree.Outward.{Outward}
use Rattle.coordinator.specs.declared.event.Event.{Event}
use Rattle.nodes_world.specs.Disks.{Stop}
use Rattle.nodes_world.specs.Journals.{Answers}
use Rattle.nodes_parts.specs.declared.disks.Stop.{Stop as KeptStop}
use Rattle.nodes_lives.specs.Calling.{HasAnswered, stop_of}
use Rattle.nodes_lives.specs.Shown.{living}
use Rattle.nodes_lives.specs.Writing.{HasGoneThrough, Writes, asked_by}
use Rattle.nodes_lives.specs.declared.running.Running.{Running}
use Rattle.nodes_lives.specs.declared.running.Through.{Through}

pub has_answered : (k : ObjectKey) (e : Event) (before : Running) (t : Through) (stop : Option Stop) (later : Option KeptStop) (words more : List Outward) → HasGoneThrough k e before t words more
    → ((stood : Option Stood) → Writes k e before.loaded.items (living before) t.running.node.value.journal.disk.disk stood before.end t.running.end
    → asked_by k e (living before) stop ≡ Answers stood t.running.node.value.journal.disk.disk (option_map stop_of later))
    → HasAnswered k e (living before) stop (record { node = living t.running; stop = later; answer = t.answer }) words more
has_answered k e before t stop later words more g asked = record {
  stood = g.stood;
  asked = asked g.stood g.writes;
  node = g.node;
  answer = g.answer;
  words_are = g.words_are;
}
