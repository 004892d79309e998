-- What comes of a call to a node that is up: it goes through, or the node crashes inside a write (our profile).
use Rattle.std.specs.Prelude.{◌≡◌, List, [], ◌++◌, Option}
use Rattle.std.specs.Option.{option_map}
use Rattle.ior_refs.specs.declared.key.ObjectKey.{ObjectKey}
use Rattle.ots_model.specs.declared.completion.Stood.{Stood}
use Rattle.ots_model.specs.declared.tree.Outward.{Outward}
use Rattle.coordinator.specs.NodeCalls.{applies, family_for}
use Rattle.coordinator.specs.declared.event.Event.{Event}
use Rattle.nodes_world.specs.Disks.{Stop}
use Rattle.nodes_world.specs.Journals.{Answers, Stops}
use Rattle.nodes_parts.specs.declared.disks.Stop.{Stop as KeptStop}
use Rattle.nodes_lives.specs.First.{heard_by}
use Rattle.nodes_lives.specs.Living.{Living}
use Rattle.nodes_lives.specs.Loads.{StoresJournal}
use Rattle.nodes_lives.specs.declared.calling.Answered.{Answered}
use Rattle.nodes_lives.specs.declared.calling.Called.{Called}
use Rattle.nodes_lives.specs.declared.calling.Called.TheVariants as called
use Rattle.nodes_lives.specs.declared.calling.Stopped.{Stopped}
use Rattle.nodes_lives.specs.Writing.{asked_by}

-- a stop as it is defined
abbrev pub stop_of : KeptStop → Stop
stop_of s = record { write = s.write; image = s.image }

-- the journal answered: the call is the definition's with that
pub record HasAnswered (k : ObjectKey) (e : Event) (before : Living) (stop : Option Stop) (a : Answered) (words more : List Outward) : Type 0 where
  pub stood : Option Stood
  pub asked : asked_by k e before stop ≡ Answers stood a.node.disk (option_map stop_of a.stop)
  pub node : a.node.node ≡ (applies k e stood before.node).node
  pub answer : a.answer ≡ (applies k e stood before.node).answer
  pub words_are : more ≡ words ++ (applies k e stood before.node).words

-- A crash inside a write of the journal has left these octets, which hold a journal; this is what the family had heard before, and no word
-- goes out.
pub record HasStopped (k : ObjectKey) (e : Event) (before : Living) (stop : Option Stop) (s : Stopped) (more : List Outward) : Type 0 where
  pub asked : asked_by k e before stop ≡ Stops s.image.items
  pub holds : StoresJournal before.node.service s.image.items
  pub heard : s.heard ≡ heard_by (family_for k e before.node) e.act
  pub unsaid : more ≡ []

abbrev pub HasCalled : ObjectKey → Event → Living → Option Stop → Called → List Outward → List Outward → Type 0
HasCalled k e before stop (called.Answered a) words more = HasAnswered k e before stop a words more
HasCalled k e before stop (called.Stopped s) words more = HasStopped k e before stop s more
