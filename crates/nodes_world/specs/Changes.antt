-- What may become of a world, as few kinds of change, and any number of them. Whatever a line does is made of these; so a fact that
-- each of them keeps holds of every world that a script reaches (our profile).
use Rattle.std.specs.Prelude.{◌≡◌, ℕ, ◌+◌, min, true, List, Option, Some, None, find, slice_get}
use Rattle.ior_refs.specs.declared.key.ObjectKey.{ObjectKey}
use Rattle.ots_model.specs.declared.completion.Stood.{Stood}
use Rattle.ots_outside.specs.Disk.{DiskState, at_first}
use Rattle.ots_world.specs.declared.script.ScriptEvent.{ScriptEvent}
use Rattle.decision_journal.specs.Loading.{loaded}
use Rattle.decision_journal.specs.declared.record.JournalRecord.{JournalRecord}
use Rattle.resource_end.specs.Table.{row}
use Rattle.resource_end.specs.declared.state.State.{State}
use Rattle.resource_end.specs.declared.state.Word.{Word}
use Rattle.coordinator.specs.declared.event.Act.{Act}
use Rattle.coordinator.specs.declared.event.Event.{Event}
use Rattle.coordinator.specs.Limits.{last_moment}
use Rattle.coordinator.specs.Node.{Node, load}
use Rattle.coordinator.specs.NodeCalls.{applies, call_wants}
use Rattle.coordinator.specs.NodeSlots.{creates}
use Rattle.coordinator.specs.NodeTick.{ticks}
use Rattle.nodes_world.specs.declared.deed.Deed.{Deed}
use Rattle.nodes_world.specs.declared.message.Content.TheVariants as contents
use Rattle.nodes_world.specs.declared.message.Message.{Message}
use Rattle.nodes_world.specs.declared.thing.Thing.{Thing}
use Rattle.nodes_world.specs.Disks.{Stop}
use Rattle.nodes_world.specs.Journals.{Asked, Answers, Stops, asks, records_on}
use Rattle.nodes_world.specs.Objects.{service_at}
use Rattle.nodes_world.specs.World.{World, Seat, OfNode, OfEnd, FlatEnd, FlatResource, has_number, thing, with_seat, with_new_seat, with_sent, with_message, with_name}
use Rattle.nodes_world.specs.Ends.{closed_by, drawn_once, put_into, refusing, with_fresh, with_resource}
use Rattle.nodes_world.specs.Lives.{new_end, new_seat}
use Rattle.nodes_world.specs.Resolve.{resolve}
use Rattle.nodes_world.specs.Step.{carried_out}

-- a resource is put something, or is to refuse, where its state lets a script do so; or it is told a word
pub data ResourceBecomes : FlatResource → FlatResource → Type 0 where
  by_put : (r : FlatResource) (cell value : ℕ) → closed_by r.state ≡ None → ResourceBecomes r (put_into cell value r)
  by_refusal : (r : FlatResource) → closed_by r.state ≡ None → ResourceBecomes r (refusing r)
  by_word : (r : FlatResource) (word : Word) (next : State) → (row word r.state).next ≡ Some next → ResourceBecomes r (record r { state = next })

-- an end makes an object, takes a resource, or one of its resources changes
pub data EndBecomes : FlatEnd → FlatEnd → Type 0 where
  by_drawing : (e : FlatEnd) → EndBecomes e (drawn_once e)
  by_making : (e : FlatEnd) (key : ObjectKey) → EndBecomes e (with_fresh key e)
  by_change : (e : FlatEnd) (key : ObjectKey) (r later : FlatResource) → find (has_number key) e.resources ≡ Some r
      → ResourceBecomes r later → EndBecomes e (with_resource later e)

-- what the journal of a node answers to what a call wants of it
abbrev pub asked_of : Seat → Node → ObjectKey → Event → Asked
asked_of s n k e = asks (call_wants k e n) n.service n.found s.disk s.stop

-- a seat whose node is down, with these octets on its disk
abbrev pub left_with : List ℕ → Seat → Seat
left_with image s = record s { disk = at_first image; stop = None; server = OfNode None }

-- the seat at a place
pub data SeatBecomes (place : ℕ) : Seat → Seat → Type 0 where
  -- its clock goes on, or a stop is to come
  by_clock : (s : Seat) (seconds : ℕ) → SeatBecomes place s (record s { clock = min (s.clock + seconds) last_moment })
  by_stop : (s : Seat) (stop : Stop) → SeatBecomes place s (record s { stop = Some stop })
  -- its node makes a family, a call comes to it which its journal has answered, or time passes for it
  by_family : (s : Seat) (n : Node) (seconds : ℕ) → s.server ≡ OfNode (Some n)
      → SeatBecomes place s (record s { server = OfNode (Some (creates s.clock seconds n).node) })
  by_call : (s : Seat) (n : Node) (k : ObjectKey) (e : Event) (stood : Option Stood) (disk : DiskState) (stop : Option Stop)
      → s.server ≡ OfNode (Some n) → asked_of s n k e ≡ Answers stood disk stop
      → SeatBecomes place s (record s { disk = disk; stop = stop; server = OfNode (Some (applies k e stood n).node) })
  by_tick : (s : Seat) (n : Node) (now : ℕ) → s.server ≡ OfNode (Some n)
      → SeatBecomes place s (record s { server = OfNode (Some (ticks now n).node) })
  -- its node goes down, between two calls or inside a write, and comes up again
  by_crash : (s : Seat) (n : Node) → s.server ≡ OfNode (Some n) → SeatBecomes place s (left_with s.disk.reads s)
  by_crash_inside : (s : Seat) (n : Node) (k : ObjectKey) (e : Event) (image : List ℕ) → s.server ≡ OfNode (Some n)
      → asked_of s n k e ≡ Stops image → SeatBecomes place s (left_with image s)
  by_load : (s : Seat) (rs : List JournalRecord) → s.server ≡ OfNode None → records_on (service_at place) s.disk ≡ Some rs
      → SeatBecomes place s (record s {
        disk = loaded (service_at place) rs s.disk;
        stop = None;
        server = OfNode (Some (load (service_at place) rs));
      })
  -- its end changes
  by_end : (s : Seat) (e later : FlatEnd) → s.server ≡ OfEnd (Some e) → EndBecomes e later
      → SeatBecomes place s (record s { server = OfEnd (Some later) })

-- if it is a client's call, it was delivered
abbrev pub CallIsDelivered : Message → Type 0
CallIsDelivered m = (to : ObjectKey) (act : Act) → m.content ≡ contents.Call to act → m.delivered ≡ true

-- a message comes to its receiver, is passed over, or its sender hears what became of it
pub data MessageBecomes : Message → Message → Type 0 where
  by_delivery : (m : Message) → MessageBecomes m (record m { delivered = true })
  by_loss : (m : Message) → MessageBecomes m (record m { lost = true })
  by_answer : (m : Message) → MessageBecomes m (record m { answered = true })

-- a new seat is that of a node which is still to be loaded, or that of an end without resources
pub data IsNewSeat : Seat → Type 0 where
  node : (name : List ℕ) → IsNewSeat (new_seat name (OfNode None))
  end : (name : List ℕ) → IsNewSeat (new_seat name (OfEnd (Some new_end)))

-- a world changes in one place
pub data WorldBecomes (w : World) : World → Type 0 where
  by_new_seat : (s : Seat) → IsNewSeat s → WorldBecomes w (with_new_seat s w)
  by_seat : (place : ℕ) (s later : Seat) → slice_get w.seats place ≡ Some s → SeatBecomes place s later
      → WorldBecomes w (with_seat place later w)
  -- a message is sent; a client's call is delivered with that
  by_sending : (m : Message) → CallIsDelivered m → WorldBecomes w (with_sent m w)
  by_message : (place : ℕ) (m later : Message) → slice_get w.messages place ≡ Some m → MessageBecomes m later
      → WorldBecomes w (with_message place later w)
  by_name : (name : List ℕ) (named : Thing) → thing w name ≡ None → WorldBecomes w (with_name name named w)

-- and any number of times
pub data WorldGoesOn (w : World) : World → Type 0 where
  still : WorldGoesOn w w
  further : (between later : World) → WorldGoesOn w between → WorldBecomes between later → WorldGoesOn w later

-- so no client's call waits to be delivered
abbrev pub CallsAreDelivered : World → Type 0
CallsAreDelivered w = (nth : ℕ) (m : Message) → slice_get w.messages nth ≡ Some m → CallIsDelivered m

-- whatever a line does in a world is made of these changes
abbrev pub DeedsAreChanges : Type 0
DeedsAreChanges = (event : ScriptEvent) (deed : Deed) (w : World) → resolve event w ≡ Some deed → WorldGoesOn w (carried_out deed w).world
