-- The steps of which all that a script does is made, each with the lines that it tells. What is known of a world is kept by each of
-- them; so it is known of every world that a script reaches (our profile).
use Rattle.std.specs.Prelude.{◌≡◌, ℕ, ◌+◌, ◌-◌, ◌&&◌, ◌≤◌, Bool, true, false, List, [], ◌∷◌, ◌++◌, map, slice_get, length, Some, None, is_some}
use Rattle.std.specs.List.{AllByRecursion}
use Rattle.ior_refs.specs.declared.key.ObjectKey.{ObjectKey}
use Rattle.ots_model.specs.Limits.{name_limit}
use Rattle.ots_model.specs.declared.line.Line.TheVariants as lines
use Rattle.ots_model.specs.declared.tree.Outward.{Outward}
use Rattle.ots_world.specs.declared.script.ScriptEvent.{ScriptEvent}
use Rattle.decision_journal.specs.declared.record.JournalRecord.{JournalRecord}
use Rattle.coordinator.specs.Node.{Node}
use Rattle.coordinator.specs.declared.event.Act.{Act}
use Rattle.coordinator.specs.declared.event.Act.TheVariants as acts
use Rattle.coordinator.specs.declared.said.Said.{Said}
use Rattle.nodes_world.specs.declared.deed.Deed.{Deed}
use Rattle.nodes_world.specs.declared.deed.Manner.{Manner}
use Rattle.nodes_world.specs.declared.message.Content.{Content}
use Rattle.nodes_world.specs.declared.message.Content.TheVariants as contents
use Rattle.nodes_world.specs.declared.message.Message.{Message}
use Rattle.nodes_world.specs.declared.thing.Thing.TheVariants as things
use Rattle.nodes_world.specs.Journals.{records_on}
use Rattle.nodes_world.specs.Objects.{place_of, service_at}
use Rattle.nodes_world.specs.Told.{Told, Known as Line, RolledBack, RolledBackBy, operation_of}
use Rattle.nodes_world.specs.World.{World, Seat, OfNode, OfEnd, FlatEnd, FlatResource, next_message, resource_at, thing, transaction_name, with_sent}
use Rattle.nodes_world.specs.Happenings.{Done, after, changes, client_message, nothing, tells}
use Rattle.nodes_world.specs.Nodes.{crashes_seat, steps, ticks_node}
use Rattle.nodes_world.specs.Ends.{closed_by, obeys, put_into, refusing, with_resource_at}
use Rattle.nodes_world.specs.Clients.{begins_at, call_event, called_line, creates_sub, registers_at}
use Rattle.nodes_world.specs.Deliveries.{hears_answer, is_waited_for}
use Rattle.nodes_world.specs.Lives.{loads, makes_end, with_named_seat}
use Rattle.nodes_world.specs.Resolve.{may_register, resolve}
use Rattle.nodes_world.specs.Step.{carried_out, is_full, lacks_life, limit_before}
use Rattle.nodes_world.specs.Agreement.{GivesName, IsWord, GoesOnFrom, Reaches}
use Rattle.nodes_world.specs.AgreementInside.{Known}
use Rattle.nodes_world.specs.Changes.{CallsAreDelivered}

-- ---- worlds of which the same is known

-- a seat without its clock, and without the stop that is to come
abbrev pub kept_seat : Seat → Seat
kept_seat s = record s { clock = 0; stop = None }

-- a client's call
abbrev pub is_call : Content → Bool
is_call (contents.Call to act) = true
is_call (contents.Request from o) = false
is_call (contents.Reply request answer) = false

-- a message without what became of it; of a client's call it is kept whether that was delivered
abbrev pub kept_message : Message → Message
kept_message m = record m { delivered = is_call m.content && m.delivered; lost = false; answered = false }

-- a world differs from another in clocks, in stops to come and in what became of messages alone
pub record IsAlike (w v : World) : Type 0 where
  pub names : v.names ≡ w.names
  pub seats : map kept_seat v.seats ≡ map kept_seat w.seats
  pub messages : map kept_message v.messages ≡ map kept_message w.messages

-- a line that agreement doesn't speak of
abbrev pub IsQuiet : Told → Type 0
IsQuiet (Line line) = ⊥
IsQuiet (RolledBack transaction reason) = ⊥
IsQuiet (RolledBackBy transaction reason synchronization) = ⊥
IsQuiet _ = Unit {0}

-- ---- one step

-- what a client calls by itself: nothing is made, and nothing registered
abbrev pub is_asked : Act → Bool
is_asked acts.CreateSubtransaction = false
is_asked (acts.RegisterResource resource aware) = false
is_asked (acts.RegisterSynchronization synchronization) = false
is_asked (acts.RegisterSubtranAware resource) = false
is_asked act = is_some (operation_of act)

-- a script puts something for a resource, or has it refuse
pub data IsTouched (r : FlatResource) : FlatResource → Type 0 where
  by_put : (cell value : ℕ) → closed_by r.state ≡ None → IsTouched r (put_into cell value r)
  by_refusal : closed_by r.state ≡ None → IsTouched r (refusing r)

-- what comes of a world by one step, and the lines that tell it
pub data Goes (w : World) : Done → Type 0 where
  -- nothing that is known changes; or a message comes to one that is up
  by_alike : (v : World) (quiet : List Told) → IsAlike w v → AllByRecursion IsQuiet quiet → Goes w (record { world = v; lines = quiet })
  by_receipt : (number : ℕ) → Goes w (tells (Line (lines.Recv number) ∷ []) w)
  -- a node that is still to be loaded is made, or an end; a node is loaded, or goes down
  by_node : (name : List ℕ) → thing w name ≡ None → is_full w ≡ false → Goes w (changes (with_named_seat name (OfNode None) w))
  by_end : (name : List ℕ) → thing w name ≡ None → is_full w ≡ false → length name ≤ name_limit → Goes w (makes_end name w)
  by_load : (place : ℕ) (s : Seat) (rs : List JournalRecord) → slice_get w.seats place ≡ Some s → s.server ≡ OfNode None
      → records_on (service_at place) s.disk ≡ Some rs → lacks_life (service_at place) rs ≡ false → Goes w (loads place s (Some rs) w)
  by_crash : (place : ℕ) (s : Seat) (n : Node) → slice_get w.seats place ≡ Some s → s.server ≡ OfNode (Some n)
      → Goes w (crashes_seat place s.disk.reads s w)
  -- a top-level transaction is made
  by_begin : (place : ℕ) (name : List ℕ) (seconds : ℕ) (s : Seat) (n : Node) → slice_get w.seats place ≡ Some s
      → s.server ≡ OfNode (Some n) → thing w name ≡ None → Goes w (begins_at place name seconds s (Some n) w)
  -- a client's call goes out, and comes to its node
  by_calling : (to : ObjectKey) (act : Act) → is_asked act ≡ true → GoesOnFrom w
      → Goes w (record {
        world = with_sent (client_message (contents.Call to act)) w;
        lines = called_line (next_message w) (operation_of act) (transaction_name w to);
      })
  by_call : (nth now : ℕ) (to : ObjectKey) (act : Act) (m : Message) → slice_get w.messages nth ≡ Some m → m.content ≡ contents.Call to act
      → is_asked act ≡ true → Goes w (steps (place_of to) to (call_event (nth + 1) to act now) w).done
  -- one that makes a subtransaction, or registers a resource, with the name that is given then
  by_sub : (parent : ObjectKey) (name : List ℕ) → thing w name ≡ None → GoesOnFrom w → Goes w (creates_sub parent name w)
  by_register : (manner : Manner) (transaction : ObjectKey) (place : ℕ) (name : List ℕ) (s : Seat) (e : FlatEnd) → slice_get w.seats place ≡ Some s
      → s.server ≡ OfEnd (Some e) → thing w name ≡ None → may_register manner w transaction ≡ true → GoesOnFrom w
      → Goes w (registers_at manner transaction place s (Some e) name w)
  -- a resource is touched by a script, or told a word
  by_touch : (name : List ℕ) (key : ObjectKey) (r later : FlatResource) → thing w name ≡ Some (things.Resource key)
      → resource_at w key ≡ Some r → IsTouched r later → Goes w (changes (with_resource_at key later w))
  by_word : (nth place : ℕ) (o : Outward) → IsWord w nth place o → Goes w (obeys (nth + 1) o w)
  -- the sender of a word hears the answer that a message gives
  by_hearing : (request from reply : ℕ) (o : Outward) (m back : Message) (answer : Said) (s : Seat) → slice_get w.messages (request - 1) ≡ Some m
      → m.content ≡ contents.Request from o → slice_get w.messages reply ≡ Some back → back.content ≡ contents.Reply request answer
      → slice_get w.seats from ≡ Some s → is_waited_for w m from o ≡ true → Goes w (hears_answer (request - 1) m from o answer s w)
  -- time passes for a node
  by_tick : (place : ℕ) (s : Seat) (n : Node) → slice_get w.seats place ≡ Some s → s.server ≡ OfNode (Some n) → Goes w (ticks_node place s.clock n w)

-- and what comes of it by any number of steps
pub data GoesOn (w : World) : Done → Type 0 where
  still : GoesOn w (nothing w)
  further : (between later : Done) → GoesOn w between → Goes between.world later → GoesOn w (after between later)

-- where no call waits to be delivered, whatever a line does that passes no limit is made of these steps
abbrev pub DeedsGo : Type 0
DeedsGo = (event : ScriptEvent) (deed : Deed) (w : World) → CallsAreDelivered w → GoesOnFrom w → GivesName event
    → resolve event w ≡ Some deed → limit_before deed w ≡ None → GoesOn w (carried_out deed w)

-- and none waits in any world that a script reaches
abbrev pub ReachedCallsAreDelivered : Type 0
ReachedCallsAreDelivered = (w : World) (told : List Told) → Reaches w told → CallsAreDelivered w

-- ---- what is known is kept

-- what comes of a world keeps what is known of it
abbrev pub StaysKnown : World → Done → Type 0
StaysKnown w d = (told : List Told) → Known w told → Known d.world (told ++ d.lines)

-- each step does so
pub record StepsStayKnown : Type 0 where
  pub alike : (w v : World) (quiet : List Told) → IsAlike w v → AllByRecursion IsQuiet quiet → StaysKnown w (record { world = v; lines = quiet })
  pub receipt : (w : World) (number : ℕ) → StaysKnown w (tells (Line (lines.Recv number) ∷ []) w)
  pub node : (w : World) (name : List ℕ) → thing w name ≡ None → is_full w ≡ false
      → StaysKnown w (changes (with_named_seat name (OfNode None) w))
  pub end : (w : World) (name : List ℕ) → thing w name ≡ None → is_full w ≡ false → length name ≤ name_limit
      → StaysKnown w (makes_end name w)
  pub load : (w : World) (place : ℕ) (s : Seat) (rs : List JournalRecord) → slice_get w.seats place ≡ Some s → s.server ≡ OfNode None
      → records_on (service_at place) s.disk ≡ Some rs → lacks_life (service_at place) rs ≡ false → StaysKnown w (loads place s (Some rs) w)
  pub crash : (w : World) (place : ℕ) (s : Seat) (n : Node) → slice_get w.seats place ≡ Some s → s.server ≡ OfNode (Some n)
      → StaysKnown w (crashes_seat place s.disk.reads s w)
  pub begin : (w : World) (place : ℕ) (name : List ℕ) (seconds : ℕ) (s : Seat) (n : Node) → slice_get w.seats place ≡ Some s
      → s.server ≡ OfNode (Some n) → thing w name ≡ None → StaysKnown w (begins_at place name seconds s (Some n) w)
  pub calling : (w : World) (to : ObjectKey) (act : Act) → is_asked act ≡ true → GoesOnFrom w
      → StaysKnown w (record {
        world = with_sent (client_message (contents.Call to act)) w;
        lines = called_line (next_message w) (operation_of act) (transaction_name w to);
      })
  pub call : (w : World) (nth now : ℕ) (to : ObjectKey) (act : Act) (m : Message) → slice_get w.messages nth ≡ Some m
      → m.content ≡ contents.Call to act → is_asked act ≡ true
      → StaysKnown w (steps (place_of to) to (call_event (nth + 1) to act now) w).done
  pub sub : (w : World) (parent : ObjectKey) (name : List ℕ) → thing w name ≡ None → GoesOnFrom w → StaysKnown w (creates_sub parent name w)
  pub register : (w : World) (manner : Manner) (transaction : ObjectKey) (place : ℕ) (name : List ℕ) (s : Seat) (e : FlatEnd)
      → slice_get w.seats place ≡ Some s → s.server ≡ OfEnd (Some e) → thing w name ≡ None → may_register manner w transaction ≡ true → GoesOnFrom w
      → StaysKnown w (registers_at manner transaction place s (Some e) name w)
  pub touch : (w : World) (name : List ℕ) (key : ObjectKey) (r later : FlatResource) → thing w name ≡ Some (things.Resource key)
      → resource_at w key ≡ Some r → IsTouched r later → StaysKnown w (changes (with_resource_at key later w))
  pub word : (w : World) (nth place : ℕ) (o : Outward) → IsWord w nth place o → StaysKnown w (obeys (nth + 1) o w)
  pub hearing : (w : World) (request from reply : ℕ) (o : Outward) (m back : Message) (answer : Said) (s : Seat)
      → slice_get w.messages (request - 1) ≡ Some m → m.content ≡ contents.Request from o → slice_get w.messages reply ≡ Some back
      → back.content ≡ contents.Reply request answer → slice_get w.seats from ≡ Some s → is_waited_for w m from o ≡ true
      → StaysKnown w (hears_answer (request - 1) m from o answer s w)
  pub tick : (w : World) (place : ℕ) (s : Seat) (n : Node) → slice_get w.seats place ≡ Some s → s.server ≡ OfNode (Some n)
      → StaysKnown w (ticks_node place s.clock n w)
