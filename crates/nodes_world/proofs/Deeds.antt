-- Each deed is made of changes of a world.
use Rattle.std.proofs.Common.{◌≡◌, ℕ, zero, suc, ◌+◌, ◌-◌, ◌&&◌, Bool, true, false, min, List, [], length, slice_get, codes, Option, Some, None, Result, Ok, Err, is_some, is_none, refl, sym, ap, subst, ◌∙◌}
use Rattle.std.specs.Option.{option_map, option_map_or, option_and_then}
use Rattle.ior_refs.specs.declared.key.ObjectKey.{ObjectKey}
use Rattle.ots_model.specs.declared.line.ResourceState.{ResourceState}
use Rattle.ots_model.specs.declared.tree.Outward.{Outward}
use Rattle.decision_journal.specs.Loading.{loaded}
use Rattle.decision_journal.specs.declared.record.JournalRecord.{JournalRecord}
use Rattle.resource_end.specs.Table.{row}
use Rattle.resource_end.specs.declared.state.Row.{Row}
use Rattle.resource_end.specs.declared.state.State.{State}
use Rattle.resource_end.specs.declared.state.Word.{Word as EndWord}
use Rattle.coordinator.specs.declared.event.Act.{Act}
use Rattle.coordinator.specs.declared.event.Act.TheVariants as acts
use Rattle.coordinator.specs.declared.node.NodeFault.{NodeFault}
use Rattle.coordinator.specs.declared.said.Said.{Said}
use Rattle.coordinator.specs.declared.said.Said.TheVariants as said
use Rattle.coordinator.specs.declared.said.StepAnswer.{StepAnswer}
use Rattle.coordinator.specs.Limits.{last_moment}
use Rattle.coordinator.specs.Node.{Node, load}
use Rattle.coordinator.specs.NodeSlots.{creates}
use Rattle.ots_world.specs.declared.script.ScriptEvent.{ScriptEvent}
use Rattle.ots_world.specs.declared.script.ScriptEvent.TheVariants as events
use Rattle.nodes_world.specs.declared.deed.Deed.{Deed}
use Rattle.nodes_world.specs.declared.deed.Deed.TheVariants as deeds
use Rattle.nodes_world.specs.declared.deed.Manner.{Manner}
use Rattle.nodes_world.specs.declared.deed.Manner.TheVariants as manners
use Rattle.nodes_world.specs.declared.message.Content.{Content}
use Rattle.nodes_world.specs.declared.message.Content.TheVariants as contents
use Rattle.nodes_world.specs.declared.message.Message.{Message}
use Rattle.nodes_world.specs.declared.thing.Thing.{Thing}
use Rattle.nodes_world.specs.declared.thing.Thing.TheVariants as things
use Rattle.nodes_world.specs.Journals.{records_on}
use Rattle.nodes_world.specs.Objects.{branch_of, place_of, service_at}
use Rattle.nodes_world.specs.World.{World, Seat, Server, is_free, OfNode, OfEnd, FlatEnd, end_in, FlatResource, NamedKey, is_up, message_numbered, next_message, node_at, node_in, resource_at, referred, thing, thing_in, with_clock, with_disk, with_message, with_name, with_new_seat, with_sent, with_server}
use Rattle.nodes_world.specs.Happenings.{Done, ◌▹◌, changes, client_message, nothing}
use Rattle.nodes_world.specs.Nodes.{Stepping, crashes, steps, ticks_node}
use Rattle.nodes_world.specs.Ends as end
use Rattle.nodes_world.specs.Ends.{closed_by, drawn_once, obeys, obeys_as, obeys_word, puts, put_into, refuses_to, refusing, told_word, with_end, with_fresh}
use Rattle.nodes_world.specs.Clients.{acts_at, answer_only, answered_with, begins, begins_at, begun_with, call_event, calls, created, creates_sub, is_registered, registered, registered_if, registers, registers_at, registers_object, said_in, then_answers}
use Rattle.nodes_world.specs.Deliveries.{answer_event, comes, comes_to, delivers, flows, hears_answer, hears_if, hears_of, hears_reply, is_waited_for, lowest, reaches, receiver_of}
use Rattle.nodes_world.specs.Lives.{crashes_now, loads, makes_end, makes_node, new_end, new_seat, restarts, stops, ticks, ticks_seat, ticks_to, with_named_seat}
use Rattle.nodes_world.specs.Resolve.{as_seat, asks_for, calls_named, commits_as, commits_named, creates_named, begins_named, down_named, end_named, ends_by, if_free, is_down_at, is_down_node, may_commit, may_register, node_named, only_if, puts_named, refuses_named, registers_named, registers_with, relates_named, relation_act, resolve, status_act, transaction_named, where_so}
use Rattle.nodes_world.specs.Step.{carried_out}
use Rattle.nodes_world.specs.Disks.{Stop}
use Rattle.nodes_world.specs.Changes.{DeedsAreChanges, by_clock, by_crash, by_family, by_load, by_stop, by_drawing, by_making, by_put, by_refusal, by_word, by_answer, by_delivery, IsNewSeat, node as node_seat, end as end_seat, by_name, by_new_seat, WorldGoesOn, still, further}
use Rattle.nodes_world.proofs.Going.{GoesUnnamed, and_then, crashes_unnamed, ends_unnamed, get_last, get_set, goes_then, message_becomes, node_up, on_seat_there, on_seat_twice, replies_unnamed, resource_unnamed, seat_becomes, sends_one, stays, steps_unnamed, ticks_unnamed}

-- ---- clients

-- what comes of the answer to a call
abbrev Behind : World → (Said → World → Done) → Type 0
Behind w behind = (answer : Said) (v : World) → v.names ≡ w.names → WorldGoesOn v (behind answer v).world

answered_goes : (message : ℕ) (behind : Said → World → Done) (answer : Option (Result StepAnswer NodeFault)) (v : World)
    → ((a : Said) → WorldGoesOn v (behind a v).world) → WorldGoesOn v (answered_with message behind answer v).world
answered_goes message behind (Some answer) v goes = goes (said_in answer)
answered_goes message behind None v goes = still

acts_goes : (message : ℕ) (to : ObjectKey) (act : Act) (behind : Said → World → Done) (w : World) → Behind w behind
    → WorldGoesOn w (acts_at message to act behind w).world
unfolding acts_at
acts_goes message to act behind w goes = by (slice_get w.seats (place_of to))
  where
    by : (o : Option Seat)
        → WorldGoesOn w (elim o as (λ _. Done) [
          | Some s ↦ then_answers message behind (steps (place_of to) to (call_event message to act s.clock) w)
          | None ↦ record { world = w; lines = [] }
        ]).world
    by (Some s) =
        let step : Stepping = steps (place_of to) to (call_event message to act s.clock) w in
        let first = steps_unnamed (place_of to) to (call_event message to act s.clock) w in
        goes_then w step.done.world (answered_with message behind step.answer step.done.world).world first.goes
        (answered_goes message behind step.answer step.done.world (λ a. goes a step.done.world first.names))
    by None = still

calls_goes : (to : ObjectKey) (act : Act) (behind : Said → World → Done) (w : World) → Behind w behind → WorldGoesOn w (calls to act behind w).world
unfolding calls
calls_goes to act behind w goes =
    let sent = with_sent (client_message (contents.Call to act)) w in
    goes_then w sent (acts_at (next_message w) to act behind sent).world (sends_one (client_message (contents.Call to act)) w (λ at by says. refl)).goes
    (acts_goes (next_message w) to act behind sent goes)

quiet : (w : World) → Behind w answer_only
quiet w answer v same = still

-- a name that was free is still so, and is given
gives_name : (name : List ℕ) (named : Thing) (w v : World) → thing w name ≡ None → v.names ≡ w.names → WorldGoesOn v (with_name name named v)
gives_name name named w v free same =
    further v (with_name name named v) still (by_name name named (ap (λ names. thing_in names name) same ∙ free))

created_goes : (parent : ObjectKey) (name : List ℕ) (w : World) → thing w name ≡ None → Behind w (created parent name)
created_goes parent name w free answer v same = by answer
  where
    by : (answer : Said) → WorldGoesOn v (created parent name answer v).world
    by (said.Made branch) = gives_name name (things.Transaction (branch_of parent branch)) w v free same
    by answer = still

registered_if_goes : (so : Bool) (manner : Manner) (key : ObjectKey) (end name : List ℕ) (transaction : ObjectKey) (w v : World)
    → thing w name ≡ None → v.names ≡ w.names → WorldGoesOn v (registered_if so manner key end transaction name v).world
registered_if_goes true manner key end name transaction w v free same =
    let changed = with_end (place_of key) (with_fresh key) v in
    let first = ends_unnamed (place_of key) (with_fresh key) v (λ e up. by_making e key) in
    goes_then v changed (with_name name (things.Resource key) changed) first.goes
    (gives_name name (things.Resource key) w changed free (first.names ∙ same))
registered_if_goes false manner key end name transaction w v free same = still

registers_object_goes : (manner : Manner) (key : ObjectKey) (end : List ℕ) (transaction : ObjectKey) (name : List ℕ) (w : World) → thing w name ≡ None
    → WorldGoesOn w (registers_object manner key end transaction name w).world
registers_object_goes manner key end transaction name w free =
    calls_goes transaction _ (registered manner key end transaction name) w
    (λ answer v same. registered_if_goes (is_registered manner answer) manner key end name transaction w v free same)

registers_seat_goes : (manner : Manner) (transaction : ObjectKey) (place : ℕ) (name : List ℕ) (s : Seat) (up : Option FlatEnd) (w : World)
    → thing w name ≡ None → WorldGoesOn w (registers_at manner transaction place s up name w).world
registers_seat_goes manner transaction place name s (Some e) w free =
    let drawn = with_end place drawn_once w in
    let first = ends_unnamed place drawn_once w (λ e up. by_drawing e) in
    goes_then w drawn _ first.goes
    (registers_object_goes manner _ s.name transaction name drawn (ap (λ names. thing_in names name) first.names ∙ free))
registers_seat_goes manner transaction place name s None w free = still

registers_goes : (manner : Manner) (transaction : ObjectKey) (place : ℕ) (name : List ℕ) (w : World) → thing w name ≡ None
    → WorldGoesOn w (registers manner transaction place name w).world
unfolding registers
registers_goes manner transaction place name w free = by (slice_get w.seats place)
  where
    by : (o : Option Seat)
        → WorldGoesOn w (elim o as (λ _. Done) [ Some s ↦ registers_at manner transaction place s (end_in s.server) name w | None ↦ nothing w ]).world
    by (Some s) = registers_seat_goes manner transaction place name s (end_in s.server) w free
    by None = still

-- ---- a top-level transaction is made

begun_goes : (place : ℕ) (name node : List ℕ) (seconds : ℕ) (s : Seat) (n : Node) (w : World) (answer : Result ObjectKey NodeFault)
    → slice_get w.seats place ≡ Some s → s.server ≡ OfNode (Some n) → thing w name ≡ None
    → WorldGoesOn w (begun_with place name node (creates s.clock seconds n).node answer w).world
begun_goes place name node seconds s n w (Ok key) there up free =
    let later = with_server place (OfNode (Some (creates s.clock seconds n).node)) w in
    let first = seat_becomes place s (record s { server = OfNode (Some (creates s.clock seconds n).node) }) w later there (by_family s n seconds up)
    (on_seat_there place (λ (x : Seat). record x { server = OfNode (Some (creates s.clock seconds n).node) }) w s there) in
    goes_then w later (with_name name (things.Transaction key) later) first.goes (gives_name name (things.Transaction key) w later free first.names)
begun_goes place name node seconds s n w (Err fault) there up free = still

begins_goes : (place : ℕ) (name : List ℕ) (seconds : ℕ) (w : World) → thing w name ≡ None → WorldGoesOn w (begins place name seconds w).world
unfolding begins
begins_goes place name seconds w free = by (slice_get w.seats place) refl
  where
    at : (s : Seat) (up : Option Node) → slice_get w.seats place ≡ Some s → node_in s.server ≡ up → WorldGoesOn w (begins_at place name seconds s up w).world
    at s (Some n) there up =
        begun_goes place name s.name seconds s n w (creates s.clock seconds n).answer there (node_up s.server n up) free
    at s None there up = still

    by : (o : Option Seat) → slice_get w.seats place ≡ o
        → WorldGoesOn w (elim o as (λ _. Done) [ Some s ↦ begins_at place name seconds s (node_in s.server) w | None ↦ record { world = w; lines = [] } ]).world
    by (Some s) there = at s (node_in s.server) there refl
    by None there = still

-- ---- resources

puts_goes : (key : ObjectKey) (cell value : ℕ) (w : World) → WorldGoesOn w (puts key cell value w).world
unfolding puts
puts_goes key cell value w = by (resource_at w key) refl
  where
    at : (r : FlatResource) (closed : Option Said) → resource_at w key ≡ Some r → closed_by r.state ≡ closed
        → WorldGoesOn w (end.does_by closed (codes "put") key (put_into cell value r) w).world
    at r None there may = (resource_unnamed key r (put_into cell value r) w there (by_put r cell value may)).goes
    at r (Some answer) there may = still

    by : (o : Option FlatResource) → resource_at w key ≡ o
        → WorldGoesOn w (elim o as (λ _. Done) [ Some r ↦ end.does_by (closed_by r.state) (codes "put") key (put_into cell value r) w | None ↦ record { world = w; lines = [] } ]).world
    by (Some r) there = at r (closed_by r.state) there refl
    by None there = still

refuses_goes : (key : ObjectKey) (w : World) → WorldGoesOn w (refuses_to key w).world
unfolding refuses_to
refuses_goes key w = by (resource_at w key) refl
  where
    at : (r : FlatResource) (closed : Option Said) → resource_at w key ≡ Some r → closed_by r.state ≡ closed
        → WorldGoesOn w (end.does_by closed (codes "refuse") key (refusing r) w).world
    at r None there may = (resource_unnamed key r (refusing r) w there (by_refusal r may)).goes
    at r (Some answer) there may = still

    by : (o : Option FlatResource) → resource_at w key ≡ o
        → WorldGoesOn w (elim o as (λ _. Done) [ Some r ↦ end.does_by (closed_by r.state) (codes "refuse") key (refusing r) w | None ↦ record { world = w; lines = [] } ]).world
    by (Some r) there = at r (closed_by r.state) there refl
    by None there = still

-- a resource is told a word
shown_still : (name : List ℕ) (shown : Option ResourceState) (v : World) → (end.state_lines name shown v).world ≡ v
shown_still name (Some s) v = refl
shown_still name None v = refl

moves_unnamed : (named : NamedKey) (r : FlatResource) (word : EndWord) (next : Option State) (w : World) → resource_at w named.key ≡ Some r
    → (row word r.state).next ≡ next → GoesUnnamed w (end.moves named r next w).world
moves_unnamed named r word (Some s) w there is =
    let changed = end.with_resource_at named.key (record r { state = s }) w in
    subst (GoesUnnamed w) (sym (shown_still named.name (end.shown_state s) changed))
    (resource_unnamed named.key r (record r { state = s }) w there (by_word r word s is))
moves_unnamed named r word None w there is = stays w

answers_unnamed : (request : ℕ) (answer : Option Said) (w : World) → GoesUnnamed w (end.answers request answer w).world
answers_unnamed request (Some answer) w = replies_unnamed request answer w
answers_unnamed request None w = stays w

obeys_word_unnamed : (word : Option EndWord) (request : ℕ) (named : NamedKey) (r : FlatResource) (w : World) → resource_at w named.key ≡ Some r
    → GoesUnnamed w (obeys_word word request named r w).world
obeys_word_unnamed (Some word) request named r w there =
    let by : Row = row word r.state in
    let moved = (end.moves named r by.next w).world in
    and_then w moved (end.answers request (end.answer_of_row by.said) moved).world (moves_unnamed named r word by.next w there refl)
    (answers_unnamed request (end.answer_of_row by.said) moved)
obeys_word_unnamed None request named r w there = replies_unnamed request _ w

obeys_goes : (request : ℕ) (o : Outward) (w : World) → GoesUnnamed w (obeys request o w).world
unfolding obeys
obeys_goes request o w = by (referred w o.to)
  where
    at : (up : Option FlatResource) (named : NamedKey) → resource_at w named.key ≡ up → GoesUnnamed w (obeys_as up request named o.word w).world
    at (Some r) named there = obeys_word_unnamed (told_word o.word) request named r w there
    at None named there = replies_unnamed request said.ObjectNotExist w

    by : (found : Option NamedKey)
        → GoesUnnamed w (elim found as (λ _. Done) [ Some named ↦ obeys_as (resource_at w named.key) request named o.word w | None ↦ record { world = w; lines = [] } ]).world
    by (Some named) = at (resource_at w named.key) named refl
    by None = stays w

-- ---- deliveries

hears_if_unnamed : (so : Bool) (place : ℕ) (m : Message) (from : ℕ) (o : Outward) (answer : Said) (w : World) → slice_get w.messages place ≡ Some m
    → GoesUnnamed w (hears_if so place m from o answer w).world
hears_if_unnamed true place m from o answer w there = by (slice_get w.seats from)
  where
    by : (found : Option Seat)
        → GoesUnnamed w (elim found as (λ _. Done) [ Some s ↦ hears_answer place m from o answer s w | None ↦ record { world = w; lines = [] } ]).world
    by (Some s) =
        let heard = with_message place (record m { answered = true }) w in
        and_then w heard _ (message_becomes place m (record m { answered = true }) w there (by_answer m))
        (steps_unnamed from _ (answer_event o answer s.clock) heard)
    by None = stays w
hears_if_unnamed false place m from o answer w there = stays w

hears_of_unnamed : (place : ℕ) (m : Message) (content : Content) (answer : Said) (w : World) → slice_get w.messages place ≡ Some m
    → GoesUnnamed w (hears_of place m content answer w).world
hears_of_unnamed place m (contents.Request from o) answer w there = hears_if_unnamed (is_waited_for w m from o) place m from o answer w there
hears_of_unnamed place m (contents.Call to act) answer w there = stays w
hears_of_unnamed place m (contents.Reply request other) answer w there = stays w

hears_reply_unnamed : (request : ℕ) (answer : Said) (w : World) → GoesUnnamed w (hears_reply request answer w).world
unfolding hears_reply
hears_reply_unnamed request answer w = by (message_numbered w request) refl
  where
    by : (found : Option Message) → message_numbered w request ≡ found
        → GoesUnnamed w (elim found as (λ _. Done) [ Some m ↦ hears_of (request - 1) m m.content answer w | None ↦ record { world = w; lines = [] } ]).world
    by (Some m) there = hears_of_unnamed (request - 1) m m.content answer w there
    by None there = stays w

reaches_goes : (number : ℕ) (content : Content) (w : World) → WorldGoesOn w (reaches number content w).world
unfolding reaches
reaches_goes number (contents.Call to act) w = acts_goes number to act answer_only w (quiet w)
reaches_goes number (contents.Request from o) w = (obeys_goes number o w).goes
reaches_goes number (contents.Reply request answer) w = (hears_reply_unnamed request answer w).goes

comes_goes : (receiver : Option ℕ) (number : ℕ) (content : Content) (w : World) → WorldGoesOn w (comes receiver number content w).world
comes_goes (Some receiver) number content w = by (is_up w receiver)
  where
    by : (up : Bool) → WorldGoesOn w (comes_to up number content w).world
    by true = reaches_goes number content w
    by false = still
comes_goes None number content w = still

pub delivers_goes : (place : ℕ) (w : World) → WorldGoesOn w (delivers place w).world
unfolding delivers
delivers_goes place w = by (slice_get w.messages place) refl
  where
    by : (found : Option Message) → slice_get w.messages place ≡ found
        → WorldGoesOn w (elim found as (λ _. Done) [
          | Some m ↦ changes (with_message place (record m { delivered = true }) w) ▹ comes (receiver_of w m.content) (place + 1) m.content
          | None ↦ record { world = w; lines = [] }
        ]).world
    by (Some m) there =
        let later = with_message place (record m { delivered = true }) w in
        goes_then w later _ (message_becomes place m (record m { delivered = true }) w there (by_delivery m)).goes
        (comes_goes (receiver_of w m.content) (place + 1) m.content later)
    by None there = still

flows_goes : (count : ℕ) (w : World) → WorldGoesOn w (flows count w).world
unfolding flows
flows_goes zero w = still
flows_goes (suc count) w = by (lowest w) (flows_goes count)
  where
    by : (found : Option ℕ) → ((v : World) → WorldGoesOn v (flows count v).world)
        → WorldGoesOn w (elim found as (λ _. Done) [ Some place ↦ delivers place w ▹ flows count | None ↦ nothing w ]).world
    by (Some place) others = goes_then w (delivers place w).world (flows count (delivers place w).world).world (delivers_goes place w) (others (delivers place w).world)
    by None others = still

-- ---- nodes and ends

pub down : (server : Server) → is_down_node server ≡ true → server ≡ OfNode None
down (OfNode None) is = refl
down (OfNode (Some n)) is = absurd cc
down (OfEnd e) is = absurd cc

loads_goes : (place : ℕ) (s : Seat) (rs : Option (List JournalRecord)) (w : World) → slice_get w.seats place ≡ Some s → s.server ≡ OfNode None
    → records_on (service_at place) s.disk ≡ rs → WorldGoesOn w (loads place s rs w).world
loads_goes place s (Some rs) w there is_down held =
    let n : Node = load (service_at place) rs in
    let disk = loaded (service_at place) rs s.disk in
    (seat_becomes place s (record s { disk = disk; stop = None; server = OfNode (Some n) }) w _ there (by_load s rs is_down held)
    (on_seat_twice place (λ (x : Seat). record x { disk = disk; stop = None }) (λ (x : Seat). record x { server = OfNode (Some n) }) w s there)).goes
loads_goes place s None w there is_down held = still

restarts_goes : (place : ℕ) (w : World) (s : Seat) → slice_get w.seats place ≡ Some s → s.server ≡ OfNode None → WorldGoesOn w (restarts place w).world
unfolding restarts
restarts_goes place w s there is_down =
    let P : Option Seat → Type 0 = λ o. WorldGoesOn w (elim o as (λ _. Done) [
      | Some x ↦ loads place x (records_on (service_at place) x.disk) w
      | None ↦ nothing w
    ]).world in
    subst P (sym there) (loads_goes place s (records_on (service_at place) s.disk) w there is_down refl)

restarts_down : (place : ℕ) (w : World) → is_down_at w place ≡ true → WorldGoesOn w (restarts place w).world
restarts_down place w is = by (slice_get w.seats place) refl is
  where
    by : (o : Option Seat) → slice_get w.seats place ≡ o → option_map_or (λ (s : Seat). is_down_node s.server) o false ≡ true
        → WorldGoesOn w (restarts place w).world
    by (Some s) there is = restarts_goes place w s there (down s.server is)
    by None there is = absurd cc

seats_one : (name : List ℕ) (server : Server) (w : World) → IsNewSeat (new_seat name server) → thing w name ≡ None
    → WorldGoesOn w (with_named_seat name server w)
seats_one name server w new free =
    let seated = with_new_seat (new_seat name server) w in
    further seated (with_named_seat name server w) (further w seated still (by_new_seat (new_seat name server) new))
    (by_name name (things.Seat (length w.seats)) free)

makes_node_goes : (name : List ℕ) (w : World) → thing w name ≡ None → WorldGoesOn w (makes_node name w).world
unfolding makes_node
makes_node_goes name w free =
    let named = with_named_seat name (OfNode None) w in
    goes_then w named (restarts (length w.seats) named).world (seats_one name (OfNode None) w (node_seat name) free)
    (restarts_goes (length w.seats) named (new_seat name (OfNode None)) (get_last w.seats (new_seat name (OfNode None))) refl)

makes_end_goes : (name : List ℕ) (w : World) → thing w name ≡ None → WorldGoesOn w (makes_end name w).world
unfolding makes_end
makes_end_goes name w free = seats_one name (OfEnd (Some new_end)) w (end_seat name) free

-- where a node is up, its seat is there
pub record NodeIsUp (w : World) (place : ℕ) (n : Node) : Type 0 where
  pub seat : Seat
  pub there : slice_get w.seats place ≡ Some seat
  pub up : seat.server ≡ OfNode (Some n)

pub node_is_up : (w : World) (place : ℕ) (n : Node) → node_at w place ≡ Some n → NodeIsUp w place n
unfolding node_at
node_is_up w place n is = by (slice_get w.seats place) refl is
  where
    by : (o : Option Seat) → slice_get w.seats place ≡ o → option_and_then (λ (s : Seat). node_in s.server) o ≡ Some n → NodeIsUp w place n
    by (Some s) there is = record { seat = s; there = there; up = node_up s.server n is }
    by None there is = absurd cc

crashes_goes : (place : ℕ) (n : Node) (w : World) → node_at w place ≡ Some n → WorldGoesOn w (crashes_now place w).world
unfolding crashes_now
crashes_goes place n w is =
    let at = node_is_up w place n is in
    let P : Option Seat → Type 0 = λ o. WorldGoesOn w (elim o as (λ _. Done) [ Some s ↦ crashes place s.disk.reads w | None ↦ nothing w ]).world in
    subst P (sym at.there) (crashes_unnamed place at.seat.disk.reads at.seat w at.there (by_crash at.seat n at.up)).goes

clock_goes : (place seconds : ℕ) (s : Seat) (w : World) → slice_get w.seats place ≡ Some s
    → GoesUnnamed w (with_clock place (min (s.clock + seconds) last_moment) w)
clock_goes place seconds s w there =
    let now = min (s.clock + seconds) last_moment in
    seat_becomes place s (record s { clock = now }) w _ there (by_clock s seconds) (on_seat_there place (λ (x : Seat). record x { clock = now }) w s there)

ticks_to_goes : (place seconds : ℕ) (s : Seat) (up : Option Node) (w : World) → slice_get w.seats place ≡ Some s → node_in s.server ≡ up
    → WorldGoesOn w (ticks_to place (min (s.clock + seconds) last_moment) up w).world
ticks_to_goes place seconds s (Some n) w there up =
    let now = min (s.clock + seconds) last_moment in
    let later = with_clock place now w in
    let there_now : slice_get later.seats place ≡ Some (record s { clock = now })
    = ap (λ (v : World). slice_get v.seats place) (on_seat_there place (λ (x : Seat). record x { clock = now }) w s there)
    ∙ get_set w.seats place s (record s { clock = now }) there in
    goes_then w later (ticks_node place now n later).world (clock_goes place seconds s w there).goes
    (ticks_unnamed place now n (record s { clock = now }) later there_now (node_up s.server n up)).goes
ticks_to_goes place seconds s None w there up = (clock_goes place seconds s w there).goes

ticks_goes : (place seconds : ℕ) (w : World) → WorldGoesOn w (ticks place seconds w).world
unfolding ticks
ticks_goes place seconds w = by (slice_get w.seats place) refl
  where
    by : (o : Option Seat) → slice_get w.seats place ≡ o
        → WorldGoesOn w (elim o as (λ _. Done) [ Some s ↦ ticks_seat place seconds s w | None ↦ nothing w ]).world
    by (Some s) there = ticks_to_goes place seconds s (node_in s.server) w there refl
    by None there = still

stops_goes : (place : ℕ) (stop : Stop) (w : World) → WorldGoesOn w (stops place stop w).world
unfolding stops
stops_goes place stop w = by (slice_get w.seats place) refl
  where
    by : (o : Option Seat) → slice_get w.seats place ≡ o
        → WorldGoesOn w (elim o as (λ _. Done) [ Some s ↦ changes (with_disk place s.disk (Some stop) w) | None ↦ nothing w ]).world
    by (Some s) there =
        (seat_becomes place s (record s { stop = Some stop }) w _ there (by_stop s stop)
        (on_seat_there place (λ (x : Seat). record x { disk = s.disk; stop = Some stop }) w s there)).goes
    by None there = still

-- ---- what a line names can be done

abbrev pub MayBeDone : World → Deed → Type 0
MayBeDone w (deeds.MakeNode name) = thing w name ≡ None
MayBeDone w (deeds.MakeEnd name) = thing w name ≡ None
MayBeDone w (deeds.Begin place name seconds) = thing w name ≡ None
MayBeDone w (deeds.Create parent name) = thing w name ≡ None
MayBeDone w (deeds.Register manner transaction place name) = thing w name ≡ None
MayBeDone w (deeds.Crash place) = (n : Node) × (node_at w place ≡ Some n)
MayBeDone w (deeds.Restart place) = is_down_at w place ≡ true
MayBeDone w _ = Unit {0}

goes : (deed : Deed) (w : World) → MayBeDone w deed → WorldGoesOn w (carried_out deed w).world
unfolding carried_out creates_sub
goes (deeds.MakeNode name) w may = makes_node_goes name w may
goes (deeds.MakeEnd name) w may = makes_end_goes name w may
goes (deeds.Begin place name seconds) w may = begins_goes place name seconds w may
goes (deeds.Call to act) w may = calls_goes to act answer_only w (quiet w)
goes (deeds.Create parent name) w may = calls_goes parent acts.CreateSubtransaction (created parent name) w (created_goes parent name w may)
goes (deeds.Register manner transaction place name) w may = registers_goes manner transaction place name w may
goes (deeds.Put resource cell value) w may = puts_goes resource cell value w
goes (deeds.Refuse resource) w may = refuses_goes resource w
goes (deeds.Flow count) w may = flows_goes count w
goes (deeds.Tick place seconds) w may = ticks_goes place seconds w
goes (deeds.Crash place) w may = crashes_goes place may.0 w may.1
goes (deeds.Restart place) w may = restarts_down place w may
goes (deeds.Stop place write image) w may = stops_goes place (record { write = write; image = image }) w

-- what an option gives
pub some_of : {A B : Type 0} (f : A → Option B) (o : Option A) (y : B) → option_and_then f o ≡ Some y → (x : A) × (o ≡ Some x) × (f x ≡ Some y)
some_of f (Some x) y is = (x, refl, is)
some_of f None y is = absurd cc

pub mapped_of : {A B : Type 0} (f : A → B) (o : Option A) (y : B) → option_map f o ≡ Some y → (x : A) × (o ≡ Some x) × (y ≡ f x)
mapped_of f (Some x) y is = (x, refl, cc)
mapped_of f None y is = absurd cc

pub only_of : {A : Type 0} (so : Bool) (x y : A) → only_if so x ≡ Some y → (so ≡ true) × (y ≡ x)
only_of true x y is = (refl, cc)
only_of false x y is = absurd cc

pub none_of : {A : Type 0} (o : Option A) → is_none o ≡ true → o ≡ None
none_of (Some x) is = absurd cc
none_of None is = refl

some_is : {A : Type 0} (o : Option A) → is_some o ≡ true → (x : A) × (o ≡ Some x)
some_is (Some x) is = (x, refl)
some_is None is = absurd cc

left_of : (a b : Bool) → (a && b) ≡ true → a ≡ true
left_of true b is = refl
left_of false b is = absurd cc

free_deed : (w : World) (name : List ℕ) (made deed : Deed) → if_free w name made ≡ Some deed → MayBeDone w made ≡ (thing w name ≡ None) → MayBeDone w deed
free_deed w name made deed is means =
    let so = only_of (is_free w name) made deed is in
    subst (MayBeDone w) (sym so.1) (subst (λ (T : Type 0). T) (sym means) (none_of (thing w name) so.0))

mapped_deed : {A : Type 0} (make : A → Deed) (o : Option A) (w : World) (deed : Deed) → option_map make o ≡ Some deed
    → ((x : A) → o ≡ Some x → MayBeDone w (make x)) → MayBeDone w deed
mapped_deed make o w deed is may =
    let at = mapped_of make o deed is in
    subst (MayBeDone w) (sym at.2) (may at.0 at.1)

call_may : (w : World) (name : List ℕ) (make : ObjectKey → Deed) (deed : Deed) → calls_named w name make ≡ Some deed
    → ((key : ObjectKey) → MayBeDone w (make key)) → MayBeDone w deed
call_may w name make deed is may = mapped_deed make (transaction_named w name) w deed is (λ key at. may key)

node_named_up : (w : World) (name : List ℕ) (place : ℕ) → node_named w name ≡ Some place → (n : Node) × (node_at w place ≡ Some n)
node_named_up w name place is =
    let at = some_of (where_so (λ (x : ℕ). is_some (node_at w x))) (option_and_then as_seat (thing w name)) place is in
    let so = only_of (is_some (node_at w at.0)) at.0 place at.2 in
    some_is (node_at w place) (ap (λ x. is_some (node_at w x)) so.1 ∙ so.0)

down_named_down : (w : World) (name : List ℕ) (place : ℕ) → down_named w name ≡ Some place → is_down_at w place ≡ true
down_named_down w name place is =
    let at = some_of (where_so (is_down_at w)) (option_and_then as_seat (thing w name)) place is in
    let so = only_of (is_down_at w at.0) at.0 place at.2 in
    ap (is_down_at w) so.1 ∙ so.0

registers_may : (w : World) (manner : Manner) (transaction end name : List ℕ) (deed : Deed) → registers_named w manner transaction end name ≡ Some deed
    → MayBeDone w deed
unfolding registers_named
registers_may w manner transaction end name deed is =
    let key = some_of (λ (key : ObjectKey). option_and_then (registers_with w manner name key) (end_named w end)) (transaction_named w transaction) deed is in
    let place = some_of (registers_with w manner name key.0) (end_named w end) deed key.2 in
    let so = only_of (is_free w name && may_register manner w key.0) (deeds.Register manner key.0 place.0 name) deed place.2 in
    subst (MayBeDone w) (sym so.1) (none_of (thing w name) (left_of (is_free w name) (may_register manner w key.0) so.0))

pub may_be_done : (event : ScriptEvent) (deed : Deed) (w : World) → resolve event w ≡ Some deed → MayBeDone w deed
unfolding resolve begins_named creates_named puts_named refuses_named commits_named relates_named
may_be_done (events.Node name) deed w is = free_deed w name (deeds.MakeNode name) deed is refl
may_be_done (events.End name) deed w is = free_deed w name (deeds.MakeEnd name) deed is refl
may_be_done (events.Begin node name seconds) deed w is =
    let at = some_of (λ (place : ℕ). if_free w name (deeds.Begin place name seconds)) (node_named w node) deed is in
    free_deed w name (deeds.Begin at.0 name seconds) deed at.2 refl
may_be_done (events.Sub parent name) deed w is =
    let at = some_of (λ (key : ObjectKey). if_free w name (deeds.Create key name)) (transaction_named w parent) deed is in
    free_deed w name (deeds.Create at.0 name) deed at.2 refl
may_be_done (events.Register transaction end resource) deed w is = registers_may w manners.Resource transaction end resource deed is
may_be_done (events.Aware transaction end resource) deed w is = registers_may w manners.Aware transaction end resource deed is
may_be_done (events.Double transaction end resource) deed w is = registers_may w manners.Double transaction end resource deed is
may_be_done (events.Put resource cell value) deed w is = mapped_deed (λ (key : ObjectKey). deeds.Put key cell value) _ w deed is (λ key at. tt)
may_be_done (events.Refuse resource) deed w is = mapped_deed deeds.Refuse _ w deed is (λ key at. tt)
may_be_done (events.Commit transaction reports) deed w is =
    let at = some_of (commits_as w reports) (transaction_named w transaction) deed is in
    let so = only_of (may_commit w at.0 reports) (ends_by (acts.Commit reports) at.0) deed at.2 in
    subst (MayBeDone w) (sym so.1) tt
may_be_done (events.Rollback transaction) deed w is = call_may w transaction (ends_by acts.Rollback) deed is (λ key. tt)
may_be_done (events.Mark transaction) deed w is = call_may w transaction (asks_for acts.RollbackOnly) deed is (λ key. tt)
may_be_done (events.Status transaction whose) deed w is = call_may w transaction (asks_for (status_act whose)) deed is (λ key. tt)
may_be_done (events.Relate relation transaction other) deed w is =
    let at = some_of (λ (key : ObjectKey). calls_named w transaction (asks_for (relation_act relation key))) (transaction_named w other) deed is in
    call_may w transaction (asks_for (relation_act relation at.0)) deed at.2 (λ key. tt)
may_be_done (events.NameOf transaction) deed w is = call_may w transaction (asks_for acts.GetTransactionName) deed is (λ key. tt)
may_be_done (events.Hash transaction) deed w is = call_may w transaction (asks_for acts.HashTransaction) deed is (λ key. tt)
may_be_done (events.Flow count) deed w is = subst (MayBeDone w) (deed_of is) tt
  where
    deed_of : {x y : Deed} → Some x ≡ Some y → x ≡ y
    deed_of is = cc
may_be_done (events.Tick server seconds) deed w is = mapped_deed (λ (place : ℕ). deeds.Tick place seconds) _ w deed is (λ place at. tt)
may_be_done (events.Crash server) deed w is = mapped_deed deeds.Crash _ w deed is (λ place at. node_named_up w server place at)
may_be_done (events.Restart server) deed w is = mapped_deed deeds.Restart _ w deed is (λ place at. down_named_down w server place at)
may_be_done (events.Stop server write image) deed w is = mapped_deed (λ (place : ℕ). deeds.Stop place write image) _ w deed is (λ place at. tt)
may_be_done _ deed w is = absurd cc

pub deeds_are_changes : DeedsAreChanges
deeds_are_changes event deed w is = goes deed w (may_be_done event deed w is)
