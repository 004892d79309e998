-- Each deed is made of steps.
use Rattle.std.proofs.Common.{◌≡◌, ℕ, zero, suc, ◌+◌, ◌-◌, ◌&&◌, Bool, true, false, min, List, [], ◌∷◌, length, map, slice_get, slice_set, codes, Option, Some, None, Result, refl, sym, ap, subst, ◌∙◌, append_assoc, append-nil, not, ◌||◌, ◌≤◌, nat_lt, arith, true≢false}
use Rattle.std.specs.List.{AllByRecursion, list_all}
use Rattle.std.proofs.lemmas.Option.{same_Some, get_or_from_slice_get}
use Rattle.std.proofs.lemmas.Bool.{and_parts}
use Rattle.std.specs.Option.{option_map, option_map_or, option_and_then}
use Rattle.ior_refs.specs.declared.key.ObjectKey.{ObjectKey}
use Rattle.ots_model.specs.declared.tree.Outward.{Outward}
use Rattle.decision_journal.specs.declared.record.JournalRecord.{JournalRecord}
use Rattle.coordinator.specs.declared.event.Act.{Act}
use Rattle.coordinator.specs.declared.event.Act.TheVariants as acts
use Rattle.coordinator.specs.declared.node.NodeFault.{NodeFault}
use Rattle.coordinator.specs.declared.said.Said.{Said}
use Rattle.coordinator.specs.declared.said.StepAnswer.{StepAnswer}
use Rattle.coordinator.specs.History.{is_later}
use Rattle.coordinator.specs.Limits.{last_moment}
use Rattle.coordinator.specs.Node.{Node}
use Rattle.ots_world.specs.declared.script.Relation.{Relation}
use Rattle.ots_world.specs.declared.script.Relation.TheVariants as relations
use Rattle.ots_world.specs.declared.script.ScriptEvent.{ScriptEvent}
use Rattle.ots_world.specs.declared.script.ScriptEvent.TheVariants as events
use Rattle.ots_world.specs.declared.script.Whose.{Whose}
use Rattle.ots_world.specs.declared.script.Whose.TheVariants as whoses
use Rattle.nodes_world.specs.declared.deed.Deed.{Deed}
use Rattle.nodes_world.specs.declared.deed.Deed.TheVariants as deeds
use Rattle.nodes_world.specs.declared.deed.Manner.{Manner}
use Rattle.nodes_world.specs.declared.deed.Manner.TheVariants as manners
use Rattle.nodes_world.specs.declared.message.Content.{Content}
use Rattle.nodes_world.specs.declared.message.Content.TheVariants as contents
use Rattle.nodes_world.specs.declared.message.Message.{Message}
use Rattle.nodes_world.specs.declared.thing.Thing.{Thing}
use Rattle.nodes_world.specs.declared.thing.Thing.TheVariants as things
use Rattle.nodes_world.specs.Disks.{Stop}
use Rattle.nodes_world.specs.Journals.{records_in, records_on}
use Rattle.nodes_world.specs.Objects.{place_of, service_at}
use Rattle.nodes_world.specs.Told.{Told, Dropped, operation_of}
use Rattle.nodes_world.specs.World.{World, Seat, is_free, OfNode, FlatEnd, FlatResource, end_in, is_up, message_numbered, next_message, node_at, node_in, resource_at, thing, transaction_name, with_clock, with_disk, with_message, with_seat, with_sent}
use Rattle.nodes_world.specs.Happenings.{Done, ◌▹◌, after, changes, client_message, nothing}
use Rattle.nodes_world.specs.Nodes.{Stepping, crashes, crashes_seat, steps, ticks_node}
use Rattle.nodes_world.specs.Ends as end
use Rattle.nodes_world.specs.Ends.{closed_by, puts, put_into, refuses_to, refusing}
use Rattle.nodes_world.specs.Clients.{acts_at, answer_only, answered_with, begins, begins_at, call_event, called_line, calls, registers, registers_at, said_in, said_lines, then_answers}
use Rattle.nodes_world.specs.Deliveries.{comes, comes_to, delivers, flows, hears_answer, hears_if, hears_of, hears_reply, is_waited_for, lowest, reaches, receiver_of}
use Rattle.nodes_world.specs.Lives.{crashes_now, loads, makes_node, new_seat, restarts, stops, ticks, ticks_seat, ticks_to, with_named_seat}
use Rattle.nodes_world.specs.Resolve.{as_resource, asks_for, begins_named, calls_named, commits_as, commits_named, creates_named, end_named, ends_by, if_free, is_down_at, is_down_node, is_key_up, may_commit, may_put, may_refuse, may_register, resource_named, where_so, node_named, puts_named, refuses_named, registers_named, registers_with, relates_named, relation_act, resolve, status_act, transaction_named}
use Rattle.nodes_world.specs.Step.{carried_out, is_full, lacks_life, lacks_life_at, lacks_life_on, limit_before, limit_where}
use Rattle.nodes_world.specs.AgreementSteps.{DeedsGo, Goes, by_alike, by_receipt, by_node, by_end, by_load, by_crash, by_begin, by_calling, by_call, by_sub, by_register, by_touch, by_word, by_hearing, by_tick, GoesOn, still, further, IsAlike, IsQuiet, by_put, by_refusal, kept_seat, is_asked, is_call, kept_message}
use Rattle.nodes_world.proofs.Going.{get_last, get_set, node_up, on_seat_there, end_up}
use Rattle.nodes_world.specs.Changes.{CallsAreDelivered}
use Rattle.nodes_world.proofs.Delivered.{still_delivered}
use Rattle.nodes_world.proofs.Deeds.{MayBeDone, delivers_goes, down, mapped_of, may_be_done, node_is_up, only_of, some_of}
use Rattle.std.proofs.lemmas.List.Quantifiers.{position-Some}
use Rattle.std.proofs.lemmas.Bool.Decides.{nat_tests}
use Rattle.ots_model.specs.Limits.{name_limit}
use Rattle.ots_model.specs.Name.{IsName, is_letter, is_name_octet}
use Rattle.nodes_world.specs.Agreement.{GivesName, GoesOnFrom}

-- ---- one step after another

pub one : (w : World) (d : Done) → Goes w d → GoesOn w d
one w d goes = further (nothing w) d still goes

pub on_then : (w : World) (a b : Done) → GoesOn w a → GoesOn a.world b → GoesOn w (after a b)
on_then w a b first still = subst (λ (told : List Told). GoesOn w (record { world = a.world; lines = told })) (sym (append-nil a.lines)) first
on_then w a b first (further between later before last) =
    subst (λ (told : List Told). GoesOn w (record { world = later.world; lines = told })) (append_assoc a.lines between.lines later.lines)
    (further (after a between) later (on_then w a between first before) last)

-- ---- worlds that are alike

map_set : {A B : Type 0} (f : A → B) (xs : List A) (i : ℕ) (x y : A) → slice_get xs i ≡ Some x → f y ≡ f x → map f (slice_set xs i y) ≡ map f xs
map_set f [] i x y there same = refl
map_set f (z ∷ xs) zero x y there same = ap (λ u. u ∷ map f xs) (same ∙ sym (ap f (same_Some z x there)))
map_set f (z ∷ xs) (suc i) x y there same = ap (λ us. f z ∷ us) (map_set f xs i x y there same)

alike_self : (w : World) → IsAlike w w
alike_self w = record { names = refl; seats = refl; messages = refl }

alike_message : (place : ℕ) (m later : Message) (w : World) → slice_get w.messages place ≡ Some m → kept_message later ≡ kept_message m
    → IsAlike w (with_message place later w)
alike_message place m later w there same =
    record { names = refl; seats = refl; messages = map_set kept_message w.messages place m later there same }

-- a message that is no call comes to its receiver
delivered_alike : (m : Message) → is_call m.content ≡ false → kept_message (record m { delivered = true }) ≡ kept_message m
delivered_alike m none =
    ap (λ (b : Bool). record m { delivered = b && true; lost = false; answered = false }) none
    ∙ sym (ap (λ (b : Bool). record m { delivered = b && m.delivered; lost = false; answered = false }) none)

alike_seat : (place : ℕ) (s later : Seat) (w : World) → slice_get w.seats place ≡ Some s → kept_seat later ≡ kept_seat s
    → IsAlike w (with_seat place later w)
alike_seat place s later w there same =
    record { names = refl; seats = map_set kept_seat w.seats place s later there same; messages = refl }

-- ---- clients

said_quietly : (message : ℕ) (later : Bool) (answer : Said) → AllByRecursion IsQuiet (said_lines message later answer)
said_quietly message true answer = tt
said_quietly message false answer = (tt, tt)

answered_on : (message : ℕ) (answer : Option (Result StepAnswer NodeFault)) (v : World) → GoesOn v (answered_with message answer_only answer v)
answered_on message (Some answer) v =
    one v _ (by_alike v (said_lines message (is_later (said_in answer)) (said_in answer)) (alike_self v)
    (said_quietly message (is_later (said_in answer)) (said_in answer)))
answered_on message None v = still

-- a call that is among the messages comes to its node
acts_on : (nth : ℕ) (to : ObjectKey) (act : Act) (m : Message) (w : World) → slice_get w.messages nth ≡ Some m → m.content ≡ contents.Call to act
    → is_asked act ≡ true → GoesOn w (acts_at (nth + 1) to act answer_only w)
unfolding acts_at
acts_on nth to act m w there is asked = by (slice_get w.seats (place_of to))
  where
    by : (o : Option Seat)
        → GoesOn w (elim o as (λ _. Done) [
          | Some s ↦ then_answers (nth + 1) answer_only (steps (place_of to) to (call_event (nth + 1) to act s.clock) w)
          | None ↦ record { world = w; lines = [] }
        ])
    by (Some s) =
        let step : Stepping = steps (place_of to) to (call_event (nth + 1) to act s.clock) w in
        on_then w step.done (answered_with (nth + 1) answer_only step.answer step.done.world)
        (one w step.done (by_call nth s.clock to act m there is asked)) (answered_on (nth + 1) step.answer step.done.world)
    by None = still

calls_on : (to : ObjectKey) (act : Act) (w : World) → is_asked act ≡ true → GoesOnFrom w → GoesOn w (calls to act answer_only w)
unfolding calls
calls_on to act w asked few =
    let m = client_message (contents.Call to act) in
    let sent = with_sent m w in
    let first : Done = record { world = sent; lines = called_line (next_message w) (operation_of act) (transaction_name w to) } in
    on_then w first (acts_at (next_message w) to act answer_only sent) (one w first (by_calling to act asked few))
    (acts_on (length w.messages) to act m sent (get_last w.messages m) refl asked)

registers_on : (manner : Manner) (transaction : ObjectKey) (place : ℕ) (name : List ℕ) (w : World) → thing w name ≡ None
    → may_register manner w transaction ≡ true → GoesOnFrom w → GoesOn w (registers manner transaction place name w)
unfolding registers
registers_on manner transaction place name w free may few = by (slice_get w.seats place) refl
  where
    at : (s : Seat) (up : Option FlatEnd) → slice_get w.seats place ≡ Some s → end_in s.server ≡ up → GoesOn w (registers_at manner transaction place s up name w)
    at s (Some e) there up = one w _ (by_register manner transaction place name s e there (end_up s.server e up) free may few)
    at s None there up = still

    by : (o : Option Seat) → slice_get w.seats place ≡ o
        → GoesOn w (elim o as (λ _. Done) [ Some s ↦ registers_at manner transaction place s (end_in s.server) name w | None ↦ nothing w ])
    by (Some s) there = at s (end_in s.server) there refl
    by None there = still

begins_on : (place : ℕ) (name : List ℕ) (seconds : ℕ) (w : World) → thing w name ≡ None → GoesOn w (begins place name seconds w)
unfolding begins
begins_on place name seconds w free = by (slice_get w.seats place) refl
  where
    at : (s : Seat) (up : Option Node) → slice_get w.seats place ≡ Some s → node_in s.server ≡ up → GoesOn w (begins_at place name seconds s up w)
    at s (Some n) there up = one w _ (by_begin place name seconds s n there (node_up s.server n up) free)
    at s None there up = still

    by : (o : Option Seat) → slice_get w.seats place ≡ o
        → GoesOn w (elim o as (λ _. Done) [ Some s ↦ begins_at place name seconds s (node_in s.server) w | None ↦ record { world = w; lines = [] } ])
    by (Some s) there = at s (node_in s.server) there refl
    by None there = still

-- ---- resources

refused_on : (word : List ℕ) (answer : Said) (w : World) → GoesOn w (end.refuses word answer w)
refused_on word answer w = one w _ (by_alike w _ (alike_self w) (tt, tt))

puts_on : (name : List ℕ) (key : ObjectKey) (cell value : ℕ) (w : World) → thing w name ≡ Some (things.Resource key) → GoesOn w (puts key cell value w)
unfolding puts
puts_on name key cell value w named = by (resource_at w key) refl
  where
    at : (r : FlatResource) (closed : Option Said) → resource_at w key ≡ Some r → closed_by r.state ≡ closed
        → GoesOn w (end.does_by closed (codes "put") key (put_into cell value r) w)
    at r None there may = one w _ (by_touch name key r (put_into cell value r) named there (by_put cell value may))
    at r (Some answer) there may = refused_on (codes "put") answer w

    by : (o : Option FlatResource) → resource_at w key ≡ o
        → GoesOn w (elim o as (λ _. Done) [ Some r ↦ end.does_by (closed_by r.state) (codes "put") key (put_into cell value r) w | None ↦ record { world = w; lines = [] } ])
    by (Some r) there = at r (closed_by r.state) there refl
    by None there = still

refuses_on : (name : List ℕ) (key : ObjectKey) (w : World) → thing w name ≡ Some (things.Resource key) → GoesOn w (refuses_to key w)
unfolding refuses_to
refuses_on name key w named = by (resource_at w key) refl
  where
    at : (r : FlatResource) (closed : Option Said) → resource_at w key ≡ Some r → closed_by r.state ≡ closed
        → GoesOn w (end.does_by closed (codes "refuse") key (refusing r) w)
    at r None there may = one w _ (by_touch name key r (refusing r) named there (by_refusal may))
    at r (Some answer) there may = refused_on (codes "refuse") answer w

    by : (o : Option FlatResource) → resource_at w key ≡ o
        → GoesOn w (elim o as (λ _. Done) [ Some r ↦ end.does_by (closed_by r.state) (codes "refuse") key (refusing r) w | None ↦ record { world = w; lines = [] } ])
    by (Some r) there = at r (closed_by r.state) there refl
    by None there = still

-- ---- deliveries

hears_if_on : (so : Bool) (request : ℕ) (m : Message) (from reply : ℕ) (o : Outward) (back : Message) (answer : Said) (w : World)
    → slice_get w.messages (request - 1) ≡ Some m → m.content ≡ contents.Request from o → slice_get w.messages reply ≡ Some back
    → back.content ≡ contents.Reply request answer → is_waited_for w m from o ≡ so → GoesOn w (hears_if so (request - 1) m from o answer w)
hears_if_on true request m from reply o back answer w there is replied says waits = by (slice_get w.seats from) refl
  where
    by : (found : Option Seat) → slice_get w.seats from ≡ found
        → GoesOn w (elim found as (λ _. Done) [ Some s ↦ hears_answer (request - 1) m from o answer s w | None ↦ record { world = w; lines = [] } ])
    by (Some s) seated = one w _ (by_hearing request from reply o m back answer s there is replied says seated waits)
    by None seated = still
hears_if_on false request m from reply o back answer w there is replied says waits = still

hears_of_on : (request : ℕ) (m : Message) (content : Content) (reply : ℕ) (back : Message) (answer : Said) (w : World)
    → slice_get w.messages (request - 1) ≡ Some m → m.content ≡ content → slice_get w.messages reply ≡ Some back
    → back.content ≡ contents.Reply request answer → GoesOn w (hears_of (request - 1) m content answer w)
hears_of_on request m (contents.Request from o) reply back answer w there is replied says =
    hears_if_on (is_waited_for w m from o) request m from reply o back answer w there is replied says refl
hears_of_on request m (contents.Call to act) reply back answer w there is replied says = still
hears_of_on request m (contents.Reply number other) reply back answer w there is replied says = still

hears_reply_on : (request reply : ℕ) (back : Message) (answer : Said) (w : World) → slice_get w.messages reply ≡ Some back
    → back.content ≡ contents.Reply request answer → GoesOn w (hears_reply request answer w)
unfolding hears_reply
hears_reply_on request reply back answer w replied says = by (message_numbered w request) refl
  where
    by : (found : Option Message) → message_numbered w request ≡ found
        → GoesOn w (elim found as (λ _. Done) [ Some m ↦ hears_of (request - 1) m m.content answer w | None ↦ record { world = w; lines = [] } ])
    by (Some m) there = hears_of_on request m m.content reply back answer w there refl replied says
    by None there = still

reaches_on : (nth : ℕ) (content : Content) (m : Message) (w : World) → slice_get w.messages nth ≡ Some m → m.content ≡ content → is_call content ≡ false
    → GoesOn w (reaches (nth + 1) content w)
unfolding reaches
reaches_on nth (contents.Call to act) m w there is none = absurd cc
reaches_on nth (contents.Request from o) m w there is none = one w _ (by_word nth from o (m, there, is))
reaches_on nth (contents.Reply request answer) m w there is none = hears_reply_on request nth m answer w there is

comes_on : (receiver : Option ℕ) (nth : ℕ) (m : Message) (w : World) → slice_get w.messages nth ≡ Some m → is_call m.content ≡ false
    → GoesOn w (comes receiver (nth + 1) m.content w)
comes_on (Some receiver) nth m w there none = by (is_up w receiver)
  where
    by : (up : Bool) → GoesOn w (comes_to up (nth + 1) m.content w)
    by true = on_then w _ (reaches (nth + 1) m.content w) (one w _ (by_receipt (nth + 1))) (reaches_on nth m.content m w there refl none)
    by false = one w _ (by_alike w (Dropped (nth + 1) ∷ []) (alike_self w) (tt, tt))
comes_on None nth m w there none = still

-- a message that wasn't delivered yet is; so it is no call
delivers_on : (place : ℕ) (w : World) → CallsAreDelivered w → ((m : Message) → slice_get w.messages place ≡ Some m → m.delivered ≡ false)
    → GoesOn w (delivers place w)
unfolding delivers
delivers_on place w calls new = by (slice_get w.messages place) refl
  where
    taken : Message → Message
    taken m = record m { delivered = true }

    reached : (m : Message) → slice_get w.messages place ≡ Some m → is_call m.content ≡ false
        → GoesOn w (changes (with_message place (taken m) w) ▹ comes (receiver_of w m.content) (place + 1) m.content)
    reached m there none =
        let later = with_message place (taken m) w in
        on_then w (changes later) (comes (receiver_of w m.content) (place + 1) m.content later)
        (one w _ (by_alike later [] (alike_message place m (taken m) w there (delivered_alike m none)) tt))
        (comes_on (receiver_of w m.content) place (taken m) later (get_set w.messages place m (taken m) there) none)

    of : (m : Message) (content : Content) → slice_get w.messages place ≡ Some m → m.content ≡ content
        → GoesOn w (changes (with_message place (taken m) w) ▹ comes (receiver_of w m.content) (place + 1) m.content)
    of m (contents.Call to act) there is = absurd (true≢false (sym (calls place m there to act is) ∙ new m there))
    of m (contents.Request from o) there is = reached m there (ap is_call is)
    of m (contents.Reply request answer) there is = reached m there (ap is_call is)

    by : (found : Option Message) → slice_get w.messages place ≡ found
        → GoesOn w (elim found as (λ _. Done) [
          | Some m ↦ changes (with_message place (record m { delivered = true }) w) ▹ comes (receiver_of w m.content) (place + 1) m.content
          | None ↦ record { world = w; lines = [] }
        ])
    by (Some m) there = of m m.content there refl
    by None there = still

-- the lowest one is such
lowest_new : (w : World) (place : ℕ) (m : Message) → lowest w ≡ Some place → slice_get w.messages place ≡ Some m → m.delivered ≡ false
unfolding lowest
lowest_new w place m first there =
    let passes = position-Some (λ (x : Message). not (x.delivered || x.lost)) w.messages place m first in
    neither m.delivered m.lost (sym (ap (λ (x : Message). not (x.delivered || x.lost)) (get_or_from_slice_get w.messages place m m there)) ∙ passes.1)
  where
    neither : (a b : Bool) → not (a || b) ≡ true → a ≡ false
    neither true b is = absurd cc
    neither false b is = refl

flows_on : (count : ℕ) (w : World) → CallsAreDelivered w → GoesOn w (flows count w)
unfolding flows
flows_on zero w calls = still
flows_on (suc count) w calls = by (lowest w) refl (flows_on count)
  where
    by : (found : Option ℕ) → lowest w ≡ found → ((v : World) → CallsAreDelivered v → GoesOn v (flows count v))
        → GoesOn w (elim found as (λ _. Done) [ Some place ↦ delivers place w ▹ flows count | None ↦ nothing w ])
    by (Some place) first others =
        on_then w (delivers place w) (flows count (delivers place w).world) (delivers_on place w calls (λ m there. lowest_new w place m first there))
        (others (delivers place w).world (still_delivered w (delivers place w).world (delivers_goes place w) calls))
    by None first others = still

-- ---- nodes and ends

-- no limit is passed
not_passed : (passed : Bool) (limit : ℕ) → limit_where passed limit ≡ None → passed ≡ false
not_passed true limit is = absurd cc
not_passed false limit is = refl

loads_on : (place : ℕ) (s : Seat) (rs : Option (List JournalRecord)) (w : World) → slice_get w.seats place ≡ Some s → s.server ≡ OfNode None
    → records_on (service_at place) s.disk ≡ rs → option_map_or (lacks_life (service_at place)) rs false ≡ false → GoesOn w (loads place s rs w)
loads_on place s (Some rs) w there is_down held room = one w _ (by_load place s rs there is_down held room)
loads_on place s None w there is_down held room = still

restarts_on : (place : ℕ) (w : World) (s : Seat) → slice_get w.seats place ≡ Some s → s.server ≡ OfNode None → lacks_life_on place s ≡ false
    → GoesOn w (restarts place w)
unfolding restarts
restarts_on place w s there is_down room =
    let P : Option Seat → Type 0 = λ o. GoesOn w (elim o as (λ _. Done) [
      | Some x ↦ loads place x (records_on (service_at place) x.disk) w
      | None ↦ nothing w
    ]) in
    subst P (sym there) (loads_on place s (records_on (service_at place) s.disk) w there is_down refl room)

restarts_down_on : (place : ℕ) (w : World) → is_down_at w place ≡ true → lacks_life_at w place ≡ false → GoesOn w (restarts place w)
restarts_down_on place w is room = by (slice_get w.seats place) refl is room
  where
    by : (o : Option Seat) → slice_get w.seats place ≡ o → option_map_or (λ (s : Seat). is_down_node s.server) o false ≡ true
        → option_map_or (lacks_life_on place) o false ≡ false → GoesOn w (restarts place w)
    by (Some s) there is room = restarts_on place w s there (down s.server is) room
    by None there is room = absurd cc

-- an empty disk has room for a life
fresh_room : (place : ℕ) (name : List ℕ) → lacks_life_on place (new_seat name (OfNode None)) ≡ false
unfolding records_in
fresh_room place name = refl

makes_node_on : (name : List ℕ) (w : World) → thing w name ≡ None → is_full w ≡ false → GoesOn w (makes_node name w)
unfolding makes_node
makes_node_on name w free room =
    let named = with_named_seat name (OfNode None) w in
    on_then w (changes named) (restarts (length w.seats) named) (one w _ (by_node name free room))
    (restarts_on (length w.seats) named (new_seat name (OfNode None)) (get_last w.seats (new_seat name (OfNode None))) refl
    (fresh_room (length w.seats) name))

crashes_on : (place : ℕ) (n : Node) (w : World) → node_at w place ≡ Some n → GoesOn w (crashes_now place w)
unfolding crashes_now crashes
crashes_on place n w is =
    let at = node_is_up w place n is in
    let P : Option Seat → Type 0 = λ o. GoesOn w (elim o as (λ _. Done) [
      | Some s ↦ elim o as (λ _. Done) [ Some t ↦ crashes_seat place s.disk.reads t w | None ↦ nothing w ]
      | None ↦ nothing w
    ]) in
    subst P (sym at.there) (one w _ (by_crash place at.seat n at.there at.up))

ticks_to_on : (place seconds : ℕ) (s : Seat) (up : Option Node) (w : World) → slice_get w.seats place ≡ Some s → node_in s.server ≡ up
    → GoesOn w (ticks_to place (min (s.clock + seconds) last_moment) up w)
ticks_to_on place seconds s up w there is = by up is
  where
    now : ℕ
    now = min (s.clock + seconds) last_moment

    moved : Seat
    moved = record s { clock = now }

    later : World
    later = with_clock place now w

    seated : later ≡ with_seat place moved w
    seated = on_seat_there place (λ (x : Seat). record x { clock = now }) w s there

    alike : IsAlike w later
    alike = subst (IsAlike w) (sym seated) (alike_seat place s moved w there refl)

    there_now : slice_get later.seats place ≡ Some moved
    there_now = ap (λ (v : World). slice_get v.seats place) seated ∙ get_set w.seats place s moved there

    by : (up : Option Node) → node_in s.server ≡ up → GoesOn w (ticks_to place now up w)
    by (Some n) is =
        on_then w (changes later) (ticks_node place now n later) (one w _ (by_alike later [] alike tt))
        (one later _ (by_tick place moved n there_now (node_up s.server n is)))
    by None is = one w _ (by_alike later [] alike tt)

ticks_on : (place seconds : ℕ) (w : World) → GoesOn w (ticks place seconds w)
unfolding ticks
ticks_on place seconds w = by (slice_get w.seats place) refl
  where
    by : (o : Option Seat) → slice_get w.seats place ≡ o
        → GoesOn w (elim o as (λ _. Done) [ Some s ↦ ticks_seat place seconds s w | None ↦ nothing w ])
    by (Some s) there = ticks_to_on place seconds s (node_in s.server) w there refl
    by None there = still

stops_on : (place : ℕ) (stop : Stop) (w : World) → GoesOn w (stops place stop w)
unfolding stops
stops_on place stop w = by (slice_get w.seats place) refl
  where
    by : (o : Option Seat) → slice_get w.seats place ≡ o
        → GoesOn w (elim o as (λ _. Done) [ Some s ↦ changes (with_disk place s.disk (Some stop) w) | None ↦ nothing w ])
    by (Some s) there =
        let seated = on_seat_there place (λ (x : Seat). record x { disk = s.disk; stop = Some stop }) w s there in
        one w _ (by_alike (with_disk place s.disk (Some stop) w) []
        (subst (IsAlike w) (sym seated) (alike_seat place s (record s { stop = Some stop }) w there refl)) tt)
    by None there = still

-- ---- what a line names can be done

-- besides what any deed needs
abbrev MayGo : World → Deed → Type 0
MayGo w (deeds.MakeEnd name) = length name ≤ name_limit
MayGo w (deeds.Call to act) = is_asked act ≡ true
MayGo w (deeds.Register manner transaction place name) = may_register manner w transaction ≡ true
MayGo w (deeds.Put key cell value) = (name : List ℕ) × (thing w name ≡ Some (things.Resource key))
MayGo w (deeds.Refuse key) = (name : List ℕ) × (thing w name ≡ Some (things.Resource key))
MayGo w _ = Unit {0}

deed_on : (deed : Deed) (w : World) → CallsAreDelivered w → GoesOnFrom w → MayBeDone w deed → MayGo w deed → limit_before deed w ≡ None → GoesOn w (carried_out deed w)
unfolding carried_out
deed_on (deeds.MakeNode name) w calls few may go limit = makes_node_on name w may (not_passed _ _ limit)
deed_on (deeds.MakeEnd name) w calls few may go limit = one w _ (by_end name may (not_passed _ _ limit) go)
deed_on (deeds.Begin place name seconds) w calls few may go limit = begins_on place name seconds w may
deed_on (deeds.Call to act) w calls few may go limit = calls_on to act w go few
deed_on (deeds.Create parent name) w calls few may go limit = one w _ (by_sub parent name may few)
deed_on (deeds.Register manner transaction place name) w calls few may go limit = registers_on manner transaction place name w may go few
deed_on (deeds.Put resource cell value) w calls few may go limit = puts_on go.0 resource cell value w go.1
deed_on (deeds.Refuse resource) w calls few may go limit = refuses_on go.0 resource w go.1
deed_on (deeds.Flow count) w calls few may go limit = flows_on count w calls
deed_on (deeds.Tick place seconds) w calls few may go limit = ticks_on place seconds w
deed_on (deeds.Crash place) w calls few may go limit = crashes_on place may.0 w may.1
deed_on (deeds.Restart place) w calls few may go limit = restarts_down_on place w may (not_passed _ _ limit)
deed_on (deeds.Stop place write image) w calls few may go limit = stops_on place (record { write = write; image = image }) w

free_go : (w : World) (name : List ℕ) (made deed : Deed) → if_free w name made ≡ Some deed → MayGo w made → MayGo w deed
free_go w name made deed is may = subst (MayGo w) (sym (only_of (is_free w name) made deed is).1) may

mapped_go : {A : Type 0} (make : A → Deed) (o : Option A) (w : World) (deed : Deed) → option_map make o ≡ Some deed
    → ((x : A) → MayGo w (make x)) → MayGo w deed
mapped_go make o w deed is may =
    let at = mapped_of make o deed is in
    subst (MayGo w) (sym at.2) (may at.0)

call_go : (w : World) (name : List ℕ) (make : ObjectKey → Deed) (deed : Deed) → calls_named w name make ≡ Some deed
    → ((key : ObjectKey) → MayGo w (make key)) → MayGo w deed
call_go w name make deed is may = mapped_go make (transaction_named w name) w deed is may

status_called : (whose : Whose) → is_asked (status_act whose) ≡ true
status_called whoses.Own = refl
status_called whoses.Parent = refl
status_called whoses.Top = refl

relation_called : (relation : Relation) (key : ObjectKey) → is_asked (relation_act relation key) ≡ true
relation_called relations.Same key = refl
relation_called relations.Ancestor key = refl
relation_called relations.Descendant key = refl
relation_called relations.Related key = refl

registers_go : (w : World) (manner : Manner) (transaction end name : List ℕ) (deed : Deed) → registers_named w manner transaction end name ≡ Some deed
    → MayGo w deed
unfolding registers_named
registers_go w manner transaction end name deed is =
    let key = some_of (λ (key : ObjectKey). option_and_then (registers_with w manner name key) (end_named w end)) (transaction_named w transaction) deed is in
    let place = some_of (registers_with w manner name key.0) (end_named w end) deed key.2 in
    let so = only_of (is_free w name && may_register manner w key.0) (deeds.Register manner key.0 place.0 name) deed place.2 in
    subst (MayGo w) (sym so.1) ((and_parts (is_free w name) (may_register manner w key.0) so.0).1)

resource_is : (t : Thing) (key : ObjectKey) → as_resource t ≡ Some key → t ≡ things.Resource key
resource_is (things.Seat place) key is = absurd cc
resource_is (things.Transaction other) key is = absurd cc
resource_is (things.Resource other) key is = ap things.Resource (same_Some other key is)

-- the resource of a name, where it may be touched
touched_go : (w : World) (may : ObjectKey → Bool) (name : List ℕ) (make : ObjectKey → Deed) (deed : Deed)
    → option_map make (option_and_then (where_so may) (resource_named w name)) ≡ Some deed
    → ((key : ObjectKey) → thing w name ≡ Some (things.Resource key) → MayGo w (make key)) → MayGo w deed
touched_go w may name make deed is then =
    let made = mapped_of make (option_and_then (where_so may) (resource_named w name)) deed is in
    let at = some_of (where_so may) (resource_named w name) made.0 made.1 in
    let so = only_of (may at.0) at.0 made.0 at.2 in
    let up = some_of (where_so (is_key_up w)) (option_and_then as_resource (thing w name)) at.0 at.1 in
    let also = only_of (is_key_up w up.0) up.0 at.0 up.2 in
    let named = some_of as_resource (thing w name) up.0 up.1 in
    let is_thing : thing w name ≡ Some (things.Resource made.0)
    = named.1 ∙ ap (λ (t : Thing). Some t) (resource_is named.0 up.0 named.2) ∙ ap (λ (key : ObjectKey). Some (things.Resource key)) (sym (so.1 ∙ also.1)) in
    subst (MayGo w) (sym made.2) (then made.0 is_thing)

-- a name isn't long
name_short : (name : List ℕ) → IsName name → length name ≤ name_limit
name_short [] is = absurd cc
name_short (b ∷ bs) is = low (length bs) (and_parts (is_letter b && list_all is_name_octet bs) (nat_lt (length bs) name_limit) is).1
  where
    low : (many : ℕ) → nat_lt many 12 ≡ true → suc many ≤ 12
    low many less = grind (arith, nat_tests, less)

may_go : (event : ScriptEvent) (deed : Deed) (w : World) → GivesName event → resolve event w ≡ Some deed → MayGo w deed
unfolding resolve begins_named creates_named puts_named refuses_named commits_named relates_named
may_go (events.Node name) deed w fit is = free_go w name (deeds.MakeNode name) deed is tt
may_go (events.End name) deed w fit is = free_go w name (deeds.MakeEnd name) deed is (name_short name fit)
may_go (events.Begin node name seconds) deed w fit is =
    let at = some_of (λ (place : ℕ). if_free w name (deeds.Begin place name seconds)) (node_named w node) deed is in
    free_go w name (deeds.Begin at.0 name seconds) deed at.2 tt
may_go (events.Sub parent name) deed w fit is =
    let at = some_of (λ (key : ObjectKey). if_free w name (deeds.Create key name)) (transaction_named w parent) deed is in
    free_go w name (deeds.Create at.0 name) deed at.2 tt
may_go (events.Register transaction end resource) deed w fit is = registers_go w manners.Resource transaction end resource deed is
may_go (events.Aware transaction end resource) deed w fit is = registers_go w manners.Aware transaction end resource deed is
may_go (events.Double transaction end resource) deed w fit is = registers_go w manners.Double transaction end resource deed is
may_go (events.Put resource cell value) deed w fit is =
    touched_go w (may_put w cell) resource (λ (key : ObjectKey). deeds.Put key cell value) deed is (λ key named. (resource, named))
may_go (events.Refuse resource) deed w fit is = touched_go w (may_refuse w) resource deeds.Refuse deed is (λ key named. (resource, named))
may_go (events.Commit transaction reports) deed w fit is =
    let at = some_of (commits_as w reports) (transaction_named w transaction) deed is in
    let so = only_of (may_commit w at.0 reports) (ends_by (acts.Commit reports) at.0) deed at.2 in
    subst (MayGo w) (sym so.1) refl
may_go (events.Rollback transaction) deed w fit is = call_go w transaction (ends_by acts.Rollback) deed is (λ key. refl)
may_go (events.Mark transaction) deed w fit is = call_go w transaction (asks_for acts.RollbackOnly) deed is (λ key. refl)
may_go (events.Status transaction whose) deed w fit is = call_go w transaction (asks_for (status_act whose)) deed is (λ key. status_called whose)
may_go (events.Relate relation transaction other) deed w fit is =
    let at = some_of (λ (key : ObjectKey). calls_named w transaction (asks_for (relation_act relation key))) (transaction_named w other) deed is in
    call_go w transaction (asks_for (relation_act relation at.0)) deed at.2 (λ key. relation_called relation at.0)
may_go (events.NameOf transaction) deed w fit is = call_go w transaction (asks_for acts.GetTransactionName) deed is (λ key. refl)
may_go (events.Hash transaction) deed w fit is = call_go w transaction (asks_for acts.HashTransaction) deed is (λ key. refl)
may_go (events.Flow count) deed w fit is = subst (MayGo w) (same_Some (deeds.Flow count) deed is) tt
may_go (events.Tick server seconds) deed w fit is = mapped_go (λ (place : ℕ). deeds.Tick place seconds) _ w deed is (λ place. tt)
may_go (events.Crash server) deed w fit is = mapped_go deeds.Crash _ w deed is (λ place. tt)
may_go (events.Restart server) deed w fit is = mapped_go deeds.Restart _ w deed is (λ place. tt)
may_go (events.Stop server write image) deed w fit is = mapped_go (λ (place : ℕ). deeds.Stop place write image) _ w deed is (λ place. tt)
may_go _ deed w fit is = absurd cc

pub deeds_go : DeedsGo
deeds_go event deed w calls few fit is limit = deed_on deed w calls few (may_be_done event deed w is) (may_go event deed w fit is) limit
