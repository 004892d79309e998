-- Whatever a line of a script does in a world whose names are names, it tells lines that can be read, and its names stay names.
use Rattle.std.proofs.Common.{◌≡◌, inl, inr, ℕ, zero, suc, ◌+◌, ◌-◌, Bool, true, false, min, List, [], ◌∷◌, ◌++◌, length, slice_get, Option, Some, None, Result, Ok, Err, refl}
use Rattle.std.specs.Prelude.{codes, if◌then◌else◌}
use Rattle.std.specs.List.{AllByRecursion, flat_map}
use Rattle.std.specs.Option.{option_map}
use Rattle.ior_refs.specs.declared.key.ObjectKey.{ObjectKey}
use Rattle.ots_model.specs.Name.{IsName}
use Rattle.ots_model.specs.declared.completion.Ground.TheVariants.{Record}
use Rattle.ots_model.specs.declared.completion.Outcome.TheVariants as outcomes
use Rattle.ots_model.specs.declared.line.Line.TheVariants as lines
use Rattle.ots_model.specs.declared.line.ResourceState.{ResourceState}
use Rattle.ots_model.specs.declared.tree.Outward.{Outward}
use Rattle.ots_model.specs.declared.tree.Word.{Word}
use Rattle.ots_outside.specs.Disk.{DiskState, at_first}
use Rattle.decision_journal.specs.Loading.{loaded}
use Rattle.decision_journal.specs.declared.record.JournalRecord.{JournalRecord}
use Rattle.recovery_coord.specs.Held.{is_decided}
use Rattle.recovery_coord.specs.declared.held.Held.{Held}
use Rattle.resource_end.specs.States.{is_forgotten}
use Rattle.resource_end.specs.Table.{row}
use Rattle.resource_end.specs.declared.fault.EndFault.{EndFault}
use Rattle.resource_end.specs.declared.fault.EndFault.TheVariants as end_faults
use Rattle.resource_end.specs.declared.state.Row.{Row}
use Rattle.resource_end.specs.declared.state.State.{State}
use Rattle.resource_end.specs.declared.state.State.TheVariants as states
use Rattle.resource_end.specs.declared.state.Word.{Word as EndWord}
use Rattle.ots_model.specs.declared.completion.Disposition.{Disposition}
use Rattle.ots_model.specs.declared.completion.Disposition.TheVariants as dispositions
use Rattle.ots_model.specs.declared.tree.Heard.{Heard}
use Rattle.ots_model.specs.declared.completion.Heard.TheVariants as phase_hears
use Rattle.ots_model.specs.declared.tree.Heard.TheVariants as hears
use Rattle.coordinator.specs.Family.{Family}
use Rattle.coordinator.specs.History.{is_later}
use Rattle.coordinator.specs.Limits.{last_moment}
use Rattle.coordinator.specs.Node.{Node, family_of, load}
use Rattle.coordinator.specs.NodeCalls.{Applied, applies, call_wants, family_for}
use Rattle.coordinator.specs.NodeSlots.{Created, creates}
use Rattle.coordinator.specs.NodeTick.{Happening, Ticked, ticks as node_ticks}
use Rattle.coordinator.specs.declared.effect.Effect.{Effect}
use Rattle.coordinator.specs.declared.event.Act.{Act}
use Rattle.coordinator.specs.declared.event.Act.TheVariants as acts
use Rattle.coordinator.specs.declared.event.Event.{Event}
use Rattle.coordinator.specs.declared.node.NodeFault.{NodeFault}
use Rattle.coordinator.specs.declared.node.NodeFault.TheVariants as faults
use Rattle.coordinator.specs.declared.said.Entry.{Entry}
use Rattle.coordinator.specs.declared.said.Said.{Said}
use Rattle.coordinator.specs.declared.said.Said.TheVariants as said
use Rattle.coordinator.specs.declared.said.StepAnswer.{StepAnswer}
use Rattle.nodes_world.specs.declared.deed.Deed.{Deed}
use Rattle.nodes_world.specs.declared.deed.Deed.TheVariants as deeds
use Rattle.nodes_world.specs.declared.deed.Manner.{Manner}
use Rattle.nodes_world.specs.declared.deed.Manner.TheVariants as manners
use Rattle.nodes_world.specs.declared.message.Content.{Content}
use Rattle.nodes_world.specs.declared.message.Content.TheVariants as contents
use Rattle.nodes_world.specs.declared.message.Message.{Message}
use Rattle.nodes_world.specs.declared.thing.Thing.{Thing}
use Rattle.nodes_world.specs.declared.thing.Thing.TheVariants as things
use Rattle.nodes_world.specs.Clients.{acts_at, answer_only, answered_with, begins, begins_at, begun_with, call_event, called_line, calls, created, creates_sub, fault_said, is_registered, registered, registered_if, registered_line, registers, registers_at, registers_object, said_in, said_lines, then_answers}
use Rattle.nodes_world.specs.Deliveries.{answer_event, comes, comes_to, delivers, flows, hears_answer, hears_if, hears_of, hears_reply, is_waited_for, lowest, reaches, receiver_of}
use Rattle.nodes_world.specs.Disks.{Stop}
use Rattle.nodes_world.specs.Ends as end
use Rattle.nodes_world.specs.Ends.{answer_fault, answer_heard, answer_of_row, closed_by, does_by, drawn_once, fresh, hears_only, heuristic, moves, obeys, obeys_as, obeys_row, obeys_word, put_into, puts, refuses, refuses_to, refusing, shown_state, state_lines, told_word, with_end, with_fresh, with_resource, with_resource_at}
use Rattle.nodes_world.specs.Happenings.{Done, ◌▹◌, Cast, all_effect_lines, all_finished_lines, cast_of, changes, naming, nothing, requests, requests_all, replies, tells}
use Rattle.nodes_world.specs.Journals.{Asked, Answers, Stops, asks, journal_octets, records_on}
use Rattle.nodes_world.specs.Lives.{comes_up, crashes_now, journal_line, journal_lines_from, journal_lines_of, last_lines, loads, makes_end, makes_node, new_end, new_seat, restarts, standing_lines, stops, ticks, ticks_seat, ticks_to, up_lines, with_named_seat}
use Rattle.nodes_world.specs.Nodes.{Stepping, answer_told, applied_at, cast_by, crashes, crashes_seat, effects_told as effects_of, entries_of, happens, happens_all, heard_effects, heard_lines, key_of_record, no_step, steps, steps_by, steps_node, stopped_at, ticks_node}
use Rattle.nodes_world.specs.Objects.{branch_of, family_key, place_of, resource_key, service_at}
use Rattle.nodes_world.specs.Step.{carried_out}
use Rattle.nodes_world.specs.Told.{Told, Known, operation_of, sent}
use Rattle.nodes_world.specs.World.{World, Seat, Server, OfNode, OfEnd, FlatEnd, FlatResource, NamedKey, empty, end_at, end_in, is_up, message_numbered, next_message, node_in, on_seat, referred, resource_at, transaction_name, with_clock, with_disk, with_message, with_name, with_new_seat, with_seat, with_server}
use Rattle.nodes_told.specs.Reading.{IsAnswer, IsOneOf, IsTold, refused_words}
use Rattle.nodes_told.proofs.FamilySays.{IfSo, append_all, got, set_all}
use Rattle.nodes_told.proofs.LinesTold.{AllTold, EntryNamed, SeatReads, ServerReads, WorldReads, answered_told, aware_told, back_told, called_told, down_told, dropped_told, effects_told, finished_told, journal_told, naming_told, recorded_told, recv_told, referred_is, referred_named, refused_told, reg_told, sent_told, state_told, sub_told, top_told, transaction_named, up_told}
use Rattle.nodes_told.proofs.NodeSays.{AppliedReads, HappeningReads, NodeReads, StepAnswerReads, applies_reads, creates_reads, load_reads, ticks_reads}

-- ---- worlds

with_seat_reads : (place : ℕ) (s : Seat) (w : World) → SeatReads s → WorldReads w → WorldReads (with_seat place s w)
with_seat_reads place s w is reads = record { names = reads.names; seats = set_all SeatReads w.seats place s reads.seats is }

on_seat_reads : (place : ℕ) (change : Seat → Seat) (w : World) → ((s : Seat) → SeatReads s → SeatReads (change s)) → WorldReads w → WorldReads (on_seat place change w)
on_seat_reads place change w keeps reads = by (slice_get w.seats place) (got SeatReads w.seats place reads.seats)
  where
    by : (o : Option Seat) → IfSo SeatReads o → WorldReads (elim o as (λ _. World) [ Some s ↦ with_seat place (change s) w | None ↦ w ])
    by (Some s) is = with_seat_reads place (change s) w (keeps s is) reads
    by None is = reads

server_reads : (place : ℕ) (server : Server) (w : World) → ServerReads server → WorldReads w → WorldReads (with_server place server w)
server_reads place server w is reads =
    on_seat_reads place (λ (s : Seat). record s { server = server }) w (λ s seat. record { name = seat.name; server = is }) reads

disk_reads : (place : ℕ) (disk : DiskState) (stop : Option Stop) (w : World) → WorldReads w → WorldReads (with_disk place disk stop w)
disk_reads place disk stop w reads =
    on_seat_reads place (λ (s : Seat). record s { disk = disk; stop = stop }) w (λ s seat. record { name = seat.name; server = seat.server }) reads

clock_reads : (place clock : ℕ) (w : World) → WorldReads w → WorldReads (with_clock place clock w)
clock_reads place clock w reads =
    on_seat_reads place (λ (s : Seat). record s { clock = clock }) w (λ s seat. record { name = seat.name; server = seat.server }) reads

end_reads : (place : ℕ) (change : FlatEnd → FlatEnd) (w : World) → WorldReads w → WorldReads (with_end place change w)
end_reads place change w reads = by (end_at w place)
  where
    by : (o : Option FlatEnd) → WorldReads (elim o as (λ _. World) [ Some e ↦ with_server place (OfEnd (Some (change e))) w | None ↦ w ])
    by (Some e) = server_reads place (OfEnd (Some (change e))) w tt reads
    by None = reads

resource_reads : (key : ObjectKey) (r : FlatResource) (w : World) → WorldReads w → WorldReads (with_resource_at key r w)
unfolding with_resource_at
resource_reads key r w reads = end_reads (place_of key) (with_resource r) w reads

messages_read : (w : World) (some : List Message) → WorldReads w → WorldReads (record w { messages = some })
messages_read w some reads = record { names = reads.names; seats = reads.seats }

name_reads : (name : List ℕ) (named : Thing) (w : World) → IsName name → WorldReads w → WorldReads (with_name name named w)
name_reads name named w is reads = record {
  names = append_all EntryNamed w.names ((name, named) ∷ []) reads.names (is, tt);
  seats = reads.seats;
}

new_seat_reads : (s : Seat) (w : World) → SeatReads s → WorldReads w → WorldReads (with_new_seat s w)
new_seat_reads s w is reads = record { names = reads.names; seats = append_all SeatReads w.seats (s ∷ []) reads.seats (is, tt) }

-- ---- what comes of a world

record TellsWell (d : Done) : Type 0 where
  pub world : WorldReads d.world
  pub told : AllTold d.lines

stays : (w : World) → WorldReads w → TellsWell (nothing w)
stays w reads = record { world = reads; told = tt }

only_tells : (some : List Told) (w : World) → AllTold some → WorldReads w → TellsWell (tells some w)
only_tells some w is reads = record { world = reads; told = is }

and_then : (first : Done) (next : World → Done) → TellsWell first → ((v : World) → WorldReads v → TellsWell (next v)) → TellsWell (first ▹ next)
and_then first next one more =
    let last = more first.world one.world in
    record { world = last.world; told = append_all IsTold first.lines (next first.world).lines one.told last.told }

-- ---- words and replies

requests_tells : (place : ℕ) (o : Outward) (w : World) → WorldReads w → TellsWell (requests place o w)
unfolding requests
requests_tells place o w reads = record {
  world = record { names = reads.names; seats = reads.seats };
  told = naming_told (sent (next_message w) o.word) (option_map (λ (r : NamedKey). r.name) (referred w o.to)) (sent_told (next_message w) o.word) (referred_named w o.to reads);
}

requests_all_tells : (place : ℕ) (some : List Outward) (w : World) → WorldReads w → TellsWell (requests_all place some w)
requests_all_tells place [] w reads = stays w reads
requests_all_tells place (o ∷ others) w reads =
    and_then (requests place o w) (requests_all place others) (requests_tells place o w reads) (λ v later. requests_all_tells place others v later)

replies_tells : (request : ℕ) (answer : Said) (w : World) → IsAnswer answer → WorldReads w → TellsWell (replies request answer w)
unfolding replies
replies_tells request answer w is reads = record {
  world = record { names = reads.names; seats = reads.seats };
  told = (back_told (next_message w) request answer is, tt);
}

-- ---- a call to a node

crashes_seat_tells : (place : ℕ) (image : List ℕ) (s : Seat) (w : World) → SeatReads s → WorldReads w → TellsWell (crashes_seat place image s w)
crashes_seat_tells place image s w seat reads = record {
  world = server_reads place (OfNode None) (with_disk place (at_first image) None w) tt (disk_reads place (at_first image) None w reads);
  told = (down_told s.name seat.name, tt);
}

crashes_tells : (place : ℕ) (image : List ℕ) (w : World) → WorldReads w → TellsWell (crashes place image w)
unfolding crashes
crashes_tells place image w reads = by (slice_get w.seats place) (got SeatReads w.seats place reads.seats)
  where
    by : (o : Option Seat) → IfSo SeatReads o → TellsWell (elim o as (λ _. Done) [ Some s ↦ crashes_seat place image s w | None ↦ nothing w ])
    by (Some s) is = crashes_seat_tells place image s w is reads
    by None is = stays w reads

cast_told : (w : World) (c : Option Cast) (some : List Effect) → WorldReads w → AllTold (effects_of w c some)
cast_told w (Some c) some reads = effects_told w reads c some
cast_told w None some reads = tt

answer_reads_told : (w : World) (c : Option Cast) (entries : List Entry) (answer : Result StepAnswer NodeFault) → StepAnswerReads answer → WorldReads w → AllTold (answer_told w c entries answer)
answer_reads_told w c entries (Ok a) is reads =
    append_all IsTold (effects_of w c a.effects) (all_finished_lines entries a.finished) (cast_told w c a.effects reads) (finished_told entries a.finished is.1)
answer_reads_told w c entries (Err fault) is reads = tt

-- the answer of a step, if it has one
abbrev IfAnswered : Option (Result StepAnswer NodeFault) → Type 0
IfAnswered answer = IfSo StepAnswerReads answer

record StepTells (s : Stepping) : Type 0 where
  pub done : TellsWell s.done
  pub answer : IfAnswered s.answer

applied_tells : (place : ℕ) (k : ObjectKey) (e : Event) (n : Node) (disk : DiskState) (stop : Option Stop) (a : Applied) (w : World) → AppliedReads a → WorldReads w
    → StepTells (applied_at place k e n disk stop a w)
applied_tells place k e n disk stop a w is reads = record {
  done =
      and_then (changes seated ▹ tells lines) (requests_all place a.words)
      (and_then (changes seated) (tells lines) (stays seated (server_reads place (OfNode (Some a.node)) (with_disk place disk stop w) is.node (disk_reads place disk stop w reads)))
      (λ v later. only_tells lines v (answer_reads_told w _ _ a.answer is.answer reads) later))
      (λ v later. requests_all_tells place a.words v later);
  answer = is.answer;
}
  where
    seated : World
    seated = with_server place (OfNode (Some a.node)) (with_disk place disk stop w)

    lines : List Told
    lines = answer_told w (cast_by (family_for k e a.node) e n) (entries_of (family_for k e a.node)) a.answer

heard_told : (w : World) (f : Option Family) (e : Event) → WorldReads w → AllTold (heard_lines w f e)
heard_told w (Some f) e reads = effects_told w reads (cast_of f) (heard_effects e.act f)
heard_told w None e reads = tt

stopped_tells : (place : ℕ) (k : ObjectKey) (e : Event) (n : Node) (image : List ℕ) (w : World) → WorldReads w → StepTells (stopped_at place k e n image w)
stopped_tells place k e n image w reads = record {
  done =
      and_then (tells (heard_lines w (family_for k e n) e) w) (crashes place image)
      (only_tells (heard_lines w (family_for k e n) e) w (heard_told w (family_for k e n) e reads) reads) (λ v later. crashes_tells place image v later);
  answer = tt;
}

steps_by_tells : (asked : Asked) (place : ℕ) (k : ObjectKey) (e : Event) (n : Node) (w : World) → NodeReads n → WorldReads w → StepTells (steps_by asked place k e n w)
steps_by_tells (Answers stood disk stop) place k e n w node reads = applied_tells place k e n disk stop (applies k e stood n) w (applies_reads k e stood n node) reads
steps_by_tells (Stops image) place k e n w node reads = stopped_tells place k e n image w reads

no_step_tells : (w : World) → WorldReads w → StepTells (no_step w)
no_step_tells w reads = record { done = stays w reads; answer = tt }

node_reads : (server : Server) → ServerReads server → IfSo NodeReads (node_in server)
node_reads (OfNode (Some n)) is = is
node_reads (OfNode None) is = tt
node_reads (OfEnd up) is = tt

steps_node_tells : (up : Option Node) (s : Seat) (place : ℕ) (k : ObjectKey) (e : Event) (w : World) → IfSo NodeReads up → WorldReads w → StepTells (steps_node up s place k e w)
steps_node_tells (Some n) s place k e w node reads = steps_by_tells (asks (call_wants k e n) n.service n.found s.disk s.stop) place k e n w node reads
steps_node_tells None s place k e w node reads = no_step_tells w reads

steps_tells : (place : ℕ) (k : ObjectKey) (e : Event) (w : World) → WorldReads w → StepTells (steps place k e w)
unfolding steps
steps_tells place k e w reads = by (slice_get w.seats place) (got SeatReads w.seats place reads.seats)
  where
    by : (o : Option Seat) → IfSo SeatReads o
        → StepTells (elim o as (λ _. Stepping) [ Some s ↦ steps_node (node_in s.server) s place k e w | None ↦ no_step w ])
    by (Some s) is = steps_node_tells (node_in s.server) s place k e w (node_reads s.server is.server) reads
    by None is = no_step_tells w reads

-- ---- a tick

happens_tells : (place : ℕ) (later : Node) (h : Happening) (w : World) → HappeningReads h → WorldReads w → TellsWell (happens place later h w)
happens_tells place later h w is reads = by (family_of h.key later)
  where
    by : (o : Option Family)
        → TellsWell (tells (elim o as (λ _. List Told) [
          | Some f ↦ all_effect_lines w (cast_of f) h.effects ++ all_finished_lines f.entries h.finished
          | None ↦ []
        ]) w
        ▹ requests_all place h.words)
    by (Some f) =
        and_then (tells (all_effect_lines w (cast_of f) h.effects ++ all_finished_lines f.entries h.finished) w) (requests_all place h.words)
        (only_tells _ w
        (append_all IsTold (all_effect_lines w (cast_of f) h.effects) (all_finished_lines f.entries h.finished) (effects_told w reads (cast_of f) h.effects) (finished_told f.entries h.finished is)) reads)
        (λ v later. requests_all_tells place h.words v later)
    by None = and_then (tells [] w) (requests_all place h.words) (only_tells [] w tt reads) (λ v later. requests_all_tells place h.words v later)

happens_all_tells : (place : ℕ) (later : Node) (some : List Happening) (w : World) → AllByRecursion HappeningReads some → WorldReads w → TellsWell (happens_all place later some w)
happens_all_tells place later [] w all reads = stays w reads
happens_all_tells place later (h ∷ others) w all reads =
    and_then (happens place later h w) (happens_all place later others) (happens_tells place later h w all.0 reads)
    (λ v next. happens_all_tells place later others v all.1 next)

ticks_node_tells : (place now : ℕ) (n : Node) (w : World) → NodeReads n → WorldReads w → TellsWell (ticks_node place now n w)
unfolding ticks_node
ticks_node_tells place now n w node reads =
    let is = ticks_reads now n node in
    let t : Ticked = node_ticks now n in
    let seated : World = with_server place (OfNode (Some t.node)) w in
    and_then (changes seated ▹ happens_all place t.node t.happened) (requests_all place t.words)
    (and_then (changes seated) (happens_all place t.node t.happened) (stays seated (server_reads place (OfNode (Some t.node)) w is.node reads))
    (λ v later. happens_all_tells place t.node t.happened v is.happened later))
    (λ v later. requests_all_tells place t.words v later)

-- ---- ends

state_tells : (name : List ℕ) (shown : Option ResourceState) (w : World) → IsName name → WorldReads w → TellsWell (state_lines name shown w)
state_tells name (Some s) w is reads = only_tells _ w (state_told name s is, tt) reads
state_tells name None w is reads = stays w reads

moves_tells : (named : NamedKey) (r : FlatResource) (next : Option State) (w : World) → IsName named.name → WorldReads w → TellsWell (moves named r next w)
moves_tells named r (Some s) w is reads =
    and_then (changes (with_resource_at named.key (record r { state = s }) w)) (state_lines named.name (shown_state s))
    (stays _ (resource_reads named.key (record r { state = s }) w reads)) (λ v later. state_tells named.name (shown_state s) v is later)
moves_tells named r None w is reads = stays w reads

answers_tells : (request : ℕ) (answer : Option Said) (w : World) → IfSo IsAnswer answer → WorldReads w → TellsWell (end.answers request answer w)
answers_tells request (Some answer) w is reads = replies_tells request answer w is reads
answers_tells request None w is reads = stays w reads

heuristic_reads : (d : Disposition) → IsAnswer (heuristic d)
heuristic_reads dispositions.Committed = tt
heuristic_reads _ = tt

heard_reads : (h : Heard) → IfSo IsAnswer (answer_heard h)
heard_reads (hears.Phase (phase_hears.Heuristic d)) = heuristic_reads d
heard_reads (hears.Phase phase_hears.Done) = tt
heard_reads _ = tt

fault_reads : (fault : EndFault) → IfSo IsAnswer (answer_fault fault)
fault_reads end_faults.ObjectNotExist = tt
fault_reads _ = tt

row_reads : (r : Result Heard EndFault) → IfSo IsAnswer (answer_of_row r)
row_reads (Ok h) = heard_reads h
row_reads (Err fault) = fault_reads fault

gone_reads : (t : Bool) → IsAnswer (if t then said.ObjectNotExist else said.Plain)
gone_reads true = tt
gone_reads false = tt

obeys_word_tells : (word : Option EndWord) (request : ℕ) (named : NamedKey) (r : FlatResource) (w : World) → IsName named.name → WorldReads w → TellsWell (obeys_word word request named r w)
obeys_word_tells (Some word) request named r w is reads =
    let by : Row = row word r.state in
    and_then (moves named r by.next w) (end.answers request (answer_of_row by.said)) (moves_tells named r by.next w is reads)
    (λ v later. answers_tells request (answer_of_row by.said) v (row_reads by.said) later)
obeys_word_tells None request named r w is reads = replies_tells request _ w (gone_reads (is_forgotten r.state)) reads

obeys_as_tells : (up : Option FlatResource) (request : ℕ) (named : NamedKey) (word : Word) (w : World) → IsName named.name → WorldReads w → TellsWell (obeys_as up request named word w)
obeys_as_tells (Some r) request named word w is reads = obeys_word_tells (told_word word) request named r w is reads
obeys_as_tells None request named word w is reads = replies_tells request said.ObjectNotExist w tt reads

obeys_tells : (request : ℕ) (o : Outward) (w : World) → WorldReads w → TellsWell (obeys request o w)
unfolding obeys
obeys_tells request o w reads = by (referred w o.to) (referred_is w o.to reads)
  where
    by : (found : Option NamedKey) → IfSo (λ (r : NamedKey). IsName r.name) found
        → TellsWell (elim found as (λ _. Done) [ Some named ↦ obeys_as (resource_at w named.key) request named o.word w | None ↦ nothing w ])
    by (Some named) is = obeys_as_tells (resource_at w named.key) request named o.word w is reads
    by None is = stays w reads

refuses_tells : (word : List ℕ) (answer : Said) (w : World) → IsOneOf refused_words word → IsAnswer answer → WorldReads w → TellsWell (refuses word answer w)
refuses_tells word answer w one is reads = only_tells _ w (refused_told word answer one is, tt) reads

closed_reads : (s : State) → IfSo IsAnswer (closed_by s)
closed_reads states.Fresh = tt
closed_reads states.Working = tt
closed_reads states.Forgotten = tt
closed_reads _ = tt

does_tells : (closed : Option Said) (word : List ℕ) (key : ObjectKey) (r : FlatResource) (w : World) → IfSo IsAnswer closed → IsOneOf refused_words word → WorldReads w
    → TellsWell (does_by closed word key r w)
does_tells None word key r w is one reads = stays _ (resource_reads key r w reads)
does_tells (Some answer) word key r w is one reads = refuses_tells word answer w one is reads

puts_tells : (key : ObjectKey) (cell value : ℕ) (w : World) → WorldReads w → TellsWell (puts key cell value w)
unfolding puts
puts_tells key cell value w reads = by (resource_at w key)
  where
    by : (o : Option FlatResource)
        → TellsWell (elim o as (λ _. Done) [ Some r ↦ does_by (closed_by r.state) (codes "put") key (put_into cell value r) w | None ↦ nothing w ])
    by (Some r) = does_tells (closed_by r.state) (codes "put") key (put_into cell value r) w (closed_reads r.state) (inr (inl refl)) reads
    by None = stays w reads

refuses_to_tells : (key : ObjectKey) (w : World) → WorldReads w → TellsWell (refuses_to key w)
unfolding refuses_to
refuses_to_tells key w reads = by (resource_at w key)
  where
    by : (o : Option FlatResource)
        → TellsWell (elim o as (λ _. Done) [ Some r ↦ does_by (closed_by r.state) (codes "refuse") key (refusing r) w | None ↦ nothing w ])
    by (Some r) = does_tells (closed_by r.state) (codes "refuse") key (refusing r) w (closed_reads r.state) (inr (inr (inl refl))) reads
    by None = stays w reads

-- ---- clients

fault_said_reads : (fault : NodeFault) → IsAnswer (fault_said fault)
fault_said_reads faults.ObjectNotExist = tt
fault_said_reads faults.NoResources = tt
fault_said_reads faults.NoImplement = tt
fault_said_reads (faults.Journal fault) = tt
fault_said_reads faults.Memory = tt

said_in_reads : (r : Result StepAnswer NodeFault) → StepAnswerReads r → IsAnswer (said_in r)
said_in_reads (Ok a) is = is.0
said_in_reads (Err fault) is = fault_said_reads fault

said_told : (message : ℕ) (later : Bool) (answer : Said) → IsAnswer answer → AllTold (said_lines message later answer)
said_told message true answer is = tt
said_told message false answer is = (answered_told message answer is, tt)

abbrev BehindTells : (Said → World → Done) → Type 0
BehindTells behind = (answer : Said) (v : World) → WorldReads v → TellsWell (behind answer v)

answered_tells : (message : ℕ) (behind : Said → World → Done) (answer : Option (Result StepAnswer NodeFault)) (w : World) → IfAnswered answer → BehindTells behind → WorldReads w
    → TellsWell (answered_with message behind answer w)
answered_tells message behind (Some r) w is more reads =
    let answer : Said = said_in r in
    and_then (behind answer w) (tells (said_lines message (is_later answer) answer)) (more answer w reads)
    (λ v later. only_tells (said_lines message (is_later answer) answer) v (said_told message (is_later answer) answer (said_in_reads r is)) later)
answered_tells message behind None w is more reads = stays w reads

acts_tells : (message : ℕ) (to : ObjectKey) (act : Act) (behind : Said → World → Done) (w : World) → BehindTells behind → WorldReads w → TellsWell (acts_at message to act behind w)
unfolding acts_at
acts_tells message to act behind w more reads = by (slice_get w.seats (place_of to))
  where
    by : (o : Option Seat)
        → TellsWell (elim o as (λ _. Done) [
          | Some s ↦ then_answers message behind (steps (place_of to) to (call_event message to act s.clock) w)
          | None ↦ nothing w
        ])
    by (Some s) =
        let step : Stepping = steps (place_of to) to (call_event message to act s.clock) w in
        let is = steps_tells (place_of to) to (call_event message to act s.clock) w reads in
        and_then step.done (answered_with message behind step.answer) is.done (λ v later. answered_tells message behind step.answer v is.answer more later)
    by None = stays w reads

called_tells : (message : ℕ) (act : Act) (operation : Option (List ℕ)) (name : Option (List ℕ)) → operation_of act ≡ operation → IfSo IsName name → AllTold (called_line message operation name)
called_tells message act (Some operation) (Some name) named is = (called_told message act operation name named is, tt)
called_tells message act (Some operation) None named is = tt
called_tells message act None name named is = tt

calls_tells : (to : ObjectKey) (act : Act) (behind : Said → World → Done) (w : World) → BehindTells behind → WorldReads w → TellsWell (calls to act behind w)
unfolding calls
calls_tells to act behind w more reads =
    and_then _ (acts_at (next_message w) to act behind)
    (record {
      world = record { names = reads.names; seats = reads.seats };
      told = called_tells (next_message w) act (operation_of act) (transaction_name w to) refl (transaction_named w to reads);
    })
    (λ v later. acts_tells (next_message w) to act behind v more later)

quiet_behind : BehindTells answer_only
quiet_behind answer v reads = stays v reads

begun_tells : (place : ℕ) (name node : List ℕ) (later : Node) (answer : Result ObjectKey NodeFault) (w : World) → IsName name → IsName node → NodeReads later → WorldReads w
    → TellsWell (begun_with place name node later answer w)
begun_tells place name node later (Ok key) w is other node_is reads = record {
  world = name_reads name (things.Transaction key) (with_server place (OfNode (Some later)) w) is (server_reads place (OfNode (Some later)) w node_is reads);
  told = (top_told name node is other, tt);
}
begun_tells place name node later (Err fault) w is other node_is reads = refuses_tells (codes "begin") (fault_said fault) w (inl refl) (fault_said_reads fault) reads

begins_at_tells : (place : ℕ) (name : List ℕ) (seconds : ℕ) (s : Seat) (up : Option Node) (w : World) → IsName name → SeatReads s → IfSo NodeReads up → WorldReads w
    → TellsWell (begins_at place name seconds s up w)
begins_at_tells place name seconds s (Some n) w is seat node reads =
    let c : Created = creates s.clock seconds n in
    begun_tells place name s.name c.node c.answer w is seat.name (creates_reads s.clock seconds n node) reads
begins_at_tells place name seconds s None w is seat node reads = stays w reads

begins_tells : (place : ℕ) (name : List ℕ) (seconds : ℕ) (w : World) → IsName name → WorldReads w → TellsWell (begins place name seconds w)
unfolding begins
begins_tells place name seconds w is reads = by (slice_get w.seats place) (got SeatReads w.seats place reads.seats)
  where
    by : (o : Option Seat) → IfSo SeatReads o
        → TellsWell (elim o as (λ _. Done) [ Some s ↦ begins_at place name seconds s (node_in s.server) w | None ↦ nothing w ])
    by (Some s) seat = begins_at_tells place name seconds s (node_in s.server) w is seat (node_reads s.server seat.server) reads
    by None seat = stays w reads

created_tells : (parent : ObjectKey) (name : List ℕ) → IsName name → BehindTells (created parent name)
created_tells parent name is (said.Made branch) v reads = record {
  world = name_reads name (things.Transaction (branch_of parent branch)) v is reads;
  told = naming_told _ (transaction_name v parent) (λ above named. sub_told name above is named) (transaction_named v parent reads);
}
created_tells parent name is _ v reads = stays v reads

registered_told : (manner : Manner) (name end t : List ℕ) → IsName name → IsName end → IsName t → IsTold (registered_line manner name end t)
registered_told manners.Resource name end t is other last = reg_told name t end is last other
registered_told manners.Aware name end t is other last = aware_told name t end is last other
registered_told manners.Double name end t is other last = reg_told name t end is last other

registered_if_tells : (so : Bool) (manner : Manner) (key : ObjectKey) (end : List ℕ) (transaction : ObjectKey) (name : List ℕ) (w : World) → IsName end → IsName name → WorldReads w
    → TellsWell (registered_if so manner key end transaction name w)
registered_if_tells true manner key end transaction name w other is reads = record {
  world = name_reads name (things.Resource key) (with_end (place_of key) (with_fresh key) w) is (end_reads (place_of key) (with_fresh key) w reads);
  told = naming_told (registered_line manner name end) (transaction_name w transaction) (λ t named. registered_told manner name end t is other named) (transaction_named w transaction reads);
}
registered_if_tells false manner key end transaction name w other is reads = stays w reads

registers_at_tells : (manner : Manner) (transaction : ObjectKey) (place : ℕ) (name : List ℕ) (s : Seat) (up : Option FlatEnd) (w : World) → IsName name → SeatReads s → WorldReads w
    → TellsWell (registers_at manner transaction place s up name w)
registers_at_tells manner transaction place name s (Some e) w is seat reads =
    let key : ObjectKey = resource_key manner place (e.drawn + 1) in
    and_then (changes (with_end place drawn_once w)) (registers_object manner key s.name transaction name) (stays _ (end_reads place drawn_once w reads))
    (λ v later. calls_tells transaction _ (registered manner key s.name transaction name) v
    (λ answer u here. registered_if_tells (is_registered manner answer) manner key s.name transaction name u seat.name is here) later)
registers_at_tells manner transaction place name s None w is seat reads = stays w reads

registers_tells : (manner : Manner) (transaction : ObjectKey) (place : ℕ) (name : List ℕ) (w : World) → IsName name → WorldReads w → TellsWell (registers manner transaction place name w)
unfolding registers
registers_tells manner transaction place name w is reads = by (slice_get w.seats place) (got SeatReads w.seats place reads.seats)
  where
    by : (o : Option Seat) → IfSo SeatReads o
        → TellsWell (elim o as (λ _. Done) [ Some s ↦ registers_at manner transaction place s (end_in s.server) name w | None ↦ nothing w ])
    by (Some s) seat = registers_at_tells manner transaction place name s (end_in s.server) w is seat reads
    by None seat = stays w reads

-- ---- deliveries

hears_answer_tells : (place : ℕ) (m : Message) (from : ℕ) (o : Outward) (answer : Said) (s : Seat) (w : World) → WorldReads w → TellsWell (hears_answer place m from o answer s w)
hears_answer_tells place m from o answer s w reads =
    and_then (changes (with_message place (record m { answered = true }) w))
    (λ (v : World). (steps from (family_key from o.number) (answer_event o answer s.clock) v).done)
    (stays (with_message place (record m { answered = true }) w) (record { names = reads.names; seats = reads.seats }))
    (λ v later. (steps_tells from (family_key from o.number) (answer_event o answer s.clock) v later).done)

hears_if_tells : (so : Bool) (place : ℕ) (m : Message) (from : ℕ) (o : Outward) (answer : Said) (w : World) → WorldReads w → TellsWell (hears_if so place m from o answer w)
hears_if_tells true place m from o answer w reads = by (slice_get w.seats from)
  where
    by : (found : Option Seat) → TellsWell (elim found as (λ _. Done) [ Some s ↦ hears_answer place m from o answer s w | None ↦ nothing w ])
    by (Some s) = hears_answer_tells place m from o answer s w reads
    by None = stays w reads
hears_if_tells false place m from o answer w reads = stays w reads

hears_of_tells : (place : ℕ) (m : Message) (content : Content) (answer : Said) (w : World) → WorldReads w → TellsWell (hears_of place m content answer w)
hears_of_tells place m (contents.Request from o) answer w reads = hears_if_tells (is_waited_for w m from o) place m from o answer w reads
hears_of_tells place m (contents.Call to act) answer w reads = stays w reads
hears_of_tells place m (contents.Reply request other) answer w reads = stays w reads

hears_reply_tells : (request : ℕ) (answer : Said) (w : World) → WorldReads w → TellsWell (hears_reply request answer w)
unfolding hears_reply
hears_reply_tells request answer w reads = by (message_numbered w request)
  where
    by : (found : Option Message) → TellsWell (elim found as (λ _. Done) [ Some m ↦ hears_of (request - 1) m m.content answer w | None ↦ nothing w ])
    by (Some m) = hears_of_tells (request - 1) m m.content answer w reads
    by None = stays w reads

reaches_tells : (number : ℕ) (content : Content) (w : World) → WorldReads w → TellsWell (reaches number content w)
unfolding reaches
reaches_tells number (contents.Call to act) w reads = acts_tells number to act answer_only w quiet_behind reads
reaches_tells number (contents.Request from o) w reads = obeys_tells number o w reads
reaches_tells number (contents.Reply request answer) w reads = hears_reply_tells request answer w reads

comes_to_tells : (up : Bool) (number : ℕ) (content : Content) (w : World) → WorldReads w → TellsWell (comes_to up number content w)
comes_to_tells true number content w reads =
    and_then (tells (Known (lines.Recv number) ∷ []) w) (reaches number content) (only_tells _ w (recv_told number, tt) reads) (λ v later. reaches_tells number content v later)
comes_to_tells false number content w reads = only_tells _ w (dropped_told number, tt) reads

comes_tells : (receiver : Option ℕ) (number : ℕ) (content : Content) (w : World) → WorldReads w → TellsWell (comes receiver number content w)
comes_tells (Some receiver) number content w reads = comes_to_tells (is_up w receiver) number content w reads
comes_tells None number content w reads = stays w reads

delivers_tells : (place : ℕ) (w : World) → WorldReads w → TellsWell (delivers place w)
unfolding delivers
delivers_tells place w reads = by (slice_get w.messages place)
  where
    by : (found : Option Message)
        → TellsWell (elim found as (λ _. Done) [
          | Some m ↦ changes (with_message place (record m { delivered = true }) w) ▹ comes (receiver_of w m.content) (place + 1) m.content
          | None ↦ nothing w
        ])
    by (Some m) =
        and_then (changes (with_message place (record m { delivered = true }) w)) (comes (receiver_of w m.content) (place + 1) m.content)
        (stays _ (record { names = reads.names; seats = reads.seats })) (λ v later. comes_tells (receiver_of w m.content) (place + 1) m.content v later)
    by None = stays w reads

flows_tells : (count : ℕ) (w : World) → WorldReads w → TellsWell (flows count w)
unfolding flows
flows_tells zero w reads = stays w reads
flows_tells (suc count) w reads = by (lowest w) (flows_tells count)
  where
    by : (found : Option ℕ) → ((v : World) → WorldReads v → TellsWell (flows count v))
        → TellsWell (elim found as (λ _. Done) [ Some place ↦ delivers place w ▹ flows count | None ↦ nothing w ])
    by (Some place) others = and_then (delivers place w) (flows count) (delivers_tells place w reads) others
    by None others = stays w reads

-- ---- nodes and ends

standing_told : (w : World) (service : ℕ) (r : Held) → WorldReads w → AllTold (standing_lines w service r)
standing_told w service r reads = by (is_decided r.kind)
  where
    by : (t : Bool)
        → AllTold (if t then naming (λ (name : List ℕ). Known (lines.Decide name (outcomes.Commit Record))) (transaction_name w (key_of_record service r)) else [])
    by true = naming_told _ (transaction_name w (key_of_record service r)) recorded_told (transaction_named w (key_of_record service r) reads)
    by false = tt

all_standing_told : (w : World) (service : ℕ) (some : List Held) → WorldReads w → AllTold (flat_map (standing_lines w service) some)
all_standing_told w service [] reads = tt
all_standing_told w service (r ∷ some) reads =
    append_all IsTold (standing_lines w service r) (flat_map (standing_lines w service) some) (standing_told w service r reads) (all_standing_told w service some reads)

comes_up_tells : (place : ℕ) (name : List ℕ) (n : Node) (disk : DiskState) (w : World) → IsName name → NodeReads n → WorldReads w → TellsWell (comes_up place name n disk w)
comes_up_tells place name n disk w is node reads =
    and_then (changes (with_server place (OfNode (Some n)) (with_disk place disk None w))) _
    (stays _ (server_reads place (OfNode (Some n)) (with_disk place disk None w) node (disk_reads place disk None w reads)))
    (λ v later. only_tells (up_lines v name n) v (up_told name _ is, all_standing_told v n.service n.recovered later) later)

loads_tells : (place : ℕ) (s : Seat) (rs : Option (List JournalRecord)) (w : World) → SeatReads s → WorldReads w → TellsWell (loads place s rs w)
loads_tells place s (Some rs) w seat reads =
    comes_up_tells place s.name (load (service_at place) rs) (loaded (service_at place) rs s.disk) w seat.name (load_reads (service_at place) rs) reads
loads_tells place s None w seat reads = stays w reads

restarts_tells : (place : ℕ) (w : World) → WorldReads w → TellsWell (restarts place w)
unfolding restarts
restarts_tells place w reads = by (slice_get w.seats place) (got SeatReads w.seats place reads.seats)
  where
    by : (o : Option Seat) → IfSo SeatReads o
        → TellsWell (elim o as (λ _. Done) [ Some s ↦ loads place s (records_on (service_at place) s.disk) w | None ↦ nothing w ])
    by (Some s) seat = loads_tells place s (records_on (service_at place) s.disk) w seat reads
    by None seat = stays w reads

named_seat_reads : (name : List ℕ) (server : Server) (w : World) → IsName name → ServerReads server → WorldReads w → WorldReads (with_named_seat name server w)
named_seat_reads name server w is up reads =
    name_reads name (things.Seat (length w.seats)) (with_new_seat (new_seat name server) w) is
    (new_seat_reads (new_seat name server) w (record { name = is; server = up }) reads)

makes_node_tells : (name : List ℕ) (w : World) → IsName name → WorldReads w → TellsWell (makes_node name w)
unfolding makes_node
makes_node_tells name w is reads =
    and_then (changes (with_named_seat name (OfNode None) w)) (restarts (length w.seats)) (stays _ (named_seat_reads name (OfNode None) w is tt reads))
    (λ v later. restarts_tells (length w.seats) v later)

makes_end_tells : (name : List ℕ) (w : World) → IsName name → WorldReads w → TellsWell (makes_end name w)
unfolding makes_end
makes_end_tells name w is reads = record { world = named_seat_reads name (OfEnd (Some new_end)) w is tt reads; told = (up_told name _ is, tt) }

crashes_now_tells : (place : ℕ) (w : World) → WorldReads w → TellsWell (crashes_now place w)
unfolding crashes_now
crashes_now_tells place w reads = by (slice_get w.seats place)
  where
    by : (o : Option Seat) → TellsWell (elim o as (λ _. Done) [ Some s ↦ crashes place s.disk.reads w | None ↦ nothing w ])
    by (Some s) = crashes_tells place s.disk.reads w reads
    by None = stays w reads

stops_tells : (place : ℕ) (stop : Stop) (w : World) → WorldReads w → TellsWell (stops place stop w)
unfolding stops
stops_tells place stop w reads = by (slice_get w.seats place)
  where
    by : (o : Option Seat) → TellsWell (elim o as (λ _. Done) [ Some s ↦ changes (with_disk place s.disk (Some stop) w) | None ↦ nothing w ])
    by (Some s) = stays _ (disk_reads place s.disk (Some stop) w reads)
    by None = stays w reads

ticks_to_tells : (place now : ℕ) (up : Option Node) (w : World) → IfSo NodeReads up → WorldReads w → TellsWell (ticks_to place now up w)
ticks_to_tells place now (Some n) w node reads =
    and_then (changes (with_clock place now w)) (ticks_node place now n) (stays _ (clock_reads place now w reads)) (λ v later. ticks_node_tells place now n v node later)
ticks_to_tells place now None w node reads = stays _ (clock_reads place now w reads)

ticks_tells : (place seconds : ℕ) (w : World) → WorldReads w → TellsWell (ticks place seconds w)
unfolding ticks
ticks_tells place seconds w reads = by (slice_get w.seats place) (got SeatReads w.seats place reads.seats)
  where
    by : (o : Option Seat) → IfSo SeatReads o → TellsWell (elim o as (λ _. Done) [ Some s ↦ ticks_seat place seconds s w | None ↦ nothing w ])
    by (Some s) seat = ticks_to_tells place (min (s.clock + seconds) last_moment) (node_in s.server) w (node_reads s.server seat.server) reads
    by None seat = stays w reads

-- ---- a deed

-- the name that it gives is a name
abbrev pub DeedNamed : Deed → Type 0
DeedNamed (deeds.MakeNode name) = IsName name
DeedNamed (deeds.MakeEnd name) = IsName name
DeedNamed (deeds.Begin place name seconds) = IsName name
DeedNamed (deeds.Create parent name) = IsName name
DeedNamed (deeds.Register manner transaction place name) = IsName name
DeedNamed _ = Unit {0}

carried_tells : (deed : Deed) (w : World) → DeedNamed deed → WorldReads w → TellsWell (carried_out deed w)
unfolding carried_out creates_sub
carried_tells (deeds.MakeNode name) w is reads = makes_node_tells name w is reads
carried_tells (deeds.MakeEnd name) w is reads = makes_end_tells name w is reads
carried_tells (deeds.Begin place name seconds) w is reads = begins_tells place name seconds w is reads
carried_tells (deeds.Call to act) w is reads = calls_tells to act answer_only w quiet_behind reads
carried_tells (deeds.Create parent name) w is reads = calls_tells parent acts.CreateSubtransaction (created parent name) w (created_tells parent name is) reads
carried_tells (deeds.Register manner transaction place name) w is reads = registers_tells manner transaction place name w is reads
carried_tells (deeds.Put resource cell value) w is reads = puts_tells resource cell value w reads
carried_tells (deeds.Refuse resource) w is reads = refuses_to_tells resource w reads
carried_tells (deeds.Flow count) w is reads = flows_tells count w reads
carried_tells (deeds.Tick place seconds) w is reads = ticks_tells place seconds w reads
carried_tells (deeds.Crash place) w is reads = crashes_now_tells place w reads
carried_tells (deeds.Restart place) w is reads = restarts_tells place w reads
carried_tells (deeds.Stop place write image) w is reads = stops_tells place (record { write = write; image = image }) w reads

pub carried_reads : (deed : Deed) (w : World) → DeedNamed deed → WorldReads w → WorldReads (carried_out deed w).world
carried_reads deed w is reads = (carried_tells deed w is reads).world

pub carried_told : (deed : Deed) (w : World) → DeedNamed deed → WorldReads w → AllTold (carried_out deed w).lines
carried_told deed w is reads = (carried_tells deed w is reads).told

pub empty_reads : WorldReads empty
empty_reads = record { names = tt; seats = tt }

-- ---- the end of a script

journal_line_told : (name : List ℕ) (service : ℕ) (rs : Option (List JournalRecord)) → IsName name → AllTold (journal_line name service rs)
journal_line_told name service (Some rs) is = (journal_told name (journal_octets service rs) is, tt)
journal_line_told name service None is = tt

journal_lines_told : (place : ℕ) (s : Seat) (server : Server) → IsName s.name → AllTold (journal_lines_of place s server)
journal_lines_told place s (OfNode up) is = journal_line_told s.name (service_at place) (records_on (service_at place) s.disk) is
journal_lines_told place s (OfEnd up) is = tt

all_journals_told : (place : ℕ) (seats : List Seat) → AllByRecursion SeatReads seats → AllTold (journal_lines_from place seats)
unfolding journal_lines_from
all_journals_told place [] all = tt
all_journals_told place (s ∷ others) all =
    append_all IsTold (journal_lines_of place s s.server) (journal_lines_from (place + 1) others) (journal_lines_told place s s.server all.0.name)
    (all_journals_told (place + 1) others all.1)

pub last_told : (w : World) → WorldReads w → AllTold (last_lines w)
last_told w reads = all_journals_told 0 w.seats reads.seats
