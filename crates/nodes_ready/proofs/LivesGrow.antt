-- That nodes and ends are made, that nodes go down and come up, and that clocks go on, adds no client's call.
use Rattle.std.proofs.Common.{ℕ, ◌+◌, min, List, [], ◌∷◌, length, slice_get, Option, Some, None}
use Rattle.ots_outside.specs.Disk.{DiskState}
use Rattle.decision_journal.specs.Loading.{loaded}
use Rattle.decision_journal.specs.declared.record.JournalRecord.{JournalRecord}
use Rattle.coordinator.specs.Limits.{last_moment}
use Rattle.coordinator.specs.Node.{Node, load}
use Rattle.coordinator.specs.NodeTick.{Happening, Ticked}
use Rattle.coordinator.specs.NodeTick as clock
use Rattle.nodes_world.specs.Disks.{Stop}
use Rattle.nodes_world.specs.Happenings.{Done, changes, nothing, requests_all}
use Rattle.nodes_world.specs.Journals.{records_on}
use Rattle.nodes_world.specs.Lives.{comes_up, crashes_now, loads, makes_end, makes_node, restarts, stops, ticks, ticks_to, with_named_seat}
use Rattle.nodes_world.specs.Nodes.{crashes, happens, happens_all, ticked_at, ticks_node}
use Rattle.nodes_world.specs.Objects.{service_at}
use Rattle.nodes_world.specs.World.{OfNode, Seat, World, node_in, with_clock, with_disk, with_server}
use Rattle.nodes_ready.proofs.Growing.{Keeps, KeepsCalls, calls_same, calls_stay, calls_then, crashes_keep, requests_keep, seat_messages, server_messages}

-- ---- a node comes up, or is made

up_keeps : (place : ℕ) (name : List ℕ) (n : Node) (disk : DiskState) → Keeps (comes_up place name n disk)
up_keeps place name n disk w =
    calls_same w.messages (with_server place (OfNode (Some n)) (with_disk place disk None w)).messages (server_messages place (OfNode (Some n)) disk None w)

loads_keep : (place : ℕ) (s : Seat) (o : Option (List JournalRecord)) → Keeps (loads place s o)
loads_keep place s (Some rs) w = up_keeps place s.name (load (service_at place) rs) (loaded (service_at place) rs s.disk) w
loads_keep place s None w = calls_stay w.messages

pub restarts_keep : (place : ℕ) → Keeps (restarts place)
unfolding restarts
restarts_keep place w = by_seat (slice_get w.seats place)
  where
    by_seat : (o : Option Seat)
        → KeepsCalls w.messages (elim o as (λ _. Done) [ Some s ↦ loads place s (records_on (service_at place) s.disk) w | None ↦ nothing w ]).world.messages
    by_seat (Some s) = loads_keep place s (records_on (service_at place) s.disk) w
    by_seat None = calls_stay w.messages

pub makes_node_keeps : (name : List ℕ) → Keeps (makes_node name)
unfolding makes_node
makes_node_keeps name w = restarts_keep (length w.seats) (with_named_seat name (OfNode None) w)

pub makes_end_keeps : (name : List ℕ) → Keeps (makes_end name)
unfolding makes_end
makes_end_keeps name w = calls_stay w.messages

-- ---- a node goes down, or is to

pub crashes_now_keeps : (place : ℕ) → Keeps (crashes_now place)
unfolding crashes_now
crashes_now_keeps place w = by_seat (slice_get w.seats place)
  where
    by_seat : (o : Option Seat) → KeepsCalls w.messages (elim o as (λ _. Done) [ Some s ↦ crashes place s.disk.reads w | None ↦ nothing w ]).world.messages
    by_seat (Some s) = crashes_keep place s.disk.reads w
    by_seat None = calls_stay w.messages

pub stops_keep : (place : ℕ) (stop : Stop) → Keeps (stops place stop)
unfolding stops
stops_keep place stop w = by_seat (slice_get w.seats place)
  where
    by_seat : (o : Option Seat)
        → KeepsCalls w.messages (elim o as (λ _. Done) [ Some s ↦ changes (with_disk place s.disk (Some stop) w) | None ↦ nothing w ]).world.messages
    by_seat (Some s) =
        calls_same w.messages (with_disk place s.disk (Some stop) w).messages
        (seat_messages place (λ (x : Seat). record x { disk = s.disk; stop = Some stop }) w)
    by_seat None = calls_stay w.messages

-- ---- time passes

happens_keep : (place : ℕ) (later : Node) (h : Happening) → Keeps (happens place later h)
happens_keep place later h w = requests_keep place h.words w

all_keep : (place : ℕ) (later : Node) (some : List Happening) → Keeps (happens_all place later some)
all_keep place later [] w = calls_stay w.messages
all_keep place later (h ∷ others) w =
    let v : World = (happens place later h w).world in
    calls_then w.messages v.messages (happens_all place later others v).world.messages (happens_keep place later h w) (all_keep place later others v)

ticked_keeps : (place : ℕ) (t : Ticked) → Keeps (ticked_at place t)
ticked_keeps place t w =
    let u : World = with_server place (OfNode (Some t.node)) w in
    let v : World = (happens_all place t.node t.happened u).world in
    calls_then w.messages u.messages (requests_all place t.words v).world.messages
    (calls_same w.messages u.messages (seat_messages place (λ (s : Seat). record s { server = OfNode (Some t.node) }) w))
    (calls_then u.messages v.messages (requests_all place t.words v).world.messages (all_keep place t.node t.happened u) (requests_keep place t.words v))

node_keeps : (place now : ℕ) (n : Node) → Keeps (ticks_node place now n)
unfolding ticks_node
node_keeps place now n w = ticked_keeps place (clock.ticks now n) w

to_keeps : (place now : ℕ) (o : Option Node) → Keeps (ticks_to place now o)
to_keeps place now (Some n) w =
    let v : World = with_clock place now w in
    calls_then w.messages v.messages (ticks_node place now n v).world.messages
    (calls_same w.messages v.messages (seat_messages place (λ (s : Seat). record s { clock = now }) w)) (node_keeps place now n v)
to_keeps place now None w =
    calls_same w.messages (with_clock place now w).messages (seat_messages place (λ (s : Seat). record s { clock = now }) w)

pub ticks_keep : (place seconds : ℕ) → Keeps (ticks place seconds)
unfolding ticks
ticks_keep place seconds w = by_seat (slice_get w.seats place)
  where
    by_seat : (o : Option Seat)
        → KeepsCalls w.messages (elim o as (λ _. Done) [
          | Some s ↦ ticks_to place (min (s.clock + seconds) last_moment) (node_in s.server) w
          | None ↦ nothing w
        ]).world.messages
    by_seat (Some s) = to_keeps place (min (s.clock + seconds) last_moment) (node_in s.server) w
    by_seat None = calls_stay w.messages
