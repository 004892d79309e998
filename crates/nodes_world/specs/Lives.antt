-- Nodes and ends are made, nodes go down and come up again, and their clocks go on (our profile).
use Rattle.std.specs.Prelude.{ℕ, ◌+◌, min, List, [], ◌∷◌, ◌++◌, length, slice_get, Option, Some, None, if◌then◌else◌}
use Rattle.std.specs.List.{flat_map}
use Rattle.ots_model.specs.declared.completion.Ground.TheVariants.{Record}
use Rattle.ots_model.specs.declared.completion.Outcome.TheVariants as outcomes
use Rattle.ots_model.specs.declared.line.Line.TheVariants as lines
use Rattle.ots_outside.specs.Disk.{DiskState, at_first}
use Rattle.decision_journal.specs.Loading.{loaded}
use Rattle.decision_journal.specs.declared.record.JournalRecord.{JournalRecord}
use Rattle.recovery_coord.specs.Held.{is_decided}
use Rattle.recovery_coord.specs.declared.held.Held.{Held}
use Rattle.coordinator.specs.Limits.{last_moment}
use Rattle.coordinator.specs.Node.{Node, life, load}
use Rattle.nodes_world.specs.declared.thing.Thing.TheVariants as things
use Rattle.nodes_world.specs.Limits.{only_life}
use Rattle.nodes_world.specs.Disks.{Stop}
use Rattle.nodes_world.specs.Journals.{journal_octets, records_on}
use Rattle.nodes_world.specs.Objects.{service_at}
use Rattle.nodes_world.specs.Told.{Told, Known, Journal}
use Rattle.nodes_world.specs.World.{World, Seat, FlatEnd, OfNode, OfEnd, Server, node_in, transaction_name, with_new_seat, with_server, with_disk, with_clock, with_name}
use Rattle.nodes_world.specs.Happenings.{Done, nothing, tells, changes, ◌▹◌, naming}
use Rattle.nodes_world.specs.Nodes.{crashes, key_of_record, ticks_node}

-- ---- a node comes up

-- each decision that stands is told
abbrev pub standing_lines : World → ℕ → Held → List Told
standing_lines w service r =
    if is_decided r.kind
    then naming (λ (name : List ℕ). Known (lines.Decide name (outcomes.Commit Record))) (transaction_name w (key_of_record service r))
    else []

abbrev pub up_lines : World → List ℕ → Node → List Told
up_lines w name n = Known (lines.Up name (life n)) ∷ flat_map (standing_lines w n.service) n.recovered

-- a node with what was loaded, and the disk as the load leaves it
abbrev pub comes_up : ℕ → List ℕ → Node → DiskState → World → Done
comes_up place name n disk w =
    changes (with_server place (OfNode (Some n)) (with_disk place disk None w)) ▹ (λ (v : World). tells (up_lines v name n) v)

-- what a disk holds is loaded. Each disk of a script holds a journal, or is not yet one.
abbrev pub loads : ℕ → Seat → Option (List JournalRecord) → World → Done
loads place s (Some rs) w = comes_up place s.name (load (service_at place) rs) (loaded (service_at place) rs s.disk) w
loads place s None w = nothing w

-- `restart N`
unfoldable pub restarts : ℕ → World → Done
restarts place w = elim (slice_get w.seats place) [
  | Some s ↦ loads place s (records_on (service_at place) s.disk) w
  | None ↦ nothing w
]

-- ---- a node or an end is made

-- a seat where nothing is up, with an empty disk; its clock stands at 0
abbrev pub new_seat : List ℕ → Server → Seat
new_seat name server = record { name = name; clock = 0; disk = at_first []; stop = None; server = server }

abbrev pub with_named_seat : List ℕ → Server → World → World
with_named_seat name server w = with_name name (things.Seat (length w.seats)) (with_new_seat (new_seat name server) w)

-- `node N`: its disk is loaded
unfoldable pub makes_node : List ℕ → World → Done
makes_node name w = changes (with_named_seat name (OfNode None) w) ▹ restarts (length w.seats)

-- an end without resources
abbrev pub new_end : FlatEnd
new_end = record { drawn = 0; resources = [] }

-- `end E`
unfoldable pub makes_end : List ℕ → World → Done
makes_end name w = record {
  world = with_named_seat name (OfEnd (Some new_end)) w;
  lines = Known (lines.Up name only_life) ∷ [];
}

-- ---- crashes, and the clock

-- `crash N` leaves what the disk reads
unfoldable pub crashes_now : ℕ → World → Done
crashes_now place w = elim (slice_get w.seats place) [ Some s ↦ crashes place s.disk.reads w | None ↦ nothing w ]

-- `stop N K I`, in place of a stop that was to come
unfoldable pub stops : ℕ → Stop → World → Done
stops place stop w = elim (slice_get w.seats place) [ Some s ↦ changes (with_disk place s.disk (Some stop) w) | None ↦ nothing w ]

-- `tick N S`
abbrev pub ticks_to : ℕ → ℕ → Option Node → World → Done
ticks_to place now (Some n) w = changes (with_clock place now w) ▹ ticks_node place now n
ticks_to place now None w = changes (with_clock place now w)

abbrev pub ticks_seat : ℕ → ℕ → Seat → World → Done
ticks_seat place seconds s w = ticks_to place (min (s.clock + seconds) last_moment) (node_in s.server) w

unfoldable pub ticks : ℕ → ℕ → World → Done
ticks place seconds w = elim (slice_get w.seats place) [ Some s ↦ ticks_seat place seconds s w | None ↦ nothing w ]

-- ---- the end of a script

-- the journal of a node: of one that is down, that of the image which its crash left
abbrev pub journal_line : List ℕ → ℕ → Option (List JournalRecord) → List Told
journal_line name service (Some rs) = Journal name (journal_octets service rs) ∷ []
journal_line name service None = []

abbrev pub journal_lines_of : ℕ → Seat → Server → List Told
journal_lines_of place s (OfNode up) = journal_line s.name (service_at place) (records_on (service_at place) s.disk)
journal_lines_of place s (OfEnd up) = []

-- those of the seats from a place on
unfoldable pub journal_lines_from : ℕ → List Seat → List Told
journal_lines_from place [] = []
journal_lines_from place (s ∷ others) = journal_lines_of place s s.server ++ journal_lines_from (place + 1) others

-- the lines that end a script's
abbrev pub last_lines : World → List Told
last_lines w = journal_lines_from 0 w.seats
