-- The journal on a node's disk: which records its octets are, what an append does to the disk, and what is answered to it
-- (our profile).
use Rattle.std.specs.Prelude.{ℕ, zero, suc, ◌+◌, ◌==◌, ◌&&◌, Bool, nat_lt, nat_le, bytes_eq, List, [], ◌∷◌, ◌++◌, length, take, drop, Option, Some, None, if◌then◌else◌}
use Rattle.std.specs.Option.{option_map}
use Rattle.ots_model.specs.declared.completion.Stood.{Stood}
use Rattle.ots_model.specs.declared.completion.Stood.TheVariants as answers
use Rattle.ots_outside.specs.Disk.{DiskState}
use Rattle.decision_journal.specs.declared.record.JournalRecord.{JournalRecord}
use Rattle.decision_journal.specs.declared.record.JournalRecord.TheVariants.{Done}
use Rattle.decision_journal.specs.Layout.{record_octets}
use Rattle.decision_journal.specs.Journal.{Found, nothing_found, can_follow, with_record, first_gate, front, header, is_fresh}
use Rattle.decision_journal.specs.Laws.{behind_gate}
use Rattle.decision_journal.specs.Reading.{Reading, body_at}
use Rattle.decision_journal.specs.State.{need, used}
use Rattle.coordinator.specs.Step.{Wanted, Appends, WritesDone, Rereads}
use Rattle.nodes_world.specs.Limits.{area_limit}
use Rattle.nodes_world.specs.Disks.{Stroke, Writes, Syncs, Stop, Struck, Whole, Broken, strikes}

-- ---- the records of a disk

-- a record may stand at this place, behind those that leave what was found
abbrev pub may_stand : Found → ℕ → JournalRecord → Bool
may_stand found place r = can_follow found r && nat_lt (place + length (record_octets r)) area_limit

-- a record was read behind an open gate, and then come the next ones
abbrev pub records_with : (Found → ℕ → List ℕ → Option (List JournalRecord)) → Found → ℕ → JournalRecord → List ℕ → Option (List JournalRecord)
records_with next found place r behind =
    if may_stand found place r
    then option_map (λ (others : List JournalRecord). r ∷ others) (next (with_record found place r) (place + length (record_octets r)) behind)
    else None

abbrev pub records_behind : (Found → ℕ → List ℕ → Option (List JournalRecord)) → Found → ℕ → Reading JournalRecord → Option (List JournalRecord)
records_behind next found place (Some read) = records_with next found place read.0 read.1
records_behind next found place None = None

-- the records from a gate on, up to the first gate that isn't open, if there are fewer than so many
unfoldable pub records_from : ℕ → Found → ℕ → List ℕ → Option (List JournalRecord)
records_from zero found place octets = None
records_from (suc n) found place [] = None
records_from (suc n) found place (gate ∷ behind) =
    if gate == 1 then records_behind (records_from n) found place (body_at behind) else Some []

-- the records that octets stand for; those that are not yet a journal have none
unfoldable pub records_in : ℕ → List ℕ → Option (List JournalRecord)
records_in service octets =
    if is_fresh octets then Some []
    else if bytes_eq (take first_gate octets) (header service)
    then records_from (length octets) nothing_found first_gate (drop first_gate octets)
    else None

-- those that a disk reads
abbrev pub records_on : ℕ → DiskState → Option (List JournalRecord)
records_on service disk = records_in service disk.reads

-- the octets of a journal, up to the gate at its end
abbrev pub journal_octets : ℕ → List JournalRecord → List ℕ
journal_octets service rs = front service rs ++ 0 ∷ []

-- ---- an append

-- the octets behind the gate, a sync, the open gate, a sync
abbrev pub append_strokes : ℕ → JournalRecord → List Stroke
append_strokes gate r = Writes (gate + 1) (behind_gate r) ∷ Syncs ∷ Writes gate (1 ∷ []) ∷ Syncs ∷ []

-- what comes of asking a journal: what it answers, and the disk and the stop behind that; or a crash, which left these octets
pub data Asked : Type 0 where
  Answers : (stood : Option Stood) (disk : DiskState) (stop : Option Stop) → Asked
  Stops : (image : List ℕ) → Asked

abbrev pub answered_by : Stood → Struck → Asked
answered_by stood (Whole disk stop) = Answers (Some stood) disk stop
answered_by stood (Broken image) = Stops image

-- a decision is appended where there is room for it
abbrev pub appends : ℕ → JournalRecord → Found → List ℕ → DiskState → Option Stop → Asked
appends area r found octets disk stop =
    if nat_le (used octets found + need area found r) area
    then answered_by (answers.Stands (length octets)) (strikes (append_strokes (length octets) r) disk stop)
    else Answers (Some (answers.Full (used octets found) (need area found r))) disk stop

-- a Done has room; it is told with the place that it names
abbrev pub writes_done : ℕ → List ℕ → DiskState → Option Stop → Asked
writes_done place octets disk stop =
    answered_by (answers.Stands place) (strikes (append_strokes (length octets) (Done place)) disk stop)

-- a journal that has these octets before its gate is asked for something
abbrev pub asks_for : Wanted → Found → List ℕ → DiskState → Option Stop → Asked
asks_for (Appends item) found octets disk stop = appends area_limit item found octets disk stop
asks_for (WritesDone place) found octets disk stop = writes_done place octets disk stop
asks_for Rereads found octets disk stop = Answers None disk stop

-- it is asked for nothing, or its disk holds no journal
abbrev pub asks_by : Option Wanted → Option (List JournalRecord) → ℕ → Found → DiskState → Option Stop → Asked
asks_by (Some wanted) (Some rs) service found disk stop = asks_for wanted found (front service rs) disk stop
asks_by wanted rs service found disk stop = Answers None disk stop

-- the journal of a service is asked for what a call wants, where it has found this
unfoldable pub asks : Option Wanted → ℕ → Found → DiskState → Option Stop → Asked
asks wanted service found disk stop = asks_by wanted (records_on service disk) service found disk stop
