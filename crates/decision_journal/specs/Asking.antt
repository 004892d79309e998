-- Which calls a journal asks of its disk, in order (our profile).
use Rattle.std.specs.Prelude.{◌≡◌, ℕ, ◌+◌, ◌-◌, ◌<◌, ◌⊎◌, Bool, true, false, List, [], ◌∷◌, ◌++◌, length, min, Option, IfSome, if◌then◌else◌}
use Rattle.ots_outside.specs.Disk.{DiskState}
use Rattle.ots_outside.specs.Asked.{DiskCall, AskLength, AskRead, AskSync, AskWrite, IsAsked}
use Rattle.decision_journal.specs.declared.record.JournalRecord.{JournalRecord}
use Rattle.decision_journal.specs.declared.record.JournalRecord.TheVariants.{Done}
use Rattle.decision_journal.specs.Journal.{Holds, first_letter, front, is_decision_at, is_fresh}
use Rattle.decision_journal.specs.Calls.{IsReady}
use Rattle.decision_journal.specs.Loading.{next_life}
use Rattle.decision_journal.specs.State.{JournalState}
use Rattle.std.specs.List.{list_any}
use Rattle.decision_journal.specs.Laws.{behind_gate, behind_letter, is_letter_due}
use Rattle.decision_journal.specs.Limits.{piece_length}

-- reads of the octets from a place to this end, in order: 65,536 at a time, and the last of the rest, where there is any
abbrev pub AreReads : ℕ → ℕ → List DiskCall → Type 0
AreReads place end [] = place ≡ end
AreReads place end (call ∷ calls) =
    let count = min piece_length (end - place) in
    (place < end) × (call ≡ AskRead place count) × AreReads (place + count) end calls

-- the calls by which so many octets are read again: a sync, the length, and the reads
abbrev pub IsReread : ℕ → List DiskCall → Type 0
IsReread size calls = (reads : List DiskCall) × AreReads 0 size reads × (calls ≡ AskSync ∷ AskLength ∷ reads)

-- the calls that write octets from a place on, and make them outlast a crash
abbrev pub write_calls : ℕ → List ℕ → List DiskCall
write_calls place octets = AskWrite place octets ∷ AskSync ∷ []

-- the calls of an append of octets behind the gate at this place: these, a sync, the open gate, a sync
abbrev pub append_calls : ℕ → List ℕ → List DiskCall
append_calls gate behind = write_calls (gate + 1) behind ++ write_calls gate (1 ∷ [])

-- the calls that take the first letter away, where that is due
abbrev pub clear_calls : Bool → List DiskCall
clear_calls true = write_calls 0 (0 ∷ [])
clear_calls false = []

-- the calls that make a disk a journal without records
abbrev pub create_calls : ℕ → Bool → List DiskCall
create_calls service due = clear_calls due ++ (write_calls 1 (behind_letter service) ++ write_calls 0 (first_letter ∷ []))

-- the same where the octets that were read are not yet a journal, and else none
abbrev pub start_calls : ℕ → List ℕ → List DiskCall
start_calls service octets = if is_fresh octets then create_calls service (is_letter_due octets) else []

-- the calls by which a journal appends a record
abbrev pub record_calls : {D : Type 0} → JournalRecord → JournalState D → List DiskCall
record_calls r journal = append_calls (length journal.octets) (behind_gate r)

-- the calls by which it appends a Done of the record at this place, where one stands; else there are none
abbrev pub done_calls : {D : Type 0} → ℕ → JournalState D → List DiskCall
done_calls place journal = if list_any (is_decision_at place) journal.found.standing then record_calls (Done place) journal else []

-- no calls
abbrev pub no_calls : {D : Type 0} → JournalState D → List DiskCall
no_calls journal = []

module _ {D : Type 0} (asked : D → DiskCall → Bool → D → Type 0) where
  -- a disk was asked to read so many octets: these calls, all of them answered Ok, or the first of them
  abbrev pub AsksReads : ℕ → Bool → D → D → Type 0
  AsksReads size answered before after = (calls : List DiskCall) × AreReads 0 size calls × IsAsked asked answered calls before after

  -- a disk was asked to read all of its octets again
  abbrev pub AsksReread : (D → Option DiskState) → Bool → D → D → Type 0
  AsksReread told answered before after =
      (size : ℕ) × IfSome (told before) (λ s. size ≡ length s.reads)
      × ((calls : List DiskCall) × IsReread size calls × IsAsked asked answered calls before after)

  -- a disk was asked to read all of its octets again where a call had failed, and nothing else
  abbrev pub AsksReady : (D → Option DiskState) → Bool → D → D → Type 0
  AsksReady told true before after = AsksReread told true before after
  AsksReady told false before after = after ≡ before

  -- behind that a disk was asked these calls, all of them or the first
  abbrev pub AsksBehind : (D → Option DiskState) → Bool → List DiskCall → Bool → D → D → Type 0
  AsksBehind told failed calls answered before after =
      (between : D) × AsksReady told failed before between × IsAsked asked answered calls between after

  -- behind that a disk was asked the calls that its journal wants, once it has what the disk holds: all of them, or the first
  abbrev pub AsksThen : (D → Option DiskState) → (JournalState D → List DiskCall) → Bool → JournalState D → D → Type 0
  AsksThen told calls answered before after =
      (ready : JournalState D) × IsReady told before ready × AsksReady told before.failed before.disk ready.disk × IsAsked asked answered (calls ready) ready.disk after

  -- where a disk tells its state: the first calls of reading it again were asked, where a call had failed, or all of those and
  -- then the first of the calls that its journal wants
  abbrev pub AsksSome : (D → Option DiskState) → (JournalState D → List DiskCall) → JournalState D → D → Type 0
  AsksSome told calls before after = IfSome (told before.disk)
      (λ _. ((before.failed ≡ true) × AsksReread told false before.disk after) ⊎ AsksThen told calls false before after)

  -- a disk was read again, and asked to be made a journal where it was none
  abbrev pub AsksStart : (D → Option DiskState) → ℕ → Bool → D → D → Type 0
  AsksStart told service answered before after =
      (octets : List ℕ) × IfSome (told before) (λ s. octets ≡ s.reads)
      × ((between : D) × AsksReread told true before between × IsAsked asked answered (start_calls service octets) between after)

  -- the first calls of that
  abbrev pub AsksStartSome : (D → Option DiskState) → ℕ → D → D → Type 0
  AsksStartSome told service before after = AsksReread told false before after ⊎ AsksStart told service false before after

  -- all of that, and then an append of the next life behind the records that the disk read
  abbrev pub AsksLoad : (D → Option DiskState) → ℕ → Bool → D → D → Type 0
  AsksLoad told service answered before after =
      (between : D) × AsksStart told service true before between
      × ((rs : List JournalRecord) × IfSome (told before) (λ s. Holds service s.reads rs)
      × IsAsked asked answered (append_calls (length (front service rs)) (behind_gate (next_life rs))) between after)

  -- where a disk tells its state: the first calls of a load
  abbrev pub AsksLoadSome : (D → Option DiskState) → ℕ → D → D → Type 0
  AsksLoadSome told service before after =
      IfSome (told before) (λ _. AsksStartSome told service before after ⊎ AsksLoad told service false before after)
