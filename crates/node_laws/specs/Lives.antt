-- That no life is used twice: a node that is loaded from what a crash of another one leaves is in a greater life (our profile).
use Rattle.std.specs.Prelude.{◌≡◌, ℕ, ◌+◌, ◌<◌, List, length, Option, IfSome}
use Rattle.ots_outside.specs.Disk.{DiskState, LeavesOnlySince}
use Rattle.decision_journal.specs.Journal.{Found, StandsFor, found_in, front, with_record}
use Rattle.decision_journal.specs.Laws.{CanAppend, IsSettled, appended, behind_gate}
use Rattle.decision_journal.specs.State.{MayFind}
use Rattle.decision_journal.specs.declared.record.JournalRecord.{JournalRecord}
use Rattle.coordinator.specs.Node.{Node, life, load, loaded_node}

-- a node that is loaded from these octets is in a greater life than this one
abbrev pub BeginsLater : Node → List ℕ → Type 0
BeginsLater n octets = (records : List JournalRecord) → StandsFor n.service octets records → life n < life (load n.service records)

-- a record in doubt begins no life
abbrev pub BeginsNoLife : Found → Option JournalRecord → Type 0
BeginsNoLife found doubted = IfSome doubted (λ r. (place : ℕ) → (with_record found place r).life ≡ found.life)

pub record LivesRiseOverCrashes : Type 0 where
  -- the records by which a node goes, as octets of a disk
  pub between : (n : Node) (records : List JournalRecord) (octets : List ℕ) → n.found ≡ found_in records → StandsFor n.service octets records
      → BeginsLater n octets
  -- what a crash leaves at any moment of the append of one more record
  pub inside : (n : Node) (records : List JournalRecord) (r : JournalRecord) (disk : DiskState) → n.found ≡ found_in records
      → IsSettled disk → StandsFor n.service disk.reads records → CanAppend n.service records r
      → LeavesOnlySince (BeginsLater n) disk (appended (length (front n.service records)) (behind_gate r) disk)
  -- what a journal may find, with the record in doubt or without it, once a call had failed; and a load of that
  pub doubtful : (n : Node) (known octets : List ℕ) (doubted : Option JournalRecord) (found : Found) → BeginsNoLife n.found doubted
      → MayFind known n.found doubted octets found → life n < life (loaded_node n.service (record found { life = found.life + 1 }))
