-- What a crash leaves of an end, at any moment: what a load makes of the octets afterwards (our profile).
use Rattle.std.specs.Prelude.{◌≡◌, ◌⊎◌, ℕ, ◌+◌, List, Option}
use Rattle.ots_outside.specs.Disk.{DiskState, LeavesOnlySince, Tells}
use Rattle.decision_journal.specs.Journal.{Found, IsFresh, StandsFor, found_in, with_record}
use Rattle.decision_journal.specs.State.{JournalState, MayHave, cells_in}
use Rattle.decision_journal.specs.declared.record.JournalRecord.{JournalRecord}
use Rattle.resource_end.specs.End.{End}
use Rattle.resource_end.specs.Recall.{loaded, new_end, recalls}
use Rattle.resource_end.specs.Journaling.{EndState}

-- the end in its next life, where a load finds this: what isn't recorded is unknown
abbrev pub restarted : ℕ → Found → End
restarted service found = loaded service (record found { life = found.life + 1 })

-- octets stand for records, and a load of them makes this end
pub record Gives (service : ℕ) (octets : List ℕ) (e : End) : Type 0 where
  pub records : List JournalRecord
  pub stand : StandsFor service octets records
  pub end : e ≡ restarted service (found_in records)

-- a load of octets makes this end: octets that are not yet a journal tell of nothing
abbrev pub Makes : ℕ → List ℕ → End → Type 0
Makes service octets e = Gives service octets e ⊎ (IsFresh octets × (e ≡ new_end service 1))

-- what a journal knows would make this end, if it were loaded; where a record is in doubt, with it or without it
pub record MayBecome {D : Type 0} (journal : JournalState D) (e : End) : Type 0 where
  pub octets : List ℕ
  pub found : Found
  pub known : MayHave journal octets found
  pub end : e ≡ restarted journal.service found

-- a load of these octets makes what it might have made before a call, or what it might make behind it
abbrev pub IsBeforeOrAfter : {D : Type 0} → JournalState D → JournalState D → List ℕ → Type 0
IsBeforeOrAfter before after octets = (e : End) × (Gives before.service octets e × (MayBecome before e ⊎ MayBecome after e))

-- a crash at any moment from the start of a call to its end leaves such octets
abbrev pub IsCrashSafe : {D : Type 0} → (D → Option DiskState) → EndState D → EndState D → Type 0
IsCrashSafe told before after =
    Tells (told before.journal.disk) (told after.journal.disk) (LeavesOnlySince (IsBeforeOrAfter before.journal after.journal))

-- what a load would make once a record of cells stands: what it would have made before, and then what that record tells
abbrev pub RestartsTellOneMore : Type 0
RestartsTellOneMore = (service : ℕ) (found : Found) (place : ℕ) (item : JournalRecord) → cells_in item ≡ 1
    → restarted service (with_record found place item) ≡ recalls (record { place = place; item = item }) (restarted service found)
