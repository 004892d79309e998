-- What a call of an end makes of its journal, and what the journal answers in it (our profile).
use Rattle.std.specs.Prelude.{◌≡◌, ◌⊎◌, ◌==◌, ℕ, Bool, true, false, length, Option, Some, None, IfSome, IsTrue, Result, Ok, Err}
use Rattle.std.specs.Result.{IsOk}
use Rattle.ior_refs.specs.declared.key.ObjectKey.{ObjectKey}
use Rattle.ots_outside.specs.Disk.{DiskState}
use Rattle.ots_outside.specs.Source.{HasRisen}
use Rattle.decision_journal.specs.declared.record.JournalRecord.{JournalRecord}
use Rattle.decision_journal.specs.Layout.{Fits}
use Rattle.decision_journal.specs.Journal.{Found, can_follow, with_record}
use Rattle.decision_journal.specs.State.{HasNoRoom, JournalState}
use Rattle.decision_journal.specs.Calls.{HasAppended, HasDoubt, IsReady, IsUnready}
use Rattle.resource_end.specs.declared.fault.EndFault.{EndFault}
use Rattle.resource_end.specs.declared.fault.EndFault.TheVariants as faults
use Rattle.resource_end.specs.End.{End}
use Rattle.resource_end.specs.Recall.{Reread, Stands, StandsNot, Unread, reread}
use Rattle.resource_end.specs.Limits.{synchronization_kind}
use Rattle.resource_end.specs.Calls.{Called, Journaled, Written, StandsAt, Unwritten, InDoubt, fresh, is_spent, unchanged}

-- an end, and its journal
pub record EndState (D : Type 0) : Type 0 where
  pub end : End
  pub journal : JournalState D

-- a fault of the disk: it failed, or what it read was refused, or it wanted memory
abbrev pub IsDiskFault : EndFault → Type 0
IsDiskFault (faults.Transient number) = ⊥
IsDiskFault faults.Inactive = ⊥
IsDiskFault faults.ObjectNotExist = ⊥
IsDiskFault faults.PersistStore = Unit {0}
IsDiskFault faults.NoResources = ⊥
IsDiskFault (faults.Start fault) = ⊥
IsDiskFault faults.Memory = Unit {0}

-- ---- reading the journal again

-- the record in doubt stands behind what was known
abbrev pub IsFoundAt : {D : Type 0} → JournalState D → JournalState D → ℕ → Type 0
IsFoundAt before after place =
    (place ≡ length before.octets) × IfSome before.doubted (λ r. after.found ≡ with_record before.found place r)

-- the journal was read again, and it came to this
abbrev pub IsReread : {D : Type 0} → (D → Option DiskState) → JournalState D → JournalState D → Reread → Type 0
IsReread told before after (Stands place) = IsReady told before after × IsFoundAt before after place
IsReread told before after StandsNot = IsReady told before after × (after.found ≡ before.found)
IsReread told before after (Unread fault) = IsUnready told before after × IsDiskFault fault

-- it is read again where a call has failed, and else stays as it is
abbrev pub IsRereadWhere : {D : Type 0} → Bool → (D → Option DiskState) → JournalState D → JournalState D → Reread → Type 0
IsRereadWhere true told before after found = IsReread told before after found
IsRereadWhere false told before after found = after ≡ before

-- ---- writing a record

-- the journal is as before: of the room that it keeps nothing is said
abbrev pub IsAsBefore : {D : Type 0} → JournalState D → JournalState D → Type 0
IsAsBefore before after = after ≡ record before { room = after.room }

-- why nothing was written: there was no memory, or no room in the area
abbrev pub IsUnwrittenBy : {D : Type 0} → (D → Option DiskState) → JournalState D → JournalState D → JournalRecord → EndFault → Type 0
IsUnwrittenBy told before after r fault =
    (IsAsBefore before after × (fault ≡ faults.Memory))
    ⊎ (IsReady told before after × (fault ≡ faults.NoResources)
    × ((u : ℕ) × (n : ℕ) × HasNoRoom after.area after.octets after.found r u n))

-- a record keeps the rules of a journal where this was found
pub record CanStand (found : Found) (r : JournalRecord) : Type 0 where
  pub fits : Fits r
  pub follows : IsTrue (can_follow found r)

-- writing the record came to this
abbrev pub IsWritten : {D : Type 0} → (D → Option DiskState) → JournalState D → JournalState D → JournalRecord → Written → Type 0
IsWritten told before after r (StandsAt place) = HasAppended told before r after place
IsWritten told before after r (Unwritten fault) = IsUnwrittenBy told before after r fault
IsWritten told before after r (InDoubt fault) = HasDoubt told before r after × IsDiskFault fault × CanStand before.found r

-- a record is written where there is one, and else the journal stays as it is
abbrev pub IsWrittenWhere : {D : Type 0} → Option JournalRecord → (D → Option DiskState) → JournalState D → JournalState D → Written → Type 0
IsWrittenWhere (Some r) told before after written = IsWritten told before after r written
IsWrittenWhere None told before after written = after ≡ before

-- ---- a call

-- an end becomes what the definition says, and answers so
pub record Comes {A D : Type 0} (after : EndState D) (said : Result A EndFault) (called : Called A) : Type 0 where
  pub end : after.end ≡ called.end
  pub answer : said ≡ called.answer

-- behind the reread the record that the end then wants is written; where the reread was refused none is
abbrev pub WritesBehind : {D : Type 0} → Result End EndFault → (End → Option JournalRecord) → (D → Option DiskState)
    → JournalState D → JournalState D → Written → Type 0
WritesBehind (Ok later) wanted told ready after written = IsWrittenWhere (wanted later) told ready after written
WritesBehind (Err fault) wanted told ready after written = after ≡ ready

-- the journal is read again where that is due, and the record that the end then wants is written
pub record Journals {D : Type 0} (told : D → Option DiskState) (before : End) (journal after : JournalState D)
    (wanted : End → Option JournalRecord) (j : Journaled) : Type 0 where
  pub ready : JournalState D
  pub read : IsRereadWhere journal.failed told journal ready j.reread
  pub wrote : WritesBehind (reread j.reread before) wanted told ready after j.written

-- a call is the definition's, with what the journal answered in it
pub record IsCalled {A D : Type 0} (told : D → Option DiskState) (before after : EndState D) (answer : Result A EndFault)
    (wanted : End → Option JournalRecord) (called : Journaled → End → Called A) : Type 0 where
  pub journaled : Journaled
  pub journal : Journals told before.end before.journal after.journal wanted journaled
  pub comes : Comes after answer (called journaled before.end)

-- what the last word or answer made of its resource is shown no more
abbrev pub afresh : {D : Type 0} → EndState D → EndState D
afresh before = record before { end = unchanged before.end }

-- nothing is wanted of the journal but a reread
abbrev pub nothing : End → Option JournalRecord
nothing e = None

-- the definition answers that it is done, but memory was wanted behind the reread, and nothing else happened
pub record IsStarved {A D : Type 0} (told : D → Option DiskState) (before after : EndState D) (said : Result A EndFault)
    (called : Journaled → End → Called A) : Type 0 where
  pub journaled : Journaled
  pub read : IsRereadWhere before.journal.failed told before.journal after.journal journaled.reread
  pub end : reread journaled.reread before.end ≡ Ok after.end
  pub granted : IsOk (called journaled before.end).answer
  pub answer : said ≡ Err faults.Memory

abbrev pub IsCalledOrStarved : {A D : Type 0} → (D → Option DiskState) → EndState D → EndState D → Result A EndFault
    → (Journaled → End → Called A) → Type 0
IsCalledOrStarved told before after answer called =
    IsCalled told before after answer nothing called ⊎ IsStarved told before after answer called

-- a call that doesn't touch the journal
pub record IsAlone {A D : Type 0} (before after : EndState D) (answer : Result A EndFault) (called : Called A) : Type 0 where
  pub journal : after.journal ≡ before.journal
  pub comes : Comes after answer called

-- one more resource could be made, but memory was wanted for it, and nothing happened
pub record IsUnmade {D : Type 0} (letter : ℕ) (before after : EndState D) (said : Result ObjectKey EndFault) : Type 0 where
  pub left : is_spent letter before.end ≡ false
  pub resource : (letter == synchronization_kind) ≡ false
  pub same : after ≡ before
  pub answer : said ≡ Err faults.Memory

abbrev pub IsMadeOrUnmade : {D : Type 0} → ℕ → EndState D → EndState D → Result ObjectKey EndFault → Type 0
IsMadeOrUnmade letter before after said = IsAlone before after said (fresh letter before.end) ⊎ IsUnmade letter before after said

-- Why a call is refused with a fault that isn't of the resource. PersistStore: the disk's count of faults rose, or the journal was
-- read again from a disk that tells nothing of itself. Memory: the disk may want some, or the call
-- itself wanted some, which leaves a journal that needs no rereading
abbrev pub IsCause : {D : Type 0} → Bool → (D → Option DiskState) → (D → ℕ) → JournalState D → JournalState D → EndFault → Type 0
IsCause wants told count before after (faults.Transient number) = Unit {0}
IsCause wants told count before after faults.Inactive = Unit {0}
IsCause wants told count before after faults.ObjectNotExist = Unit {0}
IsCause wants told count before after faults.PersistStore =
    HasRisen (count before.disk) (count after.disk) ⊎ ((before.failed ≡ true) × (told after.disk ≡ None))
IsCause wants told count before after faults.NoResources = Unit {0}
IsCause wants told count before after (faults.Start fault) = Unit {0}
IsCause wants told count before after faults.Memory = IsTrue wants ⊎ (after.failed ≡ false)
