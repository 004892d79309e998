-- What of an end is on record: what a load of its journal makes of it (our profile).
use Rattle.std.specs.Prelude.{◌≡◌, ℕ, ◌<◌, ◌≤◌, ◌⊎◌, Bool, true, ◌||◌, if◌then◌else◌, List, [], ◌∷◌, length, Option, Some, None, IfSome, IsSome, is_some}
use Rattle.std.specs.List.{AllByRecursion, filter_map}
use Rattle.ots_outside.specs.Disk.{DiskState, LeavesOnlySince, Tells}
use Rattle.decision_journal.specs.Journal.{with_record}
use Rattle.decision_journal.specs.declared.journal.Standing.{Standing}
use Rattle.decision_journal.specs.declared.record.JournalRecord.{JournalRecord}
use Rattle.decision_journal.specs.declared.record.JournalRecord.TheVariants.{Life, Decision, Done, Prepared, CellsPrepared, CellsOutcome, CellsOnePhase}
use Rattle.resource_end.specs.declared.state.State.{State}
use Rattle.resource_end.specs.declared.state.State.TheVariants as states
use Rattle.resource_end.specs.Crashes.{IsCrashSafe, Makes, restarted}
use Rattle.resource_end.specs.End.{End, Resource, comes_before}
use Rattle.resource_end.specs.Inside.{IsRecorded}
use Rattle.resource_end.specs.Journaling.{EndState}
use Rattle.resource_end.specs.Recall.{recalls}
use Rattle.resource_end.specs.States.{is_prepared, is_stored}

-- a resource is on record: its record has a place, or its puts are stored
abbrev pub is_recorded : Resource → Bool
is_recorded r = is_some r.record_place || is_stored r.state

-- it as its records tell it: without the letter of its key, and with its recovery coordinator while it waits for the outcome
abbrev pub as_recorded : Resource → Resource
as_recorded r = record r {
  kind = None;
  recovery = if is_prepared r.state then r.recovery else [];
}

abbrev pub recorded_of : Resource → Option Resource
recorded_of r = if is_recorded r then Some (as_recorded r) else None

-- those of some resources that are on record
abbrev pub on_record : List Resource → List Resource
on_record resources = filter_map recorded_of resources

-- A load made just this of an end: its resources that are on record, and its cells. They are all of lives before the one that
-- the load began
pub record IsLoadOf (before after : End) : Type 0 where
  pub resources : after.resources ≡ on_record before.resources
  pub cells : after.cells ≡ before.cells
  pub earlier : AllByRecursion (λ r. r.life < after.life) after.resources

-- ---- what goes with it

-- each comes before those behind it
abbrev pub AreSorted : List Resource → Type 0
AreSorted [] = Unit {0}
AreSorted (r ∷ rs) = AllByRecursion (λ s. comes_before r s ≡ true) rs × AreSorted rs

-- a number of an earlier life, or one that was drawn in this one
abbrev pub IsDrawn : ℕ → ℕ → ℕ → ℕ → Type 0
IsDrawn now drawn life number = (life < now) ⊎ ((life ≡ now) × (number ≤ drawn))

abbrev pub HasDrawn : ℕ → ℕ → Resource → Type 0
HasDrawn now drawn r = IsDrawn now drawn r.life r.number

-- a record of cells is of such a number
abbrev pub IsOfDrawn : ℕ → ℕ → JournalRecord → Type 0
IsOfDrawn now drawn (Life life) = ⊥
IsOfDrawn now drawn (Decision life slot generation key asked regs) = ⊥
IsOfDrawn now drawn (Done done) = ⊥
IsOfDrawn now drawn (Prepared life slot generation recovery regs) = ⊥
IsOfDrawn now drawn (CellsPrepared life number recovery puts) = IsDrawn now drawn life number
IsOfDrawn now drawn (CellsOutcome done how) = Unit {0}
IsOfDrawn now drawn (CellsOnePhase life number puts) = IsDrawn now drawn life number

-- one that waits or chose has the place of its record; one that comes before has none
abbrev pub MayHavePlace : State → Option ℕ → Type 0
MayHavePlace states.Fresh place = place ≡ None
MayHavePlace states.Working place = place ≡ None
MayHavePlace states.Refused place = place ≡ None
MayHavePlace states.Prepared place = IsSome place
MayHavePlace states.Applied place = Unit {0}
MayHavePlace states.Undone place = Unit {0}
MayHavePlace states.ChoseCommit place = IsSome place
MayHavePlace states.ChoseRollback place = IsSome place
MayHavePlace states.Forgotten place = Unit {0}

-- resources are in order, have the places of their records or none, and those stand, at places below this one
pub record AreInPlace (standing : List Standing) (place : ℕ) (resources : List Resource) : Type 0 where
  pub sorted : AreSorted resources
  pub places : AllByRecursion (λ r. MayHavePlace r.state r.record_place) resources
  pub records : AllByRecursion (λ r. IsRecorded standing (r.life, r.number) r) resources
  pub below : AllByRecursion (λ s. s.place < place) standing

-- ---- an end and its journal

-- A load of what the journal knows makes of an end just what is on record of it; and where a record is in doubt, a load of what
-- is known and of that record makes just that of the end once it is as the record tells
pub record IsOnRecord {D : Type 0} (s : EndState D) : Type 0 where
  pub known : IsLoadOf s.end (restarted s.journal.service s.journal.found)
  pub doubted : IfSome s.journal.doubted (λ item. IsLoadOf
      (recalls (record { place = length s.journal.octets; item = item }) s.end)
      (restarted s.journal.service (with_record s.journal.found (length s.journal.octets) item)))
  pub doubts : s.end.doubted ≡ s.journal.doubted
  pub failed : s.journal.failed ≡ is_some s.journal.doubted
  pub life : s.end.life ≡ s.journal.found.life
  pub in_place : AreInPlace s.journal.found.standing (length s.journal.octets) s.end.resources
  pub drawn : AllByRecursion (HasDrawn s.end.life s.end.drawn) s.end.resources
  pub of_drawn : IfSome s.journal.doubted (IsOfDrawn s.end.life s.end.drawn)

-- no resource is of the present life, or of one to come
abbrev pub AreOfEarlierLives : End → Type 0
AreOfEarlierLives e = AllByRecursion (λ r. r.life < e.life) e.resources

-- ---- what a crash leaves

-- a load made just what is on record of an end, as it stands or as its record in doubt tells
abbrev pub IsLoadOfEither : {D : Type 0} → EndState D → End → Type 0
IsLoadOfEither s e =
    IsLoadOf s.end e
    ⊎ ((item : JournalRecord) × ((s.journal.doubted ≡ Some item)
    × IsLoadOf (recalls (record { place = length s.journal.octets; item = item }) s.end) e))

-- each end that a load makes of these octets is just what is on record of one end or of another
abbrev pub MakesOneOf : {D : Type 0} → EndState D → EndState D → List ℕ → Type 0
MakesOneOf before after octets = (e : End) → Makes before.journal.service octets e → IsLoadOfEither before e ⊎ IsLoadOfEither after e

-- whatever a crash leaves at any moment of a call, a load of it makes just what was on record before the call, or is behind it
abbrev pub CrashesLeaveRecords : {D : Type 0} → (D → Option DiskState) → Type 0
CrashesLeaveRecords {D} told = (before after : EndState D) → IsCrashSafe told before after → IsOnRecord before → IsOnRecord after
    → Tells (told before.journal.disk) (told after.journal.disk) (LeavesOnlySince (MakesOneOf before after))
