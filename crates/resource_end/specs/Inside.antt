-- How an end keeps its resources and cells: both by their keys, so that one is found by halving. Of all this the contracts of an
-- end speak not at all.
use Rattle.std.specs.Prelude.{◌≡◌, ℕ, ◌-◌, ◌<◌, ◌≤◌, ◌⊎◌, ◌==◌, Bool, true, false, not, ◌&&◌, ◌||◌, if◌then◌else◌, List, [], ◌∷◌, map, filter, find, length, slice_index_or, Option, Some, None, IfSome, IsSome, is_some, Result, Ok, Err}
use Rattle.std.specs.BTreeMap.{is_at}
use Rattle.std.specs.List.{filter_map, slice_get}
use Rattle.std.specs.Map.{lookup}
use Rattle.std.specs.Option.{option_and_then, option_map}
use Rattle.std.specs.declared.cmp.Ordering.{Ordering}
use Rattle.std.specs.Ordering.{nat_cmp, ordering_then}
use Rattle.ior_refs.specs.declared.key.ObjectKey.{ObjectKey}
use Rattle.ots_model.specs.declared.tree.Outward.{Outward}
use Rattle.decision_journal.specs.Layout.{Fits}
use Rattle.decision_journal.specs.declared.journal.Standing.{Standing}
use Rattle.decision_journal.specs.declared.record.JournalRecord.{JournalRecord}
use Rattle.decision_journal.specs.declared.record.JournalRecord.TheVariants.{Life, Decision, Done, Prepared, CellsPrepared, CellsOutcome, CellsOnePhase}
use Rattle.decision_journal.specs.declared.record.Put.{Put}
use Rattle.resource_end.specs.declared.cells.Cell.{Cell}
use Rattle.resource_end.specs.declared.kept.Kept.{Kept}
use Rattle.resource_end.specs.declared.state.State.{State}
use Rattle.resource_end.specs.declared.state.State.TheVariants.{Fresh, Working}
use Rattle.resource_end.specs.States.{holds, is_prepared, is_unfinished, stores}
use Rattle.resource_end.specs.Cells.{value_at, with_puts}
use Rattle.resource_end.specs.End.{End, Resource, is_named, is_numbered, kept, moved, named, record_for, with_place}
use Rattle.resource_end.specs.Recall.{Reread, is_recorded_at, recalls, reread}
use Rattle.ots_outside.specs.Disk.{DiskState}
use Rattle.decision_journal.specs.State.{IsKept, JournalState, StaysWithinArea}
use Rattle.resource_end.specs.declared.fault.EndFault.{EndFault}
use Rattle.resource_end.specs.declared.fault.EndFault.TheVariants as faults
use Rattle.resource_end.specs.Calls.{Called, Written, StandsAt, Unwritten, InDoubt, ask_of, changing, done, is_open, refused}
use Rattle.resource_end.specs.Journaling.{Comes, EndState, IsRereadWhere, IsWrittenWhere}

-- ---- resources, by life and then by number

abbrev pub Id : Type 0
Id = ℕ × ℕ

abbrev pub id_cmp : Id → Id → Ordering
id_cmp a b = ordering_then (nat_cmp a.0 b.0) (nat_cmp a.1 b.1)

-- the resource that is kept under this life and number
abbrev pub resource_at : Id → Kept → Resource
resource_at id kept = record {
  life = id.0;
  number = id.1;
  kind = kept.kind;
  state = kept.state;
  recovery = kept.recovery;
  puts = kept.puts;
  record_place = kept.record_place;
}

abbrev pub resources_of : List (Id × Kept) → List Resource
resources_of entries = map (λ e. resource_at e.0 e.1) entries

-- the keys of the entries whose value passes a test
abbrev pub keys_passing : {K X : Type 0} → (X → Bool) → List (K × X) → List K
keys_passing test [] = []
keys_passing test (e ∷ es) = if test e.1 then e.0 ∷ keys_passing test es else keys_passing test es

-- the numbers of those that are unfinished
abbrev pub unfinished_ids : List (Id × Kept) → List Id
unfinished_ids entries = keys_passing (λ kept. is_unfinished kept.state) entries

-- the resource of this life and number
abbrev pub numbered : Id → List Resource → Option Resource
numbered id resources = find (is_numbered id.0 id.1) resources

abbrev pub without : Id → List Resource → List Resource
without id resources = filter (λ r. not (is_numbered id.0 id.1 r)) resources

-- of these resources none but that of this life and number passes a test
abbrev pub PassesAlone : (Resource → Bool) → Id → List Resource → Type 0
PassesAlone test id resources = (other : Id) → IfSome (numbered other resources) (λ r. test r ≡ true → other ≡ id)

-- it holds the cell
abbrev pub holds_cell : ℕ → Resource → Bool
holds_cell cell r = holds r.state && is_some (value_at cell r.puts)

-- it, where it passes
abbrev pub if_passes : (Resource → Bool) → Option Resource → Option Resource
if_passes test None = None
if_passes test (Some r) = if test r then Some r else None

-- none but this one holds the cell
abbrev pub HoldsAlone : ℕ → Option Id → List Resource → Type 0
HoldsAlone cell holder resources = (id : Id) → IfSome (numbered id resources) (λ r. holds_cell cell r ≡ true → holder ≡ Some id)

-- the record of none but this one stands at the place
abbrev pub RecordedAlone : ℕ → Option Id → List Resource → Type 0
RecordedAlone place own resources = (id : Id) → IfSome (numbered id resources) (λ r. is_recorded_at place r ≡ true → own ≡ Some id)

-- one was found, and it has this number; or there is none
abbrev pub IsFoundAs : Option Resource → List Resource → Option Id → Type 0
IsFoundAs found resources None = found ≡ None
IsFoundAs found resources (Some id) = (found ≡ numbered id resources) × IsSome found

-- it is another one, and holds the cell
abbrev pub is_other_holder : Id → ℕ → Resource → Bool
is_other_holder id cell r = not (is_numbered id.0 id.1 r) && holds r.state && is_some (value_at cell r.puts)

-- with the place of its record, where one was written
abbrev pub placed : State → Option ℕ → Resource → Resource
placed s (Some place) r = with_place s place r
placed s None r = r

-- a new one
abbrev pub fresh_one : Id → ℕ → Resource
fresh_one id letter = record {
  life = id.0;
  number = id.1;
  kind = Some letter;
  state = Fresh;
  recovery = [];
  puts = [];
  record_place = None;
}

-- its own put of a cell, which it sees
abbrev pub own : ℕ → Resource → Option ℕ
own cell r = if holds r.state then value_at cell r.puts else None

-- the asks of those that wait for an outcome
abbrev pub asks_of : List Resource → List Outward
asks_of resources = map ask_of (filter (λ r. is_prepared r.state) resources)

-- that of one, where it is there and waits
abbrev pub asks_by : Option Resource → List Outward
asks_by (Some r) = asks_of (r ∷ [])
asks_by None = []

-- the puts that a change stores
abbrev pub puts_stored : State → Resource → List Put
puts_stored s r = if stores r.state s then r.puts else []

-- ---- cells

-- what is stored in a cell, where anything is
abbrev pub stored_of : ℕ × Cell → Option Put
stored_of e = option_map (λ v. record { cell = e.0; value = v }) e.1.stored

abbrev pub stored_cells : List (ℕ × Cell) → List Put
stored_cells entries = filter_map stored_of entries

-- which resource put a cell last, where the cell is known
abbrev pub holder_in : ℕ → List (ℕ × Cell) → Option (Option Id)
holder_in cell entries = option_map (λ c. c.holder) (lookup (is_at (nat_cmp cell)) entries)

-- the same cells are known, and each was put last by whom it was
abbrev pub HoldersStay : List (ℕ × Cell) → List (ℕ × Cell) → Type 0
HoldersStay before after = (cell : ℕ) → holder_in cell after ≡ holder_in cell before

-- each other cell was put last by whom it was
abbrev pub OthersStay : ℕ → List (ℕ × Cell) → List (ℕ × Cell) → Type 0
OthersStay cell before after = (other : ℕ) → (other ≡ cell → ⊥) → holder_in other after ≡ holder_in other before

-- ---- puts

-- the first put whose cell isn't below this one stands at this index
pub record IsGap (cell index : ℕ) (puts : List Put) : Type 0 where
  pub within : index ≤ length puts
  pub below : (k : ℕ) (d : Put) → k < index → (slice_index_or puts k d).cell < cell
  pub at : (d : Put) → index < length puts → cell ≤ (slice_index_or puts index d).cell

-- two numbers are one
abbrev pub is_same : Id → Id → Bool
is_same one other = one.0 == other.0 && one.1 == other.1

-- that was another resource than this one
abbrev pub is_another : Option Id → Id → Bool
is_another (Some other) id = not (is_same other id)
is_another None id = false

-- what the puts of a resource say, each cell is known, and was put last by that resource, where no two hold one cell
abbrev pub IsHeldBy : Bool → Id → Option (Option Id) → Type 0
IsHeldBy contested id None = ⊥
IsHeldBy true id (Some holder) = Unit {0}
IsHeldBy false id (Some holder) = holder ≡ Some id

-- who held a cell holds it still, where nobody else came to hold it
abbrev pub Keeps : Bool → List (ℕ × Cell) → List (ℕ × Cell) → Type 0
Keeps contested before after =
    (id : Id) (cell : ℕ) (was : Bool) → IsHeldBy was id (holder_in cell before) → IsHeldBy (contested || was) id (holder_in cell after)

-- each cell that a resource holds is held by it
abbrev pub HoldsItsCells : Bool → List (ℕ × Cell) → Id → Resource → Type 0
HoldsItsCells contested cells id r = (cell : ℕ) → holds_cell cell r ≡ true → IsHeldBy contested id (holder_in cell cells)

abbrev pub AreHeld : Bool → List (ℕ × Cell) → List Resource → Type 0
AreHeld contested cells resources = (id : Id) → IfSome (numbered id resources) (HoldsItsCells contested cells id)

-- a change leaves no puts that weren't its own before, and makes none unfinished that was over
pub record MayFollow (next before : State) : Type 0 where
  pub holding : holds next ≡ true → holds before ≡ true
  pub unfinished : is_unfinished next ≡ true → is_unfinished before ≡ true

-- there is one, and this holds of it
abbrev pub IsSomeSo : Option Resource → (Resource → Type 0) → Type 0
IsSomeSo (Some r) P = P r
IsSomeSo None P = ⊥

-- it holds what it put, or has put nothing
abbrev pub HasOwnPuts : Resource → Type 0
HasOwnPuts r = (holds r.state ≡ true) ⊎ (r.puts ≡ [])

-- ---- both

-- the resources of an end, and the cells that are stored
pub record ContentsState : Type 0 where
  pub resources : List Resource
  pub cells : List Put

abbrev pub contents_of : List Resource → List (ℕ × Cell) → ContentsState
contents_of resources cells = record { resources = resources; cells = stored_cells cells }

abbrev pub no_contents : ContentsState
no_contents = record { resources = []; cells = [] }

-- an end with other contents
abbrev pub with_contents : ContentsState → End → End
with_contents c e = record e { resources = c.resources; cells = c.cells }

-- a resource is in another state
abbrev pub changed : State → Resource → ContentsState → ContentsState
changed s r c = record {
  resources = kept (moved s r) c.resources;
  cells = if stores r.state s then with_puts r.puts c.cells else c.cells;
}

-- what becomes of the resource that ended, where there is one
abbrev pub ended : State → Option Resource → ContentsState → ContentsState
ended s (Some r) c = changed s r c
ended s None c = c

-- ---- records

-- the resource that a record prepared
abbrev pub prepared_id : JournalRecord → Option Id
prepared_id (Life life) = None
prepared_id (Decision life slot generation key asked regs) = None
prepared_id (Done done) = None
prepared_id (Prepared life slot generation recovery regs) = None
prepared_id (CellsPrepared life number recovery puts) = Some (life, number)
prepared_id (CellsOutcome done how) = None
prepared_id (CellsOnePhase life number puts) = None

abbrev pub prepared_at : ℕ → List Standing → Option Id
prepared_at place standing = option_and_then (λ s. prepared_id s.item) (find (λ s. s.place == place) standing)

-- each resource with a record has it among those that stand
abbrev pub IsRecorded : List Standing → Id → Resource → Type 0
IsRecorded standing id r = IfSome r.record_place (λ place. prepared_at place standing ≡ Some id)

abbrev pub AreRecorded : List Standing → List Resource → Type 0
AreRecorded standing resources = (id : Id) → IfSome (numbered id resources) (IsRecorded standing id)

-- a resource that a test can tell from each other one is found by its number
abbrev pub AreApart : List Resource → Type 0
AreApart resources = (test : Resource → Bool) (id : Id) → PassesAlone test id resources → find test resources ≡ if_passes test (numbered id resources)

-- a key of this service names the resource, which is found by its number and stands so
pub record IsNamed (service : ℕ) (key : ObjectKey) (resources : List Resource) (state : State) (r : Resource) : Type 0 where
  pub named : find (is_named service key) resources ≡ Some r
  pub numbered : numbered (key.life, key.generation) resources ≡ Some r
  pub stands : r.state ≡ state

-- so the resource stands that a key names, where it names one
abbrev pub StandsSo : ℕ → ObjectKey → List Resource → Option State → Type 0
StandsSo service key resources None = find (is_named service key) resources ≡ None
StandsSo service key resources (Some state) = (r : Resource) × IsNamed service key resources state r

-- what a resource would write when it prepares fits a record, and its number was drawn
pub record CanPrepare (drawn : ℕ) (r : Resource) : Type 0 where
  pub fits : Fits (CellsPrepared r.life r.number r.recovery r.puts)
  pub number : r.number ≤ drawn

-- this holds of one that can put; one that has put nothing has no puts
abbrev pub IsWritable : ℕ → State → Resource → Type 0
IsWritable drawn Fresh r = CanPrepare drawn r × (r.puts ≡ [])
IsWritable drawn Working r = CanPrepare drawn r
IsWritable drawn _ r = Unit {0}

abbrev pub AreWritable : ℕ → List Resource → Type 0
AreWritable drawn resources = (id : Id) → IfSome (numbered id resources) (λ r. IsWritable drawn r.state r)

-- ---- recalling a record without memory

-- the last one
abbrev pub last_of : List Standing → Option Standing
last_of standing = slice_get standing (length standing - 1)

-- it has put something, and no record of it stands
pub record IsUnrecorded (r : Resource) : Type 0 where
  pub works : r.state ≡ Working
  pub unrecorded : r.record_place ≡ None

-- it has the recovery coordinator and the place of a record
abbrev pub with_record_of : List ℕ → ℕ → Resource → Resource
with_record_of recovery place r = record r { recovery = recovery; record_place = Some place }

-- there is a resource that has put just this, and no record of it stands
pub record IsUnrecordedWith (puts : List Put) (r : Resource) : Type 0 where
  pub unrecorded : IsUnrecorded r
  pub puts_are : r.puts ≡ puts

abbrev pub HasUnrecorded : Id → List Put → List Resource → Type 0
HasUnrecorded id puts resources = IsSomeSo (numbered id resources) (IsUnrecordedWith puts)

-- what a record of cells tells can be done without memory: the resource that wrote it is as it was, and the recovery
-- coordinator that it names is at hand
abbrev pub IsRecallable : JournalRecord → List ℕ → List Resource → Type 0
IsRecallable (Life life) recovery resources = ⊥
IsRecallable (Decision life slot generation key asked regs) recovery resources = ⊥
IsRecallable (Done done) recovery resources = ⊥
IsRecallable (Prepared life slot generation superior regs) recovery resources = ⊥
IsRecallable (CellsPrepared life number said puts) recovery resources = (recovery ≡ said) × HasUnrecorded (life, number) puts resources
IsRecallable (CellsOutcome done how) recovery resources = Unit {0}
IsRecallable (CellsOnePhase life number puts) recovery resources = HasUnrecorded (life, number) puts resources

-- resources and cells became what a record tells, whatever else an end has
abbrev pub IsToldBy : Standing → ContentsState → ContentsState → Type 0
IsToldBy s before after = (e : End) → recalls s (with_contents before e) ≡ with_contents after e

-- what each that can put would write still fits a record
abbrev pub StayWritable : List Resource → List Resource → Type 0
StayWritable before after = (drawn : ℕ) → AreWritable drawn before → AreWritable drawn after

-- ---- an end

-- a key names a resource that can put, and it is found by its number
pub record IsOpen (key : ObjectKey) (e : End) : Type 0 where
  pub resource : Resource
  pub is_named : named key e ≡ Some resource
  pub is_numbered : numbered (key.life, key.generation) e.resources ≡ Some resource
  pub can_put : is_open resource.state ≡ true

-- a key names none, or one that can't put
abbrev pub IsNotOpen : ObjectKey → End → EndFault → Type 0
IsNotOpen key e fault =
    ((fault ≡ faults.ObjectNotExist) × (named key e ≡ None))
    ⊎ ((fault ≡ faults.Inactive) × ((r : Resource) × (named key e ≡ Some r) × (is_open r.state ≡ false)))

-- What holds of an end: the records of its resources stand, what those that can put would write fits a record, and where a
-- record is in doubt, it can be recalled with the recovery coordinator that is at hand
pub record IsWhole {D : Type 0} (journal : JournalState D) (drawn : ℕ) (recovery : List ℕ) (resources : List Resource) : Type 0 where
  pub recorded : AreRecorded journal.found.standing resources
  pub writable : AreWritable drawn resources
  pub recallable : IfSome journal.doubted (λ item. IsRecallable item recovery resources)
  pub failed : journal.failed ≡ is_some journal.doubted

-- What an end knows of its disk: what its journal may find keeps the rules, and a crash leaves no more; a record is in doubt
-- where a call has failed
pub record IsKeptWhole {D : Type 0} (told : D → Option DiskState) (e : EndState D) : Type 0 where
  pub kept : IsKept e.journal.failed e.journal.octets e.journal.doubted (told e.journal.disk)
  pub each : StaysWithinArea e.journal
  pub failed : e.journal.failed ≡ is_some e.journal.doubted
  pub doubted : e.end.doubted ≡ e.journal.doubted

-- a change may come out of a call on it, and makes nothing that can put
pub record CanMove (before after : State) : Type 0 where
  pub closed : is_open after ≡ false
  pub follows : MayFollow after before

-- the recovery coordinator that a record of cells names, where it names one
abbrev pub named_by : JournalRecord → List ℕ
named_by (Life life) = []
named_by (Decision life slot generation key asked regs) = []
named_by (Done done) = []
named_by (Prepared life slot generation superior regs) = []
named_by (CellsPrepared life number recovery puts) = recovery
named_by (CellsOutcome done how) = []
named_by (CellsOnePhase life number puts) = []

-- a record that was written tells what becomes of its resource
abbrev pub told_by_record : Written → JournalRecord → End → Called (Unit {0})
told_by_record (StandsAt place) item e = done (recalls (record { place = place; item = item }) e)
told_by_record (Unwritten fault) item e = refused fault e
told_by_record (InDoubt fault) item e = refused fault (record e { doubted = Some item })

-- an end writes a record
pub record HasWritten {A D : Type 0} (told : D → Option DiskState) (before after : EndState D) (answer : Result A EndFault)
    (wanted : Option JournalRecord) (called : Written → End → Called A) : Type 0 where
  pub written : Written
  pub wrote : IsWrittenWhere wanted told before.journal after.journal written
  pub comes : Comes after answer (called written before.end)

abbrev pub HasWrittenRecord : {D : Type 0} → (D → Option DiskState) → EndState D → EndState D → Result (Unit {0}) EndFault → JournalRecord → Type 0
HasWrittenRecord told before after answer item =
    HasWritten told before after answer (Some item) (λ written. told_by_record written item)

-- a resource changes its state
abbrev pub HasMoved : {D : Type 0} → (D → Option DiskState) → EndState D → EndState D → Result (Unit {0}) EndFault → State → Resource → Type 0
HasMoved told before after answer next r =
    HasWritten told before after answer (record_for next r) (λ written. changing written (Ok tt) next r)

-- an answer of a reread, and the end behind it
abbrev pub AnswersSo : {D : Type 0} → Result End EndFault → EndState D → EndState D → Result (Unit {0}) EndFault → Type 0
AnswersSo (Ok later) before after answer = (after.end ≡ later) × (answer ≡ Ok tt)
AnswersSo (Err fault) before after answer = (after.end ≡ before.end) × (answer ≡ Err fault)

-- an end reads its journal again where that is due
pub record HasReadAgain {D : Type 0} (told : D → Option DiskState) (before after : EndState D) (answer : Result (Unit {0}) EndFault) : Type 0 where
  pub found : Reread
  pub read : IsRereadWhere before.journal.failed told before.journal after.journal found
  pub answers : AnswersSo (reread found before.end) before after answer

-- a resource that a record told
abbrev pub put_by_record : State → Id → List ℕ → List Put → Option ℕ → List Resource → Resource
put_by_record s id recovery puts place resources = record {
  life = id.0;
  number = id.1;
  kind = option_and_then (λ r. r.kind) (numbered id resources);
  state = s;
  recovery = recovery;
  puts = puts;
  record_place = place;
}
