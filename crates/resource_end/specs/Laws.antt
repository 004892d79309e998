-- Laws of a resource end: what its cells have, who holds them, and what stays (our profile).
use Rattle.std.specs.Prelude.{◌≡◌, ℕ, ◌+◌, ◌⊎◌, Bool, true, false, ◌&&◌, if◌then◌else◌, List, [], ◌∷◌, ◌++◌, Ok, Option, Some, None, IfSome, find, is_some}
use Rattle.std.specs.List.{Contains}
use Rattle.std.specs.Option.{option_or}
use Rattle.ior_refs.specs.declared.key.ObjectKey.{ObjectKey}
use Rattle.ots_model.specs.declared.line.Decision.{Decision}
use Rattle.ots_model.specs.declared.tree.Heard.{Heard}
use Rattle.decision_journal.specs.Journal.{Found}
use Rattle.decision_journal.specs.declared.journal.Standing.{Standing}
use Rattle.decision_journal.specs.declared.record.Put.{Put}
use Rattle.resource_end.specs.declared.state.State.{State}
use Rattle.resource_end.specs.declared.state.State.TheVariants as states
use Rattle.resource_end.specs.declared.state.Word.{Word}
use Rattle.resource_end.specs.declared.state.Word.TheVariants as words
use Rattle.resource_end.specs.States.{holds, is_prepared, learnt, stores}
use Rattle.resource_end.specs.Table.{row}
use Rattle.resource_end.specs.Cells.{value_at, with_puts}
use Rattle.decision_journal.specs.declared.record.JournalRecord.{JournalRecord}
use Rattle.resource_end.specs.Recall.{is_recorded_at, loaded, recalls}
use Rattle.resource_end.specs.Calls.{Journaled, Written, StandsAt, Unwritten, InDoubt, bind, choice, choose_heuristic, fresh, is_spent, key_of, learn, put, refuse, told, unmake}
use Rattle.resource_end.specs.End.{record_for, with_place, End, Resource, changes, is_numbered, named, other_holder, stored}

-- a cell that puts name has what they say; each other cell has what it had
abbrev pub PutsAreStored : Type 0
PutsAreStored = (cell : ℕ) (puts cells : List Put) → value_at cell (with_puts puts cells) ≡ option_or (value_at cell puts) (value_at cell cells)

-- A change that stores its resource's puts leaves in each cell what was put last there, if anything was; each other change leaves
-- each cell as it is
abbrev pub stored_by : Bool → ℕ → Resource → End → Option ℕ
stored_by true cell r e = option_or (value_at cell r.puts) (stored cell e)
stored_by false cell r e = stored cell e

abbrev pub ChangesStoreOnce : Type 0
ChangesStoreOnce = (s : State) (r : Resource) (e : End) (cell : ℕ) → stored cell (changes s r e) ≡ stored_by (stores r.state s) cell r e

-- what becomes of a resource by a word, where it becomes anything
abbrev pub next : Word → State → Option State
next w s = (row w s).next

-- a state that a word or an answer leads to
abbrev pub Leads : State → State → Type 0
Leads before after = ((w : Word) × (next w before ≡ Some after)) ⊎ ((h : Heard) × (learnt before h ≡ Some after))

-- a resource whose puts were stored or dropped never stores puts again
abbrev pub StoresOnce : Type 0
StoresOnce = (before after : State) → Leads before after → holds before ≡ false → holds after ≡ false

-- A choice stays whatever is heard, and by each word but forget and the one that says the same
pub record ChoicesStay : Type 0 where
  pub commit_by_rollback : next words.Rollback states.ChoseCommit ≡ None
  pub commit_by_prepare : next words.Prepare states.ChoseCommit ≡ None
  pub commit_by_answers : (h : Heard) → learnt states.ChoseCommit h ≡ None
  pub rollback_by_commit : next words.Commit states.ChoseRollback ≡ None
  pub rollback_by_one_phase : next words.CommitOnePhase states.ChoseRollback ≡ None
  pub rollback_by_prepare : next words.Prepare states.ChoseRollback ≡ None
  pub rollback_by_answers : (h : Heard) → learnt states.ChoseRollback h ≡ None

-- a change is carried out where it needs no record, or its record stands
abbrev pub is_carried : Option JournalRecord → Written → Bool
is_carried (Some item) (StandsAt place) = true
is_carried (Some item) (Unwritten fault) = false
is_carried (Some item) (InDoubt fault) = false
is_carried None written = true

-- a cell behind a change into this state, where there is one: what its resource put there, if the change is carried out and
-- stores it, and else what it had
abbrev pub cell_behind : Option State → Written → Resource → ℕ → End → Option ℕ
cell_behind (Some s) written r cell e = stored_by (is_carried (record_for s r) written && stores r.state s) cell r e
cell_behind None written r cell e = stored cell e

-- the same of the resource of a call, where there is one
abbrev pub cell_by : (State → Option State) → Option Resource → Written → ℕ → End → Option ℕ
cell_by next (Some r) written cell e = cell_behind (next r.state) written r cell e
cell_by next None written cell e = stored cell e

-- what a choice makes of a resource
abbrev pub chosen : Decision → State → Option State
chosen d s = if is_prepared s then Some (choice d) else None

-- Where nothing is in doubt a cell has, behind each call, what was applied there last: what the call's resource put, if the call
-- applied it, and else what the cell had. Making, binding, putting, refusing and unmaking change no cell
pub record CellsAreApplied : Type 0 where
  pub words : (w : Word) (key : ObjectKey) (j : Journaled) (e : End) (cell : ℕ) → e.doubted ≡ None
      → stored cell (told w key j e).end ≡ cell_by (next w) (named key e) j.written cell e
  pub learns : (key : ObjectKey) (h : Heard) (j : Journaled) (e : End) (cell : ℕ) → e.doubted ≡ None
      → stored cell (learn key h j e).end ≡ cell_by (λ s. learnt s h) (named key e) j.written cell e
  pub chooses : (key : ObjectKey) (d : Decision) (j : Journaled) (e : End) (cell : ℕ) → e.doubted ≡ None
      → stored cell (choose_heuristic key d j e).end ≡ cell_by (chosen d) (named key e) j.written cell e
  pub puts : (key : ObjectKey) (place value : ℕ) (j : Journaled) (e : End) (cell : ℕ) → e.doubted ≡ None
      → stored cell (put key place value j e).end ≡ stored cell e
  pub refuses : (key : ObjectKey) (j : Journaled) (e : End) (cell : ℕ) → e.doubted ≡ None → stored cell (refuse key j e).end ≡ stored cell e
  pub binds : (key : ObjectKey) (recovery : List ℕ) (e : End) (cell : ℕ) → stored cell (bind key recovery e).end ≡ stored cell e
  pub unmakes : (key : ObjectKey) (e : End) (cell : ℕ) → stored cell (unmake key e) ≡ stored cell e
  pub makes : (letter : ℕ) (e : End) (cell : ℕ) → stored cell (fresh letter e).end ≡ stored cell e

-- a cell that a resource holds is held from each other resource
abbrev pub HeldCellsAreHeld : Type 0
HeldCellsAreHeld = (e : End) (r holder : Resource) (cell : ℕ) → Contains e.resources holder → is_numbered r.life r.number holder ≡ false
    → holds holder.state ≡ true → is_some (value_at cell holder.puts) ≡ true → is_some (other_holder r cell e) ≡ true

-- ---- what is recorded

-- the resource is one of the end, found by its number and by the place of its record
pub record IsOf (e : End) (r : Resource) : Type 0 where
  pub numbered : find (is_numbered r.life r.number) e.resources ≡ Some r
  pub recorded : IfSome r.record_place (λ place. find (is_recorded_at place) e.resources ≡ Some r)

-- a record that a change writes tells, where it is read again, that very change
abbrev pub RecordsTellChanges : Type 0
RecordsTellChanges = (s : State) (r : Resource) (e : End) (place : ℕ) (item : JournalRecord) → IsOf e r
    → record_for s r ≡ Some item → recalls (record { place = place; item = item }) e ≡ changes s (with_place s place r) e

-- ---- loads and numbers

-- a load of one record more leaves what that record tells of the end that a load of those before it leaves
abbrev pub LoadsTellOneMore : Type 0
LoadsTellOneMore = (service : ℕ) (found : Found) (s : Standing)
    → loaded service (record found { standing = found.standing ++ s ∷ [] }) ≡ recalls s (loaded service found)

-- it is the same life of the same service, and has made as many objects
pub record IsSameLife (before after : End) : Type 0 where
  pub service : after.service ≡ before.service
  pub life : after.life ≡ before.life
  pub drawn : after.drawn ≡ before.drawn

-- An object that is made has the number behind the last one of its life, which counts on by one; no other call makes an end count
pub record NumbersRise : Type 0 where
  pub key : (letter : ℕ) (e : End) → is_spent letter e ≡ false → (fresh letter e).answer ≡ Ok (key_of letter (e.drawn + 1) e)
  pub counts : (letter : ℕ) (e : End) → is_spent letter e ≡ false → (fresh letter e).end.drawn ≡ e.drawn + 1
  pub words : (w : Word) (key : ObjectKey) (j : Journaled) (e : End) → IsSameLife e (told w key j e).end
  pub learns : (key : ObjectKey) (h : Heard) (j : Journaled) (e : End) → IsSameLife e (learn key h j e).end
  pub chooses : (key : ObjectKey) (d : Decision) (j : Journaled) (e : End) → IsSameLife e (choose_heuristic key d j e).end
  pub puts : (key : ObjectKey) (cell value : ℕ) (j : Journaled) (e : End) → IsSameLife e (put key cell value j e).end
  pub refuses : (key : ObjectKey) (j : Journaled) (e : End) → IsSameLife e (refuse key j e).end
  pub binds : (key : ObjectKey) (recovery : List ℕ) (e : End) → IsSameLife e (bind key recovery e).end
  pub unmakes : (key : ObjectKey) (e : End) → IsSameLife e (unmake key e)
