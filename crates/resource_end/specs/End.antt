-- A resource end: its resources, its cells, and what its journal doubts (our profile).
use Rattle.std.specs.Prelude.{ℕ, ◌==◌, nat_lt, Bool, not, ◌&&◌, ◌||◌, if◌then◌else◌, List, [], ◌∷◌, filter, find, Option, Some, None, is_some}
use Rattle.std.specs.List.{count_by}
use Rattle.std.specs.Option.{option_map}
use Rattle.ior_refs.specs.declared.key.ObjectKey.{ObjectKey}
use Rattle.ots_model.specs.declared.service.Status.{Status}
use Rattle.decision_journal.specs.declared.record.CellsEnd.{CellsEnd}
use Rattle.decision_journal.specs.declared.record.JournalRecord.{JournalRecord}
use Rattle.decision_journal.specs.declared.record.JournalRecord.TheVariants.{CellsPrepared, CellsOutcome, CellsOnePhase}
use Rattle.decision_journal.specs.declared.record.Put.{Put}
use Rattle.resource_end.specs.declared.state.State.{State}
use Rattle.resource_end.specs.declared.state.State.TheVariants as states
use Rattle.resource_end.specs.Limits.{resource_kind, aware_kind}
use Rattle.resource_end.specs.States.{end_of, holds, is_forgotten, is_unfinished, stores}
use Rattle.resource_end.specs.Cells.{value_at, with_puts}

-- A resource: the life that made it and its number in it, the letter of its key (a record doesn't tell it), how it stands, its
-- recovery coordinator's reference, its puts by rising cell while they are its own, and the place of its record once it has
-- prepared
pub record Resource : Type 0 where
  pub life : ℕ
  pub number : ℕ
  pub kind : Option ℕ
  pub state : State
  pub recovery : List ℕ
  pub puts : List Put
  pub record_place : Option ℕ

-- An end: its service, its life, how many objects this life has made, its resources by life and then by number, the cells that
-- are stored, the record that may stand or not because writing it failed, and what the last word or answer made of its resource
pub record End : Type 0 where
  pub service : ℕ
  pub life : ℕ
  pub drawn : ℕ
  pub resources : List Resource
  pub cells : List Put
  pub doubted : Option JournalRecord
  pub changed : Option Status

-- ---- the resources of an end

-- it has this number
abbrev pub is_numbered : ℕ → ℕ → Resource → Bool
is_numbered life number r = r.life == life && r.number == number

-- one comes before another
abbrev pub comes_before : Resource → Resource → Bool
comes_before r s = nat_lt r.life s.life || (r.life == s.life && nat_lt r.number s.number)

-- with a resource, in the place of the one that has its number, or else in its turn
abbrev pub with_resource : Resource → List Resource → List Resource
with_resource r [] = r ∷ []
with_resource r (s ∷ others) =
    if is_numbered r.life r.number s then r ∷ others
    else if comes_before r s then r ∷ s ∷ others else s ∷ with_resource r others

abbrev pub without_resource : Resource → List Resource → List Resource
without_resource r resources = filter (λ s. not (is_numbered r.life r.number s)) resources

-- one that is forgotten isn't kept
abbrev pub kept : Resource → List Resource → List Resource
kept r resources = if is_forgotten r.state then without_resource r resources else with_resource r resources

-- the letter of a key is that of the resource; one that was loaded may have either letter
abbrev pub has_letter : Option ℕ → ℕ → Bool
has_letter (Some own) letter = own == letter
has_letter None letter = letter == resource_kind || letter == aware_kind

-- a key of this service names the resource
abbrev pub is_named : ℕ → ObjectKey → Resource → Bool
is_named service key r =
    key.service == service && key.slot == 0 && key.index == 0 && is_numbered key.life key.generation r && has_letter r.kind key.kind

abbrev pub named : ObjectKey → End → Option Resource
named key e = find (is_named e.service key) e.resources

abbrev pub state_in : Option Resource → State
state_in (Some r) = r.state
state_in None = states.Forgotten

-- how the resource of a key stands
abbrev pub state_named : ObjectKey → End → State
state_named key e = state_in (named key e)

abbrev pub unfinished_count : End → ℕ
unfinished_count e = count_by (λ r. is_unfinished r.state) e.resources

-- ---- cells

-- what is stored in a cell
abbrev pub stored : ℕ → End → Option ℕ
stored cell e = value_at cell e.cells

-- a resource other than this one holds the cell
abbrev pub is_other_holder : Resource → ℕ → Resource → Bool
is_other_holder r cell s = not (is_numbered r.life r.number s) && holds s.state && is_some (value_at cell s.puts)

-- that resource, where there is one
abbrev pub other_holder : Resource → ℕ → End → Option Resource
other_holder r cell e = find (is_other_holder r cell) e.resources

-- ---- a change of a resource

-- A resource in another state. Its puts are dropped where they aren't its own any more, and its coordinator's reference where
-- it is over for it
abbrev pub moved : State → Resource → Resource
moved s r = record r {
  state = s;
  recovery = if is_unfinished s then r.recovery else [];
  puts = if holds s then r.puts else [];
}

-- an end whose resource is in another state; its puts are stored where that change stores them
unfoldable pub changes : State → Resource → End → End
changes s r e = record e {
  resources = kept (moved s r) e.resources;
  cells = if stores r.state s then with_puts r.puts e.cells else e.cells;
}

-- how one that has a record at this place ends
abbrev pub outcome_record : ℕ → Option CellsEnd → Option JournalRecord
outcome_record place end = option_map (λ how. CellsOutcome place how) end

-- what one without a record writes: its puts, where it prepares or commits in one phase
abbrev pub puts_record : State → State → Resource → Option JournalRecord
puts_record states.Working states.Prepared r = Some (CellsPrepared r.life r.number r.recovery r.puts)
puts_record states.Working states.Applied r = Some (CellsOnePhase r.life r.number r.puts)
puts_record _ _ r = None

-- the record that has to stand before a change
abbrev pub record_by : Option ℕ → State → Resource → Option JournalRecord
record_by (Some place) s r = outcome_record place (end_of s)
record_by None s r = puts_record r.state s r

abbrev pub record_for : State → Resource → Option JournalRecord
record_for s r = record_by r.record_place s r

-- the place of the record is kept where the resource prepares by it
abbrev pub with_place : State → ℕ → Resource → Resource
with_place states.Prepared place r = record r { record_place = Some place }
with_place _ place r = r
