-- What the records of a journal tell of resources and cells: after a load, and where a journal was read again (our profile).
use Rattle.std.specs.Prelude.{ℕ, ◌==◌, Bool, false, List, [], ◌∷◌, find, Option, Some, None, Result, Ok, Err}
use Rattle.std.specs.Option.{option_and_then}
use Rattle.decision_journal.specs.Journal.{Found}
use Rattle.decision_journal.specs.declared.journal.Standing.{Standing}
use Rattle.decision_journal.specs.declared.record.CellsEnd.{CellsEnd}
use Rattle.decision_journal.specs.declared.record.JournalRecord.{JournalRecord}
use Rattle.decision_journal.specs.declared.record.JournalRecord.TheVariants.{Life, Decision, Done, Prepared, CellsPrepared, CellsOutcome, CellsOnePhase}
use Rattle.decision_journal.specs.declared.record.Put.{Put}
use Rattle.resource_end.specs.declared.fault.EndFault.{EndFault}
use Rattle.resource_end.specs.declared.state.State.TheVariants as states
use Rattle.resource_end.specs.States.{state_of}
use Rattle.resource_end.specs.End.{End, Resource, changes, is_numbered, with_place}

-- the letter of a resource's key, where it is known
abbrev pub letter_of : ℕ → ℕ → End → Option ℕ
letter_of life number e = option_and_then (λ r. r.kind) (find (is_numbered life number) e.resources)

-- a resource with these puts, as it was before its record
abbrev pub put_by : ℕ → ℕ → List ℕ → List Put → End → Resource
put_by life number recovery puts e = record {
  life = life;
  number = number;
  kind = letter_of life number e;
  state = states.Working;
  recovery = recovery;
  puts = puts;
  record_place = None;
}

-- the record of the resource stands at this place
abbrev pub has_place : ℕ → Option ℕ → Bool
has_place place (Some own) = own == place
has_place place None = false

abbrev pub is_recorded_at : ℕ → Resource → Bool
is_recorded_at place r = has_place place r.record_place

-- an outcome of one that was forgotten tells nothing
abbrev pub ends_as : CellsEnd → Option Resource → End → End
ends_as how (Some r) e = changes (state_of how) r e
ends_as how None e = e

-- what a record tells
abbrev pub tells : ℕ → JournalRecord → End → End
tells place (Life life) e = e
tells place (Decision life slot generation key asked regs) e = e
tells place (Done done) e = e
tells place (Prepared life slot generation recovery regs) e = e
tells place (CellsPrepared life number recovery puts) e =
    changes states.Prepared (with_place states.Prepared place (put_by life number recovery puts e)) e
tells place (CellsOutcome done how) e = ends_as how (find (is_recorded_at done) e.resources) e
tells place (CellsOnePhase life number puts) e = changes states.Applied (put_by life number [] puts e) e

unfoldable pub recalls : Standing → End → End
recalls s e = tells s.place s.item e

-- one record after another
abbrev pub recalls_all : List Standing → End → End
recalls_all [] e = e
recalls_all (s ∷ others) e = recalls_all others (recalls s e)

-- an end of which nothing is recorded
abbrev pub new_end : ℕ → ℕ → End
new_end service life = record {
  service = service;
  life = life;
  drawn = 0;
  resources = [];
  cells = [];
  doubted = None;
  changed = None;
}

-- an end as a load leaves it: what isn't recorded is unknown
abbrev pub loaded : ℕ → Found → End
loaded service found = recalls_all found.standing (new_end service found.life)

-- ---- reading the journal again

-- what reading it again tells of the record in doubt: it stands at this place, or it doesn't stand, or the journal couldn't be read
pub data Reread : Type 0 where
  Stands : ℕ → Reread
  StandsNot : Reread
  Unread : EndFault → Reread

-- nothing is in doubt
abbrev pub sure : End → End
sure e = record e { doubted = None }

abbrev pub sure_of : JournalRecord → Reread → End → Result End EndFault
sure_of r (Stands place) e = Ok (recalls (record { place = place; item = r }) (sure e))
sure_of r StandsNot e = Ok (sure e)
sure_of r (Unread fault) e = Err fault

-- the end behind a reread, where one is due
abbrev pub reread_by : Option JournalRecord → Reread → End → Result End EndFault
reread_by (Some r) found e = sure_of r found e
reread_by None found e = Ok e

unfoldable pub reread : Reread → End → Result End EndFault
reread found e = reread_by e.doubted found e
