-- A record that stands, of a tree that is gone, and what its registrations still wait for (Transaction Service, the operations
-- of interface Resource). How a record says it is our profile.
use Rattle.std.specs.Prelude.{ℕ, ◌==◌, nat_lt, Bool, true, false, not, ◌&&◌, if◌then◌else◌, List, [], ◌∷◌, ◌++◌, length, map, filter, Option, Some, None}
use Rattle.std.specs.List.{list_any, list_all}
use Rattle.ots_model.specs.declared.service.Status.TheVariants as status
use Rattle.decision_journal.specs.Journal.{is_decision_at}
use Rattle.decision_journal.specs.declared.record.Registration.{Registration}
use Rattle.decision_journal.specs.declared.record.JournalRecord.{JournalRecord}
use Rattle.decision_journal.specs.declared.record.JournalRecord.TheVariants.{Life, Decision, Done, Prepared, CellsPrepared, CellsOutcome, CellsOnePhase}
use Rattle.decision_journal.specs.declared.journal.Standing.{Standing}
use Rattle.recovery_coord.specs.declared.held.Due.{Due}
use Rattle.recovery_coord.specs.declared.held.Due.TheVariants as due
use Rattle.recovery_coord.specs.declared.held.Party.{Party}
use Rattle.recovery_coord.specs.declared.held.Kind.{Kind}
use Rattle.recovery_coord.specs.declared.held.Kind.TheVariants as kind
use Rattle.recovery_coord.specs.declared.held.Held.{Held}

-- what is held of a service's records: the life in which they are told again, and each of them, in record order
pub record Recoveries : Type 0 where
  pub service : ℕ
  pub life : ℕ
  pub records : List Held

-- whether no word of a tree is left over
abbrev pub none_listed : List ℕ → List ℕ → Bool
none_listed commits forgets = length commits == 0 && length forgets == 0

-- what a registration waits for by the words that its tree left over
abbrev pub listed : List ℕ → List ℕ → ℕ → Due
listed commits forgets index =
    if list_any (λ k. k == index) commits then due.Commit
    else if list_any (λ k. k == index) forgets then due.Forget else due.Nothing

-- this, or the same for each where no word is left over
abbrev pub due_to : Due → List ℕ → List ℕ → ℕ → Due
due_to first commits forgets index = if none_listed commits forgets then first else listed commits forgets index

-- a registration of a record
abbrev pub party_of : Due → List ℕ → List ℕ → Registration → Party
party_of first commits forgets r = record { index = r.index; to = r.reference; due = due_to first commits forgets r.index }

-- A record at this place, of whose tree these words are left over. Where none is, a decision has the commit word to each of its
-- registrations to tell, and a prepared record none. A prepared record of whose tree a word is left over has learnt its commit.
abbrev pub held_of : ℕ → JournalRecord → List ℕ → List ℕ → Option Held
held_of place (Life life) commits forgets = None
held_of place (Decision life slot generation key asked regs) commits forgets = Some (record {
  place = place;
  life = life;
  slot = slot;
  generation = generation;
  kind = kind.Decision key asked;
  status = status.Committing;
  parties = map (party_of due.Commit commits forgets) regs;
})
held_of place (Done done) commits forgets = None
held_of place (Prepared life slot generation recovery regs) commits forgets = Some (record {
  place = place;
  life = life;
  slot = slot;
  generation = generation;
  kind = kind.Prepared recovery;
  status = if none_listed commits forgets then status.Prepared else status.Committing;
  parties = map (party_of due.Nothing commits forgets) regs;
})
held_of place (CellsPrepared life number recovery puts) commits forgets = None
held_of place (CellsOutcome done end) commits forgets = None
held_of place (CellsOnePhase life number puts) commits forgets = None

-- a record as a load leaves it
abbrev pub loaded : Standing → Option Held
loaded s = held_of s.place s.item [] []

-- a record at this place is held
abbrev pub is_held : ℕ → List Held → Bool
is_held place records = list_any (λ r. r.place == place) records

-- the records before a place, and those behind it
abbrev pub before : ℕ → List Held → List Held
before place records = filter (λ r. nat_lt r.place place) records

abbrev pub behind : ℕ → List Held → List Held
behind place records = filter (λ r. nat_lt place r.place) records

-- with one more record, in its turn; one that is held already stays
abbrev pub taken : Option Held → List Held → List Held
taken None records = records
taken (Some r) records =
    if is_held r.place records then records else before r.place records ++ r ∷ behind r.place records

-- without the record at this place
abbrev pub without : ℕ → List Held → List Held
without place records = filter (λ r. not (r.place == place)) records

-- a decision or prepared record stands at this place
abbrev pub stands_at : ℕ → List Standing → Bool
stands_at place standing = list_any (is_decision_at place) standing

-- without the record at this place, unless one stands there still
abbrev pub without_done : ℕ → List Standing → List Held → List Held
without_done place standing records = if stands_at place standing then records else without place records

-- it is a decision, of a tree that decided for itself
abbrev pub is_decided : Kind → Bool
is_decided (kind.Decision key asked) = true
is_decided (kind.Prepared recovery) = false

abbrev pub is_nothing : Due → Bool
is_nothing due.Commit = false
is_nothing due.Forget = false
is_nothing due.Nothing = true

-- each registration waits for nothing
abbrev pub are_done : List Party → Bool
are_done parties = list_all (λ p. is_nothing p.due) parties

-- a decision is complete where each of its registrations is; a prepared record waits for its superior
abbrev pub is_complete : Held → Bool
is_complete r = is_decided r.kind && are_done r.parties
