-- The calls of a resource end: what each answers, and what it leaves (our profile; the words are the operations of interface
-- Resource in module CosTransactions).
use Rattle.std.specs.Prelude.{ℕ, ◌+◌, ◌==◌, nat_le, Bool, true, false, ◌||◌, if◌then◌else◌, List, [], map, filter, length, Option, Some, None, is_some, Result, Ok, Err}
use Rattle.std.specs.Option.{option_or}
use Rattle.ior_refs.specs.declared.key.ObjectKey.{ObjectKey}
use Rattle.ots_model.specs.declared.line.Decision.{Decision}
use Rattle.ots_model.specs.declared.line.Decision.TheVariants as decision
use Rattle.ots_model.specs.declared.service.Status.{Status}
use Rattle.ots_model.specs.declared.tree.Heard.{Heard}
use Rattle.ots_model.specs.declared.tree.Outward.{Outward}
use Rattle.ots_model.specs.declared.tree.Word.TheVariants.{ReplayCompletion}
use Rattle.decision_journal.specs.declared.record.JournalRecord.{JournalRecord}
use Rattle.resource_end.specs.declared.fault.EndFault.{EndFault}
use Rattle.resource_end.specs.declared.fault.EndFault.TheVariants as faults
use Rattle.resource_end.specs.declared.state.State.{State}
use Rattle.resource_end.specs.declared.state.State.TheVariants as states
use Rattle.resource_end.specs.declared.state.Word.{Word}
use Rattle.resource_end.specs.Limits.{unfinished_limit, cell_limit, object_limit, synchronization_kind}
use Rattle.resource_end.specs.States.{holds, is_prepared, learnt, made}
use Rattle.resource_end.specs.Table.{row}
use Rattle.resource_end.specs.Cells.{value_at, with_put}
use Rattle.resource_end.specs.End.{End, Resource, changes, kept, named, other_holder, record_for, stored, unfinished_count, with_place, with_resource}
use Rattle.resource_end.specs.Recall.{Reread, reread}

-- what a call answers, and the end behind it
pub record Called (A : Type 0) : Type 0 where
  pub end : End
  pub answer : Result A EndFault

-- it changes nothing
abbrev pub answers : {A : Type 0} → Result A EndFault → End → Called A
answers answer e = record { end = e; answer = answer }

abbrev pub refused : {A : Type 0} → EndFault → End → Called A
refused fault e = answers (Err fault) e

-- nothing is answered but that it is done
abbrev pub done : End → Called (Unit {0})
done e = answers (Ok tt) e

-- ---- the journal

-- what writing a record comes to: it stands at this place, or nothing was written, or it may stand or not
pub data Written : Type 0 where
  StandsAt : ℕ → Written
  Unwritten : EndFault → Written
  InDoubt : EndFault → Written

-- what the journal answers in a call: to reading it again, where that is due, and to the record, where one is written
pub record Journaled : Type 0 where
  pub reread : Reread
  pub written : Written

-- a call goes on behind the reread; where that is refused nothing else happens
abbrev pub behind : {A : Type 0} → Result End EndFault → End → (End → Called A) → Called A
behind (Ok later) e next = next later
behind (Err fault) e next = refused fault e

-- a change was written: where its record doesn't stand, the resource is as before
abbrev pub changes_by : {A : Type 0} → Written → JournalRecord → Result A EndFault → State → Resource → End → Called A
changes_by (StandsAt place) item answer s r e = answers answer (changes s (with_place s place r) e)
changes_by (Unwritten fault) item answer s r e = refused fault e
changes_by (InDoubt fault) item answer s r e = refused fault (record e { doubted = Some item })

-- a resource changes; where a record has to stand first, it is written
abbrev pub changes_with : {A : Type 0} → Option JournalRecord → Written → Result A EndFault → State → Resource → End → Called A
changes_with (Some item) written answer s r e = changes_by written item answer s r e
changes_with None written answer s r e = answers answer (changes s r e)

unfoldable pub changing : {A : Type 0} → Written → Result A EndFault → State → Resource → End → Called A
changing written answer s r e = changes_with (record_for s r) written answer s r e

-- ---- making resources

abbrev pub key_of : ℕ → ℕ → End → ObjectKey
key_of letter number e = record {
  kind = letter;
  service = e.service;
  life = e.life;
  slot = 0;
  generation = number;
  index = 0;
}

abbrev pub new_resource : ℕ → ℕ → End → Resource
new_resource letter number e = record {
  life = e.life;
  number = number;
  kind = Some letter;
  state = states.Fresh;
  recovery = [];
  puts = [];
  record_place = None;
}

-- no further object of this letter can be made; a synchronization is no resource
abbrev pub is_spent : ℕ → End → Bool
is_spent letter e =
    nat_le object_limit e.drawn || (if letter == synchronization_kind then false else nat_le unfinished_limit (unfinished_count e))

-- the next number is drawn
abbrev pub drawn : End → End
drawn e = record e { drawn = e.drawn + 1 }

abbrev pub with_object : ℕ → ℕ → End → End
with_object letter number e =
    if letter == synchronization_kind then drawn e
    else record (drawn e) { resources = kept (new_resource letter number e) e.resources }

-- an object with a key of this letter is made
unfoldable pub fresh : ℕ → End → Called ObjectKey
fresh letter e =
    if is_spent letter e then refused faults.NoResources e
    else answers (Ok (key_of letter (e.drawn + 1) e)) (with_object letter (e.drawn + 1) e)

-- the resource has put nothing
abbrev pub is_fresh : State → Bool
is_fresh states.Fresh = true
is_fresh _ = false

-- a call on the resource of a key
abbrev pub on : {A : Type 0} → Option Resource → End → (Resource → Called A) → Called A
on (Some r) e act = act r
on None e act = refused faults.ObjectNotExist e

-- its recovery coordinator's reference; one that has prepared keeps that of its record
abbrev pub bound : List ℕ → Resource → Resource
bound recovery r = if is_some r.record_place then r else record r { recovery = recovery }

unfoldable pub bind : ObjectKey → List ℕ → End → Called (Unit {0})
bind key recovery e = on (named key e) e (λ r. done (record e { resources = with_resource (bound recovery r) e.resources }))

abbrev pub unmakes : Option Resource → End → End
unmakes (Some r) e = if is_fresh r.state then changes states.Forgotten r e else e
unmakes None e = e

-- a resource that has put nothing is forgotten
unfoldable pub unmake : ObjectKey → End → End
unmake key e = unmakes (named key e) e

-- ---- cells

-- the resource with one more put, or another one of that cell
abbrev pub with_cell : ℕ → ℕ → Resource → Resource
with_cell cell value r = record r { state = states.Working; puts = with_put (record { cell = cell; value = value }) r.puts }

-- it can put
abbrev pub is_open : State → Bool
is_open states.Fresh = true
is_open states.Working = true
is_open _ = false

-- it has put that cell, or there is room for one more
abbrev pub has_room : ℕ → Resource → Bool
has_room cell r = if is_some (value_at cell r.puts) then true else nat_le (length r.puts + 1) cell_limit

abbrev pub puts_unheld : Option Resource → ℕ → ℕ → Resource → End → Called (Unit {0})
puts_unheld (Some holder) cell value r e = refused (faults.Transient holder.number) e
puts_unheld None cell value r e =
    if has_room cell r then done (record e { resources = kept (with_cell cell value r) e.resources })
    else refused faults.NoResources e

abbrev pub puts : ℕ → ℕ → End → Resource → Called (Unit {0})
puts cell value e r = if is_open r.state then puts_unheld (other_holder r cell e) cell value r e else refused faults.Inactive e

unfoldable pub put : ObjectKey → ℕ → ℕ → Journaled → End → Called (Unit {0})
put key cell value j e = behind (reread j.reread e) e (λ later. on (named key later) later (puts cell value later))

-- what a resource sees of a cell: its own put, or what is stored
abbrev pub seen : ℕ → End → Resource → Option ℕ
seen cell e r = if holds r.state then option_or (value_at cell r.puts) (stored cell e) else stored cell e

unfoldable pub get : ObjectKey → ℕ → End → Result (Option ℕ) EndFault
get key cell e = (on (named key e) e (λ r. answers (Ok (seen cell e r)) e)).answer

abbrev pub refuses : End → Resource → Called (Unit {0})
refuses e r = if is_open r.state then done (changes states.Refused r e) else refused faults.Inactive e

-- it is to vote rollback
unfoldable pub refuse : ObjectKey → Journaled → End → Called (Unit {0})
refuse key j e = behind (reread j.reread e) e (λ later. on (named key later) later (refuses later))

-- ---- words

-- what a choice makes of it
abbrev pub choice : Decision → State
choice decision.Commit = states.ChoseCommit
choice decision.Rollback = states.ChoseRollback

abbrev pub chooses : Decision → Written → End → Resource → Called (Unit {0})
chooses d written e r = if is_prepared r.state then changing written (Ok tt) (choice d) r e else refused faults.Inactive e

-- it decides by itself
unfoldable pub choose_heuristic : ObjectKey → Decision → Journaled → End → Called (Unit {0})
choose_heuristic key d j e = behind (reread j.reread e) e (λ later. on (named key later) later (chooses d j.written later))

-- the record that a choice has to write
abbrev pub chosen_of : Decision → Option Resource → Option JournalRecord
chosen_of d (Some r) = if is_prepared r.state then record_for (choice d) r else None
chosen_of d None = None

unfoldable pub wanted_by_choice : Decision → ObjectKey → End → Option JournalRecord
wanted_by_choice d key e = chosen_of d (named key e)

-- what a word or an answer made of its resource is shown: nothing, where the call was refused
abbrev pub shown_by : {A : Type 0} → Result A EndFault → State → Option Status
shown_by (Ok answer) s = made s
shown_by (Err fault) s = None

abbrev pub showing : {A : Type 0} → State → Called A → Called A
showing s c = record c { end = record c.end { changed = shown_by c.answer s } }

abbrev pub unchanged : End → End
unchanged e = record e { changed = None }

-- a row is carried out
abbrev pub does : Option State → Result Heard EndFault → Written → End → Resource → Called Heard
does (Some s) said written e r = showing s (changing written said s r e)
does None said written e r = answers said e

abbrev pub obeys : Word → Written → End → Resource → Called Heard
obeys w written e r = does (row w r.state).next (row w r.state).said written e r

-- prepare, commit, rollback, commit_one_phase and forget
unfoldable pub told : Word → ObjectKey → Journaled → End → Called Heard
told w key j e =
    behind (reread j.reread (unchanged e)) (unchanged e) (λ later. on (named key later) later (obeys w j.written later))

-- the record that a word has to write
abbrev pub wanted_for : Option State → Resource → Option JournalRecord
wanted_for (Some s) r = record_for s r
wanted_for None r = None

abbrev pub wanted_of : Word → Option Resource → Option JournalRecord
wanted_of w (Some r) = wanted_for (row w r.state).next r
wanted_of w None = None

unfoldable pub wanted : Word → ObjectKey → End → Option JournalRecord
wanted w key e = wanted_of w (named key e)

-- ---- asking

abbrev pub ask_of : Resource → Outward
ask_of r = record {
  number = record { life = r.life; slot = 0; generation = r.number; serial = 0 };
  registration = 0;
  to = r.recovery;
  word = ReplayCompletion;
  receipt = None;
}

-- each resource that waits for an outcome asks its recovery coordinator
unfoldable pub asks : End → List Outward
asks e = map ask_of (filter (λ r. is_prepared r.state) e.resources)

abbrev pub learns_by : Option State → Written → End → Resource → Called (Unit {0})
learns_by (Some s) written e r = showing s (changing written (Ok tt) s r e)
learns_by None written e r = done e

abbrev pub learns_in : Option Resource → Heard → Written → End → Called (Unit {0})
learns_in (Some r) h written e = learns_by (learnt r.state h) written e r
learns_in None h written e = done e

-- the record that an answer has to write
abbrev pub learnt_of : Heard → Option Resource → Option JournalRecord
learnt_of h (Some r) = wanted_for (learnt r.state h) r
learnt_of h None = None

unfoldable pub wanted_by_answer : Heard → ObjectKey → End → Option JournalRecord
wanted_by_answer h key e = learnt_of h (named key e)

-- the answer to its ask: one that isn't there, or waits for nothing, learns nothing
unfoldable pub learn : ObjectKey → Heard → Journaled → End → Called (Unit {0})
learn key h j e =
    behind (reread j.reread (unchanged e)) (unchanged e) (λ later. learns_in (named key later) h j.written later)
