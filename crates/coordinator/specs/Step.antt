-- One step of a family: what an event does to it, with what the journal answered where it was asked (Transaction Service; that
-- each event makes one entry of a history, but a repeat of a known call, a tick that changes nothing, and an answer that
-- nobody waits for, is our profile).
use Rattle.std.specs.Prelude.{ℕ, ◌==◌, ◌&&◌, Bool, true, false, not, nat_le, List, [], ◌∷◌, ◌++◌, length, filter, find, Option, Some, None, is_none, is_some, if◌then◌else◌}
use Rattle.std.specs.List.{list_all}
use Rattle.std.specs.Option.{option_map, option_map_or}
use Rattle.ots_model.specs.declared.completion.CallNumber.{CallNumber}
use Rattle.ots_model.specs.declared.completion.Stood.{Stood}
use Rattle.ots_model.specs.declared.completion.Stood.TheVariants as answers
use Rattle.ots_model.specs.declared.service.Status.TheVariants as status
use Rattle.ots_model.specs.declared.tree.Heard.{Heard}
use Rattle.ots_model.specs.declared.tree.Outward.{Outward}
use Rattle.ots_model.specs.declared.tree.Reason.TheVariants as reasons
use Rattle.decision_journal.specs.declared.record.JournalRecord.{JournalRecord}
use Rattle.two_phase.specs.Stages as stages
use Rattle.coordinator.specs.declared.effect.Effect.{Effect}
use Rattle.coordinator.specs.declared.event.Act.{Act}
use Rattle.coordinator.specs.declared.event.Act.TheVariants as acts
use Rattle.coordinator.specs.declared.event.Event.{Event}
use Rattle.coordinator.specs.declared.said.Entry.{Entry}
use Rattle.coordinator.specs.declared.said.Finished.{Finished}
use Rattle.coordinator.specs.declared.said.Said.{Said}
use Rattle.coordinator.specs.declared.said.Said.TheVariants as said
use Rattle.coordinator.specs.Family.{Family, Call, Stage, Going, Finishing, Over, call_at, waiting_for}
use Rattle.coordinator.specs.Moves.{Moved, only, ◌▹◌, completes_as}
use Rattle.coordinator.specs.Phases.{status_of, parent_status_of, top_status, is_marked}
use Rattle.coordinator.specs.Names.{name_of, hash_of, is_same, is_related, is_ancestor_of, is_descendant_of}
use Rattle.coordinator.specs.Running.{goes_on}
use Rattle.coordinator.specs.Hearing.{hears_at, settles, record_place, wants_done, decision_record, marks}
use Rattle.coordinator.specs.History.{kept_for, repeated, is_for}
use Rattle.coordinator.specs.Table as table
use Rattle.coordinator.specs.Table.{Acted, says, does, on_branch, on_terminator, status_said}

-- an answer to a word that is out: it is heard, the journal is asked where that is wanted, and the call goes on
abbrev pub hears_call : Option Call → ℕ → CallNumber → Heard → Family → Moved
hears_call (Some c) b n h f = hears_at n b c h f
hears_call None b n h f = only f

abbrev pub hears_for : Option ℕ → CallNumber → Heard → Family → Moved
hears_for (Some b) n h f = hears_call (call_at f b) b n h f
hears_for None n h f = only f

unfoldable pub hears : CallNumber → Heard → Family → Moved
hears n h f = hears_for (waiting_for f n) n h f

abbrev pub goes_on_at : Option ℕ → Family → Moved
goes_on_at (Some b) f = goes_on b f
goes_on_at None f = only f

unfoldable pub answered : CallNumber → Heard → Option Stood → Family → Moved
answered n h stood f = hears n h f ▹ settles stood ▹ goes_on_at (waiting_for f n)

-- the time is over
abbrev pub is_over : Option ℕ → ℕ → Bool
is_over deadline now = option_map_or (λ d. nat_le d now) deadline false

-- what a tick does then: a transaction that no call has begun to end is rolled back, and one that is to commit is marked
abbrev pub ticks_in : Stage → Bool → Bool
ticks_in Going marked = true
ticks_in Finishing marked = not marked
ticks_in _ marked = false

unfoldable pub has_timed_out : Family → ℕ → Bool
has_timed_out f now = is_over f.deadline now && ticks_in f.stage (is_marked f 0)

abbrev pub times_out : Stage → Family → Moved
times_out Going f = table.rolls_back_top reasons.Timeout None said.Plain f
times_out _ f = marks 0 f

unfoldable pub ticks : ℕ → Family → Moved
ticks now f = if has_timed_out f now then times_out f.stage f else only f

-- where the journal has the record
abbrev pub found_at : Option Stood → Option ℕ
found_at (Some (answers.Stands place)) = Some place
found_at _ = None

-- the journal was read again: where nobody knew whether the record stands, that is known now
unfoldable pub rereads : Option Stood → Family → Moved
rereads stood f = completes_as (stages.after_reread (found_at stood) f.completion) f ▹ goes_on 0

-- a root has no superior
abbrev pub from_superior : Family → Acted
from_superior f = says said.ObjectNotExist f

-- what an act on a branch does, and what is said at once; a call on a branch that isn't there is on nothing
abbrev pub acts_on : Act → ℕ → ℕ → Option Stood → Family → Acted
acts_on acts.GetTerminator b now stood f = on_branch b f (table.gets_terminator b f)
acts_on acts.GetCoordinator b now stood f = on_branch b f (says said.Plain f)
acts_on (acts.Commit asked) b now stood f = on_terminator b f (table.commits b (length f.entries) asked f)
acts_on acts.Rollback b now stood f = on_terminator b f (table.rolls_back_asked b (length f.entries) f)
acts_on acts.GetStatus b now stood f = says (status_said (status_of f b)) f
acts_on acts.GetParentStatus b now stood f = says (status_said (parent_status_of f b)) f
acts_on acts.GetTopLevelStatus b now stood f = on_branch b f (says (said.State (top_status f)) f)
acts_on (acts.IsSameTransaction other) b now stood f = on_branch b f (says (is_same f b other) f)
acts_on (acts.IsRelatedTransaction other) b now stood f = on_branch b f (says (is_related f b other) f)
acts_on (acts.IsAncestorTransaction other) b now stood f = on_branch b f (says (is_ancestor_of f b other) f)
acts_on (acts.IsDescendantTransaction other) b now stood f = on_branch b f (says (is_descendant_of f b other) f)
acts_on acts.IsTopLevelTransaction b now stood f = on_branch b f (says (said.Flag (b == 0)) f)
acts_on acts.HashTransaction b now stood f = on_branch b f (says (said.Number (hash_of f b)) f)
acts_on acts.HashTopLevelTran b now stood f = on_branch b f (says (said.Number (hash_of f 0)) f)
acts_on (acts.RegisterResource to aware) b now stood f = on_branch b f (table.registers_resource b to aware f)
acts_on (acts.RegisterSynchronization to) b now stood f = on_branch b f (table.registers_synchronization b to f)
acts_on (acts.RegisterSubtranAware to) b now stood f = on_branch b f (table.registers_aware b to f)
acts_on acts.RollbackOnly b now stood f = on_branch b f (table.marks_only b f)
acts_on acts.GetTransactionName b now stood f = on_branch b f (says (said.Name (name_of f b)) f)
acts_on acts.CreateSubtransaction b now stood f = on_branch b f (table.creates_subtransaction b f)
acts_on acts.GetTxcontext b now stood f = on_branch b f (says said.Plain f)
acts_on (acts.Replay g resource) b now stood f = table.replays g f
acts_on (acts.Superior word) b now stood f = from_superior f
acts_on (acts.Answer n h) b now stood f = does said.Plain (answered n h stood f)
acts_on acts.Tick b now stood f = does said.Plain (ticks now f)
acts_on (acts.Reread stands) b now stood f = does said.Plain (rereads stood f)
acts_on (acts.Opened deadline) b now stood f = says (said.State status.Active) (record f { deadline = deadline })

unfoldable pub acted : Event → Option Stood → Family → Acted
acted e stood f = acts_on e.act e.branch e.now stood f

-- no entry is made
abbrev pub is_silent_act : Act → ℕ → Family → Bool
is_silent_act (acts.Answer n h) now f = is_none (waiting_for f n)
is_silent_act acts.Tick now f = not (has_timed_out f now)
is_silent_act _ now f = false

abbrev pub is_silent : Event → Family → Bool
is_silent e f = is_silent_act e.act e.now f

-- what is said at once: the answer, where the call has ended in this step
abbrev pub said_now : ℕ → List Finished → Said → Said
said_now position finished otherwise = option_map_or (λ (a : Finished). a.said) (find (is_for position) finished) otherwise

-- the earlier calls that are answered
abbrev pub said_later : ℕ → List Finished → List Finished
said_later position finished = filter (λ a. not (is_for position a)) finished

-- a step: the family after it, what is said, the words in order, the earlier calls that are answered, and what happened
pub record Stepped : Type 0 where
  pub family : Family
  pub said : Said
  pub words : List Outward
  pub finished : List Finished
  pub effects : List Effect

-- nothing but an answer
abbrev pub quiet : Said → Family → Stepped
quiet answer f = record { family = f; said = answer; words = []; finished = []; effects = [] }

abbrev pub entry_of : Event → Option Stood → Said → List Finished → Entry
entry_of e stood answer finished = record { event = e; stood = stood; said = answer; finished = finished }

-- the history gets its entry
unfoldable pub entered : Family → Event → Option Stood → Acted → Stepped
entered f e stood a =
    let position : ℕ = length f.entries in
    let answer : Said = said_now position a.moved.finished a.said in
    let others : List Finished = said_later position a.moved.finished in
    record {
      family = record a.moved.family { entries = f.entries ++ entry_of e stood answer others ∷ [] };
      said = answer;
      words = a.moved.words;
      finished = others;
      effects = a.moved.effects;
    }

abbrev pub new_step : Family → Event → Option Stood → Stepped
new_step f e stood = if is_silent e f then quiet said.Plain f else entered f e stood (acted e stood f)

abbrev pub step_by : Option Said → Family → Event → Option Stood → Stepped
step_by (Some answer) f e stood = quiet (repeated answer) f
step_by None f e stood = new_step f e stood

-- a step of a family, where this is what the journal answered in it: a call whose key is known is a repeat, and is answered
-- as before
unfoldable pub family_step : Family → Event → Option Stood → Stepped
family_step f e stood = step_by (kept_for f.entries e.key) f e stood

-- a step that asks the journal for nothing
abbrev pub step_alone : Family → Event → Stepped
step_alone f e = family_step f e None

-- what a step asks of the journal
pub data Wanted : Type 0 where
  Appends : (item : JournalRecord) → Wanted
  WritesDone : (place : ℕ) → Wanted
  Rereads : Wanted

abbrev pub wanted_by : Family → Option Wanted
wanted_by f =
    if stages.wants_decision f.completion then Some (Appends (decision_record f))
    else if wants_done f then option_map WritesDone (record_place f.completion)
    else None

abbrev pub wanted_act : Act → Family → Option Wanted
wanted_act (acts.Answer n h) f = if is_some (waiting_for f n) then wanted_by (hears n h f).family else None
wanted_act (acts.Reread stands) f = Some Rereads
wanted_act _ f = None

unfoldable pub wanted : Family → Event → Option Wanted
wanted f e = if is_some (kept_for f.entries e.key) then None else wanted_act e.act f

abbrev pub wants_journal : Family → Event → Bool
wants_journal f e = is_some (wanted f e)

-- the top-level transaction has ended, and no call is under way
abbrev pub is_ended : Stage → Bool
is_ended Over = true
is_ended _ = false

unfoldable pub is_finished : Family → Bool
is_finished f = is_ended f.stage && list_all is_none f.calls
