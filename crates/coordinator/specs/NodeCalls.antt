-- A call to a node: it is a step of the family that its key names, or is answered by a record; and what it asks of the journal
-- (our profile).
use Rattle.std.specs.Prelude.{ℕ, ◌==◌, List, [], ◌∷◌, length, Option, Some, None, is_some, Result, Ok, Err, if◌then◌else◌}
use Rattle.std.specs.Option.{option_map, option_and_then}
use Rattle.ior_refs.specs.declared.key.ObjectKey.{ObjectKey}
use Rattle.ots_model.specs.declared.completion.CallNumber.{CallNumber}
use Rattle.ots_model.specs.declared.completion.Stood.{Stood}
use Rattle.ots_model.specs.declared.completion.Stood.TheVariants as answers
use Rattle.ots_model.specs.declared.tree.Heard.{Heard}
use Rattle.ots_model.specs.declared.tree.Outward.{Outward}
use Rattle.decision_journal.specs.Journal.{Found, with_record}
use Rattle.decision_journal.specs.declared.record.JournalRecord.TheVariants.{Done}
use Rattle.recovery_coord.specs.Held.{is_held, without}
use Rattle.recovery_coord.specs.Hearing.{records_after, completed}
use Rattle.recovery_coord.specs.Limits.{retold_slot}
use Rattle.recovery_coord.specs.declared.held.Held.{Held}
use Rattle.coordinator.specs.declared.effect.Effect.{Effect}
use Rattle.coordinator.specs.declared.effect.Effect.TheVariants as effects
use Rattle.coordinator.specs.declared.event.Act.{Act}
use Rattle.coordinator.specs.declared.event.Act.TheVariants as acts
use Rattle.coordinator.specs.declared.event.Event.{Event}
use Rattle.coordinator.specs.declared.node.NodeFault.{NodeFault}
use Rattle.coordinator.specs.declared.node.NodeFault.TheVariants as faults
use Rattle.coordinator.specs.declared.said.Said.{Said}
use Rattle.coordinator.specs.declared.said.Said.TheVariants as said
use Rattle.coordinator.specs.declared.said.StepAnswer.{StepAnswer}
use Rattle.coordinator.specs.Family.{Family}
use Rattle.coordinator.specs.History.{has_room}
use Rattle.coordinator.specs.Step.{Stepped, family_step, Wanted, Appends, WritesDone, wanted}
use Rattle.coordinator.specs.Node.{Node, life, with_family, family_of}
use Rattle.coordinator.specs.NodeRecords.{record_of, record_says}

-- the node, what the call is answered or why it is refused, and the words that go out, in order
pub record Applied : Type 0 where
  pub node : Node
  pub answer : Result StepAnswer NodeFault
  pub words : List Outward

abbrev pub refuses : NodeFault → Node → Applied
refuses fault n = record { node = n; answer = Err fault; words = [] }

-- what stands once the journal has answered: an append leaves its record, and a Done takes away the one that it names
abbrev pub journaled : Option Wanted → Option Stood → Found → Found
journaled (Some (Appends item)) (Some (answers.Stands place)) found = with_record found place item
journaled (Some (WritesDone named)) (Some (answers.Stands place)) found = with_record found place (Done named)
journaled asked stood found = found

-- a step of a family
abbrev pub answer_of : Family → Stepped → StepAnswer
answer_of f s = record { position = length f.entries; said = s.said; finished = s.finished; effects = s.effects }

abbrev pub steps_to : Node → Family → Event → Option Stood → Stepped → Applied
steps_to n f e stood s = record {
  node = with_family s.family (record n { found = journaled (wanted f e) stood n.found });
  answer = Ok (answer_of f s);
  words = s.words;
}

abbrev pub by_family : Family → Event → Option Stood → Node → Applied
by_family f e stood n = if has_room f.entries e then steps_to n f e stood (family_step f e stood) else refuses faults.NoResources n

-- an answer without a family: nothing waits for it there
abbrev pub alone : Said → List Effect → StepAnswer
alone answer happened = record { position = 0; said = answer; finished = []; effects = happened }

abbrev pub replies : Option Said → Node → Applied
replies (Some answer) n = record { node = n; answer = Ok (alone answer []); words = [] }
replies None n = refuses faults.ObjectNotExist n

-- a call on what only a record knows
abbrev pub by_record : ObjectKey → Event → Node → Applied
by_record k e n = replies (option_and_then (record_says k e.key e.act) (record_of k n)) n

-- the records once an answer was heard; where it completes one whose Done stands then, this is held no more
abbrev pub records_with : Option ℕ → Option Stood → List Held → List Held
records_with (Some place) (Some (answers.Stands done)) records = without place records
records_with place stood records = records

-- which is told
abbrev pub done_told : Option ℕ → Option Stood → List Effect
done_told (Some place) (Some (answers.Stands done)) = effects.Done ∷ []
done_told place stood = []

-- the Done that an answer to a word which was told again asks of the journal
abbrev pub done_wanted : CallNumber → Heard → Node → Option Wanted
done_wanted n h node = option_map WritesDone (completed (life node) n h node.recovered)

abbrev pub records_hear : CallNumber → Heard → Option Stood → Node → Applied
records_hear n h stood node =
    let complete : Option ℕ = completed (life node) n h node.recovered in
    record {
      node = record node {
        found = journaled (done_wanted n h node) stood node.found;
        recovered = records_with complete stood (records_after (life node) n h node.recovered);
      };
      answer = Ok (alone said.Plain (done_told complete stood));
      words = [];
    }

-- an answer to a word that was told again goes by its number alone, whatever its key
unfoldable pub hears_record : CallNumber → Heard → Option Stood → Node → Applied
hears_record n h stood node =
    if is_held n.generation node.recovered then records_hear n h stood node else refuses faults.ObjectNotExist node

-- an answer to a word that was told again
pub record RetoldAnswer : Type 0 where
  pub number : CallNumber
  pub heard : Heard

abbrev pub retold_answer : Act → Option RetoldAnswer
retold_answer (acts.Answer n h) = if n.slot == retold_slot then Some (record { number = n; heard = h }) else None
retold_answer _ = None

-- what is answered by the records alone
abbrev pub by_records : Option RetoldAnswer → ObjectKey → Event → Option Stood → Node → Applied
by_records (Some a) k e stood n = hears_record a.number a.heard stood n
by_records None k e stood n = by_record k e n

unfoldable pub answers_recovered : ObjectKey → Event → Option Stood → Node → Applied
answers_recovered k e stood n = by_records (retold_answer e.act) k e stood n

-- the family that an event is for
abbrev pub family_for : ObjectKey → Event → Node → Option Family
family_for k e n = if is_some (retold_answer e.act) then None else family_of k n

abbrev pub applied_by : Option Family → ObjectKey → Event → Option Stood → Node → Applied
applied_by (Some f) k e stood n = by_family f e stood n
applied_by None k e stood n = answers_recovered k e stood n

-- a call to a node, where this is what the journal answered in it
unfoldable pub applies : ObjectKey → Event → Option Stood → Node → Applied
applies k e stood n = applied_by (family_for k e n) k e stood n

-- what a call asks of the journal
abbrev pub family_wants : Family → Event → Option Wanted
family_wants f e = if has_room f.entries e then wanted f e else None

abbrev pub records_want : Option RetoldAnswer → Node → Option Wanted
records_want (Some a) n = done_wanted a.number a.heard n
records_want None n = None

abbrev pub wanted_by : Option Family → Event → Node → Option Wanted
wanted_by (Some f) e n = family_wants f e
wanted_by None e n = records_want (retold_answer e.act) n

unfoldable pub call_wants : ObjectKey → Event → Node → Option Wanted
call_wants k e n = wanted_by (family_for k e n) e n
