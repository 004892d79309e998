-- Short runs of a node: families are made and work, the node crashes and is loaded, and records are told again (our profile
-- where the standard leaves it open).
use Rattle.std.specs.Prelude.{◌≡◌, ℕ, false, List, [], ◌∷◌, map, Some, Result, Ok, Err}
use Rattle.ior_refs.specs.declared.key.ObjectKey.{ObjectKey}
use Rattle.ots_model.specs.declared.completion.CallNumber.{CallNumber}
use Rattle.ots_model.specs.declared.completion.Vote.TheVariants.{VoteCommit}
use Rattle.ots_model.specs.declared.service.Status.TheVariants as status
use Rattle.ots_model.specs.declared.completion.Heard.{Heard as PhaseHeard}
use Rattle.ots_model.specs.declared.completion.Heard.TheVariants as phase_hears
use Rattle.ots_model.specs.declared.tree.Heard.TheVariants as hears
use Rattle.ots_model.specs.declared.tree.Outward.{Outward}
use Rattle.ots_model.specs.declared.completion.Word.{Word as PhaseWord}
use Rattle.ots_model.specs.declared.tree.Word.{Word}
use Rattle.ots_model.specs.declared.completion.Word.TheVariants as phase_words
use Rattle.ots_model.specs.declared.tree.Word.TheVariants as words
use Rattle.decision_journal.specs.declared.journal.Standing.{Standing}
use Rattle.decision_journal.specs.declared.record.JournalRecord.{JournalRecord}
use Rattle.decision_journal.specs.declared.record.JournalRecord.TheVariants.{Life, Decision}
use Rattle.coordinator.specs.declared.effect.Effect.{Effect}
use Rattle.coordinator.specs.declared.effect.Effect.TheVariants as effects
use Rattle.coordinator.specs.declared.event.Act.TheVariants as acts
use Rattle.coordinator.specs.declared.node.NodeFault.{NodeFault}
use Rattle.coordinator.specs.declared.node.NodeFault.TheVariants as faults
use Rattle.coordinator.specs.declared.said.Said.{Said}
use Rattle.coordinator.specs.declared.said.Said.TheVariants as said
use Rattle.coordinator.specs.declared.said.StepAnswer.{StepAnswer}
use Rattle.coordinator.specs.Limits.{last_slot}
use Rattle.coordinator.specs.Plays.{Turn, first_key, on, keyed, heard, stands, register, one, other, decides_record}
use Rattle.coordinator.specs.Node.{Node, load, life}
use Rattle.coordinator.specs.NodeSlots.{creates}
use Rattle.coordinator.specs.NodeCalls.{Applied, applies}
use Rattle.coordinator.specs.NodeTick.{ticks}

-- a word that goes out: its number, and what it is
pub record NodeSent : Type 0 where
  pub number : CallNumber
  pub word : Word

abbrev pub node_sent : Outward → NodeSent
node_sent o = record { number = o.number; word = o.word }

-- what a call shows: what is said, or why it is refused, the words that go out, and what happened
pub record CallShown : Type 0 where
  pub said : Result Said NodeFault
  pub words : List NodeSent
  pub effects : List Effect

abbrev pub said_by : Result StepAnswer NodeFault → Result Said NodeFault
said_by (Ok a) = Ok a.said
said_by (Err fault) = Err fault

abbrev pub effects_of : Result StepAnswer NodeFault → List Effect
effects_of (Ok a) = a.effects
effects_of (Err fault) = []

abbrev pub call_shown : Applied → CallShown
call_shown a = record { said = said_by a.answer; words = map node_sent a.words; effects = effects_of a.answer }

-- a node after some calls with a key, and what each call shows
abbrev pub after_calls : ObjectKey → List Turn → Node → Node
after_calls k [] n = n
after_calls k (t ∷ others) n = after_calls k others (applies k t.event t.stood n).node

abbrev pub calls_show : ObjectKey → List Turn → Node → List CallShown
calls_show k [] n = []
calls_show k (t ∷ others) n = call_shown (applies k t.event t.stood n) ∷ calls_show k others (applies k t.event t.stood n).node

-- a new node in its first life, and one with a family
abbrev pub new_node : Node
new_node = load 1 []

abbrev pub with_one : Node
with_one = (creates 0 0 new_node).node

-- two resources vote commit, and the decision record stands at place 26
abbrev pub to_record : List Turn
to_record =
    register 0 one ∷ register 0 other ∷ keyed 3 (on 0 (acts.Commit false)) ∷ heard 1 (phase_hears.Voted VoteCommit)
    ∷ stands (heard 2 (phase_hears.Voted VoteCommit)) ∷ []

abbrev pub of_tree : ℕ → PhaseWord → List NodeSent
of_tree serial w =
    record { number = record { life = 1; slot = 0; generation = 1; serial = serial }; word = words.Phase w } ∷ []

abbrev pub says_only : Said → CallShown
says_only answer = record { said = Ok answer; words = []; effects = [] }

abbrev pub refused : NodeFault → CallShown
refused fault = record { said = Err fault; words = []; effects = [] }

abbrev pub shows_words : Said → List NodeSent → List Effect → CallShown
shows_words answer some happened = record { said = Ok answer; words = some; effects = happened }

-- the record that the family leaves
abbrev pub left : JournalRecord
left = Decision 1 0 1 (Some (record { client = 1; number = 3 })) false
    (record { index = 1; reference = one } ∷ record { index = 2; reference = other } ∷ [])

abbrev pub left_standing : List Standing
left_standing = record { place = 26; item = left } ∷ []

-- a crash after the record: the next life tells it again
abbrev pub crashed : Node
crashed = load 1 (Life 1 ∷ left ∷ [])

-- a crash before it: nothing is left
abbrev pub crashed_before : Node
crashed_before = load 1 (Life 1 ∷ [])

-- the number of a word that is told again in the second life
abbrev pub again_number : ℕ → CallNumber
again_number index = record { life = 2; slot = 4294967295; generation = 26; serial = index }

abbrev pub commit_again : ℕ → NodeSent
commit_again index = record { number = again_number index; word = words.Phase phase_words.Commit }

abbrev pub hears_again : ℕ → PhaseHeard → Turn
hears_again index h = on 0 (acts.Answer (again_number index) (hears.Phase h))

-- the keys by which the record answers: those of its terminator and of its recovery coordinators
abbrev pub terminator : ObjectKey
terminator = record first_key { kind = 84 }

abbrev pub recovery : ℕ → ObjectKey
recovery index = record first_key { kind = 86; index = index }

abbrev pub replay : ℕ → List ℕ → Turn
replay index resource = on index (acts.Replay index resource)

-- one resource answers, and then the other, after which the Done stands; a stale answer counts for nothing
abbrev pub both_answer : List Turn
both_answer = hears_again 1 phase_hears.Done ∷ hears_again 1 phase_hears.Other ∷ stands (hears_again 2 phase_hears.NoObject) ∷ hears_again 2 phase_hears.Done ∷ []

-- the first family has ended, and the others are to be made in turn from its slot on
abbrev pub ended_one : Node
ended_one = after_calls first_key (on 0 acts.Rollback ∷ []) with_one

abbrev pub round : Node → Node
round n = record n { last = last_slot }

-- what these runs show
pub record NodesPlay : Type 0 where
  -- slots and numbers are given in turn
  pub first_is_made : (creates 0 0 new_node).answer ≡ Ok first_key
  pub second_is_made : (creates 0 0 with_one).answer ≡ Ok (record first_key { slot = 1; generation = 2 })
  -- a slot is given again once its family is finished, with a new number; until then the next one is
  pub slot_is_given_again : (creates 0 0 (round ended_one)).answer ≡ Ok (record first_key { generation = 2 })
  pub slot_is_kept : (creates 0 0 (round with_one)).answer ≡ Ok (record first_key { slot = 1; generation = 2 })
  -- its old key names nothing then
  pub old_key_is_gone : calls_show first_key (on 0 acts.GetStatus ∷ []) (creates 0 0 (round ended_one)).node ≡ refused faults.ObjectNotExist ∷ []
  -- up to the decision record
  pub works : calls_show first_key to_record with_one
      ≡ says_only (said.Made 1) ∷ says_only (said.Made 2) ∷ shows_words said.Later (of_tree 1 phase_words.Prepare) []
      ∷ shows_words said.Plain (of_tree 2 phase_words.Prepare) (effects.Voted 1 VoteCommit ∷ [])
      ∷ shows_words said.Plain (of_tree 3 phase_words.Commit) (effects.Voted 2 VoteCommit ∷ decides_record ∷ []) ∷ []
  pub record_stands : (after_calls first_key to_record with_one).found.standing ≡ left_standing
  -- its crash: the record is told again in the next life
  pub next_life : life crashed ≡ 2
  pub record_is_found : crashed.found.standing ≡ left_standing
  pub tells_again : map node_sent (ticks 5 crashed).words ≡ commit_again 1 ∷ commit_again 2 ∷ []
  pub hears_both : calls_show first_key both_answer crashed
      ≡ says_only said.Plain ∷ says_only said.Plain ∷ shows_words said.Plain [] (effects.Done ∷ []) ∷ refused faults.ObjectNotExist ∷ []
  pub tells_the_rest : map node_sent (ticks 5 (after_calls first_key (hears_again 1 phase_hears.Done ∷ []) crashed)).words ≡ commit_again 2 ∷ []
  pub nothing_is_left : (after_calls first_key both_answer crashed).found.standing ≡ []
  pub nothing_is_told : (ticks 5 (after_calls first_key both_answer crashed)).words ≡ []
  -- what the record answers
  pub commit_comes_again : calls_show terminator (keyed 3 (on 0 (acts.Commit false)) ∷ on 0 acts.Rollback ∷ []) crashed
      ≡ says_only said.Plain ∷ says_only said.InvalidTransaction ∷ []
  pub participant_asks : calls_show (recovery 1) (replay 1 one ∷ replay 1 other ∷ []) crashed
      ≡ says_only (said.State status.Committing) ∷ says_only said.NotPrepared ∷ []
  pub another_asks : calls_show (recovery 3) (replay 3 one ∷ []) crashed ≡ refused faults.ObjectNotExist ∷ []
  -- a crash before the record leaves nothing, and a participant learns that
  pub life_without_record : life crashed_before ≡ 2
  pub nothing_was_left : (ticks 5 crashed_before).words ≡ []
  pub nobody_knows : calls_show (recovery 1) (replay 1 one ∷ []) crashed_before ≡ refused faults.ObjectNotExist ∷ []
