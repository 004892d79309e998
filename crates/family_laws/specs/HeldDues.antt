-- What ends a due of a record that a node holds (Transaction Service, the operations of interface Resource).
use Rattle.std.specs.Prelude.{◌≡◌, ◌⊎◌, ℕ, List, Option, Some, Contains, IsTrue}
use Rattle.std.specs.List.{AllByRecursion}
use Rattle.ior_refs.specs.declared.key.ObjectKey.{ObjectKey}
use Rattle.ots_model.specs.declared.completion.CallNumber.{CallNumber}
use Rattle.ots_model.specs.declared.completion.Ground.TheVariants.{Record}
use Rattle.ots_model.specs.declared.completion.Heard.TheVariants.{Voted}
use Rattle.ots_model.specs.declared.completion.Stood.{Stood}
use Rattle.ots_model.specs.declared.completion.Vote.TheVariants.{VoteCommit}
use Rattle.ots_model.specs.declared.tree.Heard.{Heard}
use Rattle.ots_model.specs.declared.completion.Heard.TheVariants as phase_hears
use Rattle.ots_model.specs.declared.tree.Heard.TheVariants as hears
use Rattle.ots_model.specs.declared.completion.Outcome.TheVariants.{Commit}
use Rattle.two_phase.specs.Parties.{has_completed}
use Rattle.two_phase.specs.Stages as stages
use Rattle.two_phase.specs.Stages.{Standing, Waiting, Going as UnderWay}
use Rattle.two_phase.specs.declared.party.Party.{Party as Participant}
use Rattle.recovery_coord.specs.Held.{is_decided}
use Rattle.recovery_coord.specs.Limits.{retold_slot}
use Rattle.recovery_coord.specs.declared.held.Due.TheVariants as due
use Rattle.recovery_coord.specs.declared.held.Held.{Held}
use Rattle.recovery_coord.specs.declared.held.Party.{Party}
use Rattle.coordinator.specs.declared.event.Act.TheVariants as acts
use Rattle.coordinator.specs.declared.event.Event.{Event}
use Rattle.coordinator.specs.Family.{Family}
use Rattle.coordinator.specs.Node.{Node, family_in, life}
use Rattle.coordinator.specs.NodeCalls.{applies}
use Rattle.coordinator.specs.NodeSlots.{creates}
use Rattle.coordinator.specs.NodeTick.{ticks}
use Rattle.coordinator.specs.Step.{is_finished}

-- a registration of a record at this place waited for nothing before
pub record WasDone (records : List Held) (place : ℕ) (p : Party) : Type 0 where
  pub held : Held
  pub there : Contains records held
  pub same_place : held.place ≡ place
  pub party : Party
  pub among : Contains held.parties party
  pub number : party.index ≡ p.index
  pub reference : party.to ≡ p.to
  pub done : party.due ≡ due.Nothing

-- it has answered its word, which was told again in this life, plainly; or nobody knows of it any more
pub record IsAnsweredBy (lives : ℕ) (e : Event) (place : ℕ) (p : Party) : Type 0 where
  pub number : CallNumber
  pub heard : Heard
  pub answer : e.act ≡ acts.Answer number heard
  pub told_again : number.slot ≡ retold_slot
  pub same_life : number.life ≡ lives
  pub of_record : number.generation ≡ place
  pub of_party : number.serial ≡ p.index
  pub done : (heard ≡ hears.Phase phase_hears.Done) ⊎ (heard ≡ hears.Phase phase_hears.NoObject)

-- a finished family is through with a registration: where it is committed, each participant of this number that has voted commit
-- has completed
abbrev pub IsThrough : Standing → ℕ → Type 0
IsThrough (Waiting room) index = ⊥
IsThrough (UnderWay c) index =
    AllByRecursion (λ (q : Participant). q.index ≡ index → q.ballot ≡ Some (Voted VoteCommit) → IsTrue (has_completed q)) c.parties

-- the finished family that is decided by the record at this place
pub record IsOverFor (families : List (Option Family)) (place index : ℕ) : Type 0 where
  pub slot : ℕ
  pub family : Family
  pub there : family_in families slot ≡ Some family
  pub finished : IsTrue (is_finished family)
  pub decided : stages.record_place family.completion ≡ Some place
  pub through : stages.outcome family.completion ≡ Some (Commit Record) → IsThrough family.completion index

-- what a decision that a node holds is through with, it was through with before, or the family was whose record it takes over
pub record HeldDuesEndWithFamilies : Type 0 where
  pub made : (now seconds : ℕ) (n : Node) (h : Held) (p : Party) → Contains (creates now seconds n).node.recovered h → IsTrue (is_decided h.kind)
      → Contains h.parties p → p.due ≡ due.Nothing → WasDone n.recovered h.place p ⊎ IsOverFor n.families h.place p.index
  pub ticked : (now : ℕ) (n : Node) (h : Held) (p : Party) → Contains (ticks now n).node.recovered h → IsTrue (is_decided h.kind)
      → Contains h.parties p → p.due ≡ due.Nothing → WasDone n.recovered h.place p ⊎ IsOverFor (ticks now n).node.families h.place p.index

-- in a call to a node a due of what it holds ends by such an answer alone
abbrev pub HeldDuesEndByAnswers : Type 0
HeldDuesEndByAnswers = (k : ObjectKey) (e : Event) (stood : Option Stood) (n : Node) (h : Held) (p : Party)
    → Contains (applies k e stood n).node.recovered h → Contains h.parties p → p.due ≡ due.Nothing
    → WasDone n.recovered h.place p ⊎ IsAnsweredBy (life n) e h.place p
