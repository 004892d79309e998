-- What a completion is that wanted a decision, once the journal has answered.
use Rattle.std.proofs.Common.{◌≡◌, ◌&&◌, Bool, true, false, not, is_none, if◌then◌else◌, List, ℕ, map, filter, Option, Some, None, refl, sym, ap, subst, ◌∙◌}
use Rattle.std.specs.List.{list_all}
use Rattle.ots_model.specs.declared.completion.CallNumber.{CallNumber}
use Rattle.ots_model.specs.declared.completion.Ground.TheVariants.{Record}
use Rattle.ots_model.specs.declared.completion.Heard.{Heard as ParticipantHeard}
use Rattle.ots_model.specs.declared.completion.Stood.{Stood}
use Rattle.ots_model.specs.declared.completion.Stood.TheVariants as answers
use Rattle.ots_model.specs.declared.completion.Vote.{Vote}
use Rattle.ots_model.specs.declared.completion.Outcome.TheVariants as outcomes
use Rattle.resource_votes.specs.declared.registration.Registration.{Registration}
use Rattle.two_phase.specs.Course as course
use Rattle.two_phase.specs.Course.{Course}
use Rattle.two_phase.specs.LawsOfReached.{IsReached}
use Rattle.two_phase.specs.LawsOfReached.IsReached.{goes_on}
use Rattle.two_phase.specs.LawsOfReached.TreeBecomes.{by_record}
use Rattle.two_phase.specs.Parties.{has_consented, has_voted_commit}
use Rattle.two_phase.specs.Stages as stages
use Rattle.two_phase.specs.Stages.{Standing as Completion, Waiting, Going as UnderWay}
use Rattle.two_phase.specs.declared.party.Errand.{Errand}
use Rattle.coordinator.specs.Hearing.{named, recorded}
use Rattle.coordinator.specs.Laws.{IsThere}
use Rattle.family_laws.specs.LawsOfTelling.{IsVoted}
use Rattle.family_laws.specs.Sound.{HasParties, IsWaiting}
use Rattle.nodes_world.specs.CompletionLaws.{CompletionLaws}
use Rattle.nodes_world.specs.AgreementInside.{notice_out, is_asking}
use Rattle.nodes_world.proofs.AskedCalls.{IsAskedOf, asked_of}
use Rattle.nodes_world.proofs.AskedKeeps.{after_is}
use Rattle.nodes_world.proofs.OpenVote.{outcome_then, unanswered_open, unknown_open, unread, unsure, wants_all}
use Rattle.nodes_world.proofs.RecordsLate.{not_yet, some_not}
use Rattle.nodes_world.proofs.RulesKeep.{ArePartiesOf}

never : (a b e f : Bool) → (a && b && false && e && f) ≡ false
never true true e f = refl
never true false e f = refl
never false b e f = refl

no_place : (reread : Option (Option ℕ)) → reread ≡ None → course.record_place (Some unsure) reread ≡ None
no_place None none = refl
no_place (Some found) none = absurd cc

-- ---- the completion, once the journal has answered

-- what holds of each that wants a decision, once the journal has answered, holds of this one
pub decided_as : (stood : Stood) (P : Completion → Type 0) (s : Completion) → IsThere s → stages.wants_decision s ≡ true
    → ((c : Course) → s ≡ UnderWay c → IsReached c → course.wants_decision c ≡ true → P (UnderWay (record c { stood = Some stood }))) → P (stages.after_decided stood s)
decided_as stood P (Waiting room) there wants so = absurd cc
decided_as stood P (UnderWay c) there wants so =
    subst (λ (t : Bool). P (UnderWay (if t then record c { stood = Some stood } else c))) (sym wants) (so c refl there wants)

-- all of whom a completion wants a decision have consented, and another one has the same participants
pub record AreAgreed (s then_is : Completion) : Type 0 where
  pub c : Course
  pub going : then_is ≡ UnderWay c
  pub all : list_all has_consented c.parties ≡ true
  pub same : named s ≡ map recorded (filter has_voted_commit c.parties)

module _ (stood : Stood) (s : Completion) (there : IsThere s) (wants : stages.wants_decision s ≡ true) where
  abbrev then_is : Completion
  then_is = stages.after_decided stood s

  pub then_there : IsThere then_is
  then_there = decided_as stood IsThere s there wants (λ c is reached w.
      subst (λ (t : Bool). IsReached (if t then record c { stood = Some stood } else c)) w (goes_on c _ reached (by_record c stood)))

  pub then_notice : notice_out s ≡ None → notice_out then_is ≡ None
  then_notice none = decided_as stood (λ (x : Completion). notice_out x ≡ None) s there wants (λ c is reached w. sym (ap notice_out is) ∙ none)

  pub then_wants : stages.wants_decision then_is ≡ false
  unfolding course.all_consent course.some_commit
  then_wants = decided_as stood (λ (x : Completion). stages.wants_decision x ≡ false) s there wants
      (λ c is reached w. never (not (course.decides_alone c)) (is_none c.overtaken) (course.all_consent c) (course.some_commit c))

  pub then_alone : stages.decides_alone then_is ≡ false
  then_alone = decided_as stood (λ (x : Completion). stages.decides_alone x ≡ false) s there wants (λ c is reached w. (wants_all c w).alone)

  pub then_parties : (some : List Registration) → HasParties s some → HasParties then_is some
  then_parties some parties = decided_as stood (λ (x : Completion). HasParties x some) s there wants (λ c is reached w. subst (λ (x : Completion). HasParties x some) is parties)

  pub then_registered : (rs : List Registration) → ArePartiesOf rs s → ArePartiesOf rs then_is
  then_registered rs parties = decided_as stood (λ (x : Completion). ArePartiesOf rs x) s there wants (λ c is reached w. subst (ArePartiesOf rs) is parties)

  pub then_votes : (number : ℕ) (vote : Vote) → IsVoted s number vote → IsVoted then_is number vote
  then_votes number vote voted = decided_as stood (λ (x : Completion). IsVoted x number vote) s there wants (λ c is reached w. subst (λ (x : Completion). IsVoted x number vote) is voted)

  pub then_voted : (number : ℕ) (vote : Vote) → IsVoted then_is number vote → IsVoted s number vote
  then_voted number vote = decided_as stood (λ (x : Completion). IsVoted x number vote → IsVoted s number vote) s there wants
      (λ c is reached w voted. subst (λ (x : Completion). IsVoted x number vote) (sym is) voted)

  pub then_going : IsWaiting then_is → ⊥
  then_going = decided_as stood (λ (x : Completion). IsWaiting x → ⊥) s there wants (λ c is reached w waits. waits)

  pub then_agreed : AreAgreed s then_is
  then_agreed = decided_as stood (AreAgreed s) s there wants (λ c is reached w. record { c = record c { stood = Some stood }; going = refl; all = (wants_all c w).consent; same = ap named is })

module _ (s : Completion) (there : IsThere s) (wants : stages.wants_decision s ≡ true) where
  pub unsure_open : stages.outcome (stages.after_decided unsure s) ≡ None
  unsure_open = decided_as unsure (λ (x : Completion). stages.outcome x ≡ None) s there wants (λ c is reached w. unknown_open c reached w)

  pub unsure_place : stages.record_place (stages.after_decided unsure s) ≡ None
  unsure_place = decided_as unsure (λ (x : Completion). stages.record_place x ≡ None) s there wants (λ c is reached w. no_place c.reread (unread c reached (wants_all c w).stood))

  -- where the record stands
  pub stands_commits : (place : ℕ) → stages.outcome (stages.after_decided (answers.Stands place) s) ≡ Some (outcomes.Commit Record)
  stands_commits place =
      decided_as (answers.Stands place) (λ (x : Completion). stages.outcome x ≡ Some (outcomes.Commit Record)) s there wants (λ c is reached w. outcome_then (Some (answers.Stands place)) c w)

  pub stands_place : (place : ℕ) → stages.record_place (stages.after_decided (answers.Stands place) s) ≡ Some place
  stands_place place = decided_as (answers.Stands place) (λ (x : Completion). stages.record_place x ≡ Some place) s there wants (λ c is reached w. refl)

  pub still_open : stages.outcome s ≡ None
  still_open = by s refl there wants
    where
      by : (x : Completion) → s ≡ x → IsThere x → stages.wants_decision x ≡ true → stages.outcome s ≡ None
      by (Waiting room) is reached w = absurd cc
      by (UnderWay c) is reached w = ap stages.outcome is ∙ unanswered_open c w

-- ---- no word is out

abbrev pub out_of : Completion → Option Errand
out_of (Waiting room) = None
out_of (UnderWay c) = c.out

-- it has heard the one that was asked
pub heard_out : CompletionLaws → (n : CallNumber) (h : ParticipantHeard) (s : Completion) → IsThere s → is_asking s ≡ true → stages.wants_decision (stages.after_answer n h s) ≡ true
    → out_of (stages.after_answer n h s) ≡ None
heard_out completions n h (Waiting room) there asks wants = absurd cc
heard_out completions n h (UnderWay k) there asks wants = after_is k asked n h (λ (x : Course). course.wants_decision x ≡ true → x.out ≡ None) (λ w. absurd (not_yet_wanted w)) (λ w. refl) wants
  where
    asked : IsAskedOf k
    asked = asked_of completions k there asks

    not_yet_wanted : course.wants_decision k ≡ true → ⊥
    not_yet_wanted w =
        no (sym (wants_all k w).consent ∙ some_not k.parties asked.errand.place asked.party asked.there (not_yet asked.party asked.unheard))
      where
        no : true ≡ false → ⊥
        no e = cc

pub then_out : (stood : Stood) (s : Completion) (there : IsThere s) (wants : stages.wants_decision s ≡ true) → out_of s ≡ None → out_of (stages.after_decided stood s) ≡ None
then_out stood s there wants none = decided_as stood (λ (x : Completion). out_of x ≡ None) s there wants (λ c is reached w. sym (ap out_of is) ∙ none)

-- so an answer changes nothing
pub hears_nothing : (n : CallNumber) (h : ParticipantHeard) (s : Completion) → out_of s ≡ None → stages.after_answer n h s ≡ s
hears_nothing n h (Waiting room) none = refl
hears_nothing n h (UnderWay c) none = ap UnderWay (by _ c.out none)
  where
    by : (its_own : Bool) (o : Option Errand) → o ≡ None → (elim o as (λ _. Course) [ Some e ↦ if its_own then course.answered h c e else c | None ↦ c ]) ≡ c
    by its_own None is = refl
    by its_own (Some e) is = absurd cc

pub not_asking : (s : Completion) → out_of s ≡ None → is_asking s ≡ false
not_asking (Waiting room) none = refl
not_asking (UnderWay c) none = ap (λ (o : Option Errand). is_asking (UnderWay (record c { out = o }))) none
