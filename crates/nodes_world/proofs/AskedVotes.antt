-- The votes that were heard stay where a participant answers that is asked, and no other one counts then where it gives none.
use Rattle.std.proofs.Common.{◌≡◌, ℕ, Bool, true, false, if◌then◌else◌, Any, Option, Some, None, sym, ap, subst, ◌∙◌}
use Rattle.ots_model.specs.declared.completion.CallNumber.{CallNumber}
use Rattle.ots_model.specs.declared.completion.Heard.{Heard as ParticipantHeard}
use Rattle.ots_model.specs.declared.completion.Heard.TheVariants as phase_hears
use Rattle.ots_model.specs.declared.completion.Vote.{Vote}
use Rattle.two_phase.specs.Course as course
use Rattle.two_phase.specs.Course.{Course}
use Rattle.two_phase.specs.Stages as stages
use Rattle.two_phase.specs.Stages.{Standing, Waiting, Going as UnderWay}
use Rattle.two_phase.specs.declared.party.Errand.{Errand}
use Rattle.two_phase.specs.declared.party.Stage.{Stage as Round}
use Rattle.coordinator.specs.Laws.{IsThere}
use Rattle.family_laws.specs.LawsOfTelling.{HasVote, IsVoted}
use Rattle.nodes_world.specs.CompletionLaws.{CompletionLaws}
use Rattle.nodes_world.specs.AgreementInside.{is_asking}
use Rattle.nodes_world.proofs.AnswersKeep.{any_back, any_set}
use Rattle.nodes_world.proofs.AskedCalls.{IsAskedOf, asked_of}

module _ (completions : CompletionLaws) (c : Course) (asked : IsAskedOf c) (n : CallNumber) (h : ParticipantHeard) (g : ℕ) (vote : Vote) where
  -- the one that is asked hasn't voted
  not_voted : HasVote g vote asked.party → HasVote g vote (course.heard_at asked.errand.stage h asked.party)
  not_voted had = absurd (no (sym asked.unheard ∙ had.1))
    where
      no : None ≡ Some (phase_hears.Voted vote) → ⊥
      no e = cc

  kept_by : IsVoted (UnderWay c) g vote → (t : Bool) → IsVoted (UnderWay (if t then course.answered h c asked.errand else c)) g vote
  kept_by voted true =
      subst (Any (HasVote g vote)) (sym (completions.changes c.parties asked.errand h asked.party asked.there))
      (any_set (HasVote g vote) c.parties asked.errand.place asked.party (course.heard_at asked.errand.stage h asked.party) asked.there not_voted voted)
  kept_by voted false = voted

  abbrev AfterIs : Bool → Option Errand → Type 0
  AfterIs t o = IsVoted (UnderWay (elim o as (λ _. Course) [ Some e ↦ if t then course.answered h c e else c | None ↦ c ])) g vote

  by_errand : IsVoted (UnderWay c) g vote → (t : Bool) (o : Option Errand) → o ≡ Some asked.errand → AfterIs t o
  by_errand voted t o is = subst (AfterIs t) (sym is) (kept_by voted t)

  votes_last : IsVoted (UnderWay c) g vote → IsVoted (UnderWay (course.after_answer n h c)) g vote
  votes_last voted = by_errand voted _ c.out asked.out

  -- it gives none
  module _ (none : h ≡ phase_hears.Voted vote → ⊥) where
    gives_none : HasVote g vote (course.heard_at asked.errand.stage h asked.party) → HasVote g vote asked.party
    gives_none had = absurd (none (inner (sym (ap (λ (r : Round). (course.heard_at r h asked.party).ballot) asked.round) ∙ had.1)))
      where
        inner : {x y : ParticipantHeard} → Some x ≡ Some y → x ≡ y
        inner e = cc

    back_by : (t : Bool) → IsVoted (UnderWay (if t then course.answered h c asked.errand else c)) g vote → IsVoted (UnderWay c) g vote
    back_by true voted =
        any_back (HasVote g vote) c.parties asked.errand.place asked.party (course.heard_at asked.errand.stage h asked.party) asked.there gives_none
        (subst (Any (HasVote g vote)) (completions.changes c.parties asked.errand h asked.party asked.there) voted)
    back_by false voted = voted

    back_by_errand : (t : Bool) (o : Option Errand) → o ≡ Some asked.errand → AfterIs t o → IsVoted (UnderWay c) g vote
    back_by_errand t o is voted = back_by t (subst (AfterIs t) is voted)

    no_other_vote : IsVoted (UnderWay (course.after_answer n h c)) g vote → IsVoted (UnderWay c) g vote
    no_other_vote voted = back_by_errand _ c.out asked.out voted

-- the same of any completion
pub votes_stay : CompletionLaws → (s : Standing) → IsThere s → is_asking s ≡ true → (n : CallNumber) (h : ParticipantHeard) (g : ℕ) (vote : Vote) → IsVoted s g vote
    → IsVoted (stages.after_answer n h s) g vote
votes_stay completions (Waiting room) there asks n h g vote voted = voted
votes_stay completions (UnderWay c) there asks n h g vote voted = votes_last completions c (asked_of completions c there asks) n h g vote voted

pub no_vote_comes : CompletionLaws → (s : Standing) → IsThere s → is_asking s ≡ true → (n : CallNumber) (h : ParticipantHeard) (g : ℕ) (vote : Vote)
    → (h ≡ phase_hears.Voted vote → ⊥) → IsVoted (stages.after_answer n h s) g vote → IsVoted s g vote
no_vote_comes completions (Waiting room) there asks n h g vote none voted = voted
no_vote_comes completions (UnderWay c) there asks n h g vote none voted = no_other_vote completions c (asked_of completions c there asks) n h g vote none voted
