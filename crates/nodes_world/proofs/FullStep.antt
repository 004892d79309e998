-- What a step of a family keeps that hears the last vote, where the journal has no room for the decision: the family is rolled back.
use Rattle.std.proofs.Common.{◌≡◌, inr, ℕ, ◌&&◌, Bool, true, false, not, is_none, if◌then◌else◌, List, Option, Some, None, refl, sym, ap, subst, ◌∙◌}
use Rattle.ots_model.specs.Heard.{of_participant}
use Rattle.ots_model.specs.declared.completion.CallNumber.{CallNumber}
use Rattle.ots_model.specs.declared.completion.Ground.TheVariants.{Record}
use Rattle.ots_model.specs.declared.completion.Heard.TheVariants as phase_hears
use Rattle.ots_model.specs.declared.completion.Stood.{Stood}
use Rattle.ots_model.specs.declared.completion.Stood.TheVariants as answers
use Rattle.ots_model.specs.declared.completion.Vote.{Vote}
use Rattle.ots_model.specs.declared.completion.Outcome.TheVariants as outcomes
use Rattle.ots_model.specs.declared.tree.Outward.{Outward}
use Rattle.resource_votes.specs.declared.registration.Registration.{Registration}
use Rattle.two_phase.specs.Course as course
use Rattle.two_phase.specs.Course.{Course}
use Rattle.two_phase.specs.LawsOfReached.{IsReached}
use Rattle.two_phase.specs.LawsOfReached.IsReached.{goes_on}
use Rattle.two_phase.specs.LawsOfReached.TreeBecomes.{by_answer, by_record}
use Rattle.two_phase.specs.Stages as stages
use Rattle.two_phase.specs.Stages.{Standing, Waiting, Going as UnderWay}
use Rattle.coordinator.specs.declared.call.Leg.TheVariants.{Deciding}
use Rattle.coordinator.specs.declared.said.Said.{Said}
use Rattle.coordinator.specs.Family.{Family, Call, call_at, waiting_for}
use Rattle.coordinator.specs.Hearing.{closes, decided, doubts_by, settles, wants_done}
use Rattle.coordinator.specs.Laws.{IsThere}
use Rattle.coordinator.specs.Moves.{Moved, only, ◌▹◌, completes_as}
use Rattle.coordinator.specs.Step.{family_step, hears}
use Rattle.nodes_world.specs.CompletionLaws.{CompletionLaws}
use Rattle.nodes_world.specs.Deliveries.{answer_event, heard_in}
use Rattle.nodes_world.specs.AgreementInside.{is_asking}
use Rattle.nodes_world.proofs.AskedCounts.{settles_counts, step_from}
use Rattle.nodes_world.proofs.AskedKeeps.{completion_then, plain_cause}
use Rattle.nodes_world.proofs.RulesKeep.{ArePartiesOf, IsKept, IsTidy, Rule, completes_keep, kept_itself, only_keeps, then_keeps}

-- ---- the completion

open_before : (a b d e f : Bool) → (a && b && d && e && f) ≡ true → b ≡ true
open_before true true d e f is = refl
open_before true false d e f is = absurd cc
open_before false b d e f is = absurd cc

none_is : {A : Type 0} (o : Option A) → is_none o ≡ true → o ≡ None
none_is None is = refl
none_is (Some x) is = absurd cc

never : (a b e f : Bool) → (a && b && false && e && f) ≡ false
never true true e f = refl
never true false e f = refl
never false b e f = refl

module _ (completions : CompletionLaws) (used need : ℕ) where
  abbrev full : Stood
  full = answers.Full used need

  -- where no record comes to stand
  not_recorded : (k : Course) → IsReached k → k.stood ≡ Some full → course.outcome k ≡ Some (outcomes.Commit Record) → ⊥
  not_recorded k reached stood is =
      let recorded = completions.causes k (outcomes.Commit Record) reached is in
      no (sym (ap (λ (x : Option Stood). course.record_place x k.reread) stood) ∙ recorded.stands)
    where
      no : {x : ℕ} → None ≡ Some x → ⊥
      no e = cc

  full_kept : (k : Course) → IsReached k → course.wants_decision k ≡ true → IsKept (UnderWay k) (UnderWay (record k { stood = Some full }))
  unfolding course.all_consent course.some_commit
  full_kept k reached wants =
      let later : Course = record k { stood = Some full } in
      let there : IsReached later = subst (λ (t : Bool). IsReached (if t then record k { stood = Some full } else k)) wants (goes_on k _ reached (by_record k full)) in
      let overtaken : k.overtaken ≡ None = none_is k.overtaken (open_before (not (course.decides_alone k)) (is_none k.overtaken) (is_none k.stood) (course.all_consent k) (course.some_commit k) wants) in
      record {
        voted = λ g vote is. is;
        votes = λ g vote is. is;
        commits = λ is. absurd (not_recorded later there refl is);
        reasons = λ why is. inr (plain_cause why later overtaken (completions.causes later (outcomes.Rollback why) there is));
        wants = λ is. never (not (course.decides_alone k)) (is_none k.overtaken) (course.all_consent k) (course.some_commit k);
        decides = λ asks is. (asks, is);
      }

  -- of any completion by which a decision is wanted
  decided_kept : (s : Standing) → IsThere s → stages.wants_decision s ≡ true → IsKept s (stages.after_decided full s)
  decided_kept (Waiting room) there wants = absurd cc
  decided_kept (UnderWay k) there wants =
      subst (λ (t : Bool). IsKept (UnderWay k) (UnderWay (if t then record k { stood = Some full } else k))) (sym wants) (full_kept k there wants)

  decided_parties : (s : Standing) (rs : List Registration) → ArePartiesOf rs s → ArePartiesOf rs (stages.after_decided full s)
  decided_parties (Waiting room) rs all = tt
  decided_parties (UnderWay k) rs all = by (course.wants_decision k)
    where
      by : (t : Bool) → ArePartiesOf rs (UnderWay (if t then record k { stood = Some full } else k))
      by true = all
      by false = all

  decided_wants : (s : Standing) → stages.wants_decision s ≡ true → stages.wants_decision (stages.after_decided full s) ≡ false
  unfolding course.all_consent course.some_commit
  decided_wants (Waiting room) wants = refl
  decided_wants (UnderWay k) wants =
      subst (λ (t : Bool). course.wants_decision (if t then record k { stood = Some full } else k) ≡ false) (sym wants)
      (never (not (course.decides_alone k)) (is_none k.overtaken) (course.all_consent k) (course.some_commit k))

  -- ---- the family

  abbrev decides_full : Family → Moved
  decides_full g = completes_as (stages.after_decided full g.completion) g ▹ doubts_by full

  settled_by : (P : Moved → Type 0) (g : Family) → stages.wants_decision g.completion ≡ true → P (decides_full g) → P (settles (Some full) g)
  unfolding settles decided
  settled_by P g wants is =
      subst (λ (t : Bool). P (if t then completes_as (stages.after_decided full g.completion) g ▹ doubts_by full else if wants_done g then closes full g else only g)) (sym wants) is

  settles_full : (g : Family) → IsThere g.completion → stages.wants_decision g.completion ≡ true → Rule g (settles (Some full) g)
  settles_full g there wants =
      settled_by (Rule g) g wants
      (then_keeps g (completes_as (stages.after_decided full g.completion) g) (doubts_by full)
      (completes_keep (stages.after_decided full g.completion) g (decided_kept g.completion there wants) (decided_parties g.completion g.ballots.registrations))
      (only_keeps (completes_as (stages.after_decided full g.completion) g).family))

  settles_as : (g : Family) → stages.wants_decision g.completion ≡ true → (settles (Some full) g).family.completion ≡ stages.after_decided full g.completion
  unfolding completes_as
  settles_as g wants = settled_by (λ (m : Moved). m.family.completion ≡ stages.after_decided full g.completion) g wants refl

module _ (completions : CompletionLaws) (f : Family) (o : Outward) (answer : Said) (now : ℕ) (c : Call) (waits : waiting_for f o.number ≡ Some 0) (at : call_at f 0 ≡ Some c)
    (decides : c.leg ≡ Deciding) (there : IsThere f.completion) (asks : is_asking f.completion ≡ true) (vote : Vote)
    (votes : of_participant (heard_in answer) ≡ phase_hears.Voted vote) (used need : ℕ)
    (wants : stages.wants_decision (hears o.number (heard_in answer) f).family.completion ≡ true) where
  abbrev g : Family
  g = (hears o.number (heard_in answer) f).family

  there_still : IsThere g.completion
  there_still =
      subst IsThere (sym (completion_then completions f o.number (heard_in answer) c waits at decides there asks)) (by _ f.completion there)
    where
      by : (m : CallNumber) (s : Standing) → IsThere s → IsThere (stages.after_answer m (of_participant (heard_in answer)) s)
      by m (Waiting room) there = tt
      by m (UnderWay k) there = goes_on k _ there (by_answer k m (of_participant (heard_in answer)))

  pub settled_full : Rule g (settles (Some (answers.Full used need)) g)
  settled_full = settles_full completions used need g there_still wants

  -- no decision is wanted then
  pub full_decides : IsTidy f → stages.wants_decision (family_step f (answer_event o answer now) (Some (answers.Full used need))).family.completion ≡ false
  full_decides tidy =
      let x = settles_counts completions f o answer now c waits at decides there asks vote votes (Some (answers.Full used need)) settled_full tidy in
      let m : Moved = hears o.number (heard_in answer) f ▹ settles (Some (answers.Full used need)) in
      (step_from completions f o answer now c waits at decides there asks vote votes (Some (answers.Full used need)) settled_full m.family.completion
      (record { tidy = x.tidy; rows = x.rows; registrations = x.registrations; on = x.on; back = x.back; words = x.words; kept = kept_itself m.family.completion })).kept.wants
      (ap stages.wants_decision (settles_as completions used need g wants) ∙ decided_wants completions used need g.completion wants)
