-- Which answers to the word that tells the outcome count: those of the participant that is told it, while that word is out.
use Rattle.std.proofs.Common.{◌≡◌, ◌⊎◌, inl, inr, ℕ, List, Option, Some, None, Any, refl, ap, subst, ◌∙◌}
use Rattle.std.specs.List.{AllByRecursion, slice_get}
use Rattle.ots_model.specs.Heard.{of_participant}
use Rattle.ots_model.specs.declared.completion.CallNumber.{CallNumber}
use Rattle.ots_model.specs.declared.completion.Heard.{Heard as ParticipantHeard}
use Rattle.ots_model.specs.declared.completion.Stood.{Stood}
use Rattle.ots_model.specs.declared.tree.Heard.{Heard}
use Rattle.two_phase.specs.Course as course
use Rattle.two_phase.specs.Course.{Course}
use Rattle.two_phase.specs.Stages as stages
use Rattle.two_phase.specs.Stages.{Standing, Waiting, Going as UnderWay}
use Rattle.two_phase.specs.declared.party.Errand.{Errand}
use Rattle.two_phase.specs.declared.party.Party.{Party}
use Rattle.two_phase.specs.declared.party.Stage.{Stage as Asked}
use Rattle.two_phase.specs.declared.party.Stage.TheVariants as asks
use Rattle.coordinator.specs.declared.call.Leg.{Leg}
use Rattle.coordinator.specs.declared.call.Leg.TheVariants.{Below, Own, Before, Deciding, After}
use Rattle.coordinator.specs.Family.{Family, Call, call_at, with_call, waiting_for}
use Rattle.coordinator.specs.Hearing.{hears_at, inner_number, settles, told, told_participant}
use Rattle.coordinator.specs.Moves.{Moved, completes_as}
use Rattle.coordinator.specs.Step.{Stepped, answered, family_step, hears, hears_call, hears_for}
use Rattle.family_laws.specs.LawsOfTelling.{FamiliesHearOutcomesAnswered, HasAnswered, IsAnswered, IsAnsweredNow, told_now}
use Rattle.family_laws.specs.Sound.{IsSoundFamily}
use Rattle.family_laws.proofs.Lists.{any_there}
use Rattle.family_laws.proofs.StepsTell.{IsAnswer, IsStep, goes_on_at_plain, settles_is, step_is}
use Rattle.family_laws.proofs.Sweeping.{is_top}
use Rattle.family_laws.proofs.Telling.{IsKept, IsOther}
use Rattle.family_laws.proofs.Votes.{after_none, after_out, any_set_cases, heard_there, placed, told_before_plain, told_end_plain}

-- the participant of this number is told the outcome, and this is its answer
abbrev IsHeardNow : Standing → ParticipantHeard → ℕ → ParticipantHeard → Type 0
IsHeardNow s heard g x = (heard ≡ x) × (told_now s ≡ Some g)

told_is : (k : Course) (e : Errand) (p : Party) → k.out ≡ Some e → e.stage ≡ asks.Telling → slice_get k.parties e.place ≡ Some p
    → told_now (UnderWay k) ≡ Some p.index
told_is k e p o s i = rw o (rw (s, i) refl)

heard_answer : (k : Course) (e : Errand) (p : Party) (heard : ParticipantHeard) (g : ℕ) (x : ParticipantHeard) → k.out ≡ Some e
    → slice_get k.parties e.place ≡ Some p → (s : Asked) → e.stage ≡ s → HasAnswered g x (course.heard_at s heard p)
    → HasAnswered g x p ⊎ IsHeardNow (UnderWay k) heard g x
heard_answer k e p heard g x o i asks.Asking s h = inl h
heard_answer k e p heard g x o i asks.Telling s h = inr (cc h.1, told_is k e p o s i ∙ ap (λ (y : ℕ). Some y) h.0)
heard_answer k e p heard g x o i asks.Forgetting s h = inl h

answer_before : (k : Course) (heard : ParticipantHeard) (g : ℕ) (x : ParticipantHeard) → IsAnswered (UnderWay (course.after_answer k.number heard k)) g x
    → IsAnswered (UnderWay k) g x ⊎ IsHeardNow (UnderWay k) heard g x
answer_before k heard g x h = by_out k.out refl
  where
    by_place : (e : Errand) → k.out ≡ Some e → (o : Option Party) → slice_get k.parties e.place ≡ o → Any (HasAnswered g x) (course.answered heard k e).parties
        → IsAnswered (UnderWay k) g x ⊎ IsHeardNow (UnderWay k) heard g x
    by_place e i None j a = inl (subst (λ (ps : List Party). Any (HasAnswered g x) ps) (placed k e heard None j) a)
    by_place e i (Some p) j a =
        sort p j (any_set_cases (HasAnswered g x) k.parties e.place (course.heard_at e.stage heard p)
        (subst (λ (ps : List Party). Any (HasAnswered g x) ps) (heard_there k e p heard j) a))
      where
        settle : (p : Party) → slice_get k.parties e.place ≡ Some p → HasAnswered g x p ⊎ IsHeardNow (UnderWay k) heard g x
            → IsAnswered (UnderWay k) g x ⊎ IsHeardNow (UnderWay k) heard g x
        settle p j (inl v) = inl (any_there (HasAnswered g x) k.parties e.place p j v)
        settle p j (inr v) = inr v

        sort : (p : Party) → slice_get k.parties e.place ≡ Some p → Any (HasAnswered g x) k.parties ⊎ HasAnswered g x (course.heard_at e.stage heard p)
            → IsAnswered (UnderWay k) g x ⊎ IsHeardNow (UnderWay k) heard g x
        sort p j (inl v) = inl v
        sort p j (inr v) = settle p j (heard_answer k e p heard g x i j e.stage refl v)

    by_out : (o : Option Errand) → k.out ≡ o → IsAnswered (UnderWay k) g x ⊎ IsHeardNow (UnderWay k) heard g x
    by_out None i = inl (subst (λ (d : Course). Any (HasAnswered g x) d.parties) (after_none k heard i) h)
    by_out (Some e) i =
        by_place e i (slice_get k.parties e.place) refl (subst (λ (d : Course). Any (HasAnswered g x) d.parties) (after_out k e heard i) h)

standing_before : (f : Family) (n : CallNumber) (s : Standing) (heard : ParticipantHeard) (g : ℕ) (x : ParticipantHeard)
    → IsAnswered (stages.after_answer (inner_number f s n) heard s) g x → IsAnswered s g x ⊎ IsHeardNow s heard g x
standing_before f n (Waiting room) heard g x h = absurd h
standing_before f n (UnderWay k) heard g x h = answer_before k heard g x h

participant_before : (n : CallNumber) (h : Heard) (f : Family) (g : ℕ) (x : ParticipantHeard) → IsAnswered (told_participant n h f).family.completion g x
    → IsAnswered f.completion g x ⊎ IsHeardNow f.completion (of_participant h) g x
unfolding told_participant completes_as
participant_before n h f g x is = standing_before f n f.completion (of_participant h) g x is

-- that is in one leg alone
told_answers : (leg : Leg) (n : CallNumber) (b : ℕ) (c : Call) (h : Heard) (f : Family) (g : ℕ) (x : ParticipantHeard)
    → IsAnswered (told leg n b c h f).family.completion g x
    → IsAnswered f.completion g x ⊎ ((leg ≡ Deciding) × IsHeardNow f.completion (of_participant h) g x)
told_answers Below n b c h f g x is = inl is
told_answers Own n b c h f g x is = inl ((told_end_plain c.aim b h f).kept.answers g x is)
told_answers (Before called) n b c h f g x is = inl ((told_before_plain b called c h f).kept.answers g x is)
told_answers Deciding n b c h f g x is = elim (participant_before n h f g x is) [
  | inl was ↦ inl was
  | inr now ↦ inr (refl, now)
]
told_answers (After called) n b c h f g x is = inl is

-- and in the call of the top-level transaction
call_answers : (o : Option Call) (b : ℕ) (n : CallNumber) (h : Heard) (f : Family) (g : ℕ) (x : ParticipantHeard) → call_at f b ≡ o → IsSoundFamily f
    → IsAnswered (hears_call o b n h f).family.completion g x → IsAnswered f.completion g x ⊎ ((b ≡ 0) × IsHeardNow f.completion (of_participant h) g x)
unfolding hears_at
call_answers (Some c) b n h f g x e sound is =
    let quiet : Call = record c { out = None } in
    elim (told_answers c.leg n b quiet h (with_call b quiet f) g x is) [
      | inl was ↦ inl was
      | inr now ↦ inr (is_top b c f Deciding now.0 tt (sound.under_way b c e), now.1)
    ]
call_answers None b n h f g x e sound is = inl is

for_answers : (o : Option ℕ) (n : CallNumber) (h : Heard) (f : Family) (g : ℕ) (x : ParticipantHeard) → IsSoundFamily f
    → IsAnswered (hears_for o n h f).family.completion g x → IsAnswered f.completion g x ⊎ ((o ≡ Some 0) × IsHeardNow f.completion (of_participant h) g x)
for_answers (Some b) n h f g x sound is = elim (call_answers (call_at f b) b n h f g x refl sound is) [
  | inl was ↦ inl was
  | inr now ↦ inr (ap (λ (y : ℕ). Some y) now.0, now.1)
]
for_answers None n h f g x sound is = inl is

hears_answers : (n : CallNumber) (h : Heard) (f : Family) (g : ℕ) (x : ParticipantHeard) → IsSoundFamily f → IsAnswered (hears n h f).family.completion g x
    → IsAnswered f.completion g x ⊎ ((waiting_for f n ≡ Some 0) × IsHeardNow f.completion (of_participant h) g x)
unfolding hears
hears_answers n h f g x sound is = for_answers (waiting_for f n) n h f g x sound is

-- what follows upon the answer leaves them as they are
answered_answers : (n : CallNumber) (h : Heard) (stood : Option Stood) (f : Family) (g : ℕ) (x : ParticipantHeard) → IsSoundFamily f
    → IsAnswered (answered n h stood f).family.completion g x
    → IsAnswered f.completion g x ⊎ ((waiting_for f n ≡ Some 0) × IsHeardNow f.completion (of_participant h) g x)
unfolding answered
answered_answers n h stood f g x sound is =
    let m : Moved = hears n h f in
    let settled = settles_is stood m.family in
    let on = goes_on_at_plain (waiting_for f n) (settles stood m.family).family in
    hears_answers n h f g x sound (settled.kept.answers g x (on.kept.answers g x is))

pub outcomes_answered : FamiliesHearOutcomesAnswered
outcomes_answered f e stood g x sound is = go (family_step f e stood) (step_is f e stood) is
  where
    go : (s : Stepped) → IsStep f e stood s → IsAnswered s.family.completion g x → IsAnswered f.completion g x ⊎ IsAnsweredNow f e.act g x
    go s h is = by h.acted.rest
      where
        there : IsAnswered h.moved.family.completion g x
        there = subst (λ (t : Standing). IsAnswered t g x) h.completion is

        by : (AllByRecursion IsOther h.moved.effects × IsKept f.completion h.moved.family.completion) ⊎ IsAnswer f e.act stood h.moved → IsAnswered f.completion g x ⊎ IsAnsweredNow f e.act g x
        by (inl o) = inl (o.1.answers g x there)
        by (inr a) = elim (answered_answers a.number a.heard stood f g x sound (subst (λ (m : Moved). IsAnswered m.family.completion g x) a.same there)) [
          | inl was ↦ inl was
          | inr now ↦ inr (record { number = a.number; answer = a.heard; is = a.is; says = now.1.0; waited = now.0; told = now.1.1 })
        ]
