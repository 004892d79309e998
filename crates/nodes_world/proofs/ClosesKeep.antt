-- What a step of a family keeps that hears an answer by which nobody votes, whatever the journal answered in it: it was asked for the
-- family's own Done at most. A branch is marked at most before it is asked.
use Rattle.std.proofs.Common.{◌≡◌, ℕ, ◌||◌, Bool, true, false, is_none, if◌then◌else◌, List, [], ◌++◌, Option, Some, None, refl, sym, ap, subst, ◌∙◌}
use Rattle.std.specs.List.{AllByRecursion}
use Rattle.ots_model.specs.Heard.{of_participant}
use Rattle.ots_model.specs.declared.completion.CallNumber.{CallNumber}
use Rattle.ots_model.specs.declared.completion.Stood.{Stood}
use Rattle.ots_model.specs.declared.completion.Stood.TheVariants as answers
use Rattle.ots_model.specs.declared.tree.Heard.{Heard}
use Rattle.ots_model.specs.Numbered.{Outcome}
use Rattle.ots_model.specs.declared.tree.Outward.{Outward}
use Rattle.txn_tree.specs.Rows.{parent}
use Rattle.two_phase.specs.Stages.{Standing}
use Rattle.two_phase.specs.Stages as stages
use Rattle.coordinator.specs.declared.call.Leg.{Leg}
use Rattle.coordinator.specs.declared.call.Leg.TheVariants.{Below, Own, Before, Deciding, After}
use Rattle.coordinator.specs.declared.effect.Effect.{Effect}
use Rattle.coordinator.specs.declared.effect.Effect.TheVariants as effects
use Rattle.coordinator.specs.declared.said.Said.{Said}
use Rattle.coordinator.specs.declared.said.Said.TheVariants as said
use Rattle.coordinator.specs.Family.{Family, Aim, Call, Commits, RollsBack, call_at, waiting_for, with_call}
use Rattle.coordinator.specs.Hearing.{closes, decided, hears_at, inner_number, is_markable, is_plain, marks, marks_parent, settles, told, told_commit, told_end, told_participant, vote_effects, wants_done}
use Rattle.coordinator.specs.Moves.{Moved, only, ◌▹◌, completes_as, fixed_now}
use Rattle.coordinator.specs.Phases.{has_parent_ended}
use Rattle.coordinator.specs.Step.{Stepped, acted, answered, entered, family_step, goes_on_at, hears, hears_call, hears_for}
use Rattle.nodes_world.specs.Deliveries.{answer_event, heard_in}
use Rattle.nodes_world.specs.AgreementInside.{is_asking}
use Rattle.nodes_world.proofs.AnswersKeep.{HearsNoVote, NoVoteAt, hears_keeps, in_call, no_effects, no_voter, outcome_stays}
use Rattle.nodes_world.proofs.RulesKeep.{IsTidy, Rule, either_keeps, goes_on_keep, only_keeps, shows_keep, then_keeps}
use Rattle.nodes_world.proofs.StepsKeep.{StepKeeps, entered_keeps}

closes_keep : (stood : Stood) (f : Family) → Rule f (closes stood f)
unfolding closes
closes_keep (answers.Stands place) f = shows_keep effects.Done f (record f { closed = Some (answers.Stands place) }) refl refl refl refl
closes_keep (answers.Full used need) f = only_keeps (record f { closed = Some (answers.Full used need) })
closes_keep (answers.Unsure why) f = only_keeps (record f { closed = Some (answers.Unsure why) })

-- no decision was wanted
settles_keep : (o : Option Stood) (f : Family) → stages.wants_decision f.completion ≡ false → Rule f (settles o f)
unfolding settles
settles_keep None f none = only_keeps f
settles_keep (Some stood) f none =
    subst (λ (t : Bool). Rule f (if t then decided stood f else if wants_done f then closes stood f else only f)) (sym none)
    (either_keeps f (wants_done f) _ _ (closes_keep stood f) (only_keeps f))

goes_on_keeps : (o : Option ℕ) (f : Family) → Rule f (goes_on_at o f)
goes_on_keeps (Some b) f = goes_on_keep b f
goes_on_keeps None f = only_keeps f

answered_keeps : (n : CallNumber) (h : Heard) (o : Option Stood) (b : ℕ) (f : Family) → waiting_for f n ≡ Some b → NoVoteAt f (call_at f b)
    → stages.wants_decision f.completion ≡ false → Rule f (answered n h o f)
unfolding answered
answered_keeps n h o b f waits so none tidy =
    let heard = hears_keeps n h b f waits so in
    then_keeps f (hears n h f ▹ settles o) (goes_on_at (waiting_for f n))
    (then_keeps f (hears n h f) (settles o) heard (settles_keep o (hears n h f).family ((heard tidy).kept.wants none)))
    (goes_on_keeps (waiting_for f n) (hears n h f ▹ settles o).family) tidy

-- ---- the step

pub closing_keeps : (f : Family) (o : Outward) (answer : Said) (now : ℕ) (stood : Option Stood) (b : ℕ) → waiting_for f o.number ≡ Some b
    → NoVoteAt f (call_at f b) → stages.wants_decision f.completion ≡ false → IsTidy f → StepKeeps f (family_step f (answer_event o answer now) stood)
unfolding family_step acted
closing_keeps f o answer now stood b waits so none tidy =
    subst (λ (x : Option ℕ). StepKeeps f (if is_none x then quiet_step f else entered f (answer_event o answer now) stood (acted (answer_event o answer now) stood f))) (sym waits)
    (entered_keeps f (answer_event o answer now) stood (acted (answer_event o answer now) stood f) (answered_keeps o.number (heard_in answer) stood b f waits so none) tidy)
  where
    quiet_step : Family → Stepped
    quiet_step f = record { family = f; said = said.Plain; words = []; finished = []; effects = [] }

-- ---- what the answer alone does

-- a branch is marked
abbrev pub IsMark : Effect → Type 0
IsMark (effects.Marked b) = Unit {0}
IsMark _ = ⊥

abbrev pub MarkAlone : Moved → Type 0
MarkAlone m = AllByRecursion IsMark m.effects

either_marks : (t : Bool) (x y : Moved) → MarkAlone x → MarkAlone y → MarkAlone (if t then x else y)
either_marks true x y one other = one
either_marks false x y one other = other

marks_alone : (b : ℕ) (f : Family) → MarkAlone (marks b f)
unfolding marks
marks_alone b f = either_marks (is_markable f b) _ _ (tt, tt) tt

parent_alone : (o : Option ℕ) (f : Family) → MarkAlone (marks_parent o f)
parent_alone (Some above) f = marks_alone above f
parent_alone None f = tt

end_alone : (aim : Aim) (b : ℕ) (h : Heard) (f : Family) → MarkAlone (told_end aim b h f)
unfolding told_commit
end_alone (Commits asked) b h f = either_marks (is_plain h || has_parent_ended f b) _ _ tt (parent_alone (parent f.rows b) f)
end_alone (RollsBack says) b h f = tt

none_fixed : (o : Option Outcome) → fixed_now o o ≡ []
none_fixed (Some fixed) = refl
none_fixed None = refl

participant_alone : (n : CallNumber) (h : Heard) (f : Family) → is_asking f.completion ≡ false → MarkAlone (told_participant n h f)
unfolding told_participant completes_as
participant_alone n h f not_asked =
    subst (λ (some : List Effect). AllByRecursion IsMark (some ++ fixed_now (stages.outcome f.completion) (stages.outcome later)))
    (sym (ap (vote_effects (of_participant h)) (no_voter f.completion not_asked) ∙ no_effects (of_participant h)))
    (subst (λ (some : List Effect). AllByRecursion IsMark some)
    (sym (ap (fixed_now (stages.outcome f.completion)) (outcome_stays (inner_number f f.completion n) (of_participant h) f.completion not_asked)
    ∙ none_fixed (stages.outcome f.completion))) tt)
  where
    later : Standing
    later = stages.after_answer (inner_number f f.completion n) (of_participant h) f.completion

told_alone : (leg : Leg) (n : CallNumber) (b : ℕ) (c : Call) (h : Heard) (f : Family) → HearsNoVote leg f → MarkAlone (told leg n b c h f)
told_alone Below n b c h f so = tt
told_alone Own n b c h f so = end_alone c.aim b h f
told_alone (Before so_many) n b c h f so = absurd so
told_alone Deciding n b c h f so = participant_alone n h f so
told_alone (After so_many) n b c h f so = tt

hears_at_alone : (n : CallNumber) (b : ℕ) (c : Call) (h : Heard) (f : Family) → HearsNoVote c.leg f → MarkAlone (hears_at n b c h f)
unfolding hears_at
hears_at_alone n b c h f so = told_alone c.leg n b (record c { out = None }) h (with_call b (record c { out = None }) f) (in_call c.leg b (record c { out = None }) f so)

call_alone : (o : Option Call) (b : ℕ) (n : CallNumber) (h : Heard) (f : Family) → NoVoteAt f o → MarkAlone (hears_call o b n h f)
call_alone (Some c) b n h f so = hears_at_alone n b c h f so
call_alone None b n h f so = tt

pub hears_alone : (n : CallNumber) (h : Heard) (b : ℕ) (f : Family) → waiting_for f n ≡ Some b → NoVoteAt f (call_at f b) → MarkAlone (hears n h f)
unfolding hears
hears_alone n h b f waits so = subst (λ (o : Option ℕ). MarkAlone (hears_for o n h f)) (sym waits) (call_alone (call_at f b) b n h f so)
