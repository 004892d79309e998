-- A decision is wanted only after the last vote.
use Rattle.std.proofs.Common.{◌≡◌, ◌∙◌, refl, sym, ap, ℕ, Bool, true, false, not, ◌&&◌, ◌||◌, Option, Some, None, is_none, if◌then◌else◌}
use Rattle.ots_model.specs.Heard.{of_participant}
use Rattle.ots_model.specs.declared.completion.CallNumber.{CallNumber}
use Rattle.ots_model.specs.declared.completion.Heard.{Heard as ParticipantHeard}
use Rattle.ots_model.specs.declared.tree.Heard.{Heard}
use Rattle.ots_model.specs.declared.completion.Heard.TheVariants as phase_hears
use Rattle.ots_model.specs.declared.tree.Heard.TheVariants as hears
use Rattle.two_phase.specs.Course as course
use Rattle.two_phase.specs.Course.{Course}
use Rattle.two_phase.specs.LawsOfDeciding.{LastAnswerDecides}
use Rattle.two_phase.specs.LawsOfReached.TreeBecomes.{by_answer}
use Rattle.two_phase.specs.Stages as stages
use Rattle.two_phase.specs.Stages.{Standing, Waiting, Going as UnderWay}
use Rattle.coordinator.specs.declared.call.Leg.{Leg}
use Rattle.coordinator.specs.declared.call.Leg.TheVariants.{Below, Own, Before, Deciding, After}
use Rattle.coordinator.specs.declared.event.Act.{Act}
use Rattle.coordinator.specs.declared.event.Act.TheVariants as acts
use Rattle.coordinator.specs.Closing.{asked_of, asked_ones, begins, begun, gives_up, rolling_back}
use Rattle.coordinator.specs.Family.{Family, Aim, Call, Commits, RollsBack, call_at, number_of, with_call}
use Rattle.coordinator.specs.Hearing.{hears_at, inner_number, is_markable, is_plain, marks, marks_parent, reason_of, told, told_before, told_commit, told_end, told_participant}
use Rattle.coordinator.specs.Moves.{Moved, completes_as, only}
use Rattle.coordinator.specs.Phases.{has_parent_ended}
use Rattle.coordinator.specs.Step.{hears_call}
use Rattle.txn_tree.specs.Rows.{parent}
use Rattle.family_step.specs.Asking.{hears_act, may_want}

-- ---- what is wanted later may be wanted before

abbrev Wants : Standing → Standing → Type 0
Wants s later = stages.wants_decision later ≡ true → may_want s ≡ true

or_right : (x y : Bool) → y ≡ true → (x || y) ≡ true
or_right true y is = refl
or_right false y is = is

or_left : (x y : Bool) → x ≡ true → (x || y) ≡ true
or_left true y is = refl
or_left false y is = absurd (cc (is))

same_wants : (s : Standing) → Wants s s
same_wants s wants = or_right (stages.is_last_asked s) (stages.wants_decision s) wants

answered_wants : LastAnswerDecides → (s : Standing) (f : Family) (n : CallNumber) (h : ParticipantHeard) → Wants s (stages.after_answer (inner_number f s n) h s)
answered_wants last (Waiting room) f n h = λ wants. let never : false ≡ true = wants in absurd (cc (never))
answered_wants last (UnderWay c) f n h = λ wants. by_now (course.wants_decision c) refl wants
  where
    by_now : (b : Bool) → course.wants_decision c ≡ b → course.wants_decision (course.after_answer c.number h c) ≡ true
        → (course.is_last_asked c || course.wants_decision c) ≡ true
    by_now true is wants = or_right (course.is_last_asked c) (course.wants_decision c) is
    by_now false is wants = or_left (course.is_last_asked c) (course.wants_decision c) (last c (course.after_answer c.number h c) (by_answer c c.number h) is wants)

-- one that begins with a rollback wants none
is_lost : (called : ℕ) (h : Heard) → course.is_outside (reason_of called h) ≡ true
is_lost called (hears.Phase phase_hears.Starved) = refl
is_lost called _ = refl

none_wanted : (x n s a b : Bool) → n ≡ false → (x && n && s && a && b) ≡ false
none_wanted true n s a b is = ap (λ (m : Bool). m && s && a && b) is
none_wanted false n s a b is = refl

not_wanted : (c : Course) → is_none c.overtaken ≡ false → course.wants_decision c ≡ false
not_wanted c is = none_wanted (not (course.decides_alone c)) (is_none c.overtaken) (is_none c.stood) (course.all_consent c) (course.some_commit c) is

-- ---- what is heard

abbrev Keeps : Family → Moved → Type 0
Keeps f m = Wants f.completion m.family.completion

either : (f : Family) (x : Bool) (m n : Moved) → Keeps f m → Keeps f n → Keeps f (if x then m else n)
either f true m n p q = p
either f false m n p q = q

begun_wants : (s : Standing) (asked : Bool) (called : ℕ) (h : Heard) (f : Family) → Wants s (begun s (rolling_back asked (reason_of called h) f))
begun_wants (UnderWay c) asked called h f = same_wants (UnderWay c)
begun_wants (Waiting room) asked called h f = λ wants.
    let c : Course = course.begun_rollback (asked_ones f) asked (number_of f 1) (is_none f.superior) (reason_of called h) in
    let none : is_none c.overtaken ≡ false = ap (λ (b : Bool). is_none (if b then Some (reason_of called h) else None)) (is_lost called h) in
    let never : false ≡ true = sym (not_wanted c none) ∙ wants in
    absurd (cc (never))

begins_keeps : (asked : Bool) (called : ℕ) (h : Heard) (f : Family) → Keeps f (begins (rolling_back asked (reason_of called h) f) f)
unfolding begins completes_as
begins_keeps asked called h f = begun_wants f.completion asked called h f

marks_keeps : (b : ℕ) (f : Family) → Keeps f (marks b f)
unfolding marks
marks_keeps b f = either f (is_markable f b) _ _ (same_wants f.completion) (same_wants f.completion)

parent_keeps : (o : Option ℕ) (f : Family) → Keeps f (marks_parent o f)
parent_keeps (Some above) f = marks_keeps above f
parent_keeps None f = same_wants f.completion

commit_keeps : (b : ℕ) (h : Heard) (f : Family) → Keeps f (told_commit b h f)
unfolding told_commit
commit_keeps b h f = either f (is_plain h || has_parent_ended f b) (only f) (marks_parent (parent f.rows b) f) (same_wants f.completion)
    (parent_keeps (parent f.rows b) f)

end_keeps : (aim : Aim) (b : ℕ) (h : Heard) (f : Family) → Keeps f (told_end aim b h f)
end_keeps (Commits asked) b h f = commit_keeps b h f
end_keeps (RollsBack says) b h f = same_wants f.completion

before_keeps : (b called : ℕ) (c : Call) (h : Heard) (f : Family) → Keeps f (told_before b called c h f)
unfolding told_before
before_keeps b called c h f = either f (is_plain h) _ (gives_up (reason_of called h) c (with_call b (record c { leg = Deciding }) f)) (same_wants f.completion)
    (begins_keeps (asked_of c.aim) called h (with_call b (record c { leg = Deciding }) f))

module _ (last : LastAnswerDecides) where
  participant_keeps : (n : CallNumber) (h : Heard) (f : Family) → Keeps f (told_participant n h f)
  unfolding told_participant completes_as
  participant_keeps n h f = answered_wants last f.completion f n (of_participant h)

  told_keeps : (leg : Leg) (n : CallNumber) (b : ℕ) (c : Call) (h : Heard) (f : Family) → Keeps f (told leg n b c h f)
  told_keeps Below n b c h f = same_wants f.completion
  told_keeps Own n b c h f = end_keeps c.aim b h f
  told_keeps (Before called) n b c h f = before_keeps b called c h f
  told_keeps Deciding n b c h f = participant_keeps n h f
  told_keeps (After called) n b c h f = same_wants f.completion

  call_keeps : (o : Option Call) (b : ℕ) (n : CallNumber) (h : Heard) (f : Family) → Keeps f (hears_call o b n h f)
  unfolding hears_at
  call_keeps (Some c) b n h f = told_keeps c.leg n b (record c { out = None }) h (with_call b (record c { out = None }) f)
  call_keeps None b n h f = same_wants f.completion

  pub heard_may_want : (act : Act) (b : ℕ) (f : Family) → stages.wants_decision (hears_act act b f).family.completion ≡ true → may_want f.completion ≡ true
  heard_may_want (acts.Answer n h) b f = call_keeps (call_at f b) b n h f
  heard_may_want _ b f = same_wants f.completion
