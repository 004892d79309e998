-- No transaction comes and none goes where an answer is heard, or the journal's.
use Rattle.std.proofs.Common.{◌≡◌, refl, ℕ, Bool, true, false, length, Option, Some, None, if◌then◌else◌, ◌||◌}
use Rattle.std.proofs.lemmas.List.{length-set}
use Rattle.ots_model.specs.declared.completion.CallNumber.{CallNumber}
use Rattle.ots_model.specs.declared.completion.Doubted.{Doubted}
use Rattle.ots_model.specs.declared.completion.Stood.{Stood}
use Rattle.ots_model.specs.declared.completion.Stood.TheVariants as answers
use Rattle.ots_model.specs.declared.tree.Heard.{Heard}
use Rattle.txn_tree.specs.Rows.{parent}
use Rattle.two_phase.specs.Stages as stages
use Rattle.coordinator.specs.Closing.{begins}
use Rattle.coordinator.specs.Family.{Family, Call, Aim, Commits, RollsBack, call_at}
use Rattle.coordinator.specs.declared.call.Leg.{Leg}
use Rattle.coordinator.specs.declared.call.Leg.TheVariants.{Below, Own, Before, Deciding, After}
use Rattle.coordinator.specs.Hearing.{answers_doubt, closes, decided, doubts_by, hears_at, is_markable, is_plain, marks, marks_parent, settles, told, told_before, told_commit, told_end, told_participant, wants_done}
use Rattle.coordinator.specs.Moves.{Moved, completes_as}
use Rattle.coordinator.specs.Phases.{has_parent_ended}
use Rattle.coordinator.specs.Step.{hears_call}

-- as many transactions as before
abbrev Same : Family → Moved → Type 0
Same f m = length m.family.rows ≡ length f.rows

either : (f : Family) (x : Bool) (m n : Moved) → Same f m → Same f n → Same f (if x then m else n)
either f true m n p q = p
either f false m n p q = q

marks_same : (b : ℕ) (f : Family) → Same f (marks b f)
unfolding marks
marks_same b f = either f (is_markable f b) _ _ (length-set f.rows b _) refl

parent_same : (o : Option ℕ) (f : Family) → Same f (marks_parent o f)
parent_same (Some above) f = marks_same above f
parent_same None f = refl

end_same : (aim : Aim) (b : ℕ) (h : Heard) (f : Family) → Same f (told_end aim b h f)
unfolding told_commit
end_same (Commits asked) b h f = either f (is_plain h || has_parent_ended f b) _ _ refl (parent_same (parent f.rows b) f)
end_same (RollsBack says) b h f = refl

before_same : (b called : ℕ) (c : Call) (h : Heard) (f : Family) → Same f (told_before b called c h f)
unfolding told_before begins completes_as
before_same b called c h f = either f (is_plain h) _ _ refl refl

told_same : (leg : Leg) (n : CallNumber) (b : ℕ) (c : Call) (h : Heard) (f : Family) → Same f (told leg n b c h f)
unfolding told_participant completes_as
told_same Below n b c h f = refl
told_same Own n b c h f = end_same c.aim b h f
told_same (Before called) n b c h f = before_same b called c h f
told_same Deciding n b c h f = refl
told_same (After called) n b c h f = refl

pub heard_same : (o : Option Call) (b : ℕ) (n : CallNumber) (h : Heard) (f : Family) → Same f (hears_call o b n h f)
unfolding hears_at
heard_same (Some c) b n h f = told_same c.leg n b _ h _
heard_same None b n h f = refl

doubt_same : (why : Doubted) (o : Option Call) (f : Family) → Same f (answers_doubt why o f)
unfolding answers_doubt
doubt_same why (Some c) f = refl
doubt_same why None f = refl

doubts_same : (stood : Stood) (f : Family) → Same f (doubts_by stood f)
doubts_same (answers.Stands place) f = refl
doubts_same (answers.Full used need) f = refl
doubts_same (answers.Unsure why) f = doubt_same why (call_at f 0) f

decided_same : (stood : Stood) (f : Family) → Same f (decided stood f)
unfolding decided completes_as
decided_same stood f = doubts_same stood _

closes_same : (stood : Stood) (f : Family) → Same f (closes stood f)
unfolding closes
closes_same stood f = refl

pub settled_same : (stood : Option Stood) (f : Family) → Same f (settles stood f)
unfolding settles
settled_same None f = refl
settled_same (Some stood) f =
    either f (stages.wants_decision f.completion) _ _ (decided_same stood f) (either f (wants_done f) _ _ (closes_same stood f) refl)
