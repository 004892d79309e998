-- No rule of a family touches its history: an entry is made by the step alone.
use Rattle.std.proofs.Common.{◌≡◌, ◌==◌, ◌∙◌, refl, ℕ, zero, suc, ◌||◌, Bool, true, false, List, [], ◌∷◌, length, Option, Some, None, if◌then◌else◌}
use Rattle.ots_model.specs.declared.completion.CallNumber.{CallNumber}
use Rattle.ots_model.specs.declared.completion.Doubted.{Doubted}
use Rattle.ots_model.specs.declared.completion.Stood.{Stood}
use Rattle.ots_model.specs.declared.completion.Stood.TheVariants as answers
use Rattle.ots_model.specs.declared.tree.Heard.{Heard}
use Rattle.ots_model.specs.Numbered.{Outcome}
use Rattle.ots_model.specs.declared.tree.Outward.{Outward}
use Rattle.ots_model.specs.declared.tree.Reason.{Reason}
use Rattle.resource_votes.specs.Ballots.{Ballots}
use Rattle.resource_votes.specs.declared.registration.Registration.{Registration}
use Rattle.resource_votes.specs.declared.registration.VoteFault.{VoteFault}
use Rattle.txn_tree.specs.Calls.{creating, live_under}
use Rattle.txn_tree.specs.Rows.{parent}
use Rattle.txn_tree.specs.declared.row.TreeFault.{TreeFault}
use Rattle.two_phase.specs.Stages as stages
use Rattle.coordinator.specs.declared.event.Act.{Act}
use Rattle.coordinator.specs.declared.event.Act.TheVariants as acts
use Rattle.coordinator.specs.declared.event.Event.{Event}
use Rattle.coordinator.specs.declared.phase.Column.{Column}
use Rattle.coordinator.specs.declared.phase.Column.TheVariants as columns
use Rattle.coordinator.specs.declared.said.Said.{Said}
use Rattle.coordinator.specs.Family.{Family, Call, Aim, Commits, RollsBack, Duty, call_at, waiting_for}
use Rattle.coordinator.specs.declared.call.Leg.{Leg}
use Rattle.coordinator.specs.declared.call.Leg.TheVariants.{Below, Own, Before, Deciding, After}
use Rattle.coordinator.specs.declared.call.Stage.{Stage}
use Rattle.coordinator.specs.declared.call.Stage.TheVariants.{Going, Finishing, Completing, Over}
use Rattle.coordinator.specs.Moves.{Moved, ◌▹◌, sends, ends_call, completes_as}
use Rattle.coordinator.specs.Phases.{column, has_parent_ended, is_marked}
use Rattle.coordinator.specs.Closing.{afterwards, before, begins, calls_next, decides, decides_by, finishes, next_synchronization, next_told, rests, tells_next}
use Rattle.coordinator.specs.Running.{adopter, by_leg, commits_up, duties_below, ends_below, goes_on, is_held, own_duties, own_ends, passes, passes_top, runs, runs_call, sweeps, sweeps_next, tells_after, tells_first, tells_own}
use Rattle.coordinator.specs.Hearing.{answers_doubt, closes, decided, doubts_by, hears_at, is_markable, is_plain, marks, marks_parent, settles, told, told_before, told_commit, told_end, told_participant, wants_done}
use Rattle.coordinator.specs.Table.{Acted, begins_commit, commits, commits_in, creates_by, creates_in, creates_subtransaction, gets_terminator, has_branch, has_terminator, marks_only, new_call, on_branch, on_terminator, registers, registers_aware, registers_resource, registers_synchronization, replays, rolls_back, rolls_back_asked, rolls_back_in, rolls_back_sub, rolls_back_top, unless_orphan}
use Rattle.coordinator.specs.Step.{acted, acts_on, answered, goes_on_at, has_timed_out, hears, hears_call, hears_for, rereads, ticks, times_out}

-- the history is as it was
abbrev Same : Family → Moved → Type 0
Same f m = m.family.entries ≡ f.entries

either : (f : Family) (x : Bool) (m n : Moved) → Same f m → Same f n → Same f (if x then m else n)
either f true m n p q = p
either f false m n p q = q

tells_next_same : (o : Option Registration) (called : ℕ) (c : Call) (fixed : Outcome) (f : Family) → Same f (tells_next o called c fixed f)
unfolding sends finishes ends_call
tells_next_same (Some r) called c fixed f = refl
tells_next_same None called c fixed f = refl

afterwards_same : (called : ℕ) (c : Call) (fixed : Outcome) (f : Family) → Same f (afterwards called c fixed f)
unfolding afterwards
afterwards_same called c fixed f = tells_next_same (next_told f fixed called) called c fixed f

rests_same : (c : Call) (o : Option Outcome) (f : Family) → Same f (rests c o f)
rests_same c (Some fixed) f = afterwards_same 0 c fixed f
rests_same c None f = refl

decides_by_same : (o : Option Outward) (c : Call) (f : Family) → Same f (decides_by o c f)
unfolding sends
decides_by_same (Some w) c f = refl
decides_by_same None c f = rests_same c (stages.outcome f.completion) f

decides_same : (c : Call) (f : Family) → Same f (decides c f)
unfolding decides
decides_same c f = decides_by_same (stages.next_word f.completion) (record c { leg = Deciding }) f

calls_next_same : (o : Option Registration) (called : ℕ) (c : Call) (f : Family) → Same f (calls_next o called c f)
unfolding sends begins completes_as
calls_next_same (Some r) called c f = refl
calls_next_same None called c f = decides_same c _

before_same : (called : ℕ) (c : Call) (f : Family) → Same f (before called c f)
unfolding before begins completes_as
before_same called c f = either f (is_marked f 0) _ _ (decides_same c _) (calls_next_same (next_synchronization f called) called c f)

tells_first_same : (some : List Duty) (b : ℕ) (c : Call) (next : Family → Moved) (f : Family) → Same f (next f) → Same f (tells_first some b c next f)
unfolding sends
tells_first_same [] b c next f p = p
tells_first_same (d ∷ others) b c next f p = refl

commits_up_same : (b : ℕ) (o : Option ℕ) (c : Call) (f : Family) → Same f (commits_up b o c f)
unfolding commits_up ends_call
commits_up_same b (Some above) c f = refl
commits_up_same b None c f = refl

own_ends_same : (aim : Aim) (b : ℕ) (c : Call) (f : Family) → Same f (own_ends aim b c f)
unfolding ends_call
own_ends_same (Commits asked) b c f = commits_up_same b (adopter f.rows b) c f
own_ends_same (RollsBack says) b c f = refl

tells_own_same : (b : ℕ) (c : Call) (f : Family) → Same f (tells_own b c f)
unfolding tells_own
tells_own_same b c f = tells_first_same (own_duties c.aim b f) b _ _ f (own_ends_same c.aim b _ f)

passes_top_same : (stage : Stage) (c : Call) (f : Family) → Same f (passes_top stage c f)
passes_top_same Going c f = decides_same c f
passes_top_same Finishing c f = before_same 0 c f
passes_top_same Completing c f = decides_same c f
passes_top_same Over c f = decides_same c f

passes_same : (b : ℕ) (c : Call) (f : Family) → Same f (passes b c f)
unfolding passes
passes_same b c f = either f (b == 0) _ _ (passes_top_same f.stage c f) (tells_own_same b c f)

ends_below_same : (d : ℕ) (f : Family) → Same f (ends_below d f)
unfolding ends_below
ends_below_same d f = refl

sweeps_next_same : (o : Option ℕ) (b : ℕ) (c : Call) (next : Family → Moved) → ((g : Family) → Same g (next g)) → (f : Family) → Same f (sweeps_next o b c next f)
sweeps_next_same (Some d) b c next all f =
    tells_first_same (duties_below d f) b c next (ends_below d f).family (all (ends_below d f).family) ∙ ends_below_same d f
sweeps_next_same None b c next all f = passes_same b c f

sweeps_same : (n b : ℕ) (c : Call) (f : Family) → Same f (sweeps n b c f)
unfolding sweeps
sweeps_same zero b c f = passes_same b c f
sweeps_same (suc n) b c f = sweeps_next_same (live_under f.rows b) b c (sweeps n b c) (sweeps_same n b c) f

tells_after_same : (o : Option Outcome) (called : ℕ) (c : Call) (f : Family) → Same f (tells_after o called c f)
tells_after_same (Some fixed) called c f = afterwards_same called c fixed f
tells_after_same None called c f = refl

by_leg_same : (leg : Leg) (b : ℕ) (c : Call) (f : Family) → Same f (by_leg leg b c f)
by_leg_same Below b c f = sweeps_same (length f.rows) b c f
by_leg_same Own b c f = own_ends_same c.aim b c f
by_leg_same (Before called) b c f = before_same called c f
by_leg_same Deciding b c f = decides_same c f
by_leg_same (After called) b c f = tells_after_same (stages.outcome f.completion) called c f

runs_same : (b : ℕ) (c : Call) (f : Family) → Same f (runs b c f)
unfolding runs
runs_same b c f = either f (is_held b c f) _ _ refl (tells_first_same c.left b c _ f (by_leg_same c.leg b c f))

runs_call_same : (o : Option Call) (b : ℕ) (f : Family) → Same f (runs_call o b f)
runs_call_same (Some c) b f = runs_same b c f
runs_call_same None b f = refl

goes_on_same : (b : ℕ) (f : Family) → Same f (goes_on b f)
unfolding goes_on
goes_on_same b f = runs_call_same (call_at f b) b f

marks_same : (b : ℕ) (f : Family) → Same f (marks b f)
unfolding marks
marks_same b f = either f (is_markable f b) _ _ refl refl

parent_same : (o : Option ℕ) (f : Family) → Same f (marks_parent o f)
parent_same (Some above) f = marks_same above f
parent_same None f = refl

end_same : (aim : Aim) (b : ℕ) (h : Heard) (f : Family) → Same f (told_end aim b h f)
unfolding told_commit
end_same (Commits asked) b h f = either f (is_plain h || has_parent_ended f b) _ _ refl (parent_same (parent f.rows b) f)
end_same (RollsBack says) b h f = refl

told_before_same : (b called : ℕ) (c : Call) (h : Heard) (f : Family) → Same f (told_before b called c h f)
unfolding told_before begins completes_as
told_before_same b called c h f = either f (is_plain h) _ _ refl refl

told_same : (leg : Leg) (n : CallNumber) (b : ℕ) (c : Call) (h : Heard) (f : Family) → Same f (told leg n b c h f)
unfolding told_participant completes_as
told_same Below n b c h f = refl
told_same Own n b c h f = end_same c.aim b h f
told_same (Before called) n b c h f = told_before_same b called c h f
told_same Deciding n b c h f = refl
told_same (After called) n b c h f = refl

heard_same : (o : Option Call) (b : ℕ) (n : CallNumber) (h : Heard) (f : Family) → Same f (hears_call o b n h f)
unfolding hears_at
heard_same (Some c) b n h f = told_same c.leg n b _ h _
heard_same None b n h f = refl

hears_for_same : (o : Option ℕ) (n : CallNumber) (h : Heard) (f : Family) → Same f (hears_for o n h f)
hears_for_same (Some b) n h f = heard_same (call_at f b) b n h f
hears_for_same None n h f = refl

doubt_same : (why : Doubted) (o : Option Call) (f : Family) → Same f (answers_doubt why o f)
unfolding answers_doubt
doubt_same why (Some c) f = refl
doubt_same why None f = refl

doubts_same : (stood : Stood) (f : Family) → Same f (doubts_by stood f)
doubts_same (answers.Stands place) f = refl
doubts_same (answers.Full used need) f = refl
doubts_same (answers.Unsure why) f = doubt_same why (call_at f 0) f

decided_same : (stood : Stood) (f : Family) → Same f (decided stood f)
unfolding decided completes_as
decided_same stood f = doubts_same stood _

closes_same : (stood : Stood) (f : Family) → Same f (closes stood f)
unfolding closes
closes_same stood f = refl

settled_same : (stood : Option Stood) (f : Family) → Same f (settles stood f)
unfolding settles
settled_same None f = refl
settled_same (Some stood) f =
    either f (stages.wants_decision f.completion) _ _ (decided_same stood f) (either f (wants_done f) _ _ (closes_same stood f) refl)

goes_on_at_same : (o : Option ℕ) (f : Family) → Same f (goes_on_at o f)
goes_on_at_same (Some b) f = goes_on_same b f
goes_on_at_same None f = refl

answered_same : (n : CallNumber) (h : Heard) (stood : Option Stood) (f : Family) → Same f (answered n h stood f)
unfolding answered hears
answered_same n h stood f =
    let heard : Moved = hears_for (waiting_for f n) n h f in
    let settled : Moved = heard ▹ settles stood in
    goes_on_at_same (waiting_for f n) settled.family ∙ (settled_same stood heard.family ∙ hears_for_same (waiting_for f n) n h f)

rereads_same : (stood : Option Stood) (f : Family) → Same f (rereads stood f)
unfolding rereads completes_as
rereads_same stood f = goes_on_same 0 _

rolls_back_top_same : (reason : Reason) (caller : Option ℕ) (answer : Said) (f : Family) → Same f (rolls_back_top reason caller answer f)
unfolding rolls_back_top begins completes_as
rolls_back_top_same reason caller answer f = runs_same 0 (new_call caller (RollsBack answer)) _

rolls_back_sub_same : (b : ℕ) (caller : Option ℕ) (answer : Said) (f : Family) → Same f (rolls_back_sub b caller answer f)
unfolding rolls_back_sub
rolls_back_sub_same b caller answer f = runs_same b (new_call caller (RollsBack answer)) _

rolls_back_same : (b : ℕ) (reason : Reason) (caller : Option ℕ) (answer : Said) (f : Family) → Same f (rolls_back b reason caller answer f)
rolls_back_same b reason caller answer f = either f (b == 0) _ _ (rolls_back_top_same reason caller answer f) (rolls_back_sub_same b caller answer f)

begun_same : (x : Bool) (f : Family) (b : ℕ) (c : Call) → Same f (runs b c (if x then record f { stage = Finishing } else f))
begun_same true f b c = runs_same b c (record f { stage = Finishing })
begun_same false f b c = runs_same b c f

begins_commit_same : (b position : ℕ) (asked : Bool) (f : Family) → Same f (begins_commit b position asked f)
unfolding begins_commit
begins_commit_same b position asked f = begun_same (b == 0) f b (new_call (Some position) (Commits asked))

times_out_same : (stage : Stage) (f : Family) → Same f (times_out stage f)
times_out_same Going f = rolls_back_top_same _ None _ f
times_out_same Finishing f = marks_same 0 f
times_out_same Completing f = marks_same 0 f
times_out_same Over f = marks_same 0 f

ticks_same : (now : ℕ) (f : Family) → Same f (ticks now f)
unfolding ticks
ticks_same now f = either f (has_timed_out f now) _ _ (times_out_same f.stage f) refl

-- the same of what a call does
abbrev Stays : Family → Acted → Type 0
Stays f a = Same f a.moved

one_of : (f : Family) (x : Bool) (a b : Acted) → Stays f a → Stays f b → Stays f (if x then a else b)
one_of f true a b p q = p
one_of f false a b p q = q

on_branch_same : (b : ℕ) (f : Family) (a : Acted) → Stays f a → Stays f (on_branch b f a)
on_branch_same b f a p = one_of f (has_branch f b) a _ p refl

on_terminator_same : (b : ℕ) (f : Family) (a : Acted) → Stays f a → Stays f (on_terminator b f a)
on_terminator_same b f a p = one_of f (has_terminator f b) a _ p refl

registers_same : (fault : Option VoteFault) (answer : Said) (later : Ballots) (f : Family) → Stays f (registers fault answer later f)
registers_same None answer later f = refl
registers_same (Some fault) answer later f = refl

creates_by_same : (fault : Option TreeFault) (b : ℕ) (f : Family) → Stays f (creates_by fault b f)
creates_by_same None b f = refl
creates_by_same (Some fault) b f = refl

creates_in_same : (place : Column) (b : ℕ) (f : Family) → Stays f (creates_in place b f)
creates_in_same columns.Active b f = creates_by_same (creating f.rows b) b f
creates_in_same columns.Marked b f = refl
creates_in_same columns.Finishing b f = refl
creates_in_same columns.RolledBack b f = refl
creates_in_same columns.Past b f = refl

marks_only_same : (b : ℕ) (f : Family) → Stays f (marks_only b f)
unfolding marks_only
marks_only_same b f = one_of f _ _ _ (marks_same b f) refl

orphan_same : (b : ℕ) (f : Family) (m : Moved) → Same f m → Stays f (unless_orphan b f m)
orphan_same b f m p = one_of f (has_parent_ended f b) _ _ refl p

commits_in_same : (place : Column) (b position : ℕ) (asked : Bool) (f : Family) → Stays f (commits_in place b position asked f)
commits_in_same columns.Active b position asked f = orphan_same b f _ (begins_commit_same b position asked f)
commits_in_same columns.Marked b position asked f = orphan_same b f _ (rolls_back_same b _ (Some position) _ f)
commits_in_same columns.Finishing b position asked f = refl
commits_in_same columns.RolledBack b position asked f = refl
commits_in_same columns.Past b position asked f = refl

rolls_back_in_same : (place : Column) (b position : ℕ) (f : Family) → Stays f (rolls_back_in place b position f)
rolls_back_in_same columns.Active b position f = rolls_back_same b _ (Some position) _ f
rolls_back_in_same columns.Marked b position f = rolls_back_same b _ (Some position) _ f
rolls_back_in_same columns.Finishing b position f = refl
rolls_back_in_same columns.RolledBack b position f = refl
rolls_back_in_same columns.Past b position f = refl

by_act : (act : Act) (b now : ℕ) (stood : Option Stood) (f : Family) → Stays f (acts_on act b now stood f)
unfolding gets_terminator commits rolls_back_asked registers_resource registers_synchronization registers_aware creates_subtransaction replays
by_act acts.GetTerminator b now stood f = on_branch_same b f _ refl
by_act acts.GetCoordinator b now stood f = on_branch_same b f _ refl
by_act (acts.Commit asked) b now stood f = on_terminator_same b f _ (commits_in_same (column f b) b _ asked f)
by_act acts.Rollback b now stood f = on_terminator_same b f _ (rolls_back_in_same (column f b) b _ f)
by_act acts.GetStatus b now stood f = refl
by_act acts.GetParentStatus b now stood f = refl
by_act acts.GetTopLevelStatus b now stood f = on_branch_same b f _ refl
by_act (acts.IsSameTransaction other) b now stood f = on_branch_same b f _ refl
by_act (acts.IsRelatedTransaction other) b now stood f = on_branch_same b f _ refl
by_act (acts.IsAncestorTransaction other) b now stood f = on_branch_same b f _ refl
by_act (acts.IsDescendantTransaction other) b now stood f = on_branch_same b f _ refl
by_act acts.IsTopLevelTransaction b now stood f = on_branch_same b f _ refl
by_act acts.HashTransaction b now stood f = on_branch_same b f _ refl
by_act acts.HashTopLevelTran b now stood f = on_branch_same b f _ refl
by_act (acts.RegisterResource to aware) b now stood f = on_branch_same b f _ (registers_same _ _ _ f)
by_act (acts.RegisterSynchronization to) b now stood f = on_branch_same b f _ (registers_same _ _ _ f)
by_act (acts.RegisterSubtranAware to) b now stood f = on_branch_same b f _ (registers_same _ _ _ f)
by_act acts.RollbackOnly b now stood f = on_branch_same b f _ (marks_only_same b f)
by_act acts.GetTransactionName b now stood f = on_branch_same b f _ refl
by_act acts.CreateSubtransaction b now stood f = on_branch_same b f _ (creates_in_same (column f b) b f)
by_act acts.GetTxcontext b now stood f = on_branch_same b f _ refl
by_act (acts.Replay g resource) b now stood f = refl
by_act (acts.Superior word) b now stood f = refl
by_act (acts.Answer n h) b now stood f = answered_same n h stood f
by_act acts.Tick b now stood f = ticks_same now f
by_act (acts.Reread stands) b now stood f = rereads_same stood f
by_act (acts.Opened deadline) b now stood f = refl

pub acts_keep : (e : Event) (stood : Option Stood) (f : Family) → (acted e stood f).moved.family.entries ≡ f.entries
unfolding acted
acts_keep e stood f = by_act e.act e.branch e.now stood f
