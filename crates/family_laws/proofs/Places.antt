-- Where the record of a family stands, and what the journal answered to its Done: only what the journal answers, or a reread finds,
-- makes these others.
use Rattle.std.proofs.Common.{◌≡◌, ◌==◌, ◌||◌, ℕ, zero, suc, List, [], ◌∷◌, length, Bool, true, false, if◌then◌else◌, Option, Some, None, is_some, refl, ◌∙◌}
use Rattle.ots_model.specs.Heard.{of_participant}
use Rattle.ots_model.specs.declared.completion.CallNumber.{CallNumber}
use Rattle.ots_model.specs.declared.completion.Doubted.{Doubted}
use Rattle.ots_model.specs.declared.completion.Heard.{Heard as ParticipantHeard}
use Rattle.ots_model.specs.declared.completion.Receipt.{Receipt}
use Rattle.ots_model.specs.declared.completion.Stood.{Stood}
use Rattle.ots_model.specs.declared.completion.Stood.TheVariants as answers
use Rattle.ots_model.specs.declared.tree.Heard.{Heard}
use Rattle.ots_model.specs.Numbered.{Outcome}
use Rattle.ots_model.specs.declared.tree.Outward.{Outward}
use Rattle.ots_model.specs.declared.tree.Reason.{Reason}
use Rattle.ots_model.specs.declared.tree.Reason.TheVariants as reasons
use Rattle.txn_tree.specs.Calls.{ended, live_under, creating}
use Rattle.txn_tree.specs.Rows.{parent}
use Rattle.txn_tree.specs.declared.row.TreeFault.{TreeFault}
use Rattle.resource_votes.specs.Ballots.{Ballots, adopted}
use Rattle.resource_votes.specs.declared.registration.Registration.{Registration}
use Rattle.resource_votes.specs.declared.registration.VoteFault.{VoteFault}
use Rattle.two_phase.specs.Course.{same_number}
use Rattle.two_phase.specs.Course as course
use Rattle.two_phase.specs.Course.{Course}
use Rattle.two_phase.specs.Stages as stages
use Rattle.two_phase.specs.Stages.{Standing, Waiting, Going as UnderWay}
use Rattle.two_phase.specs.declared.party.Errand.{Errand}
use Rattle.coordinator.specs.declared.call.Leg.{Leg}
use Rattle.coordinator.specs.declared.call.Leg.TheVariants.{Below, Own, Before, Deciding, After}
use Rattle.coordinator.specs.declared.call.Stage.{Stage}
use Rattle.coordinator.specs.declared.call.Stage.TheVariants.{Going, Finishing, Completing, Over}
use Rattle.coordinator.specs.declared.phase.Column.{Column}
use Rattle.coordinator.specs.declared.phase.Column.TheVariants as columns
use Rattle.coordinator.specs.declared.said.Said.{Said}
use Rattle.coordinator.specs.declared.said.Said.TheVariants as said
use Rattle.coordinator.specs.Family.{Family, Aim, Call, Commits, RollsBack, Duty, call_at, with_call, waiting_for}
use Rattle.coordinator.specs.Moves.{Moved, Notice, ◌▹◌, sends, ends_call, completes_as}
use Rattle.coordinator.specs.Closing.{asked_of, asking, rolling_back, begun, begins, decides, decides_by, rests, afterwards, tells_next, next_told, finishes, next_synchronization, calls_next, gives_up, before}
use Rattle.coordinator.specs.Running.{duty_notice, tells_first, commits_up, adopter, own_ends, own_duties, tells_own, passes_top, passes, ends_below, duties_below, sweeps_next, sweeps, is_held, tells_after, by_leg, runs, runs_call, goes_on}
use Rattle.coordinator.specs.Phases.{is_marked, has_parent_ended, column, is_open}
use Rattle.coordinator.specs.Hearing.{is_markable, marks, marks_parent, is_plain, told_commit, told_end, reason_of, told_before, inner_number, told_participant, told, hears_at, answers_doubt, doubts_by}
use Rattle.coordinator.specs.Table.{Acted, new_call, on_branch, on_terminator, has_terminator, has_branch, registers, creates_by, creates_in, marks_only, rolls_back_top, rolls_back_sub, rolls_back, begins_commit, unless_orphan, commits_in, rolls_back_in}
use Rattle.coordinator.specs.Step.{hears_call, hears_for, hears, goes_on_at, has_timed_out, times_out, ticks}
use Rattle.family_laws.proofs.Telling.{either_course}

-- ---- what stays

-- its record stands where it stood, and the journal has answered to its Done what it had
abbrev pub Still : Family → Moved → Type 0
Still f m = (m.family.closed ≡ f.closed) × (stages.record_place m.family.completion ≡ stages.record_place f.completion)

still_next : (f : Family) (first : Moved) (next : Family → Moved) → Still f first → Still first.family (next first.family) → Still f (first ▹ next)
still_next f first next h k = (k.0 ∙ h.0, k.1 ∙ h.1)

either_still : (f : Family) (t : Bool) (x y : Moved) → Still f x → Still f y → Still f (if t then x else y)
either_still f true x y h k = h
either_still f false x y h k = k

ends_still : (b : ℕ) (c : Call) (answer : Said) (f : Family) → Still f (ends_call b c answer f)
unfolding ends_call
ends_still b c answer f = (refl, refl)

sends_still : (b : ℕ) (c : Call) (n : Notice) (r : Option Receipt) (f : Family) → Still f (sends b c n r f)
unfolding sends
sends_still b c n r f = (refl, refl)

-- ---- the top-level transaction ends

finishes_still : (c : Call) (fixed : Outcome) (f : Family) → Still f (finishes c fixed f)
unfolding finishes
finishes_still c fixed f = ends_still 0 c _ (record f { stage = Over })

tells_next_still : (o : Option Registration) (called : ℕ) (c : Call) (fixed : Outcome) (f : Family) → Still f (tells_next o called c fixed f)
tells_next_still (Some r) called c fixed f = sends_still 0 _ _ None f
tells_next_still None called c fixed f = finishes_still c fixed f

afterwards_still : (called : ℕ) (c : Call) (fixed : Outcome) (f : Family) → Still f (afterwards called c fixed f)
unfolding afterwards
afterwards_still called c fixed f = tells_next_still (next_told f fixed called) called c fixed f

rests_still : (c : Call) (o : Option Outcome) (f : Family) → Still f (rests c o f)
rests_still c (Some fixed) f = afterwards_still 0 c fixed f
rests_still c None f = (refl, refl)

next_place : (k : Course) → stages.record_place (UnderWay (course.after_next k)) ≡ stages.record_place (UnderWay k)
next_place k = either_course (λ d. stages.record_place (UnderWay d) ≡ stages.record_place (UnderWay k)) (is_some k.out) k (record k { out = course.errand k }) refl refl

sent_still : (k : Course) (o : Option Outward) (c : Call) (f : Family) → Still (record f { completion = UnderWay k }) (decides_by o c (record f { completion = UnderWay k }))
unfolding sends
sent_still k (Some w) c f = (refl, next_place k)
sent_still k None c f = rests_still c (course.outcome k) (record f { completion = UnderWay k })

decides_from : (s : Standing) (c : Call) (f : Family) → Still (record f { completion = s }) (decides c (record f { completion = s }))
unfolding decides
decides_from (Waiting room) c f = rests_still (record c { leg = Deciding }) None (record f { completion = Waiting room })
decides_from (UnderWay k) c f = sent_still k (course.next_word k) (record c { leg = Deciding }) f

decides_still : (c : Call) (f : Family) → Still f (decides c f)
decides_still c f = decides_from f.completion c f

begun_asking : (s : Standing) (asked : Bool) (f : Family) → stages.record_place (begun s (asking asked f)) ≡ stages.record_place s
begun_asking (Waiting room) asked f = refl
begun_asking (UnderWay k) asked f = refl

begun_rolling : (s : Standing) (asked : Bool) (reason : Reason) (f : Family) → stages.record_place (begun s (rolling_back asked reason f)) ≡ stages.record_place s
begun_rolling (Waiting room) asked reason f = refl
begun_rolling (UnderWay k) asked reason f = refl

asks_still : (asked : Bool) (f : Family) → Still f (begins (asking asked f) f)
unfolding begins completes_as
asks_still asked f = (refl, begun_asking f.completion asked f)

rolls_still : (asked : Bool) (reason : Reason) (f : Family) → Still f (begins (rolling_back asked reason f) f)
unfolding begins completes_as
rolls_still asked reason f = (refl, begun_rolling f.completion asked reason f)

calls_next_still : (o : Option Registration) (called : ℕ) (c : Call) (f : Family) → Still f (calls_next o called c f)
calls_next_still (Some r) called c f = sends_still 0 _ _ None f
calls_next_still None called c f =
    still_next f (begins (asking (asked_of c.aim) f) f) (decides c) (asks_still (asked_of c.aim) f) (decides_still c (begins (asking (asked_of c.aim) f) f).family)

before_still : (called : ℕ) (c : Call) (f : Family) → Still f (before called c f)
unfolding before
before_still called c f = either_still f (is_marked f 0) _ _
    (still_next f (gives_up reasons.Marked c f) (decides c) (rolls_still (asked_of c.aim) reasons.Marked f) (decides_still c (gives_up reasons.Marked c f).family))
    (calls_next_still (next_synchronization f called) called c f)

-- ---- a call goes on

tells_first_still : (some : List Duty) (b : ℕ) (c : Call) (next : Family → Moved) (f : Family) → Still f (next f) → Still f (tells_first some b c next f)
tells_first_still [] b c next f h = h
tells_first_still (d ∷ others) b c next f h = sends_still b _ (duty_notice d) None f

commits_up_still : (b : ℕ) (o : Option ℕ) (c : Call) (f : Family) → Still f (commits_up b o c f)
unfolding commits_up
commits_up_still b (Some p) c f = ends_still b c said.Plain (record f { rows = ended f.rows b true; ballots = adopted b p f.ballots })
commits_up_still b None c f = (refl, refl)

own_ends_still : (aim : Aim) (b : ℕ) (c : Call) (f : Family) → Still f (own_ends aim b c f)
own_ends_still (Commits asked) b c f = commits_up_still b (adopter f.rows b) c f
own_ends_still (RollsBack says) b c f = ends_still b c says f

tells_own_still : (b : ℕ) (c : Call) (f : Family) → Still f (tells_own b c f)
unfolding tells_own
tells_own_still b c f = tells_first_still (own_duties c.aim b f) b _ _ f (own_ends_still c.aim b _ f)

passes_top_still : (stage : Stage) (c : Call) (f : Family) → Still f (passes_top stage c f)
passes_top_still Going c f = decides_still c f
passes_top_still Finishing c f = before_still 0 c f
passes_top_still Completing c f = decides_still c f
passes_top_still Over c f = decides_still c f

passes_still : (b : ℕ) (c : Call) (f : Family) → Still f (passes b c f)
unfolding passes
passes_still b c f = either_still f (b == 0) _ _ (passes_top_still f.stage c f) (tells_own_still b c f)

ends_below_still : (d : ℕ) (f : Family) → Still f (ends_below d f)
unfolding ends_below
ends_below_still d f = (refl, refl)

sweeps_next_still : (o : Option ℕ) (b : ℕ) (c : Call) (next : Family → Moved) → ((g : Family) → Still g (next g)) → (f : Family) → Still f (sweeps_next o b c next f)
sweeps_next_still (Some d) b c next all f =
    still_next f (ends_below d f) (tells_first (duties_below d f) b c next) (ends_below_still d f)
    (tells_first_still (duties_below d f) b c next (ends_below d f).family (all (ends_below d f).family))
sweeps_next_still None b c next all f = passes_still b c f

sweeps_still : (n b : ℕ) (c : Call) (f : Family) → Still f (sweeps n b c f)
unfolding sweeps
sweeps_still zero b c f = passes_still b c f
sweeps_still (suc n) b c f = sweeps_next_still (live_under f.rows b) b c (sweeps n b c) (sweeps_still n b c) f

tells_after_still : (o : Option Outcome) (called : ℕ) (c : Call) (f : Family) → Still f (tells_after o called c f)
tells_after_still (Some fixed) called c f = afterwards_still called c fixed f
tells_after_still None called c f = (refl, refl)

by_leg_still : (leg : Leg) (b : ℕ) (c : Call) (f : Family) → Still f (by_leg leg b c f)
by_leg_still Below b c f = sweeps_still (length f.rows) b c f
by_leg_still Own b c f = own_ends_still c.aim b c f
by_leg_still (Before called) b c f = before_still called c f
by_leg_still Deciding b c f = decides_still c f
by_leg_still (After called) b c f = tells_after_still (stages.outcome f.completion) called c f

runs_still : (b : ℕ) (c : Call) (f : Family) → Still f (runs b c f)
unfolding runs
runs_still b c f = either_still f (is_held b c f) _ _ (refl, refl) (tells_first_still c.left b c _ f (by_leg_still c.leg b c f))

runs_call_still : (o : Option Call) (b : ℕ) (f : Family) → Still f (runs_call o b f)
runs_call_still (Some c) b f = runs_still b c f
runs_call_still None b f = (refl, refl)

pub goes_on_still : (b : ℕ) (f : Family) → Still f (goes_on b f)
unfolding goes_on
goes_on_still b f = runs_call_still (call_at f b) b f

pub goes_on_at_still : (o : Option ℕ) (f : Family) → Still f (goes_on_at o f)
goes_on_at_still (Some b) f = goes_on_still b f
goes_on_at_still None f = (refl, refl)

-- ---- an answer is heard

marks_still : (b : ℕ) (f : Family) → Still f (marks b f)
unfolding marks
marks_still b f = either_still f (is_markable f b) _ _ (refl, refl) (refl, refl)

marks_parent_still : (o : Option ℕ) (f : Family) → Still f (marks_parent o f)
marks_parent_still (Some above) f = marks_still above f
marks_parent_still None f = (refl, refl)

told_end_still : (aim : Aim) (b : ℕ) (heard : Heard) (f : Family) → Still f (told_end aim b heard f)
unfolding told_commit
told_end_still (Commits asked) b heard f = either_still f (is_plain heard || has_parent_ended f b) _ _ (refl, refl) (marks_parent_still (parent f.rows b) f)
told_end_still (RollsBack says) b heard f = (refl, refl)

told_before_still : (b called : ℕ) (c : Call) (heard : Heard) (f : Family) → Still f (told_before b called c heard f)
unfolding told_before
told_before_still b called c heard f = either_still f (is_plain heard) _ _ (refl, refl)
    (rolls_still (asked_of c.aim) (reason_of called heard) (with_call b (record c { leg = Deciding }) f))

answer_place : (s : Standing) (n : CallNumber) (heard : ParticipantHeard) → stages.record_place (stages.after_answer n heard s) ≡ stages.record_place s
answer_place (Waiting room) n heard = refl
answer_place (UnderWay c) n heard = go c.out
  where
    test : (e : Errand) (t : Bool) → stages.record_place (UnderWay (if t then course.answered heard c e else c)) ≡ stages.record_place (UnderWay c)
    test e true = refl
    test e false = refl

    go : (o : Option Errand) → stages.record_place (UnderWay (elim o [ Some e ↦ if same_number n c.number then course.answered heard c e else c | None ↦ c ])) ≡ stages.record_place (UnderWay c)
    go (Some e) = test e (same_number n c.number)
    go None = refl

told_participant_still : (n : CallNumber) (h : Heard) (f : Family) → Still f (told_participant n h f)
unfolding told_participant completes_as
told_participant_still n h f = (refl, answer_place f.completion (inner_number f f.completion n) (of_participant h))

told_still : (leg : Leg) (n : CallNumber) (b : ℕ) (c : Call) (h : Heard) (f : Family) → Still f (told leg n b c h f)
told_still Below n b c h f = (refl, refl)
told_still Own n b c h f = told_end_still c.aim b h f
told_still (Before called) n b c h f = told_before_still b called c h f
told_still Deciding n b c h f = told_participant_still n h f
told_still (After called) n b c h f = (refl, refl)

hears_call_still : (o : Option Call) (b : ℕ) (n : CallNumber) (h : Heard) (f : Family) → Still f (hears_call o b n h f)
unfolding hears_at
hears_call_still (Some c) b n h f = told_still c.leg n b (record c { out = None }) h (with_call b (record c { out = None }) f)
hears_call_still None b n h f = (refl, refl)

hears_for_still : (o : Option ℕ) (n : CallNumber) (h : Heard) (f : Family) → Still f (hears_for o n h f)
hears_for_still (Some b) n h f = hears_call_still (call_at f b) b n h f
hears_for_still None n h f = (refl, refl)

pub hears_still : (n : CallNumber) (h : Heard) (f : Family) → Still f (hears n h f)
unfolding hears
hears_still n h f = hears_for_still (waiting_for f n) n h f

-- ---- a client's call, or the time

rolls_back_top_still : (reason : Reason) (caller : Option ℕ) (answer : Said) (f : Family) → Still f (rolls_back_top reason caller answer f)
unfolding rolls_back_top
rolls_back_top_still reason caller answer f =
    still_next f (begins (rolling_back false reason f) f) (runs 0 (new_call caller (RollsBack answer))) (rolls_still false reason f)
    (runs_still 0 (new_call caller (RollsBack answer)) (begins (rolling_back false reason f) f).family)

rolls_back_sub_still : (b : ℕ) (caller : Option ℕ) (answer : Said) (f : Family) → Still f (rolls_back_sub b caller answer f)
unfolding rolls_back_sub
rolls_back_sub_still b caller answer f = runs_still b (new_call caller (RollsBack answer)) (record f { rows = ended f.rows b false })

rolls_back_still : (b : ℕ) (reason : Reason) (caller : Option ℕ) (answer : Said) (f : Family) → Still f (rolls_back b reason caller answer f)
rolls_back_still b reason caller answer f = either_still f (b == 0) _ _ (rolls_back_top_still reason caller answer f) (rolls_back_sub_still b caller answer f)

begins_commit_still : (b position : ℕ) (asked : Bool) (f : Family) → Still f (begins_commit b position asked f)
unfolding begins_commit
begins_commit_still b position asked f = go (b == 0)
  where
    go : (t : Bool) → Still f (runs b (new_call (Some position) (Commits asked)) (if t then record f { stage = Finishing } else f))
    go true = runs_still b (new_call (Some position) (Commits asked)) (record f { stage = Finishing })
    go false = runs_still b (new_call (Some position) (Commits asked)) f

-- of an act
abbrev pub StillAct : Family → Acted → Type 0
StillAct f a = Still f a.moved

either_act : (f : Family) (t : Bool) (x y : Acted) → StillAct f x → StillAct f y → StillAct f (if t then x else y)
either_act f true x y h k = h
either_act f false x y h k = k

unless_orphan_still : (b : ℕ) (f : Family) (m : Moved) → Still f m → StillAct f (unless_orphan b f m)
unless_orphan_still b f m h = either_act f (has_parent_ended f b) _ _ (refl, refl) h

pub commits_in_still : (place : Column) (b position : ℕ) (asked : Bool) (f : Family) → StillAct f (commits_in place b position asked f)
commits_in_still columns.Active b position asked f = unless_orphan_still b f _ (begins_commit_still b position asked f)
commits_in_still columns.Marked b position asked f = unless_orphan_still b f _ (rolls_back_still b reasons.Marked (Some position) said.TransactionRolledBack f)
commits_in_still columns.Finishing b position asked f = (refl, refl)
commits_in_still columns.RolledBack b position asked f = (refl, refl)
commits_in_still columns.Past b position asked f = (refl, refl)

pub rolls_back_in_still : (place : Column) (b position : ℕ) (f : Family) → StillAct f (rolls_back_in place b position f)
rolls_back_in_still columns.Active b position f = rolls_back_still b reasons.Asked (Some position) said.Plain f
rolls_back_in_still columns.Marked b position f = rolls_back_still b reasons.Asked (Some position) said.Plain f
rolls_back_in_still columns.Finishing b position f = (refl, refl)
rolls_back_in_still columns.RolledBack b position f = (refl, refl)
rolls_back_in_still columns.Past b position f = (refl, refl)

pub registers_still : (fault : Option VoteFault) (answer : Said) (later : Ballots) (f : Family) → StillAct f (registers fault answer later f)
registers_still None answer later f = (refl, refl)
registers_still (Some fault) answer later f = (refl, refl)

pub marks_only_still : (b : ℕ) (f : Family) → StillAct f (marks_only b f)
unfolding marks_only
marks_only_still b f = either_act f (is_open (column f b)) _ _ (marks_still b f) (refl, refl)

times_out_still : (stage : Stage) (f : Family) → Still f (times_out stage f)
times_out_still Going f = rolls_back_top_still reasons.Timeout None said.Plain f
times_out_still Finishing f = marks_still 0 f
times_out_still Completing f = marks_still 0 f
times_out_still Over f = marks_still 0 f

pub ticks_still : (now : ℕ) (f : Family) → Still f (ticks now f)
unfolding ticks
ticks_still now f = either_still f (has_timed_out f now) _ _ (times_out_still f.stage f) (refl, refl)

creates_by_still : (fault : Option TreeFault) (b : ℕ) (f : Family) → StillAct f (creates_by fault b f)
creates_by_still None b f = (refl, refl)
creates_by_still (Some fault) b f = (refl, refl)

pub creates_in_still : (place : Column) (b : ℕ) (f : Family) → StillAct f (creates_in place b f)
creates_in_still columns.Active b f = creates_by_still (creating f.rows b) b f
creates_in_still columns.Marked b f = (refl, refl)
creates_in_still columns.Finishing b f = (refl, refl)
creates_in_still columns.RolledBack b f = (refl, refl)
creates_in_still columns.Past b f = (refl, refl)

pub on_branch_still : (b : ℕ) (f : Family) (a : Acted) → StillAct f a → StillAct f (on_branch b f a)
on_branch_still b f a h = either_act f (has_branch f b) a _ h (refl, refl)

pub on_terminator_still : (b : ℕ) (f : Family) (a : Acted) → StillAct f a → StillAct f (on_terminator b f a)
on_terminator_still b f a h = either_act f (has_terminator f b) a _ h (refl, refl)

-- ---- a doubt

answers_doubt_still : (why : Doubted) (o : Option Call) (f : Family) → Still f (answers_doubt why o f)
unfolding answers_doubt
answers_doubt_still why (Some c) f = (refl, refl)
answers_doubt_still why None f = (refl, refl)

pub doubts_by_still : (stood : Stood) (f : Family) → Still f (doubts_by stood f)
doubts_by_still (answers.Stands place) f = (refl, refl)
doubts_by_still (answers.Full used need) f = (refl, refl)
doubts_by_still (answers.Unsure why) f = answers_doubt_still why (call_at f 0) f
