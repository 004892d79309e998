-- Each step of a family goes rightly: its completion proceeds, and what goes out is the completion's next word, or a word of a
-- subtransaction's end, or to a synchronization.
use Rattle.std.proofs.Common.{◌≡◌, ◌==◌, refl, sym, subst, ℕ, zero, suc, Bool, true, false, inl, inr, List, [], ◌∷◌, ◌++◌, length, Option, Some, None, if◌then◌else◌, is_none}
use Rattle.std.specs.List.{AllByRecursion}
use Rattle.ots_model.specs.Heard.{of_participant}
use Rattle.ots_model.specs.declared.completion.CallNumber.{CallNumber}
use Rattle.ots_model.specs.declared.completion.Doubted.{Doubted}
use Rattle.ots_model.specs.declared.completion.Receipt.{Receipt}
use Rattle.ots_model.specs.declared.completion.Stood.{Stood}
use Rattle.ots_model.specs.declared.completion.Stood.TheVariants as answers
use Rattle.ots_model.specs.declared.completion.Heard.{Heard as ParticipantHeard}
use Rattle.ots_model.specs.declared.tree.Heard.{Heard}
use Rattle.ots_model.specs.Numbered.{Outcome}
use Rattle.ots_model.specs.declared.tree.Outward.{Outward}
use Rattle.ots_model.specs.declared.tree.Reason.{Reason}
use Rattle.ots_model.specs.declared.tree.Reason.TheVariants as reasons
use Rattle.resource_votes.specs.declared.registration.Registration.{Registration}
use Rattle.txn_tree.specs.Calls.{live_under}
use Rattle.txn_tree.specs.Rows.{parent}
use Rattle.two_phase.specs.Course as course
use Rattle.two_phase.specs.Course.{Course}
use Rattle.two_phase.specs.LawsOfReached.TreeBecomes.{by_word, by_answer, by_record, by_reread}
use Rattle.two_phase.specs.Stages as stages
use Rattle.two_phase.specs.Stages.{Standing, Waiting, Going as UnderWay}
use Rattle.coordinator.specs.declared.said.Said.{Said}
use Rattle.coordinator.specs.declared.said.Said.TheVariants as said
use Rattle.coordinator.specs.declared.effect.Effect.TheVariants as effects
use Rattle.coordinator.specs.Family.{Family, Call, Aim, Commits, RollsBack, Duty, Ending, TellsRollback, TellsCommit, RollsBackUpdates, Stage, Going, Finishing, Completing, Over, Leg, Below, Own, Before, Deciding, After, call_at, number_of, waiting_for, with_call}
use Rattle.coordinator.specs.Moves.{Moved, Notice, only, ◌▹◌, outward, sends, ends_call, completes_as, shows}
use Rattle.coordinator.specs.declared.phase.Column.{Column}
use Rattle.coordinator.specs.declared.phase.Column.TheVariants as columns
use Rattle.coordinator.specs.Phases.{column, is_marked, has_parent_ended}
use Rattle.coordinator.specs.Closing.{asking, rolling_back, begun, begins, decides, decides_by, rests, tells_next, next_told, next_synchronization, calls_next, afterwards, finishes, before, asked_of, asked_ones, gives_up, waits}
use Rattle.coordinator.specs.Running.{word_of, tells_first, commits_up, adopter, own_ends, own_duties, tells_own, passes_top, passes, ends_below, duties_below, sweeps_next, sweeps, tells_after, by_leg, runs, runs_call, goes_on}
use Rattle.coordinator.specs.Hearing.{is_markable, marks, marks_parent, is_plain, told_commit, told_end, told_before, reason_of, told_participant, inner_number, told, hears_at, vote_effects, wants_done, answers_doubt, doubts_by, decided, closes, settles}
use Rattle.coordinator.specs.declared.event.Act.{Act}
use Rattle.coordinator.specs.declared.event.Act.TheVariants as acts
use Rattle.coordinator.specs.declared.event.Event.{Event}
use Rattle.coordinator.specs.Table.{Acted, new_call, says, on_branch, on_terminator, has_terminator, has_branch, gets_terminator, registers, with_sub, creates_by, creates_in, creates_subtransaction, marks_only, rolls_back_top, rolls_back_sub, rolls_back, begins_commit, unless_orphan, commits_in, commits, rolls_back_in, rolls_back_asked, registers_resource, registers_synchronization, registers_aware, replays}
use Rattle.coordinator.specs.History.{kept_for, repeated}
use Rattle.coordinator.specs.Step.{hears_call, hears_for, hears, goes_on_at, answered, has_timed_out, times_out, ticks, found_at, rereads, acts_on, acted, is_silent, Stepped, quiet, entered, step_by, family_step}
use Rattle.txn_tree.specs.Calls.{creating, ended}
use Rattle.txn_tree.specs.declared.row.TreeFault.{TreeFault}
use Rattle.resource_votes.specs.Ballots.{Ballots, adopted}
use Rattle.resource_votes.specs.declared.registration.VoteFault.{VoteFault}
use Rattle.two_phase.specs.LawsOfReached.{TreeOutcomeStays}
use Rattle.two_phase.specs.LawsOfReached.IsReached.{begins as reached, rolls_back as reached_by_rollback, goes_on as reached_on}
use Rattle.coordinator.specs.declared.effect.Effect.{Effect}
use Rattle.coordinator.specs.Laws.{IsThere, Proceeds, still, asks, rolls_back as starts_back, goes_on as proceeds_on, further, GoesOut, IsOfSubtransaction, FamiliesStepRightly}

-- a completion that proceeds is there, and keeps its outcome
pub record Stays (fixed : Outcome) (s later : Standing) : Type 0 where
  pub there : IsThere later
  pub same : stages.outcome s ≡ Some fixed → stages.outcome later ≡ Some fixed

pub stays : TreeOutcomeStays → (fixed : Outcome) (s later : Standing) → Proceeds s later → IsThere s → Stays fixed s later
stays law fixed _ _ (still s) there = record { there = there; same = λ e. e }
stays law fixed _ _ (asks room some asked first one) there = record {
  there = reached some asked first one;
  same = λ e. absurd (cc (e));
}
stays law fixed _ _ (starts_back room some asked first one reason) there = record {
  there = reached_by_rollback some asked first one reason;
  same = λ e. absurd (cc (e));
}
stays law fixed _ _ (proceeds_on c next b) there = record {
  there = reached_on c next there b;
  same = λ e. law c next fixed there b e;
}
stays law fixed _ _ (further s between later p q) there =
    let first : Stays fixed s between = stays law fixed s between p there in
    let second : Stays fixed between later = stays law fixed between later q first.there in
    record { there = second.there; same = λ e. second.same (first.same e) }

-- what comes of something goes rightly
pub record Right (s : Standing) (m : Moved) : Type 0 where
  pub proceeds : Proceeds s m.family.completion
  pub words : AllByRecursion (GoesOut m.family.completion) m.words

-- nothing goes out
pub record Quiet (s : Standing) (m : Moved) : Type 0 where
  pub proceeds : Proceeds s m.family.completion
  pub silent : m.words ≡ []

right_of : (s : Standing) (m : Moved) → Quiet s m → Right s m
right_of s m q = record { proceeds = q.proceeds; words = subst (λ ws. AllByRecursion (GoesOut m.family.completion) ws) (sym q.silent) tt }

-- one thing that is quiet, and then what comes next
chained : (s : Standing) (first : Moved) (next : Family → Moved) → Quiet s first → Right first.family.completion (next first.family) → Right s (first ▹ next)
chained s first next q r = record {
  proceeds = further s first.family.completion (next first.family).family.completion q.proceeds r.proceeds;
  words = subst (λ ws. AllByRecursion (GoesOut (next first.family).family.completion) (ws ++ (next first.family).words)) (sym q.silent) r.words;
}

quietly : (s : Standing) (first : Moved) (next : Family → Moved) → Quiet s first → Quiet first.family.completion (next first.family) → Quiet s (first ▹ next)
quietly s first next q r = record {
  proceeds = further s first.family.completion (next first.family).family.completion q.proceeds r.proceeds;
  silent = subst (λ ws. ws ++ (next first.family).words ≡ []) (sym q.silent) r.silent;
}

either : (s : Standing) (b : Bool) (x y : Moved) → Right s x → Right s y → Right s (if b then x else y)
either s true x y r t = r
either s false x y r t = t

either_quiet : (s : Standing) (b : Bool) (x y : Moved) → Quiet s x → Quiet s y → Quiet s (if b then x else y)
either_quiet s true x y r t = r
either_quiet s false x y r t = t

only_quiet : (f : Family) → Quiet f.completion (only f)
only_quiet f = record { proceeds = still f.completion; silent = refl }

pub only_right : (f : Family) → Right f.completion (only f)
only_right f = record { proceeds = still f.completion; words = tt }

sends_right : (s : Standing) (b : ℕ) (c : Call) (n : Notice) (r : Option Receipt) (f : Family)
    → Proceeds s f.completion → GoesOut f.completion (outward f n r) → Right s (sends b c n r f)
unfolding sends
sends_right s b c n r f p g = record { proceeds = p; words = (g, tt) }

ends_call_right : (b : ℕ) (c : Call) (answer : Said) (f : Family) → Right f.completion (ends_call b c answer f)
unfolding ends_call
ends_call_right b c answer f = record { proceeds = still f.completion; words = tt }

tells_next_right : (o : Option Registration) (called : ℕ) (c : Call) (fixed : Outcome) (f : Family) → Right f.completion (tells_next o called c fixed f)
unfolding finishes
tells_next_right (Some r) called c fixed f = sends_right f.completion 0 _ _ None f (still f.completion) (inr (tt, refl))
tells_next_right None called c fixed f = ends_call_right 0 c _ (record f { stage = Over })

afterwards_right : (called : ℕ) (c : Call) (fixed : Outcome) (f : Family) → Right f.completion (afterwards called c fixed f)
unfolding afterwards
afterwards_right called c fixed f = tells_next_right (next_told f fixed called) called c fixed f

waits_right : (b : ℕ) (c : Call) (f : Family) → Right f.completion (waits b c f)
waits_right b c f = record { proceeds = still f.completion; words = tt }

rests_right : (c : Call) (o : Option Outcome) (f : Family) → Right f.completion (rests c o f)
rests_right c (Some fixed) f = afterwards_right 0 c fixed f
rests_right c None f = waits_right 0 c f

sent_right : (k : Course) (o : Option Outward) → course.next_word k ≡ o → (c : Call) (f : Family)
    → Right (UnderWay k) (decides_by o c (record f { completion = UnderWay k }))
sent_right k (Some w) e c f =
    sends_right (UnderWay k) 0 c _ w.receipt (record f { completion = UnderWay (course.after_next k) }) (proceeds_on k (course.after_next k) (by_word k))
    (inl (record { before = k; word = w; next = e; now = refl; same_word = refl; same_registration = refl; same_reference = refl; same_receipt = refl }))
sent_right k None e c f = rests_right c (course.outcome k) (record f { completion = UnderWay k })

decides_right : (s : Standing) (c : Call) (f : Family) → Right s (decides c (record f { completion = s }))
unfolding decides
decides_right (Waiting room) c f = rests_right (record c { leg = Deciding }) None (record f { completion = Waiting room })
decides_right (UnderWay k) c f = sent_right k (course.next_word k) refl (record c { leg = Deciding }) f

begun_asking : (s : Standing) (some : List Registration) (asked : Bool) (n : CallNumber) (one : Bool) → Proceeds s (begun s (stages.started some asked n one))
begun_asking (Waiting room) some asked n one = asks room some asked n one
begun_asking (UnderWay k) some asked n one = still (UnderWay k)

begun_rolling : (s : Standing) (some : List Registration) (asked : Bool) (n : CallNumber) (one : Bool) (reason : Reason)
    → Proceeds s (begun s (stages.started_rollback some asked n one reason))
begun_rolling (Waiting room) some asked n one reason = starts_back room some asked n one reason
begun_rolling (UnderWay k) some asked n one reason = still (UnderWay k)

completes_quiet : (later : Standing) (f : Family) → Proceeds f.completion later → Quiet f.completion (completes_as later f)
unfolding completes_as
completes_quiet later f p = record {
  proceeds = p;
  silent = refl;
}

asks_quiet : (asked : Bool) (f : Family) → Quiet f.completion (begins (asking asked f) f)
unfolding begins
asks_quiet asked f =
    completes_quiet (begun f.completion (asking asked f)) (record f { stage = Completing })
    (begun_asking f.completion (asked_ones f) asked (number_of f 1) (is_none f.superior))

rolls_quiet : (asked : Bool) (reason : Reason) (f : Family) → Quiet f.completion (begins (rolling_back asked reason f) f)
unfolding begins
rolls_quiet asked reason f =
    completes_quiet (begun f.completion (rolling_back asked reason f)) (record f { stage = Completing })
    (begun_rolling f.completion (asked_ones f) asked (number_of f 1) (is_none f.superior) reason)

-- one thing happened
happened_quiet : (x : Effect) (f g : Family) → g.completion ≡ f.completion → Quiet f.completion (shows (x ∷ []) g)
happened_quiet x f g e = record {
  proceeds = subst (λ s. Proceeds f.completion s) (sym e) (still f.completion);
  silent = refl;
}

calls_next_right : (o : Option Registration) (called : ℕ) (c : Call) (f : Family) → Right f.completion (calls_next o called c f)
calls_next_right (Some r) called c f = sends_right f.completion 0 _ _ None f (still f.completion) (inr (tt, refl))
calls_next_right None called c f =
    chained f.completion (begins (asking (asked_of c.aim) f) f) (decides c) (asks_quiet (asked_of c.aim) f)
    (decides_right (begins (asking (asked_of c.aim) f) f).family.completion c (begins (asking (asked_of c.aim) f) f).family)

before_right : (called : ℕ) (c : Call) (f : Family) → Right f.completion (before called c f)
unfolding before
before_right called c f = either f.completion (is_marked f 0) _ _
    (chained f.completion (gives_up reasons.Marked c f) (decides c) (rolls_quiet (asked_of c.aim) reasons.Marked f)
    (decides_right (gives_up reasons.Marked c f).family.completion c (gives_up reasons.Marked c f).family))
    (calls_next_right (next_synchronization f called) called c f)

of_subtransaction : (e : Ending) → IsOfSubtransaction (word_of e)
of_subtransaction TellsRollback = tt
of_subtransaction (TellsCommit above) = tt
of_subtransaction RollsBackUpdates = tt

tells_first_right : (some : List Duty) (b : ℕ) (c : Call) (next : Family → Moved) (f : Family) → Right f.completion (next f) → Right f.completion (tells_first some b c next f)
tells_first_right [] b c next f r = r
tells_first_right (d ∷ others) b c next f r = sends_right f.completion b _ _ None f (still f.completion) (inr (of_subtransaction d.ending, refl))

-- a subtransaction was committed into its parent
abbrev joined : ℕ → ℕ → Family → Family
joined b above f = record f { rows = ended f.rows b true; ballots = adopted b above f.ballots }

commits_up_right : (b : ℕ) (o : Option ℕ) (c : Call) (f : Family) → Right f.completion (commits_up b o c f)
unfolding commits_up
commits_up_right b (Some above) c f =
    chained f.completion (shows (effects.SubtransactionEnded b true ∷ []) (joined b above f)) (ends_call b c said.Plain)
    (happened_quiet (effects.SubtransactionEnded b true) f (joined b above f) refl) (ends_call_right b c said.Plain (joined b above f))
commits_up_right b None c f = waits_right b c f

own_ends_right : (aim : Aim) (b : ℕ) (c : Call) (f : Family) → Right f.completion (own_ends aim b c f)
own_ends_right (Commits asked) b c f = commits_up_right b (adopter f.rows b) c f
own_ends_right (RollsBack says) b c f = ends_call_right b c says f

tells_own_right : (b : ℕ) (c : Call) (f : Family) → Right f.completion (tells_own b c f)
unfolding tells_own
tells_own_right b c f = tells_first_right (own_duties c.aim b f) b _ _ f (own_ends_right c.aim b _ f)

passes_top_right : (stage : Stage) (c : Call) (f : Family) → Right f.completion (passes_top stage c f)
passes_top_right Going c f = decides_right f.completion c f
passes_top_right Finishing c f = before_right 0 c f
passes_top_right Completing c f = decides_right f.completion c f
passes_top_right Over c f = decides_right f.completion c f

passes_right : (b : ℕ) (c : Call) (f : Family) → Right f.completion (passes b c f)
unfolding passes
passes_right b c f = either f.completion _ _ _ (passes_top_right f.stage c f) (tells_own_right b c f)

ends_below_quiet : (d : ℕ) (f : Family) → Quiet f.completion (ends_below d f)
unfolding ends_below
ends_below_quiet d f = record { proceeds = still f.completion; silent = refl }

sweeps_next_right : (o : Option ℕ) (b : ℕ) (c : Call) (next : Family → Moved) → ((g : Family) → Right g.completion (next g)) → (f : Family)
    → Right f.completion (sweeps_next o b c next f)
sweeps_next_right (Some d) b c next all f =
    chained f.completion (ends_below d f) (tells_first (duties_below d f) b c next) (ends_below_quiet d f)
    (tells_first_right (duties_below d f) b c next (ends_below d f).family (all (ends_below d f).family))
sweeps_next_right None b c next all f = passes_right b c f

sweeps_right : (n b : ℕ) (c : Call) (f : Family) → Right f.completion (sweeps n b c f)
unfolding sweeps
sweeps_right zero b c f = passes_right b c f
sweeps_right (suc n) b c f = sweeps_next_right (live_under f.rows b) b c (sweeps n b c) (sweeps_right n b c) f

tells_after_right : (o : Option Outcome) (called : ℕ) (c : Call) (f : Family) → Right f.completion (tells_after o called c f)
tells_after_right (Some fixed) called c f = afterwards_right called c fixed f
tells_after_right None called c f = waits_right 0 c f

by_leg_right : (leg : Leg) (b : ℕ) (c : Call) (f : Family) → Right f.completion (by_leg leg b c f)
by_leg_right Below b c f = sweeps_right (length f.rows) b c f
by_leg_right Own b c f = own_ends_right c.aim b c f
by_leg_right (Before called) b c f = before_right called c f
by_leg_right Deciding b c f = decides_right f.completion c f
by_leg_right (After called) b c f = tells_after_right (stages.outcome f.completion) called c f

pub runs_right : (b : ℕ) (c : Call) (f : Family) → Right f.completion (runs b c f)
unfolding runs
runs_right b c f = either f.completion _ _ _ (waits_right b c f) (tells_first_right c.left b c _ f (by_leg_right c.leg b c f))

runs_call_right : (o : Option Call) (b : ℕ) (f : Family) → Right f.completion (runs_call o b f)
runs_call_right (Some c) b f = runs_right b c f
runs_call_right None b f = only_right f

goes_on_right : (b : ℕ) (f : Family) → Right f.completion (goes_on b f)
unfolding goes_on
goes_on_right b f = runs_call_right (call_at f b) b f

marks_quiet : (b : ℕ) (f : Family) → Quiet f.completion (marks b f)
unfolding marks
marks_quiet b f = either_quiet f.completion (is_markable f b) _ _ (record { proceeds = still f.completion; silent = refl }) (only_quiet f)

marks_parent_quiet : (o : Option ℕ) (f : Family) → Quiet f.completion (marks_parent o f)
marks_parent_quiet (Some above) f = marks_quiet above f
marks_parent_quiet None f = only_quiet f

told_end_quiet : (aim : Aim) (b : ℕ) (h : Heard) (f : Family) → Quiet f.completion (told_end aim b h f)
unfolding told_commit
told_end_quiet (Commits asked) b h f = either_quiet f.completion _ _ _ (only_quiet f) (marks_parent_quiet (parent f.rows b) f)
told_end_quiet (RollsBack says) b h f = only_quiet f

told_before_quiet : (b called : ℕ) (c : Call) (h : Heard) (f : Family) → Quiet f.completion (told_before b called c h f)
unfolding told_before
told_before_quiet b called c h f = either_quiet f.completion (is_plain h) _ _ (only_quiet f)
    (rolls_quiet (asked_of c.aim) (reason_of called h) (with_call b (record c { leg = Deciding }) f))

hears_answer : (s : Standing) (n : CallNumber) (h : ParticipantHeard) → Proceeds s (stages.after_answer n h s)
hears_answer (Waiting room) n h = still (Waiting room)
hears_answer (UnderWay k) n h = proceeds_on k (course.after_answer n h k) (by_answer k n h)

told_participant_quiet : (n : CallNumber) (h : Heard) (f : Family) → Quiet f.completion (told_participant n h f)
unfolding told_participant
told_participant_quiet n h f =
    let later : Standing = stages.after_answer (inner_number f f.completion n) (of_participant h) f.completion in
    quietly f.completion (shows (vote_effects (of_participant h) (stages.voter f.completion)) f) (completes_as later)
    (record { proceeds = still f.completion; silent = refl })
    (completes_quiet later f (hears_answer f.completion (inner_number f f.completion n) (of_participant h)))

told_quiet : (leg : Leg) (n : CallNumber) (b : ℕ) (c : Call) (h : Heard) (f : Family) → Quiet f.completion (told leg n b c h f)
told_quiet Below n b c h f = only_quiet f
told_quiet Own n b c h f = told_end_quiet c.aim b h f
told_quiet (Before called) n b c h f = told_before_quiet b called c h f
told_quiet Deciding n b c h f = told_participant_quiet n h f
told_quiet (After called) n b c h f = only_quiet f

pub hears_at_quiet : (n : CallNumber) (b : ℕ) (c : Call) (h : Heard) (f : Family) → Quiet f.completion (hears_at n b c h f)
unfolding hears_at
hears_at_quiet n b c h f = told_quiet c.leg n b _ h _

answers_doubt_quiet : (why : Doubted) (o : Option Call) (f : Family) → Quiet f.completion (answers_doubt why o f)
unfolding answers_doubt
answers_doubt_quiet why (Some c) f = record { proceeds = still f.completion; silent = refl }
answers_doubt_quiet why None f = only_quiet f

doubts_by_quiet : (stood : Stood) (f : Family) → Quiet f.completion (doubts_by stood f)
doubts_by_quiet (answers.Stands place) f = only_quiet f
doubts_by_quiet (answers.Full used need) f = only_quiet f
doubts_by_quiet (answers.Unsure why) f =
    quietly f.completion (shows (effects.Doubted ∷ []) f) (λ g. answers_doubt why (call_at g 0) g)
    (happened_quiet effects.Doubted f f refl) (answers_doubt_quiet why (call_at f 0) f)

hears_record : (s : Standing) (stood : Stood) → Proceeds s (stages.after_decided stood s)
hears_record (Waiting room) stood = still (Waiting room)
hears_record (UnderWay k) stood = proceeds_on k (course.after_decided stood k) (by_record k stood)

decided_quiet : (stood : Stood) (f : Family) → Quiet f.completion (decided stood f)
unfolding decided
decided_quiet stood f =
    quietly f.completion (completes_as (stages.after_decided stood f.completion) f) (doubts_by stood)
    (completes_quiet (stages.after_decided stood f.completion) f (hears_record f.completion stood))
    (doubts_by_quiet stood (completes_as (stages.after_decided stood f.completion) f).family)

closes_quiet : (stood : Stood) (f : Family) → Quiet f.completion (closes stood f)
unfolding closes
closes_quiet stood f = record { proceeds = still f.completion; silent = refl }

settles_quiet : (stood : Option Stood) (f : Family) → Quiet f.completion (settles stood f)
unfolding settles
settles_quiet None f = only_quiet f
settles_quiet (Some stood) f = either_quiet f.completion _ _ _ (decided_quiet stood f)
    (either_quiet f.completion (wants_done f) _ _ (closes_quiet stood f) (only_quiet f))

hears_reread : (s : Standing) (found : Option ℕ) → Proceeds s (stages.after_reread found s)
hears_reread (Waiting room) found = still (Waiting room)
hears_reread (UnderWay k) found = proceeds_on k (course.after_reread found k) (by_reread k found)

hears_call_quiet : (o : Option Call) (b : ℕ) (n : CallNumber) (h : Heard) (f : Family) → Quiet f.completion (hears_call o b n h f)
hears_call_quiet (Some c) b n h f = hears_at_quiet n b c h f
hears_call_quiet None b n h f = only_quiet f

hears_for_quiet : (o : Option ℕ) (n : CallNumber) (h : Heard) (f : Family) → Quiet f.completion (hears_for o n h f)
hears_for_quiet (Some b) n h f = hears_call_quiet (call_at f b) b n h f
hears_for_quiet None n h f = only_quiet f

goes_on_at_right : (o : Option ℕ) (f : Family) → Right f.completion (goes_on_at o f)
goes_on_at_right (Some b) f = goes_on_right b f
goes_on_at_right None f = only_right f

answered_right : (n : CallNumber) (h : Heard) (stood : Option Stood) (f : Family) → Right f.completion (answered n h stood f)
unfolding answered hears
answered_right n h stood f =
    let heard : Moved = hears_for (waiting_for f n) n h f in
    let settled : Moved = heard ▹ settles stood in
    chained f.completion settled (goes_on_at (waiting_for f n))
    (quietly f.completion heard (settles stood) (hears_for_quiet (waiting_for f n) n h f) (settles_quiet stood heard.family))
    (goes_on_at_right (waiting_for f n) settled.family)

rereads_right : (stood : Option Stood) (f : Family) → Right f.completion (rereads stood f)
unfolding rereads
rereads_right stood f =
    let found : Moved = completes_as (stages.after_reread (found_at stood) f.completion) f in
    chained f.completion found (goes_on 0)
    (completes_quiet (stages.after_reread (found_at stood) f.completion) f (hears_reread f.completion (found_at stood))) (goes_on_right 0 found.family)

rolls_back_top_right : (reason : Reason) (caller : Option ℕ) (answer : Said) (f : Family) → Right f.completion (rolls_back_top reason caller answer f)
unfolding rolls_back_top
rolls_back_top_right reason caller answer f =
    let first : Moved = begins (rolling_back false reason f) f in
    chained f.completion first (runs 0 (new_call caller (RollsBack answer)))
    (rolls_quiet false reason f) (runs_right 0 (new_call caller (RollsBack answer)) first.family)

rolls_back_sub_right : (b : ℕ) (caller : Option ℕ) (answer : Said) (f : Family) → Right f.completion (rolls_back_sub b caller answer f)
unfolding rolls_back_sub
rolls_back_sub_right b caller answer f =
    let first : Moved = shows (effects.SubtransactionEnded b false ∷ []) (record f { rows = ended f.rows b false }) in
    chained f.completion first (runs b (new_call caller (RollsBack answer)))
    (happened_quiet (effects.SubtransactionEnded b false) f first.family refl) (runs_right b (new_call caller (RollsBack answer)) first.family)

rolls_back_right : (b : ℕ) (reason : Reason) (caller : Option ℕ) (answer : Said) (f : Family) → Right f.completion (rolls_back b reason caller answer f)
rolls_back_right b reason caller answer f =
    either f.completion _ _ _ (rolls_back_top_right reason caller answer f) (rolls_back_sub_right b caller answer f)

begun_commit_same : (b : Bool) (f : Family) (x : Stage) (m : Family → Moved) → ((g : Family) → Right g.completion (m g)) → Right f.completion (m (if b then record f { stage = x } else f))
begun_commit_same true f x m all = all (record f { stage = x })
begun_commit_same false f x m all = all f

begins_commit_right : (b position : ℕ) (asked : Bool) (f : Family) → Right f.completion (begins_commit b position asked f)
unfolding begins_commit
begins_commit_right b position asked f =
    begun_commit_same (b == 0) f Finishing (runs b (new_call (Some position) (Commits asked))) (λ g. runs_right b (new_call (Some position) (Commits asked)) g)

times_out_right : (stage : Stage) (f : Family) → Right f.completion (times_out stage f)
times_out_right Going f = rolls_back_top_right _ None _ f
times_out_right Finishing f = right_of f.completion (marks 0 f) (marks_quiet 0 f)
times_out_right Completing f = right_of f.completion (marks 0 f) (marks_quiet 0 f)
times_out_right Over f = right_of f.completion (marks 0 f) (marks_quiet 0 f)

ticks_right : (now : ℕ) (f : Family) → Right f.completion (ticks now f)
unfolding ticks
ticks_right now f = either f.completion (has_timed_out f now) _ _ (times_out_right f.stage f) (only_right f)

-- what an event does goes rightly
abbrev pub Does : Family → Acted → Type 0
Does f a = Right f.completion a.moved

either_acted : (f : Family) (b : Bool) (x y : Acted) → Does f x → Does f y → Does f (if b then x else y)
either_acted f true x y r t = r
either_acted f false x y r t = t

on_branch_right : (b : ℕ) (f : Family) (a : Acted) → Does f a → Does f (on_branch b f a)
on_branch_right b f a r = either_acted f (has_branch f b) a _ r (only_right f)

on_terminator_right : (b : ℕ) (f : Family) (a : Acted) → Does f a → Does f (on_terminator b f a)
on_terminator_right b f a r = either_acted f (has_terminator f b) a _ r (only_right f)

registers_right : (fault : Option VoteFault) (answer : Said) (later : Ballots) (f : Family) → Does f (registers fault answer later f)
registers_right None answer later f = only_right (record f { ballots = later })
registers_right (Some fault) answer later f = only_right f

creates_by_right : (fault : Option TreeFault) (b : ℕ) (f : Family) → Does f (creates_by fault b f)
creates_by_right None b f = only_right (with_sub b f)
creates_by_right (Some fault) b f = only_right f

creates_in_right : (place : Column) (b : ℕ) (f : Family) → Does f (creates_in place b f)
creates_in_right columns.Active b f = creates_by_right (creating f.rows b) b f
creates_in_right columns.Marked b f = only_right f
creates_in_right columns.Finishing b f = only_right f
creates_in_right columns.RolledBack b f = only_right f
creates_in_right columns.Past b f = only_right f

marks_only_right : (b : ℕ) (f : Family) → Does f (marks_only b f)
unfolding marks_only
marks_only_right b f = either_acted f _ _ _ (right_of f.completion (marks b f) (marks_quiet b f)) (only_right f)

unless_orphan_right : (b : ℕ) (f : Family) (m : Moved) → Right f.completion m → Does f (unless_orphan b f m)
unless_orphan_right b f m r = either_acted f (has_parent_ended f b) _ _ (only_right f) r

commits_in_right : (place : Column) (b position : ℕ) (asked : Bool) (f : Family) → Does f (commits_in place b position asked f)
commits_in_right columns.Active b position asked f = unless_orphan_right b f _ (begins_commit_right b position asked f)
commits_in_right columns.Marked b position asked f = unless_orphan_right b f _ (rolls_back_right b _ (Some position) _ f)
commits_in_right columns.Finishing b position asked f = only_right f
commits_in_right columns.RolledBack b position asked f = only_right f
commits_in_right columns.Past b position asked f = only_right f

rolls_back_in_right : (place : Column) (b position : ℕ) (f : Family) → Does f (rolls_back_in place b position f)
rolls_back_in_right columns.Active b position f = rolls_back_right b _ (Some position) _ f
rolls_back_in_right columns.Marked b position f = rolls_back_right b _ (Some position) _ f
rolls_back_in_right columns.Finishing b position f = only_right f
rolls_back_in_right columns.RolledBack b position f = only_right f
rolls_back_in_right columns.Past b position f = only_right f

by_act : (act : Act) (b now : ℕ) (stood : Option Stood) (f : Family) → Does f (acts_on act b now stood f)
unfolding gets_terminator commits rolls_back_asked registers_resource registers_synchronization registers_aware creates_subtransaction replays
by_act acts.GetTerminator b now stood f = on_branch_right b f _ (only_right f)
by_act acts.GetCoordinator b now stood f = on_branch_right b f _ (only_right f)
by_act (acts.Commit asked) b now stood f = on_terminator_right b f _ (commits_in_right (column f b) b _ asked f)
by_act acts.Rollback b now stood f = on_terminator_right b f _ (rolls_back_in_right (column f b) b _ f)
by_act acts.GetStatus b now stood f = only_right f
by_act acts.GetParentStatus b now stood f = only_right f
by_act acts.GetTopLevelStatus b now stood f = on_branch_right b f _ (only_right f)
by_act (acts.IsSameTransaction other) b now stood f = on_branch_right b f _ (only_right f)
by_act (acts.IsRelatedTransaction other) b now stood f = on_branch_right b f _ (only_right f)
by_act (acts.IsAncestorTransaction other) b now stood f = on_branch_right b f _ (only_right f)
by_act (acts.IsDescendantTransaction other) b now stood f = on_branch_right b f _ (only_right f)
by_act acts.IsTopLevelTransaction b now stood f = on_branch_right b f _ (only_right f)
by_act acts.HashTransaction b now stood f = on_branch_right b f _ (only_right f)
by_act acts.HashTopLevelTran b now stood f = on_branch_right b f _ (only_right f)
by_act (acts.RegisterResource to aware) b now stood f = on_branch_right b f _ (registers_right _ _ _ f)
by_act (acts.RegisterSynchronization to) b now stood f = on_branch_right b f _ (registers_right _ _ _ f)
by_act (acts.RegisterSubtranAware to) b now stood f = on_branch_right b f _ (registers_right _ _ _ f)
by_act acts.RollbackOnly b now stood f = on_branch_right b f _ (marks_only_right b f)
by_act acts.GetTransactionName b now stood f = on_branch_right b f _ (only_right f)
by_act acts.CreateSubtransaction b now stood f = on_branch_right b f _ (creates_in_right (column f b) b f)
by_act acts.GetTxcontext b now stood f = on_branch_right b f _ (only_right f)
by_act (acts.Replay g resource) b now stood f = only_right f
by_act (acts.Superior word) b now stood f = only_right f
by_act (acts.Answer n h) b now stood f = answered_right n h stood f
by_act acts.Tick b now stood f = ticks_right now f
by_act (acts.Reread stands) b now stood f = rereads_right stood f
by_act (acts.Opened deadline) b now stood f = only_right (record f { deadline = deadline })

-- a step goes rightly
pub record Steps (f : Family) (s : Stepped) : Type 0 where
  pub proceeds : Proceeds f.completion s.family.completion
  pub words : AllByRecursion (GoesOut s.family.completion) s.words

quiet_steps : (answer : Said) (f : Family) → Steps f (quiet answer f)
quiet_steps answer f = record { proceeds = still f.completion; words = tt }

either_steps : (f : Family) (b : Bool) (x y : Stepped) → Steps f x → Steps f y → Steps f (if b then x else y)
either_steps f true x y r t = r
either_steps f false x y r t = t

entered_steps : (e : Event) (stood : Option Stood) (f : Family) (a : Acted) → Does f a → Steps f (entered f e stood a)
unfolding entered
entered_steps e stood f a r = record { proceeds = r.proceeds; words = r.words }

step_by_right : (o : Option Said) (f : Family) (e : Event) (stood : Option Stood) → Steps f (step_by o f e stood)
unfolding acted
step_by_right (Some answer) f e stood = quiet_steps (repeated answer) f
step_by_right None f e stood = either_steps f (is_silent e f) _ _ (quiet_steps said.Plain f)
    (entered_steps e stood f (acted e stood f) (by_act e.act e.branch e.now stood f))

pub steps : (f : Family) (e : Event) (stood : Option Stood) → Steps f (family_step f e stood)
unfolding family_step
steps f e stood = step_by_right (kept_for f.entries e.key) f e stood

pub steps_right : FamiliesStepRightly
steps_right f e stood = record { proceeds = (steps f e stood).proceeds; words = (steps f e stood).words }
