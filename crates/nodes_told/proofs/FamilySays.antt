-- Whatever a step of a family answers can be read, and what it keeps to be answered later too: a name in it is that of a transaction.
use Rattle.std.proofs.Common.{ℕ, zero, suc, ◌+◌, Bool, true, false, cond, List, [], ◌∷◌, ◌++◌, length, slice_get, slice_set, Option, Some, None}
use Rattle.std.specs.Prelude.{◌==◌, ◌||◌, not, find, filter, position, if◌then◌else◌}
use Rattle.std.specs.List.{AllByRecursion, flat_map}
use Rattle.std.specs.Option.{option_map, option_map_or, option_and_then}
use Rattle.ior_refs.specs.declared.key.ObjectKey.{ObjectKey}
use Rattle.ots_model.specs.Heard.{of_participant}
use Rattle.ots_model.specs.declared.completion.CallNumber.{CallNumber}
use Rattle.ots_model.specs.declared.completion.Doubted.{Doubted}
use Rattle.ots_model.specs.declared.completion.Doubted.TheVariants as doubts
use Rattle.ots_model.specs.declared.completion.Receipt.{Receipt}
use Rattle.ots_model.specs.declared.completion.Stood.{Stood}
use Rattle.ots_model.specs.declared.completion.Stood.TheVariants as answers
use Rattle.ots_model.specs.declared.service.Join.{Join}
use Rattle.ots_model.specs.declared.service.Join.TheVariants as joins
use Rattle.ots_model.specs.declared.service.RetryKey.{RetryKey}
use Rattle.ots_model.specs.declared.service.Status.{Status}
use Rattle.ots_model.specs.declared.tree.Heard.{Heard}
use Rattle.ots_model.specs.Numbered.{Outcome}
use Rattle.ots_model.specs.declared.completion.Outcome.TheVariants as outcomes
use Rattle.ots_model.specs.declared.tree.Outward.{Outward}
use Rattle.ots_model.specs.declared.tree.Reason.{Reason}
use Rattle.ots_model.specs.declared.tree.Reason.TheVariants as reasons
use Rattle.resource_votes.specs.Ballots.{Ballots, adopted}
use Rattle.resource_votes.specs.declared.registration.Registration.{Registration}
use Rattle.resource_votes.specs.declared.registration.VoteFault.{VoteFault}
use Rattle.resource_votes.specs.declared.registration.VoteFault.TheVariants as vote_faults
use Rattle.txn_tree.specs.Calls.{ended, live_under, marked}
use Rattle.txn_tree.specs.Rows.{parent}
use Rattle.txn_tree.specs.declared.row.TreeFault.{TreeFault}
use Rattle.txn_tree.specs.declared.row.TreeFault.TheVariants as tree_faults
use Rattle.two_phase.specs.Stages as stages
use Rattle.two_phase.specs.Stages.{Standing}
use Rattle.coordinator.specs.declared.effect.Effect.{Effect}
use Rattle.coordinator.specs.declared.effect.Effect.TheVariants as effects
use Rattle.coordinator.specs.declared.event.Act.{Act}
use Rattle.coordinator.specs.declared.event.Act.TheVariants as acts
use Rattle.coordinator.specs.declared.event.Event.{Event}
use Rattle.coordinator.specs.declared.phase.Column.{Column}
use Rattle.coordinator.specs.declared.phase.Column.TheVariants as columns
use Rattle.coordinator.specs.declared.phase.Phase.{Phase}
use Rattle.coordinator.specs.declared.phase.Phase.TheVariants as phases
use Rattle.coordinator.specs.declared.said.Entry.{Entry}
use Rattle.coordinator.specs.declared.said.Finished.{Finished}
use Rattle.coordinator.specs.declared.said.Said.{Said}
use Rattle.coordinator.specs.declared.said.Said.TheVariants as said
use Rattle.coordinator.specs.Closing.{afterwards, asked_of, asking, before, begins, calls_next, commit_answer, decides, decides_by, end_answer, finishes, gives_up, next_synchronization, next_told, plain_answer, reported, rests, rolling_back, tells_next, waits}
use Rattle.coordinator.specs.declared.call.Leg.{Leg}
use Rattle.coordinator.specs.declared.call.Leg.TheVariants.{Below, Own, Before, Deciding, After}
use Rattle.coordinator.specs.declared.call.Stage.{Stage}
use Rattle.coordinator.specs.declared.call.Stage.TheVariants.{Going, Finishing, Completing, Over}
use Rattle.coordinator.specs.Family.{Family, Call, Aim, Commits, RollsBack, Duty, call_at, new_family, waiting_for, with_call, without_call}
use Rattle.coordinator.specs.Hearing.{answers_doubt, closes, decided, doubt_answer, doubts_by, hears_at, inner_number, is_markable, is_plain, marks, marks_parent, reason_of, settles, told, told_before, told_commit, told_end, told_participant, vote_effects, wants_done}
use Rattle.coordinator.specs.History.{answer_at, answer_of, has_key, is_for, is_later, kept, kept_for, later_answer, repeated}
use Rattle.coordinator.specs.Moves.{Moved, Notice, ◌▹◌, answer_to, completes_as, ends_call, only, sends, shows}
use Rattle.coordinator.specs.Names.{is_ancestor_of, is_descendant_of, is_related, is_same, name_of, related_by}
use Rattle.coordinator.specs.Phases.{column, has_parent_ended, is_marked, is_open, phase, top_status, status_of, parent_status_of}
use Rattle.coordinator.specs.Running.{adopter, by_leg, commits_up, duties_below, ends_below, goes_on, is_held, own_duties, own_ends, overtaken_caller, passes, passes_top, runs, runs_call, sweeps, sweeps_next, tells_after, tells_first, tells_own}
use Rattle.coordinator.specs.Step.{Stepped, acted, acts_on, answered, entered, family_step, found_at, goes_on_at, has_timed_out, hears, hears_call, hears_for, is_silent, new_step, quiet, rereads, step_by, ticks, times_out}
use Rattle.coordinator.specs.Table.{Acted, aware_refusal, begins_commit, begun_commit, commits, commits_in, creates_by, creates_in, creates_subtransaction, does, gets_terminator, has_branch, has_registration, has_terminator, marks_only, new_call, on_branch, on_terminator, registers, registers_aware, registers_resource, registers_synchronization, replay_by, replays, rolls_back, rolls_back_asked, rolls_back_in, rolls_back_sub, rolls_back_top, says, status_said, sync_refusal, tree_refusal, unless_orphan, vote_refusal}
use Rattle.nodes_told.specs.Reading.{IsAnswer}
use Rattle.nodes_told.proofs.Readable.{name_plain}

-- ---- lists

pub append_all : {A : Type 0} (P : A → Type 0) (xs ys : List A) → AllByRecursion P xs → AllByRecursion P ys → AllByRecursion P (xs ++ ys)
append_all P [] ys one other = other
append_all P (x ∷ xs) ys one other = (one.0, append_all P xs ys one.1 other)

pub set_all : {A : Type 0} (P : A → Type 0) (xs : List A) (i : ℕ) (x : A) → AllByRecursion P xs → P x → AllByRecursion P (slice_set xs i x)
set_all P [] i x all is = tt
set_all P (y ∷ xs) zero x all is = (is, all.1)
set_all P (y ∷ xs) (suc i) x all is = (all.0, set_all P xs i x all.1 is)

-- it holds of what is there
abbrev pub IfSo : {A : Type 0} → (A → Type 0) → Option A → Type 0
IfSo P (Some x) = P x
IfSo P None = Unit {0}

pub got : {A : Type 0} (P : A → Type 0) (xs : List A) (i : ℕ) → AllByRecursion P xs → IfSo P (slice_get xs i)
got P [] i all = tt
got P (x ∷ xs) zero all = all.0
got P (x ∷ xs) (suc i) all = got P xs i all.1

pub found_one : {A : Type 0} (P : A → Type 0) (p : A → Bool) (xs : List A) → AllByRecursion P xs → IfSo P (find p xs)
found_one P p [] all = tt
found_one P p (x ∷ xs) all = by (p x) (found_one P p xs all.1)
  where
    by : (b : Bool) → IfSo P (find p xs) → IfSo P (cond b (Some x) (find p xs))
    by true more = all.0
    by false more = more

filtered : {A : Type 0} (P : A → Type 0) (p : A → Bool) (xs : List A) → AllByRecursion P xs → AllByRecursion P (filter p xs)
filtered P p [] all = tt
filtered P p (x ∷ xs) all = by (p x) (filtered P p xs all.1)
  where
    by : (b : Bool) → AllByRecursion P (filter p xs) → AllByRecursion P (cond b (x ∷ filter p xs) (filter p xs))
    by true more = (all.0, more)
    by false more = more

-- ---- what can be read

abbrev pub FinishedReads : Finished → Type 0
FinishedReads a = IsAnswer a.said

abbrev pub AimReads : Aim → Type 0
AimReads (Commits asked) = Unit {0}
AimReads (RollsBack answer) = IsAnswer answer

abbrev pub CallReads : Option Call → Type 0
CallReads (Some c) = AimReads c.aim
CallReads None = Unit {0}

abbrev pub EntryReads : Entry → Type 0
EntryReads e = IsAnswer e.said × AllByRecursion FinishedReads e.finished

-- a family that will answer so that it can be read
pub record FamilyReads (f : Family) : Type 0 where
  pub calls : AllByRecursion CallReads f.calls
  pub entries : AllByRecursion EntryReads f.entries

record MovedReads (m : Moved) : Type 0 where
  pub family : FamilyReads m.family
  pub finished : AllByRecursion FinishedReads m.finished

record ActedReads (a : Acted) : Type 0 where
  pub moved : MovedReads a.moved
  pub said : IsAnswer a.said

pub new_reads : (key : ObjectKey) (deadline : Option ℕ) → FamilyReads (new_family key deadline)
new_reads key deadline = record { calls = (tt, tt); entries = tt }

-- ---- moves

with_reads : (b : ℕ) (c : Call) (f : Family) → AimReads c.aim → FamilyReads f → FamilyReads (with_call b c f)
with_reads b c f is k = record { calls = set_all CallReads f.calls b (Some c) k.calls is; entries = k.entries }

without_reads : (b : ℕ) (f : Family) → FamilyReads f → FamilyReads (without_call b f)
without_reads b f k = record { calls = set_all CallReads f.calls b None k.calls tt; entries = k.entries }

call_reads : (f : Family) (b : ℕ) → FamilyReads f → CallReads (call_at f b)
call_reads f b k = by (slice_get f.calls b) (got CallReads f.calls b k.calls)
  where
    by : (o : Option (Option Call)) → IfSo CallReads o → CallReads (option_and_then (λ (c : Option Call). c) o)
    by (Some c) is = is
    by None is = tt

only_reads : (f : Family) → FamilyReads f → MovedReads (only f)
only_reads f k = record { family = k; finished = tt }

shows_reads : (some : List Effect) (f : Family) → FamilyReads f → MovedReads (shows some f)
shows_reads some f k = record { family = k; finished = tt }

then_reads : (first : Moved) (next : Family → Moved) → MovedReads first → ((g : Family) → FamilyReads g → MovedReads (next g)) → MovedReads (first ▹ next)
then_reads first next one other =
    let more = other first.family one.family in
    record { family = more.family; finished = append_all FinishedReads first.finished (next first.family).finished one.finished more.finished }

if_reads : (t : Bool) (x y : Moved) → MovedReads x → MovedReads y → MovedReads (if t then x else y)
if_reads true x y one other = one
if_reads false x y one other = other

answer_to_reads : (caller : Option ℕ) (answer : Said) → IsAnswer answer → AllByRecursion FinishedReads (answer_to caller answer)
answer_to_reads (Some position) answer is = (is, tt)
answer_to_reads None answer is = tt

sends_reads : (b : ℕ) (c : Call) (n : Notice) (receipt : Option Receipt) (f : Family) → AimReads c.aim → FamilyReads f → MovedReads (sends b c n receipt f)
unfolding sends
sends_reads b c n receipt f is k = record {
  family = record { calls = set_all CallReads f.calls b _ k.calls is; entries = k.entries };
  finished = tt;
}

ends_call_reads : (b : ℕ) (c : Call) (answer : Said) (f : Family) → IsAnswer answer → FamilyReads f → MovedReads (ends_call b c answer f)
unfolding ends_call
ends_call_reads b c answer f is k = record { family = without_reads b f k; finished = answer_to_reads c.caller answer is }

completes_reads : (later : Standing) (f : Family) → FamilyReads f → MovedReads (completes_as later f)
unfolding completes_as
completes_reads later f k = record { family = record { calls = k.calls; entries = k.entries }; finished = tt }

-- ---- the end of a transaction

plain_reads : (o : Outcome) → IsAnswer (plain_answer o)
plain_reads (outcomes.Commit basis) = tt
plain_reads (outcomes.Rollback reason) = tt
plain_reads outcomes.Unknown = tt

reported_reads : (j : Join) → IfSo IsAnswer (reported j)
reported_reads joins.Mixed = tt
reported_reads joins.Hazard = tt
reported_reads _ = tt

or_reads : (o : Option Said) (other : Said) → IfSo IsAnswer o → IsAnswer other → IsAnswer (option_map_or (λ x. x) o other)
or_reads (Some answer) other is rest = is
or_reads None other is rest = rest

if_answer : (t : Bool) (x y : Said) → IsAnswer x → IsAnswer y → IsAnswer (if t then x else y)
if_answer true x y one other = one
if_answer false x y one other = other

commit_reads : (s : Standing) (fixed : Outcome) → IsAnswer (commit_answer s fixed)
unfolding commit_answer
commit_reads s fixed =
    if_answer (stages.asked s) _ (plain_answer fixed)
    (or_reads (reported (stages.root_join s)) (plain_answer fixed) (reported_reads (stages.root_join s)) (plain_reads fixed)) (plain_reads fixed)

end_reads : (aim : Aim) (s : Standing) (fixed : Outcome) → AimReads aim → IsAnswer (end_answer aim s fixed)
end_reads (Commits asked) s fixed is = commit_reads s fixed
end_reads (RollsBack answer) s fixed is = is

finishes_reads : (c : Call) (fixed : Outcome) (f : Family) → AimReads c.aim → FamilyReads f → MovedReads (finishes c fixed f)
unfolding finishes
finishes_reads c fixed f is k =
    ends_call_reads 0 c (end_answer c.aim f.completion fixed) (record f { stage = Over }) (end_reads c.aim f.completion fixed is)
    (record { calls = k.calls; entries = k.entries })

tells_next_reads : (o : Option Registration) (called : ℕ) (c : Call) (fixed : Outcome) (f : Family) → AimReads c.aim → FamilyReads f → MovedReads (tells_next o called c fixed f)
tells_next_reads (Some s) called c fixed f is k = sends_reads 0 (record c { leg = After (called + 1) }) _ None f is k
tells_next_reads None called c fixed f is k = finishes_reads c fixed f is k

afterwards_reads : (called : ℕ) (c : Call) (fixed : Outcome) (f : Family) → AimReads c.aim → FamilyReads f → MovedReads (afterwards called c fixed f)
unfolding afterwards
afterwards_reads called c fixed f is k = tells_next_reads (next_told f fixed called) called c fixed f is k

waits_reads : (b : ℕ) (c : Call) (f : Family) → AimReads c.aim → FamilyReads f → MovedReads (waits b c f)
waits_reads b c f is k = record { family = with_reads b c f is k; finished = tt }

rests_reads : (c : Call) (o : Option Outcome) (f : Family) → AimReads c.aim → FamilyReads f → MovedReads (rests c o f)
rests_reads c (Some fixed) f is k = afterwards_reads 0 c fixed f is k
rests_reads c None f is k = waits_reads 0 c f is k

decides_by_reads : (o : Option Outward) (c : Call) (f : Family) → AimReads c.aim → FamilyReads f → MovedReads (decides_by o c f)
decides_by_reads (Some o) c f is k =
    sends_reads 0 c _ o.receipt (record f { completion = stages.after_next f.completion }) is (record { calls = k.calls; entries = k.entries })
decides_by_reads None c f is k = rests_reads c (stages.outcome f.completion) f is k

decides_reads : (c : Call) (f : Family) → AimReads c.aim → FamilyReads f → MovedReads (decides c f)
unfolding decides
decides_reads c f is k = decides_by_reads (stages.next_word f.completion) (record c { leg = Deciding }) f is k

begins_reads : (first : Standing) (f : Family) → FamilyReads f → MovedReads (begins first f)
unfolding begins
begins_reads first f k = completes_reads _ (record f { stage = Completing }) (record { calls = k.calls; entries = k.entries })

gives_up_reads : (reason : Reason) (c : Call) (f : Family) → FamilyReads f → MovedReads (gives_up reason c f)
gives_up_reads reason c f k = begins_reads (rolling_back (asked_of c.aim) reason f) f k

calls_next_reads : (o : Option Registration) (called : ℕ) (c : Call) (f : Family) → AimReads c.aim → FamilyReads f → MovedReads (calls_next o called c f)
calls_next_reads (Some s) called c f is k = sends_reads 0 (record c { leg = Before (called + 1) }) _ None f is k
calls_next_reads None called c f is k =
    then_reads (begins (asking (asked_of c.aim) f) f) (decides c) (begins_reads (asking (asked_of c.aim) f) f k) (λ g kg. decides_reads c g is kg)

before_reads : (called : ℕ) (c : Call) (f : Family) → AimReads c.aim → FamilyReads f → MovedReads (before called c f)
unfolding before
before_reads called c f is k =
    if_reads (is_marked f 0) (gives_up reasons.Marked c f ▹ decides c) (calls_next (next_synchronization f called) called c f)
    (then_reads (gives_up reasons.Marked c f) (decides c) (gives_up_reads reasons.Marked c f k) (λ g kg. decides_reads c g is kg))
    (calls_next_reads (next_synchronization f called) called c f is k)

-- ---- what is heard

marks_reads : (b : ℕ) (f : Family) → FamilyReads f → MovedReads (marks b f)
unfolding marks
marks_reads b f k =
    if_reads (is_markable f b) (shows (effects.Marked b ∷ []) (record f { rows = marked f.rows b })) (only f)
    (shows_reads (effects.Marked b ∷ []) (record f { rows = marked f.rows b }) (record { calls = k.calls; entries = k.entries })) (only_reads f k)

marks_parent_reads : (o : Option ℕ) (f : Family) → FamilyReads f → MovedReads (marks_parent o f)
marks_parent_reads (Some above) f k = marks_reads above f k
marks_parent_reads None f k = only_reads f k

told_commit_reads : (b : ℕ) (h : Heard) (f : Family) → FamilyReads f → MovedReads (told_commit b h f)
unfolding told_commit
told_commit_reads b h f k =
    if_reads (is_plain h || has_parent_ended f b) (only f) (marks_parent (parent f.rows b) f) (only_reads f k) (marks_parent_reads (parent f.rows b) f k)

told_end_reads : (aim : Aim) (b : ℕ) (h : Heard) (f : Family) → FamilyReads f → MovedReads (told_end aim b h f)
told_end_reads (Commits asked) b h f k = told_commit_reads b h f k
told_end_reads (RollsBack answer) b h f k = only_reads f k

told_before_reads : (b called : ℕ) (c : Call) (h : Heard) (f : Family) → AimReads c.aim → FamilyReads f → MovedReads (told_before b called c h f)
unfolding told_before
told_before_reads b called c h f is k =
    if_reads (is_plain h) (only f) (gives_up (reason_of called h) c (with_call b (record c { leg = Deciding }) f)) (only_reads f k)
    (gives_up_reads (reason_of called h) c (with_call b (record c { leg = Deciding }) f) (with_reads b (record c { leg = Deciding }) f is k))

told_participant_reads : (n : CallNumber) (h : Heard) (f : Family) → FamilyReads f → MovedReads (told_participant n h f)
unfolding told_participant
told_participant_reads n h f k = then_reads (shows (vote_effects (of_participant h) (stages.voter f.completion)) f)
    (completes_as (stages.after_answer (inner_number f f.completion n) (of_participant h) f.completion))
    (shows_reads (vote_effects (of_participant h) (stages.voter f.completion)) f k)
    (λ g kg. completes_reads (stages.after_answer (inner_number f f.completion n) (of_participant h) f.completion) g kg)

told_reads : (leg : Leg) (n : CallNumber) (b : ℕ) (c : Call) (h : Heard) (f : Family) → AimReads c.aim → FamilyReads f → MovedReads (told leg n b c h f)
told_reads Below n b c h f is k = only_reads f k
told_reads Own n b c h f is k = told_end_reads c.aim b h f k
told_reads (Before called) n b c h f is k = told_before_reads b called c h f is k
told_reads Deciding n b c h f is k = told_participant_reads n h f k
told_reads (After called) n b c h f is k = only_reads f k

hears_at_reads : (n : CallNumber) (b : ℕ) (c : Call) (h : Heard) (f : Family) → AimReads c.aim → FamilyReads f → MovedReads (hears_at n b c h f)
unfolding hears_at
hears_at_reads n b c h f is k =
    told_reads c.leg n b (record c { out = None }) h (with_call b (record c { out = None }) f) is (with_reads b (record c { out = None }) f is k)

doubt_reads : (why : Doubted) → IsAnswer (doubt_answer why)
doubt_reads doubts.Starved = tt
doubt_reads _ = tt

answers_doubt_reads : (why : Doubted) (c : Option Call) (f : Family) → CallReads c → FamilyReads f → MovedReads (answers_doubt why c f)
unfolding answers_doubt
answers_doubt_reads why (Some c) f is k = record {
  family = with_reads 0 (record c { caller = None }) f is k;
  finished = answer_to_reads c.caller (doubt_answer why) (doubt_reads why);
}
answers_doubt_reads why None f is k = only_reads f k

doubts_reads : (stood : Stood) (f : Family) → FamilyReads f → MovedReads (doubts_by stood f)
doubts_reads (answers.Unsure why) f k =
    then_reads (shows (effects.Doubted ∷ []) f) (λ g. answers_doubt why (call_at g 0) g) (shows_reads (effects.Doubted ∷ []) f k) (λ g kg. answers_doubt_reads why (call_at g 0) g (call_reads g 0 kg) kg)
doubts_reads _ f k = only_reads f k

decided_reads : (stood : Stood) (f : Family) → FamilyReads f → MovedReads (decided stood f)
unfolding decided
decided_reads stood f k = then_reads (completes_as (stages.after_decided stood f.completion) f) (doubts_by stood)
    (completes_reads (stages.after_decided stood f.completion) f k) (λ g kg. doubts_reads stood g kg)

closes_reads : (stood : Stood) (f : Family) → FamilyReads f → MovedReads (closes stood f)
unfolding closes
closes_reads stood f k = record { family = record { calls = k.calls; entries = k.entries }; finished = tt }

settles_reads : (o : Option Stood) (f : Family) → FamilyReads f → MovedReads (settles o f)
unfolding settles
settles_reads None f k = only_reads f k
settles_reads (Some stood) f k =
    if_reads (stages.wants_decision f.completion) (decided stood f) (if wants_done f then closes stood f else only f) (decided_reads stood f k)
    (if_reads (wants_done f) (closes stood f) (only f) (closes_reads stood f k) (only_reads f k))

-- ---- a call goes on

tells_first_reads : (some : List Duty) (b : ℕ) (c : Call) (next : Family → Moved) (f : Family) → AimReads c.aim → FamilyReads f → MovedReads (next f) → MovedReads (tells_first some b c next f)
tells_first_reads [] b c next f is k more = more
tells_first_reads (d ∷ others) b c next f is k more = sends_reads b (record c { left = others }) _ None f is k

commits_up_reads : (b : ℕ) (o : Option ℕ) (c : Call) (f : Family) → AimReads c.aim → FamilyReads f → MovedReads (commits_up b o c f)
unfolding commits_up
commits_up_reads b (Some above) c f is k =
    then_reads
    (shows (effects.SubtransactionEnded b true ∷ []) (record f { rows = ended f.rows b true; ballots = adopted b above f.ballots }))
    (ends_call b c said.Plain) (record { family = record { calls = k.calls; entries = k.entries }; finished = tt })
    (λ g kg. ends_call_reads b c said.Plain g tt kg)
commits_up_reads b None c f is k = waits_reads b c f is k

own_ends_reads : (aim : Aim) (b : ℕ) (c : Call) (f : Family) → AimReads aim → AimReads c.aim → FamilyReads f → MovedReads (own_ends aim b c f)
own_ends_reads (Commits asked) b c f aims is k = commits_up_reads b (adopter f.rows b) c f is k
own_ends_reads (RollsBack answer) b c f aims is k = ends_call_reads b c answer f aims k

tells_own_reads : (b : ℕ) (c : Call) (f : Family) → AimReads c.aim → FamilyReads f → MovedReads (tells_own b c f)
unfolding tells_own
tells_own_reads b c f is k =
    tells_first_reads (own_duties c.aim b f) b (record c { leg = Own }) (own_ends c.aim b (record c { leg = Own })) f is k
    (own_ends_reads c.aim b (record c { leg = Own }) f is is k)

passes_top_reads : (stage : Stage) (c : Call) (f : Family) → AimReads c.aim → FamilyReads f → MovedReads (passes_top stage c f)
passes_top_reads Finishing c f is k = before_reads 0 c f is k
passes_top_reads _ c f is k = decides_reads c f is k

passes_reads : (b : ℕ) (c : Call) (f : Family) → AimReads c.aim → FamilyReads f → MovedReads (passes b c f)
unfolding passes
passes_reads b c f is k = if_reads (b == 0) (passes_top f.stage c f) (tells_own b c f) (passes_top_reads f.stage c f is k) (tells_own_reads b c f is k)

ends_below_reads : (d : ℕ) (f : Family) → FamilyReads f → MovedReads (ends_below d f)
unfolding ends_below
ends_below_reads d f k = record {
  family = record { calls = set_all CallReads f.calls d None k.calls tt; entries = k.entries };
  finished = answer_to_reads (overtaken_caller (call_at f d)) said.TransactionRolledBack tt;
}

sweeps_next_reads : (o : Option ℕ) (b : ℕ) (c : Call) (next : Family → Moved) (f : Family) → AimReads c.aim → FamilyReads f
    → ((g : Family) → FamilyReads g → MovedReads (next g)) → MovedReads (sweeps_next o b c next f)
sweeps_next_reads (Some d) b c next f is k more =
    then_reads (ends_below d f) (tells_first (duties_below d f) b c next) (ends_below_reads d f k)
    (λ g kg. tells_first_reads (duties_below d f) b c next g is kg (more g kg))
sweeps_next_reads None b c next f is k more = passes_reads b c f is k

sweeps_reads : (n b : ℕ) (c : Call) (f : Family) → AimReads c.aim → FamilyReads f → MovedReads (sweeps n b c f)
unfolding sweeps
sweeps_reads zero b c f is k = passes_reads b c f is k
sweeps_reads (suc n) b c f is k = sweeps_next_reads (live_under f.rows b) b c (sweeps n b c) f is k (λ g kg. sweeps_reads n b c g is kg)

tells_after_reads : (o : Option Outcome) (called : ℕ) (c : Call) (f : Family) → AimReads c.aim → FamilyReads f → MovedReads (tells_after o called c f)
tells_after_reads (Some fixed) called c f is k = afterwards_reads called c fixed f is k
tells_after_reads None called c f is k = waits_reads 0 c f is k

by_leg_reads : (leg : Leg) (b : ℕ) (c : Call) (f : Family) → AimReads c.aim → FamilyReads f → MovedReads (by_leg leg b c f)
by_leg_reads Below b c f is k = sweeps_reads (length f.rows) b c f is k
by_leg_reads Own b c f is k = own_ends_reads c.aim b c f is is k
by_leg_reads (Before called) b c f is k = before_reads called c f is k
by_leg_reads Deciding b c f is k = decides_reads c f is k
by_leg_reads (After called) b c f is k = tells_after_reads (stages.outcome f.completion) called c f is k

runs_reads : (b : ℕ) (c : Call) (f : Family) → AimReads c.aim → FamilyReads f → MovedReads (runs b c f)
unfolding runs
runs_reads b c f is k =
    if_reads (is_held b c f) (waits b c f) (tells_first c.left b c (by_leg c.leg b c) f) (waits_reads b c f is k)
    (tells_first_reads c.left b c (by_leg c.leg b c) f is k (by_leg_reads c.leg b c f is k))

runs_call_reads : (c : Option Call) (b : ℕ) (f : Family) → CallReads c → FamilyReads f → MovedReads (runs_call c b f)
runs_call_reads (Some c) b f is k = runs_reads b c f is k
runs_call_reads None b f is k = only_reads f k

goes_on_reads : (b : ℕ) (f : Family) → FamilyReads f → MovedReads (goes_on b f)
unfolding goes_on
goes_on_reads b f k = runs_call_reads (call_at f b) b f (call_reads f b k) k

-- ---- calls

says_reads : (answer : Said) (f : Family) → IsAnswer answer → FamilyReads f → ActedReads (says answer f)
says_reads answer f is k = record { moved = only_reads f k; said = is }

does_reads : (answer : Said) (m : Moved) → IsAnswer answer → MovedReads m → ActedReads (does answer m)
does_reads answer m is k = record { moved = k; said = is }

if_acted : (t : Bool) (x y : Acted) → ActedReads x → ActedReads y → ActedReads (if t then x else y)
if_acted true x y one other = one
if_acted false x y one other = other

branch_reads : (b : ℕ) (f : Family) (a : Acted) → ActedReads a → FamilyReads f → ActedReads (on_branch b f a)
branch_reads b f a is k = if_acted (has_branch f b) a (says said.ObjectNotExist f) is (says_reads said.ObjectNotExist f tt k)

terminator_reads : (b : ℕ) (f : Family) (a : Acted) → ActedReads a → FamilyReads f → ActedReads (on_terminator b f a)
terminator_reads b f a is k = if_acted (has_terminator f b) a (says said.ObjectNotExist f) is (says_reads said.ObjectNotExist f tt k)

gets_reads : (b : ℕ) (f : Family) → FamilyReads f → ActedReads (gets_terminator b f)
unfolding gets_terminator
gets_reads b f k = says_reads _ f (if_answer (has_terminator f b) said.Plain said.Unavailable tt tt) k

refusal_reads : (fault : VoteFault) → IsAnswer (vote_refusal fault)
refusal_reads vote_faults.Inactive = tt
refusal_reads _ = tt

registers_reads : (fault : Option VoteFault) (answer : Said) (later : Ballots) (f : Family) → IsAnswer answer → FamilyReads f → ActedReads (registers fault answer later f)
registers_reads None answer later f is k = record {
  moved = record { family = record { calls = k.calls; entries = k.entries }; finished = tt };
  said = is;
}
registers_reads (Some fault) answer later f is k = says_reads (vote_refusal fault) f (refusal_reads fault) k

resource_reads : (b : ℕ) (to : List ℕ) (aware : Bool) (f : Family) → FamilyReads f → ActedReads (registers_resource b to aware f)
unfolding registers_resource
resource_reads b to aware f k = registers_reads _ _ _ f tt k

aware_reads : (b : ℕ) (to : List ℕ) (f : Family) → FamilyReads f → ActedReads (registers_aware b to f)
unfolding registers_aware
aware_reads b to f k = registers_reads (aware_refusal f b) said.Plain _ f tt k

synchronization_reads : (b : ℕ) (to : List ℕ) (f : Family) → FamilyReads f → ActedReads (registers_synchronization b to f)
unfolding registers_synchronization
synchronization_reads b to f k = registers_reads (sync_refusal f b) said.Plain _ f tt k

tree_reads : (fault : TreeFault) → IsAnswer (tree_refusal fault)
tree_reads tree_faults.Inactive = tt
tree_reads _ = tt

creates_by_reads : (fault : Option TreeFault) (b : ℕ) (f : Family) → FamilyReads f → ActedReads (creates_by fault b f)
creates_by_reads None b f k = record {
  moved = record { family = record { calls = append_all CallReads f.calls (None ∷ []) k.calls (tt, tt); entries = k.entries }; finished = tt };
  said = tt;
}
creates_by_reads (Some fault) b f k = says_reads (tree_refusal fault) f (tree_reads fault) k

creates_in_reads : (c : Column) (b : ℕ) (f : Family) → FamilyReads f → ActedReads (creates_in c b f)
creates_in_reads columns.Active b f k = creates_by_reads _ b f k
creates_in_reads columns.Marked b f k = says_reads said.TransactionRolledBack f tt k
creates_in_reads _ b f k = says_reads said.Inactive f tt k

creates_reads : (b : ℕ) (f : Family) → FamilyReads f → ActedReads (creates_subtransaction b f)
unfolding creates_subtransaction
creates_reads b f k = creates_in_reads (column f b) b f k

marks_only_reads : (b : ℕ) (f : Family) → FamilyReads f → ActedReads (marks_only b f)
unfolding marks_only
marks_only_reads b f k =
    if_acted (is_open (column f b)) (does said.Plain (marks b f)) (says said.Inactive f) (does_reads said.Plain (marks b f) tt (marks_reads b f k))
    (says_reads said.Inactive f tt k)

top_reads : (reason : Reason) (caller : Option ℕ) (answer : Said) (f : Family) → IsAnswer answer → FamilyReads f → MovedReads (rolls_back_top reason caller answer f)
unfolding rolls_back_top
top_reads reason caller answer f is k =
    then_reads (begins (rolling_back false reason f) f) (runs 0 (new_call caller (RollsBack answer))) (begins_reads (rolling_back false reason f) f k)
    (λ g kg. runs_reads 0 (new_call caller (RollsBack answer)) g is kg)

sub_reads : (b : ℕ) (caller : Option ℕ) (answer : Said) (f : Family) → IsAnswer answer → FamilyReads f → MovedReads (rolls_back_sub b caller answer f)
unfolding rolls_back_sub
sub_reads b caller answer f is k =
    then_reads (shows (effects.SubtransactionEnded b false ∷ []) (record f { rows = ended f.rows b false }))
    (runs b (new_call caller (RollsBack answer))) (record { family = record { calls = k.calls; entries = k.entries }; finished = tt })
    (λ g kg. runs_reads b (new_call caller (RollsBack answer)) g is kg)

rolls_back_reads : (b : ℕ) (reason : Reason) (caller : Option ℕ) (answer : Said) (f : Family) → IsAnswer answer → FamilyReads f → MovedReads (rolls_back b reason caller answer f)
rolls_back_reads b reason caller answer f is k =
    if_reads (b == 0) (rolls_back_top reason caller answer f) (rolls_back_sub b caller answer f) (top_reads reason caller answer f is k) (sub_reads b caller answer f is k)

begun_reads : (top : Bool) (f : Family) → FamilyReads f → FamilyReads (if top then record f { stage = Finishing } else f)
begun_reads true f k = record { calls = k.calls; entries = k.entries }
begun_reads false f k = k

begins_commit_reads : (b position : ℕ) (asked : Bool) (f : Family) → FamilyReads f → MovedReads (begins_commit b position asked f)
unfolding begins_commit
begins_commit_reads b position asked f k = runs_reads b (new_call (Some position) (Commits asked)) (begun_commit b f) tt (begun_reads (b == 0) f k)

orphan_reads : (b : ℕ) (f : Family) (m : Moved) → MovedReads m → FamilyReads f → ActedReads (unless_orphan b f m)
orphan_reads b f m is k =
    if_acted (has_parent_ended f b) (says said.TransactionRolledBack f) (does said.Later m) (says_reads said.TransactionRolledBack f tt k)
    (does_reads said.Later m tt is)

commits_in_reads : (c : Column) (b position : ℕ) (asked : Bool) (f : Family) → FamilyReads f → ActedReads (commits_in c b position asked f)
commits_in_reads columns.Active b position asked f k = orphan_reads b f (begins_commit b position asked f) (begins_commit_reads b position asked f k) k
commits_in_reads columns.Marked b position asked f k =
    orphan_reads b f (rolls_back b reasons.Marked (Some position) said.TransactionRolledBack f)
    (rolls_back_reads b reasons.Marked (Some position) said.TransactionRolledBack f tt k) k
commits_in_reads columns.Finishing b position asked f k = says_reads said.InvalidTransaction f tt k
commits_in_reads columns.RolledBack b position asked f k = says_reads said.TransactionRolledBack f tt k
commits_in_reads columns.Past b position asked f k = says_reads said.InvalidTransaction f tt k

commits_reads : (b position : ℕ) (asked : Bool) (f : Family) → FamilyReads f → ActedReads (commits b position asked f)
unfolding commits
commits_reads b position asked f k = commits_in_reads (column f b) b position asked f k

rolls_in_reads : (c : Column) (b position : ℕ) (f : Family) → FamilyReads f → ActedReads (rolls_back_in c b position f)
rolls_in_reads columns.Active b position f k = does_reads said.Later _ tt (rolls_back_reads b reasons.Asked (Some position) said.Plain f tt k)
rolls_in_reads columns.Marked b position f k = does_reads said.Later _ tt (rolls_back_reads b reasons.Asked (Some position) said.Plain f tt k)
rolls_in_reads columns.Finishing b position f k = says_reads said.InvalidTransaction f tt k
rolls_in_reads columns.RolledBack b position f k = says_reads said.Plain f tt k
rolls_in_reads columns.Past b position f k = says_reads said.InvalidTransaction f tt k

rolls_reads : (b position : ℕ) (f : Family) → FamilyReads f → ActedReads (rolls_back_asked b position f)
unfolding rolls_back_asked
rolls_reads b position f k = rolls_in_reads (column f b) b position f k

replay_reads : (p : Phase) (voted : Bool) (s : Status) → IsAnswer (replay_by p voted s)
replay_reads phases.Joining voted s = tt
replay_reads phases.Preparing voted s = if_answer voted (said.State s) said.NotPrepared tt tt
replay_reads _ voted s = tt

replays_reads : (g : ℕ) (f : Family) → FamilyReads f → ActedReads (replays g f)
unfolding replays
replays_reads g f k =
    says_reads _ f (if_answer (has_registration f g) _ said.ObjectNotExist (replay_reads (phase f) (stages.is_named f.completion g) (top_status f)) tt) k

status_reads : (o : Option Status) → IsAnswer (status_said o)
status_reads (Some s) = tt
status_reads None = tt

related_reads : (relation : ℕ → Bool) (f : Family) (other : Option ObjectKey) → IsAnswer (related_by relation f other)
related_reads relation f None = tt
related_reads relation f (Some k) = if_answer (k.service == f.key.service) _ said.NoImplement tt tt

-- ---- a step

hears_call_reads : (c : Option Call) (b : ℕ) (n : CallNumber) (h : Heard) (f : Family) → CallReads c → FamilyReads f → MovedReads (hears_call c b n h f)
hears_call_reads (Some c) b n h f is k = hears_at_reads n b c h f is k
hears_call_reads None b n h f is k = only_reads f k

hears_for_reads : (o : Option ℕ) (n : CallNumber) (h : Heard) (f : Family) → FamilyReads f → MovedReads (hears_for o n h f)
hears_for_reads (Some b) n h f k = hears_call_reads (call_at f b) b n h f (call_reads f b k) k
hears_for_reads None n h f k = only_reads f k

hears_reads : (n : CallNumber) (h : Heard) (f : Family) → FamilyReads f → MovedReads (hears n h f)
unfolding hears
hears_reads n h f k = hears_for_reads (waiting_for f n) n h f k

goes_on_at_reads : (o : Option ℕ) (f : Family) → FamilyReads f → MovedReads (goes_on_at o f)
goes_on_at_reads (Some b) f k = goes_on_reads b f k
goes_on_at_reads None f k = only_reads f k

answered_reads : (n : CallNumber) (h : Heard) (stood : Option Stood) (f : Family) → FamilyReads f → MovedReads (answered n h stood f)
unfolding answered
answered_reads n h stood f k =
    then_reads (hears n h f ▹ settles stood) (goes_on_at (waiting_for f n))
    (then_reads (hears n h f) (settles stood) (hears_reads n h f k) (λ g kg. settles_reads stood g kg)) (λ g kg. goes_on_at_reads (waiting_for f n) g kg)

times_out_reads : (stage : Stage) (f : Family) → FamilyReads f → MovedReads (times_out stage f)
times_out_reads Going f k = top_reads reasons.Timeout None said.Plain f tt k
times_out_reads _ f k = marks_reads 0 f k

ticks_reads : (now : ℕ) (f : Family) → FamilyReads f → MovedReads (ticks now f)
unfolding ticks
ticks_reads now f k = if_reads (has_timed_out f now) (times_out f.stage f) (only f) (times_out_reads f.stage f k) (only_reads f k)

rereads_reads : (stood : Option Stood) (f : Family) → FamilyReads f → MovedReads (rereads stood f)
unfolding rereads
rereads_reads stood f k = then_reads (completes_as (stages.after_reread (found_at stood) f.completion) f) (goes_on 0)
    (completes_reads (stages.after_reread (found_at stood) f.completion) f k) (λ g kg. goes_on_reads 0 g kg)

acts_reads : (act : Act) (b now : ℕ) (stood : Option Stood) (f : Family) → FamilyReads f → ActedReads (acts_on act b now stood f)
acts_reads acts.GetTerminator b now stood f k = branch_reads b f (gets_terminator b f) (gets_reads b f k) k
acts_reads acts.GetCoordinator b now stood f k = branch_reads b f (says said.Plain f) (says_reads said.Plain f tt k) k
acts_reads (acts.Commit asked) b now stood f k =
    terminator_reads b f (commits b (length f.entries) asked f) (commits_reads b (length f.entries) asked f k) k
acts_reads acts.Rollback b now stood f k = terminator_reads b f (rolls_back_asked b (length f.entries) f) (rolls_reads b (length f.entries) f k) k
acts_reads acts.GetStatus b now stood f k = says_reads (status_said (status_of f b)) f (status_reads (status_of f b)) k
acts_reads acts.GetParentStatus b now stood f k = says_reads (status_said (parent_status_of f b)) f (status_reads (parent_status_of f b)) k
acts_reads acts.GetTopLevelStatus b now stood f k = branch_reads b f (says (said.State (top_status f)) f) (says_reads (said.State (top_status f)) f tt k) k
acts_reads (acts.IsSameTransaction other) b now stood f k =
    branch_reads b f (says (is_same f b other) f) (says_reads (is_same f b other) f (related_reads _ f other) k) k
acts_reads (acts.IsRelatedTransaction other) b now stood f k =
    branch_reads b f (says (is_related f b other) f) (says_reads (is_related f b other) f (related_reads _ f other) k) k
acts_reads (acts.IsAncestorTransaction other) b now stood f k =
    branch_reads b f (says (is_ancestor_of f b other) f) (says_reads (is_ancestor_of f b other) f (related_reads _ f other) k) k
acts_reads (acts.IsDescendantTransaction other) b now stood f k =
    branch_reads b f (says (is_descendant_of f b other) f) (says_reads (is_descendant_of f b other) f (related_reads _ f other) k) k
acts_reads acts.IsTopLevelTransaction b now stood f k = branch_reads b f (says _ f) (says_reads _ f tt k) k
acts_reads acts.HashTransaction b now stood f k = branch_reads b f (says _ f) (says_reads _ f tt k) k
acts_reads acts.HashTopLevelTran b now stood f k = branch_reads b f (says _ f) (says_reads _ f tt k) k
acts_reads (acts.RegisterResource to aware) b now stood f k = branch_reads b f (registers_resource b to aware f) (resource_reads b to aware f k) k
acts_reads (acts.RegisterSynchronization to) b now stood f k = branch_reads b f (registers_synchronization b to f) (synchronization_reads b to f k) k
acts_reads (acts.RegisterSubtranAware to) b now stood f k = branch_reads b f (registers_aware b to f) (aware_reads b to f k) k
acts_reads acts.RollbackOnly b now stood f k = branch_reads b f (marks_only b f) (marks_only_reads b f k) k
acts_reads acts.GetTransactionName b now stood f k = branch_reads b f (says (said.Name (name_of f b)) f) (says_reads (said.Name (name_of f b)) f (name_plain f b) k) k
acts_reads acts.CreateSubtransaction b now stood f k = branch_reads b f (creates_subtransaction b f) (creates_reads b f k) k
acts_reads acts.GetTxcontext b now stood f k = branch_reads b f (says said.Plain f) (says_reads said.Plain f tt k) k
acts_reads (acts.Replay g resource) b now stood f k = replays_reads g f k
acts_reads (acts.Superior word) b now stood f k = says_reads said.ObjectNotExist f tt k
acts_reads (acts.Answer n h) b now stood f k = does_reads said.Plain (answered n h stood f) tt (answered_reads n h stood f k)
acts_reads acts.Tick b now stood f k = does_reads said.Plain (ticks now f) tt (ticks_reads now f k)
acts_reads (acts.Reread stands) b now stood f k = does_reads said.Plain (rereads stood f) tt (rereads_reads stood f k)
acts_reads (acts.Opened deadline) b now stood f k = record {
  moved = record { family = record { calls = k.calls; entries = k.entries }; finished = tt };
  said = tt;
}

-- a step, and what it says
pub record StepReads (s : Stepped) : Type 0 where
  pub family : FamilyReads s.family
  pub said : IsAnswer s.said
  pub finished : AllByRecursion FinishedReads s.finished

pub quiet_reads : (answer : Said) (f : Family) → IsAnswer answer → FamilyReads f → StepReads (quiet answer f)
quiet_reads answer f is k = record { family = k; said = is; finished = tt }

said_of : (o : Option Finished) (other : Said) → IfSo FinishedReads o → IsAnswer other → IsAnswer (option_map_or (λ (a : Finished). a.said) o other)
said_of (Some a) other is rest = is
said_of None other is rest = rest

entered_reads : (f : Family) (e : Event) (stood : Option Stood) (a : Acted) → ActedReads a → FamilyReads f → StepReads (entered f e stood a)
unfolding entered
entered_reads f e stood a is k =
    let at : ℕ = length f.entries in
    let now = said_of (find (is_for at) a.moved.finished) a.said (found_one FinishedReads (is_for at) a.moved.finished is.moved.finished) is.said in
    let later = filtered FinishedReads (λ (x : Finished). not (is_for at x)) a.moved.finished is.moved.finished in
    record {
      family = record { calls = is.moved.family.calls; entries = append_all EntryReads f.entries _ k.entries ((now, later), tt) };
      said = now;
      finished = later;
    }

new_step_reads : (f : Family) (e : Event) (stood : Option Stood) → FamilyReads f → StepReads (new_step f e stood)
unfolding acted
new_step_reads f e stood k = by (is_silent e f)
  where
    by : (t : Bool) → StepReads (if t then quiet said.Plain f else entered f e stood (acted e stood f))
    by true = quiet_reads said.Plain f tt k
    by false = entered_reads f e stood (acted e stood f) (acts_reads e.act e.branch e.now stood f k) k

-- what was kept
all_finished : (entries : List Entry) → AllByRecursion EntryReads entries → AllByRecursion FinishedReads (flat_map (λ (e : Entry). e.finished) entries)
all_finished [] all = tt
all_finished (e ∷ entries) all = append_all FinishedReads e.finished _ all.0.1 (all_finished entries all.1)

later_reads : (entries : List Entry) (at : ℕ) → AllByRecursion EntryReads entries → IfSo IsAnswer (later_answer entries at)
later_reads entries at all = by (find (is_for at) some) (found_one FinishedReads (is_for at) some (all_finished entries all))
  where
    some : List Finished
    some = flat_map (λ (e : Entry). e.finished) entries

    by : (o : Option Finished) → IfSo FinishedReads o → IfSo IsAnswer (option_map (λ (a : Finished). a.said) o)
    by (Some a) is = is
    by None is = tt

kept_reads : (entries : List Entry) (key : Option RetryKey) → AllByRecursion EntryReads entries → IfSo IsAnswer (kept_for entries key)
unfolding kept answer_at
kept_reads entries None all = tt
kept_reads entries (Some key) all = by (position (has_key key) entries)
  where
    at_place : (at : ℕ) (o : Option Entry) → IfSo EntryReads o → IfSo IsAnswer (option_map (answer_of entries at) o)
    at_place at (Some e) is =
        if_answer (is_later e.said) _ e.said (or_reads (later_answer entries at) said.Later (later_reads entries at all) tt) is.0
    at_place at None is = tt

    by : (o : Option ℕ) → IfSo IsAnswer (option_and_then (answer_at entries) o)
    by (Some at) = at_place at (slice_get entries at) (got EntryReads entries at all)
    by None = tt

step_by_reads : (o : Option Said) (f : Family) (e : Event) (stood : Option Stood) → IfSo IsAnswer o → FamilyReads f → StepReads (step_by o f e stood)
step_by_reads (Some answer) f e stood is k = quiet_reads (repeated answer) f (if_answer (is_later answer) said.Transient answer tt is) k
step_by_reads None f e stood is k = new_step_reads f e stood k

pub step_reads : (f : Family) (e : Event) (stood : Option Stood) → FamilyReads f → StepReads (family_step f e stood)
unfolding family_step
step_reads f e stood k = step_by_reads (kept_for f.entries e.key) f e stood (kept_reads f.entries e.key k.entries) k
