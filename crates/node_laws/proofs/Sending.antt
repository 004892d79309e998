-- What a step of a family leaves beside its words: one that hands out a commit word has a call under way, and the Done is asked for
-- only where a step wants it.
use Rattle.std.proofs.Common.{◌≡◌, ◌⊎◌, ◌==◌, ◌&&◌, ◌||◌, inl, inr, ℕ, zero, suc, List, [], ◌∷◌, ◌++◌, length, Bool, true, false, if◌then◌else◌, Option, Some, None, is_some, is_none, refl, ap, sym, subst, ◌∙◌}
use Rattle.std.specs.Prelude.{slice_set}
use Rattle.std.specs.List.{AllByRecursion}
use Rattle.std.specs.Option.{option_map}
use Rattle.ots_model.specs.declared.completion.CallNumber.{CallNumber}
use Rattle.ots_model.specs.declared.completion.Doubted.{Doubted}
use Rattle.ots_model.specs.declared.completion.Receipt.{Receipt}
use Rattle.ots_model.specs.declared.completion.Stood.{Stood}
use Rattle.ots_model.specs.declared.completion.Stood.TheVariants as answers
use Rattle.ots_model.specs.declared.tree.Heard.{Heard}
use Rattle.ots_model.specs.Numbered.{Outcome}
use Rattle.ots_model.specs.declared.tree.Outward.{Outward}
use Rattle.ots_model.specs.declared.tree.Reason.{Reason}
use Rattle.ots_model.specs.declared.tree.Reason.TheVariants as reasons
use Rattle.ots_model.specs.declared.completion.Word.TheVariants as phase_words
use Rattle.ots_model.specs.declared.tree.Word.TheVariants as words
use Rattle.resource_votes.specs.Ballots.{Ballots, adopted}
use Rattle.resource_votes.specs.declared.registration.Registration.{Registration}
use Rattle.resource_votes.specs.declared.registration.VoteFault.{VoteFault}
use Rattle.txn_tree.specs.Calls.{creating, ended, live_under}
use Rattle.txn_tree.specs.Rows.{parent}
use Rattle.txn_tree.specs.declared.row.TreeFault.{TreeFault}
use Rattle.two_phase.specs.Course as course
use Rattle.two_phase.specs.Course.{Course}
use Rattle.two_phase.specs.Stages as stages
use Rattle.two_phase.specs.Stages.{Standing, Waiting, Going as UnderWay}
use Rattle.two_phase.specs.declared.party.Errand.{Errand}
use Rattle.coordinator.specs.declared.effect.Effect.TheVariants as effects
use Rattle.coordinator.specs.declared.event.Act.{Act}
use Rattle.coordinator.specs.declared.event.Act.TheVariants as acts
use Rattle.coordinator.specs.declared.event.Event.{Event}
use Rattle.coordinator.specs.declared.phase.Column.{Column}
use Rattle.coordinator.specs.declared.phase.Column.TheVariants as columns
use Rattle.coordinator.specs.declared.said.Said.{Said}
use Rattle.coordinator.specs.declared.said.Said.TheVariants as said
use Rattle.coordinator.specs.Closing.{asking, rolling_back, begun, begins, decides, decides_by, rests, tells_next, next_told, next_synchronization, calls_next, afterwards, finishes, before, asked_of, gives_up, waits, notice_of}
use Rattle.coordinator.specs.Family.{Family, Call, Aim, Commits, RollsBack, Duty, call_at, waiting_for, with_call}
use Rattle.coordinator.specs.declared.call.Ending.{Ending}
use Rattle.coordinator.specs.declared.call.Ending.TheVariants.{TellsRollback, TellsCommit, RollsBackUpdates}
use Rattle.coordinator.specs.declared.call.Leg.{Leg}
use Rattle.coordinator.specs.declared.call.Leg.TheVariants.{Below, Own, Before, Deciding, After}
use Rattle.coordinator.specs.declared.call.Stage.{Stage}
use Rattle.coordinator.specs.declared.call.Stage.TheVariants.{Going, Finishing, Completing, Over}
use Rattle.coordinator.specs.Hearing.{is_markable, marks, marks_parent, is_plain, told_commit, told_end, told_before, reason_of, told_participant, told, hears_at, wants_done, answers_doubt, doubts_by, decided, closes, settles, decision_record}
use Rattle.coordinator.specs.History.{kept_for, repeated}
use Rattle.coordinator.specs.Moves.{Moved, Notice, only, ◌▹◌, sends, ends_call, completes_as, shows}
use Rattle.coordinator.specs.Phases.{column, is_marked, is_open, has_parent_ended}
use Rattle.coordinator.specs.Running.{word_of, duty_notice, tells_first, commits_up, adopter, own_ends, own_duties, tells_own, passes_top, passes, ends_below, duties_below, sweeps_next, sweeps, tells_after, by_leg, is_held, runs, runs_call, goes_on}
use Rattle.coordinator.specs.Step.{Stepped, hears_call, hears_for, hears, goes_on_at, answered, has_timed_out, times_out, ticks, found_at, rereads, acts_on, acted, is_silent_act, quiet, entered, step_by, family_step, Wanted, Appends, WritesDone, wanted_by, wanted_act, wanted}
use Rattle.coordinator.specs.Table.{Acted, does, new_call, says, on_branch, on_terminator, has_terminator, has_branch, gets_terminator, registers, creates_by, creates_in, creates_subtransaction, marks_only, rolls_back_top, rolls_back_sub, rolls_back, begins_commit, unless_orphan, commits_in, commits, rolls_back_in, rolls_back_asked, registers_resource, registers_synchronization, registers_aware, replays}

-- ---- what is said of a family and what comes of something

-- a call of the top-level transaction is under way, where a family has any
abbrev pub HasCall : Family → Type 0
HasCall g = (c : Call) × (cs : List (Option Call)) × (g.calls ≡ slice_set cs 0 (Some c))

abbrev pub CommitCalls : Family → Outward → Type 0
CommitCalls g o = o.word ≡ words.Phase phase_words.Commit → HasCall g

-- a completion is the same, but for the word that is out
abbrev pub IsSame : Standing → Standing → Type 0
IsSame s t = (c : Course) → s ≡ UnderWay c → (o : Option Errand) × (t ≡ UnderWay (record c { out = o }))

pub record Sends (f : Family) (m : Moved) : Type 0 where
  pub closed : m.family.closed ≡ f.closed
  pub kept : IsSame f.completion m.family.completion
  pub called : AllByRecursion (CommitCalls m.family) m.words

-- nothing goes out
pub record Calm (f : Family) (m : Moved) : Type 0 where
  pub closed : m.family.closed ≡ f.closed
  pub kept : IsSame f.completion m.family.completion
  pub silent : m.words ≡ []

same_itself : (s : Standing) → IsSame s s
same_itself s c e = (c.out, e)

same_further : (s t u : Standing) → IsSame s t → IsSame t u → IsSame s u
same_further s t u h k c e = let x = h c e in let y = k (record c { out = x.0 }) x.1 in (y.0, y.1)

sends_from : (f g : Family) (m : Moved) → g.closed ≡ f.closed → IsSame f.completion g.completion → Sends g m → Sends f m
sends_from f g m closed same r = record {
  closed = r.closed ∙ closed;
  kept = same_further f.completion g.completion m.family.completion same r.kept;
  called = r.called;
}

sends_of : (f : Family) (m : Moved) → Calm f m → Sends f m
sends_of f m q = record { closed = q.closed; kept = q.kept; called = subst (λ ws. AllByRecursion (CommitCalls m.family) ws) (sym q.silent) tt }

chained : (f : Family) (first : Moved) (next : Family → Moved) → Calm f first → Sends first.family (next first.family) → Sends f (first ▹ next)
chained f first next q r = record {
  closed = r.closed ∙ q.closed;
  kept = same_further f.completion first.family.completion (next first.family).family.completion q.kept r.kept;
  called = subst (λ ws. AllByRecursion (CommitCalls (next first.family).family) (ws ++ (next first.family).words)) (sym q.silent) r.called;
}

either : (f : Family) (b : Bool) (x y : Moved) → Sends f x → Sends f y → Sends f (if b then x else y)
either f true x y r t = r
either f false x y r t = t

either_calm : (f : Family) (b : Bool) (x y : Moved) → Calm f x → Calm f y → Calm f (if b then x else y)
either_calm f true x y r t = r
either_calm f false x y r t = t

only_calm : (f g : Family) → g.closed ≡ f.closed → g.completion ≡ f.completion → Calm f (only g)
only_calm f g closed same = record { closed = closed; kept = λ c e. (c.out, same ∙ e); silent = refl }

only_sends : (f g : Family) → g.closed ≡ f.closed → g.completion ≡ f.completion → Sends f (only g)
only_sends f g closed same = sends_of f (only g) (only_calm f g closed same)

-- ---- a call goes on

sends_other : (b : ℕ) (c : Call) (n : Notice) (r : Option Receipt) (f : Family) → (n.word ≡ words.Phase phase_words.Commit → ⊥) → Sends f (sends b c n r f)
unfolding sends
sends_other b c n r f other = record { closed = refl; kept = same_itself f.completion; called = (λ e. absurd (other e), tt) }

sends_top : (c : Call) (n : Notice) (r : Option Receipt) (f : Family) → Sends f (sends 0 c n r f)
unfolding sends
sends_top c n r f = record { closed = refl; kept = same_itself f.completion; called = (λ e. (_, f.calls, refl), tt) }

ends_call_sends : (b : ℕ) (c : Call) (answer : Said) (f : Family) → Sends f (ends_call b c answer f)
unfolding ends_call
ends_call_sends b c answer f = record { closed = refl; kept = same_itself f.completion; called = tt }

tells_next_sends : (o : Option Registration) (called : ℕ) (c : Call) (fixed : Outcome) (f : Family) → Sends f (tells_next o called c fixed f)
unfolding finishes
tells_next_sends (Some r) called c fixed f = sends_top _ _ None f
tells_next_sends None called c fixed f = sends_from f (record f { stage = Over }) _ refl (same_itself f.completion) (ends_call_sends 0 c _ (record f { stage = Over }))

afterwards_sends : (called : ℕ) (c : Call) (fixed : Outcome) (f : Family) → Sends f (afterwards called c fixed f)
unfolding afterwards
afterwards_sends called c fixed f = tells_next_sends (next_told f fixed called) called c fixed f

waits_sends : (b : ℕ) (c : Call) (f : Family) → Sends f (waits b c f)
waits_sends b c f = only_sends f (with_call b c f) refl refl

rests_sends : (c : Call) (o : Option Outcome) (f : Family) → Sends f (rests c o f)
rests_sends c (Some fixed) f = afterwards_sends 0 c fixed f
rests_sends c None f = waits_sends 0 c f

next_same : (s : Standing) → IsSame s (stages.after_next s)
next_same (Waiting room) c e = absurd (cc e)
next_same (UnderWay k) c e = let is : k ≡ c = cc e in subst (λ (x : Course). (o : Option Errand) × (UnderWay (course.after_next k) ≡ UnderWay (record x { out = o }))) is (go (is_some k.out))
  where
    go : (t : Bool) → (o : Option Errand) × (UnderWay (if t then k else record k { out = course.errand k }) ≡ UnderWay (record k { out = o }))
    go true = (k.out, refl)
    go false = (course.errand k, refl)

decides_by_sends : (o : Option Outward) (c : Call) (f : Family) → Sends f (decides_by o c f)
decides_by_sends (Some o) c f =
    let g : Family = record f { completion = stages.after_next f.completion } in
    sends_from f g _ refl (next_same f.completion) (sends_top c (notice_of o) o.receipt g)
decides_by_sends None c f = rests_sends c (stages.outcome f.completion) f

decides_sends : (c : Call) (f : Family) → Sends f (decides c f)
unfolding decides
decides_sends c f = decides_by_sends (stages.next_word f.completion) (record c { leg = Deciding }) f

begun_same : (s first : Standing) → IsSame s (begun s first)
begun_same (Waiting room) first c e = absurd (cc e)
begun_same (UnderWay k) first c e = (c.out, e)

begins_calm : (first : Standing) (f : Family) → Calm f (begins first f)
unfolding begins completes_as
begins_calm first f = record { closed = refl; kept = begun_same f.completion first; silent = refl }

calls_next_sends : (o : Option Registration) (called : ℕ) (c : Call) (f : Family) → Sends f (calls_next o called c f)
calls_next_sends (Some r) called c f = sends_top _ _ None f
calls_next_sends None called c f =
    chained f (begins (asking (asked_of c.aim) f) f) (decides c) (begins_calm (asking (asked_of c.aim) f) f)
    (decides_sends c (begins (asking (asked_of c.aim) f) f).family)

before_sends : (called : ℕ) (c : Call) (f : Family) → Sends f (before called c f)
unfolding before
before_sends called c f = either f (is_marked f 0) _ _
    (chained f (gives_up reasons.Marked c f) (decides c) (begins_calm (rolling_back (asked_of c.aim) reasons.Marked f) f) (decides_sends c (gives_up reasons.Marked c f).family))
    (calls_next_sends (next_synchronization f called) called c f)

not_commit : (e : Ending) → word_of e ≡ words.Phase phase_words.Commit → ⊥
not_commit TellsRollback e = absurd (cc e)
not_commit (TellsCommit above) e = absurd (cc e)
not_commit RollsBackUpdates e = absurd (cc e)

tells_first_sends : (some : List Duty) (b : ℕ) (c : Call) (next : Family → Moved) (f : Family) → Sends f (next f) → Sends f (tells_first some b c next f)
tells_first_sends [] b c next f r = r
tells_first_sends (d ∷ others) b c next f r = sends_other b _ (duty_notice d) None f (not_commit d.ending)

-- a subtransaction was committed into its parent
abbrev joined : ℕ → ℕ → Family → Family
joined b above f = record f { rows = ended f.rows b true; ballots = adopted b above f.ballots }

commits_up_sends : (b : ℕ) (o : Option ℕ) (c : Call) (f : Family) → Sends f (commits_up b o c f)
unfolding commits_up
commits_up_sends b (Some above) c f =
    chained f (shows (effects.SubtransactionEnded b true ∷ []) (joined b above f)) (ends_call b c said.Plain)
    (record { closed = refl; kept = same_itself f.completion; silent = refl }) (ends_call_sends b c said.Plain (joined b above f))
commits_up_sends b None c f = waits_sends b c f

own_ends_sends : (aim : Aim) (b : ℕ) (c : Call) (f : Family) → Sends f (own_ends aim b c f)
own_ends_sends (Commits asked) b c f = commits_up_sends b (adopter f.rows b) c f
own_ends_sends (RollsBack says) b c f = ends_call_sends b c says f

tells_own_sends : (b : ℕ) (c : Call) (f : Family) → Sends f (tells_own b c f)
unfolding tells_own
tells_own_sends b c f = tells_first_sends (own_duties c.aim b f) b _ _ f (own_ends_sends c.aim b _ f)

passes_top_sends : (stage : Stage) (c : Call) (f : Family) → Sends f (passes_top stage c f)
passes_top_sends Going c f = decides_sends c f
passes_top_sends Finishing c f = before_sends 0 c f
passes_top_sends Completing c f = decides_sends c f
passes_top_sends Over c f = decides_sends c f

passes_sends : (b : ℕ) (c : Call) (f : Family) → Sends f (passes b c f)
unfolding passes
passes_sends b c f = either f (b == 0) _ _ (passes_top_sends f.stage c f) (tells_own_sends b c f)

ends_below_calm : (d : ℕ) (f : Family) → Calm f (ends_below d f)
unfolding ends_below
ends_below_calm d f = record { closed = refl; kept = same_itself f.completion; silent = refl }

sweeps_next_sends : (o : Option ℕ) (b : ℕ) (c : Call) (next : Family → Moved) → ((g : Family) → Sends g (next g)) → (f : Family) → Sends f (sweeps_next o b c next f)
sweeps_next_sends (Some d) b c next all f =
    chained f (ends_below d f) (tells_first (duties_below d f) b c next) (ends_below_calm d f)
    (tells_first_sends (duties_below d f) b c next (ends_below d f).family (all (ends_below d f).family))
sweeps_next_sends None b c next all f = passes_sends b c f

sweeps_sends : (n b : ℕ) (c : Call) (f : Family) → Sends f (sweeps n b c f)
unfolding sweeps
sweeps_sends zero b c f = passes_sends b c f
sweeps_sends (suc n) b c f = sweeps_next_sends (live_under f.rows b) b c (sweeps n b c) (sweeps_sends n b c) f

tells_after_sends : (o : Option Outcome) (called : ℕ) (c : Call) (f : Family) → Sends f (tells_after o called c f)
tells_after_sends (Some fixed) called c f = afterwards_sends called c fixed f
tells_after_sends None called c f = waits_sends 0 c f

by_leg_sends : (leg : Leg) (b : ℕ) (c : Call) (f : Family) → Sends f (by_leg leg b c f)
by_leg_sends Below b c f = sweeps_sends (length f.rows) b c f
by_leg_sends Own b c f = own_ends_sends c.aim b c f
by_leg_sends (Before called) b c f = before_sends called c f
by_leg_sends Deciding b c f = decides_sends c f
by_leg_sends (After called) b c f = tells_after_sends (stages.outcome f.completion) called c f

runs_sends : (b : ℕ) (c : Call) (f : Family) → Sends f (runs b c f)
unfolding runs
runs_sends b c f = either f (is_held b c f) _ _ (waits_sends b c f) (tells_first_sends c.left b c _ f (by_leg_sends c.leg b c f))

runs_call_sends : (o : Option Call) (b : ℕ) (f : Family) → Sends f (runs_call o b f)
runs_call_sends (Some c) b f = runs_sends b c f
runs_call_sends None b f = only_sends f f refl refl

goes_on_sends : (b : ℕ) (f : Family) → Sends f (goes_on b f)
unfolding goes_on
goes_on_sends b f = runs_call_sends (call_at f b) b f

goes_on_at_sends : (o : Option ℕ) (f : Family) → Sends f (goes_on_at o f)
goes_on_at_sends (Some b) f = goes_on_sends b f
goes_on_at_sends None f = only_sends f f refl refl

-- ---- an answer is heard, and the journal answers

-- nothing goes out, and the Done isn't asked for
pub record Silent (f : Family) (m : Moved) : Type 0 where
  pub closed : m.family.closed ≡ f.closed
  pub silent : m.words ≡ []

silently : (f : Family) (m : Moved) → Calm f m → Silent f m
silently f m q = record { closed = q.closed; silent = q.silent }

either_silent : (f : Family) (b : Bool) (x y : Moved) → Silent f x → Silent f y → Silent f (if b then x else y)
either_silent f true x y r t = r
either_silent f false x y r t = t

same_silent : (f g : Family) → g.closed ≡ f.closed → Silent f (only g)
same_silent f g closed = record { closed = closed; silent = refl }

marks_calm : (b : ℕ) (f : Family) → Calm f (marks b f)
unfolding marks
marks_calm b f = either_calm f (is_markable f b) _ _ (record { closed = refl; kept = same_itself f.completion; silent = refl }) (only_calm f f refl refl)

marks_parent_silent : (o : Option ℕ) (f : Family) → Silent f (marks_parent o f)
marks_parent_silent (Some above) f = silently f (marks above f) (marks_calm above f)
marks_parent_silent None f = same_silent f f refl

told_end_silent : (aim : Aim) (b : ℕ) (h : Heard) (f : Family) → Silent f (told_end aim b h f)
unfolding told_commit
told_end_silent (Commits asked) b h f = either_silent f (is_plain h || has_parent_ended f b) _ _ (same_silent f f refl) (marks_parent_silent (parent f.rows b) f)
told_end_silent (RollsBack says) b h f = same_silent f f refl

told_before_silent : (b called : ℕ) (c : Call) (h : Heard) (f : Family) → Silent f (told_before b called c h f)
unfolding told_before
told_before_silent b called c h f = either_silent f (is_plain h) _ _ (same_silent f f refl)
    (let q = begins_calm (rolling_back (asked_of c.aim) (reason_of called h) (with_call b (record c { leg = Deciding }) f)) (with_call b (record c { leg = Deciding }) f) in
    record { closed = q.closed; silent = q.silent })

told_participant_silent : (n : CallNumber) (h : Heard) (f : Family) → Silent f (told_participant n h f)
unfolding told_participant completes_as
told_participant_silent n h f = record { closed = refl; silent = refl }

told_silent : (leg : Leg) (n : CallNumber) (b : ℕ) (c : Call) (h : Heard) (f : Family) → Silent f (told leg n b c h f)
told_silent Below n b c h f = same_silent f f refl
told_silent Own n b c h f = told_end_silent c.aim b h f
told_silent (Before called) n b c h f = told_before_silent b called c h f
told_silent Deciding n b c h f = told_participant_silent n h f
told_silent (After called) n b c h f = same_silent f f refl

hears_call_silent : (o : Option Call) (b : ℕ) (n : CallNumber) (h : Heard) (f : Family) → Silent f (hears_call o b n h f)
unfolding hears_at
hears_call_silent (Some c) b n h f =
    let q = told_silent c.leg n b (record c { out = None }) h (with_call b (record c { out = None }) f) in record { closed = q.closed; silent = q.silent }
hears_call_silent None b n h f = same_silent f f refl

hears_for_silent : (o : Option ℕ) (n : CallNumber) (h : Heard) (f : Family) → Silent f (hears_for o n h f)
hears_for_silent (Some b) n h f = hears_call_silent (call_at f b) b n h f
hears_for_silent None n h f = same_silent f f refl

hears_silent : (n : CallNumber) (h : Heard) (f : Family) → Silent f (hears n h f)
unfolding hears
hears_silent n h f = hears_for_silent (waiting_for f n) n h f

-- participants are the same
abbrev pub HasParties : Standing → Standing → Type 0
HasParties s t = (c : Course) → s ≡ UnderWay c → (d : Course) × (t ≡ UnderWay d) × (d.parties ≡ c.parties)

parties_of : (s t : Standing) → IsSame s t → HasParties s t
parties_of s t h c e = let x = h c e in (record c { out = x.0 }, x.1, refl)

parties_further : (s t u : Standing) → HasParties s t → HasParties t u → HasParties s u
parties_further s t u h k c e = let x = h c e in let y = k x.0 x.1 in (y.0, y.1, y.2 ∙ x.2)

-- the journal's answer: nothing goes out, and the Done is asked for where it is wanted
pub record Settles (f : Family) (m : Moved) : Type 0 where
  pub silent : m.words ≡ []
  pub parties : HasParties f.completion m.family.completion
  pub closed : (m.family.closed ≡ f.closed) ⊎ ((wants_done f ≡ true) × (stages.wants_decision f.completion ≡ false) × (m.family.completion ≡ f.completion))

answers_doubt_calm : (why : Doubted) (o : Option Call) (f : Family) → Calm f (answers_doubt why o f)
unfolding answers_doubt
answers_doubt_calm why (Some c) f = record { closed = refl; kept = same_itself f.completion; silent = refl }
answers_doubt_calm why None f = only_calm f f refl refl

doubts_by_calm : (stood : Stood) (f : Family) → Calm f (doubts_by stood f)
doubts_by_calm (answers.Stands place) f = only_calm f f refl refl
doubts_by_calm (answers.Full used need) f = only_calm f f refl refl
doubts_by_calm (answers.Unsure why) f = let q = answers_doubt_calm why (call_at f 0) f in record { closed = q.closed; kept = q.kept; silent = q.silent }

decided_parties : (stood : Stood) (s : Standing) → HasParties s (stages.after_decided stood s)
decided_parties stood (Waiting room) c e = absurd (cc e)
decided_parties stood (UnderWay k) c e =
    let is : k ≡ c = cc e in
    subst (λ (x : Course). (d : Course) × (stages.after_decided stood (UnderWay k) ≡ UnderWay d) × (d.parties ≡ x.parties)) is (go (course.wants_decision k))
  where
    go : (t : Bool) → (d : Course) × (UnderWay (if t then record k { stood = Some stood } else k) ≡ UnderWay d) × (d.parties ≡ k.parties)
    go true = (record k { stood = Some stood }, refl, refl)
    go false = (k, refl, refl)

decided_settles : (stood : Stood) (f : Family) → Settles f (decided stood f)
unfolding decided completes_as
decided_settles stood f =
    let g : Family = (completes_as (stages.after_decided stood f.completion) f).family in
    let q = doubts_by_calm stood g in
    record {
      silent = q.silent;
      parties = parties_further f.completion g.completion (doubts_by stood g).family.completion (decided_parties stood f.completion) (parties_of g.completion (doubts_by stood g).family.completion q.kept);
      closed = inl q.closed;
    }

calm_settles : (f : Family) (m : Moved) → Calm f m → Settles f m
calm_settles f m q = record { silent = q.silent; parties = parties_of f.completion m.family.completion q.kept; closed = inl q.closed }

settles_so : (stood : Option Stood) (f : Family) → Settles f (settles stood f)
unfolding settles closes
settles_so None f = calm_settles f (only f) (only_calm f f refl refl)
settles_so (Some stood) f = by_decision (stages.wants_decision f.completion) refl
  where
    by_done : stages.wants_decision f.completion ≡ false → (t : Bool) → wants_done f ≡ t → Settles f (if t then closes stood f else only f)
    by_done d true e = record { silent = refl; parties = parties_of f.completion f.completion (same_itself f.completion); closed = inr (e, d, refl) }
    by_done d false e = calm_settles f (only f) (only_calm f f refl refl)

    by_decision : (t : Bool) → stages.wants_decision f.completion ≡ t → Settles f (if t then decided stood f else if wants_done f then closes stood f else only f)
    by_decision true d = decided_settles stood f
    by_decision false d = by_done d (wants_done f) refl

-- ---- what comes of an answer

-- the step asks for the Done, as the family wants that has heard the answer
pub record Closes (f : Family) (n : CallNumber) (h : Heard) (g : Family) : Type 0 where
  pub wants : wants_done (hears n h f).family ≡ true
  pub undecided : stages.wants_decision (hears n h f).family.completion ≡ false
  pub same : IsSame (hears n h f).family.completion g.completion

pub record Answering (f : Family) (n : CallNumber) (h : Heard) (m : Moved) : Type 0 where
  pub called : AllByRecursion (CommitCalls m.family) m.words
  pub parties : HasParties (hears n h f).family.completion m.family.completion
  pub closed : (m.family.closed ≡ f.closed) ⊎ Closes f n h m.family

pub answering : (n : CallNumber) (h : Heard) (stood : Option Stood) (f : Family) → Answering f n h (answered n h stood f)
unfolding answered
answering n h stood f =
    let first : Moved = hears n h f in
    let second : Moved = settles stood first.family in
    let last : Moved = goes_on_at (waiting_for f n) second.family in
    let q = hears_silent n h f in
    let s = settles_so stood first.family in
    let r = goes_on_at_sends (waiting_for f n) second.family in
    record {
      called = subst (λ ws. AllByRecursion (CommitCalls last.family) ((ws ++ second.words) ++ last.words)) (sym q.silent)
          (subst (λ ws. AllByRecursion (CommitCalls last.family) (ws ++ last.words)) (sym s.silent) r.called);
      parties = parties_further first.family.completion second.family.completion last.family.completion s.parties (parties_of second.family.completion last.family.completion r.kept);
      closed = elim s.closed [
        | inl e ↦ inl (r.closed ∙ e ∙ q.closed)
        | inr x ↦ inr (record { wants = x.0; undecided = x.1; same = λ c e. r.kept c (x.2 ∙ e) })
      ];
    }

-- ---- what comes of any other event

-- the Done isn't asked for
pub record Moves (f : Family) (m : Moved) : Type 0 where
  pub closed : m.family.closed ≡ f.closed
  pub called : AllByRecursion (CommitCalls m.family) m.words

moves_of : (f : Family) (m : Moved) → Sends f m → Moves f m
moves_of f m r = record { closed = r.closed; called = r.called }

rolls_back_top_moves : (reason : Reason) (caller : Option ℕ) (answer : Said) (f : Family) → Moves f (rolls_back_top reason caller answer f)
unfolding rolls_back_top
rolls_back_top_moves reason caller answer f =
    let first : Moved = begins (rolling_back false reason f) f in
    moves_of f _ (chained f first (runs 0 (new_call caller (RollsBack answer))) (begins_calm (rolling_back false reason f) f) (runs_sends 0 (new_call caller (RollsBack answer)) first.family))

rolls_back_sub_moves : (b : ℕ) (caller : Option ℕ) (answer : Said) (f : Family) → Moves f (rolls_back_sub b caller answer f)
unfolding rolls_back_sub
rolls_back_sub_moves b caller answer f =
    let first : Moved = shows (effects.SubtransactionEnded b false ∷ []) (record f { rows = ended f.rows b false }) in
    moves_of f _ (chained f first (runs b (new_call caller (RollsBack answer))) (record { closed = refl; kept = same_itself f.completion; silent = refl })
    (runs_sends b (new_call caller (RollsBack answer)) first.family))

either_moves : (f : Family) (b : Bool) (x y : Moved) → Moves f x → Moves f y → Moves f (if b then x else y)
either_moves f true x y r t = r
either_moves f false x y r t = t

rolls_back_moves : (b : ℕ) (reason : Reason) (caller : Option ℕ) (answer : Said) (f : Family) → Moves f (rolls_back b reason caller answer f)
rolls_back_moves b reason caller answer f = either_moves f (b == 0) _ _ (rolls_back_top_moves reason caller answer f) (rolls_back_sub_moves b caller answer f)

begins_commit_moves : (b position : ℕ) (asked : Bool) (f : Family) → Moves f (begins_commit b position asked f)
unfolding begins_commit
begins_commit_moves b position asked f = go (b == 0)
  where
    go : (t : Bool) → Moves f (runs b (new_call (Some position) (Commits asked)) (if t then record f { stage = Finishing } else f))
    go true = let r = runs_sends b (new_call (Some position) (Commits asked)) (record f { stage = Finishing }) in record { closed = r.closed; called = r.called }
    go false = moves_of f _ (runs_sends b (new_call (Some position) (Commits asked)) f)

marks_moves : (b : ℕ) (f : Family) → Moves f (marks b f)
marks_moves b f = moves_of f (marks b f) (sends_of f (marks b f) (marks_calm b f))

only_moves : (f : Family) → Moves f (only f)
only_moves f = record { closed = refl; called = tt }

times_out_moves : (stage : Stage) (f : Family) → Moves f (times_out stage f)
times_out_moves Going f = rolls_back_top_moves reasons.Timeout None said.Plain f
times_out_moves Finishing f = marks_moves 0 f
times_out_moves Completing f = marks_moves 0 f
times_out_moves Over f = marks_moves 0 f

ticks_moves : (now : ℕ) (f : Family) → Moves f (ticks now f)
unfolding ticks
ticks_moves now f = either_moves f (has_timed_out f now) _ _ (times_out_moves f.stage f) (only_moves f)

rereads_moves : (stood : Option Stood) (f : Family) → Moves f (rereads stood f)
unfolding rereads completes_as
rereads_moves stood f =
    let r = goes_on_sends 0 (completes_as (stages.after_reread (found_at stood) f.completion) f).family in record { closed = r.closed; called = r.called }

-- what an act does
abbrev ActMoves : Family → Acted → Type 0
ActMoves f a = Moves f a.moved

either_acted : (f : Family) (b : Bool) (x y : Acted) → ActMoves f x → ActMoves f y → ActMoves f (if b then x else y)
either_acted f true x y r t = r
either_acted f false x y r t = t

on_branch_moves : (b : ℕ) (f : Family) (a : Acted) → ActMoves f a → ActMoves f (on_branch b f a)
on_branch_moves b f a r = either_acted f (has_branch f b) a _ r (only_moves f)

on_terminator_moves : (b : ℕ) (f : Family) (a : Acted) → ActMoves f a → ActMoves f (on_terminator b f a)
on_terminator_moves b f a r = either_acted f (has_terminator f b) a _ r (only_moves f)

registers_moves : (fault : Option VoteFault) (answer : Said) (later : Ballots) (f : Family) → ActMoves f (registers fault answer later f)
registers_moves None answer later f = record { closed = refl; called = tt }
registers_moves (Some fault) answer later f = record { closed = refl; called = tt }

creates_by_moves : (fault : Option TreeFault) (b : ℕ) (f : Family) → ActMoves f (creates_by fault b f)
creates_by_moves None b f = record { closed = refl; called = tt }
creates_by_moves (Some fault) b f = record { closed = refl; called = tt }

creates_in_moves : (place : Column) (b : ℕ) (f : Family) → ActMoves f (creates_in place b f)
creates_in_moves columns.Active b f = creates_by_moves (creating f.rows b) b f
creates_in_moves columns.Marked b f = only_moves f
creates_in_moves columns.Finishing b f = only_moves f
creates_in_moves columns.RolledBack b f = only_moves f
creates_in_moves columns.Past b f = only_moves f

marks_only_moves : (b : ℕ) (f : Family) → ActMoves f (marks_only b f)
unfolding marks_only
marks_only_moves b f = either_acted f (is_open (column f b)) _ _ (marks_moves b f) (only_moves f)

unless_orphan_moves : (b : ℕ) (f : Family) (m : Moved) → Moves f m → ActMoves f (unless_orphan b f m)
unless_orphan_moves b f m r = either_acted f (has_parent_ended f b) _ _ (only_moves f) r

commits_in_moves : (place : Column) (b position : ℕ) (asked : Bool) (f : Family) → ActMoves f (commits_in place b position asked f)
commits_in_moves columns.Active b position asked f = unless_orphan_moves b f _ (begins_commit_moves b position asked f)
commits_in_moves columns.Marked b position asked f = unless_orphan_moves b f _ (rolls_back_moves b reasons.Marked (Some position) said.TransactionRolledBack f)
commits_in_moves columns.Finishing b position asked f = only_moves f
commits_in_moves columns.RolledBack b position asked f = only_moves f
commits_in_moves columns.Past b position asked f = only_moves f

rolls_back_in_moves : (place : Column) (b position : ℕ) (f : Family) → ActMoves f (rolls_back_in place b position f)
rolls_back_in_moves columns.Active b position f = rolls_back_moves b reasons.Asked (Some position) said.Plain f
rolls_back_in_moves columns.Marked b position f = rolls_back_moves b reasons.Asked (Some position) said.Plain f
rolls_back_in_moves columns.Finishing b position f = only_moves f
rolls_back_in_moves columns.RolledBack b position f = only_moves f
rolls_back_in_moves columns.Past b position f = only_moves f

-- ---- a step

-- a step that asks for the Done is that of an answer, and wants it
pub record ClosesNow (f : Family) (e : Event) (g : Family) : Type 0 where
  pub number : CallNumber
  pub heard : Heard
  pub answer : e.act ≡ acts.Answer number heard
  pub place : ℕ
  pub wants : wanted f e ≡ Some (WritesDone place)
  pub closes : Closes f number heard g

pub record StepSends (f : Family) (e : Event) (s : Stepped) : Type 0 where
  pub called : AllByRecursion (CommitCalls s.family) s.words
  pub closed : (s.family.closed ≡ f.closed) ⊎ ClosesNow f e s.family

quiet_sends : (answer : Said) (f : Family) (e : Event) → StepSends f e (quiet answer f)
quiet_sends answer f e = record { called = tt; closed = inl refl }

enters : (f : Family) (e : Event) (stood : Option Stood) (a : Acted) → ActMoves f a → StepSends f e (entered f e stood a)
unfolding entered
enters f e stood a r = record { called = r.called; closed = inl r.closed }

either_step : (f : Family) (e : Event) (t : Bool) (x y : Stepped) → StepSends f e x → StepSends f e y → StepSends f e (if t then x else y)
either_step f e true x y r k = r
either_step f e false x y r k = k

and_left : (a b : Bool) → (a && b) ≡ true → a ≡ true
and_left true b h = refl
and_left false b h = absurd (cc h)

and_right : (a b : Bool) → (a && b) ≡ true → b ≡ true
and_right true b h = h
and_right false b h = absurd (cc h)

-- the Done that is wanted
pub done_place : (g : Family) → wants_done g ≡ true → (place : ℕ) × (stages.record_place g.completion ≡ Some place)
unfolding wants_done
done_place g h = go (stages.record_place g.completion) refl
    (and_right (is_none g.closed) (is_some (stages.record_place g.completion))
    (and_left (is_none g.closed && is_some (stages.record_place g.completion)) (is_none (stages.next_word g.completion))
    (and_left (is_none g.closed && is_some (stages.record_place g.completion) && is_none (stages.next_word g.completion)) (stages.is_settled g.completion) h)))
  where
    go : (o : Option ℕ) → stages.record_place g.completion ≡ o → is_some o ≡ true → (place : ℕ) × (stages.record_place g.completion ≡ Some place)
    go (Some p) e i = (p, e)
    go None e i = absurd (cc i)

pub done_settled : (g : Family) → wants_done g ≡ true → stages.is_settled g.completion ≡ true
unfolding wants_done
done_settled g h = and_right (is_none g.closed && is_some (stages.record_place g.completion) && is_none (stages.next_word g.completion)) (stages.is_settled g.completion) h

done_wanted : (g : Family) → wants_done g ≡ true → stages.wants_decision g.completion ≡ false → (place : ℕ) × (wanted_by g ≡ Some (WritesDone place))
done_wanted g h d =
    let at = done_place g h in (
      at.0,
      ap (λ (t : Bool). if t then Some (Appends (decision_record g)) else if wants_done g then option_map WritesDone (stages.record_place g.completion) else None) d
          ∙ ap (λ (t : Bool). if t then option_map WritesDone (stages.record_place g.completion) else None) h
          ∙ ap (λ (o : Option ℕ). option_map WritesDone o) at.1,
    )

-- an answer that is waited for
answer_step : (f : Family) (e : Event) (stood : Option Stood) (n : CallNumber) (h : Heard) → e.act ≡ acts.Answer n h → kept_for f.entries e.key ≡ None → is_some (waiting_for f n) ≡ true
    → StepSends f e (entered f e stood (acts_on (acts.Answer n h) e.branch e.now stood f))
unfolding entered wanted
answer_step f e stood n h act new waited =
    let r = answering n h stood f in
    record {
      called = r.called;
      closed = elim r.closed [
        | inl same ↦ inl same
        | inr x ↦
            let w = done_wanted (hears n h f).family x.wants x.undecided in
            inr (record {
              number = n;
              heard = h;
              answer = act;
              place = w.0;
              wants = ap (λ (k : Option Said). if is_some k then None else wanted_act e.act f) new
                  ∙ ap (λ (a : Act). wanted_act a f) act
                  ∙ ap (λ (t : Bool). if t then wanted_by (hears n h f).family else None) waited
                  ∙ w.1;
              closes = record { wants = x.wants; undecided = x.undecided; same = x.same };
            })
      ];
    }

by_act : (f : Family) (e : Event) (stood : Option Stood) → kept_for f.entries e.key ≡ None → (act : Act) → e.act ≡ act
    → StepSends f e (if is_silent_act act e.now f then quiet said.Plain f else entered f e stood (acts_on act e.branch e.now stood f))
unfolding gets_terminator commits rolls_back_asked registers_resource registers_synchronization registers_aware creates_subtransaction replays
by_act f e stood new acts.GetTerminator is = enters f e stood _ (on_branch_moves e.branch f _ (only_moves f))
by_act f e stood new acts.GetCoordinator is = enters f e stood _ (on_branch_moves e.branch f _ (only_moves f))
by_act f e stood new (acts.Commit asked) is = enters f e stood _ (on_terminator_moves e.branch f _ (commits_in_moves (column f e.branch) e.branch _ asked f))
by_act f e stood new acts.Rollback is = enters f e stood _ (on_terminator_moves e.branch f _ (rolls_back_in_moves (column f e.branch) e.branch _ f))
by_act f e stood new acts.GetStatus is = enters f e stood _ (only_moves f)
by_act f e stood new acts.GetParentStatus is = enters f e stood _ (only_moves f)
by_act f e stood new acts.GetTopLevelStatus is = enters f e stood _ (on_branch_moves e.branch f _ (only_moves f))
by_act f e stood new (acts.IsSameTransaction other) is = enters f e stood _ (on_branch_moves e.branch f _ (only_moves f))
by_act f e stood new (acts.IsRelatedTransaction other) is = enters f e stood _ (on_branch_moves e.branch f _ (only_moves f))
by_act f e stood new (acts.IsAncestorTransaction other) is = enters f e stood _ (on_branch_moves e.branch f _ (only_moves f))
by_act f e stood new (acts.IsDescendantTransaction other) is = enters f e stood _ (on_branch_moves e.branch f _ (only_moves f))
by_act f e stood new acts.IsTopLevelTransaction is = enters f e stood _ (on_branch_moves e.branch f _ (only_moves f))
by_act f e stood new acts.HashTransaction is = enters f e stood _ (on_branch_moves e.branch f _ (only_moves f))
by_act f e stood new acts.HashTopLevelTran is = enters f e stood _ (on_branch_moves e.branch f _ (only_moves f))
by_act f e stood new (acts.RegisterResource to aware) is = enters f e stood _ (on_branch_moves e.branch f _ (registers_moves _ _ _ f))
by_act f e stood new (acts.RegisterSynchronization to) is = enters f e stood _ (on_branch_moves e.branch f _ (registers_moves _ _ _ f))
by_act f e stood new (acts.RegisterSubtranAware to) is = enters f e stood _ (on_branch_moves e.branch f _ (registers_moves _ _ _ f))
by_act f e stood new acts.RollbackOnly is = enters f e stood _ (on_branch_moves e.branch f _ (marks_only_moves e.branch f))
by_act f e stood new acts.GetTransactionName is = enters f e stood _ (on_branch_moves e.branch f _ (only_moves f))
by_act f e stood new acts.CreateSubtransaction is = enters f e stood _ (on_branch_moves e.branch f _ (creates_in_moves (column f e.branch) e.branch f))
by_act f e stood new acts.GetTxcontext is = enters f e stood _ (on_branch_moves e.branch f _ (only_moves f))
by_act f e stood new (acts.Replay g resource) is = enters f e stood _ (only_moves f)
by_act f e stood new (acts.Superior word) is = enters f e stood _ (only_moves f)
by_act f e stood new (acts.Answer n h) is = go (waiting_for f n) refl
  where
    go : (o : Option ℕ) → waiting_for f n ≡ o → StepSends f e (if is_none o then quiet said.Plain f else entered f e stood (acts_on (acts.Answer n h) e.branch e.now stood f))
    go None w = quiet_sends said.Plain f e
    go (Some b) w = answer_step f e stood n h is new (ap (λ (o : Option ℕ). is_some o) w)
by_act f e stood new acts.Tick is = either_step f e (is_silent_act acts.Tick e.now f) _ _ (quiet_sends said.Plain f e) (enters f e stood (does said.Plain (ticks e.now f)) (ticks_moves e.now f))
by_act f e stood new (acts.Reread stands) is = enters f e stood (does said.Plain (rereads stood f)) (rereads_moves stood f)
by_act f e stood new (acts.Opened deadline) is = enters f e stood _ (record { closed = refl; called = tt })

pub step_sends : (f : Family) (e : Event) (stood : Option Stood) → StepSends f e (family_step f e stood)
unfolding family_step acted
step_sends f e stood = by_kept (kept_for f.entries e.key) refl
  where
    by_kept : (o : Option Said) → kept_for f.entries e.key ≡ o → StepSends f e (step_by o f e stood)
    by_kept (Some answer) k = quiet_sends (repeated answer) f e
    by_kept None k = by_act f e stood k e.act refl

-- where a step appends the decision of the family that has heard its answer, the participants stay
pub record IsWantedBy (f : Family) (e : Event) (w : Wanted) : Type 0 where
  pub new : kept_for f.entries e.key ≡ None
  pub waited : (n : CallNumber) (h : Heard) → e.act ≡ acts.Answer n h → is_some (waiting_for f n) ≡ true

wanted_is : (f : Family) (e : Event) (w : Wanted) → wanted f e ≡ Some w → IsWantedBy f e w
unfolding wanted
wanted_is f e w h = go (kept_for f.entries e.key) refl h
  where
    by_wait : (n : CallNumber) (heard : Heard) (t : Bool) → (if t then wanted_by (hears n heard f).family else None) ≡ Some w → t ≡ true
    by_wait n heard true x = refl
    by_wait n heard false x = absurd (cc x)

    go : (k : Option Said) → kept_for f.entries e.key ≡ k → (if is_some k then None else wanted_act e.act f) ≡ Some w → IsWantedBy f e w
    go None i x = record {
      new = i;
      waited = λ n heard a. by_wait n heard (is_some (waiting_for f n)) (sym (ap (λ (act : Act). wanted_act act f) a) ∙ x);
    }
    go (Some answer) i x = absurd (cc x)

pub step_parties : (f : Family) (e : Event) (stood : Option Stood) (w : Wanted) (n : CallNumber) (h : Heard) → wanted f e ≡ Some w → e.act ≡ acts.Answer n h
    → HasParties (hears n h f).family.completion (family_step f e stood).family.completion
unfolding family_step acted entered
step_parties f e stood w n h wants act =
    let x = wanted_is f e w wants in
    subst (λ (s : Stepped). HasParties (hears n h f).family.completion s.family.completion) (sym (is x.new (x.waited n h act))) (there (answering n h stood f))
  where
    loud : (o : Option ℕ) → is_some o ≡ true → (if is_none o then quiet said.Plain f else entered f e stood (acts_on (acts.Answer n h) e.branch e.now stood f))
        ≡ entered f e stood (acts_on (acts.Answer n h) e.branch e.now stood f)
    loud (Some b) i = refl
    loud None i = absurd (cc i)

    is : kept_for f.entries e.key ≡ None → is_some (waiting_for f n) ≡ true
        → step_by (kept_for f.entries e.key) f e stood ≡ entered f e stood (acts_on (acts.Answer n h) e.branch e.now stood f)
    is new waited =
        ap (λ (o : Option Said). step_by o f e stood) new
        ∙ ap (λ (a : Act). if is_silent_act a e.now f then quiet said.Plain f else entered f e stood (acts_on a e.branch e.now stood f)) act
        ∙ loud (waiting_for f n) waited

    there : Answering f n h (answered n h stood f) → HasParties (hears n h f).family.completion (entered f e stood (acts_on (acts.Answer n h) e.branch e.now stood f)).family.completion
    there r = r.parties
