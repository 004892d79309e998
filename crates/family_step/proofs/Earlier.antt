-- Each rule of a family answers calls alone that wait, and those wait at entries that are there.
use Rattle.std.proofs.Common.{◌≡◌, ◌==◌, ◌<◌, ◌≤◌, ◌+◌, refl, ℕ, zero, suc, cond, not, ◌||◌, Bool, true, false, List, [], ◌∷◌, ◌++◌, length, Option, Some, None, if◌then◌else◌, arith}
use Rattle.std.proofs.lemmas.Bool.Decides.{nat_tests}
use Rattle.std.specs.Prelude.{slice_set}
use Rattle.std.specs.List.{AllByRecursion, slice_get}
use Rattle.std.specs.Option.{option_and_then}
use Rattle.ots_model.specs.Heard.{of_participant}
use Rattle.ots_model.specs.declared.completion.CallNumber.{CallNumber}
use Rattle.ots_model.specs.declared.completion.Doubted.{Doubted}
use Rattle.ots_model.specs.declared.completion.Receipt.{Receipt}
use Rattle.ots_model.specs.declared.completion.Stood.{Stood}
use Rattle.ots_model.specs.declared.completion.Stood.TheVariants as answers
use Rattle.ots_model.specs.declared.tree.Heard.{Heard}
use Rattle.ots_model.specs.Numbered.{Outcome}
use Rattle.ots_model.specs.declared.tree.Outward.{Outward}
use Rattle.ots_model.specs.declared.tree.Reason.{Reason}
use Rattle.ots_model.specs.declared.tree.Reason.TheVariants as reasons
use Rattle.resource_votes.specs.Ballots.{Ballots, adopted}
use Rattle.resource_votes.specs.declared.registration.Registration.{Registration}
use Rattle.resource_votes.specs.declared.registration.VoteFault.{VoteFault}
use Rattle.txn_tree.specs.Calls.{creating, ended, live_under}
use Rattle.txn_tree.specs.Rows.{parent}
use Rattle.txn_tree.specs.declared.row.TreeFault.{TreeFault}
use Rattle.two_phase.specs.Stages as stages
use Rattle.two_phase.specs.Stages.{Standing}
use Rattle.coordinator.specs.declared.effect.Effect.TheVariants as effects
use Rattle.coordinator.specs.declared.event.Act.{Act}
use Rattle.coordinator.specs.declared.event.Act.TheVariants as acts
use Rattle.coordinator.specs.declared.event.Event.{Event}
use Rattle.coordinator.specs.declared.phase.Column.{Column}
use Rattle.coordinator.specs.declared.phase.Column.TheVariants as columns
use Rattle.coordinator.specs.declared.said.Entry.{Entry}
use Rattle.coordinator.specs.declared.said.Finished.{Finished}
use Rattle.coordinator.specs.declared.said.Said.{Said}
use Rattle.coordinator.specs.declared.said.Said.TheVariants as said
use Rattle.coordinator.specs.Family.{Family, Call, Aim, Commits, RollsBack, Duty, call_at, waiting_for, with_call}
use Rattle.coordinator.specs.declared.call.Leg.{Leg}
use Rattle.coordinator.specs.declared.call.Leg.TheVariants.{Below, Own, Before, Deciding, After}
use Rattle.coordinator.specs.declared.call.Stage.{Stage}
use Rattle.coordinator.specs.declared.call.Stage.TheVariants.{Going, Finishing, Completing, Over}
use Rattle.coordinator.specs.History.{is_for, kept_for}
use Rattle.coordinator.specs.Moves.{Moved, Notice, ◌▹◌, answer_to, sends, ends_call, completes_as, shows}
use Rattle.coordinator.specs.Phases.{column, has_parent_ended, is_marked}
use Rattle.coordinator.specs.Closing.{afterwards, asked_of, asking, before, begins, calls_next, decides, decides_by, finishes, next_synchronization, next_told, rests, rolling_back, tells_next}
use Rattle.coordinator.specs.Running.{adopter, by_leg, commits_up, duties_below, ends_below, goes_on, is_held, overtaken_caller, own_duties, own_ends, passes, passes_top, runs, runs_call, sweeps, sweeps_next, tells_after, tells_first, tells_own}
use Rattle.coordinator.specs.Hearing.{answers_doubt, closes, decided, doubts_by, hears_at, inner_number, is_markable, is_plain, marks, marks_parent, settles, told, told_before, told_commit, told_end, told_participant, vote_effects, wants_done}
use Rattle.coordinator.specs.Table.{Acted, begins_commit, commits, commits_in, creates_by, creates_in, creates_subtransaction, gets_terminator, has_branch, has_terminator, marks_only, new_call, on_branch, on_terminator, registers, registers_aware, registers_resource, registers_synchronization, replays, rolls_back, rolls_back_asked, rolls_back_in, rolls_back_sub, rolls_back_top, unless_orphan}
use Rattle.coordinator.specs.Step.{acted, acts_on, answered, entered, family_step, found_at, goes_on_at, has_timed_out, hears, hears_call, hears_for, is_silent, quiet, rereads, said_later, step_by, ticks, times_out}
use Rattle.family_step.specs.Earlier.{AnswersAreBefore, CallIsBefore, CallsAreBefore, EntriesAreBefore, IsBefore}

-- ---- lists

all_append : {X : Type 0} (P : X → Type 0) (xs ys : List X) → AllByRecursion P xs → AllByRecursion P ys → AllByRecursion P (xs ++ ys)
all_append P [] ys p q = q
all_append P (x ∷ xs) ys p q = (p.0, all_append P xs ys p.1 q)

all_set : {X : Type 0} (P : X → Type 0) (xs : List X) (i : ℕ) (y : X) → AllByRecursion P xs → P y → AllByRecursion P (slice_set xs i y)
all_set P [] i y p q = tt
all_set P (x ∷ xs) zero y p q = (q, p.1)
all_set P (x ∷ xs) (suc i) y p q = (p.0, all_set P xs i y p.1 q)

all_so : {X : Type 0} (P Q : X → Type 0) → ((x : X) → P x → Q x) → (xs : List X) → AllByRecursion P xs → AllByRecursion Q xs
all_so P Q so [] p = tt
all_so P Q so (x ∷ xs) p = (so x p.0, all_so P Q so xs p.1)

further : (m n : ℕ) → m ≤ n → (o : Option ℕ) → IsBefore m o → IsBefore n o
further m n le None p = tt
further m n le (Some position) p = omega (arith, p)

call_further : (m n : ℕ) → m ≤ n → (o : Option Call) → CallIsBefore m o → CallIsBefore n o
call_further m n le None p = tt
call_further m n le (Some c) p = further m n le c.caller p

calls_further : (m n : ℕ) → m ≤ n → (calls : List (Option Call)) → CallsAreBefore m calls → CallsAreBefore n calls
calls_further m n le calls p = all_so (CallIsBefore m) (CallIsBefore n) (call_further m n le) calls p

answer_further : (m n : ℕ) → m ≤ n → (a : Finished) → a.position < m → a.position < n
answer_further m n le a less = omega (arith, less)

answers_further : (m n : ℕ) → m ≤ n → (xs : List Finished) → AnswersAreBefore m xs → AnswersAreBefore n xs
answers_further m n le xs p = all_so (λ (a : Finished). a.position < m) (λ (a : Finished). a.position < n) (answer_further m n le) xs p

below : (n m : ℕ) → m < suc n → (m == n) ≡ false → m < n
below n m less other = grind (arith, nat_tests, less, other)

-- those that are for another place than the last
others : (n : ℕ) (xs : List Finished) → AnswersAreBefore (suc n) xs → AnswersAreBefore n (said_later n xs)
others n [] p = tt
others n (a ∷ xs) p = by_test (is_for n a) refl (others n xs p.1)
  where
    by_test : (b : Bool) → is_for n a ≡ b → AnswersAreBefore n (said_later n xs) → AnswersAreBefore n (cond (not b) (a ∷ said_later n xs) (said_later n xs))
    by_test true e rest = rest
    by_test false e rest = (below n a.position p.0 e, rest)

-- ---- the rules

module _ (n : ℕ) where
  -- calls wait before the place
  abbrev Fits : Family → Type 0
  Fits f = CallsAreBefore n f.calls

  abbrev Keeps : Moved → Type 0
  Keeps m = Fits m.family × AnswersAreBefore n m.finished

  either : (x : Bool) (m l : Moved) → Keeps m → Keeps l → Keeps (if x then m else l)
  either true m l p q = p
  either false m l p q = q

  and_then : (m : Moved) (next : Family → Moved) → Keeps m → (Fits m.family → Keeps (next m.family)) → Keeps (m ▹ next)
  and_then m next p so =
      let later = so p.0 in
      (later.0, all_append (λ (a : Finished). a.position < n) m.finished (next m.family).finished p.1 later.1)

  called_at : (calls : List (Option Call)) (b : ℕ) → CallsAreBefore n calls → CallIsBefore n (option_and_then (λ (c : Option Call). c) (slice_get calls b))
  called_at [] b p = tt
  called_at (o ∷ calls) zero p = p.0
  called_at (o ∷ calls) (suc b) p = called_at calls b p.1

  caller_at : (o : Option Call) → CallIsBefore n o → IsBefore n (overtaken_caller o)
  caller_at None p = tt
  caller_at (Some c) p = p

  answered_to : (o : Option ℕ) (answer : Said) → IsBefore n o → AnswersAreBefore n (answer_to o answer)
  answered_to None answer p = tt
  answered_to (Some position) answer p = (p, tt)

  put : (b : ℕ) (o : Option Call) (f : Family) → Fits f → CallIsBefore n o → CallsAreBefore n (slice_set f.calls b o)
  put b o f fits p = all_set (CallIsBefore n) f.calls b o fits p

  sends_fits : (b : ℕ) (c : Call) (notice : Notice) (receipt : Option Receipt) (f : Family) → Fits f → IsBefore n c.caller → Keeps (sends b c notice receipt f)
  unfolding sends
  sends_fits b c notice receipt f fits p = (put b (Some (record c { out = Some (f.serial + 1) })) f fits p, tt)

  ends_call_fits : (b : ℕ) (c : Call) (answer : Said) (f : Family) → Fits f → IsBefore n c.caller → Keeps (ends_call b c answer f)
  unfolding ends_call
  ends_call_fits b c answer f fits p = (put b None f fits tt, answered_to c.caller answer p)

  waits_fits : (b : ℕ) (c : Call) (f : Family) → Fits f → IsBefore n c.caller → CallsAreBefore n (slice_set f.calls b (Some c))
  waits_fits b c f fits p = put b (Some c) f fits p

  completes_fits : (later : Standing) (f : Family) → Fits f → Keeps (completes_as later f)
  unfolding completes_as
  completes_fits later f fits = (fits, tt)

  begins_fits : (first : Standing) (f : Family) → Fits f → Keeps (begins first f)
  unfolding begins completes_as
  begins_fits first f fits = (fits, tt)

  tells_next_fits : (o : Option Registration) (called : ℕ) (c : Call) (fixed : Outcome) (f : Family) → Fits f → IsBefore n c.caller → Keeps (tells_next o called c fixed f)
  unfolding finishes
  tells_next_fits (Some r) called c fixed f fits p = sends_fits 0 (record c { leg = After (called + 1) }) _ None f fits p
  tells_next_fits None called c fixed f fits p = ends_call_fits 0 c _ (record f { stage = Over }) fits p

  afterwards_fits : (called : ℕ) (c : Call) (fixed : Outcome) (f : Family) → Fits f → IsBefore n c.caller → Keeps (afterwards called c fixed f)
  unfolding afterwards
  afterwards_fits called c fixed f fits p = tells_next_fits (next_told f fixed called) called c fixed f fits p

  rests_fits : (c : Call) (o : Option Outcome) (f : Family) → Fits f → IsBefore n c.caller → Keeps (rests c o f)
  rests_fits c (Some fixed) f fits p = afterwards_fits 0 c fixed f fits p
  rests_fits c None f fits p = (waits_fits 0 c f fits p, tt)

  decides_by_fits : (o : Option Outward) (c : Call) (f : Family) → Fits f → IsBefore n c.caller → Keeps (decides_by o c f)
  decides_by_fits (Some w) c f fits p = sends_fits 0 c _ w.receipt (record f { completion = stages.after_next f.completion }) fits p
  decides_by_fits None c f fits p = rests_fits c (stages.outcome f.completion) f fits p

  decides_fits : (c : Call) (f : Family) → Fits f → IsBefore n c.caller → Keeps (decides c f)
  unfolding decides
  decides_fits c f fits p = decides_by_fits (stages.next_word f.completion) (record c { leg = Deciding }) f fits p

  begun_decides : (first : Standing) (c : Call) (f : Family) → Fits f → IsBefore n c.caller → Keeps (begins first f ▹ decides c)
  begun_decides first c f fits p = and_then (begins first f) (decides c) (begins_fits first f fits) (λ later. decides_fits c (begins first f).family later p)

  calls_next_fits : (o : Option Registration) (called : ℕ) (c : Call) (f : Family) → Fits f → IsBefore n c.caller → Keeps (calls_next o called c f)
  calls_next_fits (Some r) called c f fits p = sends_fits 0 (record c { leg = Before (called + 1) }) _ None f fits p
  calls_next_fits None called c f fits p = begun_decides (asking (asked_of c.aim) f) c f fits p

  before_fits : (called : ℕ) (c : Call) (f : Family) → Fits f → IsBefore n c.caller → Keeps (before called c f)
  unfolding before
  before_fits called c f fits p =
      either (is_marked f 0) _ _ (begun_decides (rolling_back (asked_of c.aim) reasons.Marked f) c f fits p)
      (calls_next_fits (next_synchronization f called) called c f fits p)

  tells_first_fits : (some : List Duty) (b : ℕ) (c : Call) (next : Family → Moved) (f : Family) → Fits f → IsBefore n c.caller → Keeps (next f) → Keeps (tells_first some b c next f)
  tells_first_fits [] b c next f fits p q = q
  tells_first_fits (d ∷ left) b c next f fits p q = sends_fits b (record c { left = left }) _ None f fits p

  commits_up_fits : (b : ℕ) (o : Option ℕ) (c : Call) (f : Family) → Fits f → IsBefore n c.caller → Keeps (commits_up b o c f)
  unfolding commits_up
  commits_up_fits b (Some above) c f fits p =
      let committed : Moved = shows (effects.SubtransactionEnded b true ∷ []) (record f { rows = ended f.rows b true; ballots = adopted b above f.ballots }) in
      and_then committed (ends_call b c said.Plain) (fits, tt) (λ later. ends_call_fits b c said.Plain committed.family later p)
  commits_up_fits b None c f fits p = (waits_fits b c f fits p, tt)

  own_ends_fits : (aim : Aim) (b : ℕ) (c : Call) (f : Family) → Fits f → IsBefore n c.caller → Keeps (own_ends aim b c f)
  own_ends_fits (Commits asked) b c f fits p = commits_up_fits b (adopter f.rows b) c f fits p
  own_ends_fits (RollsBack says) b c f fits p = ends_call_fits b c says f fits p

  tells_own_fits : (b : ℕ) (c : Call) (f : Family) → Fits f → IsBefore n c.caller → Keeps (tells_own b c f)
  unfolding tells_own
  tells_own_fits b c f fits p = tells_first_fits (own_duties c.aim b f) b (record c { leg = Own }) (own_ends c.aim b (record c { leg = Own })) f fits p (own_ends_fits c.aim b (record c { leg = Own }) f fits p)

  passes_top_fits : (stage : Stage) (c : Call) (f : Family) → Fits f → IsBefore n c.caller → Keeps (passes_top stage c f)
  passes_top_fits Going c f fits p = decides_fits c f fits p
  passes_top_fits Finishing c f fits p = before_fits 0 c f fits p
  passes_top_fits Completing c f fits p = decides_fits c f fits p
  passes_top_fits Over c f fits p = decides_fits c f fits p

  passes_fits : (b : ℕ) (c : Call) (f : Family) → Fits f → IsBefore n c.caller → Keeps (passes b c f)
  unfolding passes
  passes_fits b c f fits p = either (b == 0) _ _ (passes_top_fits f.stage c f fits p) (tells_own_fits b c f fits p)

  ends_below_fits : (d : ℕ) (f : Family) → Fits f → Keeps (ends_below d f)
  unfolding ends_below
  ends_below_fits d f fits = (put d None f fits tt, answered_to (overtaken_caller (call_at f d)) said.TransactionRolledBack (caller_at (call_at f d) (called_at f.calls d fits)))

  sweeps_next_fits : (o : Option ℕ) (b : ℕ) (c : Call) (next : Family → Moved) → ((g : Family) → Fits g → Keeps (next g)) → (f : Family) → Fits f → IsBefore n c.caller
      → Keeps (sweeps_next o b c next f)
  sweeps_next_fits (Some d) b c next all f fits p =
      and_then (ends_below d f) (tells_first (duties_below d f) b c next) (ends_below_fits d f fits) (λ later. tells_first_fits (duties_below d f) b c next (ends_below d f).family later p (all (ends_below d f).family later))
  sweeps_next_fits None b c next all f fits p = passes_fits b c f fits p

  sweeps_fits : (m b : ℕ) (c : Call) (f : Family) → Fits f → IsBefore n c.caller → Keeps (sweeps m b c f)
  unfolding sweeps
  sweeps_fits zero b c f fits p = passes_fits b c f fits p
  sweeps_fits (suc m) b c f fits p = sweeps_next_fits (live_under f.rows b) b c (sweeps m b c) (λ g later. sweeps_fits m b c g later p) f fits p

  tells_after_fits : (o : Option Outcome) (called : ℕ) (c : Call) (f : Family) → Fits f → IsBefore n c.caller → Keeps (tells_after o called c f)
  tells_after_fits (Some fixed) called c f fits p = afterwards_fits called c fixed f fits p
  tells_after_fits None called c f fits p = (waits_fits 0 c f fits p, tt)

  by_leg_fits : (leg : Leg) (b : ℕ) (c : Call) (f : Family) → Fits f → IsBefore n c.caller → Keeps (by_leg leg b c f)
  by_leg_fits Below b c f fits p = sweeps_fits (length f.rows) b c f fits p
  by_leg_fits Own b c f fits p = own_ends_fits c.aim b c f fits p
  by_leg_fits (Before called) b c f fits p = before_fits called c f fits p
  by_leg_fits Deciding b c f fits p = decides_fits c f fits p
  by_leg_fits (After called) b c f fits p = tells_after_fits (stages.outcome f.completion) called c f fits p

  runs_fits : (b : ℕ) (c : Call) (f : Family) → Fits f → IsBefore n c.caller → Keeps (runs b c f)
  unfolding runs
  runs_fits b c f fits p =
      either (is_held b c f) _ _ (waits_fits b c f fits p, tt) (tells_first_fits c.left b c (by_leg c.leg b c) f fits p (by_leg_fits c.leg b c f fits p))

  runs_call_fits : (o : Option Call) (b : ℕ) (f : Family) → Fits f → CallIsBefore n o → Keeps (runs_call o b f)
  runs_call_fits (Some c) b f fits p = runs_fits b c f fits p
  runs_call_fits None b f fits p = (fits, tt)

  goes_on_fits : (b : ℕ) (f : Family) → Fits f → Keeps (goes_on b f)
  unfolding goes_on
  goes_on_fits b f fits = runs_call_fits (call_at f b) b f fits (called_at f.calls b fits)

  marks_fits : (b : ℕ) (f : Family) → Fits f → Keeps (marks b f)
  unfolding marks
  marks_fits b f fits = either (is_markable f b) _ _ (fits, tt) (fits, tt)

  parent_fits : (o : Option ℕ) (f : Family) → Fits f → Keeps (marks_parent o f)
  parent_fits (Some above) f fits = marks_fits above f fits
  parent_fits None f fits = (fits, tt)

  end_fits : (aim : Aim) (b : ℕ) (h : Heard) (f : Family) → Fits f → Keeps (told_end aim b h f)
  unfolding told_commit
  end_fits (Commits asked) b h f fits = either (is_plain h || has_parent_ended f b) _ _ (fits, tt) (parent_fits (parent f.rows b) f fits)
  end_fits (RollsBack says) b h f fits = (fits, tt)

  told_before_fits : (b called : ℕ) (c : Call) (h : Heard) (f : Family) → Fits f → IsBefore n c.caller → Keeps (told_before b called c h f)
  unfolding told_before
  told_before_fits b called c h f fits p =
      either (is_plain h) _ _ (fits, tt) (begins_fits _ (with_call b (record c { leg = Deciding }) f) (waits_fits b (record c { leg = Deciding }) f fits p))

  participant_fits : (number : CallNumber) (h : Heard) (f : Family) → Fits f → Keeps (told_participant number h f)
  unfolding told_participant
  participant_fits number h f fits =
      let voted : Moved = shows (vote_effects (of_participant h) (stages.voter f.completion)) f in
      let later : Standing = stages.after_answer (inner_number f f.completion number) (of_participant h) f.completion in
      and_then voted (completes_as later) (fits, tt) (λ same. completes_fits later voted.family same)

  told_fits : (leg : Leg) (number : CallNumber) (b : ℕ) (c : Call) (h : Heard) (f : Family) → Fits f → IsBefore n c.caller → Keeps (told leg number b c h f)
  told_fits Below number b c h f fits p = (fits, tt)
  told_fits Own number b c h f fits p = end_fits c.aim b h f fits
  told_fits (Before called) number b c h f fits p = told_before_fits b called c h f fits p
  told_fits Deciding number b c h f fits p = participant_fits number h f fits
  told_fits (After called) number b c h f fits p = (fits, tt)

  heard_fits : (o : Option Call) (b : ℕ) (number : CallNumber) (h : Heard) (f : Family) → Fits f → CallIsBefore n o → Keeps (hears_call o b number h f)
  unfolding hears_at
  heard_fits (Some c) b number h f fits p =
      told_fits c.leg number b (record c { out = None }) h (with_call b (record c { out = None }) f) (waits_fits b (record c { out = None }) f fits p) p
  heard_fits None b number h f fits p = (fits, tt)

  hears_for_fits : (o : Option ℕ) (number : CallNumber) (h : Heard) (f : Family) → Fits f → Keeps (hears_for o number h f)
  hears_for_fits (Some b) number h f fits = heard_fits (call_at f b) b number h f fits (called_at f.calls b fits)
  hears_for_fits None number h f fits = (fits, tt)

  doubt_fits : (why : Doubted) (o : Option Call) (f : Family) → Fits f → CallIsBefore n o → Keeps (answers_doubt why o f)
  unfolding answers_doubt
  doubt_fits why (Some c) f fits p = (waits_fits 0 (record c { caller = None }) f fits tt, answered_to c.caller _ p)
  doubt_fits why None f fits p = (fits, tt)

  doubts_fits : (stood : Stood) (f : Family) → Fits f → Keeps (doubts_by stood f)
  doubts_fits (answers.Stands place) f fits = (fits, tt)
  doubts_fits (answers.Full used need) f fits = (fits, tt)
  doubts_fits (answers.Unsure why) f fits =
      let doubted : Moved = shows (effects.Doubted ∷ []) f in
      and_then doubted (λ (g : Family). answers_doubt why (call_at g 0) g) (fits, tt) (λ later. doubt_fits why (call_at f 0) f later (called_at f.calls 0 later))

  decided_fits : (stood : Stood) (f : Family) → Fits f → Keeps (decided stood f)
  unfolding decided
  decided_fits stood f fits =
      let completed : Moved = completes_as (stages.after_decided stood f.completion) f in
      and_then completed (doubts_by stood) (completes_fits (stages.after_decided stood f.completion) f fits) (λ later. doubts_fits stood completed.family later)

  closes_fits : (stood : Stood) (f : Family) → Fits f → Keeps (closes stood f)
  unfolding closes
  closes_fits stood f fits = (fits, tt)

  settled_fits : (stood : Option Stood) (f : Family) → Fits f → Keeps (settles stood f)
  unfolding settles
  settled_fits None f fits = (fits, tt)
  settled_fits (Some stood) f fits =
      either (stages.wants_decision f.completion) _ _ (decided_fits stood f fits) (either (wants_done f) _ _ (closes_fits stood f fits) (fits, tt))

  goes_on_at_fits : (o : Option ℕ) (f : Family) → Fits f → Keeps (goes_on_at o f)
  goes_on_at_fits (Some b) f fits = goes_on_fits b f fits
  goes_on_at_fits None f fits = (fits, tt)

  answered_fits : (number : CallNumber) (h : Heard) (stood : Option Stood) (f : Family) → Fits f → Keeps (answered number h stood f)
  unfolding answered hears
  answered_fits number h stood f fits =
      let heard : Moved = hears_for (waiting_for f number) number h f in
      let settled : Moved = heard ▹ settles stood in
      and_then settled (goes_on_at (waiting_for f number))
      (and_then heard (settles stood) (hears_for_fits (waiting_for f number) number h f fits) (λ later. settled_fits stood heard.family later))
      (λ later. goes_on_at_fits (waiting_for f number) settled.family later)

  rereads_fits : (stood : Option Stood) (f : Family) → Fits f → Keeps (rereads stood f)
  unfolding rereads
  rereads_fits stood f fits =
      let completed : Moved = completes_as (stages.after_reread (found_at stood) f.completion) f in
      and_then completed (goes_on 0) (completes_fits (stages.after_reread (found_at stood) f.completion) f fits) (λ later. goes_on_fits 0 completed.family later)

  rolls_back_top_fits : (reason : Reason) (caller : Option ℕ) (answer : Said) (f : Family) → Fits f → IsBefore n caller → Keeps (rolls_back_top reason caller answer f)
  unfolding rolls_back_top
  rolls_back_top_fits reason caller answer f fits p =
      let begun : Moved = begins (rolling_back false reason f) f in
      let call : Call = new_call caller (RollsBack answer) in
      and_then begun (runs 0 call) (begins_fits (rolling_back false reason f) f fits) (λ later. runs_fits 0 call begun.family later p)

  rolls_back_sub_fits : (b : ℕ) (caller : Option ℕ) (answer : Said) (f : Family) → Fits f → IsBefore n caller → Keeps (rolls_back_sub b caller answer f)
  unfolding rolls_back_sub
  rolls_back_sub_fits b caller answer f fits p =
      let over : Moved = shows (effects.SubtransactionEnded b false ∷ []) (record f { rows = ended f.rows b false }) in
      let call : Call = new_call caller (RollsBack answer) in
      and_then over (runs b call) (fits, tt) (λ later. runs_fits b call over.family later p)

  rolls_back_fits : (b : ℕ) (reason : Reason) (caller : Option ℕ) (answer : Said) (f : Family) → Fits f → IsBefore n caller → Keeps (rolls_back b reason caller answer f)
  rolls_back_fits b reason caller answer f fits p = either (b == 0) _ _ (rolls_back_top_fits reason caller answer f fits p) (rolls_back_sub_fits b caller answer f fits p)

  begun_fits : (x : Bool) (f : Family) (b : ℕ) (c : Call) → Fits f → IsBefore n c.caller → Keeps (runs b c (if x then record f { stage = Finishing } else f))
  begun_fits true f b c fits p = runs_fits b c (record f { stage = Finishing }) fits p
  begun_fits false f b c fits p = runs_fits b c f fits p

  begins_commit_fits : (b position : ℕ) (asked : Bool) (f : Family) → Fits f → position < n → Keeps (begins_commit b position asked f)
  unfolding begins_commit
  begins_commit_fits b position asked f fits p = begun_fits (b == 0) f b (new_call (Some position) (Commits asked)) fits p

  times_out_fits : (stage : Stage) (f : Family) → Fits f → Keeps (times_out stage f)
  times_out_fits Going f fits = rolls_back_top_fits _ None _ f fits tt
  times_out_fits Finishing f fits = marks_fits 0 f fits
  times_out_fits Completing f fits = marks_fits 0 f fits
  times_out_fits Over f fits = marks_fits 0 f fits

  ticks_fits : (now : ℕ) (f : Family) → Fits f → Keeps (ticks now f)
  unfolding ticks
  ticks_fits now f fits = either (has_timed_out f now) _ _ (times_out_fits f.stage f fits) (fits, tt)

  -- the same of what a call does
  abbrev Stays : Acted → Type 0
  Stays a = Keeps a.moved

  one_of : (x : Bool) (a b : Acted) → Stays a → Stays b → Stays (if x then a else b)
  one_of true a b p q = p
  one_of false a b p q = q

  on_branch_fits : (b : ℕ) (f : Family) (a : Acted) → Fits f → Stays a → Stays (on_branch b f a)
  on_branch_fits b f a fits p = one_of (has_branch f b) a _ p (fits, tt)

  on_terminator_fits : (b : ℕ) (f : Family) (a : Acted) → Fits f → Stays a → Stays (on_terminator b f a)
  on_terminator_fits b f a fits p = one_of (has_terminator f b) a _ p (fits, tt)

  registers_fits : (fault : Option VoteFault) (answer : Said) (later : Ballots) (f : Family) → Fits f → Stays (registers fault answer later f)
  registers_fits None answer later f fits = (fits, tt)
  registers_fits (Some fault) answer later f fits = (fits, tt)

  creates_by_fits : (fault : Option TreeFault) (b : ℕ) (f : Family) → Fits f → Stays (creates_by fault b f)
  creates_by_fits None b f fits = (all_append (CallIsBefore n) f.calls (None ∷ []) fits (tt, tt), tt)
  creates_by_fits (Some fault) b f fits = (fits, tt)

  creates_in_fits : (place : Column) (b : ℕ) (f : Family) → Fits f → Stays (creates_in place b f)
  creates_in_fits columns.Active b f fits = creates_by_fits (creating f.rows b) b f fits
  creates_in_fits columns.Marked b f fits = (fits, tt)
  creates_in_fits columns.Finishing b f fits = (fits, tt)
  creates_in_fits columns.RolledBack b f fits = (fits, tt)
  creates_in_fits columns.Past b f fits = (fits, tt)

  marks_only_fits : (b : ℕ) (f : Family) → Fits f → Stays (marks_only b f)
  unfolding marks_only
  marks_only_fits b f fits = one_of _ _ _ (marks_fits b f fits) (fits, tt)

  orphan_fits : (b : ℕ) (f : Family) (m : Moved) → Fits f → Keeps m → Stays (unless_orphan b f m)
  orphan_fits b f m fits p = one_of (has_parent_ended f b) _ _ (fits, tt) p

  commits_in_fits : (place : Column) (b position : ℕ) (asked : Bool) (f : Family) → Fits f → position < n → Stays (commits_in place b position asked f)
  commits_in_fits columns.Active b position asked f fits p = orphan_fits b f _ fits (begins_commit_fits b position asked f fits p)
  commits_in_fits columns.Marked b position asked f fits p = orphan_fits b f _ fits (rolls_back_fits b _ (Some position) _ f fits p)
  commits_in_fits columns.Finishing b position asked f fits p = (fits, tt)
  commits_in_fits columns.RolledBack b position asked f fits p = (fits, tt)
  commits_in_fits columns.Past b position asked f fits p = (fits, tt)

  rolls_back_in_fits : (place : Column) (b position : ℕ) (f : Family) → Fits f → position < n → Stays (rolls_back_in place b position f)
  rolls_back_in_fits columns.Active b position f fits p = rolls_back_fits b _ (Some position) _ f fits p
  rolls_back_in_fits columns.Marked b position f fits p = rolls_back_fits b _ (Some position) _ f fits p
  rolls_back_in_fits columns.Finishing b position f fits p = (fits, tt)
  rolls_back_in_fits columns.RolledBack b position f fits p = (fits, tt)
  rolls_back_in_fits columns.Past b position f fits p = (fits, tt)

  by_act : (act : Act) (b now : ℕ) (stood : Option Stood) (f : Family) → Fits f → length f.entries < n → Stays (acts_on act b now stood f)
  unfolding gets_terminator commits rolls_back_asked registers_resource registers_synchronization registers_aware creates_subtransaction replays
  by_act acts.GetTerminator b now stood f fits p = on_branch_fits b f _ fits (fits, tt)
  by_act acts.GetCoordinator b now stood f fits p = on_branch_fits b f _ fits (fits, tt)
  by_act (acts.Commit asked) b now stood f fits p = on_terminator_fits b f _ fits (commits_in_fits (column f b) b _ asked f fits p)
  by_act acts.Rollback b now stood f fits p = on_terminator_fits b f _ fits (rolls_back_in_fits (column f b) b _ f fits p)
  by_act acts.GetStatus b now stood f fits p = (fits, tt)
  by_act acts.GetParentStatus b now stood f fits p = (fits, tt)
  by_act acts.GetTopLevelStatus b now stood f fits p = on_branch_fits b f _ fits (fits, tt)
  by_act (acts.IsSameTransaction other) b now stood f fits p = on_branch_fits b f _ fits (fits, tt)
  by_act (acts.IsRelatedTransaction other) b now stood f fits p = on_branch_fits b f _ fits (fits, tt)
  by_act (acts.IsAncestorTransaction other) b now stood f fits p = on_branch_fits b f _ fits (fits, tt)
  by_act (acts.IsDescendantTransaction other) b now stood f fits p = on_branch_fits b f _ fits (fits, tt)
  by_act acts.IsTopLevelTransaction b now stood f fits p = on_branch_fits b f _ fits (fits, tt)
  by_act acts.HashTransaction b now stood f fits p = on_branch_fits b f _ fits (fits, tt)
  by_act acts.HashTopLevelTran b now stood f fits p = on_branch_fits b f _ fits (fits, tt)
  by_act (acts.RegisterResource to aware) b now stood f fits p = on_branch_fits b f _ fits (registers_fits _ _ _ f fits)
  by_act (acts.RegisterSynchronization to) b now stood f fits p = on_branch_fits b f _ fits (registers_fits _ _ _ f fits)
  by_act (acts.RegisterSubtranAware to) b now stood f fits p = on_branch_fits b f _ fits (registers_fits _ _ _ f fits)
  by_act acts.RollbackOnly b now stood f fits p = on_branch_fits b f _ fits (marks_only_fits b f fits)
  by_act acts.GetTransactionName b now stood f fits p = on_branch_fits b f _ fits (fits, tt)
  by_act acts.CreateSubtransaction b now stood f fits p = on_branch_fits b f _ fits (creates_in_fits (column f b) b f fits)
  by_act acts.GetTxcontext b now stood f fits p = on_branch_fits b f _ fits (fits, tt)
  by_act (acts.Replay g resource) b now stood f fits p = (fits, tt)
  by_act (acts.Superior word) b now stood f fits p = (fits, tt)
  by_act (acts.Answer number h) b now stood f fits p = answered_fits number h stood f fits
  by_act acts.Tick b now stood f fits p = ticks_fits now f fits
  by_act (acts.Reread stands) b now stood f fits p = rereads_fits stood f fits
  by_act (acts.Opened deadline) b now stood f fits p = (fits, tt)

  acted_fits : (e : Event) (stood : Option Stood) (f : Family) → Fits f → length f.entries < n → Stays (acted e stood f)
  unfolding acted
  acted_fits e stood f fits p = by_act e.act e.branch e.now stood f fits p

-- ---- a step

-- the calls under way after it wait at entries that are there, and it answers earlier ones
abbrev StepsEarlier : Family → Family → List Finished → Type 0
StepsEarlier f later answers = CallsAreBefore (length later.entries) later.calls × AnswersAreBefore (length f.entries) answers

length_push : {X : Type 0} (xs : List X) (x : X) → suc (length xs) ≤ length (xs ++ x ∷ [])
length_push [] x = omega arith
length_push (y ∷ xs) x = let more = length_push xs x in omega (arith, more)

entered_earlier : (e : Event) (stood : Option Stood) (f : Family) → CallsAreBefore (length f.entries) f.calls
    → StepsEarlier f (entered f e stood (acted e stood f)).family (entered f e stood (acted e stood f)).finished
unfolding entered
entered_earlier e stood f waiting =
    let moved = acted_fits (suc (length f.entries)) e stood f (calls_further (length f.entries) (suc (length f.entries)) (omega arith) f.calls waiting) (omega arith) in (
      calls_further (suc (length f.entries)) _ (length_push f.entries _) (acted e stood f).moved.family.calls moved.0,
      others (length f.entries) (acted e stood f).moved.finished moved.1,
    )

if_silent : (silent : Bool) (e : Event) (stood : Option Stood) (f : Family) → CallsAreBefore (length f.entries) f.calls
    → StepsEarlier f (if silent then quiet said.Plain f else entered f e stood (acted e stood f)).family (if silent then quiet said.Plain f else entered f e stood (acted e stood f)).finished
if_silent true e stood f waiting = (waiting, tt)
if_silent false e stood f waiting = entered_earlier e stood f waiting

by_earlier : (o : Option Said) (e : Event) (stood : Option Stood) (f : Family) → CallsAreBefore (length f.entries) f.calls
    → StepsEarlier f (step_by o f e stood).family (step_by o f e stood).finished
by_earlier (Some answer) e stood f waiting = (waiting, tt)
by_earlier None e stood f waiting = if_silent (is_silent e f) e stood f waiting

pub steps_earlier : (e : Event) (stood : Option Stood) (f : Family) → CallsAreBefore (length f.entries) f.calls
    → StepsEarlier f (family_step f e stood).family (family_step f e stood).finished
unfolding family_step
steps_earlier e stood f waiting = by_earlier (kept_for f.entries e.key) e stood f waiting

entry_further : (m n : ℕ) → m ≤ n → (e : Entry) → AnswersAreBefore m e.finished → AnswersAreBefore n e.finished
entry_further m n le e p = answers_further m n le e.finished p

-- an entry that answers earlier ones comes to such entries
pub entries_pushed : (xs : List Entry) (x : Entry) → EntriesAreBefore (length xs) xs → AnswersAreBefore (length xs) x.finished
    → EntriesAreBefore (length (xs ++ x ∷ [])) (xs ++ x ∷ [])
entries_pushed xs x p q =
    let n : ℕ = length (xs ++ x ∷ []) in
    let le : length xs ≤ length (xs ++ x ∷ []) = omega (arith, length_push xs x) in
    all_append (λ (e : Entry). AnswersAreBefore n e.finished) xs (x ∷ [])
    (all_so (λ (e : Entry). AnswersAreBefore (length xs) e.finished) (λ (e : Entry). AnswersAreBefore n e.finished) (entry_further (length xs) n le) xs p)
    (answers_further (length xs) n le x.finished q, tt)
