-- Each step of a family leaves a sound family.
use Rattle.std.proofs.Common.{◌≡◌, ◌≢◌, ◌==◌, inl, inr, ℕ, zero, suc, List, [], ◌∷◌, ◌++◌, length, replicate, Bool, true, false, if◌then◌else◌, Option, Some, None, is_some, refl, ap, sym, subst, ◌∙◌, arith, ◌<◌, ◌||◌, nat_le}
use Rattle.std.proofs.lemmas.Grind.{common_steps}
use Rattle.std.specs.List.{AllByRecursion, filter_map}
use Rattle.std.specs.Option.{option_map, option_map_or, option_or}
use Rattle.ior_refs.specs.declared.key.ObjectKey.{ObjectKey}
use Rattle.ots_model.specs.declared.completion.Stood.{Stood}
use Rattle.ots_model.specs.Numbered.{Outcome}
use Rattle.ots_model.specs.declared.completion.Outcome.TheVariants as outcomes
use Rattle.ots_model.specs.declared.tree.Reason.{Reason}
use Rattle.ots_model.specs.declared.tree.Reason.TheVariants as reasons
use Rattle.txn_tree.specs.Calls.{created, ended, creating, top_alone, creating_by, is_full}
use Rattle.txn_tree.specs.Rows.{IsTree, IsParent, parent, shown, is_live, is_live_branch, depth}
use Rattle.txn_tree.specs.Rows as rows
use Rattle.txn_tree.specs.declared.row.Row.{Row}
use Rattle.txn_tree.specs.declared.row.State.{State}
use Rattle.txn_tree.specs.declared.row.State.TheVariants.{Active, Marked, Committed, RolledBack}
use Rattle.txn_tree.specs.declared.row.TreeFault.{TreeFault}
use Rattle.resource_votes.specs.Ballots.{Ballots, participants, no_ballots, numbered, registering, by_status, registered, registered_aware, registered_sync}
use Rattle.resource_votes.specs.Limits.{list_count}
use Rattle.resource_votes.specs.Lists.{list_at, AreNumbers}
use Rattle.resource_votes.specs.declared.registration.Registration.{Registration}
use Rattle.resource_votes.specs.declared.registration.VoteFault.{VoteFault}
use Rattle.resource_votes.specs.declared.registration.VoteFault.TheVariants as vote_faults
use Rattle.two_phase.specs.Course.{is_outside}
use Rattle.two_phase.specs.Stages as stages
use Rattle.two_phase.specs.Stages.{Standing}
use Rattle.coordinator.specs.declared.call.Leg.{Leg}
use Rattle.coordinator.specs.declared.call.Leg.TheVariants.{Below, Own, Before, Deciding, After}
use Rattle.coordinator.specs.declared.call.Stage.{Stage}
use Rattle.coordinator.specs.declared.call.Stage.TheVariants.{Going, Finishing, Completing, Over}
use Rattle.coordinator.specs.declared.effect.Effect.TheVariants as effects
use Rattle.coordinator.specs.declared.event.Act.{Act}
use Rattle.coordinator.specs.declared.event.Act.TheVariants as acts
use Rattle.coordinator.specs.declared.event.Event.{Event}
use Rattle.coordinator.specs.declared.phase.Column.{Column}
use Rattle.coordinator.specs.declared.phase.Column.TheVariants as columns
use Rattle.coordinator.specs.declared.phase.Phase.TheVariants as phases
use Rattle.coordinator.specs.declared.said.Said.{Said}
use Rattle.coordinator.specs.declared.said.Said.TheVariants as said
use Rattle.coordinator.specs.Family.{Family, Aim, Call, Commits, RollsBack, call_at, new_family}
use Rattle.coordinator.specs.Moves.{Moved, shows, completes_as}
use Rattle.coordinator.specs.Closing.{begins, rolling_back}
use Rattle.coordinator.specs.Running.{runs}
use Rattle.coordinator.specs.Hearing.{marks}
use Rattle.coordinator.specs.Phases.{is_before, has_parent_ended, column, phase, phase_by, top_column, is_ending, live_column, is_open}
use Rattle.coordinator.specs.History.{kept_for, repeated}
use Rattle.coordinator.specs.Table.{Acted, new_call, says, on_branch, on_terminator, has_terminator, has_branch, gets_terminator, registers, unless_past, aware_refusal, sync_refusal, with_sub, creates_by, creates_in, creates_subtransaction, marks_only, rolls_back_top, rolls_back_sub, rolls_back, begins_commit, unless_orphan, commits_in, commits, rolls_back_in, rolls_back_asked, registers_resource, registers_synchronization, registers_aware, replays}
use Rattle.coordinator.specs.Step.{has_timed_out, times_out, ticks, acts_on, acted, is_silent, Stepped, quiet, entered, step_by, family_step}
use Rattle.family_laws.specs.LawsOfSteps.{EndInTurn, WordsRest, FamiliesStaySound, FamiliesEndInTurn, FamiliesWordsRest}
use Rattle.family_laws.specs.Sound.{NoneLive, IsAsking, IsInStage, IsSoundCall, IsListed, IsSoundFamily, called}
use Rattle.family_laws.specs.Trees.{IsUpTo}
use Rattle.family_laws.specs.LawsBelow.{Laws}
use Rattle.family_laws.proofs.Changes.{lists_with, lists_created, lists_registered, lists_aware, completion_rows, completion_parties, completion_waiting}
use Rattle.family_laws.proofs.Ending.{but_staged, begins_quiet, begins_but, rolling_sound}
use Rattle.family_laws.proofs.Hearing.{marks_calm, answered_fine, rereads_fine}
use Rattle.family_laws.proofs.Listed.{registered_listed, aware_listed}
use Rattle.family_laws.proofs.Lists.{aware_same, registered_elsewhere}
use Rattle.family_laws.proofs.Seats.{IsBut, But, Takes, taken_up, call_kept, due_kept, none_live_kept}
use Rattle.family_laws.proofs.Sweeping.{runs_fine, positive}
use Rattle.family_laws.proofs.Trees.{same_or_not, live_other, live_before, live_within, cut_stays, cut_here, grown_live, grown_cut, up_to_is_committed_up}
use Rattle.family_laws.proofs.Turns.{IsFine, Fine, chained, either, only_fine, fine_of}
use Rattle.std.proofs.lemmas.Bool.Decides.{nat_tests}
use Rattle.txn_tree.specs.Limits.{depth_limit}

-- ---- where a call finds a transaction

zero_not : (b : ℕ) → b ≢ 0 → (b == 0) ≡ false
zero_not b n = grind arith

zero_is : (b : ℕ) → (b == 0) ≡ true → b ≡ 0
zero_is b e = grind arith

zero_isnt : (b : ℕ) → (b == 0) ≡ false → b ≢ 0
zero_isnt b e = grind arith

-- a call takes it up where it is going on or marked
abbrev pub IsUp : Column → Type 0
IsUp columns.Active = Unit {0}
IsUp columns.Marked = Unit {0}
IsUp _ = ⊥

open_up : (d a : Bool) → IsUp (top_column (if d then phases.Doubt else if a then phases.OnePhase else phases.Preparing)) → ⊥
open_up true a u = u
open_up false true u = u
open_up false false u = u

up_going : (f : Family) (stage : Stage) (o : Option Outcome) → stages.outcome f.completion ≡ o → f.stage ≡ stage → IsUp (top_column (phase_by stage f)) → stage ≡ Going
up_going f Going o g e h = refl
up_going f Finishing o g e h = absurd h
up_going f Completing None g e h = absurd (open_up (stages.is_doubtful f.completion) (stages.decides_alone f.completion) (rw g at h))
up_going f Completing (Some (outcomes.Commit basis)) g e h = absurd (rw g at h)
up_going f Completing (Some (outcomes.Rollback reason)) g e h = absurd (rw g at h)
up_going f Completing (Some outcomes.Unknown) g e h = absurd (rw g at h)
up_going f Over None g e h = absurd (open_up (stages.is_doubtful f.completion) (stages.decides_alone f.completion) (rw g at h))
up_going f Over (Some (outcomes.Commit basis)) g e h = absurd (rw g at h)
up_going f Over (Some (outcomes.Rollback reason)) g e h = absurd (rw g at h)
up_going f Over (Some outcomes.Unknown) g e h = absurd (rw g at h)

-- so a subtransaction is live, and the top-level transaction is going on
live_in : (ending : Bool) (o : Option State) → IsUp (if ending then columns.Past else live_column (option_map shown o)) → option_map_or is_live o false ≡ true
live_in true o h = absurd h
live_in false None h = absurd h
live_in false (Some Active) h = refl
live_in false (Some Marked) h = refl
live_in false (Some Committed) h = absurd h
live_in false (Some RolledBack) h = absurd h

pub top_going : (f : Family) → IsUp (column f 0) → f.stage ≡ Going
unfolding column phase
top_going f h = up_going f f.stage (stages.outcome f.completion) refl refl h

pub sub_live : (f : Family) (b : ℕ) → b ≢ 0 → IsUp (column f b) → is_live_branch f.rows b ≡ true
unfolding column
sub_live f b n h = live_in (is_ending f b) (rows.state f.rows b) (rw (zero_not b n) at h)

early_going : (stage : Stage) → stage ≡ Going → is_before stage ≡ true
early_going stage e = rw e refl

-- ---- a transaction is rolled back

-- a subtransaction ends, whose call is in hand
ended_but : Laws → (f : Family) (b : ℕ) → b ≢ 0 → is_live_branch f.rows b ≡ true → IsSoundFamily f → IsBut b f.stage (ended f.rows b false) f.ballots f.completion f.calls
ended_but law f b n live h =
    let more : List Row = ended f.rows b false in
    let fewer : NoneLive f.rows → NoneLive more = none_live_kept f.rows more (live_before f.rows b RolledBack live) in
    record {
      lists = lists_with law f.rows f.ballots b RolledBack live (λ e. absurd (cc e)) (live_other f.rows b RolledBack 0 (λ e. n (sym e)) ∙ h.lists.top) h.lists;
      completion = completion_rows f.stage f.rows more f.ballots f.completion fewer h.completion;
      as_many = h.as_many ∙ sym (((law.keep f.rows b).with_a_state RolledBack).count);
      others = λ d c o e. call_kept f.stage f.rows more f.ballots f.ballots d c.aim c.leg c.left
          (λ l. live_other f.rows b RolledBack d o ∙ l) (cut_stays law f.rows b RolledBack live) fewer (λ r k. k) (h.under_way d c e);
      finishing = λ o. h.finishing;
    }

rolls_back_sub_fine : Laws → (b : ℕ) (caller : Option ℕ) (answer : Said) (f : Family) → b ≢ 0 → is_live_branch f.rows b ≡ true → IsSoundFamily f → Fine f (rolls_back_sub b caller answer f)
unfolding rolls_back_sub
rolls_back_sub_fine law b caller answer f n live h =
    let c : Call = new_call caller (RollsBack answer) in
    let g : Family = record f { rows = ended f.rows b false } in
    chained (is_before f.stage) f.rows (shows (effects.SubtransactionEnded b false ∷ []) g) (runs b c)
    (record { stage = λ e. e; rows = refl; turn = (live, tt); silent = refl })
    (runs_fine law b c g (ended_but law f b n live h) (record {
      top = λ z. absurd (n z);
      sub = λ p. record { of_sub = tt; commits = λ asked e. absurd (cc e); undoes = λ says e. cut_here f.rows b live };
      dues = tt;
    }))

outside : (reason : Reason) (asked : Bool) (f : Family) → is_outside reason ≡ true → IsAsking (rolling_back asked reason f) → ⊥
outside reason asked f e a = absurd (cc (rw e at a))

begun_call : (first : Standing) (caller : Option ℕ) (answer : Said) (f : Family) → Takes 0 (new_call caller (RollsBack answer)) (begins first f).family
unfolding begins completes_as
begun_call first caller answer f = record {
  top = λ z. record { in_stage = refl; alone = λ past. absurd past };
  sub = λ p. absurd (omega (arith, p));
  dues = tt;
}

rolls_back_top_fine : Laws → (reason : Reason) (caller : Option ℕ) (answer : Said) (f : Family) → is_outside reason ≡ true → f.stage ≡ Going → IsSoundFamily f
    → Fine f (rolls_back_top reason caller answer f)
unfolding rolls_back_top
rolls_back_top_fine law reason caller answer f out e h =
    let c : Call = new_call caller (RollsBack answer) in
    let first : Standing = rolling_back false reason f in
    chained (is_before f.stage) f.rows (begins first f) (runs 0 c) (begins_quiet first f)
    (runs_fine law 0 c (begins first f).family
    (begins_but first f (early_going f.stage e) (rolling_sound false reason f (λ a. absurd (outside reason false f out a))) (taken_up 0 f h))
    (begun_call first caller answer f))

rolls_back_fine : Laws → (b : ℕ) (reason : Reason) (caller : Option ℕ) (answer : Said) (f : Family) → is_outside reason ≡ true → IsUp (column f b) → IsSoundFamily f
    → Fine f (rolls_back b reason caller answer f)
rolls_back_fine law b reason caller answer f out up h =
    either (is_before f.stage) f.rows (b == 0) _ _
    (λ e. let z : b ≡ 0 = zero_is b e in rolls_back_top_fine law reason caller answer f out (top_going f (rw z at up)) h)
    (λ e. let n : b ≢ 0 = zero_isnt b e in rolls_back_sub_fine law b caller answer f n (sub_live f b n up) h)

-- ---- a commit begins

begun_but : (f : Family) → f.stage ≡ Going → IsSoundFamily f → But 0 (record f { stage = Finishing })
begun_but f e h =
    but_staged f Finishing f.completion (completion_waiting f.stage Finishing f.rows f.rows f.ballots f.ballots f.completion (early_going f.stage e) refl h.completion) (taken_up 0 f h)

-- from another beginning of the same rows
from_start : (early later : Bool) (rs : List Row) (m : Moved) → later ≡ early → IsFine later rs m → IsFine early rs m
from_start early later rs m e h = subst (λ (x : Bool). IsFine x rs m) e h

begins_commit_fine : Laws → (b position : ℕ) (asked : Bool) (f : Family) → IsUp (column f b) → IsSoundFamily f → Fine f (begins_commit b position asked f)
unfolding begins_commit
begins_commit_fine law b position asked f up h = go (b == 0) refl
  where
    c : Call
    c = new_call (Some position) (Commits asked)

    go : (t : Bool) → (b == 0) ≡ t → Fine f (runs b c (if t then record f { stage = Finishing } else f))
    go true e =
        let z : b ≡ 0 = zero_is b e in
        let going : f.stage ≡ Going = top_going f (rw z at up) in
        rw z (from_start (is_before f.stage) true f.rows (runs 0 c (record f { stage = Finishing })) (sym (early_going f.stage going))
        (runs_fine law 0 c (record f { stage = Finishing }) (begun_but f going h) (record {
          top = λ y. record { in_stage = refl; alone = λ past. absurd past };
          sub = λ p. absurd (omega (arith, p));
          dues = tt;
        })))
    go false e =
        let n : b ≢ 0 = zero_isnt b e in
        runs_fine law b c f (taken_up b f h) (record {
          top = λ z. absurd (n z);
          sub = λ p. record { of_sub = tt; commits = λ a i. sub_live f b n up; undoes = λ says i. absurd (cc i) };
          dues = tt;
        })

-- what an act does is fine
abbrev Does : Family → Acted → Type 0
Does f a = Fine f a.moved

either_acted : (f : Family) (t : Bool) (x y : Acted) → (t ≡ true → Does f x) → (t ≡ false → Does f y) → Does f (if t then x else y)
either_acted f true x y h k = h refl
either_acted f false x y h k = k refl

says_fine : (answer : Said) (f : Family) → IsSoundFamily f → Does f (says answer f)
says_fine answer f h = only_fine f h

unless_orphan_fine : (b : ℕ) (f : Family) (m : Moved) → IsSoundFamily f → Fine f m → Does f (unless_orphan b f m)
unless_orphan_fine b f m h r = either_acted f (has_parent_ended f b) _ _ (λ e. says_fine said.TransactionRolledBack f h) (λ e. r)

commits_in_fine : Laws → (place : Column) (b position : ℕ) (asked : Bool) (f : Family) → column f b ≡ place → IsSoundFamily f → Does f (commits_in place b position asked f)
commits_in_fine law columns.Active b position asked f e h = unless_orphan_fine b f _ h (begins_commit_fine law b position asked f (subst IsUp (sym e) tt) h)
commits_in_fine law columns.Marked b position asked f e h =
    unless_orphan_fine b f _ h (rolls_back_fine law b reasons.Marked (Some position) said.TransactionRolledBack f refl (subst IsUp (sym e) tt) h)
commits_in_fine law columns.Finishing b position asked f e h = says_fine said.InvalidTransaction f h
commits_in_fine law columns.RolledBack b position asked f e h = says_fine said.TransactionRolledBack f h
commits_in_fine law columns.Past b position asked f e h = says_fine said.InvalidTransaction f h

rolls_back_in_fine : Laws → (place : Column) (b position : ℕ) (f : Family) → column f b ≡ place → IsSoundFamily f → Does f (rolls_back_in place b position f)
rolls_back_in_fine law columns.Active b position f e h = rolls_back_fine law b reasons.Asked (Some position) said.Plain f refl (subst IsUp (sym e) tt) h
rolls_back_in_fine law columns.Marked b position f e h = rolls_back_fine law b reasons.Asked (Some position) said.Plain f refl (subst IsUp (sym e) tt) h
rolls_back_in_fine law columns.Finishing b position f e h = says_fine said.InvalidTransaction f h
rolls_back_in_fine law columns.RolledBack b position f e h = says_fine said.Plain f h
rolls_back_in_fine law columns.Past b position f e h = says_fine said.InvalidTransaction f h

-- ---- a registration

-- a transaction with which something is registered: the top-level one before it asks, or one that is active
is_active : (o : Option State) (k : Option VoteFault) → option_or (by_status (option_map shown o)) k ≡ None → o ≡ Some Active
is_active None k e = absurd (cc e)
is_active (Some Active) k e = refl
is_active (Some Marked) k e = absurd (cc e)
is_active (Some Committed) k e = absurd (cc e)
is_active (Some RolledBack) k e = absurd (cc e)

opened : (place : Column) (fault : Option VoteFault) → unless_past place fault ≡ None → (is_open place ≡ true) × (fault ≡ None)
opened place fault e = go (is_open place) refl e
  where
    go : (t : Bool) → is_open place ≡ t → (if t then fault else Some vote_faults.Inactive) ≡ None → (is_open place ≡ true) × (fault ≡ None)
    go true i e = (i, e)
    go false i e = absurd (cc e)

never_open : (d a : Bool) → is_open (top_column (if d then phases.Doubt else if a then phases.OnePhase else phases.Preparing)) ≡ true → ⊥
never_open true a u = absurd (cc u)
never_open false true u = absurd (cc u)
never_open false false u = absurd (cc u)

open_before : (f : Family) (stage : Stage) (o : Option Outcome) → stages.outcome f.completion ≡ o → f.stage ≡ stage → is_open (top_column (phase_by stage f)) ≡ true → is_before stage ≡ true
open_before f Going o g e h = refl
open_before f Finishing o g e h = refl
open_before f Completing None g e h = absurd (never_open (stages.is_doubtful f.completion) (stages.decides_alone f.completion) (rw g at h))
open_before f Completing (Some (outcomes.Commit basis)) g e h = absurd (cc (rw g at h))
open_before f Completing (Some (outcomes.Rollback reason)) g e h = absurd (cc (rw g at h))
open_before f Completing (Some outcomes.Unknown) g e h = absurd (cc (rw g at h))
open_before f Over None g e h = absurd (never_open (stages.is_doubtful f.completion) (stages.decides_alone f.completion) (rw g at h))
open_before f Over (Some (outcomes.Commit basis)) g e h = absurd (cc (rw g at h))
open_before f Over (Some (outcomes.Rollback reason)) g e h = absurd (cc (rw g at h))
open_before f Over (Some outcomes.Unknown) g e h = absurd (cc (rw g at h))

top_open : (f : Family) → is_open (column f 0) ≡ true → is_before f.stage ≡ true
unfolding column phase
top_open f h = open_before f f.stage (stages.outcome f.completion) refl refl h

calls_kept : (f : Family) (later : Ballots) → ((r : Registration) → IsListed f.ballots r → IsListed later r) → IsSoundFamily f
    → (d : ℕ) (c : Call) → call_at f d ≡ Some c → IsSoundCall f.stage f.rows later d c.aim c.leg c.left
calls_kept f later more h d c e =
    call_kept f.stage f.rows f.rows f.ballots later d c.aim c.leg c.left (λ l. l) (λ x k. k) (λ n. n) more (h.under_way d c e)

registered_sound : (f : Family) (b : ℕ) (to : List ℕ) (aware : Bool) → rows.state f.rows b ≡ Some Active → (b ≡ 0 → is_before f.stage ≡ true) → IsSoundFamily f
    → IsSoundFamily (record f { ballots = registered b to aware f.ballots })
registered_sound f b to aware active early h = record {
  lists = lists_registered f.rows f.ballots b to aware (λ e. absurd (cc (sym active ∙ e))) h.lists;
  completion = elim (same_or_not 0 b) [
    | inl z ↦ completion_waiting f.stage f.stage f.rows f.rows f.ballots (registered b to aware f.ballots) f.completion (early (sym z)) (early (sym z)) h.completion
    | inr n ↦ completion_parties f.stage f.rows f.ballots (registered b to aware f.ballots) f.completion (registered_elsewhere f.ballots b to aware 0 n h.lists.numbers) h.completion
  ];
  as_many = h.as_many;
  under_way = calls_kept f (registered b to aware f.ballots) (registered_listed f.ballots b to aware h.lists.numbers) h;
  finishing = h.finishing;
}

aware_sound : (f : Family) (b : ℕ) (to : List ℕ) → IsSoundFamily f → IsSoundFamily (record f { ballots = registered_aware b to f.ballots })
aware_sound f b to h = record {
  lists = lists_aware f.rows f.ballots b to h.lists;
  completion = completion_parties f.stage f.rows f.ballots (registered_aware b to f.ballots) f.completion (aware_same f.ballots b to 0 h.lists.numbers) h.completion;
  as_many = h.as_many;
  under_way = calls_kept f (registered_aware b to f.ballots) (aware_listed f.ballots b to h.lists.numbers) h;
  finishing = h.finishing;
}

sync_sound : (f : Family) (b : ℕ) (to : List ℕ) → IsSoundFamily f → IsSoundFamily (record f { ballots = registered_sync b to f.ballots })
sync_sound f b to h = record {
  lists = record { tree = h.lists.tree; top = h.lists.top; listed = h.lists.listed; highest = h.lists.highest; numbers = h.lists.numbers; room = h.lists.room; few = h.lists.few };
  completion = record { begun = h.completion.begun; there = h.completion.there; parties = h.completion.parties; asking = h.completion.asking };
  as_many = h.as_many;
  under_way = calls_kept f (registered_sync b to f.ballots) (λ r k. record { branch = k.branch; there = k.there }) h;
  finishing = h.finishing;
}

registers_fine : (fault : Option VoteFault) (answer : Said) (later : Ballots) (f : Family) → IsSoundFamily f → (fault ≡ None → IsSoundFamily (record f { ballots = later })) → Does f (registers fault answer later f)
registers_fine None answer later f h k = record { sound = k refl; turn = tt; rests = tt }
registers_fine (Some fault) answer later f h k = only_fine f h

registers_resource_fine : (b : ℕ) (to : List ℕ) (aware : Bool) (f : Family) → IsSoundFamily f → Does f (registers_resource b to aware f)
unfolding registers_resource
registers_resource_fine b to aware f h =
    registers_fine (unless_past (column f b) (registering f.rows b f.ballots)) _ (registered b to aware f.ballots) f h
    (λ e. let o = opened (column f b) (registering f.rows b f.ballots) e in
    registered_sound f b to aware (is_active (rows.state f.rows b) _ o.1) (λ z. top_open f (rw z at o.0)) h)

-- ---- a subtransaction is made

not_going : (aim : Aim) (leg : Leg) → IsInStage Going aim leg → ⊥
not_going (Commits asked) Below h = absurd (cc h)
not_going (RollsBack says) Below h = absurd (cc h)
not_going aim Own h = h
not_going (Commits asked) (Before called) h = absurd (cc h)
not_going (RollsBack says) (Before called) h = h
not_going aim Deciding h = absurd (cc h)
not_going aim (After called) h = absurd (cc h)

called_before : (calls : List (Option Call)) (d : ℕ) (c : Call) → called (calls ++ None ∷ []) d ≡ Some c → called calls d ≡ Some c
called_before [] zero c e = absurd (cc e)
called_before [] (suc d) c e = absurd (cc e)
called_before (x ∷ calls) zero c e = e
called_before (x ∷ calls) (suc d) c e = called_before calls d c e

called_still : (calls : List (Option Call)) → is_some (called calls 0) ≡ true → is_some (called (calls ++ None ∷ []) 0) ≡ true
called_still [] e = absurd (cc e)
called_still (x ∷ calls) e = e

one_longer : {A : Type 0} (xs : List A) (x : A) → length (xs ++ x ∷ []) ≡ suc (length xs)
one_longer xs x = grind (arith, common_steps)

-- where it is made below the top-level transaction, that is going on; else one is live already
none_grows : (f : Family) (b : ℕ) → is_live_branch f.rows b ≡ true → b ≢ 0 → NoneLive f.rows → NoneLive (created f.rows b)
none_grows f b live n none = absurd (none b (positive b n) live)

created_call : (f : Family) (b : ℕ) → is_live_branch f.rows b ≡ true → (b ≡ 0 → f.stage ≡ Going) → (d : ℕ) (c : Call)
    → IsSoundCall f.stage f.rows f.ballots d c.aim c.leg c.left → IsSoundCall f.stage (created f.rows b) f.ballots d c.aim c.leg c.left
created_call f b live going d c h = record {
  top = λ z. elim (same_or_not b 0) [
    | inl y ↦ absurd (not_going c.aim c.leg (subst (λ (x : Stage). IsInStage x c.aim c.leg) (going y) (h.top z).in_stage))
    | inr n ↦ record { in_stage = (h.top z).in_stage; alone = λ past. none_grows f b live n ((h.top z).alone past) }
  ];
  sub = λ p. record {
    of_sub = (h.sub p).of_sub;
    commits = λ asked e. grown_live f.rows b d ((h.sub p).commits asked e);
    undoes = λ says e. grown_cut f.rows b d ((h.sub p).undoes says e);
  };
  dues = due_kept f.rows (created f.rows b) f.ballots f.ballots (grown_cut f.rows b) (λ r k. k) c.left h.dues;
}

created_sound : Laws → (f : Family) (b : ℕ) → is_live_branch f.rows b ≡ true → length f.rows < list_count → (b ≡ 0 → f.stage ≡ Going) → IsSoundFamily f → IsSoundFamily (with_sub b f)
created_sound law f b live small going h = record {
  lists = lists_created law f.rows f.ballots b (live_within f.rows b live) small h.lists;
  completion = elim (same_or_not b 0) [
    | inl z ↦ completion_waiting f.stage f.stage f.rows (created f.rows b) f.ballots f.ballots f.completion (early_going f.stage (going z)) (early_going f.stage (going z)) h.completion
    | inr n ↦ completion_rows f.stage f.rows (created f.rows b) f.ballots f.completion (none_grows f b live n) h.completion
  ];
  as_many = one_longer f.calls None ∙ ap (λ (n : ℕ). suc n) h.as_many ∙ sym (one_longer f.rows (record { parent = Some b; state = Active }));
  under_way = λ d c e. created_call f b live going d c (h.under_way d c (called_before f.calls d c e));
  finishing = λ e. called_still f.calls (h.finishing e);
}

-- a tree that gets one more has fewer than there may be
not_full : (full : Bool) (o : Option State) → creating_by full o ≡ None → full ≡ false
not_full true (Some Active) is = absurd (cc is)
not_full false (Some Active) is = refl
not_full full (Some Marked) is = absurd (cc is)
not_full full (Some Committed) is = absurd (cc is)
not_full full (Some RolledBack) is = absurd (cc is)
not_full full None is = absurd (cc is)

under_limit : (deep : Bool) (n : ℕ) → (deep || nat_le list_count n) ≡ false → n < list_count
under_limit true n is = absurd (cc is)
under_limit false n is = not_over n is
  where
    not_over : (n : ℕ) → nat_le list_count n ≡ false → n < list_count
    not_over n is = grind (arith, nat_tests, is)

has_few : (f : Family) (b : ℕ) → creating f.rows b ≡ None → length f.rows < list_count
has_few f b is = under_limit (nat_le depth_limit (depth f.rows b)) (length f.rows) (not_full (is_full f.rows b) (rows.state f.rows b) is)

creates_by_fine : Laws → (fault : Option TreeFault) (b : ℕ) (f : Family) → creating f.rows b ≡ fault → is_live_branch f.rows b ≡ true → (b ≡ 0 → f.stage ≡ Going) → IsSoundFamily f → Does f (creates_by fault b f)
creates_by_fine law None b f is live going h = record { sound = created_sound law f b live (has_few f b is) going h; turn = tt; rests = tt }
creates_by_fine law (Some fault) b f is live going h = only_fine f h

up_branch : (f : Family) (b : ℕ) → IsUp (column f b) → IsSoundFamily f → is_live_branch f.rows b ≡ true
up_branch f b up h =
    elim (same_or_not b 0) [
      | inl z ↦ rw z h.lists.top
      | inr n ↦ sub_live f b n up
    ]

creates_in_fine : Laws → (place : Column) (b : ℕ) (f : Family) → column f b ≡ place → IsSoundFamily f → Does f (creates_in place b f)
creates_in_fine law columns.Active b f e h =
    let up : IsUp (column f b) = subst IsUp (sym e) tt in
    creates_by_fine law (creating f.rows b) b f refl (up_branch f b up h) (λ z. top_going f (rw z at up)) h
creates_in_fine law columns.Marked b f e h = only_fine f h
creates_in_fine law columns.Finishing b f e h = only_fine f h
creates_in_fine law columns.RolledBack b f e h = only_fine f h
creates_in_fine law columns.Past b f e h = only_fine f h

-- ---- each act

marks_only_fine : Laws → (b : ℕ) (f : Family) → IsSoundFamily f → Does f (marks_only b f)
unfolding marks_only
marks_only_fine law b f h = either_acted f (is_open (column f b)) _ _ (λ e. fine_of (is_before f.stage) f.rows (marks b f) (marks_calm law b f h)) (λ e. only_fine f h)

times_out_fine : Laws → (stage : Stage) (f : Family) → f.stage ≡ stage → IsSoundFamily f → Fine f (times_out stage f)
times_out_fine law Going f e h = rolls_back_top_fine law reasons.Timeout None said.Plain f refl e h
times_out_fine law Finishing f e h = fine_of (is_before f.stage) f.rows (marks 0 f) (marks_calm law 0 f h)
times_out_fine law Completing f e h = fine_of (is_before f.stage) f.rows (marks 0 f) (marks_calm law 0 f h)
times_out_fine law Over f e h = fine_of (is_before f.stage) f.rows (marks 0 f) (marks_calm law 0 f h)

ticks_fine : Laws → (now : ℕ) (f : Family) → IsSoundFamily f → Fine f (ticks now f)
unfolding ticks
ticks_fine law now f h = either (is_before f.stage) f.rows (has_timed_out f now) _ _ (λ e. times_out_fine law f.stage f refl h) (λ e. only_fine f h)

on_branch_fine : (b : ℕ) (f : Family) (a : Acted) → IsSoundFamily f → Does f a → Does f (on_branch b f a)
on_branch_fine b f a h r = either_acted f (has_branch f b) a _ (λ e. r) (λ e. only_fine f h)

on_terminator_fine : (b : ℕ) (f : Family) (a : Acted) → IsSoundFamily f → Does f a → Does f (on_terminator b f a)
on_terminator_fine b f a h r = either_acted f (has_terminator f b) a _ (λ e. r) (λ e. only_fine f h)

by_act : Laws → (act : Act) (b now : ℕ) (stood : Option Stood) (f : Family) → IsSoundFamily f → Does f (acts_on act b now stood f)
unfolding gets_terminator commits rolls_back_asked registers_synchronization registers_aware creates_subtransaction replays
by_act law acts.GetTerminator b now stood f h = on_branch_fine b f _ h (only_fine f h)
by_act law acts.GetCoordinator b now stood f h = on_branch_fine b f _ h (only_fine f h)
by_act law (acts.Commit asked) b now stood f h = on_terminator_fine b f _ h (commits_in_fine law (column f b) b _ asked f refl h)
by_act law acts.Rollback b now stood f h = on_terminator_fine b f _ h (rolls_back_in_fine law (column f b) b _ f refl h)
by_act law acts.GetStatus b now stood f h = only_fine f h
by_act law acts.GetParentStatus b now stood f h = only_fine f h
by_act law acts.GetTopLevelStatus b now stood f h = on_branch_fine b f _ h (only_fine f h)
by_act law (acts.IsSameTransaction other) b now stood f h = on_branch_fine b f _ h (only_fine f h)
by_act law (acts.IsRelatedTransaction other) b now stood f h = on_branch_fine b f _ h (only_fine f h)
by_act law (acts.IsAncestorTransaction other) b now stood f h = on_branch_fine b f _ h (only_fine f h)
by_act law (acts.IsDescendantTransaction other) b now stood f h = on_branch_fine b f _ h (only_fine f h)
by_act law acts.IsTopLevelTransaction b now stood f h = on_branch_fine b f _ h (only_fine f h)
by_act law acts.HashTransaction b now stood f h = on_branch_fine b f _ h (only_fine f h)
by_act law acts.HashTopLevelTran b now stood f h = on_branch_fine b f _ h (only_fine f h)
by_act law (acts.RegisterResource to aware) b now stood f h = on_branch_fine b f _ h (registers_resource_fine b to aware f h)
by_act law (acts.RegisterSynchronization to) b now stood f h = on_branch_fine b f _ h (registers_fine (sync_refusal f b) _ (registered_sync b to f.ballots) f h (λ e. sync_sound f b to h))
by_act law (acts.RegisterSubtranAware to) b now stood f h = on_branch_fine b f _ h (registers_fine (aware_refusal f b) _ (registered_aware b to f.ballots) f h (λ e. aware_sound f b to h))
by_act law acts.RollbackOnly b now stood f h = on_branch_fine b f _ h (marks_only_fine law b f h)
by_act law acts.GetTransactionName b now stood f h = on_branch_fine b f _ h (only_fine f h)
by_act law acts.CreateSubtransaction b now stood f h = on_branch_fine b f _ h (creates_in_fine law (column f b) b f refl h)
by_act law acts.GetTxcontext b now stood f h = on_branch_fine b f _ h (only_fine f h)
by_act law (acts.Replay g resource) b now stood f h = only_fine f h
by_act law (acts.Superior word) b now stood f h = only_fine f h
by_act law (acts.Answer n heard) b now stood f h = answered_fine law n heard stood f h
by_act law acts.Tick b now stood f h = ticks_fine law now f h
by_act law (acts.Reread stands) b now stood f h = rereads_fine law stood f h
by_act law (acts.Opened deadline) b now stood f h = only_fine (record f { deadline = deadline }) h

-- ---- each step

pub record IsFineStep (f : Family) (s : Stepped) : Type 0 where
  pub sound : IsSoundFamily s.family
  pub turn : EndInTurn (is_before f.stage) s.effects f.rows
  pub rests : WordsRest s.family s.words

quiet_step : (answer : Said) (f : Family) → IsSoundFamily f → IsFineStep f (quiet answer f)
quiet_step answer f h = record { sound = h; turn = tt; rests = tt }

either_step : (f : Family) (t : Bool) (x y : Stepped) → IsFineStep f x → IsFineStep f y → IsFineStep f (if t then x else y)
either_step f true x y h k = h
either_step f false x y h k = k

entered_step : (e : Event) (stood : Option Stood) (f : Family) (a : Acted) → Does f a → IsFineStep f (entered f e stood a)
unfolding entered
entered_step e stood f a h = record { sound = h.sound; turn = h.turn; rests = h.rests }

step_by_fine : Laws → (o : Option Said) (f : Family) (e : Event) (stood : Option Stood) → IsSoundFamily f → IsFineStep f (step_by o f e stood)
unfolding acted
step_by_fine law (Some answer) f e stood h = quiet_step (repeated answer) f h
step_by_fine law None f e stood h = either_step f (is_silent e f) _ _ (quiet_step said.Plain f h)
    (entered_step e stood f (acted e stood f) (by_act law e.act e.branch e.now stood f h))

pub steps_fine : Laws → (f : Family) (e : Event) (stood : Option Stood) → IsSoundFamily f → IsFineStep f (family_step f e stood)
unfolding family_step
steps_fine law f e stood h = step_by_fine law (kept_for f.entries e.key) f e stood h

-- ---- a new family

empty_at : (n b : ℕ) → list_at (replicate n []) b ≡ []
empty_at zero b = refl
empty_at (suc n) zero = refl
empty_at (suc n) (suc b) = empty_at n b

as_many : (n : ℕ) → length {A = List ℕ} (replicate n []) ≡ n
as_many zero = refl
as_many (suc n) = ap (λ (k : ℕ). suc k) (as_many n)

none_listed : (P : Registration → Type 0) (b : ℕ) → AllByRecursion P (participants b no_ballots)
none_listed P b = subst (λ (xs : List ℕ). AllByRecursion P (filter_map (numbered []) xs)) (sym (empty_at list_count b)) tt

none_called : (b : ℕ) (c : Call) → called (None ∷ []) b ≡ Some c → ⊥
none_called zero c e = absurd (cc e)
none_called (suc b) c e = absurd (cc e)

pub new_sound : Laws → (key : ObjectKey) (deadline : Option ℕ) → IsSoundFamily (new_family key deadline)
new_sound law key deadline = record {
  lists = record {
    tree = law.top;
    top = refl;
    listed = λ b. none_listed (λ r. IsUpTo top_alone b r.branch) b;
    highest = λ b. none_listed (λ r. (c : ℕ) → IsUpTo top_alone c r.branch → IsUpTo top_alone b c) b;
    numbers = λ b. subst (λ (xs : List ℕ). AreNumbers 0 xs) (sym (empty_at list_count b)) tt;
    room = as_many list_count;
    few = omega arith;
  };
  completion = record { begun = ((λ e. tt), (λ w. refl)); there = tt; parties = tt; asking = λ a. absurd a };
  as_many = refl;
  under_way = λ b c e. absurd (none_called b c e);
  finishing = λ e. absurd (cc e);
}

pub families_stay_sound : Laws → FamiliesStaySound
families_stay_sound law = record { new = new_sound law; steps = λ f e stood h. (steps_fine law f e stood h).sound; chains = up_to_is_committed_up law }

pub families_end_in_turn : Laws → FamiliesEndInTurn
families_end_in_turn law f e stood h = (steps_fine law f e stood h).turn

pub families_words_rest : Laws → FamiliesWordsRest
families_words_rest law f e stood h = (steps_fine law f e stood h).rests
