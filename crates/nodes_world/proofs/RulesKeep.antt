-- What the rules of a family keep while they go on: who is registered and who is listed. To whom a word goes is registered.
use Rattle.std.proofs.Common.{◌≡◌, ◌≢◌, ◌⊎◌, ◌==◌, ◌&&◌, not, inl, inr, ℕ, zero, suc, ◌+◌, ◌<◌, List, [], ◌∷◌, ◌++◌, length, map, filter, find, get_or, slice_get, slice_set, Bool, true, false, if◌then◌else◌, Option, Some, None, is_some, is_none, Any, Contains, refl, ap, sym, subst, ◌∙◌, arith}
use Rattle.std.proofs.lemmas.Grind.{common_steps}
use Rattle.std.proofs.lemmas.List.{get_or-set_other}
use Rattle.std.proofs.lemmas.List.Elements.{filter_map-append, Contains-append_cases, Contains-append_left, Contains-append_right}
use Rattle.std.specs.List.{AllByRecursion, filter_map, cons_option, list_any}
use Rattle.std.specs.Option.{option_and_then, option_map}
use Rattle.ots_model.specs.declared.completion.CallNumber.{CallNumber}
use Rattle.ots_model.specs.declared.completion.Ground.TheVariants.{Record, Nobody}
use Rattle.ots_model.specs.declared.completion.Heard.{Heard}
use Rattle.ots_model.specs.declared.completion.Heard.TheVariants as phase_hears
use Rattle.ots_model.specs.declared.completion.Stood.{Stood}
use Rattle.ots_model.specs.declared.completion.Receipt.{Receipt}
use Rattle.ots_model.specs.declared.completion.Vote.{Vote}
use Rattle.ots_model.specs.Numbered.{Outcome}
use Rattle.ots_model.specs.declared.completion.Outcome.TheVariants as outcomes
use Rattle.ots_model.specs.declared.tree.Outward.{Outward}
use Rattle.ots_model.specs.declared.tree.Reason.{Reason}
use Rattle.ots_model.specs.declared.tree.Reason.TheVariants as reasons
use Rattle.txn_tree.specs.Calls.{ended, marked, live_under}
use Rattle.txn_tree.specs.Rows.{parent, is_live_branch}
use Rattle.txn_tree.specs.declared.row.Row.{Row}
use Rattle.resource_votes.specs.Ballots.{Ballots, adopted, numbered, participants}
use Rattle.resource_votes.specs.Lists.{list_at}
use Rattle.resource_votes.specs.declared.registration.Registration.{Registration}
use Rattle.two_phase.specs.Course as course
use Rattle.two_phase.specs.Course.{Course}
use Rattle.two_phase.specs.Parties.{by_answer, has_refused, has_voted_commit, party_of, reason_of}
use Rattle.two_phase.specs.Stages as stages
use Rattle.two_phase.specs.Stages.{Standing, Waiting, Going as UnderWay}
use Rattle.two_phase.specs.declared.party.Errand.{Errand}
use Rattle.two_phase.specs.declared.party.Party.{Party}
use Rattle.coordinator.specs.declared.call.Leg.{Leg}
use Rattle.coordinator.specs.declared.call.Leg.TheVariants.{Below, Own, Before, Deciding, After}
use Rattle.coordinator.specs.declared.call.Stage.{Stage}
use Rattle.coordinator.specs.declared.call.Stage.TheVariants.{Going, Finishing, Completing, Over}
use Rattle.coordinator.specs.declared.effect.Effect.{Effect}
use Rattle.coordinator.specs.declared.effect.Effect.TheVariants as effects
use Rattle.coordinator.specs.declared.said.Said.{Said}
use Rattle.coordinator.specs.declared.said.Said.TheVariants as said
use Rattle.coordinator.specs.Family.{Family, Aim, Call, Commits, RollsBack, Duty, call_at, number_of}
use Rattle.coordinator.specs.Moves.{Moved, Notice, only, ◌▹◌, shows, sends, ends_call, fixed_now, completes_as}
use Rattle.coordinator.specs.Closing.{asked_of, asking, asked_ones, rolling_back, begun, begins, decides, decides_by, rests, afterwards, tells_next, tells_synchronizations, next_told, finishes, next_synchronization, calls_next, gives_up, before, waits}
use Rattle.coordinator.specs.Running.{aware_of, commit_duties, duty_notice, duty_to, undo_duties, tells_first, commits_up, adopter, own_ends, own_duties, tells_own, passes_top, passes, left_below, left_by, ends_below, duties_below, sweeps_next, sweeps, is_held, tells_after, by_leg, runs, runs_call, goes_on}
use Rattle.coordinator.specs.declared.call.Ending.{Ending}
use Rattle.coordinator.specs.declared.call.Ending.TheVariants.{TellsRollback, TellsCommit, RollsBackUpdates}
use Rattle.coordinator.specs.Phases.{is_marked}
use Rattle.family_laws.specs.LawsOfTelling.{rows_told, HasVote, IsVoted}
use Rattle.family_laws.specs.Sound.{IsAsking, IsListed, called}
use Rattle.nodes_world.specs.AgreementInside.{IsNotBefore, AreFew}
use Rattle.nodes_world.proofs.EndsOpen.{parent_set}
use Rattle.nodes_world.proofs.StepBranches.{rows_parents}
use Rattle.nodes_world.proofs.ListedFew.{adopted_few}

-- ---- what is kept

-- a reference is one by which something is registered
pub record IsRegisteredTo (rs : List Registration) (to : List ℕ) : Type 0 where
  pub r : Registration
  pub there : Contains rs r
  pub leads : r.to ≡ to

abbrev pub AreDue : List Registration → List Duty → Type 0
AreDue rs left = AllByRecursion (λ (d : Duty). Contains rs d.resource) left

-- and it calls no synchronization
abbrev pub IsFit : List Registration → Call → Type 0
IsFit rs c = AreDue rs c.left × IsNotBefore c.leg

abbrev pub AllDue : List Registration → List (Option Call) → Type 0
AllDue rs calls = (b : ℕ) (c : Call) → called calls b ≡ Some c → IsFit rs c

abbrev pub ArePartiesOf : List Registration → Standing → Type 0
ArePartiesOf rs (Waiting room) = Unit {0}
ArePartiesOf rs (UnderWay k) = AllByRecursion (λ (p : Party). IsRegisteredTo rs p.to) k.parties

-- parents come before their children; what is left to tell, and who takes part, is registered; and no synchronization is
pub record AreTidy (rs : List Row) (some : Ballots) (calls : List (Option Call)) (s : Standing) : Type 0 where
  pub below : (b p : ℕ) → parent rs b ≡ Some p → p < b
  pub dues : AllDue some.registrations calls
  pub parties : ArePartiesOf some.registrations s
  pub alone : some.synchronizations ≡ []
  pub few : AreFew some

abbrev pub IsTidy : Family → Type 0
IsTidy f = AreTidy f.rows f.ballots f.calls f.completion

-- a reason that speaks of no synchronization
abbrev pub IsPlainReason : Reason → Type 0
IsPlainReason (reasons.SyncLost number) = ⊥
IsPlainReason (reasons.SyncStarved number) = ⊥
IsPlainReason _ = Unit {0}

-- Votes stay, and no other ones come to count. No record comes to decide, and a rollback comes for such a reason. One that decides
-- alone goes on to.
pub record IsKept (s t : Standing) : Type 0 where
  pub voted : (g : ℕ) (vote : Vote) → IsVoted s g vote → IsVoted t g vote
  pub votes : (g : ℕ) (vote : Vote) → IsVoted t g vote → IsVoted s g vote
  pub commits : stages.outcome t ≡ Some (outcomes.Commit Record) → stages.outcome s ≡ Some (outcomes.Commit Record)
  pub reasons : (why : Reason) → stages.outcome t ≡ Some (outcomes.Rollback why) → (stages.outcome s ≡ Some (outcomes.Rollback why)) ⊎ IsPlainReason why
  pub wants : stages.wants_decision s ≡ false → stages.wants_decision t ≡ false
  pub decides : IsAsking s → stages.decides_alone s ≡ true → IsAsking t × (stages.decides_alone t ≡ true)

pub kept_itself : (s : Standing) → IsKept s s
kept_itself s = record {
  voted = λ g vote is. is;
  votes = λ g vote is. is;
  commits = λ is. is;
  reasons = λ why is. inl is;
  wants = λ is. is;
  decides = λ asking is. (asking, is);
}

kept_further : (s t u : Standing) → IsKept s t → IsKept t u → IsKept s u
kept_further s t u first later = record {
  voted = λ g vote is. later.voted g vote (first.voted g vote is);
  votes = λ g vote is. first.votes g vote (later.votes g vote is);
  commits = λ is. first.commits (later.commits is);
  reasons = λ why is. elim (later.reasons why is) [
    | inl was ↦ first.reasons why was
    | inr plain ↦ inr plain
  ];
  wants = λ is. later.wants (first.wants is);
  decides = λ asking is. let on = first.decides asking is in later.decides on.0 on.1;
}

pub record AreKept (rs : List Row) (some : Ballots) (s : Standing) (m : Moved) : Type 0 where
  pub tidy : IsTidy m.family
  pub rows : m.family.rows ≡ rows_told m.effects rs
  pub registrations : m.family.ballots.registrations ≡ some.registrations
  pub on : (r : Registration) → IsListed some r → IsListed m.family.ballots r
  pub back : (r : Registration) → IsListed m.family.ballots r → IsListed some r
  pub words : AllByRecursion (λ (o : Outward). IsRegisteredTo some.registrations o.to) m.words
  pub kept : IsKept s m.family.completion

abbrev pub Keeps : Family → Moved → Type 0
Keeps f m = AreKept f.rows f.ballots f.completion m

-- a rule keeps it of a family that is tidy
abbrev pub Rule : Family → Moved → Type 0
Rule f m = IsTidy f → Keeps f m

-- ---- all of a list

all_both : {A : Type 0} (P : A → Type 0) (xs ys : List A) → AllByRecursion P xs → AllByRecursion P ys → AllByRecursion P (xs ++ ys)
all_both P [] ys all also = also
all_both P (x ∷ xs) ys (one, all) also = (one, all_both P xs ys all also)

has_at : {A : Type 0} (xs : List A) (i : ℕ) (x : A) → slice_get xs i ≡ Some x → Contains xs x
has_at [] i x is = absurd cc
has_at (y ∷ xs) zero x is = (0, omega arith, inner is)
  where
    inner : {A : Type 0} {x y : A} → Some x ≡ Some y → x ≡ y
    inner e = cc
has_at (y ∷ xs) (suc i) x is = Contains-append_right (y ∷ []) xs x (has_at xs i x is)

numbered_one : (rs : List Registration) (i : ℕ) (r : Registration) → numbered rs i ≡ Some r → Contains rs r
numbered_one rs zero r is = absurd cc
numbered_one rs (suc i) r is = has_at rs i r is

and_one : (rs : List Registration) (o : Option Registration) (some : List Registration) → ((r : Registration) → o ≡ Some r → Contains rs r)
    → AllByRecursion (Contains rs) some → AllByRecursion (Contains rs) (cons_option o some)
and_one rs None some at all = all
and_one rs (Some r) some at all = (at r refl, all)

-- participants are registered
all_entered : (rs : List Registration) (numbers : List ℕ) → AllByRecursion (Contains rs) (filter_map (numbered rs) numbers)
all_entered rs [] = tt
all_entered rs (i ∷ numbers) = and_one rs (numbered rs i) (filter_map (numbered rs) numbers) (numbered_one rs i) (all_entered rs numbers)

-- ---- one thing after another

pub told_joined : (rs : List Row) (some others : List Effect) → rows_told (some ++ others) rs ≡ rows_told others (rows_told some rs)
told_joined rs [] others = refl
told_joined rs (effects.Voted g vote ∷ some) others = told_joined rs some others
told_joined rs (effects.Decided fixed ∷ some) others = told_joined rs some others
told_joined rs (effects.SubtransactionEnded b committed ∷ some) others = told_joined (ended rs b committed) some others
told_joined rs (effects.Marked b ∷ some) others = told_joined (marked rs b) some others
told_joined rs (effects.Doubted ∷ some) others = told_joined rs some others
told_joined rs (effects.Done ∷ some) others = told_joined rs some others

pub then_from : (rs : List Row) (some : Ballots) (s : Standing) (first : Moved) (next : Family → Moved) → AreKept rs some s first → Rule first.family (next first.family)
    → AreKept rs some s (first ▹ next)
then_from rs some s first next a other =
    let b = other a.tidy in
    let later : Moved = next first.family in
    record {
      tidy = b.tidy;
      rows = b.rows ∙ ap (λ (before : List Row). rows_told later.effects before) a.rows ∙ sym (told_joined rs first.effects later.effects);
      registrations = b.registrations ∙ a.registrations;
      on = λ r is. b.on r (a.on r is);
      back = λ r is. a.back r (b.back r is);
      words = all_both (λ (o : Outward). IsRegisteredTo some.registrations o.to) first.words later.words a.words
          (subst (λ (all : List Registration). AllByRecursion (λ (o : Outward). IsRegisteredTo all o.to) later.words) a.registrations b.words);
      kept = kept_further s first.family.completion later.family.completion a.kept b.kept;
    }

pub then_keeps : (f : Family) (first : Moved) (next : Family → Moved) → Rule f first → Rule first.family (next first.family) → Rule f (first ▹ next)
then_keeps f first next one other tidy = then_from f.rows f.ballots f.completion first next (one tidy) other

pub either_keeps : (f : Family) (t : Bool) (x y : Moved) → Rule f x → Rule f y → Rule f (if t then x else y)
either_keeps f true x y one other = one
either_keeps f false x y one other = other

-- ---- the simple rules

-- the calls alone change
calls_keep : (f : Family) (m : Moved) → m.family.rows ≡ rows_told m.effects f.rows → m.family.ballots ≡ f.ballots → m.family.completion ≡ f.completion
    → AllByRecursion (λ (o : Outward). IsRegisteredTo f.ballots.registrations o.to) m.words → (IsTidy f → AllDue f.ballots.registrations m.family.calls) → Rule f m
calls_keep f m rows ballots completion words dues tidy = record {
  tidy = record {
    below = λ b p is. tidy.below b p (sym (ap (λ (rs : List Row). parent rs b) rows ∙ rows_parents m.effects f.rows b) ∙ is);
    dues = subst (λ (x : Ballots). AllDue x.registrations m.family.calls) (sym ballots) (dues tidy);
    parties = subst (λ (s : Standing). ArePartiesOf m.family.ballots.registrations s) (sym completion)
        (subst (λ (x : Ballots). ArePartiesOf x.registrations f.completion) (sym ballots) tidy.parties);
    alone = ap (λ (x : Ballots). x.synchronizations) ballots ∙ tidy.alone;
    few = subst AreFew (sym ballots) tidy.few;
  };
  rows = rows;
  registrations = ap (λ (x : Ballots). x.registrations) ballots;
  on = λ r is. subst (λ (x : Ballots). IsListed x r) (sym ballots) is;
  back = λ r is. subst (λ (x : Ballots). IsListed x r) ballots is;
  words = words;
  kept = subst (λ (s : Standing). IsKept f.completion s) (sym completion) (kept_itself f.completion);
}

pub only_keeps : (f : Family) → Rule f (only f)
only_keeps f = calls_keep f (only f) refl refl refl tt (λ tidy. tidy.dues)

-- a call is put in its place, or taken away
pub called_set : (calls : List (Option Call)) (b d : ℕ) (o : Option Call) (c : Call) → called (slice_set calls b o) d ≡ Some c → (o ≡ Some c) ⊎ (called calls d ≡ Some c)
called_set [] b d o c is = inr is
called_set (z ∷ calls) zero zero o c is = inl is
called_set (z ∷ calls) zero (suc d) o c is = inr is
called_set (z ∷ calls) (suc b) zero o c is = inr is
called_set (z ∷ calls) (suc b) (suc d) o c is = called_set calls b d o c is

pub due_set : (rs : List Registration) (calls : List (Option Call)) (b : ℕ) (x : Call) → IsFit rs x → AllDue rs calls → AllDue rs (slice_set calls b (Some x))
due_set rs calls b x left all d c is = elim (called_set calls b d (Some x) c is) [
  | inl new ↦ subst (IsFit rs) (inner new) left
  | inr was ↦ all d c was
]
  where
    inner : {y z : Call} → Some y ≡ Some z → y ≡ z
    inner e = cc

pub due_gone : (rs : List Registration) (calls : List (Option Call)) (b : ℕ) → AllDue rs calls → AllDue rs (slice_set calls b None)
due_gone rs calls b all d c is = elim (called_set calls b d None c is) [
  | inl new ↦ absurd (no new)
  | inr was ↦ all d c was
]
  where
    no : {y : Call} → None ≡ Some y → ⊥
    no e = cc

waits_keep : (b : ℕ) (c : Call) (f : Family) → IsFit f.ballots.registrations c → Rule f (waits b c f)
waits_keep b c f left = calls_keep f (waits b c f) refl refl refl tt (λ tidy. due_set f.ballots.registrations f.calls b c left tidy.dues)

ends_keep : (b : ℕ) (c : Call) (answer : Said) (f : Family) → Rule f (ends_call b c answer f)
unfolding ends_call
ends_keep b c answer f = calls_keep f (ends_call b c answer f) refl refl refl tt (λ tidy. due_gone f.ballots.registrations f.calls b tidy.dues)

sends_keep : (b : ℕ) (c : Call) (n : Notice) (receipt : Option Receipt) (f : Family) → IsFit f.ballots.registrations c
    → IsRegisteredTo f.ballots.registrations n.to → Rule f (sends b c n receipt f)
unfolding sends
sends_keep b c n receipt f left to =
    calls_keep f (sends b c n receipt f) refl refl refl (to, tt) (λ tidy. due_set f.ballots.registrations f.calls b (record c { out = Some (f.serial + 1) }) left tidy.dues)

-- ---- the completion goes on

pub fixed_rows : (rs : List Row) (a b : Option Outcome) → rs ≡ rows_told (fixed_now a b) rs
fixed_rows rs None None = refl
fixed_rows rs None (Some fixed) = refl
fixed_rows rs (Some fixed) b = refl

pub completes_keep : (later : Standing) (f : Family) → IsKept f.completion later
    → (ArePartiesOf f.ballots.registrations f.completion → ArePartiesOf f.ballots.registrations later) → Rule f (completes_as later f)
unfolding completes_as
completes_keep later f kept parties tidy = record {
  tidy = record { below = tidy.below; dues = tidy.dues; parties = parties tidy.parties; alone = tidy.alone; few = tidy.few };
  rows = fixed_rows f.rows (stages.outcome f.completion) (stages.outcome later);
  registrations = refl;
  on = λ r is. is;
  back = λ r is. is;
  words = tt;
  kept = kept;
}

-- what one answers that was asked alone is no record
not_answered : (i : ℕ) (h : Heard) → by_answer i h ≡ outcomes.Commit Record → ⊥
not_answered i phase_hears.Done is = cc
not_answered i (phase_hears.Voted vote) is = cc
not_answered i (phase_hears.Heuristic d) is = cc
not_answered i phase_hears.RolledBack is = cc
not_answered i phase_hears.NotPrepared is = cc
not_answered i phase_hears.NoObject is = cc
not_answered i phase_hears.Other is = cc
not_answered i phase_hears.Lost is = cc
not_answered i phase_hears.Starved is = cc

some_outcome : {a b : Outcome} → Some a ≡ Some b → a ≡ b
some_outcome is = cc

by_ballot_not : (i : ℕ) (o : Option Heard) → option_map (by_answer i) o ≡ Some (outcomes.Commit Record) → ⊥
by_ballot_not i (Some h) is = not_answered i h (some_outcome is)
by_ballot_not i None is = cc

by_one_not : (o : Option Party) → course.by_one o ≡ Some (outcomes.Commit Record) → ⊥
by_one_not (Some p) is = by_ballot_not p.index p.ballot is
by_one_not None is = cc

refusal_not : (i : ℕ) (o : Option Heard) → option_map (λ (h : Heard). outcomes.Rollback (reason_of i h)) o ≡ Some (outcomes.Commit Record) → ⊥
refusal_not i (Some h) is = cc
refusal_not i None is = cc

-- where the journal has told nothing, no record decides
rest_not : (all some : Bool) (stood : Option Stood) (reread : Option (Option ℕ)) → stood ≡ None
    → (if not all then None else if some then course.by_record stood reread else Some (outcomes.Commit Nobody)) ≡ Some (outcomes.Commit Record) → ⊥
rest_not false some stood reread none is = cc
rest_not true true None reread none is = cc
rest_not true true (Some x) reread none is = absurd cc
rest_not true false stood reread none is = cc

votes_not : (k : Course) (o : Option Party) → k.stood ≡ None
    → (elim o as (λ _. Option Outcome) [
      | Some p ↦ course.by_refusal p
      | None ↦ if not (course.all_consent k) then None else if course.some_commit k then course.by_record k.stood k.reread else Some (outcomes.Commit Nobody)
    ]) ≡ Some (outcomes.Commit Record) → ⊥
votes_not k (Some p) none is = refusal_not p.index p.ballot is
votes_not k None none is = rest_not (course.all_consent k) (course.some_commit k) k.stood k.reread none is

either_not : (t : Bool) (x y : Option Outcome) → (x ≡ Some (outcomes.Commit Record) → ⊥) → (y ≡ Some (outcomes.Commit Record) → ⊥)
    → (if t then x else y) ≡ Some (outcomes.Commit Record) → ⊥
either_not true x y one other is = one is
either_not false x y one other is = other is

overtaken_not : (o : Option Reason) (x : Option Outcome) → (x ≡ Some (outcomes.Commit Record) → ⊥)
    → (elim o as (λ _. Option Outcome) [ Some reason ↦ Some (outcomes.Rollback reason) | None ↦ x ]) ≡ Some (outcomes.Commit Record) → ⊥
overtaken_not (Some reason) x other is = cc
overtaken_not None x other is = other is

pub no_record : (k : Course) → k.stood ≡ None → course.outcome k ≡ Some (outcomes.Commit Record) → ⊥
unfolding course.outcome
no_record k none is =
    overtaken_not k.overtaken (if course.decides_alone k then course.by_one (slice_get k.parties 0) else course.by_votes k)
    (either_not (course.decides_alone k) (course.by_one (slice_get k.parties 0)) (course.by_votes k) (by_one_not (slice_get k.parties 0))
    (votes_not k (course.first_refuser k.parties) none)) is

-- nobody has voted in one that begins
none_voted : (rs : List Registration) (g : ℕ) (vote : Vote) → Any (HasVote g vote) (map party_of rs) → ⊥
none_voted rs g vote h = go rs h.0 h.2 h.3
  where
    go : (rs : List Registration) (i : ℕ) → i < length (map party_of rs) → get_or (map party_of rs) i h.1 ≡ h.1 → ⊥
    go [] i l e = absurd (omega (arith, l))
    go (r ∷ rs) zero l e = absurd (cc (ap (λ (p : Party). p.ballot) e ∙ h.4.1))
    go (r ∷ rs) (suc i) l e = go rs i (omega (arith, l)) e

-- so no decision is wanted
none_commits : (some : List Registration) → list_any has_voted_commit (map party_of some) ≡ false
none_commits [] = refl
none_commits (r ∷ some) = none_commits some

none_last : (a b c d : Bool) → (a && b && c && d && false) ≡ false
none_last false b c d = refl
none_last true false c d = refl
none_last true true false d = refl
none_last true true true false = refl
none_last true true true true = refl

begun_wants : (k : Course) (some : List Registration) → k.parties ≡ map party_of some → course.wants_decision k ≡ false
unfolding course.some_commit
begun_wants k some parties =
    ap (λ (b : Bool). not (course.decides_alone k) && is_none k.overtaken && is_none k.stood && course.all_consent k && b)
    (ap (list_any has_voted_commit) parties ∙ none_commits some)
    ∙ none_last (not (course.decides_alone k)) (is_none k.overtaken) (is_none k.stood) (course.all_consent k)

-- a completion that begins here, by asking or for such a reason
pub kept_begun : (s : Standing) (k : Course) (some : List Registration) → k.parties ≡ map party_of some → k.stood ≡ None
    → ((why : Reason) → course.outcome k ≡ Some (outcomes.Rollback why) → IsPlainReason why) → IsKept s (begun s (UnderWay k))
kept_begun (Waiting room) k some parties none plain = record {
  voted = λ g vote is. absurd is;
  votes = λ g vote is. none_voted some g vote (subst (λ (ps : List Party). Any (HasVote g vote) ps) parties is);
  commits = λ is. absurd (no_record k none is);
  reasons = λ why is. inr (plain why is);
  wants = λ is. begun_wants k some parties;
  decides = λ asking is. absurd asking;
}
kept_begun (UnderWay old) k some parties none plain = kept_itself (UnderWay old)

-- ---- why a completion that begins is rolled back

-- nobody has refused
none_refused : (some : List Registration) → find has_refused (map party_of some) ≡ None
none_refused [] = refl
none_refused (r ∷ some) = none_refused some

votes_plain : (k : Course) (o : Option Party) (why : Reason) → o ≡ None → k.stood ≡ None
    → (elim o as (λ _. Option Outcome) [
      | Some p ↦ course.by_refusal p
      | None ↦ if not (course.all_consent k) then None else if course.some_commit k then course.by_record k.stood k.reread else Some (outcomes.Commit Nobody)
    ]) ≡ Some (outcomes.Rollback why) → ⊥
votes_plain k (Some p) why none stood is = absurd cc
votes_plain k None why none stood is = rest (course.all_consent k) (course.some_commit k) k.stood stood is
  where
    rest : (all any : Bool) (x : Option Stood) → x ≡ None
        → (if not all then None else if any then course.by_record x k.reread else Some (outcomes.Commit Nobody)) ≡ Some (outcomes.Rollback why) → ⊥
    rest false any x none is = cc
    rest true true None none is = cc
    rest true true (Some y) none is = absurd cc
    rest true false x none is = cc

one_plain : (some : List Registration) (ps : List Party) (why : Reason) → ps ≡ map party_of some → course.by_one (slice_get ps 0) ≡ Some (outcomes.Rollback why) → ⊥
one_plain [] ps why same is = absurd (no (sym (ap (λ (x : List Party). course.by_one (slice_get x 0)) same) ∙ is))
  where
    no : ◌≡◌ {A = Option Outcome} None (Some (outcomes.Rollback why)) → ⊥
    no e = cc
one_plain (r ∷ some) ps why same is = absurd (no (sym (ap (λ (x : List Party). course.by_one (slice_get x 0)) same) ∙ is))
  where
    no : ◌≡◌ {A = Option Outcome} None (Some (outcomes.Rollback why)) → ⊥
    no e = cc

either_why : (t : Bool) (x y : Option Outcome) (why : Reason) → (x ≡ Some (outcomes.Rollback why) → ⊥) → (y ≡ Some (outcomes.Rollback why) → ⊥)
    → (if t then x else y) ≡ Some (outcomes.Rollback why) → ⊥
either_why true x y why one other is = one is
either_why false x y why one other is = other is

overtaken_why : (o : Option Reason) (x : Option Outcome) (why : Reason) → (x ≡ Some (outcomes.Rollback why) → ⊥)
    → (elim o as (λ _. Option Outcome) [ Some reason ↦ Some (outcomes.Rollback reason) | None ↦ x ]) ≡ Some (outcomes.Rollback why) → o ≡ Some why
overtaken_why (Some reason) x why other is = ap (λ (y : Reason). Some y) (inner is)
  where
    inner : {a b : Reason} → Some (outcomes.Rollback a) ≡ Some (outcomes.Rollback b) → a ≡ b
    inner e = cc
overtaken_why None x why other is = absurd (other is)

-- it was overtaken for that reason
begun_why : (k : Course) (some : List Registration) (why : Reason) → k.parties ≡ map party_of some → k.stood ≡ None → course.outcome k ≡ Some (outcomes.Rollback why)
    → k.overtaken ≡ Some why
unfolding course.outcome course.first_refuser
begun_why k some why parties stood is =
    overtaken_why k.overtaken (if course.decides_alone k then course.by_one (slice_get k.parties 0) else course.by_votes k) why
    (either_why (course.decides_alone k) (course.by_one (slice_get k.parties 0)) (course.by_votes k) why (one_plain some k.parties why parties)
    (votes_plain k (find has_refused k.parties) why (ap (find has_refused) parties ∙ none_refused some) stood)) is

asked_plain : (some : List Registration) (asked : Bool) (n : CallNumber) (one : Bool) (why : Reason) → course.outcome (course.begun some asked n one) ≡ Some (outcomes.Rollback why)
    → IsPlainReason why
asked_plain some asked n one why is = absurd (no (begun_why (course.begun some asked n one) some why refl refl is))
  where
    no : None ≡ Some why → ⊥
    no e = cc

overtaken_plain : (t : Bool) (reason why : Reason) → IsPlainReason reason → (if t then Some reason else None) ≡ Some why → IsPlainReason why
overtaken_plain true reason why plain is = subst IsPlainReason (inner is) plain
  where
    inner : {a b : Reason} → Some a ≡ Some b → a ≡ b
    inner e = cc
overtaken_plain false reason why plain is = absurd cc

rolled_plain : (some : List Registration) (asked : Bool) (n : CallNumber) (one : Bool) (reason why : Reason) → IsPlainReason reason
    → course.outcome (course.begun_rollback some asked n one reason) ≡ Some (outcomes.Rollback why) → IsPlainReason why
rolled_plain some asked n one reason why plain is =
    overtaken_plain (course.is_outside reason) reason why plain (begun_why (course.begun_rollback some asked n one reason) some why refl refl is)

parties_begun : (rs : List Registration) (some : List Registration) → AllByRecursion (Contains rs) some → AllByRecursion (λ (p : Party). IsRegisteredTo rs p.to) (map party_of some)
parties_begun rs [] all = tt
parties_begun rs (r ∷ some) (one, all) = (record { r = r; there = one; leads = refl }, parties_begun rs some all)

pub registered_of : (f : Family) (b : ℕ) → AllByRecursion (Contains f.ballots.registrations) (participants b f.ballots)
registered_of f b = all_entered f.ballots.registrations (list_at f.ballots.lists b)

begun_parties : (rs : List Registration) (s first : Standing) → ArePartiesOf rs first → ArePartiesOf rs s → ArePartiesOf rs (begun s first)
begun_parties rs (Waiting room) first of was = of
begun_parties rs (UnderWay k) first of was = was

asks_keep : (asked : Bool) (f : Family) → Rule f (begins (asking asked f) f)
unfolding begins
asks_keep asked f =
    completes_keep (begun f.completion (asking asked f)) (record f { stage = Completing })
    (kept_begun f.completion (course.begun (asked_ones f) asked (number_of f 1) (is_none f.superior)) (asked_ones f) refl refl
    (asked_plain (asked_ones f) asked (number_of f 1) (is_none f.superior)))
    (begun_parties f.ballots.registrations f.completion (asking asked f) (parties_begun f.ballots.registrations (asked_ones f) (registered_of f 0)))

pub rolls_keep : (asked : Bool) (reason : Reason) (f : Family) → IsPlainReason reason → Rule f (begins (rolling_back asked reason f) f)
unfolding begins
rolls_keep asked reason f plain =
    completes_keep (begun f.completion (rolling_back asked reason f)) (record f { stage = Completing })
    (kept_begun f.completion (course.begun_rollback (asked_ones f) asked (number_of f 1) (is_none f.superior) reason) (asked_ones f) refl refl
    (λ why is. rolled_plain (asked_ones f) asked (number_of f 1) (is_none f.superior) reason why plain is))
    (begun_parties f.ballots.registrations f.completion (rolling_back asked reason f) (parties_begun f.ballots.registrations (asked_ones f) (registered_of f 0)))

-- ---- the top-level transaction ends

finishes_keep : (c : Call) (fixed : Outcome) (f : Family) → Rule f (finishes c fixed f)
unfolding finishes
finishes_keep c fixed f = ends_keep 0 c _ (record f { stage = Over })

either_none : (t : Bool) (o : Option Registration) → o ≡ None → (if t then o else None) ≡ None
either_none true o none = none
either_none false o none = refl

none_told : (f : Family) (fixed : Outcome) (so_many : ℕ) → f.ballots.synchronizations ≡ [] → next_told f fixed so_many ≡ None
none_told f fixed so_many none = either_none (tells_synchronizations f.completion fixed) (next_synchronization f so_many) (ap (λ (rs : List Registration). slice_get rs so_many) none)

afterwards_keep : (so_many : ℕ) (c : Call) (fixed : Outcome) (f : Family) → Rule f (afterwards so_many c fixed f)
unfolding afterwards
afterwards_keep so_many c fixed f tidy =
    subst (λ (o : Option Registration). Keeps f (tells_next o so_many c fixed f)) (sym (none_told f fixed so_many tidy.alone)) (finishes_keep c fixed f tidy)

rests_keep : (c : Call) (o : Option Outcome) (f : Family) → IsFit f.ballots.registrations c → Rule f (rests c o f)
rests_keep c (Some fixed) f left = afterwards_keep 0 c fixed f
rests_keep c None f left = waits_keep 0 c f left

-- the next word of a completion goes to one that takes part
either_course : (P : Course → Type 0) (t : Bool) (x y : Course) → P x → P y → P (if t then x else y)
either_course P true x y one other = one
either_course P false x y one other = other

next_outcome : (k : Course) → course.outcome (course.after_next k) ≡ course.outcome k
unfolding course.outcome course.all_consent course.some_commit
next_outcome k = either_course (λ (x : Course). course.outcome x ≡ course.outcome k) (is_some k.out) k (record k { out = course.errand k }) refl refl

next_wants : (k : Course) → course.wants_decision k ≡ course.wants_decision (course.after_next k)
unfolding course.all_consent course.some_commit
next_wants k = either_course (λ (x : Course). course.wants_decision k ≡ course.wants_decision x) (is_some k.out) k (record k { out = course.errand k }) refl refl

next_kept : (k : Course) → IsKept (UnderWay k) (UnderWay (course.after_next k))
next_kept k = record {
  voted = λ g vote is. either_course (λ (x : Course). IsVoted (UnderWay x) g vote) (is_some k.out) k (record k { out = course.errand k }) is is;
  votes = either_course (λ (x : Course). (g : ℕ) (vote : Vote) → IsVoted (UnderWay x) g vote → IsVoted (UnderWay k) g vote) (is_some k.out) k
      (record k { out = course.errand k }) (λ g vote is. is) (λ g vote is. is);
  commits = λ is. sym (next_outcome k) ∙ is;
  reasons = λ why is. inl (sym (next_outcome k) ∙ is);
  wants = λ is. sym (next_wants k) ∙ is;
  decides = λ asking is. either_course (λ (x : Course). IsAsking (UnderWay x) × (course.decides_alone x ≡ true)) (is_some k.out) k
      (record k { out = course.errand k }) (asking, is) (asking, is);
}

party_to : (k : Course) (e : Errand) (o : Option Party) (w : Outward) → slice_get k.parties e.place ≡ o → option_map (course.outward k (course.word_of k e.stage)) o ≡ Some w
    → (p : Party) × (slice_get k.parties e.place ≡ Some p) × (p.to ≡ w.to)
party_to k e (Some p) w at is = (p, at, ap (λ (x : Outward). x.to) (inner is))
  where
    inner : {x y : Outward} → Some x ≡ Some y → x ≡ y
    inner e = cc
party_to k e None w at is = absurd cc

errand_to : (k : Course) (o : Option Errand) (w : Outward) → option_and_then (course.outward_of k) o ≡ Some w
    → (i : ℕ) × (p : Party) × (slice_get k.parties i ≡ Some p) × (p.to ≡ w.to)
errand_to k (Some e) w is = let at = party_to k e (slice_get k.parties e.place) w refl is in (e.place, at.0, at.1, at.2)
errand_to k None w is = absurd cc

out_or_not : (t : Bool) (x : Option Outward) (w : Outward) → (if t then None else x) ≡ Some w → x ≡ Some w
out_or_not true x w is = absurd cc
out_or_not false x w is = is

at_place : {A : Type 0} (P : A → Type 0) (xs : List A) (i : ℕ) (x : A) → slice_get xs i ≡ Some x → AllByRecursion P xs → P x
at_place P [] i x is all = absurd cc
at_place {A = A} P (y ∷ xs) zero x is (one, all) = subst P (inner is) one
  where
    inner : {y z : A} → Some y ≡ Some z → y ≡ z
    inner e = cc
at_place P (y ∷ xs) (suc i) x is (one, all) = at_place P xs i x is all

next_to : (rs : List Registration) (k : Course) (w : Outward) → course.next_word k ≡ Some w → ArePartiesOf rs (UnderWay k) → IsRegisteredTo rs w.to
unfolding course.next_word
next_to rs k w is parties =
    let at = errand_to k (course.errand k) w (out_or_not (is_some k.out) (option_and_then (course.outward_of k) (course.errand k)) w is) in
    let r = at_place (λ (p : Party). IsRegisteredTo rs p.to) k.parties at.0 at.1 at.2 parties in
    record { r = r.r; there = r.there; leads = r.leads ∙ at.3 }

next_parties : (rs : List Registration) (k : Course) → ArePartiesOf rs (UnderWay k) → ArePartiesOf rs (UnderWay (course.after_next k))
next_parties rs k parties = either_course (λ (x : Course). ArePartiesOf rs (UnderWay x)) (is_some k.out) k (record k { out = course.errand k }) parties parties

-- a completion that is as before another one keeps what that keeps
sent_keeps : (k : Course) (o : Option Outward) → course.next_word k ≡ o → (c : Call) (f : Family) → IsFit f.ballots.registrations c
    → Rule (record f { completion = UnderWay k }) (decides_by o c (record f { completion = UnderWay k }))
sent_keeps k (Some w) next c f left tidy =
    let later : Family = record f { completion = UnderWay (course.after_next k) } in
    let tidy_later : IsTidy later = record { below = tidy.below; dues = tidy.dues; parties = next_parties f.ballots.registrations k tidy.parties; alone = tidy.alone; few = tidy.few } in
    let sent = sends_keep 0 c _ w.receipt later left (next_to f.ballots.registrations k w next tidy.parties) tidy_later in
    record {
      tidy = sent.tidy;
      rows = sent.rows;
      registrations = sent.registrations;
      on = sent.on;
      back = sent.back;
      words = sent.words;
      kept = kept_further (UnderWay k) (UnderWay (course.after_next k)) _ (next_kept k) sent.kept;
    }
sent_keeps k None next c f left tidy = rests_keep c (course.outcome k) (record f { completion = UnderWay k }) left tidy

decides_from : (s : Standing) (c : Call) (f : Family) → IsFit f.ballots.registrations c → Rule (record f { completion = s }) (decides c (record f { completion = s }))
unfolding decides
decides_from (Waiting room) c f left = rests_keep (record c { leg = Deciding }) None (record f { completion = Waiting room }) (left.0, tt)
decides_from (UnderWay k) c f left = sent_keeps k (course.next_word k) refl (record c { leg = Deciding }) f (left.0, tt)

decides_keep : (c : Call) (f : Family) → IsFit f.ballots.registrations c → Rule f (decides c f)
decides_keep c f left = decides_from f.completion c f left

calls_next_keep : (o : Option Registration) (so_many : ℕ) (c : Call) (f : Family) → o ≡ None → IsFit f.ballots.registrations c → Rule f (calls_next o so_many c f)
calls_next_keep (Some r) so_many c f none left tidy = absurd cc
calls_next_keep None so_many c f none left tidy =
    then_keeps f (begins (asking (asked_of c.aim) f) f) (decides c) (asks_keep (asked_of c.aim) f)
    (decides_keep c (begins (asking (asked_of c.aim) f) f).family (subst (λ (rs : List Registration). IsFit rs c) (sym (asks_keep (asked_of c.aim) f tidy).registrations) left)) tidy

gives_up_keep : (reason : Reason) (c : Call) (f : Family) → IsPlainReason reason → IsFit f.ballots.registrations c → Rule f (gives_up reason c f ▹ decides c)
gives_up_keep reason c f plain left tidy =
    then_keeps f (gives_up reason c f) (decides c) (rolls_keep (asked_of c.aim) reason f plain)
    (decides_keep c (gives_up reason c f).family (subst (λ (rs : List Registration). IsFit rs c) (sym (rolls_keep (asked_of c.aim) reason f plain tidy).registrations) left)) tidy

before_keep : (so_many : ℕ) (c : Call) (f : Family) → IsFit f.ballots.registrations c → Rule f (before so_many c f)
unfolding before
before_keep so_many c f left tidy =
    either_keeps f (is_marked f 0) _ _ (gives_up_keep reasons.Marked c f tt left)
    (calls_next_keep (next_synchronization f so_many) so_many c f (ap (λ (rs : List Registration). slice_get rs so_many) tidy.alone) left) tidy

-- ---- a call goes on

-- all that is left to tell, once one was told
tells_first_keep : (some : List Duty) (b : ℕ) (c : Call) (next : Family → Moved) (f : Family) → AreDue f.ballots.registrations some → IsNotBefore c.leg → Rule f (next f)
    → Rule f (tells_first some b c next f)
tells_first_keep [] b c next f left leg rule = rule
tells_first_keep (d ∷ others) b c next f left leg rule =
    sends_keep b (record c { left = others }) (duty_notice d) None f (left.1, leg) (record { r = d.resource; there = left.0; leads = refl })

joined : ℕ → ℕ → Family → Family
joined b p f = record f { rows = ended f.rows b true; ballots = adopted b p f.ballots }

-- ---- who is listed when a subtransaction's list passes to its parent

same_or_not : (a b : ℕ) → (a ≡ b) ⊎ (a ≢ b)
same_or_not a b = grind arith

set_here : (lists : List (List ℕ)) (b : ℕ) (xs : List ℕ) → b < length lists → list_at (slice_set lists b xs) b ≡ xs
set_here [] b xs less = absurd (omega (arith, less))
set_here (y ∷ lists) zero xs less = refl
set_here (y ∷ lists) (suc b) xs less = set_here lists b xs (omega (arith, less))

as_long : (lists : List (List ℕ)) (b : ℕ) (xs : List ℕ) → length (slice_set lists b xs) ≡ length lists
as_long lists b xs = grind (arith, common_steps)

nobody : (rs : List Registration) (r : Registration) → Contains [] r → ⊥
nobody rs r (i, less, is) = omega (arith, less)

has_list : (some : Ballots) (b : ℕ) (r : Registration) → Contains (participants b some) r → b < length some.lists
has_list some b r h = go some.lists b h
  where
    go : (lists : List (List ℕ)) (b : ℕ) → Contains (filter_map (numbered some.registrations) (list_at lists b)) r → b < length lists
    go [] b h = let l = h.1 in absurd (omega (arith, l))
    go (x ∷ lists) zero h = omega arith
    go (x ∷ lists) (suc b) h = let l = go lists b h in omega (arith, l)

adopted_at : (some : Ballots) (child above : ℕ) → above < length some.lists
    → participants above (adopted child above some) ≡ participants above some ++ participants child some
adopted_at some child above less =
    let long = as_long some.lists child [] in
    ap (λ (xs : List ℕ). filter_map (numbered some.registrations) xs)
    (set_here (slice_set some.lists child []) above (list_at some.lists above ++ list_at some.lists child) (omega (arith, less, long)))
    ∙ filter_map-append (numbered some.registrations) (list_at some.lists above) (list_at some.lists child)

adopted_elsewhere : (some : Ballots) (child above b : ℕ) → b ≢ above → b ≢ child → participants b (adopted child above some) ≡ participants b some
adopted_elsewhere some child above b other another =
    ap (λ (xs : List ℕ). filter_map (numbered some.registrations) xs)
    (get_or-set_other (slice_set some.lists child []) above b (list_at some.lists above ++ list_at some.lists child) [] other
    ∙ get_or-set_other some.lists child b [] [] another)

adopted_child : (some : Ballots) (child above : ℕ) → above < child → participants child (adopted child above some) ≡ []
adopted_child some child above less =
    ap (λ (xs : List ℕ). filter_map (numbered some.registrations) xs)
    (get_or-set_other (slice_set some.lists child []) above child (list_at some.lists above ++ list_at some.lists child) [] (λ e. omega (arith, less, e))
    ∙ emptied some.lists child)
  where
    emptied : (lists : List (List ℕ)) (b : ℕ) → list_at (slice_set lists b []) b ≡ []
    emptied [] b = refl
    emptied (y ∷ lists) zero = refl
    emptied (y ∷ lists) (suc b) = emptied lists b

adopted_on : (some : Ballots) (child above : ℕ) → above < child → (r : Registration) → IsListed some r → IsListed (adopted child above some) r
adopted_on some child above less r is = elim (same_or_not is.branch child) [
  | inl e ↦ of_child (subst (λ (b : ℕ). Contains (participants b some) r) e is.there)
  | inr other ↦ elim (same_or_not is.branch above) [
    | inl e ↦ of_above (subst (λ (b : ℕ). Contains (participants b some) r) e is.there)
    | inr another ↦ record {
      branch = is.branch;
      there = subst (λ (rs : List Registration). Contains rs r) (sym (adopted_elsewhere some child above is.branch another other)) is.there;
    }
  ]
]
  where
    joined_one : above < length some.lists → Contains (participants above some ++ participants child some) r → IsListed (adopted child above some) r
    joined_one there c = record { branch = above; there = subst (λ (rs : List Registration). Contains rs r) (sym (adopted_at some child above there)) c }

    of_above : Contains (participants above some) r → IsListed (adopted child above some) r
    of_above c = joined_one (has_list some above r c) (Contains-append_left (participants above some) (participants child some) r c)

    of_child : Contains (participants child some) r → IsListed (adopted child above some) r
    of_child c = let l = has_list some child r c in joined_one (omega (arith, l, less)) (Contains-append_right (participants above some) (participants child some) r c)

adopted_back : (some : Ballots) (child above : ℕ) → above < child → (r : Registration) → IsListed (adopted child above some) r → IsListed some r
adopted_back some child above less r is = elim (same_or_not is.branch child) [
  | inl e ↦ absurd (nobody [] r (subst (λ (rs : List Registration). Contains rs r) (adopted_child some child above less)
      (subst (λ (b : ℕ). Contains (participants b (adopted child above some)) r) e is.there)))
  | inr other ↦ elim (same_or_not is.branch above) [
    | inl e ↦ of_above (subst (λ (b : ℕ). Contains (participants b (adopted child above some)) r) e is.there)
    | inr another ↦ record { branch = is.branch; there = subst (λ (rs : List Registration). Contains rs r) (adopted_elsewhere some child above is.branch another other) is.there }
  ]
]
  where
    either_list : Contains (participants above some) r ⊎ Contains (participants child some) r → IsListed some r
    either_list (inl c) = record { branch = above; there = c }
    either_list (inr c) = record { branch = child; there = c }

    of_above : Contains (participants above (adopted child above some)) r → IsListed some r
    of_above c =
        let l : above < length some.lists = subst (λ (n : ℕ). above < n) (as_long _ above _ ∙ as_long some.lists child []) (has_list (adopted child above some) above r c) in
        either_list (Contains-append_cases (participants above some) (participants child some) r (subst (λ (rs : List Registration). Contains rs r) (adopted_at some child above l) c))

-- ---- the end of a subtransaction

pub shows_keep : (x : Effect) (f g : Family) → g.rows ≡ rows_told (x ∷ []) f.rows → g.ballots ≡ f.ballots → g.completion ≡ f.completion → g.calls ≡ f.calls
    → Rule f (shows (x ∷ []) g)
shows_keep x f g rows ballots completion calls =
    calls_keep f (shows (x ∷ []) g) rows ballots completion tt (λ tidy. subst (λ (cs : List (Option Call)). AllDue f.ballots.registrations cs) (sym calls) tidy.dues)

joins_keep : (b p : ℕ) (f : Family) → p < b → Rule f (shows (effects.SubtransactionEnded b true ∷ []) (joined b p f))
unfolding joined
joins_keep b p f less tidy = record {
  tidy = record {
    below = λ c q is. tidy.below c q (sym (parent_set f.rows b c _ refl) ∙ is);
    dues = tidy.dues;
    parties = tidy.parties;
    alone = tidy.alone;
    few = adopted_few f.ballots b p less tidy.few;
  };
  rows = refl;
  registrations = refl;
  on = adopted_on f.ballots b p less;
  back = adopted_back f.ballots b p less;
  words = tt;
  kept = kept_itself f.completion;
}

-- who adopts is the parent
adopts : (live : Bool) (o : Option ℕ) (p : ℕ) → (if live then o else None) ≡ Some p → o ≡ Some p
adopts true o p is = is
adopts false o p is = absurd (cc is)

commits_up_keep : (b : ℕ) (o : Option ℕ) (c : Call) (f : Family) → adopter f.rows b ≡ o → IsFit f.ballots.registrations c → Rule f (commits_up b o c f)
unfolding commits_up joined
commits_up_keep b (Some p) c f up left tidy =
    then_keeps f (shows (effects.SubtransactionEnded b true ∷ []) (joined b p f)) (ends_call b c said.Plain) (joins_keep b p f (tidy.below b p (adopts (is_live_branch f.rows b) (parent f.rows b) p up)))
    (ends_keep b c said.Plain (joined b p f)) tidy
commits_up_keep b None c f up left tidy = waits_keep b c f left tidy

own_ends_keep : (aim : Aim) (b : ℕ) (c : Call) (f : Family) → IsFit f.ballots.registrations c → Rule f (own_ends aim b c f)
own_ends_keep (Commits asked) b c f left = commits_up_keep b (adopter f.rows b) c f refl left
own_ends_keep (RollsBack says) b c f left = ends_keep b c says f

due_map : (rs : List Registration) (ending : Ending) (some : List Registration) → AllByRecursion (Contains rs) some → AreDue rs (map (duty_to ending) some)
due_map rs ending [] all = tt
due_map rs ending (r ∷ some) (one, all) = (one, due_map rs ending some all)

all_filter : (rs : List Registration) (test : Registration → Bool) (some : List Registration) → AllByRecursion (Contains rs) some → AllByRecursion (Contains rs) (filter test some)
all_filter rs test [] all = tt
all_filter rs test (r ∷ some) (one, all) = by (test r) (all_filter rs test some all)
  where
    by : (t : Bool) → AllByRecursion (Contains rs) (filter test some) → AllByRecursion (Contains rs) (if t then r ∷ filter test some else filter test some)
    by true rest = (one, rest)
    by false rest = rest

all_itself : (rs some : List Registration) → ((r : Registration) → Contains some r → Contains rs r) → AllByRecursion (Contains rs) some
all_itself rs [] on = tt
all_itself rs (r ∷ some) on = (on r (0, omega arith, refl), all_itself rs some (λ x c. on x (Contains-append_right (r ∷ []) some x c)))

aware_due : (some : Ballots) (b : ℕ) (ending : Ending) → AreDue some.registrations (map (duty_to ending) (aware_of some b))
aware_due some b ending = due_map some.registrations ending (aware_of some b) (all_filter some.registrations _ some.registrations (all_itself some.registrations some.registrations (λ r c. c)))

undo_due : (some : Ballots) (b : ℕ) → AreDue some.registrations (undo_duties some b)
unfolding undo_duties
undo_due some b =
    all_both (λ (d : Duty). Contains some.registrations d.resource) (map (duty_to TellsRollback) (aware_of some b)) (map (duty_to RollsBackUpdates) (participants b some))
    (aware_due some b TellsRollback) (due_map some.registrations RollsBackUpdates (participants b some) (all_entered some.registrations (list_at some.lists b)))

commit_due : (some : Ballots) (b : ℕ) (o : Option ℕ) → AreDue some.registrations (commit_duties some b o)
unfolding commit_duties
commit_due some b (Some above) = aware_due some b (TellsCommit above)
commit_due some b None = tt

own_due : (aim : Aim) (b : ℕ) (f : Family) → AreDue f.ballots.registrations (own_duties aim b f)
own_due (Commits asked) b f = commit_due f.ballots b (parent f.rows b)
own_due (RollsBack says) b f = undo_due f.ballots b

tells_own_keep : (b : ℕ) (c : Call) (f : Family) → IsFit f.ballots.registrations c → Rule f (tells_own b c f)
unfolding tells_own
tells_own_keep b c f left = tells_first_keep (own_duties c.aim b f) b _ _ f (own_due c.aim b f) tt (own_ends_keep c.aim b (record c { leg = Own }) f (left.0, tt))

passes_top_keep : (stage : Stage) (c : Call) (f : Family) → IsFit f.ballots.registrations c → Rule f (passes_top stage c f)
passes_top_keep Going c f left = decides_keep c f left
passes_top_keep Finishing c f left = before_keep 0 c f left
passes_top_keep Completing c f left = decides_keep c f left
passes_top_keep Over c f left = decides_keep c f left

passes_keep : (b : ℕ) (c : Call) (f : Family) → IsFit f.ballots.registrations c → Rule f (passes b c f)
unfolding passes
passes_keep b c f left = either_keeps f (b == 0) _ _ (passes_top_keep f.stage c f left) (tells_own_keep b c f left)

left_below_due : (rs : List Registration) (leg : Leg) (c : Call) → AreDue rs c.left → AreDue rs (left_below leg c)
left_below_due rs Below c left = left
left_below_due rs Own c left = tt
left_below_due rs (Before so_many) c left = tt
left_below_due rs Deciding c left = tt
left_below_due rs (After so_many) c left = tt

left_by_due : (rs : List Registration) (o : Option Call) → ((c : Call) → o ≡ Some c → AreDue rs c.left) → AreDue rs (left_by o)
left_by_due rs (Some c) left = left_below_due rs c.leg c (left c refl)
left_by_due rs None left = tt

duties_below_due : (d : ℕ) (f : Family) → IsTidy f → AreDue f.ballots.registrations (duties_below d f)
duties_below_due d f tidy =
    all_both (λ (x : Duty). Contains f.ballots.registrations x.resource) (left_by (call_at f d)) (undo_duties f.ballots d)
    (left_by_due f.ballots.registrations (call_at f d) (λ c is. (tidy.dues d c is).0)) (undo_due f.ballots d)

ends_below_keep : (d : ℕ) (f : Family) → Rule f (ends_below d f)
unfolding ends_below
ends_below_keep d f = calls_keep f (ends_below d f) refl refl refl tt (λ tidy. due_gone f.ballots.registrations f.calls d tidy.dues)

sweeps_next_keep : (o : Option ℕ) (b : ℕ) (c : Call) (next : Family → Moved) → ((g : Family) → IsFit g.ballots.registrations c → Rule g (next g)) → (f : Family)
    → IsFit f.ballots.registrations c → Rule f (sweeps_next o b c next f)
unfolding ends_below
sweeps_next_keep (Some d) b c next all f left tidy =
    then_keeps f (ends_below d f) (tells_first (duties_below d f) b c next) (ends_below_keep d f)
    (tells_first_keep (duties_below d f) b c next (ends_below d f).family (duties_below_due d f tidy) left.1 (all (ends_below d f).family left)) tidy
sweeps_next_keep None b c next all f left tidy = passes_keep b c f left tidy

sweeps_keep : (n b : ℕ) (c : Call) (f : Family) → IsFit f.ballots.registrations c → Rule f (sweeps n b c f)
unfolding sweeps
sweeps_keep zero b c f left = passes_keep b c f left
sweeps_keep (suc n) b c f left = sweeps_next_keep (live_under f.rows b) b c (sweeps n b c) (sweeps_keep n b c) f left

tells_after_keep : (o : Option Outcome) (so_many : ℕ) (c : Call) (f : Family) → IsFit f.ballots.registrations c → Rule f (tells_after o so_many c f)
tells_after_keep (Some fixed) so_many c f left = afterwards_keep so_many c fixed f
tells_after_keep None so_many c f left = waits_keep 0 c f left

by_leg_keep : (leg : Leg) (b : ℕ) (c : Call) (f : Family) → IsFit f.ballots.registrations c → Rule f (by_leg leg b c f)
by_leg_keep Below b c f left = sweeps_keep (length f.rows) b c f left
by_leg_keep Own b c f left = own_ends_keep c.aim b c f left
by_leg_keep (Before so_many) b c f left = before_keep so_many c f left
by_leg_keep Deciding b c f left = decides_keep c f left
by_leg_keep (After so_many) b c f left = tells_after_keep (stages.outcome f.completion) so_many c f left

pub runs_keep : (b : ℕ) (c : Call) (f : Family) → IsFit f.ballots.registrations c → Rule f (runs b c f)
unfolding runs
runs_keep b c f left = either_keeps f (is_held b c f) _ _ (waits_keep b c f left) (tells_first_keep c.left b c _ f left.0 left.1 (by_leg_keep c.leg b c f left))

runs_call_keep : (o : Option Call) (b : ℕ) (f : Family) → call_at f b ≡ o → Rule f (runs_call o b f)
runs_call_keep (Some c) b f is tidy = runs_keep b c f (tidy.dues b c is) tidy
runs_call_keep None b f is tidy = only_keeps f tidy

-- the call of a branch goes on
pub goes_on_keep : (b : ℕ) (f : Family) → Rule f (goes_on b f)
unfolding goes_on
goes_on_keep b f = runs_call_keep (call_at f b) b f refl
