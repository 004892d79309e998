-- What a step of a family keeps that hears an answer by which nobody votes: one to a word that tells an outcome, or that was told of a
-- subtransaction.
use Rattle.std.proofs.Common.{◌≡◌, inl, ℕ, zero, suc, ◌<◌, ◌&&◌, ◌||◌, ◌==◌, Bool, true, false, not, cond, is_none, if◌then◌else◌, List, [], ◌∷◌, length, find, get_or, slice_get, slice_set, Any, Option, Some, None, refl, sym, ap, subst, ◌∙◌, arith}
use Rattle.std.specs.List.{AllByRecursion, list_all, list_any}
use Rattle.std.specs.Option.{option_and_then, option_map}
use Rattle.ots_model.specs.Heard.{of_participant}
use Rattle.ots_model.specs.declared.completion.CallNumber.{CallNumber}
use Rattle.ots_model.specs.declared.completion.Heard.{Heard as ParticipantHeard}
use Rattle.ots_model.specs.declared.completion.Heard.TheVariants as phase_hears
use Rattle.ots_model.specs.declared.completion.Stood.{Stood}
use Rattle.ots_model.specs.declared.completion.Ground.TheVariants.{Nobody}
use Rattle.ots_model.specs.declared.tree.Heard.{Heard}
use Rattle.ots_model.specs.Numbered.{Outcome}
use Rattle.ots_model.specs.declared.completion.Outcome.TheVariants as outcomes
use Rattle.ots_model.specs.declared.tree.Outward.{Outward}
use Rattle.ots_model.specs.declared.tree.Reason.{Reason}
use Rattle.resource_votes.specs.declared.registration.Registration.{Registration}
use Rattle.two_phase.specs.Course as course
use Rattle.two_phase.specs.Course.{Course}
use Rattle.two_phase.specs.Parties.{by_answer, has_consented, has_refused, has_voted_commit}
use Rattle.two_phase.specs.Stages as stages
use Rattle.two_phase.specs.Stages.{Standing, Waiting, Going as UnderWay}
use Rattle.two_phase.specs.declared.party.Errand.{Errand}
use Rattle.two_phase.specs.declared.party.Party.{Party}
use Rattle.two_phase.specs.declared.party.Stage.{Stage}
use Rattle.two_phase.specs.declared.party.Stage.TheVariants as rounds
use Rattle.txn_tree.specs.Rows.{parent}
use Rattle.coordinator.specs.declared.call.Leg.{Leg}
use Rattle.coordinator.specs.declared.call.Leg.TheVariants.{Below, Own, Before, Deciding, After}
use Rattle.coordinator.specs.declared.effect.Effect.{Effect}
use Rattle.coordinator.specs.declared.said.Said.{Said}
use Rattle.coordinator.specs.declared.said.Said.TheVariants as said
use Rattle.coordinator.specs.Family.{Family, Aim, Call, Commits, RollsBack, call_at, waiting_for, with_call}
use Rattle.coordinator.specs.Hearing.{hears_at, inner_number, is_plain, marks_parent, settles, told, told_commit, told_end, told_participant, vote_effects}
use Rattle.coordinator.specs.Moves.{◌▹◌, shows, completes_as}
use Rattle.coordinator.specs.Phases.{has_parent_ended}
use Rattle.coordinator.specs.Step.{Stepped, acted, answered, entered, family_step, goes_on_at, hears, hears_call, hears_for}
use Rattle.family_laws.specs.LawsOfTelling.{HasVote}
use Rattle.nodes_world.specs.Deliveries.{answer_event, heard_in}
use Rattle.nodes_world.specs.AgreementInside.{is_asking, is_asking_errand, is_asking_round}
use Rattle.nodes_world.proofs.KnownSeats.{as_long}
use Rattle.nodes_world.proofs.RulesKeep.{ArePartiesOf, IsKept, IsRegisteredTo, IsTidy, Rule, completes_keep, due_set, either_keeps, goes_on_keep, kept_itself, only_keeps, then_keeps}
use Rattle.nodes_world.proofs.StepsKeep.{StepKeeps, entered_keeps, marks_keep}

-- ---- a participant is another one, with the same vote

-- what is gathered from the participants
pub same_gathered : {A : Type 0} (gather : List Party → A) (with_one : Party → A → A) → ((x : Party) (xs : List Party) → gather (x ∷ xs) ≡ with_one x (gather xs))
    → (ps : List Party) (i : ℕ) (p q : Party) → slice_get ps i ≡ Some p → ((rest : A) → with_one q rest ≡ with_one p rest) → gather (slice_set ps i q) ≡ gather ps
same_gathered gather with_one steps [] i p q there same = refl
same_gathered gather with_one steps (x ∷ ps) zero p q there same =
    steps q ps ∙ same (gather ps) ∙ ap (λ (y : Party). with_one y (gather ps)) (sym (inner there)) ∙ sym (steps x ps)
  where
    inner : {a b : Party} → Some a ≡ Some b → a ≡ b
    inner e = cc
same_gathered gather with_one steps (x ∷ ps) (suc i) p q there same =
    steps x (slice_set ps i q) ∙ ap (with_one x) (same_gathered gather with_one steps ps i p q there same) ∙ sym (steps x ps)

pub any_set : (P : Party → Type 0) (ps : List Party) (i : ℕ) (p q : Party) → slice_get ps i ≡ Some p → (P p → P q) → Any P ps → Any P (slice_set ps i q)
any_set P ps i p q there turn any = go ps i there any.0 any.1 any.2 any.3 any.4
  where
    inner : {a b : Party} → Some a ≡ Some b → a ≡ b
    inner e = cc

    go : (ps : List Party) (i : ℕ) → slice_get ps i ≡ Some p → (j : ℕ) (x : Party) → j < length ps → get_or ps j x ≡ x → P x → Any P (slice_set ps i q)
    go [] i there j x less is so = absurd (omega (arith, less))
    go (y ∷ ps) zero there zero x less is so = (0, q, omega arith, refl, turn (subst P (sym is ∙ inner there) so))
    go (y ∷ ps) zero there (suc j) x less is so = (suc j, x, omega (arith, less), is, so)
    go (y ∷ ps) (suc i) there zero x less is so = (0, x, omega arith, is, so)
    go (y ∷ ps) (suc i) there (suc j) x less is so = let at = go ps i there j x (omega (arith, less)) is so in let l = at.2 in (suc at.0, at.1, omega (arith, l), at.3, at.4)

pub any_back : (P : Party → Type 0) (ps : List Party) (i : ℕ) (p q : Party) → slice_get ps i ≡ Some p → (P q → P p) → Any P (slice_set ps i q) → Any P ps
any_back P ps i p q there turn any = go ps i there any.0 any.1 any.2 any.3 any.4
  where
    inner : {a b : Party} → Some a ≡ Some b → a ≡ b
    inner e = cc

    go : (ps : List Party) (i : ℕ) → slice_get ps i ≡ Some p → (j : ℕ) (x : Party) → j < length (slice_set ps i q) → get_or (slice_set ps i q) j x ≡ x → P x → Any P ps
    go [] i there j x less is so = absurd (omega (arith, less))
    go (y ∷ ps) zero there zero x less is so = (0, y, omega arith, refl, subst P (sym (inner there)) (turn (subst P (sym is) so)))
    go (y ∷ ps) zero there (suc j) x less is so = (suc j, x, omega (arith, less), is, so)
    go (y ∷ ps) (suc i) there zero x less is so = (0, x, omega arith, is, so)
    go (y ∷ ps) (suc i) there (suc j) x less is so = let at = go ps i there j x (omega (arith, less)) is so in let l = at.2 in (suc at.0, at.1, omega (arith, l), at.3, at.4)

pub all_set : (P : Party → Type 0) (ps : List Party) (i : ℕ) (p q : Party) → slice_get ps i ≡ Some p → (P p → P q) → AllByRecursion P ps → AllByRecursion P (slice_set ps i q)
all_set P [] i p q there turn all = tt
all_set P (x ∷ ps) zero p q there turn (one, all) = (turn (subst P (inner there) one), all)
  where
    inner : {a b : Party} → Some a ≡ Some b → a ≡ b
    inner e = cc
all_set P (x ∷ ps) (suc i) p q there turn (one, all) = (one, all_set P ps i p q there turn all)

-- the outcome by the first that refuses, or this one
abbrev by_first : Option Outcome → Option Party → Option Outcome
by_first rest o = elim o as (λ _. Option Outcome) [ Some p ↦ course.by_refusal p | None ↦ rest ]

abbrev refused_or : Party → Option Outcome → Option Outcome
refused_or p rest = if has_refused p then course.by_refusal p else rest

refuses_first : (rest : Option Outcome) (x : Party) (xs : List Party) → by_first rest (find has_refused (x ∷ xs)) ≡ refused_or x (by_first rest (find has_refused xs))
refuses_first rest x xs = by (has_refused x)
  where
    by : (t : Bool) → by_first rest (cond t (Some x) (find has_refused xs)) ≡ (if t then course.by_refusal x else by_first rest (find has_refused xs))
    by true = refl
    by false = refl

module _ (k : Course) (i : ℕ) (p q : Party) (there : slice_get k.parties i ≡ Some p) (index : q.index ≡ p.index) (to : q.to ≡ p.to) (ballot : q.ballot ≡ p.ballot)
    (number : CallNumber) where
  abbrev j : Course
  j = record k { parties = slice_set k.parties i q; number = number; out = None }

  same_refusal : (rest : Option Outcome) → refused_or q rest ≡ refused_or p rest
  same_refusal rest =
      ap (λ (a : ℕ). refused_or (record q { index = a }) rest) index
      ∙ ap (λ (b : Option ParticipantHeard). refused_or (record q { index = p.index; ballot = b }) rest) ballot

  one_same : (ps : List Party) (i : ℕ) → slice_get ps i ≡ Some p → course.by_one (slice_get (slice_set ps i q) 0) ≡ course.by_one (slice_get ps 0)
  one_same [] i there = refl
  one_same (x ∷ ps) zero there = ap (λ (a : ℕ). option_map (by_answer a) q.ballot) index ∙ ap (option_map (by_answer p.index)) ballot ∙ ap (λ (o : Option Party). course.by_one o) (sym there)
  one_same (x ∷ ps) (suc i) there = refl

  refusal_same : (rest : Option Outcome) → by_first rest (find has_refused j.parties) ≡ by_first rest (find has_refused k.parties)
  refusal_same rest = same_gathered (λ (ps : List Party). by_first rest (find has_refused ps)) refused_or (refuses_first rest) k.parties i p q there same_refusal

  consent_same : list_all has_consented j.parties ≡ list_all has_consented k.parties
  consent_same = same_gathered (list_all has_consented) (λ (x : Party) (rest : Bool). has_consented x && rest) (λ x xs. refl) k.parties i p q there
      (λ rest. ap (λ (b : Option ParticipantHeard). has_consented (record p { ballot = b }) && rest) ballot)

  commit_same : list_any has_voted_commit j.parties ≡ list_any has_voted_commit k.parties
  commit_same = same_gathered (list_any has_voted_commit) (λ (x : Party) (rest : Bool). has_voted_commit x || rest) (λ x xs. refl) k.parties i p q there
      (λ rest. ap (λ (b : Option ParticipantHeard). has_voted_commit (record p { ballot = b }) || rest) ballot)

  alone_same : course.decides_alone j ≡ course.decides_alone k
  alone_same = ap (λ (n : ℕ). k.one_phase && n == 1) (as_long k.parties i q)

  abbrev rest_by : Bool → Bool → Option Outcome
  rest_by all some = if not all then None else if some then course.by_record k.stood k.reread else Some (outcomes.Commit Nobody)

  votes_same : course.by_votes j ≡ course.by_votes k
  unfolding course.first_refuser course.all_consent course.some_commit
  votes_same =
      refusal_same (rest_by (list_all has_consented j.parties) (list_any has_voted_commit j.parties))
      ∙ ap (λ (all : Bool). by_first (rest_by all (list_any has_voted_commit j.parties)) (find has_refused k.parties)) consent_same
      ∙ ap (λ (some : Bool). by_first (rest_by (list_all has_consented k.parties) some) (find has_refused k.parties)) commit_same

  abbrev by_overtaken : Option Outcome → Option Outcome
  by_overtaken o = elim k.overtaken as (λ _. Option Outcome) [ Some reason ↦ Some (outcomes.Rollback reason) | None ↦ o ]

  outcome_same : course.outcome j ≡ course.outcome k
  unfolding course.outcome
  outcome_same =
      ap (λ (t : Bool). by_overtaken (if t then course.by_one (slice_get j.parties 0) else course.by_votes j)) alone_same
      ∙ ap (λ (o : Option Outcome). by_overtaken (if course.decides_alone k then o else course.by_votes j)) (one_same k.parties i there)
      ∙ ap (λ (o : Option Outcome). by_overtaken (if course.decides_alone k then course.by_one (slice_get k.parties 0) else o)) votes_same

  wants_same : course.wants_decision j ≡ course.wants_decision k
  unfolding course.all_consent course.some_commit
  wants_same =
      ap (λ (t : Bool). not t && is_none k.overtaken && is_none k.stood && list_all has_consented j.parties && list_any has_voted_commit j.parties) alone_same
      ∙ ap (λ (t : Bool). not (course.decides_alone k) && is_none k.overtaken && is_none k.stood && t && list_any has_voted_commit j.parties) consent_same
      ∙ ap (λ (t : Bool). not (course.decides_alone k) && is_none k.overtaken && is_none k.stood && list_all has_consented k.parties && t) commit_same

  kept_other : IsKept (UnderWay k) (UnderWay j)
  kept_other = record {
    voted = λ g vote any. any_set (HasVote g vote) k.parties i p q there (λ h. (index ∙ h.0, ballot ∙ h.1)) any;
    votes = λ g vote any. any_back (HasVote g vote) k.parties i p q there (λ h. (sym index ∙ h.0, sym ballot ∙ h.1)) any;
    commits = λ is. sym outcome_same ∙ is;
    reasons = λ why is. inl (sym outcome_same ∙ is);
    wants = λ is. wants_same ∙ is;
    decides = λ asks is. (asks, alone_same ∙ is);
  }

  parties_other : (rs : List Registration) → ArePartiesOf rs (UnderWay k) → ArePartiesOf rs (UnderWay j)
  parties_other rs all = all_set (λ (x : Party). IsRegisteredTo rs x.to) k.parties i p q there (λ one. record { r = one.r; there = one.there; leads = one.leads ∙ sym to }) all

-- the answer to a word that asks nobody
pub other_answer : (h : ParticipantHeard) (round : Stage) (p : Party) → is_asking_round round ≡ false
    → ((course.heard_at round h p).index ≡ p.index) × ((course.heard_at round h p).to ≡ p.to) × ((course.heard_at round h p).ballot ≡ p.ballot)
other_answer h rounds.Asking p not_asked = absurd cc
other_answer h rounds.Telling p not_asked = (refl, refl, refl)
other_answer h rounds.Forgetting p not_asked = (refl, refl, refl)

-- what is kept of a completion, and of its participants; and its outcome is as it was
abbrev Goes : Standing → Standing → Type 0
Goes s t = IsKept s t × ((rs : List Registration) → ArePartiesOf rs s → ArePartiesOf rs t) × (stages.outcome t ≡ stages.outcome s)

goes_nowhere : (s : Standing) → Goes s s
goes_nowhere s = (kept_itself s, λ rs of. of, refl)

-- the outcome by what is heard alone
abbrev rest_of : List Party → Option Stood → Option (Option ℕ) → Option Outcome
rest_of ps stood reread =
    if not (list_all has_consented ps) then None else if list_any has_voted_commit ps then course.by_record stood reread else Some (outcomes.Commit Nobody)

abbrev outcome_of : List Party → Bool → Option Reason → Option Stood → Option (Option ℕ) → Option Outcome
outcome_of ps one_phase overtaken stood reread = elim overtaken as (λ _. Option Outcome) [
  | Some reason ↦ Some (outcomes.Rollback reason)
  | None ↦ if one_phase && length ps == 1 then course.by_one (slice_get ps 0) else by_first (rest_of ps stood reread) (find has_refused ps)
]

outcome_form : (k : Course) → course.outcome k ≡ outcome_of k.parties k.one_phase k.overtaken k.stood k.reread
unfolding course.outcome course.first_refuser course.all_consent course.some_commit
outcome_form k = refl

out_same : (k : Course) (number : CallNumber) → course.outcome (record k { number = number; out = None }) ≡ course.outcome k
out_same k number = outcome_form (record k { number = number; out = None }) ∙ sym (outcome_form k)

wants_out : (k : Course) (number : CallNumber) → course.wants_decision (record k { number = number; out = None }) ≡ course.wants_decision k
unfolding course.all_consent course.some_commit
wants_out k number = refl

same_place : (k : Course) (number : CallNumber) → Goes (UnderWay k) (UnderWay (record k { number = number; out = None }))
same_place k number = (
  record {
    voted = λ g vote is. is;
    votes = λ g vote is. is;
    commits = λ is. sym (out_same k number) ∙ is;
    reasons = λ why is. inl (sym (out_same k number) ∙ is);
    wants = λ is. wants_out k number ∙ is;
    decides = λ asks is. (asks, is);
  },
  λ rs of. of,
  out_same k number,
)

abbrev with_parties : Course → List Party → Standing
with_parties k ps = UnderWay (record k { parties = ps; number = course.following k.number; out = None })

answered_goes : (k : Course) (e : Errand) (h : ParticipantHeard) → is_asking_round e.stage ≡ false → Goes (UnderWay k) (UnderWay (course.answered h k e))
answered_goes k e h not_asked = by (slice_get k.parties e.place) refl
  where
    by : (o : Option Party) → slice_get k.parties e.place ≡ o
        → Goes (UnderWay k) (with_parties k (elim o as (λ _. List Party) [ Some p ↦ slice_set k.parties e.place (course.heard_at e.stage h p) | None ↦ k.parties ]))
    by (Some p) is =
        let same = other_answer h e.stage p not_asked in (
          kept_other k e.place p (course.heard_at e.stage h p) is same.0 same.1 same.2 (course.following k.number),
          parties_other k e.place p (course.heard_at e.stage h p) is same.0 same.1 same.2 (course.following k.number),
          outcome_same k e.place p (course.heard_at e.stage h p) is same.0 same.1 same.2 (course.following k.number),
        )
    by None is = same_place k (course.following k.number)

errand_goes : (k : Course) (h : ParticipantHeard) (its_own : Bool) (o : Option Errand) → is_asking_errand o ≡ false
    → Goes (UnderWay k) (UnderWay (elim o as (λ _. Course) [ Some e ↦ if its_own then course.answered h k e else k | None ↦ k ]))
errand_goes k h its_own (Some e) not_asked = by its_own
  where
    by : (t : Bool) → Goes (UnderWay k) (UnderWay (if t then course.answered h k e else k))
    by true = answered_goes k e h not_asked
    by false = goes_nowhere (UnderWay k)
errand_goes k h its_own None not_asked = goes_nowhere (UnderWay k)

answer_goes : (n : CallNumber) (h : ParticipantHeard) (s : Standing) → is_asking s ≡ false → Goes s (stages.after_answer n h s)
answer_goes n h (Waiting room) not_asked = goes_nowhere (Waiting room)
answer_goes n h (UnderWay k) not_asked = errand_goes k h _ k.out not_asked

pub outcome_stays : (n : CallNumber) (h : ParticipantHeard) (s : Standing) → is_asking s ≡ false → stages.outcome (stages.after_answer n h s) ≡ stages.outcome s
outcome_stays n h s not_asked = (answer_goes n h s not_asked).2

-- ---- nobody votes

round_votes : (k : Course) (e : Errand) (round : Stage) → is_asking_round round ≡ false
    → (elim round as (λ _. Option ℕ) [
      | rounds.Asking ↦ if course.decides_alone k then None else option_map (λ (p : Party). p.index) (slice_get k.parties e.place)
      | rounds.Telling ↦ None
      | rounds.Forgetting ↦ None
    ]) ≡ None
round_votes k e rounds.Asking not_asked = absurd cc
round_votes k e rounds.Telling not_asked = refl
round_votes k e rounds.Forgetting not_asked = refl

errand_votes : (k : Course) (o : Option Errand) → is_asking_errand o ≡ false → option_and_then (course.voter_at k) o ≡ None
errand_votes k (Some e) not_asked = round_votes k e e.stage not_asked
errand_votes k None not_asked = refl

pub no_voter : (s : Standing) → is_asking s ≡ false → stages.voter s ≡ None
no_voter (Waiting room) not_asked = refl
no_voter (UnderWay k) not_asked = errand_votes k k.out not_asked

pub no_effects : (h : ParticipantHeard) → vote_effects h None ≡ []
no_effects phase_hears.Done = refl
no_effects (phase_hears.Voted vote) = refl
no_effects (phase_hears.Heuristic d) = refl
no_effects phase_hears.RolledBack = refl
no_effects phase_hears.NotPrepared = refl
no_effects phase_hears.NoObject = refl
no_effects phase_hears.Other = refl
no_effects phase_hears.Lost = refl
no_effects phase_hears.Starved = refl

-- ---- an answer is heard

participant_keeps : (n : CallNumber) (h : Heard) (f : Family) → is_asking f.completion ≡ false → Rule f (told_participant n h f)
unfolding told_participant
participant_keeps n h f not_asked =
    then_keeps f (shows (vote_effects (of_participant h) (stages.voter f.completion)) f)
    (λ g. completes_as (stages.after_answer (inner_number f f.completion n) (of_participant h) f.completion) g)
    (subst (λ (some : List Effect). Rule f (shows some f)) (sym (ap (vote_effects (of_participant h)) (no_voter f.completion not_asked) ∙ no_effects (of_participant h))) (only_keeps f))
    (let on = answer_goes (inner_number f f.completion n) (of_participant h) f.completion not_asked in
    completes_keep (stages.after_answer (inner_number f f.completion n) (of_participant h) f.completion) f on.0 (on.1 f.ballots.registrations))

marks_parent_keeps : (o : Option ℕ) (f : Family) → Rule f (marks_parent o f)
marks_parent_keeps (Some above) f = marks_keep above f
marks_parent_keeps None f = only_keeps f

told_end_keeps : (aim : Aim) (b : ℕ) (h : Heard) (f : Family) → Rule f (told_end aim b h f)
unfolding told_commit
told_end_keeps (Commits asks) b h f = either_keeps f (is_plain h || has_parent_ended f b) _ _ (only_keeps f) (marks_parent_keeps (parent f.rows b) f)
told_end_keeps (RollsBack says) b h f = only_keeps f

-- the call isn't at a synchronization, and no participant is asked where it is at one of these
abbrev pub HearsNoVote : Leg → Family → Type 0
HearsNoVote (Before so_many) f = ⊥
HearsNoVote Deciding f = is_asking f.completion ≡ false
HearsNoVote _ f = Unit {0}

told_keeps : (leg : Leg) (n : CallNumber) (b : ℕ) (c : Call) (h : Heard) (f : Family) → HearsNoVote leg f → Rule f (told leg n b c h f)
told_keeps Below n b c h f so = only_keeps f
told_keeps Own n b c h f so = told_end_keeps c.aim b h f
told_keeps (Before so_many) n b c h f so = absurd so
told_keeps Deciding n b c h f so = participant_keeps n h f so
told_keeps (After so_many) n b c h f so = only_keeps f

pub in_call : (leg : Leg) (b : ℕ) (c : Call) (f : Family) → HearsNoVote leg f → HearsNoVote leg (with_call b c f)
in_call Below b c f so = tt
in_call Own b c f so = tt
in_call (Before so_many) b c f so = so
in_call Deciding b c f so = so
in_call (After so_many) b c f so = tt

hears_at_keeps : (n : CallNumber) (b : ℕ) (c : Call) (h : Heard) (f : Family) → call_at f b ≡ Some c → HearsNoVote c.leg f → Rule f (hears_at n b c h f)
unfolding hears_at
hears_at_keeps n b c h f is so tidy =
    told_keeps c.leg n b (record c { out = None }) h (with_call b (record c { out = None }) f) (in_call c.leg b (record c { out = None }) f so)
    (record {
      below = tidy.below;
      dues = due_set f.ballots.registrations f.calls b (record c { out = None }) (tidy.dues b c is) tidy.dues;
      parties = tidy.parties;
      alone = tidy.alone;
      few = tidy.few;
    })

-- the call that waits hears no vote
abbrev pub NoVoteAt : Family → Option Call → Type 0
NoVoteAt f (Some c) = HearsNoVote c.leg f
NoVoteAt f None = Unit {0}

hears_call_keeps : (o : Option Call) (b : ℕ) (n : CallNumber) (h : Heard) (f : Family) → call_at f b ≡ o → NoVoteAt f o → Rule f (hears_call o b n h f)
hears_call_keeps (Some c) b n h f is so = hears_at_keeps n b c h f is so
hears_call_keeps None b n h f is so = only_keeps f

pub goes_on_keeps : (o : Option ℕ) (f : Family) → Rule f (goes_on_at o f)
goes_on_keeps (Some b) f = goes_on_keep b f
goes_on_keeps None f = only_keeps f

pub hears_keeps : (n : CallNumber) (h : Heard) (b : ℕ) (f : Family) → waiting_for f n ≡ Some b → NoVoteAt f (call_at f b) → Rule f (hears n h f)
unfolding hears
hears_keeps n h b f waits so =
    subst (λ (o : Option ℕ). Rule f (hears_for o n h f)) (sym waits) (hears_call_keeps (call_at f b) b n h f refl so)

answered_by : (n : CallNumber) (h : Heard) (f : Family) → Rule f (hears n h f) → Rule f (answered n h None f)
unfolding answered settles
answered_by n h f heard =
    then_keeps f (hears n h f ▹ settles None) (goes_on_at (waiting_for f n))
    (then_keeps f (hears n h f) (settles None) heard (only_keeps (hears n h f).family))
    (goes_on_keeps (waiting_for f n) (hears n h f ▹ settles None).family)

-- ---- the step

-- where what is heard of the answer keeps so much, all of the step does
pub answer_by : (f : Family) (o : Outward) (answer : Said) (now b : ℕ) → waiting_for f o.number ≡ Some b → Rule f (hears o.number (heard_in answer) f) → IsTidy f
    → StepKeeps f (family_step f (answer_event o answer now) None)
unfolding family_step acted
answer_by f o answer now b waits heard tidy =
    subst (λ (x : Option ℕ). StepKeeps f (if is_none x then quiet_step f else entered f (answer_event o answer now) None (acted (answer_event o answer now) None f))) (sym waits)
    (entered_keeps f (answer_event o answer now) None (acted (answer_event o answer now) None f) (answered_by o.number (heard_in answer) f heard) tidy)
  where
    quiet_step : Family → Stepped
    quiet_step f = record { family = f; said = said.Plain; words = []; finished = []; effects = [] }

pub answer_keeps : (f : Family) (o : Outward) (answer : Said) (now b : ℕ) → waiting_for f o.number ≡ Some b → NoVoteAt f (call_at f b) → IsTidy f
    → StepKeeps f (family_step f (answer_event o answer now) None)
answer_keeps f o answer now b waits so = answer_by f o answer now b waits (hears_keeps o.number (heard_in answer) b f waits so)
