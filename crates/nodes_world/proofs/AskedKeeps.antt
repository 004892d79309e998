-- What a step of a family keeps that hears of one that is asked an answer which is no vote.
use Rattle.std.proofs.Common.{◌≡◌, ◌⊎◌, inl, inr, ℕ, zero, suc, ◌&&◌, ◌==◌, Bool, true, false, not, is_none, is_some, if◌then◌else◌, List, [], ◌∷◌, length, slice_get, slice_set, Option, Some, None, refl, sym, ap, subst, ◌∙◌}
use Rattle.std.specs.List.{list_all, list_any}
use Rattle.ots_model.specs.Heard.{of_participant}
use Rattle.ots_model.specs.declared.completion.CallNumber.{CallNumber}
use Rattle.ots_model.specs.declared.completion.Heard.{Heard as ParticipantHeard}
use Rattle.ots_model.specs.declared.completion.Heard.TheVariants as phase_hears
use Rattle.ots_model.specs.declared.completion.Stood.{Stood}
use Rattle.ots_model.specs.declared.completion.Vote.{Vote}
use Rattle.ots_model.specs.declared.tree.Heard.{Heard}
use Rattle.ots_model.specs.Numbered.{Outcome}
use Rattle.ots_model.specs.declared.completion.Outcome.TheVariants as outcomes
use Rattle.ots_model.specs.declared.tree.Reason.{Reason}
use Rattle.ots_model.specs.declared.tree.Reason.TheVariants as reasons
use Rattle.resource_votes.specs.declared.registration.Registration.{Registration}
use Rattle.two_phase.specs.Course as course
use Rattle.two_phase.specs.Course.{Course}
use Rattle.two_phase.specs.LawsOfOutcomes.{HasCause}
use Rattle.two_phase.specs.LawsOfReached.IsReached.{goes_on}
use Rattle.two_phase.specs.LawsOfReached.TreeBecomes.{by_answer}
use Rattle.two_phase.specs.Parties.{has_consented, has_voted_commit}
use Rattle.two_phase.specs.Stages as stages
use Rattle.two_phase.specs.Stages.{Standing, Waiting, Going as UnderWay}
use Rattle.two_phase.specs.declared.party.Errand.{Errand}
use Rattle.two_phase.specs.declared.party.Party.{Party}
use Rattle.two_phase.specs.declared.party.Stage.{Stage as Round}
use Rattle.two_phase.specs.declared.party.Stage.TheVariants as rounds
use Rattle.coordinator.specs.declared.call.Leg.{Leg}
use Rattle.coordinator.specs.declared.call.Leg.TheVariants.{Deciding}
use Rattle.coordinator.specs.declared.effect.Effect.{Effect}
use Rattle.coordinator.specs.declared.said.Said.{Said}
use Rattle.coordinator.specs.declared.said.Said.TheVariants as said
use Rattle.coordinator.specs.Family.{Family, Call, call_at, waiting_for, with_call}
use Rattle.coordinator.specs.Hearing.{hears_at, inner_number, record_place, told, told_participant, vote_effects, wants_done}
use Rattle.coordinator.specs.Laws.{IsThere}
use Rattle.coordinator.specs.Moves.{shows, completes_as}
use Rattle.coordinator.specs.Step.{hears, hears_call, hears_for}
use Rattle.nodes_world.specs.CompletionLaws.{CompletionLaws}
use Rattle.nodes_world.specs.Deliveries.{heard_in}
use Rattle.nodes_world.specs.AgreementInside.{is_asking}
use Rattle.nodes_world.proofs.AnswersKeep.{all_set}
use Rattle.nodes_world.proofs.AskedCalls.{IsAskedOf, asked_of}
use Rattle.nodes_world.proofs.AskedVotes.{no_vote_comes, votes_stay}
use Rattle.nodes_world.proofs.KnownSeats.{as_long}
use Rattle.nodes_world.proofs.RecordsLate.{not_stood}
use Rattle.nodes_world.proofs.RulesKeep.{ArePartiesOf, IsKept, IsPlainReason, IsRegisteredTo, Keeps, Rule, completes_keep, due_set, no_record, only_keeps, then_keeps}

-- it is no vote
abbrev pub IsNoVote : ParticipantHeard → Type 0
IsNoVote h = (vote : Vote) → h ≡ phase_hears.Voted vote → ⊥

-- an answer is a vote, or is heard as none
pub vote_or_not : (answer : Said) → ((vote : Vote) × (answer ≡ said.Voted vote)) ⊎ IsNoVote (of_participant (heard_in answer))
unfolding heard_in
vote_or_not (said.Voted vote) = inl (vote, refl)
vote_or_not _ = inr (λ vote is. cc)

not_consents : (h : ParticipantHeard) (p : Party) → IsNoVote h → has_consented (record p { ballot = Some h }) ≡ false
not_consents (phase_hears.Voted vote) p none = absurd (none vote refl)
not_consents _ p none = refl

tells_nothing : (h : ParticipantHeard) (o : Option ℕ) → IsNoVote h → vote_effects h o ≡ []
tells_nothing (phase_hears.Voted vote) o none = absurd (none vote refl)
tells_nothing _ o none = refl

set_not : (ps : List Party) (i : ℕ) (p q : Party) → slice_get ps i ≡ Some p → has_consented q ≡ false → list_all has_consented (slice_set ps i q) ≡ false
set_not [] i p q there never = absurd cc
set_not (x ∷ ps) zero p q there never = ap (λ (t : Bool). t && list_all has_consented ps) never
set_not (x ∷ ps) (suc i) p q there never = ap (λ (t : Bool). has_consented x && t) (set_not ps i p q there never) ∙ and_false (has_consented x)
  where
    and_false : (t : Bool) → (t && false) ≡ false
    and_false true = refl
    and_false false = refl

not_all : (a b d e : Bool) → (a && b && d && false && e) ≡ false
not_all true true true e = refl
not_all true true false e = refl
not_all true false d e = refl
not_all false b d e = refl

-- ---- what becomes of a completion of which one is asked

module _ (k : Course) (asked : IsAskedOf k) (n : CallNumber) (h : ParticipantHeard) where
  abbrev pub heard : Course
  heard = course.answered h k asked.errand

  after_by : (P : Course → Type 0) (its_own : Bool) (o : Option Errand) → o ≡ Some asked.errand → P k → P heard
      → P (elim o as (λ _. Course) [ Some e ↦ if its_own then course.answered h k e else k | None ↦ k ])
  after_by P its_own o out same then_so =
      subst (λ (x : Option Errand). P (elim x as (λ _. Course) [ Some e ↦ if its_own then course.answered h k e else k | None ↦ k ])) (sym out) (either its_own)
    where
      either : (t : Bool) → P (if t then heard else k)
      either true = then_so
      either false = same

  -- what holds of it before, and once it has heard the answer
  pub after_is : (P : Course → Type 0) → P k → P heard → P (course.after_answer n h k)
  after_is P same then_so = after_by P _ k.out asked.out same then_so

  abbrev pub answered_party : Party
  answered_party = course.heard_at asked.errand.stage h asked.party

  pub parties_then : CompletionLaws → heard.parties ≡ slice_set k.parties asked.errand.place answered_party
  parties_then completions = completions.changes k.parties asked.errand h asked.party asked.there

  pub same_to : (round : Round) → (course.heard_at round h asked.party).to ≡ asked.party.to
  same_to rounds.Asking = refl
  same_to rounds.Telling = refl
  same_to rounds.Forgetting = refl

  pub alone_then : CompletionLaws → course.decides_alone heard ≡ course.decides_alone k
  alone_then completions = ap (λ (x : ℕ). k.one_phase && x == 1) (ap length (parties_then completions) ∙ as_long k.parties asked.errand.place answered_party)

  registered_then : CompletionLaws → (rs : List Registration) → ArePartiesOf rs (UnderWay k) → ArePartiesOf rs (UnderWay heard)
  registered_then completions rs all =
      subst (λ (ps : List Party). ArePartiesOf rs (UnderWay (record k { parties = ps }))) (sym (parties_then completions))
      (all_set (λ (x : Party). IsRegisteredTo rs x.to) k.parties asked.errand.place asked.party answered_party asked.there
      (λ one. record { r = one.r; there = one.there; leads = one.leads ∙ sym (same_to asked.errand.stage) }) all)

  wants_then : CompletionLaws → IsNoVote h → course.wants_decision heard ≡ false
  unfolding course.all_consent course.some_commit
  wants_then completions none =
      ap (λ (t : Bool). not (course.decides_alone heard) && is_none k.overtaken && is_none k.stood && t && list_any has_voted_commit heard.parties)
      (ap (list_all has_consented) (parties_then completions)
      ∙ set_not k.parties asked.errand.place asked.party answered_party asked.there
      (ap (λ (r : Round). has_consented (course.heard_at r h asked.party)) asked.round ∙ not_consents h asked.party none))
      ∙ not_all (not (course.decides_alone heard)) (is_none k.overtaken) (is_none k.stood) (list_any has_voted_commit heard.parties)

-- no rollback from outside came before
open_yet : (o : Option Reason) (x : Option Outcome) → (elim o as (λ _. Option Outcome) [ Some reason ↦ Some (outcomes.Rollback reason) | None ↦ x ]) ≡ None → o ≡ None
open_yet None x is = refl
open_yet (Some reason) x is = absurd cc

pub not_overtaken : (k : Course) → course.outcome k ≡ None → k.overtaken ≡ None
unfolding course.outcome
not_overtaken k none = open_yet k.overtaken _ none

-- so no synchronization is the reason of a rollback
pub plain_cause : (why : Reason) (k : Course) → k.overtaken ≡ None → HasCause why k → IsPlainReason why
plain_cause (reasons.SyncLost number) k none cause = no (sym none ∙ cause)
  where
    no : None ≡ Some (reasons.SyncLost number) → ⊥
    no e = cc
plain_cause (reasons.SyncStarved number) k none cause = no (sym none ∙ cause)
  where
    no : None ≡ Some (reasons.SyncStarved number) → ⊥
    no e = cc
plain_cause _ k none cause = tt

no_place : (stood : Option Stood) (reread : Option (Option ℕ)) → stood ≡ None → course.record_place stood reread ≡ None
no_place None reread none = refl
no_place (Some x) reread none = absurd cc

-- no record stands while one is asked
pub asked_late : CompletionLaws → (s : Standing) → IsThere s → is_asking s ≡ true → stages.record_place s ≡ None
asked_late completions (Waiting room) there asks = refl
asked_late completions (UnderWay k) there asks = no_place k.stood k.reread (not_stood completions k there (asked_of completions k there asks))

-- nor once it has answered
pub answer_late : CompletionLaws → (s : Standing) → IsThere s → is_asking s ≡ true → (n : CallNumber) (h : ParticipantHeard) → stages.record_place (stages.after_answer n h s) ≡ None
answer_late completions (Waiting room) there asks n h = refl
answer_late completions (UnderWay k) there asks n h =
    let asked = asked_of completions k there asks in
    let none = not_stood completions k there asked in
    no_place (course.after_answer n h k).stood (course.after_answer n h k).reread (after_is k asked n h (λ (x : Course). x.stood ≡ None) none none)

pub answer_registered : CompletionLaws → (s : Standing) → IsThere s → is_asking s ≡ true → (n : CallNumber) (h : ParticipantHeard) (rs : List Registration) → ArePartiesOf rs s
    → ArePartiesOf rs (stages.after_answer n h s)
answer_registered completions (Waiting room) there asks n h rs all = tt
answer_registered completions (UnderWay k) there asks n h rs all =
    let asked = asked_of completions k there asks in
    after_is k asked n h (λ (x : Course). ArePartiesOf rs (UnderWay x)) all (registered_then k asked n h completions rs all)

pub answer_kept : CompletionLaws → (s : Standing) → IsThere s → is_asking s ≡ true → (n : CallNumber) (h : ParticipantHeard) → IsNoVote h
    → IsKept s (stages.after_answer n h s)
answer_kept completions (Waiting room) there asks n h none = absurd cc
answer_kept completions (UnderWay k) there asks n h none =
    let asked = asked_of completions k there asks in
    let later : Course = course.after_answer n h k in
    let stood = not_stood completions k there asked in
    let overtaken : later.overtaken ≡ None = after_is k asked n h (λ (x : Course). x.overtaken ≡ None) (not_overtaken k asked.undecided) (not_overtaken k asked.undecided) in
    record {
      voted = λ g vote voted. votes_stay completions (UnderWay k) there asks n h g vote voted;
      votes = λ g vote voted. no_vote_comes completions (UnderWay k) there asks n h g vote (none vote) voted;
      commits = λ is. absurd (no_record later (after_is k asked n h (λ (x : Course). x.stood ≡ None) stood stood) is);
      reasons = λ why is. inr (plain_cause why later overtaken (completions.causes later (outcomes.Rollback why) (goes_on k later there (by_answer k n h)) is));
      wants = λ is. after_is k asked n h (λ (x : Course). course.wants_decision x ≡ false) is (wants_then k asked n h completions none);
      decides = λ asking alone. (
        overtaken,
        after_is k asked n h (λ (x : Course). course.decides_alone x ≡ true) alone (alone_then k asked n h completions ∙ alone),
      );
    }

-- ---- the family hears it

abbrev pub without_out : Call → Call
without_out c = record c { out = None }

module _ (completions : CompletionLaws) (f : Family) (n : CallNumber) (h : Heard) (c : Call) (waits : waiting_for f n ≡ Some 0) (at : call_at f 0 ≡ Some c)
    (decides : c.leg ≡ Deciding) (there : IsThere f.completion) (asks : is_asking f.completion ≡ true) where
  abbrev pub waiting : Family
  waiting = with_call 0 (without_out c) f

  abbrev pub later : Standing
  later = stages.after_answer (inner_number waiting f.completion n) (of_participant h) f.completion

  -- it goes on as the completion does
  pub heard_by : (P : Family → Type 0) → P (told_participant n h waiting).family → P (hears n h f).family
  unfolding hears hears_at
  heard_by P is =
      subst (λ (o : Option ℕ). P (hears_for o n h f).family) (sym waits)
      (subst (λ (o : Option Call). P (hears_call o 0 n h f).family) (sym at)
      (subst (λ (leg : Leg). P (told leg n 0 (without_out c) h waiting).family) (sym decides) is))

  pub completion_then : (hears n h f).family.completion ≡ later
  unfolding told_participant completes_as
  completion_then = heard_by (λ (g : Family). g.completion ≡ later) refl

  participant_keeps : IsNoVote (of_participant h) → Rule waiting (told_participant n h waiting)
  unfolding told_participant
  participant_keeps none =
      then_keeps waiting (shows (vote_effects (of_participant h) (stages.voter f.completion)) waiting) (λ g. completes_as later g)
      (subst (λ (some : List Effect). Rule waiting (shows some waiting)) (sym (tells_nothing (of_participant h) (stages.voter f.completion) none)) (only_keeps waiting))
      (completes_keep later waiting (answer_kept completions f.completion there asks (inner_number waiting f.completion n) (of_participant h) none)
      (answer_registered completions f.completion there asks (inner_number waiting f.completion n) (of_participant h) f.ballots.registrations))

  at_call_keeps : IsNoVote (of_participant h) → Rule f (hears_at n 0 c h f)
  unfolding hears_at
  at_call_keeps none tidy =
      subst (λ (leg : Leg). Keeps f (told leg n 0 (without_out c) h waiting)) (sym decides)
      (participant_keeps none (record {
        below = tidy.below;
        dues = due_set f.ballots.registrations f.calls 0 (without_out c) (tidy.dues 0 c at) tidy.dues;
        parties = tidy.parties;
        alone = tidy.alone;
        few = tidy.few;
      }))

  pub asked_keeps : IsNoVote (of_participant h) → Rule f (hears n h f)
  unfolding hears
  asked_keeps none =
      subst (λ (o : Option ℕ). Rule f (hears_for o n h f)) (sym waits)
      (subst (λ (o : Option Call). Rule f (hears_call o 0 n h f)) (sym at) (at_call_keeps none))

  -- the family's own Done isn't wanted
  pub asked_no_done : wants_done (hears n h f).family ≡ false
  unfolding wants_done
  asked_no_done =
      ap (λ (t : Bool). is_none g.closed && t && is_none (stages.next_word g.completion) && stages.is_settled g.completion)
      (ap (λ (s : Standing). is_some (record_place s)) completion_then
      ∙ ap is_some (answer_late completions f.completion there asks (inner_number waiting f.completion n) (of_participant h)))
      ∙ never (is_none g.closed) (is_none (stages.next_word g.completion)) (stages.is_settled g.completion)
    where
      g : Family
      g = (hears n h f).family

      never : (a d e : Bool) → (a && false && d && e) ≡ false
      never true d e = refl
      never false d e = refl
