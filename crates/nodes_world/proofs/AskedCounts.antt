-- What a step of a family keeps that hears a vote of one that is asked, unless a record comes to stand then: that vote counts, and is
-- told.
use Rattle.std.proofs.Common.{◌≡◌, ◌⊎◌, inl, inr, ℕ, zero, suc, ◌<◌, Bool, true, false, is_none, if◌then◌else◌, List, [], ◌∷◌, length, map, get_or, slice_get, slice_set, Any, Contains, Option, Some, None, refl, sym, ap, subst, ◌∙◌, arith}
use Rattle.std.proofs.lemmas.List.Elements.{Contains-append_left}
use Rattle.std.specs.Option.{option_and_then, option_map}
use Rattle.ots_model.specs.Heard.{of_participant}
use Rattle.ots_model.specs.declared.completion.CallNumber.{CallNumber}
use Rattle.ots_model.specs.declared.completion.Heard.{Heard as ParticipantHeard}
use Rattle.ots_model.specs.declared.completion.Heard.TheVariants as phase_hears
use Rattle.ots_model.specs.declared.completion.Stood.{Stood}
use Rattle.ots_model.specs.declared.completion.Vote.{Vote}
use Rattle.ots_model.specs.declared.tree.Heard.{Heard}
use Rattle.ots_model.specs.declared.completion.Outcome.TheVariants as outcomes
use Rattle.ots_model.specs.declared.tree.Outward.{Outward}
use Rattle.resource_votes.specs.declared.registration.Registration.{Registration}
use Rattle.txn_tree.specs.declared.row.Row.{Row}
use Rattle.two_phase.specs.Course as course
use Rattle.two_phase.specs.Course.{Course}
use Rattle.two_phase.specs.LawsOfReached.IsReached.{goes_on}
use Rattle.two_phase.specs.LawsOfReached.TreeBecomes.{by_answer}
use Rattle.two_phase.specs.Stages as stages
use Rattle.two_phase.specs.Stages.{Standing, Waiting, Going as UnderWay}
use Rattle.two_phase.specs.declared.party.Errand.{Errand}
use Rattle.two_phase.specs.declared.party.Party.{Party}
use Rattle.two_phase.specs.declared.party.Stage.{Stage as Round}
use Rattle.coordinator.specs.declared.call.Leg.{Leg}
use Rattle.coordinator.specs.declared.call.Leg.TheVariants.{Deciding}
use Rattle.coordinator.specs.declared.effect.Effect.{Effect}
use Rattle.coordinator.specs.declared.effect.Effect.TheVariants as effects
use Rattle.coordinator.specs.declared.said.Said.{Said}
use Rattle.coordinator.specs.declared.said.Said.TheVariants as said
use Rattle.coordinator.specs.Family.{Family, Call, call_at, waiting_for}
use Rattle.coordinator.specs.Hearing.{hears_at, inner_number, settles, told, told_participant, vote_effects}
use Rattle.coordinator.specs.Laws.{IsThere}
use Rattle.coordinator.specs.Moves.{◌▹◌, completes_as, fixed_now}
use Rattle.coordinator.specs.Step.{Stepped, acted, answered, entered, family_step, goes_on_at, hears, hears_call, hears_for}
use Rattle.family_laws.specs.LawsOfTelling.{HasVote, IsVoted, rows_told}
use Rattle.nodes_world.specs.CompletionLaws.{CompletionLaws}
use Rattle.nodes_world.specs.Deliveries.{answer_event, heard_in}
use Rattle.nodes_world.specs.AgreementInside.{is_asking}
use Rattle.nodes_world.proofs.AnswersKeep.{goes_on_keeps}
use Rattle.nodes_world.proofs.AskedCalls.{IsAskedOf, asked_of}
use Rattle.nodes_world.proofs.AskedKeeps as keep
use Rattle.nodes_world.proofs.AskedKeeps.{after_is, answer_registered, answered_party, not_overtaken, parties_then, plain_cause, without_out}
use Rattle.nodes_world.proofs.AskedVotes.{votes_stay}
use Rattle.nodes_world.proofs.RecordsLate.{not_stood}
use Rattle.nodes_world.proofs.RulesKeep.{AreKept, ArePartiesOf, IsTidy, due_set, fixed_rows, kept_itself, no_record, Rule, then_from, told_joined}
use Rattle.nodes_world.proofs.StepIs.{IsStepKept}
use Rattle.nodes_world.proofs.StepsKeep.{StepKeeps}

-- ---- the vote counts

-- what holds of one of a list in which one was set holds of one that was there, or of that one
pub any_set_cases : (P : Party → Type 0) (ps : List Party) (i : ℕ) (q : Party) → Any P (slice_set ps i q) → Any P ps ⊎ P q
any_set_cases P ps i q any = go ps i any.0 any.1 any.2 any.3 any.4
  where
    here : (x : Party) (ys : List Party) → P x → Any P (x ∷ ys)
    here x ys so = (0, x, omega arith, refl, so)

    behind : (x : Party) (ys : List Party) → Any P ys ⊎ P q → Any P (x ∷ ys) ⊎ P q
    behind x ys (inl a) = let l = a.2 in inl (suc a.0, a.1, omega (arith, l), a.3, a.4)
    behind x ys (inr so) = inr so

    go : (ps : List Party) (i j : ℕ) (x : Party) → j < length (slice_set ps i q) → get_or (slice_set ps i q) j x ≡ x → P x → Any P ps ⊎ P q
    go [] i j x less is so = absurd (omega (arith, less))
    go (y ∷ ps) zero zero x less is so = inr (subst P (sym is) so)
    go (y ∷ ps) zero (suc j) x less is so = inl (suc j, x, omega (arith, less), is, so)
    go (y ∷ ps) (suc i) zero x less is so = inl (here y ps (subst P (sym is) so))
    go (y ∷ ps) (suc i) (suc j) x less is so = behind y ps (go ps i j x (omega (arith, less)) is so)

-- a vote that counts then counted before, or is that one
abbrev CountsBy : Course → (p : Party) → ParticipantHeard → ℕ → Vote → Type 0
CountsBy k p h number vote = IsVoted (UnderWay k) number vote ⊎ ((p.index ≡ number) × (h ≡ phase_hears.Voted vote))

module _ (completions : CompletionLaws) (k : Course) (asked : IsAskedOf k) (n : CallNumber) (h : ParticipantHeard) (number : ℕ) (vote : Vote) where
  own_vote : HasVote number vote (answered_party k asked n h) → (asked.party.index ≡ number) × (h ≡ phase_hears.Voted vote)
  own_vote had = (
    sym (ap (λ (r : Round). (course.heard_at r h asked.party).index) asked.round) ∙ had.0,
    inner (sym (ap (λ (r : Round). (course.heard_at r h asked.party).ballot) asked.round) ∙ had.1),
  )
    where
      inner : {x y : ParticipantHeard} → Some x ≡ Some y → x ≡ y
      inner e = cc

  counts_then : IsVoted (UnderWay (keep.heard k asked n h)) number vote → CountsBy k asked.party h number vote
  counts_then voted = elim (any_set_cases (HasVote number vote) k.parties asked.errand.place (answered_party k asked n h)
      (subst (Any (HasVote number vote)) (parties_then k asked n h completions) voted)) [
        | inl before ↦ inl before
        | inr own ↦ inr (own_vote own)
      ]

  pub counts_by : IsVoted (UnderWay (course.after_answer n h k)) number vote → CountsBy k asked.party h number vote
  counts_by =
      after_is k asked n h (λ (x : Course). IsVoted (UnderWay x) number vote → CountsBy k asked.party h number vote)
      (λ voted. inl voted) counts_then

-- it is asked of the one whose vote is wanted
pub voter_asked : (k : Course) (asked : IsAskedOf k) → course.decides_alone k ≡ false → course.voter k ≡ Some asked.party.index
voter_asked k asked alone =
    ap (λ (o : Option Errand). option_and_then (course.voter_at k) o) asked.out
    ∙ ap (λ (r : Round). course.voter_at k (record asked.errand { stage = r })) asked.round
    ∙ ap (λ (t : Bool). if t then None else option_map (λ (p : Party). p.index) (slice_get k.parties asked.errand.place)) alone
    ∙ ap (option_map (λ (p : Party). p.index)) asked.there

-- a participant is a registration
pub record IsRegisteredAs (some : List Registration) (p : Party) : Type 0 where
  pub r : Registration
  pub there : Contains some r
  pub index : r.index ≡ p.index
  pub reference : r.to ≡ p.to

later_one : {some : List Registration} {x : Registration} {p : Party} → IsRegisteredAs some p → IsRegisteredAs (x ∷ some) p
later_one one = record { r = one.r; there = let l = one.there.1 in (suc one.there.0, omega (arith, l), one.there.2); index = one.index; reference = one.reference }

pub party_registered : (ps : List Party) (rs : List Registration) (i : ℕ) (p : Party) → map (λ (x : Party). x.index) ps ≡ map (λ (x : Registration). x.index) rs
    → map (λ (x : Party). x.to) ps ≡ map (λ (x : Registration). x.to) rs
    → slice_get ps i ≡ Some p → IsRegisteredAs rs p
party_registered [] rs i p numbers references at = absurd cc
party_registered (x ∷ ps) [] i p numbers references at = absurd cc
party_registered (x ∷ ps) (r ∷ rs) zero p numbers references at = record {
  r = r;
  there = (0, omega arith, refl);
  index = sym (head_number numbers) ∙ ap (λ (y : Party). y.index) (inner at);
  reference = sym (head_to references) ∙ ap (λ (y : Party). y.to) (inner at);
}
  where
    head_number : {a b : ℕ} {xs ys : List ℕ} → a ∷ xs ≡ b ∷ ys → a ≡ b
    head_number e = cc

    head_to : {a b : List ℕ} {xs ys : List (List ℕ)} → a ∷ xs ≡ b ∷ ys → a ≡ b
    head_to e = cc

    inner : {a b : Party} → Some a ≡ Some b → a ≡ b
    inner e = cc
party_registered (x ∷ ps) (r ∷ rs) (suc i) p numbers references at =
    later_one (party_registered ps rs i p (tail_number numbers) (tail_to references) at)
  where
    tail_number : {a b : ℕ} {xs ys : List ℕ} → a ∷ xs ≡ b ∷ ys → xs ≡ ys
    tail_number e = cc

    tail_to : {a b : List ℕ} {xs ys : List (List ℕ)} → a ∷ xs ≡ b ∷ ys → xs ≡ ys
    tail_to e = cc

-- ---- the family hears it

votes_rows : (h : ParticipantHeard) (o : Option ℕ) (rs : List Row) → rows_told (vote_effects h o) rs ≡ rs
votes_rows (phase_hears.Voted vote) (Some number) rs = refl
votes_rows (phase_hears.Voted vote) None rs = refl
votes_rows _ o rs = refl

module _ (completions : CompletionLaws) (f : Family) (o : Outward) (answer : Said) (now : ℕ) (c : Call) (waits : waiting_for f o.number ≡ Some 0) (at : call_at f 0 ≡ Some c)
    (decides : c.leg ≡ Deciding) (there : IsThere f.completion) (asks : is_asking f.completion ≡ true) (vote : Vote)
    (votes : of_participant (heard_in answer) ≡ phase_hears.Voted vote) (stood : Option Stood)
    (settled : Rule (hears o.number (heard_in answer) f).family (settles stood (hears o.number (heard_in answer) f).family)) where
  abbrev n : CallNumber
  n = o.number

  abbrev h : Heard
  h = heard_in answer

  abbrev waiting : Family
  waiting = keep.waiting completions f n h c waits at decides there asks

  abbrev pub later : Standing
  later = keep.later completions f n h c waits at decides there asks

  -- the family as its completion is then
  abbrev pub counted : Family
  counted = record f { completion = later }

  parties_later : (rs : List Registration) → ArePartiesOf rs f.completion → ArePartiesOf rs later
  parties_later rs = answer_registered completions f.completion there asks (inner_number waiting f.completion n) (of_participant h) rs

  participant_counts : IsTidy waiting → AreKept f.rows f.ballots later (told_participant n h waiting)
  unfolding told_participant completes_as
  participant_counts tidy =
      let some : List Effect = vote_effects (of_participant h) (stages.voter f.completion) in
      let fixed : List Effect = fixed_now (stages.outcome f.completion) (stages.outcome later) in
      record {
        tidy = record { below = tidy.below; dues = tidy.dues; parties = parties_later f.ballots.registrations tidy.parties; alone = tidy.alone; few = tidy.few };
        rows = fixed_rows f.rows (stages.outcome f.completion) (stages.outcome later) ∙ ap (rows_told fixed) (sym (votes_rows (of_participant h) (stages.voter f.completion) f.rows))
            ∙ sym (told_joined f.rows some fixed);
        registrations = refl;
        on = λ r is. is;
        back = λ r is. is;
        words = tt;
        kept = kept_itself later;
      }

  call_counts : IsTidy f → AreKept f.rows f.ballots later (hears_at n 0 c h f)
  unfolding hears_at
  call_counts tidy =
      subst (λ (leg : Leg). AreKept f.rows f.ballots later (told leg n 0 (without_out c) h waiting)) (sym decides)
      (participant_counts (record {
        below = tidy.below;
        dues = due_set f.ballots.registrations f.calls 0 (without_out c) (tidy.dues 0 c at) tidy.dues;
        parties = tidy.parties;
        alone = tidy.alone;
        few = tidy.few;
      }))

  hears_counts : IsTidy f → AreKept f.rows f.ballots later (hears n h f)
  unfolding hears
  hears_counts tidy =
      subst (λ (x : Option ℕ). AreKept f.rows f.ballots later (hears_for x n h f)) (sym waits)
      (subst (λ (x : Option Call). AreKept f.rows f.ballots later (hears_call x 0 n h f)) (sym at) (call_counts tidy))

  pub settles_counts : IsTidy f → AreKept f.rows f.ballots later (hears n h f ▹ settles stood)
  settles_counts tidy = then_from f.rows f.ballots later (hears n h f) (settles stood) (hears_counts tidy) settled

  -- from any state of the completion on
  answered_from : (base : Standing) → AreKept f.rows f.ballots base (hears n h f ▹ settles stood) → AreKept f.rows f.ballots base (answered n h stood f)
  unfolding answered
  answered_from base first =
      then_from f.rows f.ballots base (hears n h f ▹ settles stood) (goes_on_at (waiting_for f n)) first
      (goes_on_keeps (waiting_for f n) (hears n h f ▹ settles stood).family)

  abbrev pub step : Stepped
  step = family_step f (answer_event o answer now) stood

  entered_from : (base : Standing) → AreKept f.rows f.ballots base (hears n h f ▹ settles stood)
      → StepKeeps (record f { completion = base }) (entered f (answer_event o answer now) stood (acted (answer_event o answer now) stood f))
  unfolding entered acted
  entered_from base first =
      let x = answered_from base first in
      record {
        tidy = x.tidy;
        rows = x.rows;
        registrations = x.registrations;
        on = x.on;
        back = x.back;
        words = x.words;
        kept = x.kept;
      }

  quiet_step : Stepped
  quiet_step = record { family = f; said = said.Plain; words = []; finished = []; effects = [] }

  pub step_from : (base : Standing) → AreKept f.rows f.ballots base (hears n h f ▹ settles stood) → StepKeeps (record f { completion = base }) step
  unfolding family_step quiet_step
  step_from base first =
      subst (λ (x : Option ℕ). StepKeeps (record f { completion = base }) (if is_none x then quiet_step else entered f (answer_event o answer now) stood (acted (answer_event o answer now) stood f))) (sym waits)
      (entered_from base first)

  pub step_counts : IsTidy f → StepKeeps counted step
  step_counts tidy = step_from later (settles_counts tidy)

  -- the vote is told
  module _ (number : ℕ) (voter : stages.voter f.completion ≡ Some number) where
    abbrev told_one : Effect
    told_one = effects.Voted number vote

    effect_there : Contains (vote_effects (of_participant h) (stages.voter f.completion)) told_one
    effect_there =
        subst (λ (x : ParticipantHeard). Contains (vote_effects x (stages.voter f.completion)) told_one) (sym votes)
        (subst (λ (x : Option ℕ). Contains (vote_effects (phase_hears.Voted vote) x) told_one) (sym voter) (0, omega arith, refl))

    participant_tells : Contains (told_participant n h waiting).effects told_one
    unfolding told_participant
    participant_tells = Contains-append_left (vote_effects (of_participant h) (stages.voter f.completion)) _ told_one effect_there

    call_tells : Contains (hears_at n 0 c h f).effects told_one
    unfolding hears_at
    call_tells = subst (λ (leg : Leg). Contains (told leg n 0 (without_out c) h waiting).effects told_one) (sym decides) participant_tells

    hears_tells : Contains (hears n h f).effects told_one
    unfolding hears
    hears_tells =
        subst (λ (x : Option ℕ). Contains (hears_for x n h f).effects told_one) (sym waits)
        (subst (λ (x : Option Call). Contains (hears_call x 0 n h f).effects told_one) (sym at) call_tells)

    answered_tells : Contains (answered n h stood f).effects told_one
    unfolding answered
    answered_tells =
        Contains-append_left (hears n h f ▹ settles stood).effects _ told_one (Contains-append_left (hears n h f).effects _ told_one hears_tells)

    entered_tells : Contains (entered f (answer_event o answer now) stood (acted (answer_event o answer now) stood f)).effects told_one
    unfolding entered acted
    entered_tells = answered_tells

    pub step_tells : Contains step.effects told_one
    unfolding family_step quiet_step
    step_tells =
        subst (λ (x : Option ℕ). Contains (if is_none x then quiet_step else entered f (answer_event o answer now) stood (acted (answer_event o answer now) stood f)).effects told_one) (sym waits)
        entered_tells

  -- what the completion becomes
  pub step_kept : (tidy : IsTidy f) (alone : stages.decides_alone f.completion ≡ false) (undecided : stages.wants_decision step.family.completion ≡ false)
      → IsStepKept f.completion step.family.completion step.effects
  step_kept tidy alone undecided = by f.completion refl there asks
    where
      no : true ≡ false → ⊥
      no e = cc

      by : (s : Standing) → f.completion ≡ s → IsThere s → is_asking s ≡ true → IsStepKept f.completion step.family.completion step.effects
      by (Waiting room) going there asks = absurd cc
      by (UnderWay k) going there asks =
          let next = (step_counts tidy).kept in
          let asked = asked_of completions k there asks in
          let m : CallNumber = inner_number waiting f.completion n in
          let heard : ParticipantHeard = of_participant h in
          let then_is : later ≡ UnderWay (course.after_answer m heard k) = ap (stages.after_answer m heard) going in
          let none_stood : (course.after_answer m heard k).stood ≡ None = after_is k asked m heard (λ (x : Course). x.stood ≡ None) (not_stood completions k there asked) (not_stood completions k there asked) in
          let overtaken : (course.after_answer m heard k).overtaken ≡ None =
          after_is k asked m heard (λ (x : Course). x.overtaken ≡ None) (not_overtaken k asked.undecided) (not_overtaken k asked.undecided) in
          record {
            voted = λ number x voted. next.voted number x (votes_stay completions f.completion (subst IsThere (sym going) there) (ap is_asking going ∙ asks) m heard number x voted);
            votes = λ number x voted.
                elim (counts_by completions k asked m heard number x (subst (λ (s : Standing). IsVoted s number x) then_is (next.votes number x voted))) [
                  | inl before ↦ inl (subst (λ (s : Standing). IsVoted s number x) (sym going) before)
                  | inr (own, same) ↦ inr (subst (λ (y : Vote). Contains step.effects (effects.Voted number y)) (same_vote (sym votes ∙ same))
                      (step_tells number (ap stages.voter going ∙ voter_asked k asked (sym (ap stages.decides_alone going) ∙ alone) ∙ ap (λ (y : ℕ). Some y) own)))
                ];
            commits = λ is. absurd (no_record (course.after_answer m heard k) none_stood (sym (ap stages.outcome then_is) ∙ next.commits is));
            reasons = λ why is. inr (elim (next.reasons why is) [
              | inl was ↦ plain_cause why (course.after_answer m heard k) overtaken
                  (completions.causes (course.after_answer m heard k) (outcomes.Rollback why) (goes_on k (course.after_answer m heard k) there (by_answer k m heard)) (sym (ap stages.outcome then_is) ∙ was))
              | inr plain ↦ plain
            ]);
            wants = λ is. undecided;
            decides = λ asking is. absurd (no (sym is ∙ alone));
          }
        where
          same_vote : {x y : Vote} → phase_hears.Voted x ≡ phase_hears.Voted y → x ≡ y
          same_vote e = cc
