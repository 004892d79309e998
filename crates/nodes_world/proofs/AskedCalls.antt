-- While a participant is asked, no outcome is fixed, and it hasn't answered; and a call that isn't at the decision hears no vote.
use Rattle.std.proofs.Common.{◌≡◌, ◌⊎◌, inl, inr, ℕ, ◌<◌, ◌&&◌, Bool, true, false, not, is_none, is_some, if◌then◌else◌, List, [], slice_get, Contains, Option, Some, None, refl, sym, ap, subst, ◌∙◌}
use Rattle.std.specs.Option.{option_map}
use Rattle.ots_model.specs.declared.completion.CallNumber.{CallNumber}
use Rattle.ots_model.specs.declared.completion.Stood.{Stood}
use Rattle.ots_model.specs.declared.completion.Vote.{Vote}
use Rattle.ots_model.specs.declared.tree.Heard.{Heard}
use Rattle.ots_model.specs.declared.completion.Heard.TheVariants as phase_hears
use Rattle.ots_model.specs.declared.tree.Heard.TheVariants as hears_words
use Rattle.ots_model.specs.Numbered.{Outcome}
use Rattle.ots_model.specs.declared.tree.Outward.{Outward}
use Rattle.two_phase.specs.Course as course
use Rattle.two_phase.specs.Course.{Course}
use Rattle.two_phase.specs.CourseInside.{IsOpen, OpenAt}
use Rattle.two_phase.specs.LawsOfReached.{IsReached}
use Rattle.two_phase.specs.Reports as reports
use Rattle.two_phase.specs.Stages as stages
use Rattle.two_phase.specs.Stages.{Standing, Waiting, Going as UnderWay}
use Rattle.two_phase.specs.declared.party.Errand.{Errand}
use Rattle.two_phase.specs.declared.party.Party.{Party}
use Rattle.two_phase.specs.declared.party.Stage.{Stage as Round}
use Rattle.two_phase.specs.declared.party.Stage.TheVariants as rounds
use Rattle.coordinator.specs.declared.call.Leg.{Leg}
use Rattle.coordinator.specs.declared.call.Leg.TheVariants.{Below, Own, Before, Deciding, After}
use Rattle.coordinator.specs.declared.call.Stage.{Stage}
use Rattle.coordinator.specs.declared.effect.Effect.{Effect}
use Rattle.coordinator.specs.declared.effect.Effect.TheVariants as effects
use Rattle.coordinator.specs.declared.event.Act.TheVariants as acts
use Rattle.coordinator.specs.declared.said.Said.{Said}
use Rattle.coordinator.specs.declared.said.Said.TheVariants as said
use Rattle.coordinator.specs.Family.{Family, Aim, Call, Commits, RollsBack, call_at, waiting_for}
use Rattle.coordinator.specs.Hearing.{decision_record, hears_at, settles, told, wants_done}
use Rattle.coordinator.specs.Laws.{IsThere}
use Rattle.coordinator.specs.Moves.{Moved, only, ◌▹◌}
use Rattle.coordinator.specs.Step.{Stepped, acted, answered, entered, family_step, goes_on_at, hears, hears_call, hears_for, Appends, WritesDone, wanted_by}
use Rattle.family_laws.specs.Sound.{IsInStage, IsOfSub, IsSoundFamily}
use Rattle.nodes_world.specs.CompletionLaws.{CompletionLaws}
use Rattle.nodes_world.specs.AgreementInside.{IsNotBefore, is_asking, is_asking_errand, is_asking_round}
use Rattle.nodes_world.specs.Deliveries.{answer_event, heard_in}
use Rattle.nodes_world.proofs.AnswersKeep.{HearsNoVote, NoVoteAt}
use Rattle.nodes_world.proofs.StepIs.{FamilyLaws}

-- ---- who is asked

-- one to whom the word that is out goes, and that hasn't answered it, while no outcome is fixed
pub record IsAskedOf (c : Course) : Type 0 where
  pub errand : Errand
  pub party : Party
  pub out : c.out ≡ Some errand
  pub round : errand.stage ≡ rounds.Asking
  pub there : slice_get c.parties errand.place ≡ Some party
  pub unheard : party.ballot ≡ None
  pub undecided : course.outcome c ≡ None

round_asks : (round : Round) → is_asking_round round ≡ true → round ≡ rounds.Asking
round_asks rounds.Asking asks = refl
round_asks rounds.Telling asks = absurd cc
round_asks rounds.Forgetting asks = absurd cc

pub asked_of : CompletionLaws → (c : Course) → IsReached c → is_asking (UnderWay c) ≡ true → IsAskedOf c
asked_of completions c reached asks = by_out c.out refl
  where
    by_party : (e : Errand) → c.out ≡ Some e → e.stage ≡ rounds.Asking → (o : Option Party) → slice_get c.parties e.place ≡ o → OpenAt rounds.Asking o → IsAskedOf c
    by_party e out round None there unheard = absurd unheard
    by_party e out round (Some p) there unheard = record {
      errand = e;
      party = p;
      out = out;
      round = round;
      there = there;
      unheard = unheard;
      undecided = (completions.waits c reached).asking e out round;
    }

    by_out : (o : Option Errand) → c.out ≡ o → IsAskedOf c
    by_out None out = absurd (no (sym asks ∙ ap is_asking_errand out))
      where
        no : true ≡ false → ⊥
        no e = cc
    by_out (Some e) out =
        let round = round_asks e.stage (sym (ap is_asking_errand out) ∙ asks) in
        by_party e out round (slice_get c.parties e.place) refl
        (subst (λ (r : Round). OpenAt r (slice_get c.parties e.place)) round (subst (IsOpen c.parties) out (completions.waits c reached).unheard))

pub nothing_fixed : CompletionLaws → (s : Standing) → IsThere s → is_asking s ≡ true → stages.outcome s ≡ None
nothing_fixed completions (Waiting room) there asks = refl
nothing_fixed completions (UnderWay c) there asks = (asked_of completions c there asks).undecided

-- ---- then no Done is wanted

unsettled : (s : Standing) → stages.outcome s ≡ None → stages.is_settled s ≡ false
unsettled (Waiting room) open_yet = refl
unsettled (UnderWay c) open_yet = ap (λ (o : Option Outcome). (elim o as (λ _. Bool) [
  | Some fixed ↦ reports.all_through (course.decides_alone c) fixed c.parties
  | None ↦ false
]) && not (reports.some_owed rounds.Forgetting c.parties)) open_yet

never : (a b c : Bool) → (a && b && c && false) ≡ false
never true true true = refl
never true true false = refl
never true false true = refl
never true false false = refl
never false true true = refl
never false true false = refl
never false false true = refl
never false false false = refl

pub no_done_yet : (f : Family) → stages.outcome f.completion ≡ None → wants_done f ≡ false
unfolding wants_done
no_done_yet f open_yet =
    ap (λ (t : Bool). is_none f.closed && is_some (stages.record_place f.completion) && is_none (stages.next_word f.completion) && t) (unsettled f.completion open_yet)
    ∙ never (is_none f.closed) (is_some (stages.record_place f.completion)) (is_none (stages.next_word f.completion))

-- ---- a call that isn't at the decision

-- it hears an answer alike, whatever that is
abbrev pub IsDeaf : Leg → Type 0
IsDeaf Below = Unit {0}
IsDeaf (After so_many) = Unit {0}
IsDeaf _ = ⊥

abbrev pub IsDeafAt : Option Call → Type 0
IsDeafAt (Some c) = IsDeaf c.leg
IsDeafAt None = Unit {0}

own_never : (stage : Stage) (aim : Aim) → IsInStage stage aim Own → ⊥
own_never stage (Commits asks) of = of
own_never stage (RollsBack says) of = of

leg_cases : (stage : Stage) (aim : Aim) (leg : Leg) → IsNotBefore leg → IsInStage stage aim leg → IsDeaf leg ⊎ (leg ≡ Deciding)
leg_cases stage aim Below never_before of = inl tt
leg_cases stage aim Own never_before of = absurd (own_never stage aim of)
leg_cases stage aim (Before so_many) never_before of = absurd never_before
leg_cases stage aim Deciding never_before of = inr refl
leg_cases stage aim (After so_many) never_before of = inl tt

-- the call of the top-level transaction hears nothing of the answer, or is at the decision
pub call_cases : (f : Family) → IsSoundFamily f → ((c : Call) → call_at f 0 ≡ Some c → IsNotBefore c.leg)
    → IsDeafAt (call_at f 0) ⊎ ((c : Call) × (call_at f 0 ≡ Some c) × (c.leg ≡ Deciding))
call_cases f sound legs = by (call_at f 0) refl
  where
    by : (o : Option Call) → call_at f 0 ≡ o → IsDeafAt o ⊎ ((c : Call) × (o ≡ Some c) × (c.leg ≡ Deciding))
    by None at = inl tt
    by (Some c) at = elim (leg_cases f.stage c.aim c.leg (legs c at) ((sound.under_way 0 c at).top refl).in_stage) [
      | inl deaf ↦ inl deaf
      | inr decides ↦ inr (c, refl, decides)
    ]

deaf_votes : (leg : Leg) (f : Family) → IsDeaf leg → HearsNoVote leg f
deaf_votes Below f deaf = tt
deaf_votes Own f deaf = absurd deaf
deaf_votes (Before so_many) f deaf = absurd deaf
deaf_votes Deciding f deaf = absurd deaf
deaf_votes (After so_many) f deaf = tt

pub deaf_no_vote : (f : Family) (o : Option Call) → IsDeafAt o → NoVoteAt f o
deaf_no_vote f None deaf = tt
deaf_no_vote f (Some c) deaf = deaf_votes c.leg f deaf

deaf_told : (leg : Leg) (n : CallNumber) (b : ℕ) (c : Call) (h : Heard) (f : Family) → IsDeaf leg → told leg n b c h f ≡ only f
deaf_told Below n b c h f deaf = refl
deaf_told Own n b c h f deaf = absurd deaf
deaf_told (Before so_many) n b c h f deaf = absurd deaf
deaf_told Deciding n b c h f deaf = absurd deaf
deaf_told (After so_many) n b c h f deaf = refl

deaf_call : (o : Option Call) (n : CallNumber) (h instead : Heard) (f : Family) → IsDeafAt o → hears_call o 0 n h f ≡ hears_call o 0 n instead f
unfolding hears_at
deaf_call (Some c) n h instead f deaf = deaf_told c.leg n 0 _ h _ deaf ∙ sym (deaf_told c.leg n 0 _ instead _ deaf)
deaf_call None n h instead f deaf = refl

deaf_completion : (o : Option Call) (n : CallNumber) (h : Heard) (f : Family) → IsDeafAt o → (hears_call o 0 n h f).family.completion ≡ f.completion
unfolding hears_at
deaf_completion (Some c) n h f deaf = ap (λ (m : Moved). m.family.completion) (deaf_told c.leg n 0 _ h _ deaf)
deaf_completion None n h f deaf = refl

module _ (f : Family) (o : Outward) (answer : Said) (now : ℕ) (waits : waiting_for f o.number ≡ Some 0) (deaf : IsDeafAt (call_at f 0)) where
  heard_alike : (instead : Heard) → hears o.number (heard_in answer) f ≡ hears o.number instead f
  unfolding hears
  heard_alike instead =
      ap (λ (x : Option ℕ). hears_for x o.number (heard_in answer) f) waits
      ∙ deaf_call (call_at f 0) o.number (heard_in answer) instead f deaf
      ∙ sym (ap (λ (x : Option ℕ). hears_for x o.number instead f) waits)

  same_completion : (hears o.number (heard_in answer) f).family.completion ≡ f.completion
  unfolding hears
  same_completion =
      ap (λ (x : Option ℕ). (hears_for x o.number (heard_in answer) f).family.completion) waits
      ∙ deaf_completion (call_at f 0) o.number (heard_in answer) f deaf

  abbrev shown : Heard → List Effect
  shown h = (hears o.number h f ▹ settles None ▹ goes_on_at (waiting_for f o.number)).effects

  -- what a step shows
  step_shows : (said_so : Said) → (family_step f (answer_event o said_so now) None).effects ≡ shown (heard_in said_so)
  unfolding family_step acted answered entered
  step_shows said_so = ap (λ (x : Option ℕ). (if is_none x then quiet_step else entered f (answer_event o said_so now) None (acted (answer_event o said_so now) None f)).effects) waits
    where
      quiet_step : Stepped
      quiet_step = record { family = f; said = said.Plain; words = []; finished = []; effects = [] }

  no_vote_in : (number : CallNumber) (vote : Vote) → acts.Answer o.number (heard_in said.Plain) ≡ acts.Answer number (hears_words.Phase (phase_hears.Voted vote)) → ⊥
  unfolding heard_in
  no_vote_in number vote is = cc

  -- nobody is told to have voted
  pub deaf_tells_no_vote : FamilyLaws → IsSoundFamily f → (number : ℕ) (vote : Vote)
      → Contains (family_step f (answer_event o answer now) None).effects (effects.Voted number vote) → ⊥
  deaf_tells_no_vote laws sound number vote among =
      let alike = step_shows answer ∙ ap (λ (m : Moved). (m ▹ settles None ▹ goes_on_at (waiting_for f o.number)).effects) (heard_alike (heard_in said.Plain)) ∙ sym (step_shows said.Plain) in
      let heard = laws.votes.told f (answer_event o said.Plain now) None number vote sound (subst (λ (xs : List Effect). Contains xs (effects.Voted number vote)) alike among) in
      no_vote_in heard.number vote heard.answer

  -- what a step leaves of the completion, whatever the journal answers
  abbrev left_by : Option Stood → Moved → Standing
  left_by stood m = (m ▹ settles stood ▹ goes_on_at (waiting_for f o.number)).family.completion

  step_leaves : (stood : Option Stood) (said_so : Said) → (family_step f (answer_event o said_so now) stood).family.completion ≡ left_by stood (hears o.number (heard_in said_so) f)
  unfolding family_step acted answered entered
  step_leaves stood said_so = ap (λ (x : Option ℕ). (if is_none x then quiet_step else entered f (answer_event o said_so now) stood (acted (answer_event o said_so now) stood f)).family.completion) waits
    where
      quiet_step : Stepped
      quiet_step = record { family = f; said = said.Plain; words = []; finished = []; effects = [] }

  -- it leaves the same, whatever the answer is
  pub deaf_leaves : (stood : Option Stood) (instead : Said)
      → (family_step f (answer_event o answer now) stood).family.completion ≡ (family_step f (answer_event o instead now) stood).family.completion
  deaf_leaves stood instead = step_leaves stood answer ∙ ap (left_by stood) (heard_alike (heard_in instead)) ∙ sym (step_leaves stood instead)

  -- and the journal is asked for nothing
  pub deaf_wants : stages.wants_decision f.completion ≡ false → stages.outcome f.completion ≡ None → wanted_by (hears o.number (heard_in answer) f).family ≡ None
  deaf_wants settled open_yet = by (stages.wants_decision g.completion) (wants_done g) (ap stages.wants_decision same_completion ∙ settled)
      (no_done_yet g (ap stages.outcome same_completion ∙ open_yet))
    where
      g : Family
      g = (hears o.number (heard_in answer) f).family

      by : (t u : Bool) → t ≡ false → u ≡ false
          → (if t then Some (Appends (decision_record g)) else if u then option_map WritesDone (stages.record_place g.completion) else None) ≡ None
      by true u is not_done = absurd cc
      by false true is not_done = absurd cc
      by false false is not_done = refl

-- ---- an answer by which nobody votes

-- the word that is out asks nobody, or it isn't of the call of the top-level transaction
abbrev pub NobodyVotes : Family → ℕ → Type 0
NobodyVotes f b = (is_asking f.completion ≡ false) ⊎ (0 < b)

-- the call that waits is at no synchronization; that of a subtransaction tells its own resources, or those below
pub nobody_hears : (f : Family) (b : ℕ) → NobodyVotes f b → IsSoundFamily f → ((c : Call) → call_at f b ≡ Some c → IsNotBefore c.leg) → NoVoteAt f (call_at f b)
nobody_hears f b nobody sound legs = by (call_at f b) refl
  where
    by_leg : (leg : Leg) → IsNotBefore leg → (0 < b → IsOfSub leg) → NobodyVotes f b → HearsNoVote leg f
    by_leg Below never of nobody = tt
    by_leg Own never of nobody = tt
    by_leg (Before so_many) never of nobody = absurd never
    by_leg Deciding never of (inl not_asked) = not_asked
    by_leg Deciding never of (inr less) = absurd (of less)
    by_leg (After so_many) never of nobody = tt

    by : (o : Option Call) → call_at f b ≡ o → NoVoteAt f o
    by None at = tt
    by (Some c) at = by_leg c.leg (legs c at) (λ less. ((sound.under_way b c at).sub less).of_sub) nobody
