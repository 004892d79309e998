-- What a family hears by its last vote, and how it goes on once its record stands: as one that hears an answer for which it waits no more.
use Rattle.std.proofs.Common.{◌≡◌, ℕ, Bool, true, is_none, if◌then◌else◌, List, [], ◌∷◌, ◌++◌, Option, Some, None, refl, sym, ap, subst, ◌∙◌}
use Rattle.ots_model.specs.Heard.{of_participant}
use Rattle.ots_model.specs.declared.completion.CallNumber.{CallNumber}
use Rattle.ots_model.specs.declared.completion.Ground.TheVariants.{Record}
use Rattle.ots_model.specs.declared.completion.Heard.{Heard as ParticipantHeard}
use Rattle.ots_model.specs.declared.completion.Heard.TheVariants as phase_hears
use Rattle.ots_model.specs.declared.completion.Stood.{Stood}
use Rattle.ots_model.specs.declared.completion.Stood.TheVariants as answers
use Rattle.ots_model.specs.declared.completion.Vote.{Vote}
use Rattle.ots_model.specs.declared.tree.Heard.{Heard}
use Rattle.ots_model.specs.Numbered.{Outcome}
use Rattle.ots_model.specs.declared.completion.Outcome.TheVariants as outcomes
use Rattle.ots_model.specs.declared.tree.Outward.{Outward}
use Rattle.two_phase.specs.Stages as stages
use Rattle.two_phase.specs.Stages.{Standing as Completion}
use Rattle.coordinator.specs.declared.call.Leg.{Leg}
use Rattle.coordinator.specs.declared.call.Leg.TheVariants.{Deciding}
use Rattle.coordinator.specs.declared.effect.Effect.{Effect}
use Rattle.coordinator.specs.declared.effect.Effect.TheVariants as effects
use Rattle.coordinator.specs.declared.event.Event.{Event}
use Rattle.coordinator.specs.declared.said.Said.{Said}
use Rattle.coordinator.specs.declared.said.Said.TheVariants as said
use Rattle.coordinator.specs.Family.{Family, Call, call_at, waiting_for, with_call}
use Rattle.coordinator.specs.Hearing.{closes, decided, doubts_by, hears_at, inner_number, settles, told, told_participant, vote_effects, wants_done}
use Rattle.coordinator.specs.Laws.{IsThere}
use Rattle.coordinator.specs.Moves.{Moved, only, ◌▹◌, completes_as, fixed_now}
use Rattle.coordinator.specs.Step.{Stepped, acted, answered, entered, family_step, goes_on_at, hears, hears_call, hears_for}
use Rattle.nodes_world.specs.CompletionLaws.{CompletionLaws}
use Rattle.nodes_world.specs.Deliveries.{answer_event, heard_in}
use Rattle.nodes_world.specs.AgreementInside.{is_asking}
use Rattle.nodes_world.proofs.AnswersKeep.{NoVoteAt, HearsNoVote, no_voter}
use Rattle.nodes_world.proofs.AskedCalls.{nothing_fixed}
use Rattle.nodes_world.proofs.AskedKeeps as keep
use Rattle.nodes_world.proofs.AskedKeeps.{without_out}
use Rattle.nodes_world.proofs.DecidedAs.{heard_out, hears_nothing, not_asking, out_of, stands_commits, still_open, then_out}

-- ---- a step that hears an answer

-- a step is what comes of something, but for the entry
pub record IsStepOf (s : Stepped) (m : Moved) : Type 0 where
  pub words : s.words ≡ m.words
  pub effects : s.effects ≡ m.effects
  pub family : s.family ≡ record m.family { entries = s.family.entries }

pub answered_moves : (f : Family) (o : Outward) (answer : Said) (now : ℕ) (stood : Option Stood) (b : ℕ) → waiting_for f o.number ≡ Some b
    → IsStepOf (family_step f (answer_event o answer now) stood) (answered o.number (heard_in answer) stood f)
unfolding family_step entered acted
answered_moves f o answer now stood b waits =
    subst (λ (x : Option ℕ). IsStepOf (if is_none x then quiet_step else entered f (answer_event o answer now) stood (acted (answer_event o answer now) stood f)) (answered o.number (heard_in answer) stood f))
    (sym waits) (record { words = refl; effects = refl; family = refl })
  where
    quiet_step : Stepped
    quiet_step = record { family = f; said = said.Plain; words = []; finished = []; effects = [] }

-- ---- the call at the decision hears

-- the call waits no more
abbrev pub heard_by : Family → Call → Family
heard_by f c = with_call 0 (without_out c) f

heard_as : (f : Family) (n : CallNumber) (h : Heard) (c : Call) → waiting_for f n ≡ Some 0 → call_at f 0 ≡ Some c → c.leg ≡ Deciding → (P : Moved → Type 0)
    → P (told_participant n h (heard_by f c)) → P (hears n h f)
unfolding hears hears_at
heard_as f n h c waits at decides P is =
    subst (λ (x : Option ℕ). P (hears_for x n h f)) (sym waits)
    (subst (λ (x : Option Call). P (hears_call x 0 n h f)) (sym at)
    (subst (λ (leg : Leg). P (told leg n 0 (without_out c) h (heard_by f c))) (sym decides) is))

-- nothing but this happened
abbrev pub happened : Family → List Effect → Moved
happened f some = record { family = f; words = []; finished = []; effects = some }

module _ (completions : CompletionLaws) (f : Family) (n : CallNumber) (h : Heard) (c : Call) (waits : waiting_for f n ≡ Some 0) (at : call_at f 0 ≡ Some c)
    (decides : c.leg ≡ Deciding) (there : IsThere f.completion) (asks : is_asking f.completion ≡ true)
    (wants : stages.wants_decision (keep.later completions f n h c waits at decides there asks) ≡ true) (number : ℕ) (voter : stages.voter f.completion ≡ Some number) (vote : Vote)
    (votes : of_participant h ≡ phase_hears.Voted vote) (later_there : IsThere (keep.later completions f n h c waits at decides there asks)) where
  abbrev later : Completion
  later = keep.later completions f n h c waits at decides there asks

  abbrev told_one : Effect
  told_one = effects.Voted number vote

  later_open : stages.outcome later ≡ None
  later_open = still_open later later_there wants

  nothing_fixed_now : fixed_now (stages.outcome f.completion) (stages.outcome later) ≡ []
  nothing_fixed_now = ap (λ (x : Option Outcome). fixed_now x (stages.outcome later)) (nothing_fixed completions f.completion there asks) ∙ ap (λ (x : Option Outcome). fixed_now None x) later_open

  -- the vote is told, and nothing else happens
  pub heard_moved : hears n h f ≡ happened (record (heard_by f c) { completion = later }) (told_one ∷ [])
  unfolding told_participant completes_as
  heard_moved = heard_as f n h c waits at decides (λ (x : Moved). x ≡ happened (record (heard_by f c) { completion = later }) (told_one ∷ []))
      (ap (λ (x : ParticipantHeard). happened (record (heard_by f c) { completion = later }) (vote_effects x (stages.voter f.completion) ++ fixed_now (stages.outcome f.completion) (stages.outcome later))) votes
      ∙ ap (λ (x : Option ℕ). happened (record (heard_by f c) { completion = later }) (vote_effects (phase_hears.Voted vote) x ++ fixed_now (stages.outcome f.completion) (stages.outcome later))) voter
      ∙ ap (λ (xs : List Effect). happened (record (heard_by f c) { completion = later }) (told_one ∷ xs)) nothing_fixed_now)

  -- ---- the record stands

  module _ (place : ℕ) where
    abbrev stood : Option Stood
    stood = Some (answers.Stands place)

    abbrev stands : Completion
    stands = stages.after_decided (answers.Stands place) later

    abbrev pub g : Family
    g = record f { completion = stands }

    abbrev heard_then : Family
    heard_then = record (heard_by f c) { completion = stands }

    abbrev fixed : Effect
    fixed = effects.Decided (outcomes.Commit Record)

    decided_moved : settles stood (record (heard_by f c) { completion = later }) ≡ happened heard_then (fixed ∷ [])
    unfolding settles decided completes_as
    decided_moved =
        ap (λ (t : Bool). if t then completes_as stands (record (heard_by f c) { completion = later }) ▹ doubts_by (answers.Stands place)
        else if wants_done (record (heard_by f c) { completion = later }) then closes (answers.Stands place) (record (heard_by f c) { completion = later })
        else only (record (heard_by f c) { completion = later })) wants
        ∙ ap (λ (x : Option Outcome). happened heard_then (fixed_now x (stages.outcome stands) ++ [])) later_open
        ∙ ap (λ (x : Option Outcome). happened heard_then (fixed_now None x ++ [])) (stands_commits later later_there wants place)

    both_moved : hears n h f ▹ settles stood ≡ happened heard_then (told_one ∷ fixed ∷ [])
    both_moved =
        ap (λ (x : Moved). x ▹ settles stood) heard_moved
        ∙ ap (λ (x : Moved). happened (record (heard_by f c) { completion = later }) (told_one ∷ []) ▹ (λ g. x)) decided_moved

    -- the family as it is with its record hears nothing by the same answer
    pub out : out_of stands ≡ None
    out = then_out (answers.Stands place) later later_there wants (heard_out completions (inner_number (heard_by f c) f.completion n) (of_participant h) f.completion there asks wants)

    pub still_waits : waiting_for g n ≡ Some 0
    unfolding waiting_for
    still_waits = waits

    no_vote : vote_effects (of_participant h) (stages.voter stands) ≡ []
    no_vote = ap (λ (x : ParticipantHeard). vote_effects x (stages.voter stands)) votes ∙ ap (vote_effects (phase_hears.Voted vote)) (no_voter stands (not_asking stands out))

    none_fixed : (o : Option Outcome) → fixed_now o o ≡ []
    none_fixed (Some x) = refl
    none_fixed None = refl

    heard_nothing : hears n h g ≡ only heard_then
    unfolding told_participant completes_as
    heard_nothing = heard_as g n h c still_waits at decides (λ (x : Moved). x ≡ only heard_then)
        (ap (λ (xs : List Effect). happened (record (heard_by f c) { completion = again }) (xs ++ fixed_now (stages.outcome stands) (stages.outcome again))) no_vote
        ∙ ap (λ (x : Completion). happened (record (heard_by f c) { completion = x }) (fixed_now (stages.outcome stands) (stages.outcome x))) (hears_nothing (inner_number (heard_by g c) stands n) (of_participant h) stands out)
        ∙ ap (happened heard_then) (none_fixed (stages.outcome stands)))
      where
        again : Completion
        again = stages.after_answer (inner_number (heard_by g c) stands n) (of_participant h) stands

    nothing_moved : hears n h g ▹ settles None ≡ only heard_then
    unfolding settles
    nothing_moved = ap (λ (x : Moved). x ▹ settles None) heard_nothing

    -- so both go on in the same way
    pub both_go : answered n h stood f ≡ record (answered n h None g) { effects = told_one ∷ fixed ∷ (answered n h None g).effects }
    unfolding answered
    both_go =
        ap (λ (x : Moved). x ▹ goes_on_at (waiting_for f n)) both_moved
        ∙ ap (λ (x : Option ℕ). happened heard_then (told_one ∷ fixed ∷ []) ▹ goes_on_at x) waits
        ∙ ap (λ (x : Option ℕ). record (only heard_then ▹ goes_on_at x) { effects = told_one ∷ fixed ∷ (only heard_then ▹ goes_on_at x).effects }) (sym still_waits)
        ∙ ap (λ (x : Moved). record (x ▹ goes_on_at (waiting_for g n)) { effects = told_one ∷ fixed ∷ (x ▹ goes_on_at (waiting_for g n)).effects }) (sym nothing_moved)

    -- no vote is heard of it
    pub votes_not : NoVoteAt g (call_at g 0)
    votes_not =
        subst (NoVoteAt g) (sym at) (subst (λ (leg : Leg). HearsNoVote leg g) (sym decides) (not_asking stands out))

    -- ---- the steps

    module _ (o : Outward) (answer : Said) (now : ℕ) (number_is : o.number ≡ n) (heard_is : heard_in answer ≡ h) where
      abbrev e : Event
      e = answer_event o answer now

      abbrev pub step : Stepped
      step = family_step f e stood

      abbrev pub later_step : Stepped
      later_step = family_step g e None

      step_moves : IsStepOf step (answered n h stood f)
      step_moves =
          subst (λ (x : Heard). IsStepOf step (answered n x stood f)) heard_is
          (subst (λ (x : CallNumber). IsStepOf step (answered x (heard_in answer) stood f)) number_is
          (answered_moves f o answer now stood 0 (subst (λ (x : CallNumber). waiting_for f x ≡ Some 0) (sym number_is) waits)))

      later_moves : IsStepOf later_step (answered n h None g)
      later_moves =
          subst (λ (x : Heard). IsStepOf later_step (answered n x None g)) heard_is
          (subst (λ (x : CallNumber). IsStepOf later_step (answered x (heard_in answer) None g)) number_is
          (answered_moves g o answer now None 0 (subst (λ (x : CallNumber). waiting_for g x ≡ Some 0) (sym number_is) still_waits)))

      pub same_words : step.words ≡ later_step.words
      same_words = step_moves.words ∙ ap (λ (x : Moved). x.words) both_go ∙ sym later_moves.words

      pub more_effects : step.effects ≡ told_one ∷ fixed ∷ later_step.effects
      more_effects = step_moves.effects ∙ ap (λ (x : Moved). x.effects) both_go ∙ ap (λ (xs : List Effect). told_one ∷ fixed ∷ xs) (sym later_moves.effects)

      pub same_family : step.family ≡ record later_step.family { entries = step.family.entries }
      same_family =
          step_moves.family ∙ ap (λ (x : Moved). record x.family { entries = step.family.entries }) both_go
          ∙ sym (ap (λ (x : Family). record x { entries = step.family.entries }) later_moves.family)
