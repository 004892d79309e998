-- What a family becomes that has heard the last vote, before anyone knows whether its record stands: that vote counts, and is told.
use Rattle.std.proofs.Common.{◌≡◌, ◌⊎◌, inl, inr, ℕ, zero, suc, ◌+◌, true, false, List, [], ◌∷◌, slice_get, slice_set, Any, Contains, Option, Some, None, refl, sym, ap, subst, ◌∙◌, arith}
use Rattle.std.specs.List.{filter_map}
use Rattle.ior_refs.specs.declared.key.ObjectKey.{ObjectKey}
use Rattle.ots_model.specs.Heard.{of_participant}
use Rattle.ots_model.specs.declared.completion.CallNumber.{CallNumber}
use Rattle.ots_model.specs.declared.completion.Ground.TheVariants.{Record}
use Rattle.ots_model.specs.declared.completion.Heard.{Heard as ParticipantHeard}
use Rattle.ots_model.specs.declared.completion.Heard.TheVariants as phase_hears
use Rattle.ots_model.specs.declared.completion.Stood.{Stood}
use Rattle.ots_model.specs.declared.completion.Stood.TheVariants as answers
use Rattle.ots_model.specs.declared.completion.Vote.{Vote}
use Rattle.ots_model.specs.declared.tree.Heard.{Heard}
use Rattle.ots_model.specs.Numbered.{Outcome}
use Rattle.ots_model.specs.declared.completion.Outcome.TheVariants as outcomes
use Rattle.ots_model.specs.declared.tree.Outward.{Outward}
use Rattle.ots_model.specs.declared.completion.Word.TheVariants as phase_words
use Rattle.ots_model.specs.declared.tree.Word.TheVariants as words
use Rattle.resource_votes.specs.Ballots.{participants}
use Rattle.two_phase.specs.LawsOfReached.IsReached.{goes_on}
use Rattle.two_phase.specs.LawsOfReached.TreeBecomes.{by_answer}
use Rattle.two_phase.specs.Stages as stages
use Rattle.two_phase.specs.Stages.{Standing as Completion, Waiting, Going as UnderWay}
use Rattle.two_phase.specs.declared.party.Party.{Party}
use Rattle.decision_journal.specs.declared.record.JournalRecord.{JournalRecord}
use Rattle.decision_journal.specs.declared.record.JournalRecord.TheVariants.{Decision}
use Rattle.coordinator.specs.declared.call.Leg.TheVariants.{Deciding}
use Rattle.coordinator.specs.declared.effect.Effect.{Effect}
use Rattle.coordinator.specs.declared.effect.Effect.TheVariants as effects
use Rattle.coordinator.specs.declared.event.Event.{Event}
use Rattle.coordinator.specs.declared.said.Said.{Said}
use Rattle.coordinator.specs.declared.said.Said.TheVariants as said
use Rattle.coordinator.specs.Family.{Family, Call, call_at, waiting_for}
use Rattle.coordinator.specs.Hearing.{commit_key, decision_record, inner_number, named}
use Rattle.coordinator.specs.Laws.{IsThere}
use Rattle.coordinator.specs.Moves.{Moved, fixed_now}
use Rattle.coordinator.specs.Step.{Stepped, family_step, hears}
use Rattle.family_laws.specs.LawsOfTelling.{IsVoted, decided_in}
use Rattle.family_laws.specs.Sound.{IsAsking, IsSoundFamily, IsWaiting}
use Rattle.nodes_world.specs.CompletionLaws.{CompletionLaws}
use Rattle.nodes_world.specs.declared.message.Content.TheVariants as contents
use Rattle.nodes_world.specs.declared.message.Message.{Message}
use Rattle.nodes_world.specs.Agreement.{IsWord}
use Rattle.nodes_world.specs.AgreementInside.{AreReady, IsNotBefore, IsNumberedBy, notice_out, is_asking}
use Rattle.nodes_world.specs.Deliveries.{answer_event, heard_in}
use Rattle.nodes_world.specs.World.{World, referred}
use Rattle.nodes_world.proofs.AskedCalls.{asked_of, nothing_fixed}
use Rattle.nodes_world.proofs.AskedCounts.{counts_by, step_counts, step_tells, voter_asked}
use Rattle.nodes_world.proofs.AskedKeeps as keep
use Rattle.nodes_world.proofs.AskedKeeps.{answer_registered, completion_then, not_overtaken}
use Rattle.nodes_world.proofs.AskedVotes.{votes_stay}
use Rattle.nodes_world.proofs.AskedWords.{vote_not_alone}
use Rattle.nodes_world.proofs.DecisionFits.{heard_parties}
use Rattle.nodes_world.proofs.Appended.{IsDecidedNow}
use Rattle.nodes_world.proofs.DecidedAs.{AreAgreed, not_asking, stands_commits, stands_place, then_agreed, then_alone, then_going, then_notice, then_parties, then_registered, then_there, then_voted, then_votes, then_wants, unsure_open, unsure_place}
use Rattle.nodes_world.proofs.AnswersKeep.{no_voter}
use Rattle.nodes_world.proofs.ClosesKeep.{closing_keeps}
use Rattle.nodes_world.proofs.DecidedStep as decided
use Rattle.nodes_world.proofs.DecidedStep.{heard_moved}
use Rattle.nodes_world.proofs.OpenVote.{unsure}
use Rattle.nodes_world.proofs.RulesKeep.{IsTidy}
use Rattle.nodes_world.proofs.StepIs.{FamilyLaws, IsStepKept, StepIs, VoteIsHeard, keeps_is, speaks_of}
use Rattle.nodes_world.proofs.StepsAsk.{answer_asks, heard_quiet}
use Rattle.nodes_world.proofs.VotedStep.{IsAskedAs, asked_as, settles_nothing, vote_heard}

-- ---- the vote counts

any_at : (P : Party → Type 0) (ps : List Party) (i : ℕ) (p q : Party) → slice_get ps i ≡ Some p → P q → Any P (slice_set ps i q)
any_at P [] i p q there so = absurd cc
any_at P (x ∷ ps) zero p q there so = (0, q, omega arith, refl, so)
any_at P (x ∷ ps) (suc i) p q there so = let at = any_at P ps i p q there so in let l = at.2 in (suc at.0, at.1, omega (arith, l), at.3, at.4)

-- ---- the family

not_waiting : (s : Completion) → is_asking s ≡ true → IsWaiting s → ⊥
not_waiting (Waiting room) asks waits = absurd cc
not_waiting (UnderWay k) asks waits = waits

still_asks : CompletionLaws → (s : Completion) → IsThere s → is_asking s ≡ true → IsAsking s
still_asks completions (Waiting room) there asks = absurd cc
still_asks completions (UnderWay k) there asks = not_overtaken k (asked_of completions k there asks).undecided

there_then : (m : CallNumber) (x : ParticipantHeard) (s : Completion) → IsThere s → IsThere (stages.after_answer m x s)
there_then m x (Waiting room) there = tt
there_then m x (UnderWay k) there = goes_on k _ there (by_answer k m x)

-- a vote that counts then counted before, or is that of the one that is asked
votes_by : CompletionLaws → (m : CallNumber) (x : ParticipantHeard) (s : Completion) → IsThere s → is_asking s ≡ true → stages.decides_alone s ≡ false → (number : ℕ) (vote : Vote)
    → IsVoted (stages.after_answer m x s) number vote → IsVoted s number vote ⊎ ((stages.voter s ≡ Some number) × (x ≡ phase_hears.Voted vote))
votes_by completions m x (Waiting room) there asks alone number vote voted = inl voted
votes_by completions m x (UnderWay k) there asks alone number vote voted = elim (counts_by completions k (asked_of completions k there asks) m x number vote voted) [
  | inl before ↦ inl before
  | inr (own, same) ↦ inr (voter_asked k (asked_of completions k there asks) alone ∙ ap (λ (y : ℕ). Some y) own, same)
]

only_one : (x y : Effect) → Contains (x ∷ []) y → x ≡ y
only_one x y (zero, less, is) = is
only_one x y (suc i, less, is) = absurd (omega (arith, less))

none_some : {A : Type 0} {x : A} → None ≡ Some x → ⊥
none_some e = cc

module _ (laws : FamilyLaws) (w : World) (nth place reply now : ℕ) (o : Outward) (back : Message) (answer : Said) (f : Family) (c : Call) (vote : Vote)
    (word : IsWord w nth place o) (replied : slice_get w.messages reply ≡ Some back) (says : back.content ≡ contents.Reply (nth + 1) answer)
    (votes : answer ≡ said.Voted vote) (sound : IsSoundFamily f) (tidy : IsTidy f) (numbered : IsNumberedBy f o) (waits : waiting_for f o.number ≡ Some 0)
    (at : call_at f 0 ≡ Some c) (decides : c.leg ≡ Deciding) (asks : is_asking f.completion ≡ true) (prepare : o.word ≡ words.Phase phase_words.Prepare)
    (wants : stages.wants_decision (hears o.number (heard_in answer) f).family.completion ≡ true) (ready : AreReady f.serial f.calls) where
  abbrev n : CallNumber
  n = o.number

  abbrev h : Heard
  h = heard_in answer

  pub there : IsThere f.completion
  there = sound.completion.there

  abbrev m : CallNumber
  m = inner_number (keep.waiting laws.completions f n h c waits at decides there asks) f.completion n

  abbrev pub later : Completion
  later = keep.later laws.completions f n h c waits at decides there asks

  pub later_there : IsThere later
  later_there = there_then m (of_participant h) f.completion there

  pub later_wants : stages.wants_decision later ≡ true
  later_wants = sym (ap stages.wants_decision (completion_then laws.completions f n h c waits at decides there asks)) ∙ wants

  abbrev pub opened : Family
  opened = record f { completion = stages.after_decided unsure later }

  alone : stages.decides_alone f.completion ≡ false
  alone = vote_not_alone laws.completions f o c numbered waits at decides there asks prepare

  pub asked : IsAskedAs f o
  asked = asked_as laws.completions f o c numbered waits at decides alone f.completion refl there asks sound.completion.parties

  pub heard_so : of_participant h ≡ phase_hears.Voted vote
  heard_so = vote_heard answer vote votes

  -- the family once the journal has answered
  sound_by : (stood : Stood) → IsSoundFamily (record f { completion = stages.after_decided stood later })
  sound_by stood = record {
    lists = sound.lists;
    completion = record {
      begun = (λ early. absurd (not_waiting f.completion asks (sound.completion.begun.0 early)), λ idle. absurd (then_going stood later later_there later_wants idle));
      there = then_there stood later later_there later_wants;
      parties = then_parties stood later later_there later_wants (participants 0 f.ballots)
          (heard_parties laws.completions (participants 0 f.ballots) f.completion there asks m (of_participant h) sound.completion.parties);
      asking = λ asking. sound.completion.asking (still_asks laws.completions f.completion there asks);
    };
    as_many = sound.as_many;
    under_way = sound.under_way;
    finishing = sound.finishing;
  }

  tidy_by : (stood : Stood) → IsTidy (record f { completion = stages.after_decided stood later })
  tidy_by stood = record {
    below = tidy.below;
    dues = tidy.dues;
    parties = then_registered stood later later_there later_wants f.ballots.registrations
        (answer_registered laws.completions f.completion there asks m (of_participant h) f.ballots.registrations tidy.parties);
    alone = tidy.alone;
    few = tidy.few;
  }

  pub sound_open : IsSoundFamily opened
  sound_open = sound_by unsure

  abbrev pub told_one : Effect
  told_one = effects.Voted asked.r.index vote

  counted : IsVoted opened.completion asked.r.index vote
  counted =
      let kept = (step_counts laws.completions f o answer now c waits at decides there asks vote heard_so None (settles_nothing (hears n h f).family) tidy).kept in
      let told = laws.votes.told f (answer_event o answer now) None asked.r.index vote sound
      (step_tells laws.completions f o answer now c waits at decides there asks vote heard_so None (settles_nothing (hears n h f).family) asked.r.index asked.voter) in
      then_votes unsure later later_there later_wants asked.r.index vote (kept.votes asked.r.index vote told.counted)

  fixed_none : stages.outcome f.completion ≡ None
  fixed_none = nothing_fixed laws.completions f.completion there asks

  open_still : stages.outcome opened.completion ≡ None
  open_still = unsure_open later later_there later_wants

  kept_open : IsStepKept f.completion opened.completion (told_one ∷ [])
  kept_open = record {
    voted = λ number x voted. then_votes unsure later later_there later_wants number x (votes_stay laws.completions f.completion there asks m (of_participant h) number x voted);
    votes = λ number x voted. elim (votes_by laws.completions m (of_participant h) f.completion there asks alone number x (then_voted unsure later later_there later_wants number x voted)) [
      | inl before ↦ inl before
      | inr (voter, same) ↦ inr (0, omega arith, ap (λ (y : ℕ). effects.Voted y vote) (inner (sym asked.voter ∙ voter)) ∙ ap (effects.Voted number) (same_vote (sym heard_so ∙ same)))
    ];
    commits = λ is. absurd (none_some (sym open_still ∙ is));
    reasons = λ why is. absurd (none_some (sym open_still ∙ is));
    wants = λ is. then_wants unsure later later_there later_wants;
    decides = λ asking is. absurd (no (sym is ∙ alone));
  }
    where
      inner : {x y : ℕ} → Some x ≡ Some y → x ≡ y
      inner e = cc

      same_vote : {x y : Vote} → phase_hears.Voted x ≡ phase_hears.Voted y → x ≡ y
      same_vote e = cc

      no : true ≡ false → ⊥
      no e = cc

  heard_open : VoteIsHeard w f opened asked.r.index vote
  heard_open = record {
    r = asked.r;
    there = asked.there;
    index = refl;
    undecided = fixed_none;
    counted = counted;
    given = λ x leads. record {
      request = nth;
      from = place;
      asked = o;
      sent = word;
      prepare = prepare;
      resource = x;
      object = ap (referred w) (sym asked.reference) ∙ leads;
      same_name = refl;
      reply = reply;
      answer = back;
      answered = replied;
      says = says ∙ ap (λ (y : Said). contents.Reply (nth + 1) y) votes;
    };
  }

  pub open_is : StepIs w f opened (told_one ∷ []) []
  open_is = record {
    key = refl;
    sound = sound_open;
    tidy = tidy_by unsure;
    turn = tt;
    rows = refl;
    registrations = refl;
    on = λ r is. is;
    back = λ r is. is;
    kept = kept_open;
    speaks = speaks_of laws.completions opened sound_open;
    heard = λ number x among. by number x (only_one told_one (effects.Voted number x) among);
    outcomes = sym (ap (λ (x : Option Outcome). filter_map decided_in (fixed_now x (stages.outcome opened.completion))) fixed_none
        ∙ ap (λ (x : Option Outcome). filter_map decided_in (fixed_now None x)) open_still);
    stays = λ fixed is. absurd (none_some (sym fixed_none ∙ is));
    serial = omega arith;
    numbered = tt;
    rest = tt;
    leads = tt;
    ready = ready;
    asks = λ number notice idle asking. absurd (none_some (sym (then_notice unsure later later_there later_wants
        (heard_quiet (of_participant h) (keep.waiting laws.completions f n h c waits at decides there asks) n f.completion)) ∙ asking));
  }
    where
      number_of : {a b : ℕ} {x y : Vote} → effects.Voted a x ≡ effects.Voted b y → a ≡ b
      number_of e = cc

      vote_of : {a b : ℕ} {x y : Vote} → effects.Voted a x ≡ effects.Voted b y → x ≡ y
      vote_of e = cc

      by : (number : ℕ) (x : Vote) → told_one ≡ effects.Voted number x → VoteIsHeard w f opened number x
      by number x same =
          subst (λ (y : ℕ). VoteIsHeard w f opened y x) (number_of same) (subst (λ (y : Vote). VoteIsHeard w f opened asked.r.index y) (vote_of same) heard_open)

  pub open_place : stages.record_place opened.completion ≡ None
  open_place = unsure_place later later_there later_wants

  pub open_outcome : stages.outcome opened.completion ≡ None
  open_outcome = open_still

  pub open_alone : stages.decides_alone opened.completion ≡ false
  open_alone = then_alone unsure later later_there later_wants

  -- all have consented whom it names
  pub open_agreed : AreAgreed later opened.completion
  open_agreed = then_agreed unsure later later_there later_wants

  quiet : notice_out later ≡ None
  quiet = heard_quiet (of_participant h) (keep.waiting laws.completions f n h c waits at decides there asks) n f.completion

  -- ---- the record stands

  abbrev pub stands : ℕ → Completion
  stands at_record = stages.after_decided (answers.Stands at_record) later

  pub stands_is : (at_record : ℕ) → IsDecidedNow opened (stands at_record)
  stands_is at_record = record {
    sound = sound_by (answers.Stands at_record);
    commits = stands_commits later later_there later_wants at_record;
    voted = λ number x voted. then_votes (answers.Stands at_record) later later_there later_wants number x (then_voted unsure later later_there later_wants number x voted);
    votes = λ number x voted. then_votes unsure later later_there later_wants number x (then_voted (answers.Stands at_record) later later_there later_wants number x voted);
    wants = then_wants (answers.Stands at_record) later later_there later_wants;
    notice = then_notice (answers.Stands at_record) later later_there later_wants quiet;
  }

  pub stands_at : (at_record : ℕ) → stages.record_place (stands at_record) ≡ Some at_record
  stands_at at_record = stands_place later later_there later_wants at_record

  pub heard_tells : (hears n h f).effects ≡ told_one ∷ []
  heard_tells = ap (λ (x : Moved). x.effects) (heard_moved laws.completions f n h c waits at decides there asks later_wants asked.r.index asked.voter vote heard_so later_there)

  -- its record
  pub record_is : (item : JournalRecord) → decision_record (hears n h f).family ≡ item
      → item ≡ Decision f.key.life f.key.slot f.key.generation (commit_key (hears n h f).family) (stages.asked (hears n h f).family.completion) (named later)
  unfolding decision_record
  record_is item is =
      sym is
      ∙ ap (λ (x : ObjectKey). Decision x.life x.slot x.generation (commit_key (hears n h f).family) (stages.asked (hears n h f).family.completion) (named (hears n h f).family.completion)) same_key
      ∙ ap (λ (x : Completion). Decision f.key.life f.key.slot f.key.generation (commit_key (hears n h f).family) (stages.asked (hears n h f).family.completion) (named x))
      (completion_then laws.completions f n h c waits at decides there asks)
    where
      same_key : (hears n h f).family.key ≡ f.key
      same_key = ap (λ (x : Moved). x.family.key) (heard_moved laws.completions f n h c waits at decides there asks later_wants asked.r.index asked.voter vote heard_so later_there)

  -- ---- it goes on with its record

  module _ (at_record : ℕ) where
    abbrev e : Event
    e = answer_event o answer now

    abbrev pub decided_family : Family
    decided_family = record f { completion = stands at_record }

    abbrev pub step : Stepped
    step = family_step f e (Some (answers.Stands at_record))

    abbrev pub later_step : Stepped
    later_step = family_step decided_family e None

    pub same_words : step.words ≡ later_step.words
    same_words = decided.same_words laws.completions f n h c waits at decides there asks later_wants asked.r.index asked.voter vote heard_so later_there at_record o answer now refl refl

    pub more_effects : step.effects ≡ told_one ∷ effects.Decided (outcomes.Commit Record) ∷ later_step.effects
    more_effects = decided.more_effects laws.completions f n h c waits at decides there asks later_wants asked.r.index asked.voter vote heard_so later_there at_record o answer now refl refl

    pub same_family : step.family ≡ record later_step.family { entries = step.family.entries }
    same_family = decided.same_family laws.completions f n h c waits at decides there asks later_wants asked.r.index asked.voter vote heard_so later_there at_record o answer now refl refl

    still_waits : waiting_for decided_family o.number ≡ Some 0
    still_waits = decided.still_waits laws.completions f n h c waits at decides there asks later_wants asked.r.index asked.voter vote heard_so later_there at_record

    no_word : stages.voter (stands at_record) ≡ None
    no_word = no_voter (stands at_record) (not_asking (stands at_record)
        (decided.out laws.completions f n h c waits at decides there asks later_wants asked.r.index asked.voter vote heard_so later_there at_record))

    legs : (d : Call) → call_at decided_family 0 ≡ Some d → IsNotBefore d.leg
    legs d is = subst (λ (x : Call). IsNotBefore x.leg) (one (sym at ∙ is)) (subst IsNotBefore (sym decides) tt)
      where
        one : {x y : Call} → Some x ≡ Some y → x ≡ y
        one same = cc

    -- as a step that hears nothing
    pub goes_on_is : {v : World} → StepIs v decided_family later_step.family later_step.effects later_step.words
    goes_on_is =
        keeps_is laws decided_family e None
        (λ number other among. absurd (none_some (sym no_word ∙ (laws.votes.told decided_family e None number other (sound_by (answers.Stands at_record)) among).asked)))
        (sound_by (answers.Stands at_record))
        (closing_keeps decided_family o answer now None 0 still_waits
        (decided.votes_not laws.completions f n h c waits at decides there asks later_wants asked.r.index asked.voter vote heard_so later_there at_record)
        (then_wants (answers.Stands at_record) later later_there later_wants) (tidy_by (answers.Stands at_record)))
        (answer_asks decided_family o answer now 0 None still_waits legs ready)
