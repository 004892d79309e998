-- What a step of a family is that answers no word, makes nothing and reads no journal.
use Rattle.std.proofs.Common.{◌≡◌, ◌⊎◌, inl, inr, ℕ, ◌+◌, Bool, true, false, if◌then◌else◌, List, [], ◌∷◌, length, map, slice_get, zero, suc, Contains, Option, Some, None, is_some, refl, sym, ap, subst, ◌∙◌, arith}
use Rattle.std.specs.List.{AllByRecursion, filter_map}
use Rattle.std.proofs.lemmas.List.Elements.{Contains-append_right, Contains-push_cases}
use Rattle.ots_model.specs.declared.completion.CallNumber.{CallNumber}
use Rattle.ots_model.specs.declared.completion.Heard.{Heard as ParticipantHeard}
use Rattle.ots_model.specs.declared.completion.Stood.{Stood}
use Rattle.ots_model.specs.declared.completion.Vote.{Vote}
use Rattle.ots_model.specs.declared.tree.Heard.{Heard}
use Rattle.ots_model.specs.Numbered.{Outcome}
use Rattle.ots_model.specs.declared.completion.Outcome.TheVariants as outcomes
use Rattle.ots_model.specs.declared.tree.Outward.{Outward}
use Rattle.ots_model.specs.declared.tree.Reason.{Reason}
use Rattle.ots_model.specs.declared.completion.Reason.TheVariants as phase_reasons
use Rattle.ots_model.specs.declared.tree.Reason.TheVariants as reasons
use Rattle.resource_votes.specs.Ballots.{participants}
use Rattle.resource_votes.specs.declared.registration.Registration.{Registration}
use Rattle.two_phase.specs.LawsOfOutcomes.{HasAnswered, HasCause}
use Rattle.two_phase.specs.Stages as stages
use Rattle.two_phase.specs.Stages.{Standing, Waiting, Going as UnderWay}
use Rattle.two_phase.specs.declared.party.Party.{Party}
use Rattle.coordinator.specs.declared.effect.Effect.{Effect}
use Rattle.coordinator.specs.declared.effect.Effect.TheVariants as effects
use Rattle.coordinator.specs.declared.event.Act.{Act}
use Rattle.coordinator.specs.declared.event.Act.TheVariants as acts
use Rattle.coordinator.specs.declared.event.Event.{Event}
use Rattle.coordinator.specs.declared.said.Entry.{Entry}
use Rattle.coordinator.specs.Family.{Family}
use Rattle.coordinator.specs.History.{kept_for}
use Rattle.coordinator.specs.Laws.{FamilyOutcomesStay, HistoriesGrowByEntries, IsThere}
use Rattle.coordinator.specs.Moves.{fixed_now}
use Rattle.coordinator.specs.Phases.{is_before}
use Rattle.coordinator.specs.Step.{Wanted, family_step, wanted, wanted_act}
use Rattle.family_laws.specs.LawsOfSteps.{EndInTurn, FamiliesEndInTurn, FamiliesStaySound, FamiliesWordsRest, WordsRest}
use Rattle.family_laws.specs.LawsOfTelling.{AreNumberedFrom, FamiliesNumberWords, FamiliesTellOutcomes, FamiliesTellVotes, decided_in, rows_told, IsVoted}
use Rattle.family_laws.specs.Sound.{HasParties, IsListed, IsSoundFamily, IsAsking}
use Rattle.nodes_world.specs.CompletionLaws.{CompletionLaws}
use Rattle.nodes_world.specs.Happenings.{Cast}
use Rattle.nodes_world.proofs.RowsEnd.{first_or_later}
use Rattle.nodes_world.proofs.RulesKeep.{IsKept, IsRegisteredTo, IsTidy, registered_of, IsPlainReason}
use Rattle.nodes_world.proofs.StepsKeep.{StepKeeps, is_steady, step_keeps}
use Rattle.nodes_world.specs.AgreementInside.{AreReady}
use Rattle.nodes_world.proofs.NumberedWords.{GoesOnAsking}
use Rattle.nodes_world.proofs.StepsAsk.{StepAsks, called_asks, steady_called}
use Rattle.ots_model.specs.declared.completion.Ground.TheVariants.{Record}
use Rattle.nodes_world.specs.Agreement.{HasGiven}
use Rattle.nodes_world.specs.World.{World, NamedKey, referred}

-- the laws of families that it goes by
pub record FamilyLaws : Type 0 where
  pub sound : FamiliesStaySound
  pub turns : FamiliesEndInTurn
  pub rest : FamiliesWordsRest
  pub numbers : FamiliesNumberWords
  pub outcomes : FamiliesTellOutcomes
  pub votes : FamiliesTellVotes
  pub stay : FamilyOutcomesStay
  pub grow : HistoriesGrowByEntries
  pub completions : CompletionLaws

-- a registration with a number is there
abbrev pub HasNumber : List Registration → ℕ → Type 0
HasNumber rs number = (r : Registration) × Contains rs r × (r.index ≡ number)

-- of whom the reason of a rollback speaks is registered
abbrev pub SpeaksOf : List Registration → Reason → Type 0
SpeaksOf rs (reasons.Phase (phase_reasons.Vote number)) = HasNumber rs number
SpeaksOf rs (reasons.Phase (phase_reasons.PrepareLost number)) = HasNumber rs number
SpeaksOf rs (reasons.Phase (phase_reasons.PrepareStarved number)) = HasNumber rs number
SpeaksOf rs (reasons.Phase (phase_reasons.PrepareFault number)) = HasNumber rs number
SpeaksOf rs _ = Unit {0}

-- whom the lines of a step speak of: the family, and who is registered with it
pub record IsCastOf (f : Family) (c : Cast) : Type 0 where
  pub key : c.key ≡ f.key
  pub registrations : c.registrations ≡ f.ballots.registrations

-- what a completion becomes, where that happened: votes stay, and others come to count that are told. No record comes to decide.
pub record IsStepKept (s t : Standing) (some : List Effect) : Type 0 where
  pub voted : (number : ℕ) (vote : Vote) → IsVoted s number vote → IsVoted t number vote
  pub votes : (number : ℕ) (vote : Vote) → IsVoted t number vote → IsVoted s number vote ⊎ Contains some (effects.Voted number vote)
  pub commits : stages.outcome t ≡ Some (outcomes.Commit Record) → stages.outcome s ≡ Some (outcomes.Commit Record)
  pub reasons : (why : Reason) → stages.outcome t ≡ Some (outcomes.Rollback why) → (stages.outcome s ≡ Some (outcomes.Rollback why)) ⊎ IsPlainReason why
  pub wants : stages.wants_decision s ≡ false → stages.wants_decision t ≡ false
  pub decides : IsAsking s → stages.decides_alone s ≡ true → IsAsking t × (stages.decides_alone t ≡ true)

pub kept_step : (s t : Standing) (some : List Effect) → IsKept s t → IsStepKept s t some
kept_step s t some kept = record {
  voted = kept.voted;
  votes = λ number vote voted. inl (kept.votes number vote voted);
  commits = kept.commits;
  reasons = kept.reasons;
  wants = kept.wants;
  decides = kept.decides;
}

-- a vote that is told: a participant was asked for it, and has given it; it counts from then on
pub record VoteIsHeard (w : World) (f g : Family) (number : ℕ) (vote : Vote) : Type 0 where
  pub r : Registration
  pub there : Contains (participants 0 f.ballots) r
  pub index : r.index ≡ number
  pub undecided : stages.outcome f.completion ≡ None
  pub counted : IsVoted g.completion number vote
  pub given : (x : NamedKey) → referred w r.to ≡ Some x → HasGiven w x.name vote

-- what a family becomes, what happened, and the words that go out
pub record StepIs (w : World) (f g : Family) (some : List Effect) (words : List Outward) : Type 0 where
  pub key : g.key ≡ f.key
  pub sound : IsSoundFamily g
  pub tidy : IsTidy g
  pub turn : EndInTurn (is_before f.stage) some f.rows
  pub rows : g.rows ≡ rows_told some f.rows
  pub registrations : g.ballots.registrations ≡ f.ballots.registrations
  pub on : (r : Registration) → IsListed f.ballots r → IsListed g.ballots r
  pub back : (r : Registration) → IsListed g.ballots r → IsListed f.ballots r
  pub kept : IsStepKept f.completion g.completion some
  pub speaks : (why : Reason) → stages.outcome g.completion ≡ Some (outcomes.Rollback why) → SpeaksOf g.ballots.registrations why
  pub heard : (number : ℕ) (vote : Vote) → Contains some (effects.Voted number vote) → VoteIsHeard w f g number vote
  pub outcomes : filter_map decided_in some ≡ filter_map decided_in (fixed_now (stages.outcome f.completion) (stages.outcome g.completion))
  pub stays : (fixed : Outcome) → stages.outcome f.completion ≡ Some fixed → stages.outcome g.completion ≡ Some fixed
  pub serial : g.serial ≡ f.serial + length words
  pub numbered : AreNumberedFrom f.key f.serial words
  pub rest : WordsRest g words
  pub leads : AllByRecursion (λ (o : Outward). IsRegisteredTo f.ballots.registrations o.to) words
  pub ready : AreReady g.serial g.calls
  pub asks : GoesOnAsking f g words

no_answer : (act : Act) → is_steady act ≡ true → (n : CallNumber) (h : Heard) → act ≡ acts.Answer n h → ⊥
no_answer act steady n h is = absurd (no (sym steady ∙ ap is_steady is))
  where
    no : true ≡ false → ⊥
    no e = cc

-- a participant of a completion is registered
registered_as : (all : List Registration) (ps : List Party) (rs : List Registration) (i : ℕ) (p : Party)
    → map (λ (x : Party). x.index) ps ≡ map (λ (x : Registration). x.index) rs → AllByRecursion (Contains all) rs → slice_get ps i ≡ Some p → HasNumber all p.index
registered_as all [] rs i p same there at = absurd cc
registered_as all (x ∷ ps) [] i p same there at = absurd cc
registered_as all (x ∷ ps) (r ∷ rs) zero p same (one, there) at = (r, one, sym (head_of same) ∙ ap (λ (y : Party). y.index) (inner at))
  where
    head_of : {a b : ℕ} {xs ys : List ℕ} → a ∷ xs ≡ b ∷ ys → a ≡ b
    head_of e = cc

    inner : {a b : Party} → Some a ≡ Some b → a ≡ b
    inner e = cc
registered_as all (x ∷ ps) (r ∷ rs) (suc i) p same (one, there) at = registered_as all ps rs i p (tail_of same) there at
  where
    tail_of : {a b : ℕ} {xs ys : List ℕ} → a ∷ xs ≡ b ∷ ys → xs ≡ ys
    tail_of e = cc

-- so are those of whom the reason of a rollback speaks
pub speaks_of : CompletionLaws → (g : Family) → IsSoundFamily g → (why : Reason) → stages.outcome g.completion ≡ Some (outcomes.Rollback why)
    → SpeaksOf g.ballots.registrations why
speaks_of completions g sound why is = by g.completion sound.completion.there sound.completion.parties is
  where
    by : (s : Standing) → IsThere s → HasParties s (participants 0 g.ballots) → stages.outcome s ≡ Some (outcomes.Rollback why) → SpeaksOf g.ballots.registrations why
    by (Waiting room) there parties is = absurd cc
    by (UnderWay c) there parties is = by_reason why (completions.causes c (outcomes.Rollback why) there is)
      where
        number_of : (number : ℕ) (h : ParticipantHeard) → HasAnswered number h c → HasNumber g.ballots.registrations number
        number_of number h answered =
            subst (HasNumber g.ballots.registrations) answered.named
            (registered_as g.ballots.registrations c.parties (participants 0 g.ballots) answered.place answered.party parties.0 (registered_of g 0) answered.there)

        by_reason : (reason : Reason) → HasCause reason c → SpeaksOf g.ballots.registrations reason
        by_reason (reasons.Phase (phase_reasons.Vote number)) (inl answered) = number_of number _ answered
        by_reason (reasons.Phase (phase_reasons.Vote number)) (inr (alone, answered)) = number_of number _ answered
        by_reason (reasons.Phase (phase_reasons.PrepareLost number)) answered = number_of number _ answered
        by_reason (reasons.Phase (phase_reasons.PrepareStarved number)) answered = number_of number _ answered
        by_reason (reasons.Phase (phase_reasons.PrepareFault number)) faulted = number_of number faulted.heard faulted.answer
        by_reason reasons.Asked cause = tt
        by_reason reasons.Marked cause = tt
        by_reason reasons.Timeout cause = tt
        by_reason (reasons.SyncLost number) cause = tt
        by_reason (reasons.SyncStarved number) cause = tt
        by_reason (reasons.Phase (phase_reasons.JournalFull used need)) cause = tt
        by_reason reasons.NotStored cause = tt
        by_reason reasons.Superior cause = tt
        by_reason reasons.NotEnlisted cause = tt

-- a step that keeps so much, and tells no vote
pub keeps_is : {w : World} → FamilyLaws → (f : Family) (e : Event) (stood : Option Stood)
    → ((number : ℕ) (vote : Vote) → Contains (family_step f e stood).effects (effects.Voted number vote) → ⊥) → IsSoundFamily f → StepKeeps f (family_step f e stood) → StepAsks f (family_step f e stood)
    → StepIs w f (family_step f e stood).family (family_step f e stood).effects (family_step f e stood).words
keeps_is laws f e stood no_votes sound x asks =
    record {
      key = laws.numbers.key f e stood;
      sound = laws.sound.steps f e stood sound;
      tidy = x.tidy;
      turn = laws.turns f e stood sound;
      rows = x.rows;
      registrations = x.registrations;
      on = x.on;
      back = x.back;
      kept = kept_step f.completion (family_step f e stood).family.completion (family_step f e stood).effects x.kept;
      speaks = speaks_of laws.completions (family_step f e stood).family (laws.sound.steps f e stood sound);
      heard = λ number vote among. absurd (no_votes number vote among);
      outcomes = laws.outcomes f e stood sound.completion.there;
      stays = λ fixed is. laws.stay f e stood fixed sound.completion.there is;
      serial = laws.numbers.serial f e stood;
      numbered = laws.numbers.numbers f e stood;
      rest = laws.rest f e stood sound;
      leads = x.words;
      ready = asks.ready;
      asks = asks.out;
    }

pub steady_is : {w : World} → FamilyLaws → (f : Family) (e : Event) (stood : Option Stood) → is_steady e.act ≡ true → IsSoundFamily f → IsTidy f → AreReady f.serial f.calls
    → StepIs w f (family_step f e stood).family (family_step f e stood).effects (family_step f e stood).words
steady_is laws f e stood steady sound tidy ready =
    keeps_is laws f e stood
    (λ number vote among. let heard = laws.votes.told f e stood number vote sound among in no_answer e.act steady heard.number _ heard.answer) sound
    (step_keeps f e stood steady tidy) (called_asks f e stood (steady_called e.act steady) ready)

-- an entry of a family then was there, or is of the event
pub entry_cases : FamilyLaws → (f : Family) (e : Event) (stood : Option Stood) (x : Entry) → Contains (family_step f e stood).family.entries x
    → Contains f.entries x ⊎ (x.event ≡ e)
entry_cases laws f e stood x among = elim (laws.grow f e stood) [
  | inl same ↦ inl (subst (λ (y : Family). Contains y.entries x) same among)
  | inr more ↦ elim (Contains-push_cases f.entries _ x (subst (λ (xs : List Entry). Contains xs x) more among)) [
    | inl was ↦ inl was
    | inr new ↦ inr (ap (λ (y : Entry). y.event) (sym new))
  ]
]

-- the journal is asked for nothing
either_none : (t : Bool) (o : Option Wanted) → o ≡ None → (if t then None else o) ≡ None
either_none true o none = refl
either_none false o none = none

act_wants : (act : Act) (f : Family) → is_steady act ≡ true → wanted_act act f ≡ None
act_wants (acts.Answer n h) f steady = absurd cc
act_wants (acts.Reread stands) f steady = absurd cc
act_wants _ f steady = refl

pub steady_wants : (f : Family) (e : Event) → is_steady e.act ≡ true → wanted f e ≡ None
unfolding wanted
steady_wants f e steady = either_none (is_some (kept_for f.entries e.key)) (wanted_act e.act f) (act_wants e.act f steady)

-- ---- outcomes

later : {A : Type 0} (x : A) (xs : List A) (y : A) → Contains xs y → Contains (x ∷ xs) y
later x xs y c = Contains-append_right (x ∷ []) xs y c

not_first : (e : Effect) (others : List Effect) (fixed : Outcome) → (e ≡ effects.Decided fixed → ⊥) → Contains (e ∷ others) (effects.Decided fixed)
    → Contains others (effects.Decided fixed)
not_first e others fixed other among = elim (first_or_later e _ others among) [
  | inl here ↦ absurd (other here)
  | inr behind ↦ behind
]

decided_among : (some : List Effect) (fixed : Outcome) → Contains (filter_map decided_in some) fixed → Contains some (effects.Decided fixed)
decided_among [] fixed among = let l = among.1 in absurd (omega (arith, l))
decided_among (effects.Voted g vote ∷ others) fixed among = later _ others _ (decided_among others fixed among)
decided_among (effects.Decided other ∷ others) fixed among = elim (first_or_later other fixed (filter_map decided_in others) among) [
  | inl here ↦ (0, omega arith, ap effects.Decided here)
  | inr behind ↦ later _ others _ (decided_among others fixed behind)
]
decided_among (effects.SubtransactionEnded b committed ∷ others) fixed among = later _ others _ (decided_among others fixed among)
decided_among (effects.Marked b ∷ others) fixed among = later _ others _ (decided_among others fixed among)
decided_among (effects.Doubted ∷ others) fixed among = later _ others _ (decided_among others fixed among)
decided_among (effects.Done ∷ others) fixed among = later _ others _ (decided_among others fixed among)

among_decided : (some : List Effect) (fixed : Outcome) → Contains some (effects.Decided fixed) → Contains (filter_map decided_in some) fixed
among_decided [] fixed among = let l = among.1 in absurd (omega (arith, l))
among_decided (effects.Decided other ∷ others) fixed among = elim (first_or_later (effects.Decided other) _ others among) [
  | inl here ↦ (0, omega arith, inner here)
  | inr behind ↦ later other (filter_map decided_in others) fixed (among_decided others fixed behind)
]
  where
    inner : effects.Decided other ≡ effects.Decided fixed → other ≡ fixed
    inner e = cc
among_decided (effects.Voted g vote ∷ others) fixed among = among_decided others fixed (not_first _ others fixed (λ e. cc) among)
among_decided (effects.SubtransactionEnded b committed ∷ others) fixed among = among_decided others fixed (not_first _ others fixed (λ e. cc) among)
among_decided (effects.Marked b ∷ others) fixed among = among_decided others fixed (not_first _ others fixed (λ e. cc) among)
among_decided (effects.Doubted ∷ others) fixed among = among_decided others fixed (not_first _ others fixed (λ e. cc) among)
among_decided (effects.Done ∷ others) fixed among = among_decided others fixed (not_first _ others fixed (λ e. cc) among)

new_only : (a b : Option Outcome) (fixed : Outcome) → Contains (filter_map decided_in (fixed_now a b)) fixed → (a ≡ None) × (b ≡ Some fixed)
new_only None None fixed among = let l = among.1 in absurd (omega (arith, l))
new_only None (Some other) fixed among = elim (first_or_later other fixed [] among) [
  | inl here ↦ (refl, ap (λ (x : Outcome). Some x) here)
  | inr behind ↦ let l = behind.1 in absurd (omega (arith, l))
]
new_only (Some other) b fixed among = let l = among.1 in absurd (omega (arith, l))

module _ (w : World) (f g : Family) (some : List Effect) (words : List Outward) (is : StepIs w f g some words) where
  -- what is told to be decided was not decided before, and is from then on
  pub decided_new : (fixed : Outcome) → Contains some (effects.Decided fixed) → (stages.outcome f.completion ≡ None) × (stages.outcome g.completion ≡ Some fixed)
  decided_new fixed among =
      new_only (stages.outcome f.completion) (stages.outcome g.completion) fixed (subst (λ (xs : List Outcome). Contains xs fixed) is.outcomes (among_decided some fixed among))

  pub new_decided : (fixed : Outcome) → stages.outcome f.completion ≡ None → stages.outcome g.completion ≡ Some fixed → Contains some (effects.Decided fixed)
  new_decided fixed none now = decided_among some fixed
      (subst (λ (xs : List Outcome). Contains xs fixed) (sym (is.outcomes ∙ both (stages.outcome f.completion) (stages.outcome g.completion) none now)) (0, omega arith, refl))
    where
      both : (a b : Option Outcome) → a ≡ None → b ≡ Some fixed → filter_map decided_in (fixed_now a b) ≡ fixed ∷ []
      both None (Some other) none now = ap (λ (x : Outcome). x ∷ []) (inner now)
        where
          inner : {x y : Outcome} → Some x ≡ Some y → x ≡ y
          inner e = cc
      both None None none now = absurd cc
      both (Some other) b none now = absurd cc
