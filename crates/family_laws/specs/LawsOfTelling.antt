-- What a step of a family tells of what it did, and how its words are numbered (our profile; the votes and outcomes of interface
-- Resource of the Transaction Service).
use Rattle.std.specs.Prelude.{◌≡◌, ◌+◌, ◌⊎◌, ℕ, false, List, [], ◌∷◌, length, Option, Some, None, Contains}
use Rattle.std.specs.List.{Any, filter_map, slice_get}
use Rattle.std.specs.Option.{option_and_then, option_map}
use Rattle.ior_refs.specs.declared.key.ObjectKey.{ObjectKey}
use Rattle.ots_model.specs.Heard.{of_participant}
use Rattle.ots_model.specs.declared.completion.CallNumber.{CallNumber}
use Rattle.ots_model.specs.declared.completion.Heard.{Heard}
use Rattle.ots_model.specs.declared.completion.Heard.TheVariants as phase_hears
use Rattle.ots_model.specs.declared.completion.Stood.{Stood}
use Rattle.ots_model.specs.declared.completion.Vote.{Vote}
use Rattle.ots_model.specs.declared.tree.Heard.{Heard as TreeHeard}
use Rattle.ots_model.specs.declared.tree.Heard.TheVariants as hears_words
use Rattle.ots_model.specs.Numbered.{Outcome}
use Rattle.ots_model.specs.declared.tree.Outward.{Outward}
use Rattle.txn_tree.specs.Calls.{created, ended, marked}
use Rattle.txn_tree.specs.declared.row.Row.{Row}
use Rattle.two_phase.specs.Course.{Course}
use Rattle.two_phase.specs.Stages as stages
use Rattle.two_phase.specs.Stages.{Standing, Waiting, Going as UnderWay}
use Rattle.two_phase.specs.declared.party.Errand.{Errand}
use Rattle.two_phase.specs.declared.party.Party.{Party}
use Rattle.two_phase.specs.declared.party.Stage.TheVariants as rounds
use Rattle.coordinator.specs.declared.effect.Effect.{Effect}
use Rattle.coordinator.specs.declared.effect.Effect.TheVariants as effects
use Rattle.coordinator.specs.declared.event.Act.{Act}
use Rattle.coordinator.specs.declared.event.Act.TheVariants as acts
use Rattle.coordinator.specs.declared.event.Event.{Event}
use Rattle.coordinator.specs.Family.{Family, waiting_for}
use Rattle.coordinator.specs.Laws.{IsThere}
use Rattle.coordinator.specs.Moves.{fixed_now}
use Rattle.coordinator.specs.Step.{family_step}
use Rattle.family_laws.specs.Sound.{IsSoundFamily}

-- the rows once these ends and marks were told
abbrev pub rows_told : List Effect → List Row → List Row
rows_told [] rs = rs
rows_told (effects.Voted g vote ∷ others) rs = rows_told others rs
rows_told (effects.Decided fixed ∷ others) rs = rows_told others rs
rows_told (effects.SubtransactionEnded b committed ∷ others) rs = rows_told others (ended rs b committed)
rows_told (effects.Marked b ∷ others) rs = rows_told others (marked rs b)
rows_told (effects.Doubted ∷ others) rs = rows_told others rs
rows_told (effects.Done ∷ others) rs = rows_told others rs

-- what ends or is marked is told; else nothing is told, and a subtransaction is made or the tree is as it was
abbrev pub FamiliesTellEnds : Type 0
FamiliesTellEnds = (f : Family) (e : Event) (stood : Option Stood)
    → ((family_step f e stood).family.rows ≡ rows_told (family_step f e stood).effects f.rows)
    ⊎ (((family_step f e stood).effects ≡ []) × ((family_step f e stood).family.rows ≡ created f.rows e.branch))

-- words of a family with this key have the next numbers, one after another
abbrev pub AreNumberedFrom : ObjectKey → ℕ → List Outward → Type 0
AreNumberedFrom key serial [] = Unit {0}
AreNumberedFrom key serial (o ∷ others) =
    (o.number ≡ record { life = key.life; slot = key.slot; generation = key.generation; serial = serial + 1 })
    × AreNumberedFrom key (serial + 1) others

-- those of a step do, it counts them, and the key stays
pub record FamiliesNumberWords : Type 0 where
  pub numbers : (f : Family) (e : Event) (stood : Option Stood) → AreNumberedFrom f.key f.serial (family_step f e stood).words
  pub serial : (f : Family) (e : Event) (stood : Option Stood)
      → (family_step f e stood).family.serial ≡ f.serial + length (family_step f e stood).words
  pub key : (f : Family) (e : Event) (stood : Option Stood) → (family_step f e stood).family.key ≡ f.key

-- an outcome is told exactly where a step fixes it
abbrev pub decided_in : Effect → Option Outcome
decided_in (effects.Decided fixed) = Some fixed
decided_in _ = None

abbrev pub FamiliesTellOutcomes : Type 0
FamiliesTellOutcomes = (f : Family) (e : Event) (stood : Option Stood) → IsThere f.completion
    → filter_map decided_in (family_step f e stood).effects
    ≡ filter_map decided_in (fixed_now (stages.outcome f.completion) (stages.outcome (family_step f e stood).family.completion))

-- a participant of this number has this vote
abbrev pub HasVote : ℕ → Vote → Party → Type 0
HasVote g vote p = (p.index ≡ g) × (p.ballot ≡ Some (phase_hears.Voted vote))

abbrev pub IsVoted : Standing → ℕ → Vote → Type 0
IsVoted (Waiting room) g vote = ⊥
IsVoted (UnderWay c) g vote = Any (HasVote g vote) c.parties

-- a vote is heard by the answer to the word that asked that participant, and counts from then on
pub record IsHeardVote (f later : Family) (act : Act) (g : ℕ) (vote : Vote) : Type 0 where
  pub number : CallNumber
  pub answer : act ≡ acts.Answer number (hears_words.Phase (phase_hears.Voted vote))
  pub waited : waiting_for f number ≡ Some 0
  pub asked : stages.voter f.completion ≡ Some g
  pub counted : IsVoted later.completion g vote

-- a vote is told where it is heard; and where no participant decides alone, only a vote that is told counts: what one that was
-- told commit_one_phase answers is no vote
pub record FamiliesTellVotes : Type 0 where
  pub told : (f : Family) (e : Event) (stood : Option Stood) (g : ℕ) (vote : Vote) → IsSoundFamily f
      → Contains (family_step f e stood).effects (effects.Voted g vote) → IsHeardVote f (family_step f e stood).family e.act g vote
  pub counted : (f : Family) (e : Event) (stood : Option Stood) (g : ℕ) (vote : Vote) → IsSoundFamily f
      → stages.decides_alone (family_step f e stood).family.completion ≡ false
      → IsVoted (family_step f e stood).family.completion g vote
      → IsVoted f.completion g vote ⊎ Contains (family_step f e stood).effects (effects.Voted g vote)

-- a participant of this number has answered so the word that told it the outcome
abbrev pub HasAnswered : ℕ → Heard → Party → Type 0
HasAnswered g heard p = (p.index ≡ g) × (p.told ≡ Some heard)

abbrev pub IsAnswered : Standing → ℕ → Heard → Type 0
IsAnswered (Waiting room) g heard = ⊥
IsAnswered (UnderWay c) g heard = Any (HasAnswered g heard) c.parties

-- the number of the participant to which the word that is out tells the outcome
abbrev pub told_at : Course → Errand → Option ℕ
told_at c e = elim e.stage [
  | rounds.Asking ↦ None
  | rounds.Telling ↦ option_map (λ (p : Party). p.index) (slice_get c.parties e.place)
  | rounds.Forgetting ↦ None
]

abbrev pub told_now : Standing → Option ℕ
told_now (Waiting room) = None
told_now (UnderWay c) = option_and_then (told_at c) c.out

-- that participant answers now, and the call at the decision waits for it
pub record IsAnsweredNow (f : Family) (act : Act) (g : ℕ) (heard : Heard) : Type 0 where
  pub number : CallNumber
  pub answer : TreeHeard
  pub is : act ≡ acts.Answer number answer
  pub says : of_participant answer ≡ heard
  pub waited : waiting_for f number ≡ Some 0
  pub told : told_now f.completion ≡ Some g

-- an answer to the word that told the outcome counts only if its participant has given it while that word was out
abbrev pub FamiliesHearOutcomesAnswered : Type 0
FamiliesHearOutcomesAnswered = (f : Family) (e : Event) (stood : Option Stood) (g : ℕ) (heard : Heard) → IsSoundFamily f
    → IsAnswered (family_step f e stood).family.completion g heard
    → IsAnswered f.completion g heard ⊎ IsAnsweredNow f e.act g heard
