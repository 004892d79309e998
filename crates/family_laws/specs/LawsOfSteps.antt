-- What a step of a family keeps, in which turn subtransactions end in it, and what each word rests on that it sends (Transaction
-- Service, nested transactions and the operations of interface Resource).
use Rattle.std.specs.Prelude.{◌≡◌, ◌≢◌, ◌⊎◌, ◌==◌, ℕ, Bool, true, false, List, [], ◌∷◌, Option, Some, None, Contains, IsTrue, if◌then◌else◌}
use Rattle.std.specs.List.{AllByRecursion}
use Rattle.ior_refs.specs.declared.key.ObjectKey.{ObjectKey}
use Rattle.ots_model.specs.declared.completion.Ground.TheVariants.{Record}
use Rattle.ots_model.specs.declared.completion.Stood.{Stood}
use Rattle.ots_model.specs.declared.completion.Vote.TheVariants.{VoteCommit}
use Rattle.ots_model.specs.Numbered.{Outcome}
use Rattle.ots_model.specs.declared.completion.Outcome.TheVariants as outcomes
use Rattle.ots_model.specs.declared.tree.Outward.{Outward}
use Rattle.ots_model.specs.declared.completion.Word.TheVariants as phase_words
use Rattle.ots_model.specs.declared.tree.Word.TheVariants as words
use Rattle.resource_votes.specs.Ballots.{Ballots, participants}
use Rattle.resource_votes.specs.declared.registration.Registration.{Registration}
use Rattle.txn_tree.specs.Calls.{ended, marked, is_marked}
use Rattle.txn_tree.specs.Rows.{is_live_branch, parent, state}
use Rattle.txn_tree.specs.declared.row.Row.{Row}
use Rattle.two_phase.specs.Course as course
use Rattle.two_phase.specs.Stages as stages
use Rattle.two_phase.specs.Stages.{Standing, Waiting, Going as UnderWay}
use Rattle.coordinator.specs.declared.effect.Effect.{Effect}
use Rattle.coordinator.specs.declared.effect.Effect.TheVariants as effects
use Rattle.coordinator.specs.declared.event.Event.{Event}
use Rattle.coordinator.specs.Family.{Family, new_family}
use Rattle.coordinator.specs.Phases.{is_before}
use Rattle.coordinator.specs.Step.{family_step}
use Rattle.family_laws.specs.LawsOfTelling.{IsVoted}
use Rattle.family_laws.specs.Sound.{IsListed, IsSoundFamily}
use Rattle.family_laws.specs.Trees.{IsCutOff, UpToIsCommittedUp}

-- a new family is sound, and so is each one that a step leaves of a sound one; and what its lists go by is the relation that
-- trees have
pub record FamiliesStaySound : Type 0 where
  pub new : (key : ObjectKey) (deadline : Option ℕ) → IsSoundFamily (new_family key deadline)
  pub steps : (f : Family) (e : Event) (stood : Option Stood) → IsSoundFamily f → IsSoundFamily (family_step f e stood).family
  pub chains : UpToIsCommittedUp

-- a parent has not ended, where this tells whether the top-level transaction hasn't
abbrev pub IsOpenParent : Bool → List Row → Option ℕ → Type 0
IsOpenParent early rs None = ⊥
IsOpenParent early rs (Some p) = IsTrue (if p == 0 then early else is_live_branch rs p)

-- one that ends was live; one that commits has a parent that has not ended
abbrev pub MayEnd : Bool → List Row → ℕ → Bool → Type 0
MayEnd early rs b true = IsTrue (is_live_branch rs b) × IsOpenParent early rs (parent rs b)
MayEnd early rs b false = IsTrue (is_live_branch rs b)

-- one that is marked was live and not marked yet, so a step marks it once
abbrev pub MayBeMarked : List Row → ℕ → Type 0
MayBeMarked rs b = IsTrue (is_live_branch rs b) × (is_marked (state rs b) ≡ false)

abbrev pub EndInTurn : Bool → List Effect → List Row → Type 0
EndInTurn early [] rs = Unit {0}
EndInTurn early (effects.Voted g vote ∷ others) rs = EndInTurn early others rs
EndInTurn early (effects.Decided fixed ∷ others) rs = EndInTurn early others rs
EndInTurn early (effects.SubtransactionEnded b committed ∷ others) rs = MayEnd early rs b committed × EndInTurn early others (ended rs b committed)
EndInTurn early (effects.Marked b ∷ others) rs = MayBeMarked rs b × EndInTurn early others (marked rs b)
EndInTurn early (effects.Doubted ∷ others) rs = EndInTurn early others rs
EndInTurn early (effects.Done ∷ others) rs = EndInTurn early others rs

-- each subtransaction that ends in a step was live, and where it is committed its parent has not ended; each transaction that is
-- marked was live and not marked
abbrev pub FamiliesEndInTurn : Type 0
FamiliesEndInTurn = (f : Family) (e : Event) (stood : Option Stood) → IsSoundFamily f
    → EndInTurn (is_before f.stage) (family_step f e stood).effects f.rows

-- the outcome is rollback
abbrev pub IsRolledBack : Option Outcome → Type 0
IsRolledBack (Some (outcomes.Rollback reason)) = Unit {0}
IsRolledBack _ = ⊥

-- a completion whose only participant was not told to decide alone
abbrev pub IsNotAlone : Standing → Type 0
IsNotAlone (Waiting room) = Unit {0}
IsNotAlone (UnderWay c) = (course.decides_alone c ≡ false) ⊎ (c.overtaken ≢ None)

-- rollback goes to a participant of a family that is rolled back, and was not told to decide alone, or to one that is cut off;
-- it is in the list of some branch
pub record GoesBack (s : Standing) (some : Ballots) (rs : List Row) (o : Outward) : Type 0 where
  pub r : Registration
  pub there : Contains some.registrations r
  pub listed : IsListed some r
  pub number : r.index ≡ o.registration
  pub reference : r.to ≡ o.to
  pub over : (IsRolledBack (stages.outcome s) × IsNotAlone s × Contains (participants 0 some) r) ⊎ IsCutOff rs r.branch

-- prepare and the commit words go to participants of the top-level transaction
pub record GoesToParticipant (some : Ballots) (o : Outward) : Type 0 where
  pub r : Registration
  pub there : Contains (participants 0 some) r
  pub number : r.index ≡ o.registration
  pub reference : r.to ≡ o.to

-- where the outcome is open, one is asked, or decides alone; commit goes out where it is commit by a record, to one that voted
-- commit
pub record AsksRightly (s : Standing) (some : Ballots) (o : Outward) : Type 0 where
  pub prepare : o.word ≡ words.Phase phase_words.Prepare → GoesToParticipant some o × (stages.outcome s ≡ None)
  pub alone : o.word ≡ words.Phase phase_words.CommitOnePhase → GoesToParticipant some o × (stages.outcome s ≡ None) × (stages.decides_alone s ≡ true)
  pub commit : o.word ≡ words.Phase phase_words.Commit → GoesToParticipant some o × (stages.outcome s ≡ Some (outcomes.Commit Record)) × IsVoted s o.registration VoteCommit

-- what each word of a family rests on
pub record Rests (s : Standing) (some : Ballots) (rs : List Row) (o : Outward) : Type 0 where
  pub back : o.word ≡ words.Phase phase_words.Rollback → GoesBack s some rs o
  pub asks : AsksRightly s some o

abbrev pub WordsRest : Family → List Outward → Type 0
WordsRest later some = AllByRecursion (Rests later.completion later.ballots later.rows) some

-- the words of each step do, by the family that it leaves
abbrev pub FamiliesWordsRest : Type 0
FamiliesWordsRest = (f : Family) (e : Event) (stood : Option Stood) → IsSoundFamily f
    → WordsRest (family_step f e stood).family (family_step f e stood).words
