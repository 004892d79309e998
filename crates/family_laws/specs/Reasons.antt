-- What stands behind the outcome of a family: in its completion, and in its history (Transaction Service, the operations of
-- interfaces Resource, Synchronization and Terminator; that a mark and the end of the time roll a transaction back, and what becomes of
-- a record, is our profile).
use Rattle.std.specs.Prelude.{◌≡◌, ◌⊎◌, ℕ, Bool, true, false, List, [], ◌∷◌, ◌++◌, Option, Some, None}
use Rattle.std.specs.List.{Any}
use Rattle.ior_refs.specs.declared.key.ObjectKey.{ObjectKey}
use Rattle.ots_model.specs.Heard.{of_participant}
use Rattle.ots_model.specs.Numbered.{Outcome}
use Rattle.ots_model.specs.declared.completion.CallNumber.{CallNumber}
use Rattle.ots_model.specs.declared.completion.Heard.{Heard as ParticipantHeard}
use Rattle.ots_model.specs.declared.completion.Heard.TheVariants as phase_hears
use Rattle.ots_model.specs.declared.completion.Outcome.TheVariants as outcomes
use Rattle.ots_model.specs.declared.completion.Reason.TheVariants as phase_reasons
use Rattle.ots_model.specs.declared.completion.Stood.{Stood}
use Rattle.ots_model.specs.declared.completion.Stood.TheVariants as answers
use Rattle.ots_model.specs.declared.completion.Vote.TheVariants.{VoteRollback}
use Rattle.ots_model.specs.declared.tree.Heard.{Heard}
use Rattle.ots_model.specs.declared.tree.Heard.TheVariants as hears
use Rattle.ots_model.specs.declared.tree.Reason.{Reason}
use Rattle.ots_model.specs.declared.tree.Reason.TheVariants as reasons
use Rattle.two_phase.specs.LawsOfOutcomes as completions
use Rattle.two_phase.specs.Stages as stages
use Rattle.two_phase.specs.Stages.{Standing, Waiting, Going as UnderWay}
use Rattle.two_phase.specs.declared.party.Party.{Party}
use Rattle.coordinator.specs.declared.event.Act.{Act}
use Rattle.coordinator.specs.declared.event.Act.TheVariants as acts
use Rattle.coordinator.specs.declared.event.Event.{Event}
use Rattle.coordinator.specs.declared.said.Entry.{Entry}
use Rattle.coordinator.specs.Family.{Family, new_family}
use Rattle.coordinator.specs.Hearing.{is_plain}
use Rattle.coordinator.specs.Phases.{is_marked}
use Rattle.coordinator.specs.Step.{family_step, found_at, is_over}
use Rattle.family_laws.specs.Sound.{IsSoundFamily}

-- ---- in the history

-- the moment at which the time is over, once this came
abbrev pub dated : Act → Option ℕ → Option ℕ
dated (acts.Opened moment) deadline = moment
dated _ deadline = deadline

-- An entry of this kind stands in a history, behind which the time is over at this moment: it came last, or before that.
pub data HasCome (P : Option ℕ → Event → Option Stood → Type 0) : Option ℕ → List Entry → Type 0 where
  last : (deadline : Option ℕ) (entries : List Entry) (e : Entry) → P deadline e.event e.stood → HasCome P (dated e.event.act deadline) (entries ++ e ∷ [])
  earlier : (deadline : Option ℕ) (entries : List Entry) (e : Entry) → HasCome P deadline entries → HasCome P (dated e.event.act deadline) (entries ++ e ∷ [])

-- an answer of which this holds
pub record IsAnswer (Says : Heard → Type 0) (e : Event) : Type 0 where
  pub number : CallNumber
  pub heard : Heard
  pub answer : e.act ≡ acts.Answer number heard
  pub says : Says heard

-- a tick at or past the moment at which the time is over
abbrev pub IsPast : Option ℕ → Event → Type 0
IsPast deadline e = (e.act ≡ acts.Tick) × (is_over deadline e.now ≡ true)

abbrev pub IsRefusal : Heard → Type 0
IsRefusal heard = is_plain heard ≡ false

-- what marks the top-level transaction: rollback_only, the end of its time, or that a subtransaction's resource didn't take its commit
abbrev pub IsMark : Option ℕ → Event → Option Stood → Type 0
IsMark deadline e stood = ((e.act ≡ acts.RollbackOnly) × (e.branch ≡ 0)) ⊎ (IsPast deadline e ⊎ IsAnswer IsRefusal e)

abbrev pub is_starved : Heard → Bool
is_starved (hears.Phase phase_hears.Starved) = true
is_starved _ = false

-- what comes from outside for this reason; a root takes no words of a superior, and nobody enlists it
abbrev pub ComesFor : Reason → Option ℕ → Event → Option Stood → Type 0
ComesFor reasons.Asked deadline e stood = (e.act ≡ acts.Rollback) × (e.branch ≡ 0)
ComesFor reasons.Marked deadline e stood = IsMark deadline e stood
ComesFor reasons.Timeout deadline e stood = IsPast deadline e
ComesFor (reasons.SyncLost sync) deadline e stood = IsAnswer (λ h. IsRefusal h × (is_starved h ≡ false)) e
ComesFor (reasons.SyncStarved sync) deadline e stood = IsAnswer (λ h. is_starved h ≡ true) e
ComesFor _ deadline e stood = ⊥

-- what a completion keeps of what came: why it was rolled back from outside, what a participant has answered its first word, what the
-- journal answered, and what a reread found
pub data Fact : Type 0 where
  IsOver : (reason : Reason) → Fact
  IsHeard : (heard : ParticipantHeard) → Fact
  IsAsked : (stood : Stood) → Fact
  IsReread : (found : Option ℕ) → Fact

abbrev pub Keeps : Standing → Fact → Type 0
Keeps (Waiting room) x = ⊥
Keeps (UnderWay c) (IsOver reason) = c.overtaken ≡ Some reason
Keeps (UnderWay c) (IsHeard heard) = Any (λ (p : Party). p.ballot ≡ Some heard) c.parties
Keeps (UnderWay c) (IsAsked stood) = c.stood ≡ Some stood
Keeps (UnderWay c) (IsReread found) = c.reread ≡ Some found

-- the entry that it keeps this of
abbrev pub IsOf : Fact → Option ℕ → Event → Option Stood → Type 0
IsOf (IsOver reason) deadline e stood = ComesFor reason deadline e stood
IsOf (IsHeard heard) deadline e stood = IsAnswer (λ h. of_participant h ≡ heard) e
IsOf (IsAsked answer) deadline e stood = stood ≡ Some answer
IsOf (IsReread found) deadline e stood = ((stands : Bool) × (e.act ≡ acts.Reread stands)) × (found_at stood ≡ found)

abbrev pub Came : Fact → Family → Type 0
Came x f = HasCome (IsOf x) f.deadline f.entries

-- what a family is marked by has come, and what its completion keeps
pub record IsFounded (f : Family) : Type 0 where
  pub marked : is_marked f 0 ≡ true → Came (IsOver reasons.Marked) f
  pub kept : (x : Fact) → Keeps f.completion x → Came x f

-- ---- behind the outcome

-- An event of a reason's kind stands in the history. Whose answer it is isn't said: an entry has the number of the word, and not to whom it
-- went. The completion has that.
abbrev pub HasEvent : Reason → Family → Type 0
HasEvent (reasons.Phase (phase_reasons.Vote number)) f = Came (IsHeard (phase_hears.Voted VoteRollback)) f ⊎ Came (IsHeard phase_hears.RolledBack) f
HasEvent (reasons.Phase (phase_reasons.PrepareLost number)) f = Came (IsHeard phase_hears.Lost) f
HasEvent (reasons.Phase (phase_reasons.PrepareStarved number)) f = Came (IsHeard phase_hears.Starved) f
HasEvent (reasons.Phase (phase_reasons.PrepareFault number)) f = (heard : ParticipantHeard) × completions.IsFault heard × Came (IsHeard heard) f
HasEvent (reasons.Phase (phase_reasons.JournalFull used need)) f = Came (IsAsked (answers.Full used need)) f
HasEvent reasons.NotStored f = Came (IsReread None) f
HasEvent reason f = Came (IsOver reason) f

abbrev pub HasEvents : Outcome → Family → Type 0
HasEvents (outcomes.Rollback reason) f = HasEvent reason f
HasEvents _ f = Unit {0}

-- what stands behind an outcome in the completion
abbrev pub StandsIn : Outcome → Standing → Type 0
StandsIn fixed (Waiting room) = ⊥
StandsIn fixed (UnderWay c) = completions.StandsBehind fixed c

-- where the outcome is fixed, what it names stands behind it, and in the history an event of the kind of a rollback's reason
abbrev pub OutcomeIsCaused : Family → Type 0
OutcomeIsCaused f = (fixed : Outcome) → stages.outcome f.completion ≡ Some fixed → StandsIn fixed f.completion × HasEvents fixed f

-- a new family has its reasons, each step keeps them, and with them what a sound family's outcome names stands behind it
pub record FamiliesHaveCauses : Type 0 where
  pub new : (key : ObjectKey) (deadline : Option ℕ) → IsFounded (new_family key deadline)
  pub steps : (f : Family) (e : Event) (stood : Option Stood) → IsFounded f → IsFounded (family_step f e stood).family
  pub caused : (f : Family) → IsSoundFamily f → IsFounded f → OutcomeIsCaused f
