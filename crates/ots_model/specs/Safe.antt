-- What it means that lines are safe: the agreement of a transaction's participants (Transaction Service, the two
-- phases of interfaces Terminator, Coordinator and Resource), said over the printed lines alone, in the order in which
-- they are printed. Who is registered, who is of a family, who takes part in it and who decides it is read from all of
-- the lines, also from those behind the line that is judged; "before" is said where something must have come first.
use Rattle.std.specs.Prelude.{◌≡◌, ℕ, ◌⊎◌, true, List, [], ◌∷◌, ◌++◌}
use Rattle.ots_model.specs.declared.completion.Vote.TheVariants.{VoteCommit, VoteReadOnly}
use Rattle.ots_model.specs.declared.completion.Word.{Word}
use Rattle.ots_model.specs.declared.completion.Word.TheVariants as words
use Rattle.ots_model.specs.declared.completion.Ground.TheVariants.{Record}
use Rattle.ots_model.specs.declared.completion.Outcome.TheVariants as outcomes
use Rattle.ots_model.specs.declared.line.ResourceState.TheVariants as states
use Rattle.ots_model.specs.declared.line.Decision.TheVariants as decisions
use Rattle.ots_model.specs.declared.line.Line.{Line}
use Rattle.ots_model.specs.declared.line.Line.TheVariants as lines

-- the line stands among these
abbrev pub Stands : Line → List Line → Type 0
Stands line [] = ⊥
Stands line (first ∷ others) = (first ≡ line) ⊎ Stands line others

-- the registration was told this word
abbrev pub IsSent : Word → List ℕ → List Line → Type 0
IsSent word g all = (message : ℕ) × Stands (lines.Send message word g) all

-- it was told a commit word: commit, or commit_one_phase
abbrev pub IsToldCommit : List ℕ → List Line → Type 0
IsToldCommit g all = IsSent words.Commit g all ⊎ IsSent words.CommitOnePhase g all

-- it was told rollback
abbrev pub IsToldRollback : List ℕ → List Line → Type 0
IsToldRollback g all = IsSent words.Rollback g all

-- the registration is of this transaction
abbrev pub IsRegistered : List ℕ → List ℕ → List Line → Type 0
IsRegistered g t all = (end : List ℕ) × Stands (lines.Reg g t end) all

-- a top-level transaction
abbrev pub IsTop : List ℕ → List Line → Type 0
IsTop f all = (node : List ℕ) × Stands (lines.Top f node) all

-- an imported transaction, which takes part in the one of that name
abbrev pub IsImported : List ℕ → List ℕ → List Line → Type 0
IsImported f t all = (node : List ℕ) × Stands (lines.Imp f t node) all

-- a family is a top-level transaction or an imported one
abbrev pub IsFamily : List ℕ → List Line → Type 0
IsFamily f all = IsTop f all ⊎ ((t : List ℕ) × IsImported f t all)

-- the transaction is of the family: it is the family's own name, or a subtransaction of one that is of the family
pub data IsOf (all : List Line) (f : List ℕ) : List ℕ → Type 0 where
  own : IsFamily f all → IsOf all f f
  child : (t parent : List ℕ) → Stands (lines.Sub t parent) all → IsOf all f parent → IsOf all f t

-- the transaction is joined to the family: it is the family's own name, or was committed into one that is joined to it
pub data IsJoined (all : List Line) (f : List ℕ) : List ℕ → Type 0 where
  own : IsFamily f all → IsJoined all f f
  committed : (t parent : List ℕ) → Stands (lines.SubDone t true) all → Stands (lines.Sub t parent) all
      → IsJoined all f parent → IsJoined all f t

-- the registration takes part in the family: its transaction is joined to it
abbrev pub TakesPart : List ℕ → List ℕ → List Line → Type 0
TakesPart g f all = (t : List ℕ) × IsRegistered g t all × IsJoined all f t

-- the transaction was committed up to its family, by lines before: it is a family's own name, or was committed as a
-- subtransaction of one that was so
pub data IsCommittedUp (all before : List Line) : List ℕ → Type 0 where
  own : (t : List ℕ) → IsFamily t all → IsCommittedUp all before t
  committed : (t parent : List ℕ) → Stands (lines.SubDone t true) before → Stands (lines.Sub t parent) all
      → IsCommittedUp all before parent → IsCommittedUp all before t

-- a family decides for itself, and nobody for it, where it is a top-level transaction or was told commit_one_phase
abbrev pub DecidesAlone : List ℕ → List Line → Type 0
DecidesAlone f all = IsTop f all ⊎ IsSent words.CommitOnePhase f all

-- who decides a family: itself, where it decides alone; else the decider of the family that it takes part in
pub data IsDecidedBy (all : List Line) (d : List ℕ) : List ℕ → Type 0 where
  alone : DecidesAlone d all → IsDecidedBy all d d
  superior : (f t above : List ℕ) → ¬ (DecidesAlone f all) → IsImported f t all → IsOf all above t
      → IsDecidedBy all d above → IsDecidedBy all d f

-- the family itself, or the one that it takes part in, or the one that that one takes part in, and so on
pub data IsUpFrom (all : List Line) : List ℕ → List ℕ → Type 0 where
  itself : (f : List ℕ) → IsUpFrom all f f
  above : (f t next x : List ℕ) → IsImported f t all → IsOf all next t → IsUpFrom all next x → IsUpFrom all f x

-- the registration has voted, and not for rollback
abbrev pub HasConsented : List ℕ → List Line → Type 0
HasConsented g before = Stands (lines.Voted g VoteCommit) before ⊎ Stands (lines.Voted g VoteReadOnly) before

-- One way: no registration is told both a commit word and rollback.
abbrev pub IsOneWay : List Line → Type 0
IsOneWay all = (g : List ℕ) → IsToldCommit g all → IsToldRollback g all → ⊥

-- the registration is of the family, and that one decides it
pub record IsUnder (g family decider : List ℕ) (all : List Line) : Type 0 where
  pub transaction : List ℕ
  pub registered : IsRegistered g transaction all
  pub of_family : IsOf all family transaction
  pub decided : IsDecidedBy all decider family

-- The commit of a family is decided: before, the decision of its decider was recorded, and each participant of the
-- family, of the decider and of each family between has consented.
pub record IsDecided (family decider : List ℕ) (before all : List Line) : Type 0 where
  pub recorded : Stands (lines.Decide decider (outcomes.Commit Record)) before
  pub consented : (f p : List ℕ) → IsUpFrom all family f → IsUpFrom all f decider → TakesPart p f all
      → HasConsented p before

-- The registration is of a family that has a decider, and its commit is decided, whichever family and decider the lines
-- give it.
pub record IsDue (g : List ℕ) (before all : List Line) : Type 0 where
  pub of_family : (family : List ℕ) × (decider : List ℕ) × IsUnder g family decider all
  pub decided : (family decider : List ℕ) → IsUnder g family decider all → IsDecided family decider before all

-- By decision: each word commit goes to a registration whose family's commit is decided.
abbrev pub IsByDecision : List Line → Type 0
IsByDecision all = (before behind : List Line) (message : ℕ) (g : List ℕ)
    → all ≡ before ++ (lines.Send message words.Commit g ∷ behind) → IsDue g before all

-- the words that are for participants alone
abbrev pub IsForParticipants : Word → Type 0
IsForParticipants words.Prepare = Unit {0}
IsForParticipants words.Commit = Unit {0}
IsForParticipants words.CommitOnePhase = Unit {0}
IsForParticipants words.Rollback = ⊥

-- it is registered, and whatever transaction it is of was committed up to its family, by lines before
pub record IsCommitted (g : List ℕ) (before all : List Line) : Type 0 where
  pub registered : (t : List ℕ) × IsRegistered g t all
  pub up : (t : List ℕ) → IsRegistered g t all → IsCommittedUp all before t

-- To participants: prepare and the commit words are told to registrations whose transaction was committed up to its
-- family.
abbrev pub IsToParticipants : List Line → Type 0
IsToParticipants all = (before behind : List Line) (message : ℕ) (word : Word) (g : List ℕ) → IsForParticipants word
    → all ≡ before ++ (lines.Send message word g ∷ behind) → IsCommitted g before all

-- Kept: no registration is both applied and undone, none is undone that was told commit, none is applied that was told
-- rollback, and each is applied only after a commit word was told to it, or it has learnt commit.
pub record IsKept (all : List Line) : Type 0 where
  pub one_state : (g : List ℕ) → Stands (lines.State g states.Applied) all → Stands (lines.State g states.Undone) all
      → ⊥
  pub not_undone : (g : List ℕ) → IsSent words.Commit g all → Stands (lines.State g states.Undone) all → ⊥
  pub not_applied : (g : List ℕ) → IsToldRollback g all → Stands (lines.State g states.Applied) all → ⊥
  pub told_first : (before behind : List Line) (g : List ℕ) → all ≡ before ++ (lines.State g states.Applied ∷ behind)
      → IsToldCommit g before ⊎ Stands (lines.Learn g decisions.Commit) before

-- the lines agree on what became of each transaction
pub record DoAgree (all : List Line) : Type 0 where
  pub one_way : IsOneWay all
  pub by_decision : IsByDecision all
  pub to_participants : IsToParticipants all
  pub kept : IsKept all

-- the lines are safe: each front of them agrees
abbrev pub AreSafe : List Line → Type 0
AreSafe all = (front behind : List Line) → all ≡ front ++ behind → DoAgree front
