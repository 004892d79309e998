-- Safe lines, judged one at a time: what a line needs of those before it, so that they stay safe with it. A history is
-- a list of lines, the newest first. What is allowed line by line is safe; this is how a program that prints line by
-- line is shown to print safe lines (our profile).
use Rattle.std.specs.Prelude.{◌≡◌, ℕ, ◌⊎◌, Bool, true, false, List, [], ◌∷◌, reverse}
use Rattle.ots_model.specs.declared.completion.Word.{Word}
use Rattle.ots_model.specs.declared.completion.Word.TheVariants as words
use Rattle.ots_model.specs.declared.line.ResourceState.{ResourceState}
use Rattle.ots_model.specs.declared.line.ResourceState.TheVariants as states
use Rattle.ots_model.specs.declared.line.Decision.TheVariants as decisions
use Rattle.ots_model.specs.declared.line.Line.{Line}
use Rattle.ots_model.specs.declared.line.Line.TheVariants as lines
use Rattle.ots_model.specs.Safe.{Stands, IsSent, IsToldCommit, IsToldRollback, IsRegistered, IsTop, IsImported, IsOf, IsUpFrom, IsUnder, IsDecided, IsCommittedUp, AreSafe}

-- commit was told in a family that this one decides, or that has this one between it and its decider
pub record IsTold (f : List ℕ) (h : List Line) : Type 0 where
  pub registration : List ℕ
  pub family : List ℕ
  pub decider : List ℕ
  pub sent : IsSent words.Commit registration h
  pub under : IsUnder registration family decider h
  pub up : IsUpFrom h family f
  pub below : IsUpFrom h f decider

-- commit wasn't told yet in any family that the transaction is of
abbrev pub IsOpen : List ℕ → List Line → Type 0
IsOpen t h = (f : List ℕ) → IsOf h f t → IsTold f h → ⊥

-- no line speaks of the transaction yet
pub record IsNew (t : List ℕ) (h : List Line) : Type 0 where
  pub no_top : ¬ (IsTop t h)
  pub no_import : (superior : List ℕ) → ¬ (IsImported t superior h)
  pub no_import_of : (f : List ℕ) → ¬ (IsImported f t h)
  pub no_sub : (parent : List ℕ) → ¬ (Stands (lines.Sub t parent) h)
  pub no_sub_of : (s : List ℕ) → ¬ (Stands (lines.Sub s t) h)
  pub no_registration : (g : List ℕ) → ¬ (IsRegistered g t h)

-- what a registration needs: it is of no other transaction, and this one is open
pub record CanRegister (g t : List ℕ) (h : List Line) : Type 0 where
  pub of_one : (u : List ℕ) → IsRegistered g u h → u ≡ t
  pub in_time : IsOpen t h

-- it is registered with a transaction that was committed up to its family
abbrev pub IsCommittedBy : List ℕ → List Line → Type 0
IsCommittedBy g h = (t : List ℕ) × IsRegistered g t h × IsCommittedUp h h t

-- what a word needs; for commit a family of the registration and its decider are shown
pub record CanCommit (g : List ℕ) (h : List Line) : Type 0 where
  pub one_way : ¬ (IsToldRollback g h)
  pub not_undone : ¬ (Stands (lines.State g states.Undone) h)
  pub family : List ℕ
  pub decider : List ℕ
  pub under : IsUnder g family decider h
  pub decided : IsDecided family decider h h
  pub committed : IsCommittedBy g h

pub record CanCommitAlone (g : List ℕ) (h : List Line) : Type 0 where
  pub one_way : ¬ (IsToldRollback g h)
  pub in_time : ¬ (IsTold g h)
  pub committed : IsCommittedBy g h

pub record CanRollBack (g : List ℕ) (h : List Line) : Type 0 where
  pub one_way : ¬ (IsToldCommit g h)
  pub not_applied : ¬ (Stands (lines.State g states.Applied) h)

abbrev pub CanTell : Word → List ℕ → List Line → Type 0
CanTell words.Prepare g h = IsCommittedBy g h
CanTell words.Commit g h = CanCommit g h
CanTell words.CommitOnePhase g h = CanCommitAlone g h
CanTell words.Rollback g h = CanRollBack g h

-- what a change of a resource needs
pub record CanApply (g : List ℕ) (h : List Line) : Type 0 where
  pub not_undone : ¬ (Stands (lines.State g states.Undone) h)
  pub not_told : ¬ (IsToldRollback g h)
  pub told : IsToldCommit g h ⊎ Stands (lines.Learn g decisions.Commit) h

pub record CanUndo (g : List ℕ) (h : List Line) : Type 0 where
  pub not_applied : ¬ (Stands (lines.State g states.Applied) h)
  pub not_told : ¬ (IsSent words.Commit g h)

abbrev pub CanChange : ResourceState → List ℕ → List Line → Type 0
CanChange states.Applied g h = CanApply g h
CanChange states.Undone g h = CanUndo g h
CanChange _ g h = Unit {0}

-- what the end of a subtransaction needs: one that commits is still open
abbrev pub CanEnd : Bool → List ℕ → List Line → Type 0
CanEnd true t h = IsOpen t h
CanEnd false t h = Unit {0}

-- what a line needs of those before it
abbrev pub IsAllowed : Line → List Line → Type 0
IsAllowed (lines.Top t node) h = IsNew t h
IsAllowed (lines.Imp f t node) h = IsNew f h
IsAllowed (lines.Sub t parent) h = IsNew t h
IsAllowed (lines.Reg g t end) h = CanRegister g t h
IsAllowed (lines.SubDone t committed) h = CanEnd committed t h
IsAllowed (lines.Send message word g) h = CanTell word g h
IsAllowed (lines.State g state) h = CanChange state g h
IsAllowed _ h = Unit {0}

-- each line was allowed by those before it
abbrev pub AreAllowed : List Line → Type 0
AreAllowed [] = Unit {0}
AreAllowed (newest ∷ older) = IsAllowed newest older × AreAllowed older

-- what is allowed line by line is safe
abbrev pub AllowedIsSafe : Type 0
AllowedIsSafe = (h : List Line) → AreAllowed h → AreSafe (reverse h)
