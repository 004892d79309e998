-- What lets a line pass, from what is plain to see in a short list.
use Rattle.std.proofs.Common.{◌≡◌, ℕ, false, ◌⊎◌, inl, inr, List, Some}
use Rattle.ots_model.specs.declared.line.Decision.TheVariants as decisions
use Rattle.ots_model.specs.declared.line.Line.{Line}
use Rattle.ots_model.specs.declared.line.Line.TheVariants as lines
use Rattle.ots_model.specs.Safe as safe
use Rattle.ots_model.specs.Safe.{Stands, IsToldCommit, IsFamily, HasConsented, IsDecidedBy, IsUnder, IsDecided}
use Rattle.ots_model.specs.SafeByLine.{IsCommittedBy, CanCommit, CanCommitAlone, CanRollBack, CanApply, CanUndo}
use Rattle.ots_model.specs.SafeExamples.{node, end, consents, records}
use Rattle.ots_model.proofs.SafeTests.{line_at, stands, any, commits, tells_commit, tells_rollback, applies, undoes, lets_decide, waits, not_sent, nothing_told, not_told_commit, not_told_rollback, not_applied, not_undone, registered_at, top_at, imported_at, EachRegistration, of_each}

-- a registration with a top-level transaction
pub committed_at : (n m : ℕ) (h : List Line) (g t : List ℕ) → line_at n h ≡ Some (lines.Reg g t end)
    → line_at m h ≡ Some (lines.Top t node) → IsCommittedBy g h
committed_at n m h g t r e = (t, registered_at n h g t end r, safe.IsCommittedUp.own t (inl (top_at m h t node e)))

pub under_top : (n m : ℕ) (h : List Line) (g t : List ℕ) → line_at n h ≡ Some (lines.Reg g t end)
    → line_at m h ≡ Some (lines.Top t node) → IsUnder g t t h
under_top n m h g t r e = record {
  transaction = t;
  registered = registered_at n h g t end r;
  of_family = safe.IsOf.own (inl (top_at m h t node e));
  decided = safe.alone (inl (top_at m h t node e));
}

-- a registration with an imported one
pub committed_in : (n m : ℕ) (h : List Line) (g f t : List ℕ) → line_at n h ≡ Some (lines.Reg g f end)
    → line_at m h ≡ Some (lines.Imp f t node) → IsCommittedBy g h
committed_in n m h g f t r i = (f, registered_at n h g f end r, safe.IsCommittedUp.own f (inr (t, imported_at m h f t node i)))

pub under_imported : (n m : ℕ) (h : List Line) (g f t d : List ℕ) → line_at n h ≡ Some (lines.Reg g f end)
    → line_at m h ≡ Some (lines.Imp f t node) → IsDecidedBy h d f → IsUnder g f d h
under_imported n m h g f t d r i by = record {
  transaction = f;
  registered = registered_at n h g f end r;
  of_family = safe.IsOf.own (inr (t, imported_at m h f t node i));
  decided = by;
}

-- an imported family that waits for its superior
pub decided_above : (n : ℕ) (h : List Line) (d f t : List ℕ) → line_at n h ≡ Some (lines.Imp f t node)
    → any (lets_decide f) h ≡ false → IsFamily t h → IsDecidedBy h d t → IsDecidedBy h d f
decided_above n h d f t e none family by =
    safe.superior f t t (waits f h none) (imported_at n h f t node e) (safe.IsOf.own family) by

-- where each registration has consented
pub all_have : (h : List Line) (f d : List ℕ) → Stands (records d) h → EachRegistration (λ g t. HasConsented g h) h → IsDecided f d h h
all_have h f d recorded each = record {
  recorded = recorded;
  consented = λ k p up below takes. of_each (λ g t. HasConsented g h) h p takes.0 takes.1.0 each takes.1.1;
}

pub consented_at : (n : ℕ) (h : List Line) (p : List ℕ) → line_at n h ≡ Some (consents p) → HasConsented p h
consented_at n h p e = inl (stands n h (consents p) e)

-- the words and the changes
pub can_commit : (h : List Line) (g f d : List ℕ) → any (tells_rollback g) h ≡ false → any (undoes g) h ≡ false → IsUnder g f d h
    → IsDecided f d h h → IsCommittedBy g h → CanCommit g h
can_commit h g f d untold kept under decided committed = record {
  one_way = not_told_rollback g h untold;
  not_undone = not_undone g h kept;
  family = f;
  decider = d;
  under = under;
  decided = decided;
  committed = committed;
}

pub can_commit_alone : (h : List Line) (g : List ℕ) → any (tells_rollback g) h ≡ false → any commits h ≡ false → IsCommittedBy g h → CanCommitAlone g h
can_commit_alone h g untold unsent committed = record {
  one_way = not_told_rollback g h untold;
  in_time = nothing_told g h unsent;
  committed = committed;
}

pub can_roll_back : (h : List Line) (g : List ℕ) → any (tells_commit g) h ≡ false → any (applies g) h ≡ false → CanRollBack g h
can_roll_back h g untold unapplied = record { one_way = not_told_commit g h untold; not_applied = not_applied g h unapplied }

pub can_apply : (h : List Line) (g : List ℕ) → any (undoes g) h ≡ false → any (tells_rollback g) h ≡ false
    → IsToldCommit g h ⊎ Stands (lines.Learn g decisions.Commit) h → CanApply g h
can_apply h g kept untold told = record { not_undone = not_undone g h kept; not_told = not_told_rollback g h untold; told = told }

pub can_undo : (h : List Line) (g : List ℕ) → any (applies g) h ≡ false → any commits h ≡ false → CanUndo g h
can_undo h g unapplied untold = record { not_applied = not_applied g h unapplied; not_told = not_sent g h untold }
