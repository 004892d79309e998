-- What is allowed line by line is safe.
use Rattle.std.proofs.Common.{◌≡◌, ℕ, inl, inr, List, [], ◌∷◌, ◌++◌, refl, sym, ◌∙◌, subst}
use Rattle.ots_model.specs.declared.completion.Word.TheVariants as words
use Rattle.ots_model.specs.declared.line.ResourceState.TheVariants as states
use Rattle.ots_model.specs.declared.line.Line.{Line}
use Rattle.ots_model.specs.declared.line.Line.TheVariants as lines
use Rattle.ots_model.specs.Safe.{Stands, IsSent, IsToldCommit, IsToldRollback, IsCommittedUp, IsDecided, IsDue, IsCommitted}
use Rattle.ots_model.specs.SafeByLine.{CanCommit, IsCommittedBy, IsAllowed, AreAllowed}
use Rattle.ots_model.proofs.SafeCarried.{is_registered, is_committed_up}
use Rattle.ots_model.proofs.SafeNewest.{Any}
use Rattle.ots_model.proofs.SafeAlike.{AreAmong, IsDueNow, alike_on, carries_among, due_alike}
use Rattle.ots_model.proofs.SafeStays.{stays}
use Rattle.ots_model.proofs.SafeOnce.{one_transaction, under_one_family, under_one_decider}

-- where a line stands
pub stands_at : (later before : List Line) (x : Line) → Stands x (later ++ (x ∷ before))
stands_at [] before x = inl refl
stands_at (y ∷ later) before x = inr (stands_at later before x)

among_at : (later before : List Line) (x : Line) → AreAmong before (later ++ (x ∷ before))
among_at [] before x line s = inr s
among_at (y ∷ later) before x line s = inr (among_at later before x line s)

-- it was allowed by those before
pub allowed_at : (later before : List Line) (x : Line) → AreAllowed (later ++ (x ∷ before)) → IsAllowed x before
allowed_at [] before x a = a.0
allowed_at (y ∷ later) before x a = allowed_at later before x a.1

-- commit is due where it was told
pub due_at : (later before : List Line) (message : ℕ) (g : List ℕ) → AreAllowed (later ++ (lines.Send message words.Commit g ∷ before))
    → IsDueNow g before (later ++ (lines.Send message words.Commit g ∷ before))
due_at [] before message g a =
    let x : Line = lines.Send message words.Commit g in
    let can : CanCommit g before = a.0 in
    due_alike before (x ∷ before) before before g (alike_on x before refl) (λ line s. s)
    (record { family = can.family; decider = can.decider; under = can.under; decided = can.decided })
due_at (y ∷ later) before message g a =
    stays y (later ++ (lines.Send message words.Commit g ∷ before)) before g a.0 (message, stands_at later before (lines.Send message words.Commit g)) (due_at later before message g a.1)

-- whatever family it is said to be of
pub due_whole : (h before : List Line) (g : List ℕ) → AreAllowed h → IsDueNow g before h → IsDue g before h
due_whole h before g a d = record {
  of_family = (d.family, d.decider, d.under);
  decided = λ f e u.
      let same_family = under_one_family h g d.family d.decider f e a d.under u in
      let same_decider = under_one_decider h g d.family d.decider f e a d.under u in
      subst (λ (x : List ℕ). IsDecided f x before h) same_decider (subst (λ (x : List ℕ). IsDecided x d.decider before h) same_family d.decided);
}

pub committed_whole : (later before : List Line) (x : Line) (g : List ℕ) → AreAllowed (later ++ (x ∷ before)) → IsCommittedBy g before → IsCommitted g before (later ++ (x ∷ before))
committed_whole later before x g a (t, registered, up) =
    let h = later ++ (x ∷ before) in
    let among = among_at later before x in
    let here = is_registered before h g t (λ k u end s. among (lines.Reg k u end) s) registered in
    let up_here = is_committed_up Any before h before before t (carries_among before h among) (λ u s. s) tt up in
    record {
      registered = (t, here);
      up = λ u other. subst (λ (v : List ℕ). IsCommittedUp h before v) (one_transaction h g t u a here other) up_here;
    }

-- two lines of which each must stand without the other never stand together
never_both : (a b : Line) → ¬ (a ≡ b) → ((h : List Line) → IsAllowed a h → ¬ (Stands b h)) → ((h : List Line) → IsAllowed b h → ¬ (Stands a h))
    → (h : List Line) → AreAllowed h → Stands a h → Stands b h → ⊥
never_both a b differ without_b without_a [] allowed s r = s
never_both a b differ without_b without_a (x ∷ h) allowed (inl e) (inl f) = differ (sym e ∙ f)
never_both a b differ without_b without_a (x ∷ h) allowed (inl e) (inr r) = without_b h (subst (λ (y : Line). IsAllowed y h) e allowed.0) r
never_both a b differ without_b without_a (x ∷ h) allowed (inr s) (inl f) = without_a h (subst (λ (y : Line). IsAllowed y h) f allowed.0) s
never_both a b differ without_b without_a (x ∷ h) allowed (inr s) (inr r) = never_both a b differ without_b without_a h allowed.1 s r

pub one_way : (h : List Line) (g : List ℕ) → AreAllowed h → IsToldCommit g h → IsToldRollback g h → ⊥
one_way h g a (inl (m, s)) (n, r) = never_both (lines.Send m words.Commit g) (lines.Send n words.Rollback g) (λ e. cc)
    (λ k can t. can.one_way (n, t)) (λ k can t. can.one_way (inl (m, t))) h a s r
one_way h g a (inr (m, s)) (n, r) = never_both (lines.Send m words.CommitOnePhase g) (lines.Send n words.Rollback g) (λ e. cc)
    (λ k can t. can.one_way (n, t)) (λ k can t. can.one_way (inr (m, t))) h a s r

pub one_state : (h : List Line) (g : List ℕ) → AreAllowed h → Stands (lines.State g states.Applied) h → Stands (lines.State g states.Undone) h → ⊥
one_state h g a s r = never_both (lines.State g states.Applied) (lines.State g states.Undone) (λ e. cc) (λ k can t. can.not_undone t) (λ k can t. can.not_applied t) h a s r

pub not_undone : (h : List Line) (g : List ℕ) → AreAllowed h → IsSent words.Commit g h → Stands (lines.State g states.Undone) h → ⊥
not_undone h g a (m, s) r = never_both (lines.Send m words.Commit g) (lines.State g states.Undone) (λ e. cc) (λ k can t. can.not_undone t) (λ k can t. can.not_told (m, t)) h a s r

pub not_applied : (h : List Line) (g : List ℕ) → AreAllowed h → IsToldRollback g h → Stands (lines.State g states.Applied) h → ⊥
not_applied h g a (m, s) r = never_both (lines.Send m words.Rollback g) (lines.State g states.Applied) (λ e. cc) (λ k can t. can.not_applied t) (λ k can t. can.not_told (m, t)) h a s r
