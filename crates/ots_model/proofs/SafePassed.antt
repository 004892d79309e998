-- Short lists that are safe.
use Rattle.std.proofs.Common.{true, inl, inr, [], ◌∷◌, ◌++◌, reverse, refl}
use Rattle.ots_model.specs.declared.completion.Vote.TheVariants.{VoteReadOnly}
use Rattle.ots_model.specs.declared.completion.Word.TheVariants as words
use Rattle.ots_model.specs.declared.line.Decision.TheVariants as decisions
use Rattle.ots_model.specs.declared.line.Line.TheVariants as lines
use Rattle.ots_model.specs.Safe as safe
use Rattle.ots_model.specs.Safe.{IsTop, IsUnder, AreSafe}
use Rattle.ots_model.specs.SafeByLine.{AreAllowed}
use Rattle.ots_model.specs.SafeExamples.{node, end, top, below, low, one, other, tell, consents, applied, undone, records, registered, voted, decided, told, told_alone, half_voted, goes_on, nested, nested_twice}
use Rattle.ots_model.proofs.SafeTests.{stands, is_new, nothing_told, can_register, registered_at, top_at}
use Rattle.ots_model.proofs.SafePassing.{committed_at, under_top, all_have, consented_at, can_commit, can_commit_alone, can_roll_back, can_apply, can_undo}
use Rattle.ots_model.proofs.SafeTurned.{allowed_is_safe}

-- a transaction with a resource
pub registered_allowed : AreAllowed (reverse registered)
registered_allowed = (can_register one top _ refl refl, (is_new top _ refl, tt))

voted_allowed : AreAllowed (reverse voted)
voted_allowed = (tt, (committed_at 0 1 (reverse registered) one top refl refl, registered_allowed))

decided_allowed : AreAllowed (reverse decided)
decided_allowed = (tt, voted_allowed)

told_allowed : AreAllowed (reverse told)
told_allowed =
    let h = reverse decided in
    let due = all_have h top top (inl refl) (consented_at 1 h one refl, tt) in
    (can_commit h one top top refl refl (under_top 3 4 h one top refl refl) due (committed_at 3 4 h one top refl refl), decided_allowed)

pub told_safe : AreSafe told
told_safe = allowed_is_safe (reverse told) told_allowed

told_alone_allowed : AreAllowed (reverse told_alone)
told_alone_allowed =
    let h = reverse registered in
    (can_commit_alone h one refl refl (committed_at 0 1 h one top refl refl), registered_allowed)

pub told_alone_safe : AreSafe told_alone
told_alone_safe = allowed_is_safe (reverse told_alone) told_alone_allowed

rolled_allowed : AreAllowed (tell words.Rollback ∷ reverse voted)
rolled_allowed = (can_roll_back (reverse voted) one refl refl, voted_allowed)

pub rolled_safe : AreSafe (voted ++ tell words.Rollback ∷ [])
rolled_safe = allowed_is_safe (tell words.Rollback ∷ reverse voted) rolled_allowed

-- a vote for read-only
pub read_only_safe : AreSafe (half_voted ++ lines.Voted other VoteReadOnly ∷ goes_on top)
read_only_safe =
    let h = records top ∷ lines.Voted other VoteReadOnly ∷ reverse half_voted in
    let due = all_have h top top (inl refl) (inr (inr (inl refl)), (consented_at 2 h one refl, tt)) in
    allowed_is_safe (tell words.Commit ∷ h) (
      can_commit h one top top refl refl (under_top 4 5 h one top refl refl) due (committed_at 4 5 h one top refl refl),
      (tt, (tt, (tt, (can_register other top _ refl refl, registered_allowed)))),
    )

pub prepared_safe : AreSafe (registered ++ tell words.Prepare ∷ [])
prepared_safe = allowed_is_safe (tell words.Prepare ∷ reverse registered) (committed_at 0 1 (reverse registered) one top refl refl, registered_allowed)

-- a subtransaction with a resource
nested_allowed : AreAllowed (reverse nested)
nested_allowed = (can_register one below _ refl refl, (is_new below _ refl, (is_new top _ refl, tt)))

pub nested_committed_safe : AreSafe (nested ++ lines.SubDone below true ∷ tell words.Prepare ∷ [])
nested_committed_safe =
    let h = lines.SubDone below true ∷ reverse nested in
    let top_up = safe.IsCommittedUp.own top (inl (top_at 3 h top node refl)) in
    let below_up = safe.IsCommittedUp.committed below top (inl refl) (stands 2 h (lines.Sub below top) refl) top_up in
    allowed_is_safe (tell words.Prepare ∷ h) (
      (below, registered_at 1 h one below end refl, below_up),
      ((λ f of told. nothing_told f (reverse nested) refl told), nested_allowed),
    )

committed_twice_allowed : AreAllowed (reverse nested_twice)
committed_twice_allowed =
    let h = lines.Reg one low end ∷ lines.Sub low below ∷ lines.Sub below top ∷ lines.Top top node ∷ [] in (
      (λ f of told. nothing_told f h refl told),
      (can_register one low _ refl refl, (is_new low _ refl, (is_new below _ refl, (is_new top _ refl, tt)))),
    )

pub committed_twice_safe : AreSafe (nested_twice ++ lines.SubDone below true ∷ tell words.Prepare ∷ [])
committed_twice_safe =
    let h = lines.SubDone below true ∷ reverse nested_twice in
    let top_up = safe.IsCommittedUp.own top (inl (top_at 5 h top node refl)) in
    let below_up = safe.IsCommittedUp.committed below top (inl refl) (stands 4 h (lines.Sub below top) refl) top_up in
    let low_up = safe.IsCommittedUp.committed low below (stands 1 h (lines.SubDone low true) refl) (stands 3 h (lines.Sub low below) refl) below_up in
    allowed_is_safe (tell words.Prepare ∷ h) (
      (low, registered_at 2 h one low end refl, low_up),
      ((λ f of told. nothing_told f (reverse nested_twice) refl told), committed_twice_allowed),
    )

pub joined_safe : AreSafe (nested ++ lines.SubDone below true ∷ consents one ∷ goes_on top)
joined_safe =
    let h = records top ∷ consents one ∷ lines.SubDone below true ∷ reverse nested in
    let is_top : IsTop top h = top_at 5 h top node refl in
    let is_sub = stands 4 h (lines.Sub below top) refl in
    let is_registered = registered_at 3 h one below end refl in
    let under : IsUnder one top top h = record {
      transaction = below;
      registered = is_registered;
      of_family = safe.IsOf.child below top is_sub (safe.IsOf.own (inl is_top));
      decided = safe.alone (inl is_top);
    } in
    let up = safe.IsCommittedUp.committed below top (stands 2 h (lines.SubDone below true) refl) is_sub (safe.IsCommittedUp.own top (inl is_top)) in
    let due = all_have h top top (inl refl) (consented_at 1 h one refl, tt) in
    allowed_is_safe (tell words.Commit ∷ h) (
      can_commit h one top top refl refl under due (below, is_registered, up),
      (tt, (tt, ((λ f of told. nothing_told f (reverse nested) refl told), nested_allowed))),
    )

pub nested_rolled_safe : AreSafe (nested ++ tell words.Rollback ∷ [])
nested_rolled_safe = allowed_is_safe (tell words.Rollback ∷ reverse nested) (can_roll_back (reverse nested) one refl refl, nested_allowed)

-- the resource applies or undoes
pub applied_safe : AreSafe (told ++ applied ∷ [])
applied_safe =
    let h = reverse told in
    allowed_is_safe (applied ∷ h) (can_apply h one refl refl (inl (inl (1, inl refl))), told_allowed)

pub applied_alone_safe : AreSafe (told_alone ++ applied ∷ [])
applied_alone_safe =
    let h = reverse told_alone in
    allowed_is_safe (applied ∷ h) (can_apply h one refl refl (inl (inr (1, inl refl))), told_alone_allowed)

pub applied_learnt_safe : AreSafe (decided ++ lines.Learn one decisions.Commit ∷ applied ∷ [])
applied_learnt_safe =
    let h = lines.Learn one decisions.Commit ∷ reverse decided in
    allowed_is_safe (applied ∷ h) (can_apply h one refl refl (inr (inl refl)), (tt, decided_allowed))

pub undone_safe : AreSafe (voted ++ undone ∷ [])
undone_safe = allowed_is_safe (undone ∷ reverse voted) (can_undo (reverse voted) one refl refl, voted_allowed)

pub undone_alone_safe : AreSafe (told_alone ++ undone ∷ [])
undone_alone_safe = allowed_is_safe (undone ∷ reverse told_alone) (can_undo (reverse told_alone) one refl refl, told_alone_allowed)

pub undone_rolled_safe : AreSafe (voted ++ tell words.Rollback ∷ undone ∷ [])
undone_rolled_safe =
    let h = tell words.Rollback ∷ reverse voted in
    allowed_is_safe (undone ∷ h) (can_undo h one refl refl, rolled_allowed)
