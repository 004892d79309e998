-- A record has the objects on which it answers calls, and no other.
use Rattle.std.proofs.Common.{◌≡◌, ℕ, ◌==◌, ◌&&◌, ◌||◌, Bool, true, false, cond, List, [], Option, Some, None, refl, arith}
use Rattle.std.specs.Prelude.{is_some, IsSome}
use Rattle.ior_refs.specs.declared.key.ObjectKey.{ObjectKey}
use Rattle.ots_model.specs.declared.completion.Word.TheVariants as phase_words
use Rattle.ots_model.specs.declared.service.RetryKey.{RetryKey}
use Rattle.ots_model.specs.declared.tree.Word.{Word}
use Rattle.ots_model.specs.declared.tree.Word.TheVariants as words
use Rattle.recovery_coord.specs.Held.{is_decided}
use Rattle.recovery_coord.specs.Replay.{party_named}
use Rattle.recovery_coord.specs.declared.held.Held.{Held}
use Rattle.recovery_coord.specs.declared.held.Party.{Party}
use Rattle.recovery_coord.specs.declared.held.Kind.{Kind}
use Rattle.recovery_coord.specs.declared.held.Kind.TheVariants as kinds
use Rattle.coordinator.specs.declared.event.Act.{Act}
use Rattle.coordinator.specs.declared.event.Act.TheVariants as acts
use Rattle.coordinator.specs.NodeRecords.{is_only, record_says, recovery_says, resource_says, subordinate_kind, terminator_kind, terminator_says}
use Rattle.coordinator.specs.Objects.{Answers, RecordsHaveWhatTheyAnswer, record_has_object}

-- it answers on the recovery coordinator of a registration that it names
by_party : (r : Held) (k : ObjectKey) → (k.kind == 86) ≡ true → (party : Option Party) → party_named k r ≡ party → is_some party ≡ true → Answers r k
by_party r k e (Some p) f h = (None, acts.Replay 0 [], rw (e, f) refl)
by_party r k e None f h = absurd cc

-- and on the terminator and the resource of a decision
by_terminator : (r : Held) (k : ObjectKey) → is_only 84 k ≡ true → (kind : Kind) → r.kind ≡ kind → is_decided kind ≡ true → Answers r k
by_terminator r k e (kinds.Decision called asked) f h = (None, acts.Rollback, rw (e, f) refl)
by_terminator r k e (kinds.Prepared recovery) f h = absurd cc

by_resource : (r : Held) (k : ObjectKey) → is_only 85 k ≡ true → (kind : Kind) → r.kind ≡ kind → is_decided kind ≡ true → Answers r k
by_resource r k e (kinds.Decision called asked) f h = (None, acts.Superior (words.Phase phase_words.Prepare), rw (e, f) refl)
by_resource r k e (kinds.Prepared recovery) f h = absurd cc

what_is_there : (v t u : Bool) (r : Held) (k : ObjectKey) → (k.kind == 86) ≡ v → is_only 84 k ≡ t → is_only 85 k ≡ u
    → cond v (is_some (party_named k r)) ((t || u) && is_decided r.kind) ≡ true → Answers r k
what_is_there true t u r k a b c h = by_party r k a (party_named k r) refl h
what_is_there false true u r k a b c h = by_terminator r k b r.kind refl h
what_is_there false false true r k a b c h = by_resource r k c r.kind refl h
what_is_there false false false r k a b c h = absurd cc

-- and what it answers on, it has
of_terminator : (r : Held) (k : ObjectKey) (by : Option RetryKey) (t : Bool) → is_only 84 k ≡ t → (kind : Kind) → r.kind ≡ kind → IsSome (cond t (terminator_says kind by) None) → record_has_object r k ≡ true
of_terminator r k by true e (kinds.Decision called asked) f s =
    let other : (k.kind == 86) ≡ false = grind (arith, e) in
    rw (other, e, f) refl
of_terminator r k by true e (kinds.Prepared recovery) f s = absurd cc
of_terminator r k by false e kind f s = absurd cc

of_resource : (r : Held) (k : ObjectKey) (word : Word) (u : Bool) → is_only 85 k ≡ u → (kind : Kind) → r.kind ≡ kind → IsSome (cond u (resource_says kind word) None) → record_has_object r k ≡ true
of_resource r k word true e (kinds.Decision called asked) f s =
    let other : (k.kind == 86) ≡ false = grind (arith, e) in
    let third : is_only 84 k ≡ false = grind (arith, e) in
    rw (other, third, e, f) refl
of_resource r k word true e (kinds.Prepared recovery) f s = absurd cc
of_resource r k word false e kind f s = absurd cc

of_party : (r : Held) (k : ObjectKey) (resource : List ℕ) (v : Bool) → (k.kind == 86) ≡ v → (party : Option Party) → party_named k r ≡ party → IsSome (cond v (recovery_says r resource party) None) → record_has_object r k ≡ true
of_party r k resource true e (Some p) f s = rw (e, f) refl
of_party r k resource true e None f s = absurd cc
of_party r k resource false e party f s = absurd cc

answered : (r : Held) (k : ObjectKey) (by : Option RetryKey) (act : Act) → IsSome (record_says k by act r) → record_has_object r k ≡ true
answered r k by (acts.Commit asked) s = of_terminator r k by (is_only 84 k) refl r.kind refl s
answered r k by acts.Rollback s = of_terminator r k by (is_only 84 k) refl r.kind refl s
answered r k by (acts.Replay g resource) s = of_party r k resource (k.kind == 86) refl (party_named k r) refl s
answered r k by (acts.Superior word) s = of_resource r k word (is_only 85 k) refl r.kind refl s
answered r k by acts.GetTerminator s = absurd cc
answered r k by acts.GetCoordinator s = absurd cc
answered r k by acts.GetStatus s = absurd cc
answered r k by acts.GetParentStatus s = absurd cc
answered r k by acts.GetTopLevelStatus s = absurd cc
answered r k by (acts.IsSameTransaction x) s = absurd cc
answered r k by (acts.IsRelatedTransaction x) s = absurd cc
answered r k by (acts.IsAncestorTransaction x) s = absurd cc
answered r k by (acts.IsDescendantTransaction x) s = absurd cc
answered r k by acts.IsTopLevelTransaction s = absurd cc
answered r k by acts.HashTransaction s = absurd cc
answered r k by acts.HashTopLevelTran s = absurd cc
answered r k by (acts.RegisterResource x y) s = absurd cc
answered r k by (acts.RegisterSynchronization x) s = absurd cc
answered r k by (acts.RegisterSubtranAware x) s = absurd cc
answered r k by acts.RollbackOnly s = absurd cc
answered r k by acts.GetTransactionName s = absurd cc
answered r k by acts.CreateSubtransaction s = absurd cc
answered r k by acts.GetTxcontext s = absurd cc
answered r k by (acts.Answer x y) s = absurd cc
answered r k by acts.Tick s = absurd cc
answered r k by (acts.Reread x) s = absurd cc
answered r k by (acts.Opened x) s = absurd cc

pub have_what_they_answer : RecordsHaveWhatTheyAnswer
have_what_they_answer r k =
    (λ h. what_is_there (k.kind == 86) (is_only 84 k) (is_only 85 k) r k refl refl refl h, λ a. answered r k a.0 a.1 a.2)
