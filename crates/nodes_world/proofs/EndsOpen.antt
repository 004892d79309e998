-- What a step tells before its words go out leaves open what was open.
use Rattle.std.proofs.Common.{◌≡◌, ◌⊎◌, inl, inr, ℕ, zero, suc, ◌<◌, Bool, true, false, List, [], ◌∷◌, slice_set, IsTrue, Option, Some, None, refl, sym, ap, subst, ◌∙◌, arith, true≢false, ⊎_elim}
use Rattle.std.specs.List.{AllByRecursion}
use Rattle.ots_model.specs.Safe as safe
use Rattle.ots_model.specs.Safe.{Stands, IsFamily, IsOf, IsUpFrom, IsUnder, DecidesAlone, IsDecidedBy}
use Rattle.ots_model.specs.SafeByLine.{IsOpen}
use Rattle.ots_model.specs.declared.line.Line.{Line}
use Rattle.ots_model.specs.declared.line.Line.TheVariants as lines
use Rattle.txn_tree.specs.Calls.{ended, marked}
use Rattle.txn_tree.specs.Rows.{IsTree, parent, is_live, is_live_branch}
use Rattle.txn_tree.specs.declared.row.Row.{Row}
use Rattle.coordinator.specs.declared.effect.Effect.{Effect}
use Rattle.coordinator.specs.declared.effect.Effect.TheVariants as effects
use Rattle.coordinator.specs.Family.{Family}
use Rattle.family_laws.specs.LawsOfSteps.{EndInTurn, IsOpenParent}
use Rattle.nodes_world.proofs.CanRegister.{IsOpenBranch, first_parent}

-- a line that makes no transaction and no registration, and is of no word
abbrev pub is_aside : Line → Bool
is_aside (lines.Top t node) = false
is_aside (lines.Imp f t node) = false
is_aside (lines.Sub t parent) = false
is_aside (lines.Reg g t end) = false
is_aside (lines.Send message word g) = false
is_aside _ = true

module _ (line : Line) (h : List Line) (aside : is_aside line ≡ true) where
  stood : (x : Line) → is_aside x ≡ false → Stands x (line ∷ h) → Stands x h
  stood x other (inl e) = absurd (true≢false (sym aside ∙ ap is_aside e ∙ other))
  stood x other (inr s) = s

  family_stood : (f : List ℕ) → IsFamily f (line ∷ h) → IsFamily f h
  family_stood f (inl (node, s)) = inl (node, stood _ refl s)
  family_stood f (inr (t, (node, s))) = inr (t, (node, stood _ refl s))

  of_stood : (f t : List ℕ) → IsOf (line ∷ h) f t → IsOf h f t
  of_stood f _ (safe.IsOf.own family) = safe.IsOf.own (family_stood f family)
  of_stood f _ (safe.IsOf.child t parent sub above) = safe.IsOf.child t parent (stood _ refl sub) (of_stood f parent above)

  up_stood : (f g : List ℕ) → IsUpFrom (line ∷ h) f g → IsUpFrom h f g
  up_stood _ _ (safe.itself f) = safe.itself f
  up_stood _ _ (safe.above f t next x (node, s) of up) = safe.above f t next x (node, stood _ refl s) (of_stood next t of) (up_stood next x up)

  alone_stood : (f : List ℕ) → DecidesAlone f (line ∷ h) → DecidesAlone f h
  alone_stood f (inl (node, s)) = inl (node, stood _ refl s)
  alone_stood f (inr (message, s)) = inr (message, stood _ refl s)

  alone_stands : (f : List ℕ) → DecidesAlone f h → DecidesAlone f (line ∷ h)
  alone_stands f (inl (node, s)) = inl (node, inr s)
  alone_stands f (inr (message, s)) = inr (message, inr s)

  decided_stood : (d f : List ℕ) → IsDecidedBy (line ∷ h) d f → IsDecidedBy h d f
  decided_stood d _ (safe.alone decides) = safe.alone (alone_stood d decides)
  decided_stood d _ (safe.superior f t above waits (node, s) of by) =
      safe.superior f t above (λ decides. waits (alone_stands f decides)) (node, stood _ refl s) (of_stood above t of) (decided_stood d above by)

  under_stood : (g family decider : List ℕ) → IsUnder g family decider (line ∷ h) → IsUnder g family decider h
  under_stood g family decider u = record {
    transaction = u.transaction;
    registered = (u.registered.0, stood _ refl u.registered.1);
    of_family = of_stood family u.transaction u.of_family;
    decided = decided_stood decider family u.decided;
  }

  -- what was open is so behind that line
  pub open_later : (t : List ℕ) → IsOpen t h → IsOpen t (line ∷ h)
  open_later t open_before f of told_in = open_before f (of_stood f t of) (record {
    registration = told_in.registration;
    family = told_in.family;
    decider = told_in.decider;
    sent = (told_in.sent.0, stood _ refl told_in.sent.1);
    under = under_stood told_in.registration told_in.family told_in.decider told_in.under;
    up = up_stood told_in.family f told_in.up;
    below = up_stood f told_in.decider told_in.below;
  })

-- ---- the subtransactions that a step ends

-- one that is committed is open in the family as it was before the step
abbrev pub EndIsOpen : Family → Effect → Type 0
EndIsOpen f (effects.SubtransactionEnded b true) = IsOpenBranch f b
EndIsOpen f _ = Unit {0}

live_set : (rs : List Row) (b c : ℕ) (one : Row) → IsTrue (is_live_branch (slice_set rs b one) c) → ((c ≡ b) × IsTrue (is_live one.state)) ⊎ IsTrue (is_live_branch rs c)
live_set [] b c one is = inr is
live_set (z ∷ rs) zero zero one is = inl (refl, is)
live_set (z ∷ rs) zero (suc c) one is = inr is
live_set (z ∷ rs) (suc b) zero one is = inr is
live_set (z ∷ rs) (suc b) (suc c) one is =
    elim (live_set rs b c one is) [
      | inl here ↦ inl (ap suc here.0, here.1)
      | inr was ↦ inr was
    ]

pub parent_set : (rs : List Row) (b c : ℕ) (one : Row) → one.parent ≡ parent rs b → parent (slice_set rs b one) c ≡ parent rs c
parent_set [] b c one same = refl
parent_set (z ∷ rs) zero zero one same = same
parent_set (z ∷ rs) zero (suc c) one same = refl
parent_set (z ∷ rs) (suc b) zero one same = refl
parent_set (z ∷ rs) (suc b) (suc c) one same = parent_set rs b c one same

-- what is live once one has ended, or was marked, was so
live_ended : (rs : List Row) (b c : ℕ) (committed : Bool) → IsTrue (is_live_branch (ended rs b committed) c) → IsTrue (is_live_branch rs c)
live_ended rs b c true is = ⊎_elim (λ (here : (c ≡ b) × IsTrue false). absurd (true≢false (sym here.1))) (λ (was : IsTrue (is_live_branch rs c)). was) (live_set rs b c _ is)
live_ended rs b c false is = ⊎_elim (λ (here : (c ≡ b) × IsTrue false). absurd (true≢false (sym here.1))) (λ (was : IsTrue (is_live_branch rs c)). was) (live_set rs b c _ is)

live_marked : (rs : List Row) (b c : ℕ) → IsTrue (is_live_branch rs b) → IsTrue (is_live_branch (marked rs b) c) → IsTrue (is_live_branch rs c)
live_marked rs b c live is =
    ⊎_elim (λ (here : (c ≡ b) × IsTrue true). subst (λ (q : ℕ). IsTrue (is_live_branch rs q)) (sym here.0) live) (λ (was : IsTrue (is_live_branch rs c)). was) (live_set rs b c _ is)

below_top : (early : Bool) (now rs : List Row) (b : ℕ) (o : Option ℕ) → IsTree rs → parent rs b ≡ o → IsOpenParent early now o → 0 < b
below_top early now rs b None tree is may = absurd may
below_top early now rs zero (Some p) tree is may = absurd (first_parent rs zero tree refl p is)
below_top early now rs (suc b) (Some p) tree is may = omega arith

-- each one that a step commits, in its turn, was open before the step
pub ends_open : (early : Bool) (f : Family) → IsTree f.rows → (some : List Effect) (rs : List Row) → ((c : ℕ) → IsTrue (is_live_branch rs c) → IsTrue (is_live_branch f.rows c))
    → ((c : ℕ) → parent rs c ≡ parent f.rows c) → EndInTurn early some rs → AllByRecursion (EndIsOpen f) some
ends_open early f tree [] rs live same turn = tt
ends_open early f tree (effects.Voted g vote ∷ others) rs live same turn = (tt, ends_open early f tree others rs live same turn)
ends_open early f tree (effects.Decided fixed ∷ others) rs live same turn = (tt, ends_open early f tree others rs live same turn)
ends_open early f tree (effects.SubtransactionEnded b true ∷ others) rs live same turn =
    let below = below_top early rs f.rows b (parent rs b) tree (sym (same b)) turn.0.1 in (
      inr (below, live b turn.0.0),
      ends_open early f tree others (ended rs b true) (λ c is. live c (live_ended rs b c true is)) (λ c. parent_set rs b c _ refl ∙ same c) turn.1,
    )
ends_open early f tree (effects.SubtransactionEnded b false ∷ others) rs live same turn =
    (tt, ends_open early f tree others (ended rs b false) (λ c is. live c (live_ended rs b c false is)) (λ c. parent_set rs b c _ refl ∙ same c) turn.1)
ends_open early f tree (effects.Marked b ∷ others) rs live same turn =
    (tt, ends_open early f tree others (marked rs b) (λ c is. live c (live_marked rs b c turn.0.0 is)) (λ c. parent_set rs b c _ refl ∙ same c) turn.1)
ends_open early f tree (effects.Doubted ∷ others) rs live same turn = (tt, ends_open early f tree others rs live same turn)
ends_open early f tree (effects.Done ∷ others) rs live same turn = (tt, ends_open early f tree others rs live same turn)
