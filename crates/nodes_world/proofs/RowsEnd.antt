-- What the ends that a step tells make of the rows of a family, where each subtransaction ends in its turn.
use Rattle.std.proofs.Common.{◌≡◌, ◌⊎◌, inl, inr, ℕ, zero, suc, ◌<◌, Bool, true, false, IsTrue, List, [], ◌∷◌, length, get_or, slice_set, Contains, Option, Some, None, refl, sym, ap, subst, ◌∙◌, arith, true≢false}
use Rattle.std.specs.Option.{option_map_or}
use Rattle.std.proofs.lemmas.List.Elements.{Contains-append_right}
use Rattle.txn_tree.specs.Calls.{end_state, ended, marked}
use Rattle.txn_tree.specs.Rows.{is_live, is_live_branch, parent, state}
use Rattle.txn_tree.specs.declared.row.Row.{Row}
use Rattle.txn_tree.specs.declared.row.State.{State as BranchState}
use Rattle.txn_tree.specs.declared.row.State.TheVariants as rows
use Rattle.coordinator.specs.declared.effect.Effect.{Effect}
use Rattle.coordinator.specs.declared.effect.Effect.TheVariants as effects
use Rattle.family_laws.specs.LawsOfSteps.{EndInTurn}
use Rattle.family_laws.specs.LawsOfTelling.{rows_told}
use Rattle.nodes_world.specs.AgreementInside.{ended_state}

-- ---- one row is set

set_state : (rs : List Row) (b x : ℕ) (one : Row) → ((x ≡ b) × (state (slice_set rs b one) x ≡ Some one.state)) ⊎ (state (slice_set rs b one) x ≡ state rs x)
set_state [] b x one = inr refl
set_state (z ∷ rs) zero zero one = inl (refl, refl)
set_state (z ∷ rs) zero (suc x) one = inr refl
set_state (z ∷ rs) (suc b) zero one = inr refl
set_state (z ∷ rs) (suc b) (suc x) one = elim (set_state rs b x one) [
  | inl here ↦ inl (ap suc here.0, here.1)
  | inr was ↦ inr was
]

state_here : (rs : List Row) (b : ℕ) (one : Row) → IsTrue (is_live_branch rs b) → state (slice_set rs b one) b ≡ Some one.state
state_here [] b one live = absurd cc
state_here (z ∷ rs) zero one live = refl
state_here (z ∷ rs) (suc b) one live = state_here rs b one live

not_both : (o : Option BranchState) (committed : Bool) → o ≡ Some (ended_state committed) → option_map_or is_live o false ≡ true → ⊥
not_both (Some rows.Active) true is live = absurd cc
not_both (Some rows.Active) false is live = absurd cc
not_both (Some rows.Marked) true is live = absurd cc
not_both (Some rows.Marked) false is live = absurd cc
not_both (Some rows.Committed) committed is live = absurd cc
not_both (Some rows.RolledBack) committed is live = absurd cc
not_both None committed is live = absurd cc

-- what has ended isn't live
pub ended_not_live : (rs : List Row) (b : ℕ) (committed : Bool) → state rs b ≡ Some (ended_state committed) → IsTrue (is_live_branch rs b) → ⊥
ended_not_live rs b committed is live = not_both (state rs b) committed is live

end_is : (rs : List Row) (b : ℕ) (committed : Bool) → IsTrue (is_live_branch rs b) → state (ended rs b committed) b ≡ Some (ended_state committed)
end_is rs b true live = state_here rs b _ live
end_is rs b false live = state_here rs b _ live

-- an end of another one, or of this one, leaves one that has ended
end_stays : (rs : List Row) (b x : ℕ) (committed how : Bool) → IsTrue (is_live_branch rs b) → state rs x ≡ Some (ended_state how)
    → state (ended rs b committed) x ≡ Some (ended_state how)
end_stays rs b x committed how live is = elim (set_state rs b x (record { parent = parent rs b; state = end_state committed })) [
  | inl here ↦ absurd (ended_not_live rs x how is (subst (λ (y : ℕ). IsTrue (is_live_branch rs y)) (sym here.0) live))
  | inr was ↦ was ∙ is
]

mark_stays : (rs : List Row) (b x : ℕ) (how : Bool) → IsTrue (is_live_branch rs b) → state rs x ≡ Some (ended_state how)
    → state (marked rs b) x ≡ Some (ended_state how)
mark_stays rs b x how live is = elim (set_state rs b x (record { parent = parent rs b; state = rows.Marked })) [
  | inl here ↦ absurd (ended_not_live rs x how is (subst (λ (y : ℕ). IsTrue (is_live_branch rs y)) (sym here.0) live))
  | inr was ↦ was ∙ is
]

live_of : (early : Bool) (rs : List Row) (b : ℕ) (committed : Bool) (others : List Effect) → EndInTurn early (effects.SubtransactionEnded b committed ∷ others) rs
    → IsTrue (is_live_branch rs b)
live_of early rs b true others turn = turn.0.0
live_of early rs b false others turn = turn.0

-- ---- all that a step tells

pub ended_stays : (early : Bool) (some : List Effect) (rs : List Row) (b : ℕ) (how : Bool) → EndInTurn early some rs → state rs b ≡ Some (ended_state how)
    → state (rows_told some rs) b ≡ Some (ended_state how)
ended_stays early [] rs x how turn is = is
ended_stays early (effects.Voted g vote ∷ others) rs x how turn is = ended_stays early others rs x how turn is
ended_stays early (effects.Decided fixed ∷ others) rs x how turn is = ended_stays early others rs x how turn is
ended_stays early (effects.SubtransactionEnded b committed ∷ others) rs x how turn is =
    ended_stays early others (ended rs b committed) x how turn.1 (end_stays rs b x committed how (live_of early rs b committed others turn) is)
ended_stays early (effects.Marked b ∷ others) rs x how turn is = ended_stays early others (marked rs b) x how turn.1 (mark_stays rs b x how turn.0.0 is)
ended_stays early (effects.Doubted ∷ others) rs x how turn is = ended_stays early others rs x how turn is
ended_stays early (effects.Done ∷ others) rs x how turn is = ended_stays early others rs x how turn is

pub first_or_later : {A : Type 0} (x y : A) (xs : List A) → Contains (x ∷ xs) y → (x ≡ y) ⊎ Contains xs y
first_or_later {A = A} x y xs c = by c.0 c.1 c.2
  where
    by : (i : ℕ) → i < length (x ∷ xs) → get_or (x ∷ xs) i y ≡ y → (x ≡ y) ⊎ Contains xs y
    by zero less is = inl is
    by (suc i) less is = inr (i, omega (arith, less), is)

other_effect : (e : Effect) (b : ℕ) (committed : Bool) (others : List Effect) → (e ≡ effects.SubtransactionEnded b committed → ⊥)
    → Contains (e ∷ others) (effects.SubtransactionEnded b committed) → Contains others (effects.SubtransactionEnded b committed)
other_effect e b committed others other c = elim (first_or_later e _ others c) [
  | inl here ↦ absurd (other here)
  | inr later ↦ later
]

-- what ends is ended then
pub told_ended : (early : Bool) (some : List Effect) (rs : List Row) (b : ℕ) (how : Bool) → EndInTurn early some rs
    → Contains some (effects.SubtransactionEnded b how) → state (rows_told some rs) b ≡ Some (ended_state how)
told_ended early [] rs x how turn among = let l = among.1 in absurd (omega (arith, l))
told_ended early (effects.Voted g vote ∷ others) rs x how turn among = told_ended early others rs x how turn (other_effect _ x how others (λ e. cc) among)
told_ended early (effects.Decided fixed ∷ others) rs x how turn among = told_ended early others rs x how turn (other_effect _ x how others (λ e. cc) among)
told_ended early (effects.SubtransactionEnded b committed ∷ others) rs x how turn among = elim (first_or_later _ _ others among) [
  | inl here ↦
      ended_stays early others (ended rs b committed) x how turn.1
      (subst (λ (y : ℕ). state (ended rs b committed) y ≡ Some (ended_state how)) (same_branch here)
      (end_is rs b committed (live_of early rs b committed others turn) ∙ ap (λ (y : Bool). Some (ended_state y)) (same_end here)))
  | inr later ↦ told_ended early others (ended rs b committed) x how turn.1 later
]
  where
    same_branch : effects.SubtransactionEnded b committed ≡ effects.SubtransactionEnded x how → b ≡ x
    same_branch e = cc

    same_end : effects.SubtransactionEnded b committed ≡ effects.SubtransactionEnded x how → committed ≡ how
    same_end e = cc
told_ended early (effects.Marked b ∷ others) rs x how turn among = told_ended early others (marked rs b) x how turn.1 (other_effect _ x how others (λ e. cc) among)
told_ended early (effects.Doubted ∷ others) rs x how turn among = told_ended early others rs x how turn (other_effect _ x how others (λ e. cc) among)
told_ended early (effects.Done ∷ others) rs x how turn among = told_ended early others rs x how turn (other_effect _ x how others (λ e. cc) among)

later_effect : (e : Effect) (others : List Effect) (x : Effect) → Contains others x → Contains (e ∷ others) x
later_effect e others x c = Contains-append_right (e ∷ []) others x c

-- a row has ended so, or that is told
abbrev Ends : List Effect → List Row → ℕ → Bool → Type 0
Ends some rs b how = (state rs b ≡ Some (ended_state how)) ⊎ Contains some (effects.SubtransactionEnded b how)

and_first : (e : Effect) (others : List Effect) (rs : List Row) (b : ℕ) (how : Bool) → Ends others rs b how → Ends (e ∷ others) rs b how
and_first e others rs b how (inl was) = inl was
and_first e others rs b how (inr later) = inr (later_effect e others _ later)

same_way : (a b : Bool) → Some (ended_state a) ≡ Some (ended_state b) → a ≡ b
same_way true true is = refl
same_way false false is = refl
same_way true false is = absurd cc
same_way false true is = absurd cc

not_marked : (how : Bool) → Some rows.Marked ≡ Some (ended_state how) → ⊥
not_marked true is = cc
not_marked false is = cc

of_end : (rs : List Row) (b x : ℕ) (committed how : Bool) (others : List Effect) → state (ended rs b committed) x ≡ Some (ended_state how)
    → Ends (effects.SubtransactionEnded b committed ∷ others) rs x how
of_end rs b x true how others is = elim (set_state rs b x (record { parent = parent rs b; state = rows.Committed })) [
  | inl here ↦ inr (
    0,
    omega arith,
    ap (λ (y : ℕ). effects.SubtransactionEnded y true) (sym here.0)
        ∙ ap (λ (y : Bool). effects.SubtransactionEnded x y) (same_way true how (sym here.1 ∙ is)),
  )
  | inr was ↦ inl (sym was ∙ is)
]
of_end rs b x false how others is = elim (set_state rs b x (record { parent = parent rs b; state = rows.RolledBack })) [
  | inl here ↦ inr (
    0,
    omega arith,
    ap (λ (y : ℕ). effects.SubtransactionEnded y false) (sym here.0)
        ∙ ap (λ (y : Bool). effects.SubtransactionEnded x y) (same_way false how (sym here.1 ∙ is)),
  )
  | inr was ↦ inl (sym was ∙ is)
]

of_mark : (rs : List Row) (b x : ℕ) (how : Bool) (others : List Effect) → state (marked rs b) x ≡ Some (ended_state how)
    → Ends (effects.Marked b ∷ others) rs x how
of_mark rs b x how others is = elim (set_state rs b x (record { parent = parent rs b; state = rows.Marked })) [
  | inl here ↦ absurd (not_marked how (sym here.1 ∙ is))
  | inr was ↦ inl (sym was ∙ is)
]

-- and what is ended then was so before, or ends
pub ended_told : (early : Bool) (some : List Effect) (rs : List Row) (b : ℕ) (how : Bool) → EndInTurn early some rs
    → state (rows_told some rs) b ≡ Some (ended_state how) → (state rs b ≡ Some (ended_state how)) ⊎ Contains some (effects.SubtransactionEnded b how)
ended_told early [] rs x how turn is = inl is
ended_told early (effects.Voted g vote ∷ others) rs x how turn is = and_first _ others rs x how (ended_told early others rs x how turn is)
ended_told early (effects.Decided fixed ∷ others) rs x how turn is = and_first _ others rs x how (ended_told early others rs x how turn is)
ended_told early (effects.SubtransactionEnded b committed ∷ others) rs x how turn is = elim (ended_told early others (ended rs b committed) x how turn.1 is) [
  | inl was ↦ of_end rs b x committed how others was
  | inr later ↦ inr (later_effect _ others _ later)
]
ended_told early (effects.Marked b ∷ others) rs x how turn is = elim (ended_told early others (marked rs b) x how turn.1 is) [
  | inl was ↦ of_mark rs b x how others was
  | inr later ↦ inr (later_effect _ others _ later)
]
ended_told early (effects.Doubted ∷ others) rs x how turn is = and_first _ others rs x how (ended_told early others rs x how turn is)
ended_told early (effects.Done ∷ others) rs x how turn is = and_first _ others rs x how (ended_told early others rs x how turn is)

-- ---- what ends was live

-- one that is live once a row was set to what isn't, or what was live, was so before
live_set : (rs : List Row) (b x : ℕ) (one : Row) → IsTrue (is_live_branch rs b) ⊎ (is_live one.state ≡ false) → IsTrue (is_live_branch (slice_set rs b one) x)
    → IsTrue (is_live_branch rs x)
live_set [] b x one so live = live
live_set (z ∷ rs) zero zero one (inl was) live = was
live_set (z ∷ rs) zero zero one (inr is) live = absurd (true≢false (sym live ∙ is))
live_set (z ∷ rs) zero (suc x) one so live = live
live_set (z ∷ rs) (suc b) zero one so live = live
live_set (z ∷ rs) (suc b) (suc x) one so live = live_set rs b x one so live

live_ended : (rs : List Row) (b x : ℕ) (committed : Bool) → IsTrue (is_live_branch (ended rs b committed) x) → IsTrue (is_live_branch rs x)
live_ended rs b x true live = live_set rs b x _ (inr refl) live
live_ended rs b x false live = live_set rs b x _ (inr refl) live

pub was_live : (early : Bool) (some : List Effect) (rs : List Row) (b : ℕ) (how : Bool) → EndInTurn early some rs
    → Contains some (effects.SubtransactionEnded b how) → IsTrue (is_live_branch rs b)
was_live early [] rs x how turn among = let l = among.1 in absurd (omega (arith, l))
was_live early (effects.Voted g vote ∷ others) rs x how turn among = was_live early others rs x how turn (other_effect _ x how others (λ e. cc) among)
was_live early (effects.Decided fixed ∷ others) rs x how turn among = was_live early others rs x how turn (other_effect _ x how others (λ e. cc) among)
was_live early (effects.SubtransactionEnded b committed ∷ others) rs x how turn among = elim (first_or_later _ _ others among) [
  | inl here ↦ subst (λ (y : ℕ). IsTrue (is_live_branch rs y)) (same_branch here) (live_of early rs b committed others turn)
  | inr later ↦ live_ended rs b x committed (was_live early others (ended rs b committed) x how turn.1 later)
]
  where
    same_branch : effects.SubtransactionEnded b committed ≡ effects.SubtransactionEnded x how → b ≡ x
    same_branch e = cc
was_live early (effects.Marked b ∷ others) rs x how turn among =
    live_set rs b x _ (inl turn.0.0) (was_live early others (marked rs b) x how turn.1 (other_effect _ x how others (λ e. cc) among))
was_live early (effects.Doubted ∷ others) rs x how turn among = was_live early others rs x how turn (other_effect _ x how others (λ e. cc) among)
was_live early (effects.Done ∷ others) rs x how turn among = was_live early others rs x how turn (other_effect _ x how others (λ e. cc) among)
