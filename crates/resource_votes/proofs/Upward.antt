-- What a subtransaction's commit, and each other change of the rows, makes of who is committed up to whom.
use Rattle.std.proofs.Common.{◌≡◌, ◌≢◌, inl, inr, ℕ, ◌<◌, ◌≤◌, ◌==◌, ◌||◌, ◌&&◌, Bool, true, false, zero, suc, List, [], ◌∷◌, ◌++◌, length, Option, Some, None, refl, ap, sym, ◌∙◌, arith}
use Rattle.std.proofs.lemmas.Grind.{common_steps}
use Rattle.std.specs.List.{slice_get}
use Rattle.std.specs.Option.{option_map_or}
use Rattle.txn_tree.specs.declared.row.Row.{Row}
use Rattle.txn_tree.specs.declared.row.State.{State}
use Rattle.txn_tree.specs.declared.row.State.TheVariants.{Committed}
use Rattle.txn_tree.specs.Rows.{parent, state, IsParent, IsTree, is_committed, is_committed_up}
use Rattle.txn_tree.specs.Calls.{with_state}
use Rattle.txn_tree.specs.Laws.{CommitFollowsParents}
use Rattle.resource_votes.proofs.ChainLemmas.{same_or_not}

-- whether a branch was committed
abbrev pub committed : List Row → ℕ → Bool
committed rows q = option_map_or is_committed (state rows q) false

-- rows with one more, or with another state at one place
pub row_before : (rows : List Row) (r : Row) (q : ℕ) → q < length rows → slice_get (rows ++ r ∷ []) q ≡ slice_get rows q
row_before [] r q h = absurd (omega arith)
row_before (x ∷ rows) r zero h = refl
row_before (x ∷ rows) r (suc q) h = row_before rows r q (omega arith)

pub row_last : (rows : List Row) (r : Row) → slice_get (rows ++ r ∷ []) (length rows) ≡ Some r
row_last [] r = refl
row_last (x ∷ rows) r = row_last rows r

pub parent_kept : (rows : List Row) (b : ℕ) (s : State) (q : ℕ) → parent (with_state rows b s) q ≡ parent rows q
parent_kept [] b s q = refl
parent_kept (r ∷ rows) zero s zero = refl
parent_kept (r ∷ rows) zero s (suc q) = refl
parent_kept (r ∷ rows) (suc b) s zero = refl
parent_kept (r ∷ rows) (suc b) s (suc q) = parent_kept rows b s q

pub state_other : (rows : List Row) (b : ℕ) (s : State) (q : ℕ) → q ≢ b → state (with_state rows b s) q ≡ state rows q
state_other [] b s q o = refl
state_other (r ∷ rows) zero s zero o = absurd (o refl)
state_other (r ∷ rows) zero s (suc q) o = refl
state_other (r ∷ rows) (suc b) s zero o = refl
state_other (r ∷ rows) (suc b) s (suc q) o = state_other rows b s q (λ e. o (ap (λ (n : ℕ). suc n) e))

pub state_here : (rows : List Row) (b : ℕ) (s : State) → b < length rows → state (with_state rows b s) b ≡ Some s
state_here [] b s h = absurd (omega arith)
state_here (r ∷ rows) zero s h = refl
state_here (r ∷ rows) (suc b) s h = state_here rows b s (omega arith)

pub count_kept : (rows : List Row) (b : ℕ) (s : State) → length (with_state rows b s) ≡ length rows
count_kept rows b s = grind (arith, common_steps)

-- a test of a parent, where there is one
abbrev pub above : (ℕ → Bool) → Option ℕ → Bool
above f o = option_map_or f o false

same_above : (o : Option ℕ) (b : ℕ) → IsParent b o → (f g : ℕ → Bool) → ((p : ℕ) → p < b → f p ≡ g p) → above f o ≡ above g o
same_above None b h f g s = refl
same_above (Some p) b h f g s = s p h

none_above : (o : Option ℕ) (b : ℕ) → IsParent b o → (f : ℕ → Bool) → ((p : ℕ) → p < b → f p ≡ false) → above f o ≡ false
none_above None b h f s = refl
none_above (Some p) b h f s = s p h

pub not_same : (a b : ℕ) → a ≢ b → (a == b) ≡ false
not_same a b o = grind arith

pub is_same : (a : ℕ) → (a == a) ≡ true
is_same a = grind arith

and_false : (a : Bool) → (a && false) ≡ false
and_false true = refl
and_false false = refl

-- rows with the same parents and the same commits
pub up_alike : CommitFollowsParents → (rows more : List Row) → IsTree rows → IsTree more → length rows ≤ length more → ((q : ℕ) → q < length rows → parent more q ≡ parent rows q) → ((q : ℕ) → q < length rows → committed more q ≡ committed rows q) → (n q t : ℕ) → t < n → t < length rows → is_committed_up more q t ≡ is_committed_up rows q t
up_alike law rows more r m longer parents commits zero q t h k = absurd (omega arith)
up_alike law rows more r m longer parents commits (suc n) q t h k =
    law more m q t (omega arith)
    ∙ ap (λ (x : Bool). (t == q) || (x && above (λ p. is_committed_up more q p) (parent more t))) (commits t k)
    ∙ ap (λ (o : Option ℕ). (t == q) || (committed rows t && above (λ p. is_committed_up more q p) o)) (parents t k)
    ∙ ap (λ (x : Bool). (t == q) || (committed rows t && x)) (same_above (parent rows t) t (r.parents t k) (λ p. is_committed_up more q p) (λ p. is_committed_up rows q p)
    (λ p (below : p < t). up_alike law rows more r m longer parents commits n q p (omega arith) (omega arith)))
    ∙ sym (law rows r q t k)

-- nobody is committed up to one that was made later
pub not_up : CommitFollowsParents → (rows : List Row) → IsTree rows → (n q t : ℕ) → t < n → t < q → t < length rows → is_committed_up rows q t ≡ false
not_up law rows r zero q t h later k = absurd (omega arith)
not_up law rows r (suc n) q t h later k =
    law rows r q t k
    ∙ ap (λ (x : Bool). x || (committed rows t && above (λ p. is_committed_up rows q p) (parent rows t))) (not_same t q (λ e. omega arith))
    ∙ ap (λ (x : Bool). committed rows t && x) (none_above (parent rows t) t (r.parents t k) (λ p. is_committed_up rows q p)
    (λ p (below : p < t). not_up law rows r n q p (omega arith) (omega arith) (omega arith)))
    ∙ and_false (committed rows t)

-- each is committed up to itself
pub up_itself : CommitFollowsParents → (rows : List Row) → IsTree rows → (q : ℕ) → q < length rows → is_committed_up rows q q ≡ true
up_itself law rows r q k = law rows r q q k ∙ ap (λ (x : Bool). x || (committed rows q && above (λ p. is_committed_up rows q p) (parent rows q))) (is_same q)

-- one that was not committed is committed up to nobody else
pub stops : CommitFollowsParents → (rows : List Row) → IsTree rows → (q t : ℕ) → t < length rows → t ≢ q → committed rows t ≡ false → is_committed_up rows q t ≡ false
stops law rows r q t k other not =
    law rows r q t k
    ∙ ap (λ (x : Bool). x || (committed rows t && above (λ p. is_committed_up rows q p) (parent rows t))) (not_same t q other)
    ∙ ap (λ (x : Bool). x && above (λ p. is_committed_up rows q p) (parent rows t)) not

-- one further up: where the branch is another one
goes_up : CommitFollowsParents → (rows : List Row) → IsTree rows → (q t : ℕ) → t < length rows → t ≢ q → is_committed_up rows q t ≡ (committed rows t && above (λ p. is_committed_up rows q p) (parent rows t))
goes_up law rows r q t k other =
    law rows r q t k
    ∙ ap (λ (x : Bool). x || (committed rows t && above (λ p. is_committed_up rows q p) (parent rows t))) (not_same t q other)

-- nobody is committed up to two that were not committed
both_above : (done : Bool) (o : Option ℕ) (t : ℕ) → IsParent t o → (f g : ℕ → Bool) → ((p : ℕ) → p < t → (f p && g p) ≡ false) → ((done && above f o) && (done && above g o)) ≡ false
both_above false o t h f g s = refl
both_above true None t h f g s = refl
both_above true (Some p) t h f g s = s p h

pub not_both : CommitFollowsParents → (rows : List Row) → IsTree rows → (p c : ℕ) → p ≢ c → committed rows p ≡ false → committed rows c ≡ false → (n t : ℕ) → t < n → t < length rows → (is_committed_up rows p t && is_committed_up rows c t) ≡ false
not_both law rows r p c differ op oc zero t h k = absurd (omega arith)
not_both law rows r p c differ op oc (suc n) t h k =
    elim (same_or_not t p) [
      | inl e ↦
          ap (λ (x : Bool). is_committed_up rows p t && x) (stops law rows r c t k (λ s. differ (sym e ∙ s)) (rw e op)) ∙ and_false (is_committed_up rows p t)
      | inr o ↦
          elim (same_or_not t c) [
            | inl e ↦ ap (λ (x : Bool). x && is_committed_up rows c t) (stops law rows r p t k o (rw e oc))
            | inr u ↦
                ap (λ (x : Bool). x && is_committed_up rows c t) (goes_up law rows r p t k o)
                ∙ ap (λ (x : Bool). (committed rows t && above (λ q. is_committed_up rows p q) (parent rows t)) && x) (goes_up law rows r c t k u)
                ∙ both_above (committed rows t) (parent rows t) t (r.parents t k) (λ q. is_committed_up rows p q) (λ q. is_committed_up rows c q)
                (λ q (below : q < t). not_both law rows r p c differ op oc n q (omega arith) (omega arith))
          ]
    ]

-- where a child is committed, its parent gains who was committed up to the child, and nobody else gains
gains_above : (done bp : Bool) (o : Option ℕ) (t : ℕ) → IsParent t o → (m f g : ℕ → Bool) → ((p : ℕ) → p < t → m p ≡ (f p || (bp && g p))) → (done && above m o) ≡ ((done && above f o) || (bp && (done && above g o)))
gains_above false true o t h m f g s = refl
gains_above false false o t h m f g s = refl
gains_above true true None t h m f g s = refl
gains_above true false None t h m f g s = refl
gains_above true bp (Some p) t h m f g s = s p h

-- the rows after the child was committed
pub record IsCommit (rows : List Row) (c p : ℕ) : Type 0 where
  pub tree : IsTree rows
  pub after : IsTree (with_state rows c Committed)
  pub within : c < length rows
  pub parent_is : parent rows c ≡ Some p
  pub parent_open : committed rows p ≡ false
  pub child_open : committed rows c ≡ false

pub parent_under : (rows : List Row) → IsTree rows → (c p : ℕ) → c < length rows → parent rows c ≡ Some p → p < c
parent_under rows r c p k h = rw h at (r.parents c k)

pub still_committed : (rows : List Row) (c q : ℕ) → q ≢ c → committed (with_state rows c Committed) q ≡ committed rows q
still_committed rows c q o = ap (λ (s : Option State). option_map_or is_committed s false) (state_other rows c Committed q o)

pub now_committed : (rows : List Row) (c : ℕ) → c < length rows → committed (with_state rows c Committed) c ≡ true
now_committed rows c k = ap (λ (s : Option State). option_map_or is_committed s false) (state_here rows c Committed k)

or_true : (a : Bool) → true ≡ (true || a)
or_true a = refl

from_child : CommitFollowsParents → (rows : List Row) (c p : ℕ) → IsCommit rows c p → (b : ℕ) → b ≢ c → is_committed_up (with_state rows c Committed) b c ≡ (b == p)
from_child law rows c p h b other =
    let under : p < c = parent_under rows h.tree c p h.within h.parent_is in
    let longer : length (with_state rows c Committed) ≡ length rows = count_kept rows c Committed in
    goes_up law (with_state rows c Committed) h.after b c (rw longer h.within) (λ e. other (sym e))
    ∙ ap (λ (x : Bool). x && above (λ q. is_committed_up (with_state rows c Committed) b q) (parent (with_state rows c Committed) c)) (now_committed rows c h.within)
    ∙ ap (λ (o : Option ℕ). above (λ q. is_committed_up (with_state rows c Committed) b q) o) (parent_kept rows c Committed c ∙ h.parent_is)
    ∙ elim (same_or_not p b) as (λ _. is_committed_up (with_state rows c Committed) b p ≡ (b == p)) [
      | inl e ↦ rw e (up_itself law (with_state rows c Committed) h.after b (omega (arith, longer, under, h.within, e)) ∙ sym (is_same b))
      | inr o ↦
          stops law (with_state rows c Committed) h.after b p (omega (arith, longer, under, h.within)) o (still_committed rows c p (λ e. omega (arith, under, e)) ∙ h.parent_open)
          ∙ sym (not_same b p (λ e. o (sym e)))
    ]

and_true : (a : Bool) → a ≡ (false || (a && true))
and_true true = refl
and_true false = refl

pub gains : CommitFollowsParents → (rows : List Row) (c p : ℕ) → IsCommit rows c p → (b : ℕ) → b ≢ c → b < length rows → (n t : ℕ) → t < n → t < length rows → is_committed_up (with_state rows c Committed) b t ≡ (is_committed_up rows b t || ((b == p) && is_committed_up rows c t))
gains law rows c p h b other within zero t l k = absurd (omega arith)
gains law rows c p h b other within (suc n) t l k =
    let longer : length (with_state rows c Committed) ≡ length rows = count_kept rows c Committed in
    elim (same_or_not t b) [
      | inl e ↦
          let here : is_committed_up (with_state rows c Committed) b t ≡ true = rw e (up_itself law (with_state rows c Committed) h.after b (rw longer within)) in
          let there : is_committed_up rows b t ≡ true = rw e (up_itself law rows h.tree b within) in
          here ∙ ap (λ (x : Bool). x || ((b == p) && is_committed_up rows c t)) (sym there)
      | inr o ↦
          elim (same_or_not t c) [
            | inl e ↦
                let here : is_committed_up (with_state rows c Committed) b t ≡ (b == p) = rw e (from_child law rows c p h b other) in
                let not_there : is_committed_up rows b t ≡ false = stops law rows h.tree b t k o (rw e h.child_open) in
                let itself : is_committed_up rows c t ≡ true = rw e (up_itself law rows h.tree c h.within) in
                here ∙ and_true (b == p)
                ∙ ap (λ (x : Bool). x || ((b == p) && true)) (sym not_there)
                ∙ ap (λ (x : Bool). is_committed_up rows b t || ((b == p) && x)) (sym itself)
            | inr u ↦
                goes_up law (with_state rows c Committed) h.after b t (rw longer k) o
                ∙ ap (λ (x : Bool). x && above (λ q. is_committed_up (with_state rows c Committed) b q) (parent (with_state rows c Committed) t)) (still_committed rows c t u)
                ∙ ap (λ (x : Option ℕ). committed rows t && above (λ q. is_committed_up (with_state rows c Committed) b q) x) (parent_kept rows c Committed t)
                ∙ gains_above (committed rows t) (b == p) (parent rows t) t (h.tree.parents t k)
                (λ q. is_committed_up (with_state rows c Committed) b q) (λ q. is_committed_up rows b q) (λ q. is_committed_up rows c q)
                (λ q (below : q < t). gains law rows c p h b other within n q (omega arith) (omega arith))
                ∙ ap (λ (x : Bool). x || ((b == p) && (committed rows t && above (λ q. is_committed_up rows c q) (parent rows t)))) (sym (goes_up law rows h.tree b t k o))
                ∙ ap (λ (x : Bool). is_committed_up rows b t || ((b == p) && x)) (sym (goes_up law rows h.tree c t k u))
          ]
    ]
