-- Resources at places that tell their numbers.
use Rattle.std.proofs.Common.{◌≡◌, ℕ, ◌+◌, ◌<◌, ◌≤◌, ◌==◌, Bool, true, false, ◌||◌, zero, suc, List, [], ◌∷◌, ◌++◌, length, map, slice_set, Option, Some, None, sym, ap, ◌∙◌, refl, arith}
use Rattle.std.specs.List.{slice_get, find, list_any}
use Rattle.std.specs.Option.{option_and_then}
use Rattle.std.proofs.lemmas.Grind.{common_steps}
use Rattle.std.proofs.lemmas.Option.{same_Some}
use Rattle.decision_journal.specs.declared.record.Put.{Put}
use Rattle.nodes_world.specs.Ends.{in_place_of}
use Rattle.nodes_world.specs.Resolve.{has_put}
use Rattle.nodes_parts.specs.Kept.{AreNumbered, flat, flat_all, flat_object, numbered}
use Rattle.nodes_parts.specs.declared.ends.Resource.{Resource}

-- each has the number of its place, where so many come before
abbrev pub AreFrom : ℕ → List (Option Resource) → Type 0
AreFrom k objects = (i : ℕ) (r : Resource) → slice_get objects i ≡ Some (Some r) → r.key.generation ≡ k + i + 1

pub from_here : (objects : List (Option Resource)) → AreNumbered objects → AreFrom 0 objects
from_here objects h = λ i r at. h i r at ∙ omega arith

pub behind : (k : ℕ) (o : Option Resource) (objects : List (Option Resource)) → AreFrom k (o ∷ objects) → AreFrom (k + 1) objects
behind k o objects h = λ i r at. h (suc i) r at ∙ omega arith

-- two numbers are compared
pub not_same : (a b : ℕ) → a < b → (a == b) ≡ false
not_same a b h = grind (arith, common_steps)

pub not_same_above : (a b : ℕ) → b < a → (a == b) ≡ false
not_same_above a b h = grind (arith, common_steps)

pub same : (a b : ℕ) → a ≡ b → (a == b) ≡ true
same a b h = grind (arith, common_steps)

-- one of three comes first
pub or_swap : (a b c : Bool) → (a || (b || c)) ≡ (b || (a || c))
or_swap true true c = refl
or_swap true false c = refl
or_swap false true c = refl
or_swap false false c = refl

-- no resource has a number of those that come before
pub none_before : (objects : List (Option Resource)) (k n : ℕ) → AreFrom k objects → n ≤ k → find (numbered n) (flat_all objects) ≡ None
none_before [] k n h l = refl
none_before (None ∷ objects) k n h l = none_before objects (k + 1) n (behind k None objects h) (omega arith)
none_before (Some r ∷ objects) k n h l =
    let here = h zero r refl in
    let other : (r.key.generation == n) ≡ false = not_same_above r.key.generation n (omega arith) in
    let rest = none_before objects (k + 1) n (behind k (Some r) objects h) (omega arith) in
    rw other rest

-- the resource with a number stands at its place
pub found_at : (objects : List (Option Resource)) (k i : ℕ) → AreFrom k objects
    → find (numbered (k + i + 1)) (flat_all objects) ≡ option_and_then flat_object (slice_get objects i)
found_at [] k i h = refl
found_at (None ∷ objects) k zero h = none_before objects (k + 1) (k + 0 + 1) (behind k None objects h) (omega arith)
found_at (None ∷ objects) k (suc i) h =
    let e : k + suc i + 1 ≡ (k + 1) + i + 1 = omega arith in
    ap (λ n. find (numbered n) (flat_all objects)) e ∙ found_at objects (k + 1) i (behind k None objects h)
found_at (Some r ∷ objects) k zero h =
    let here : (r.key.generation == k + 0 + 1) ≡ true = same r.key.generation (k + 0 + 1) (h zero r refl) in
    rw here refl
found_at (Some r ∷ objects) k (suc i) h =
    let other : (r.key.generation == k + suc i + 1) ≡ false = not_same r.key.generation (k + suc i + 1) (rw (h zero r refl) (omega arith)) in
    let e : k + suc i + 1 ≡ (k + 1) + i + 1 = omega arith in
    rw other (ap (λ n. find (numbered n) (flat_all objects)) e ∙ found_at objects (k + 1) i (behind k (Some r) objects h))

-- a number that no resource has from here on: nothing gives way to a resource with it
pub kept_above : (objects : List (Option Resource)) (k : ℕ) (r : Resource) → AreFrom k objects → r.key.generation ≤ k
    → map (in_place_of (flat r)) (flat_all objects) ≡ flat_all objects
kept_above [] k r h l = refl
kept_above (None ∷ objects) k r h l = kept_above objects (k + 1) r (behind k None objects h) (omega arith)
kept_above (Some s ∷ objects) k r h l =
    let other : (s.key.generation == r.key.generation) ≡ false = not_same_above s.key.generation r.key.generation (rw (h zero s refl) (omega arith)) in
    let rest = kept_above objects (k + 1) r (behind k (Some s) objects h) (omega arith) in
    rw other (ap (λ others. flat s ∷ others) rest)

-- a resource takes the place of the one with its number
pub replaced_at : (objects : List (Option Resource)) (k i : ℕ) (r old : Resource) → AreFrom k objects → r.key.generation ≡ k + i + 1
    → slice_get objects i ≡ Some (Some old)
    → flat_all (slice_set objects i (Some r)) ≡ map (in_place_of (flat r)) (flat_all objects)
replaced_at [] k i r old h n at = absurd (cc)
replaced_at (None ∷ objects) k zero r old h n at = absurd (cc)
replaced_at (None ∷ objects) k (suc i) r old h n at = replaced_at objects (k + 1) i r old (behind k None objects h) (omega arith) at
replaced_at (Some s ∷ objects) k zero r old h n at =
    let here : (s.key.generation == r.key.generation) ≡ true = same s.key.generation r.key.generation (h zero s refl ∙ sym n) in
    let rest = kept_above objects (k + 1) r (behind k (Some s) objects h) (omega arith) in
    rw here (ap (λ others. flat r ∷ others) (sym rest))
replaced_at (Some s ∷ objects) k (suc i) r old h n at =
    let other : (s.key.generation == r.key.generation) ≡ false = not_same s.key.generation r.key.generation (rw (h zero s refl) (omega arith)) in
    let rest = replaced_at objects (k + 1) i r old (behind k (Some s) objects h) (omega arith) at in
    rw other (ap (λ others. flat s ∷ others) rest)

-- the last object, which is no resource, becomes one
pub made_last : (objects : List (Option Resource)) (i : ℕ) (r : Resource) → length objects ≡ i + 1 → slice_get objects i ≡ Some None
    → flat_all (slice_set objects i (Some r)) ≡ flat_all objects ++ flat r ∷ []
made_last [] i r l at = absurd (omega arith)
made_last (None ∷ []) zero r l at = refl
made_last (None ∷ o ∷ objects) zero r l at = absurd (omega arith)
made_last (Some s ∷ objects) zero r l at = absurd (cc)
made_last (None ∷ objects) (suc i) r l at = made_last objects i r (omega arith) at
made_last (Some s ∷ objects) (suc i) r l at = ap (λ others. flat s ∷ others) (made_last objects i r (omega arith) at)

-- the cells that are named don't change where a resource keeps its put
pub any_kept : (objects : List (Option Resource)) (i cell : ℕ) (r old : Resource) → slice_get objects i ≡ Some (Some old) → r.put ≡ old.put
    → list_any (has_put cell) (flat_all (slice_set objects i (Some r))) ≡ list_any (has_put cell) (flat_all objects)
any_kept [] i cell r old at e = absurd (cc)
any_kept (None ∷ objects) zero cell r old at e = absurd (cc)
any_kept (None ∷ objects) (suc i) cell r old at e = any_kept objects i cell r old at e
any_kept (Some s ∷ objects) zero cell r old at e =
    let same : s ≡ old = same_Some s old (same_Some (Some s) (Some old) at) in
    ap (λ put. has_put cell (record (flat s) { put = put }) || list_any (has_put cell) (flat_all objects)) (e ∙ ap (λ x. x.put) (sym same))
any_kept (Some s ∷ objects) (suc i) cell r old at e = ap (λ rest. has_put cell (flat s) || rest) (any_kept objects i cell r old at e)

-- a cell is named beside the others where a resource that had no put is given one
pub any_put : (objects : List (Option Resource)) (i cell : ℕ) (r old : Resource) (p : Put) → slice_get objects i ≡ Some (Some old) → old.put ≡ None → r.put ≡ Some p
    → list_any (has_put cell) (flat_all (slice_set objects i (Some r))) ≡ ((p.cell == cell) || list_any (has_put cell) (flat_all objects))
any_put [] i cell r old p at e f = absurd (cc)
any_put (None ∷ objects) zero cell r old p at e f = absurd (cc)
any_put (None ∷ objects) (suc i) cell r old p at e f = any_put objects i cell r old p at e f
any_put (Some s ∷ objects) zero cell r old p at e f =
    let same : s ≡ old = same_Some s old (same_Some (Some s) (Some old) at) in
    let none : s.put ≡ None = ap (λ x. x.put) same ∙ e in
    rw (f, none) refl
any_put (Some s ∷ objects) (suc i) cell r old p at e f =
    ap (λ rest. has_put cell (flat s) || rest) (any_put objects i cell r old p at e f) ∙ or_swap (has_put cell (flat s)) (p.cell == cell) (list_any (has_put cell) (flat_all objects))
