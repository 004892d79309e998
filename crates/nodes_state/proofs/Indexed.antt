-- A registration with a number is found at the place of that number.
use Rattle.std.proofs.Common.{◌≡◌, ℕ, zero, suc, ◌+◌, ◌≤◌, true, false, cond, eqb, List, [], ◌∷◌, find, slice_get, Some, None, refl, ap, ◌∙◌, arith}
use Rattle.std.proofs.lemmas.Bool.{ne_eqb}
use Rattle.std.specs.Prelude.{◌==◌}
use Rattle.std.proofs.lemmas.Bool.Decides.{eqb_tells}
use Rattle.resource_votes.specs.Ballots.{numbered}
use Rattle.resource_votes.specs.declared.registration.Registration.{Registration}
use Rattle.nodes_state.specs.Telling.{AreIndexed}

-- so are those behind a place
abbrev AreIndexedFrom : ℕ → List Registration → Type 0
AreIndexedFrom k some = (i : ℕ) (r : Registration) → slice_get some i ≡ Some r → r.index ≡ k + i + 1

rest_indexed : (k : ℕ) (x : Registration) (xs : List Registration) → AreIndexedFrom k (x ∷ xs) → AreIndexedFrom (k + 1) xs
rest_indexed k x xs h = λ i r e. h (suc i) r e ∙ omega arith

same_index : (n m : ℕ) → n ≡ m → eqb n m ≡ true
same_index n m e = grind (arith, eqb_tells)

none_found : (k n : ℕ) (xs : List Registration) → AreIndexedFrom k xs → n ≤ k → find (λ (r : Registration). r.index == n) xs ≡ None
none_found k n [] h l = refl
none_found k n (x ∷ xs) h l =
    let first = h 0 x refl in
    let other : eqb x.index n ≡ false = ne_eqb x.index n (λ e. omega arith) in
    ap (λ b. cond b (Some x) (find (λ (r : Registration). r.index == n) xs)) other
    ∙ none_found (k + 1) n xs (rest_indexed k x xs h) (omega arith)

one_found : (k m : ℕ) (xs : List Registration) → AreIndexedFrom k xs → find (λ (r : Registration). r.index == k + 1 + m) xs ≡ slice_get xs m
one_found k m [] h = refl
one_found k zero (x ∷ xs) h =
    let first = h 0 x refl in
    let here : eqb x.index (k + 1 + zero) ≡ true = same_index x.index (k + 1 + zero) (omega arith) in
    ap (λ b. cond b (Some x) (find (λ (r : Registration). r.index == k + 1 + zero) xs)) here
one_found k (suc m) (x ∷ xs) h =
    let first = h 0 x refl in
    let e : k + 1 + suc m ≡ k + 1 + 1 + m = omega arith in
    let other : eqb x.index (k + 1 + suc m) ≡ false = ne_eqb x.index (k + 1 + suc m) (λ e. omega arith) in
    ap (λ b. cond b (Some x) (find (λ (r : Registration). r.index == k + 1 + suc m) xs)) other
    ∙ ap (λ n. find (λ (r : Registration). r.index == n) xs) e ∙ one_found (k + 1) m xs (rest_indexed k x xs h)

pub numbered_found : (some : List Registration) (n : ℕ) → AreIndexed some → find (λ (r : Registration). r.index == n) some ≡ numbered some n
numbered_found some zero h = none_found 0 0 some (λ i r e. h i r e ∙ omega arith) (omega arith)
numbered_found some (suc m) h =
    let e : suc m ≡ 0 + 1 + m = omega arith in
    ap (λ n. find (λ (r : Registration). r.index == n) some) e ∙ one_found 0 m some (λ i r e. h i r e ∙ omega arith)
