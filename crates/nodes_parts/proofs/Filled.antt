-- Octets of which a range gives way to others.
use Rattle.std.proofs.Common.{◌≡◌, ℕ, ◌+◌, ◌-◌, ◌<◌, ◌≤◌, zero, suc, Bool, true, false, List, [], ◌∷◌, ◌++◌, length, take, drop, slice_range, refl, sym, ap, ◌∙◌, arith, append_assoc, length-drop}
use Rattle.std.proofs.lemmas.List.{take-append-drop, length-take-le}
use Rattle.nodes_world.specs.Disks.{dealt, filled, left_over, with_first}
use Rattle.nodes_parts.specs.Filling.{cycled, cycled_from}

abbrev pub AreAll : (ℕ → Bool) → Bool → ℕ → ℕ → Type 0
AreAll u b place count = (i : ℕ) → i < count → u (place + i) ≡ b

next_all : (u : ℕ → Bool) (b : Bool) (place n : ℕ) → AreAll u b place (suc n) → AreAll u b (place + 1) n
next_all u b place n h = λ i l. let e : place + 1 + i ≡ place + suc i = omega arith in ap u e ∙ h (suc i) (omega arith)

here_all : (u : ℕ → Bool) (b : Bool) (place n : ℕ) → AreAll u b place (suc n) → u place ≡ b
here_all u b place n h = let e : place ≡ place + 0 = omega arith in ap u e ∙ h 0 (omega arith)

-- what is synced stays
pub filled_none : (u : ℕ → Bool) (all left xs : List ℕ) (place : ℕ) → AreAll u false place (length xs) → filled u all left place xs ≡ xs
unfolding filled
filled_none u all left [] place h = refl
filled_none u all left (x ∷ xs) place h =
    ap (λ b. dealt b (λ (rest : List ℕ). filled u all rest (place + 1) xs) all left x) (here_all u false place (length xs) h)
    ∙ ap (λ rest. x ∷ rest) (filled_none u all left xs (place + 1) (next_all u false place (length xs) h))

pub filled_front : (u : ℕ → Bool) (all left xs zs : List ℕ) (place : ℕ) → AreAll u false place (length xs)
    → filled u all left place (xs ++ zs) ≡ xs ++ filled u all left (place + length xs) zs
unfolding filled
filled_front u all left [] zs place h = let e : place ≡ place + 0 = omega arith in ap (λ p. filled u all left p zs) e
filled_front u all left (x ∷ xs) zs place h =
    let e : place + 1 + length xs ≡ place + length (x ∷ xs) = omega arith in
    ap (λ b. dealt b (λ (rest : List ℕ). filled u all rest (place + 1) (xs ++ zs)) all left x) (here_all u false place (length xs) h)
    ∙ ap (λ rest. x ∷ rest) (filled_front u all left xs zs (place + 1) (next_all u false place (length xs) h) ∙ ap (λ p. xs ++ filled u all left p zs) e)

first_same : (o zs : List ℕ) (next later : List ℕ → List ℕ) (x : ℕ) → ((r : List ℕ) → next r ≡ later r ++ zs) → with_first o next x ≡ with_first o later x ++ zs
first_same [] zs next later x h = ap (λ rest. x ∷ rest) (h [])
first_same (f ∷ o) zs next later x h = ap (λ rest. f ∷ rest) (h o)

-- what isn't gives way
pub filled_range : (u : ℕ → Bool) (all left ys zs : List ℕ) (place : ℕ) → AreAll u true place (length ys) → AreAll u false (place + length ys) (length zs)
    → filled u all left place (ys ++ zs) ≡ cycled_from all left ys ++ zs
unfolding filled
filled_range u all left [] zs place h k =
    let e : place + 0 ≡ place = omega arith in
    filled_none u all left zs place (λ i l. ap (λ p. u (p + i)) (sym e) ∙ k i l)
filled_range u all left (y ∷ ys) zs place h k =
    let e : place + 1 + length ys ≡ place + length (y ∷ ys) = omega arith in
    ap (λ b. dealt b (λ (rest : List ℕ). filled u all rest (place + 1) (ys ++ zs)) all left y) (here_all u true place (length ys) h)
    ∙ first_same (left_over all left) zs (λ (rest : List ℕ). filled u all rest (place + 1) (ys ++ zs)) (λ (rest : List ℕ). cycled_from all rest ys) y
    (λ r. filled_range u all r ys zs (place + 1) (next_all u true place (length ys) h) (λ i l. ap (λ p. u (p + i)) e ∙ k i l))

drop_drop : (xs : List ℕ) (m n : ℕ) → drop n (drop m xs) ≡ drop (m + n) xs
drop_drop xs zero n = let e : n ≡ zero + n = omega arith in ap (λ k. drop k xs) e
drop_drop [] (suc m) zero = let e : suc m ≡ suc m + zero = omega arith in ap (λ k. drop k []) e
drop_drop [] (suc m) (suc n) = let e : suc (m + suc n) ≡ suc m + suc n = omega arith in ap (λ k. drop k []) e
drop_drop (x ∷ xs) (suc m) n = let e : suc (m + n) ≡ suc m + n = omega arith in drop_drop xs m n ∙ ap (λ k. drop k (x ∷ xs)) e

-- a range of octets gives way
pub filled_in : (u : ℕ → Bool) (all xs : List ℕ) (from to : ℕ) → from ≤ to → to ≤ length xs
    → AreAll u false 0 from → AreAll u true from (to - from) → AreAll u false to (length xs - to)
    → filled u all [] 0 xs ≡ take from xs ++ cycled all (slice_range xs from to) ++ drop to xs
filled_in u all xs from to order within before inside behind =
    let a = take from xs in
    let b = take (to - from) (drop from xs) in
    let c = drop to xs in
    let at : from + (to - from) ≡ to = omega arith in
    let left : to - from ≤ length (drop from xs) = omega (arith, length-drop from xs) in
    let la : length (take from xs) ≡ from = length-take-le from xs (omega arith) in
    let lb : length (take (to - from) (drop from xs)) ≡ to - from = length-take-le (to - from) (drop from xs) left in
    let lc : length (drop to xs) ≡ length xs - to = length-drop to xs in
    let zero_at : 0 + length (take from xs) ≡ from = omega arith in
    let split : xs ≡ take from xs ++ (take (to - from) (drop from xs) ++ drop to xs) =
    sym (ap (λ rest. take from xs ++ (take (to - from) (drop from xs) ++ rest)) (ap (λ k. drop k xs) (sym at) ∙ sym (drop_drop xs from (to - from)))
    ∙ ap (λ rest. take from xs ++ rest) (take-append-drop (to - from) (drop from xs)) ∙ take-append-drop from xs) in
    let front = filled_front u all [] a (b ++ c) 0 (λ i l. before i (omega arith)) in
    let middle = filled_range u all [] b c from (λ i l. inside i (omega arith)) (λ i l. let e : from + length b + i ≡ to + i = omega arith in ap u e ∙ behind i (omega arith)) in
    ap (filled u all [] 0) split ∙ front ∙ ap (λ p. a ++ filled u all [] p (b ++ c)) zero_at ∙ ap (λ rest. a ++ rest) middle
    ∙ sym (append_assoc a (cycled all b) c)
