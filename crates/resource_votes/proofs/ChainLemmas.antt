-- Chains of linked numbers, and what a new link makes of them.
use Rattle.std.proofs.Common.{◌≡◌, ◌≢◌, ◌⊎◌, inl, inr, ℕ, ◌+◌, ◌-◌, ◌<◌, ◌≤◌, zero, suc, List, [], ◌∷◌, ◌++◌, length, refl, ap, sym, ◌∙◌, arith}
use Rattle.std.specs.Prelude.{slice_index, slice_set}
use Rattle.std.proofs.lemmas.Grind.{common_steps}
use Rattle.std.proofs.lemmas.List.{get_or-set_same, get_or-set_other}
use Rattle.resource_votes.specs.Lists.{AreNumbers}
use Rattle.resource_votes.specs.ChainsInside.{walk, IsChain, last_of}

pub same_or_not : (a b : ℕ) → (a ≡ b) ⊎ (a ≢ b)
same_or_not a b = grind arith

-- a walk of enough steps gives the chain
pub walk_is : (next xs : List ℕ) (at n : ℕ) → IsChain next at xs → length xs ≤ n → walk n next at ≡ xs
walk_is next [] at zero h k = refl
walk_is next [] zero (suc n) h k = refl
walk_is next [] (suc i) (suc n) h k = absurd (omega (arith, h))
walk_is next (x ∷ xs) at zero h k = absurd (omega arith)
walk_is next (x ∷ xs) zero (suc n) h k = absurd (omega (arith, h.0, h.1))
walk_is next (x ∷ xs) (suc i) (suc n) h k =
    let back : x - 1 ≡ i = omega (arith, h.0) in
    let rest : walk n next (slice_index next i) ≡ xs = walk_is next xs (slice_index next i) n (rw back at h.3) (omega arith) in
    ap (λ (ys : List ℕ). suc i ∷ ys) rest ∙ ap (λ (y : ℕ). y ∷ xs) h.0

-- nothing follows 0
pub chain_none : (next xs : List ℕ) → IsChain next 0 xs → xs ≡ []
chain_none next [] h = refl
chain_none next (x ∷ xs) h = absurd (omega (arith, h.0, h.1))

pub last_positive : (next : List ℕ) (at x : ℕ) (xs : List ℕ) → IsChain next at (x ∷ xs) → 0 < last_of (x ∷ xs)
last_positive next at x [] h = h.1
last_positive next at x (y ∷ ys) h = last_positive next (slice_index next (x - 1)) y ys h.3

pub last_zero : (next : List ℕ) (at : ℕ) (xs : List ℕ) → IsChain next at xs → last_of xs ≡ 0 → xs ≡ []
last_zero next at [] h z = refl
last_zero next at (x ∷ xs) h z = absurd (omega (arith, last_positive next at x xs h))

pub last_within : (next : List ℕ) (at : ℕ) (xs : List ℕ) → IsChain next at xs → last_of xs ≤ length next
last_within next at [] h = omega arith
last_within next at (x ∷ []) h = h.2
last_within next at (x ∷ y ∷ ys) h = last_within next (slice_index next (x - 1)) (y ∷ ys) h.3

-- the last number leads to none
pub last_stops : (next : List ℕ) (at : ℕ) (xs : List ℕ) → IsChain next at xs → 0 < last_of xs → slice_index next (last_of xs - 1) ≡ 0
last_stops next at [] h p = absurd (omega arith)
last_stops next at (x ∷ []) h p = h.3
last_stops next at (x ∷ y ∷ ys) h p = last_stops next (slice_index next (x - 1)) (y ∷ ys) h.3 p

-- a number that leads to none is the last of its chain
stops_there : (next : List ℕ) (t x : ℕ) (xs : List ℕ) → slice_index next (t - 1) ≡ 0 → x ≡ t → IsChain next (slice_index next (x - 1)) xs → xs ≡ []
stops_there next t x xs stop e h = chain_none next xs (rw (e, stop) at h)

still_set : (next : List ℕ) (t f x : ℕ) → x ≢ t → 0 < t → 0 < x → slice_index (slice_set next (t - 1) f) (x - 1) ≡ slice_index next (x - 1)
still_set next t f x other p q =
    let apart : x - 1 ≢ t - 1 = λ e. other (omega arith) in
    get_or-set_other next (t - 1) (x - 1) f 0 apart

length_set : (next : List ℕ) (i f : ℕ) → length (slice_set next i f) ≡ length next
length_set next i f = grind (arith, common_steps)

-- a new link behind the last number of another chain leaves a chain as it is
pub chain_kept : (next : List ℕ) (at : ℕ) (zs : List ℕ) (t f : ℕ) → IsChain next at zs → last_of zs ≢ t → 0 < t → slice_index next (t - 1) ≡ 0 → IsChain (slice_set next (t - 1) f) at zs
chain_kept next at [] t f h other p stop = h
chain_kept next at (x ∷ []) t f h other p stop =
    (h.0, h.1, rw (length_set next (t - 1) f) h.2, rw (still_set next t f x other p h.1) h.3)
chain_kept next at (x ∷ y ∷ ys) t f h other p stop =
    elim (same_or_not x t) [
      | inl e ↦ absurd (omega (arith, h.3.1, ap (λ (n : ℕ). n) (ends_here next t x y ys stop e h.3)))
      | inr o ↦ (
        h.0,
        h.1,
        rw (length_set next (t - 1) f) h.2,
        rw (still_set next t f x o p h.1) (chain_kept next (slice_index next (x - 1)) (y ∷ ys) t f h.3 other p stop),
      )
    ]
  where
    ends_here : (next : List ℕ) (t x y : ℕ) (ys : List ℕ) → slice_index next (t - 1) ≡ 0 → x ≡ t → IsChain next (slice_index next (x - 1)) (y ∷ ys) → y ≡ 0
    ends_here next t x y ys stop e h = sym (rw (e, stop) at h.0)

-- two chains joined behind the last number of the first one
pub chain_joined : (next : List ℕ) (at : ℕ) (xs : List ℕ) (t f : ℕ) (ys : List ℕ) → IsChain next at xs → last_of xs ≡ t → 0 < t → slice_index next (t - 1) ≡ 0 → IsChain (slice_set next (t - 1) f) f ys → IsChain (slice_set next (t - 1) f) at (xs ++ ys)
chain_joined next at [] t f ys h e p stop k = absurd (omega arith)
chain_joined next at (x ∷ []) t f ys h e p stop k =
    let there : t - 1 < length next = omega (arith, h.2, e) in
    let leads : slice_index (slice_set next (t - 1) f) (x - 1) ≡ f = rw e (get_or-set_same next (t - 1) f 0 there) in
    (h.0, h.1, rw (length_set next (t - 1) f) h.2, rw leads k)
chain_joined next at (x ∷ y ∷ xs) t f ys h e p stop k =
    elim (same_or_not x t) [
      | inl s ↦ absurd (omega (arith, h.3.1, ends_here next t x y xs stop s h.3))
      | inr o ↦ (
        h.0,
        h.1,
        rw (length_set next (t - 1) f) h.2,
        rw (still_set next t f x o p h.1) (chain_joined next (slice_index next (x - 1)) (y ∷ xs) t f ys h.3 e p stop k),
      )
    ]
  where
    ends_here : (next : List ℕ) (t x y : ℕ) (ys : List ℕ) → slice_index next (t - 1) ≡ 0 → x ≡ t → IsChain next (slice_index next (x - 1)) (y ∷ ys) → y ≡ 0
    ends_here next t x y ys stop e h = sym (rw (e, stop) at h.0)

-- one more number leaves a chain as it is
still_grown : (next : List ℕ) (x : ℕ) → 0 < x → x ≤ length next → slice_index (next ++ 0 ∷ []) (x - 1) ≡ slice_index next (x - 1)
still_grown next x p h = grind (arith, common_steps)

pub chain_grows : (next : List ℕ) (at : ℕ) (xs : List ℕ) → IsChain next at xs → IsChain (next ++ 0 ∷ []) at xs
chain_grows next at [] h = h
chain_grows next at (x ∷ xs) h =
    let longer : length (next ++ 0 ∷ []) ≡ length next + 1 = grind (arith, common_steps) in
    (h.0, h.1, omega (arith, longer, h.2), rw (still_grown next x h.1 h.2) (chain_grows next (slice_index next (x - 1)) xs h.3))

pub last_joined : (xs ys : List ℕ) → 0 < last_of ys → last_of (xs ++ ys) ≡ last_of ys
last_joined [] ys p = refl
last_joined (x ∷ []) [] p = absurd (omega arith)
last_joined (x ∷ []) (y ∷ ys) p = refl
last_joined (x ∷ z ∷ xs) ys p = last_joined (z ∷ xs) ys p

-- a walk has no more numbers than steps
pub walk_short : (n : ℕ) (next : List ℕ) (at : ℕ) → length (walk n next at) ≤ n
walk_short zero next at = omega arith
walk_short (suc n) next zero = omega arith
walk_short (suc n) next (suc i) = omega (arith, walk_short n next (slice_index next i))

-- one step along a chain
pub chain_step : (next : List ℕ) (n at place : ℕ) (xs : List ℕ) → at ≡ place + 1 → IsChain next at xs → length xs ≤ n → (xs ≡ at ∷ walk n next (slice_index next place)) × IsChain next (slice_index next place) (walk n next (slice_index next place))
chain_step next n at place [] e h k = absurd (omega (arith, e, h))
chain_step next n at place (x ∷ xs) e h k =
    let here : x - 1 ≡ place = omega (arith, e, h.0) in
    let chain : IsChain next (slice_index next place) xs = rw here at h.3 in
    let rest : walk n next (slice_index next place) ≡ xs = walk_is next xs (slice_index next place) n chain (omega arith) in
    (ap (λ (y : ℕ). y ∷ xs) (sym h.0) ∙ ap (λ (ys : List ℕ). at ∷ ys) (sym rest), rw rest chain)

-- the numbers of a chain are numbers
pub chain_numbers : (next : List ℕ) (at : ℕ) (xs : List ℕ) → IsChain next at xs → AreNumbers (length next) xs
chain_numbers next at [] h = tt
chain_numbers next at (x ∷ xs) h = (h.1, h.2, chain_numbers next (slice_index next (x - 1)) xs h.3)
