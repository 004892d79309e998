-- How many servants there are, and that each is of one room.
use Rattle.std.proofs.Common.{◌≡◌, ◌∙◌, ◌≤◌, ◌⊎◌, ◌∷◌, ◌++◌, inl, inr, sym, subst, ℕ, List, [], All, min}
use Rattle.std.proofs.Math.Nat.{le-min, min-eq_left, min-eq_right}
use Rattle.std.proofs.lemmas.List.Elements.{All-push}

-- the lesser of two is one of them that is no greater than the other
lesser : (n l c : ℕ) → n ≤ l → n ≤ c → (n ≡ l) ⊎ (n ≡ c) → n ≡ min l c
lesser n l c few_l few_c (inl is) = is ∙ sym (min-eq_left (subst (λ x. x ≤ c) is few_c))
lesser n l c few_l few_c (inr is) = is ∙ sym (min-eq_right (subst (λ x. x ≤ l) is few_l))

-- the least of three is one of them that is no greater than the others
pub least : (n p l c : ℕ) → n ≤ p → n ≤ l → n ≤ c → (n ≡ p) ⊎ ((n ≡ l) ⊎ (n ≡ c)) → n ≡ min p (min l c)
least n p l c few_p few_l few_c (inl is) = lesser n p (min l c) few_p (le-min few_l few_c) (inl is)
least n p l c few_p few_l few_c (inr is) = lesser n p (min l c) few_p (le-min few_l few_c) (inr (lesser n l c few_l few_c is))

pub one_more : {X Y : Type 0} (of : X → Y) (y : Y) (xs : List X) (x : X) → All (λ (z : X). of z ≡ y) xs → of x ≡ y
    → All (λ (z : X). of z ≡ y) (xs ++ x ∷ [])
one_more of y xs x all is = All-push (λ z. of z ≡ y) xs x all is
