-- Lists: all of one, one of one that was changed, and what is in two that are joined.
use Rattle.std.proofs.Common.{◌≡◌, ◌≢◌, ◌⊎◌, inl, inr, ℕ, ◌<◌, zero, suc, List, [], ◌∷◌, ◌++◌, length, map, filter, cond, Bool, true, false, Some, Contains, refl, ap, subst, ◌∙◌, arith}
use Rattle.std.specs.Prelude.{get_or}
use Rattle.std.specs.List.{AllByRecursion}

pub behind_one : {A : Type 0} (x : A) (xs : List A) (y : A) → Contains xs y → Contains (x ∷ xs) y
behind_one x xs y c = let l = c.1 in (suc c.0, omega (arith, l), c.2)

pub all_at : {A : Type 0} (P : A → Type 0) (xs : List A) (x : A) → AllByRecursion P xs → Contains xs x → P x
all_at {A = A} P xs x h c = go xs c.0 h c.1 c.2
  where
    go : (ys : List A) (k : ℕ) → AllByRecursion P ys → k < length ys → get_or ys k x ≡ x → P x
    go [] k h l e = absurd (omega (arith, l))
    go (y ∷ ys) zero h l e = subst P e h.0
    go (y ∷ ys) (suc k) h l e = go ys k h.1 (omega (arith, l)) e

pub all_each : {A : Type 0} (P : A → Type 0) (xs : List A) → ((x : A) → Contains xs x → P x) → AllByRecursion P xs
all_each P [] each = tt
all_each P (x ∷ xs) each = (each x (zero, omega arith, refl), all_each P xs (λ y c. each y (behind_one x xs y c)))

pub all_joined : {A : Type 0} (P : A → Type 0) (xs ys : List A) → AllByRecursion P xs → AllByRecursion P ys → AllByRecursion P (xs ++ ys)
all_joined P [] ys h k = k
all_joined P (x ∷ xs) ys h k = (h.0, all_joined P xs ys h.1 k)

pub all_on : {A : Type 0} (P Q : A → Type 0) → ((x : A) → P x → Q x) → (xs : List A) → AllByRecursion P xs → AllByRecursion Q xs
all_on P Q on [] h = tt
all_on P Q on (x ∷ xs) h = (on x h.0, all_on P Q on xs h.1)

pub all_map : {A B : Type 0} (P : B → Type 0) (g : A → B) (xs : List A) → AllByRecursion (λ x. P (g x)) xs → AllByRecursion P (map g xs)
all_map P g [] h = tt
all_map P g (x ∷ xs) h = (h.0, all_map P g xs h.1)

-- ---- one of a list that was changed

pub record IsFrom {A B : Type 0} (g : A → B) (xs : List A) (y : B) : Type 0 where
  pub x : A
  pub there : Contains xs x
  pub is : g x ≡ y

pub of_map : {A B : Type 0} (g : A → B) (xs : List A) (y : B) → Contains (map g xs) y → IsFrom g xs y
of_map {A = A} g xs y c = go xs c.0 c.1 c.2
  where
    later : (x : A) (xs : List A) → IsFrom g xs y → IsFrom g (x ∷ xs) y
    later x xs f = record { x = f.x; there = behind_one x xs f.x f.there; is = f.is }

    go : (xs : List A) (k : ℕ) → k < length (map g xs) → get_or (map g xs) k y ≡ y → IsFrom g xs y
    go [] k l e = absurd (omega (arith, l))
    go (x ∷ xs) zero l e = record { x = x; there = (zero, omega arith, refl); is = e }
    go (x ∷ xs) (suc k) l e = later x xs (go xs k (omega (arith, l)) e)

pub of_filter : {A : Type 0} (test : A → Bool) (xs : List A) (y : A) → Contains (filter test xs) y → Contains xs y
of_filter test [] y c = let l = c.1 in absurd (omega (arith, l))
of_filter {A = A} test (x ∷ xs) y c = go (test x) c (of_filter test xs y)
  where
    first : (k : ℕ) → k < suc (length (filter test xs)) → get_or (x ∷ filter test xs) k y ≡ y → (Contains (filter test xs) y → Contains xs y) → Contains (x ∷ xs) y
    first zero l e r = (zero, omega arith, e)
    first (suc k) l e r = behind_one x xs y (r (k, omega (arith, l), e))

    go : (t : Bool) → Contains (cond t (x ∷ filter test xs) (filter test xs)) y → (Contains (filter test xs) y → Contains xs y) → Contains (x ∷ xs) y
    go true d r = first d.0 d.1 d.2 r
    go false d r = behind_one x xs y (r d)

pub passes_filter : {A : Type 0} (test : A → Bool) (xs : List A) (y : A) → Contains (filter test xs) y → test y ≡ true
passes_filter test [] y c = let l = c.1 in absurd (omega (arith, l))
passes_filter {A = A} test (x ∷ xs) y c = go (test x) refl c (passes_filter test xs y)
  where
    first : test x ≡ true → (k : ℕ) → k < suc (length (filter test xs)) → get_or (x ∷ filter test xs) k y ≡ y → (Contains (filter test xs) y → test y ≡ true) → test y ≡ true
    first i zero l e r = subst (λ (z : A). test z ≡ true) e i
    first i (suc k) l e r = r (k, omega (arith, l), e)

    go : (t : Bool) → test x ≡ t → Contains (cond t (x ∷ filter test xs) (filter test xs)) y → (Contains (filter test xs) y → test y ≡ true) → test y ≡ true
    go true i d r = first i d.0 d.1 d.2 r
    go false i d r = r d

pub into_filter : {A : Type 0} (test : A → Bool) (xs : List A) (y : A) → Contains xs y → test y ≡ true → Contains (filter test xs) y
into_filter {A = A} test xs y c t = go xs c.0 c.1 c.2
  where
    put : (x : A) (xs : List A) (b : Bool) → Contains (filter test xs) y → Contains (cond b (x ∷ filter test xs) (filter test xs)) y
    put x xs true c = behind_one x (filter test xs) y c
    put x xs false c = c

    here : (x : A) (xs : List A) (b : Bool) → b ≡ true → x ≡ y → Contains (cond b (x ∷ filter test xs) (filter test xs)) y
    here x xs true i e = (zero, omega arith, e)
    here x xs false i e = absurd (cc i)

    go : (xs : List A) (k : ℕ) → k < length xs → get_or xs k y ≡ y → Contains (filter test xs) y
    go [] k l e = absurd (omega (arith, l))
    go (x ∷ xs) zero l e = here x xs (test x) (ap test e ∙ t) e
    go (x ∷ xs) (suc k) l e = put x xs (test x) (go xs k (omega (arith, l)) e)

pub into_map : {A B : Type 0} (g : A → B) (xs : List A) (x : A) → Contains xs x → Contains (map g xs) (g x)
into_map {A = A} g xs x c = go xs c.0 c.1 c.2
  where
    go : (xs : List A) (k : ℕ) → k < length xs → get_or xs k x ≡ x → Contains (map g xs) (g x)
    go [] k l e = absurd (omega (arith, l))
    go (y ∷ ys) zero l e = (zero, omega arith, ap g e)
    go (y ∷ ys) (suc k) l e = behind_one (g y) (map g ys) (g x) (go ys k (omega (arith, l)) e)

pub same_or_not : (a b : ℕ) → (a ≡ b) ⊎ (a ≢ b)
same_or_not zero zero = inl refl
same_or_not zero (suc b) = inr (λ e. absurd (cc e))
same_or_not (suc a) zero = inr (λ e. absurd (cc e))
same_or_not (suc a) (suc b) = go (same_or_not a b)
  where
    go : (a ≡ b) ⊎ (a ≢ b) → (suc a ≡ suc b) ⊎ (suc a ≢ suc b)
    go (inl e) = inl (ap (λ (k : ℕ). suc k) e)
    go (inr n) = inr (λ e. n (cc e))

pub inner : {A : Type 0} {a b : A} → Some a ≡ Some b → a ≡ b
inner e = cc e
