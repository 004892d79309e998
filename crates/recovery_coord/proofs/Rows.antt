-- Records behind those at the front that are gone.
use Rattle.std.proofs.Common.{◌≡◌, ℕ, zero, suc, ◌+◌, ◌-◌, ◌<◌, ◌≤◌, List, [], ◌∷◌, ◌++◌, length, take, drop, set, refl, sym, ap, subst, ◌∙◌, arith, append_assoc, length-append}
use Rattle.std.specs.List.{insert, remove}
use Rattle.std.proofs.Math.Seq.{drop-append-add}
use Rattle.std.proofs.lemmas.List.{append-nil, drop-set-lt, drop_all, length-drop, length-take-le, take-append-le, take-take, take_all}

module _ {A : Type 0} where
  -- ---- one comes

  inserted_at : (gone index at : ℕ) (xs : List A) (y : A) → at ≡ gone + index → gone ≤ length xs → drop gone (insert xs at y) ≡ insert (drop gone xs) index y
  inserted_at zero index at xs y is le = ap (λ (n : ℕ). insert xs n y) (omega (arith, is))
  inserted_at (suc gone) index at [] y is le = absurd (omega (arith, le))
  inserted_at (suc gone) index zero (x ∷ xs) y is le = absurd (omega (arith, is))
  inserted_at (suc gone) index (suc at) (x ∷ xs) y is le = inserted_at gone index at xs y (omega (arith, is)) (omega (arith, le))

  pub inserted_behind : (gone index : ℕ) (xs : List A) (y : A) → gone ≤ length xs → drop gone (insert xs (gone + index) y) ≡ insert (drop gone xs) index y
  inserted_behind gone index xs y le = inserted_at gone index (gone + index) xs y refl le

  -- ---- all change

  -- a vector with other elements behind those that are gone
  pub behind_changed : (n gone : ℕ) (xs ys : List A) → n ≡ length xs → gone ≤ length xs → length ys ≡ length (drop gone xs)
      → (whole : List A) → whole ≡ take gone xs ++ (ys ++ drop (length ys) (drop gone xs)) → drop gone (take n (whole ++ drop (length whole) xs)) ≡ ys
  behind_changed n gone xs ys all le many whole is =
      let behind = ys ++ drop (length ys) (drop gone xs) in
      let before : length (take gone xs) ≡ gone = length-take-le gone xs le in
      let none : drop (length ys) (drop gone xs) ≡ [] = drop_all (length ys) (drop gone xs) (omega (arith, many)) in
      let rest : behind ≡ ys = ap (λ (zs : List A). ys ++ zs) none ∙ append-nil ys in
      let size : length whole ≡ n = omega (arith, all, le, ap length is, length-append (take gone xs) behind, ap length rest, many, length-drop gone xs, before) in
      ap (drop gone) (take-append-le n whole (drop (length whole) xs) (omega (arith, size)) ∙ take_all n whole (omega (arith, size)))
      ∙ ap (drop gone) is
      ∙ subst (λ (m : ℕ). drop m (take gone xs ++ behind) ≡ behind) {x = length (take gone xs) + 0} {y = gone} (omega (arith, before)) (drop-append-add (take gone xs) behind 0)
      ∙ rest

  -- ---- one goes

  removed_nothing : (at : ℕ) → remove {X = A} [] at ≡ []
  removed_nothing zero = refl
  removed_nothing (suc at) = refl

  removed_at : (gone index at : ℕ) (xs : List A) → at ≡ gone + index → drop gone (remove xs at) ≡ remove (drop gone xs) index
  removed_at zero index at xs is = ap (remove xs) (omega (arith, is))
  removed_at (suc gone) index at [] is = ap (drop (suc gone)) (removed_nothing at) ∙ sym (removed_nothing index)
  removed_at (suc gone) index zero (x ∷ xs) is = absurd (omega (arith, is))
  removed_at (suc gone) index (suc at) (x ∷ xs) is = removed_at gone index at xs (omega (arith, is))

  -- one is taken away from what stands
  pub removed_behind : (gone index : ℕ) (xs : List A) → drop gone (remove xs (gone + index)) ≡ remove (drop gone xs) index
  removed_behind gone index xs = removed_at gone index (gone + index) xs refl

  -- of so many the last comes before the others
  abbrev turned : ℕ → List A → List A
  turned index xs = drop index (take (suc index) xs) ++ take index (take (suc index) xs)

  length_turned : (index : ℕ) (xs : List A) → index < length xs → length (turned index xs) ≡ suc index
  length_turned index xs lt =
      let part = take (suc index) xs in
      let all : length part ≡ suc index = length-take-le (suc index) xs lt in
      omega (arith, length-append (drop index part) (take index part), length-drop index part, all, length-take-le index part (omega (arith, all)))

  behind_turned : (index : ℕ) (xs : List A) → index < length xs → drop 1 (turned index xs ++ drop (suc index) xs) ≡ remove xs index
  behind_turned index xs lt =
      let part = take (suc index) xs in
      let first = drop index part in
      let rest = take index part ++ drop (suc index) xs in
      let one : length first ≡ 1 = omega (arith, length-drop index part, length-take-le (suc index) xs lt) in
      ap (drop 1) (append_assoc first (take index part) (drop (suc index) xs))
      ∙ (subst (λ (n : ℕ). drop n (first ++ rest) ≡ rest) {x = length first + 0} {y = 1} (omega (arith, one)) (drop-append-add first rest 0)
      ∙ ap (λ (ys : List A). ys ++ drop (suc index) xs) (take-take index (suc index) xs (omega arith)))

  -- so many are turned
  pub turned_is : (index : ℕ) (xs part ys : List A) → index < length xs → part ≡ take (suc index) xs → ys ≡ drop (length part - 1) part ++ take (length part - 1) part → ys ≡ turned index xs
  turned_is index xs part ys lt is after =
      after ∙ subst (λ (n : ℕ). drop n part ++ take n part ≡ turned index xs) {x = index} {y = length part - 1} (omega (arith, ap length is, length-take-le (suc index) xs lt)) (ap (λ (p : List A). drop index p ++ take index p) is)

  -- one goes, where those before it are turned with it, and it is the first that stands then
  pub first_goes : (n gone index : ℕ) (xs ys : List A) (y : A) → n ≡ length xs → gone + index < length xs → ys ≡ turned index (drop gone xs)
      → (whole : List A) → whole ≡ take gone xs ++ (ys ++ drop (length ys) (drop gone xs))
      → drop (gone + 1) (set (take n (whole ++ drop (length whole) xs)) gone y) ≡ remove (drop gone xs) index
  first_goes n gone index xs ys y all lt is whole whole_is =
      let standing = drop gone xs in
      let behind = ys ++ drop (length ys) standing in
      let before : length (take gone xs) ≡ gone = length-take-le gone xs (omega (arith, lt)) in
      let inside : index < length standing = omega (arith, lt, length-drop gone xs) in
      let many : length ys ≡ suc index = ap length is ∙ length_turned index standing inside in
      let size : length whole ≡ n = omega (arith, all, lt, ap length whole_is, length-append (take gone xs) behind, length-append ys (drop (length ys) standing), length-drop (length ys) standing, length-drop gone xs, before, many) in
      let same : take n (whole ++ drop (length whole) xs) ≡ whole = take-append-le n whole (drop (length whole) xs) (omega (arith, size)) ∙ take_all n whole (omega (arith, size)) in
      ap (λ (zs : List A). drop (gone + 1) (set zs gone y)) same
      ∙ (drop-set-lt (gone + 1) whole gone y (omega arith)
      ∙ (ap (drop (gone + 1)) whole_is
      ∙ (subst (λ (m : ℕ). drop (m + 1) (take gone xs ++ behind) ≡ drop 1 behind) before (drop-append-add (take gone xs) behind 1)
      ∙ (ap (λ (m : ℕ). drop 1 (ys ++ drop m standing)) many
      ∙ (ap (λ (zs : List A). drop 1 (zs ++ drop (suc index) standing)) is
      ∙ behind_turned index standing inside)))))
