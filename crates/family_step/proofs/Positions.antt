-- The place of the first element that passes.
use Rattle.std.proofs.Common.{◌≡◌, ◌∙◌, ◌<◌, ◌+◌, refl, sym, ap, subst, ℕ, suc, zero, cond, not, Bool, true, false, if◌then◌else◌, List, [], ◌∷◌, ◌++◌, length, Option, Some, None, nat_lt, arith}
use Rattle.std.specs.List.{position, position_or_len, slice_get}
use Rattle.std.specs.Option.{option_map, option_or}
use Rattle.std.proofs.lemmas.Bool.Decides.{nat_tests}
use Rattle.std.proofs.lemmas.Option.{cond_some}

module _ {X : Type 0} (p : X → Bool) where
  pub position_within : (xs : List X) (i : ℕ) → position p xs ≡ Some i → i < length xs
  position_within xs i e =
      let parts = cond_some (nat_lt (position_or_len p xs) (length xs)) (position_or_len p xs) i e in
      let less : position_or_len p xs < length xs = grind (arith, nat_tests, parts.0) in
      subst (λ n. n < length xs) parts.1 less

  next : (b c : Bool) (n : ℕ) → cond (cond b true c) (Some (cond (not b) (1 + n) 0)) None ≡ cond b (Some 0) (option_map suc (cond c (Some n) None))
  next true c n = refl
  next false true n =
      let more : 1 + n ≡ suc n = omega arith in
      ap Some more
  next false false n = refl

  less_next : (b : Bool) (n l : ℕ) → nat_lt (cond (not b) (1 + n) 0) (suc l) ≡ cond b true (nat_lt n l)
  less_next true n l = grind (arith, nat_tests)
  less_next false n l = grind (arith, nat_tests)

  pub position_next : (x : X) (xs : List X) → position p (x ∷ xs) ≡ cond (p x) (Some 0) (option_map suc (position p xs))
  position_next x xs =
      let n = position_or_len p xs in
      ap (λ (c : Bool). cond c (Some (cond (not (p x)) (1 + n) 0)) None) (less_next (p x) n (length xs)) ∙ next (p x) (nat_lt n (length xs)) n

  push_next : (b c : Bool) (o : Option ℕ) (l : ℕ)
      → cond b (Some 0) (option_map suc (option_or o (if c then Some l else None))) ≡ option_or (cond b (Some 0) (option_map suc o)) (if c then Some (suc l) else None)
  push_next true c o l = refl
  push_next false c (Some n) l = refl
  push_next false true None l = refl
  push_next false false None l = refl

  pub position_push : (xs : List X) (y : X) → position p (xs ++ y ∷ []) ≡ option_or (position p xs) (if p y then Some (length xs) else None)
  position_push [] y = position_next y [] ∙ one (p y)
    where
      one : (b : Bool) → cond {A = Option ℕ} b (Some 0) None ≡ (if b then Some 0 else None)
      one b = refl
  position_push (x ∷ xs) y =
      position_next x (xs ++ y ∷ []) ∙ ap (λ o. cond (p x) (Some 0) (option_map suc o)) (position_push xs y)
      ∙ push_next (p x) (p y) (position p xs) (length xs)
      ∙ sym (ap (λ o. option_or o (if p y then Some (suc (length xs)) else None)) (position_next x xs))

  -- the element at it passes
  at_passes : (x : X) (xs : List X) (i : ℕ) (b : Bool) → p x ≡ b → (o : Option ℕ) → ((j : ℕ) → o ≡ Some j → option_map p (slice_get xs j) ≡ Some true)
      → cond b (Some 0) (option_map suc o) ≡ Some i → option_map p (slice_get (x ∷ xs) i) ≡ Some true
  at_passes x xs zero true is o rest e = ap Some is
  at_passes x xs (suc i) true is o rest e = absurd (cc (e))
  at_passes x xs i false is None rest e = absurd (cc (e))
  at_passes x xs zero false is (Some j) rest e = absurd (cc (e))
  at_passes x xs (suc i) false is (Some j) rest e =
      let same : Some j ≡ Some i = cc (e) in
      rest i same

  pub position_passes : (xs : List X) (i : ℕ) → position p xs ≡ Some i → option_map p (slice_get xs i) ≡ Some true
  position_passes [] i e = absurd (cc (e))
  position_passes (x ∷ xs) i e = at_passes x xs i (p x) refl (position p xs) (position_passes xs) (sym (position_next x xs) ∙ e)
