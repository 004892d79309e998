-- Which resource is found by its number once one was put into a list, or taken out of it.
use Rattle.std.proofs.Common.{◌≡◌, ◌∙◌, Bool, true, false, cond, not, ◌&&◌, List, [], ◌∷◌, Option, Some, None, refl, sym, ap, arith}
use Rattle.std.specs.Prelude.{◌==◌}
use Rattle.std.proofs.lemmas.Bool.{both_ways}
use Rattle.std.proofs.lemmas.Bool.Decides.{nat_tests}
use Rattle.resource_end.specs.End.{Resource, comes_before, is_numbered, with_resource}
use Rattle.resource_end.specs.Inside.{Id, numbered, without}

-- two that have one number
alike : (k : Id) (r s : Resource) (b : Bool) → is_numbered r.life r.number s ≡ true → is_numbered k.0 k.1 r ≡ b → is_numbered k.0 k.1 s ≡ b
alike k r s b h i = grind (arith, nat_tests, h, i)

-- who have not
apart : (k : Id) (r s : Resource) → is_numbered r.life r.number s ≡ false → is_numbered k.0 k.1 r ≡ true → is_numbered k.0 k.1 s ≡ true → ⊥
apart k r s h i j = both_ways (is_numbered r.life r.number s) h (grind (arith, nat_tests, i, j))

swapped : (b c : Bool) (x y z : Option Resource) → (b ≡ true → c ≡ true → ⊥) → cond b x (cond c y z) ≡ cond c y (cond b x z)
swapped true true x y z h = absurd (h refl refl)
swapped true false x y z h = refl
swapped false true x y z h = refl
swapped false false x y z h = refl

module _ (k : Id) (r : Resource) where
  -- once it is known how the first of them compares
  put_by : (s : Resource) (others : List Resource) → numbered k (with_resource r others) ≡ cond (is_numbered k.0 k.1 r) (Some r) (numbered k others)
      → (b c : Bool) → is_numbered r.life r.number s ≡ b
      → numbered k (cond b (r ∷ others) (cond c (r ∷ s ∷ others) (s ∷ with_resource r others))) ≡ cond (is_numbered k.0 k.1 r) (Some r) (numbered k (s ∷ others))
  put_by s others rest true c h = by (is_numbered k.0 k.1 r) refl
    where
      by : (b : Bool) → is_numbered k.0 k.1 r ≡ b → cond b (Some r) (numbered k others) ≡ cond b (Some r) (cond (is_numbered k.0 k.1 s) (Some s) (numbered k others))
      by true i = refl
      by false i = sym (ap (λ b. cond b (Some s) (numbered k others)) (alike k r s false h i))
  put_by s others rest false true h = refl
  put_by s others rest false false h =
      ap (cond (is_numbered k.0 k.1 s) (Some s)) rest
      ∙ swapped (is_numbered k.0 k.1 s) (is_numbered k.0 k.1 r) (Some s) (Some r) (numbered k others) (λ i j. apart k r s h j i)

  pub found_with : (rs : List Resource) → numbered k (with_resource r rs) ≡ cond (is_numbered k.0 k.1 r) (Some r) (numbered k rs)
  found_with [] = refl
  found_with (s ∷ others) = put_by s others (found_with others) (is_numbered r.life r.number s) (comes_before r s) refl

either : (b : Bool) (o : Option Resource) → o ≡ cond b o o
either true o = refl
either false o = refl

module _ (k j : Id) where
  -- it is the one that is taken out
  abbrev taken : Bool
  taken = k.0 == j.0 && k.1 == j.1

  left_by : (s : Resource) (others : List Resource) → numbered k (without j others) ≡ cond (k.0 == j.0 && k.1 == j.1) None (numbered k others)
      → (b c : Bool) → is_numbered j.0 j.1 s ≡ b → is_numbered k.0 k.1 s ≡ c
      → numbered k (cond (not b) (s ∷ without j others) (without j others)) ≡ cond (k.0 == j.0 && k.1 == j.1) None (cond c (Some s) (numbered k others))
  left_by s others rest true true h i =
      let is : (k.0 == j.0 && k.1 == j.1) ≡ true = grind (arith, nat_tests, h, i) in
      rest ∙ ap (λ b. cond b None (numbered k others)) is ∙ sym (ap (λ b. cond b None (Some s)) is)
  left_by s others rest true false h i = rest
  left_by s others rest false true h i =
      let no : (k.0 == j.0 && k.1 == j.1) ≡ false = grind (arith, nat_tests, h, i) in
      ap (λ b. cond b (Some s) (numbered k (without j others))) i ∙ sym (ap (λ b. cond b None (Some s)) no)
  left_by s others rest false false h i = ap (λ b. cond b (Some s) (numbered k (without j others))) i ∙ rest

  pub found_without : (rs : List Resource) → numbered k (without j rs) ≡ cond (k.0 == j.0 && k.1 == j.1) None (numbered k rs)
  found_without [] = either (k.0 == j.0 && k.1 == j.1) None
  found_without (s ∷ others) = left_by s others (found_without others) (is_numbered j.0 j.1 s) (is_numbered k.0 k.1 s) refl refl
