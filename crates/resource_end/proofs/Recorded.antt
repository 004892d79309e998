-- Resources in their order, and those of them that are on record: what one more, one less and another one in a place leave.
use Rattle.std.proofs.Common.{◌≡◌, ◌∙◌, ℕ, Bool, true, false, cond, not, ◌||◌, List, [], ◌∷◌, Option, Some, None, refl, sym, ap, subst, arith}
use Rattle.std.specs.Prelude.{find, IfSome, is_some}
use Rattle.std.specs.List.{AllByRecursion, cons_option}
use Rattle.std.specs.Option.{option_and_then, option_map}
use Rattle.std.proofs.lemmas.Bool.{both_ways, eqb-true}
use Rattle.std.proofs.lemmas.Bool.Decides.{nat_tests}
use Rattle.decision_journal.specs.declared.journal.Standing.{Standing}
use Rattle.resource_end.specs.End.{End, Resource, comes_before, is_numbered, kept, with_resource, without_resource}
use Rattle.resource_end.specs.Inside.{Id, IsRecorded, numbered, prepared_at}
use Rattle.resource_end.specs.Laws.{IsOf}
use Rattle.resource_end.specs.OnRecord.{AreSorted, as_recorded, is_recorded, on_record, recorded_of}
use Rattle.resource_end.specs.Recall.{has_place, is_recorded_at}
use Rattle.resource_end.specs.States.{is_forgotten, is_stored}
use Rattle.resource_end.proofs.Claims.{at_known, find_none, itself}

pub some_is : {A : Type 0} (x y : A) → Some x ≡ Some y → x ≡ y
some_is x y e = subst (λ o. IfSome o (λ z. x ≡ z)) e refl

-- ---- what holds of each

pub each_weaker : {A : Type 0} (P Q : A → Type 0) (xs : List A) → ((x : A) → P x → Q x) → AllByRecursion P xs → AllByRecursion Q xs
each_weaker P Q [] f all = tt
each_weaker P Q (x ∷ xs) f all = (f x all.0, each_weaker P Q xs f all.1)

module _ (P : Resource → Type 0) where
  pub each_with : (r : Resource) (rs : List Resource) → P r → AllByRecursion P rs → AllByRecursion P (with_resource r rs)
  each_with r [] p all = (p, tt)
  each_with r (s ∷ rs) p all = by (is_numbered r.life r.number s) (comes_before r s) (each_with r rs p all.1)
    where
      by : (b c : Bool) → AllByRecursion P (with_resource r rs) → AllByRecursion P (cond b (r ∷ rs) (cond c (r ∷ s ∷ rs) (s ∷ with_resource r rs)))
      by true c rest = (p, all.1)
      by false true rest = (p, all)
      by false false rest = (all.0, rest)

  pub each_without : (r : Resource) (rs : List Resource) → AllByRecursion P rs → AllByRecursion P (without_resource r rs)
  each_without r [] all = tt
  each_without r (s ∷ rs) all = by (is_numbered r.life r.number s) (each_without r rs all.1)
    where
      by : (b : Bool) → AllByRecursion P (without_resource r rs) → AllByRecursion P (cond (not b) (s ∷ without_resource r rs) (without_resource r rs))
      by true rest = rest
      by false rest = (all.0, rest)

  pub each_kept : (r : Resource) (rs : List Resource) → P r → AllByRecursion P rs → AllByRecursion P (kept r rs)
  each_kept r rs p all = by (is_forgotten r.state)
    where
      by : (b : Bool) → AllByRecursion P (cond b (without_resource r rs) (with_resource r rs))
      by true = each_without r rs all
      by false = each_with r rs p all

  pub one_found : (test : Resource → Bool) (rs : List Resource) → AllByRecursion P rs → IfSome (find test rs) P
  one_found test [] all = tt
  one_found test (r ∷ rs) all = by (test r) (one_found test rs all.1)
    where
      by : (b : Bool) → IfSome (find test rs) P → IfSome (cond b (Some r) (find test rs)) P
      by true rest = all.0
      by false rest = rest

  pub each_on_record : ((r : Resource) → P r → P (as_recorded r)) → (rs : List Resource) → AllByRecursion P rs → AllByRecursion P (on_record rs)
  each_on_record f [] all = tt
  each_on_record f (r ∷ rs) all = by (is_recorded r) (each_on_record f rs all.1)
    where
      by : (b : Bool) → AllByRecursion P (on_record rs) → AllByRecursion P (cons_option (cond b (Some (as_recorded r)) None) (on_record rs))
      by true rest = (f r all.0, rest)
      by false rest = rest

pub found_passes : (test : Resource → Bool) (rs : List Resource) → IfSome (find test rs) (λ r. test r ≡ true)
found_passes test [] = tt
found_passes test (r ∷ rs) = by (test r) refl (found_passes test rs)
  where
    by : (b : Bool) → test r ≡ b → IfSome (find test rs) (λ r. test r ≡ true) → IfSome (cond b (Some r) (find test rs)) (λ r. test r ≡ true)
    by true h rest = h
    by false h rest = rest

-- ---- their order

unlike : (r s : Resource) → comes_before r s ≡ true → is_numbered r.life r.number s ≡ false
unlike r s h = grind (arith, nat_tests, h)

unlike_before : (r s : Resource) → comes_before s r ≡ true → is_numbered r.life r.number s ≡ false
unlike_before r s h = grind (arith, nat_tests, h)

alike_before : (r s x : Resource) → is_numbered r.life r.number s ≡ true → comes_before s x ≡ true → comes_before r x ≡ true
alike_before r s x h k = grind (arith, nat_tests, h, k)

then_before : (r s x : Resource) → comes_before r s ≡ true → comes_before s x ≡ true → comes_before r x ≡ true
then_before r s x h k = grind (arith, nat_tests, h, k)

other_before : (r s : Resource) → is_numbered r.life r.number s ≡ false → comes_before r s ≡ false → comes_before s r ≡ true
other_before r s h k = grind (arith, nat_tests, h, k)

abbrev Behind : Resource → List Resource → Type 0
Behind r rs = AllByRecursion (λ s. comes_before r s ≡ true) rs

behind_alike : (r s : Resource) (rs : List Resource) → is_numbered r.life r.number s ≡ true → Behind s rs → Behind r rs
behind_alike r s rs h all = each_weaker (λ x. comes_before s x ≡ true) (λ x. comes_before r x ≡ true) rs (λ x. alike_before r s x h) all

behind_then : (r s : Resource) (rs : List Resource) → comes_before r s ≡ true → Behind s rs → Behind r rs
behind_then r s rs h all = each_weaker (λ x. comes_before s x ≡ true) (λ x. comes_before r x ≡ true) rs (λ x. then_before r s x h) all

pub sorted_with : (r : Resource) (rs : List Resource) → AreSorted rs → AreSorted (with_resource r rs)
sorted_with r [] h = (tt, tt)
sorted_with r (s ∷ rs) h = by (is_numbered r.life r.number s) (comes_before r s) refl refl (sorted_with r rs h.1)
  where
    by : (b c : Bool) → is_numbered r.life r.number s ≡ b → comes_before r s ≡ c → AreSorted (with_resource r rs)
        → AreSorted (cond b (r ∷ rs) (cond c (r ∷ s ∷ rs) (s ∷ with_resource r rs)))
    by true c i k rest = (behind_alike r s rs i h.0, h.1)
    by false true i k rest = ((k, behind_then r s rs k h.0), h)
    by false false i k rest = (each_with (λ x. comes_before s x ≡ true) r rs (other_before r s i k) h.0, rest)

sorted_without : (r : Resource) (rs : List Resource) → AreSorted rs → AreSorted (without_resource r rs)
sorted_without r [] h = tt
sorted_without r (s ∷ rs) h = by (is_numbered r.life r.number s) (sorted_without r rs h.1)
  where
    by : (b : Bool) → AreSorted (without_resource r rs) → AreSorted (cond (not b) (s ∷ without_resource r rs) (without_resource r rs))
    by true rest = rest
    by false rest = (each_without (λ x. comes_before s x ≡ true) r rs h.0, rest)

pub sorted_kept : (r : Resource) (rs : List Resource) → AreSorted rs → AreSorted (kept r rs)
sorted_kept r rs h = by (is_forgotten r.state)
  where
    by : (b : Bool) → AreSorted (cond b (without_resource r rs) (with_resource r rs))
    by true = sorted_without r rs h
    by false = sorted_with r rs h

none_behind : (r : Resource) (rs : List Resource) → Behind r rs → numbered (r.life, r.number) rs ≡ None
none_behind r [] all = refl
none_behind r (x ∷ rs) all =
    ap (λ b. cond b (Some x) (numbered (r.life, r.number) rs)) (unlike r x all.0) ∙ none_behind r rs all.1

in_front : (r : Resource) (rs : List Resource) → Behind r rs → with_resource r rs ≡ r ∷ rs
in_front r [] all = refl
in_front r (x ∷ rs) all = (λ i. cond (unlike r x all.0 i) (r ∷ rs) (cond (all.0 i) (r ∷ x ∷ rs) (x ∷ with_resource r rs)))

-- one that is found has its number alone
pub its_own : (test : Resource → Bool) (rs : List Resource) (r : Resource) → AreSorted rs → find test rs ≡ Some r → numbered (r.life, r.number) rs ≡ Some r
its_own test [] r h is = absurd (both_ways _ refl (ap is_some is))
its_own test (s ∷ rs) r h is = by (test s) is (its_own test rs r h.1)
  where
    by : (b : Bool) → cond b (Some s) (find test rs) ≡ Some r → (find test rs ≡ Some r → numbered (r.life, r.number) rs ≡ Some r)
        → numbered (r.life, r.number) (s ∷ rs) ≡ Some r
    by true e rest =
        subst (λ x. numbered (x.life, x.number) (s ∷ rs) ≡ Some x) (some_is s r e)
        (ap (λ b. cond b (Some s) (numbered (s.life, s.number) rs)) (itself s))
    by false e rest =
        let before : comes_before s r ≡ true = at_known (find test rs) r (λ x. comes_before s x ≡ true) e (one_found (λ x. comes_before s x ≡ true) test rs h.0) in
        ap (λ b. cond b (Some s) (numbered (r.life, r.number) rs)) (unlike_before r s before) ∙ rest e

-- ---- those that are on record

abbrev front : Bool → Resource → List Resource → List Resource
front d s rs = cons_option (cond d (Some (as_recorded s)) None) rs

pub recorded_with : (r : Resource) (rs : List Resource) → is_recorded r ≡ true → AreSorted rs → on_record (with_resource r rs) ≡ with_resource (as_recorded r) (on_record rs)
recorded_with r [] is h = ap (λ d. front d r []) is
recorded_with r (s ∷ rs) is h = by (is_numbered r.life r.number s) (comes_before r s) (is_recorded s) refl refl refl (recorded_with r rs is h.1)
  where
    behind : Behind r rs → Behind (as_recorded r) (on_record rs)
    behind all = each_on_record (λ x. comes_before r x ≡ true) (λ x k. k) rs all

    by : (b c d : Bool) → is_numbered r.life r.number s ≡ b → comes_before r s ≡ c → is_recorded s ≡ d
        → on_record (with_resource r rs) ≡ with_resource (as_recorded r) (on_record rs)
        → on_record (cond b (r ∷ rs) (cond c (r ∷ s ∷ rs) (s ∷ with_resource r rs))) ≡ with_resource (as_recorded r) (front d s (on_record rs))
    by true c true i k e rest =
        ap (λ d. front d r (on_record rs)) is
        ∙ sym (ap (λ b. cond b (as_recorded r ∷ on_record rs)
        (cond (comes_before r s) (as_recorded r ∷ as_recorded s ∷ on_record rs) (as_recorded s ∷ with_resource (as_recorded r) (on_record rs)))) i)
    by true c false i k e rest = ap (λ d. front d r (on_record rs)) is ∙ sym (in_front (as_recorded r) (on_record rs) (behind (behind_alike r s rs i h.0)))
    by false true true i k e rest =
        (λ j. front (is j) r (front (e j) s (on_record rs)))
        ∙ sym (in_front (as_recorded r) (as_recorded s ∷ on_record rs) (k, behind (behind_then r s rs k h.0)))
    by false true false i k e rest =
        (λ j. front (is j) r (front (e j) s (on_record rs))) ∙ sym (in_front (as_recorded r) (on_record rs) (behind (behind_then r s rs k h.0)))
    by false false true i k e rest =
        (λ j. front (e j) s (rest j))
        ∙ sym (λ j. cond (i j) (as_recorded r ∷ on_record rs)
        (cond (k j) (as_recorded r ∷ as_recorded s ∷ on_record rs) (as_recorded s ∷ with_resource (as_recorded r) (on_record rs))))
    by false false false i k e rest = (λ j. front (e j) s (rest j))

recorded_without : (r : Resource) (rs : List Resource) → on_record (without_resource r rs) ≡ without_resource r (on_record rs)
recorded_without r [] = refl
recorded_without r (s ∷ rs) = by (is_numbered r.life r.number s) (is_recorded s) refl refl (recorded_without r rs)
  where
    by : (b d : Bool) → is_numbered r.life r.number s ≡ b → is_recorded s ≡ d → on_record (without_resource r rs) ≡ without_resource r (on_record rs)
        → on_record (cond (not b) (s ∷ without_resource r rs) (without_resource r rs)) ≡ without_resource r (front d s (on_record rs))
    by true true i e rest =
        rest ∙ sym (ap (λ b. cond (not b) (as_recorded s ∷ without_resource r (on_record rs)) (without_resource r (on_record rs))) i)
    by true false i e rest = rest
    by false true i e rest =
        (λ j. front (e j) s (rest j))
        ∙ sym (ap (λ b. cond (not b) (as_recorded s ∷ without_resource r (on_record rs)) (without_resource r (on_record rs))) i)
    by false false i e rest = (λ j. front (e j) s (rest j))

-- one that is on record is put in its turn there too, or taken out
pub recorded_kept : (r : Resource) (rs : List Resource) → is_recorded r ≡ true → AreSorted rs → on_record (kept r rs) ≡ kept (as_recorded r) (on_record rs)
recorded_kept r rs is h = by (is_forgotten r.state)
  where
    by : (b : Bool) → on_record (cond b (without_resource r rs) (with_resource r rs))
        ≡ cond b (without_resource (as_recorded r) (on_record rs)) (with_resource (as_recorded r) (on_record rs))
    by true = recorded_without r rs
    by false = recorded_with r rs is h

-- one in the place of another of which the same is on record changes nothing there
pub same_with : (r : Resource) (rs : List Resource) → AreSorted rs → option_and_then recorded_of (numbered (r.life, r.number) rs) ≡ recorded_of r
    → on_record (with_resource r rs) ≡ on_record rs
same_with r [] h is = ap (λ o. cons_option o []) (sym is)
same_with r (s ∷ rs) h is = by (is_numbered r.life r.number s) (comes_before r s) refl refl is (same_with r rs h.1)
  where
    by : (b c : Bool) → is_numbered r.life r.number s ≡ b → comes_before r s ≡ c
        → option_and_then recorded_of (cond b (Some s) (numbered (r.life, r.number) rs)) ≡ recorded_of r
        → (option_and_then recorded_of (numbered (r.life, r.number) rs) ≡ recorded_of r → on_record (with_resource r rs) ≡ on_record rs)
        → on_record (cond b (r ∷ rs) (cond c (r ∷ s ∷ rs) (s ∷ with_resource r rs))) ≡ on_record (s ∷ rs)
    by true c i k same rest = ap (λ o. cons_option o (on_record rs)) (sym same)
    by false true i k same rest =
        ap (λ o. cons_option o (on_record (s ∷ rs)))
        (sym same ∙ ap (option_and_then recorded_of) (none_behind r rs (behind_then r s rs k h.0)))
    by false false i k same rest = ap (cons_option (recorded_of s)) (rest same)

same_without : (r : Resource) (rs : List Resource) → AreSorted rs → option_and_then recorded_of (numbered (r.life, r.number) rs) ≡ None
    → on_record (without_resource r rs) ≡ on_record rs
same_without r [] h none = refl
same_without r (s ∷ rs) h none = by (is_numbered r.life r.number s) refl none (same_without r rs h.1)
  where
    by : (b : Bool) → is_numbered r.life r.number s ≡ b → option_and_then recorded_of (cond b (Some s) (numbered (r.life, r.number) rs)) ≡ None
        → (option_and_then recorded_of (numbered (r.life, r.number) rs) ≡ None → on_record (without_resource r rs) ≡ on_record rs)
        → on_record (cond (not b) (s ∷ without_resource r rs) (without_resource r rs)) ≡ on_record (s ∷ rs)
    by true i none_there rest =
        rest (ap (option_and_then recorded_of) (none_behind r rs (behind_alike r s rs i h.0)))
        ∙ sym (ap (λ o. cons_option o (on_record rs)) none_there)
    by false i none_there rest = ap (cons_option (recorded_of s)) (rest none_there)

pub same_kept : (r : Resource) (rs : List Resource) → AreSorted rs → option_and_then recorded_of (numbered (r.life, r.number) rs) ≡ None
    → (is_forgotten r.state ≡ false → recorded_of r ≡ None) → on_record (kept r rs) ≡ on_record rs
same_kept r rs h none f = by (is_forgotten r.state) refl
  where
    by : (b : Bool) → is_forgotten r.state ≡ b → on_record (cond b (without_resource r rs) (with_resource r rs)) ≡ on_record rs
    by true e = same_without r rs h none
    by false e = same_with r rs h (none ∙ sym (f e))

has_some : (place : ℕ) (o : Option ℕ) → has_place place o ≡ true → is_some o ≡ true
has_some place None h = absurd (both_ways _ refl h)
has_some place (Some own) h = refl

-- whose record has a place is on record
pub placed_recorded : (r : Resource) → is_some r.record_place ≡ true → is_recorded r ≡ true
placed_recorded r h = ap (λ b. b || is_stored r.state) h

pub recorded_of_none : (r : Resource) → r.record_place ≡ None → is_stored r.state ≡ false → recorded_of r ≡ None
recorded_of_none r p q = (λ i. cond (is_some (p i) || q i) (Some (as_recorded r)) None)

pub at_recorded : (place : ℕ) (r : Resource) → is_recorded_at place r ≡ true → is_some r.record_place ≡ true
at_recorded place r h = has_some place r.record_place h

pub recorded_find : (place : ℕ) (rs : List Resource) → find (is_recorded_at place) (on_record rs) ≡ option_map as_recorded (find (is_recorded_at place) rs)
recorded_find place [] = refl
recorded_find place (s ∷ rs) = by (is_recorded_at place s) (is_recorded s) refl refl (recorded_find place rs)
  where
    by : (t d : Bool) → is_recorded_at place s ≡ t → is_recorded s ≡ d
        → find (is_recorded_at place) (on_record rs) ≡ option_map as_recorded (find (is_recorded_at place) rs)
        → find (is_recorded_at place) (front d s (on_record rs)) ≡ option_map as_recorded (cond t (Some s) (find (is_recorded_at place) rs))
    by true true u e rest = ap (λ b. cond b (Some (as_recorded s)) (find (is_recorded_at place) (on_record rs))) u
    by true false u e rest = absurd (both_ways _ e (placed_recorded s (at_recorded place s u)))
    by false true u e rest = ap (λ b. cond b (Some (as_recorded s)) (find (is_recorded_at place) (on_record rs))) u ∙ rest
    by false false u e rest = rest

pub no_letter : (k : Id) (rs : List Resource) → option_and_then (λ (r : Resource). r.kind) (numbered k (on_record rs)) ≡ None
no_letter k [] = refl
no_letter k (s ∷ rs) = by (is_recorded s) (no_letter k rs)
  where
    at : (b : Bool) → option_and_then (λ (r : Resource). r.kind) (numbered k (on_record rs)) ≡ None
        → option_and_then (λ (r : Resource). r.kind) (cond b (Some (as_recorded s)) (numbered k (on_record rs))) ≡ None
    at true rest = refl
    at false rest = rest

    by : (d : Bool) → option_and_then (λ (r : Resource). r.kind) (numbered k (on_record rs)) ≡ None
        → option_and_then (λ (r : Resource). r.kind) (numbered k (front d s (on_record rs))) ≡ None
    by true rest = at (is_numbered k.0 k.1 s) rest
    by false rest = rest

-- ---- one by its number, and by the place of its record

own_place : (place : ℕ) → has_place place (Some place) ≡ true
own_place place = grind (arith, nat_tests)

module _ (standing : List Standing) where
  abbrev pub Stands : Resource → Type 0
  Stands r = IsRecorded standing (r.life, r.number) r

  by_place : (place : ℕ) (r : Resource) → Stands r → is_recorded_at place r ≡ true → prepared_at place standing ≡ Some (r.life, r.number)
  by_place place r = at r.record_place
    where
      at : (o : Option ℕ) → IfSome o (λ p. prepared_at p standing ≡ Some (r.life, r.number)) → has_place place o ≡ true → prepared_at place standing ≡ Some (r.life, r.number)
      at None h t = absurd (both_ways _ refl t)
      at (Some own) h t = ap (λ p. prepared_at p standing) (sym (eqb-true own place t)) ∙ h

  pub is_of : (e : End) (r : Resource) → AreSorted e.resources → AllByRecursion Stands e.resources
      → numbered (r.life, r.number) e.resources ≡ Some r → IsOf e r
  is_of e r sorted all there = record { numbered = there; recorded = by r.record_place refl }
    where
      own : Stands r
      own = at_known (numbered (r.life, r.number) e.resources) r Stands there (one_found Stands (is_numbered r.life r.number) e.resources all)

      at : (place : ℕ) → is_recorded_at place r ≡ true → (o : Option Resource) → find (is_recorded_at place) e.resources ≡ o → o ≡ Some r
      at place t None is =
          absurd (both_ways (is_recorded_at place r)
          (at_known (numbered (r.life, r.number) e.resources) r (λ x. is_recorded_at place x ≡ false) there (find_none (is_recorded_at place) e.resources (r.life, r.number) is)) t)
      at place t (Some x) is =
          let passes : is_recorded_at place x ≡ true = at_known (find (is_recorded_at place) e.resources) x (λ y. is_recorded_at place y ≡ true) is (found_passes (is_recorded_at place) e.resources) in
          let stands : Stands x = at_known (find (is_recorded_at place) e.resources) x Stands is (one_found Stands (is_recorded_at place) e.resources all) in
          let same : (x.life, x.number) ≡ (r.life, r.number) = some_is (x.life, x.number) (r.life, r.number) (sym (by_place place x stands passes) ∙ by_place place r own t) in
          sym (its_own (is_recorded_at place) e.resources x sorted is) ∙ ap (λ k. numbered k e.resources) same ∙ there

      by : (o : Option ℕ) → r.record_place ≡ o → IfSome o (λ place. find (is_recorded_at place) e.resources ≡ Some r)
      by None is = tt
      by (Some place) is = at place (ap (has_place place) is ∙ own_place place) (find (is_recorded_at place) e.resources) refl
