-- What is left of what stands, where a Done stands in the stead of what is done.
use Rattle.std.proofs.Common.{◌≡◌, ℕ, zero, suc, ◌-◌, ◌<◌, Bool, true, false, cond, not, ◌&&◌, List, [], ◌∷◌, ◌++◌, length, get_or, set, Option, Some, None, refl, sym, ap, subst, ◌∙◌, arith}
use Rattle.std.specs.Prelude.{position, ◌==◌}
use Rattle.std.specs.List.{count_by, filter, list_any, position_or_len, remove}
use Rattle.std.proofs.lemmas.Bool.Decides.{nat_tests}
use Rattle.std.proofs.lemmas.List.{length-set}
use Rattle.std.proofs.lemmas.List.Elements.{filter-append}
use Rattle.std.proofs.lemmas.List.Kept.{AllPairs-filter}
use Rattle.std.proofs.lemmas.List.Quantifiers.{position-Some}
use Rattle.std.proofs.lemmas.List.Sums.{sum_by-cons, sum_by-set}
use Rattle.std.proofs.lemmas.Map.Views.{any-filter_same}
use Rattle.decision_journal.specs.declared.journal.Standing.{Standing}
use Rattle.decision_journal.specs.declared.record.JournalRecord.{JournalRecord}
use Rattle.decision_journal.specs.declared.record.JournalRecord.TheVariants.{Life, Decision, Done, Prepared, CellsPrepared, CellsOutcome, CellsOnePhase}
use Rattle.decision_journal.specs.Journal.{Found, are_cells_at, can_follow, is_cells_prepared, is_decision, is_decision_at, taken_away, with_record}
use Rattle.decision_journal.specs.Index.{AreBefore, IsIndexed, is_done, is_left, left}
use Rattle.decision_journal.proofs.Places.{any_place, one_passes}

-- ---- decisions and cells are left

right_of : (a b : Bool) → (a && b) ≡ true → b ≡ true
right_of true b e = e
right_of false b e = absurd cc

decision_left : (r : JournalRecord) → is_decision r ≡ true → not (is_done r) ≡ true
decision_left (Life life) e = absurd cc
decision_left (Decision life slot generation k asked regs) e = refl
decision_left (Done place) e = absurd cc
decision_left (Prepared life slot generation recovery regs) e = refl
decision_left (CellsPrepared life number recovery ps) e = absurd cc
decision_left (CellsOutcome place end) e = absurd cc
decision_left (CellsOnePhase life number ps) e = absurd cc

cells_left : (r : JournalRecord) → is_cells_prepared r ≡ true → not (is_done r) ≡ true
cells_left (Life life) e = absurd cc
cells_left (Decision life slot generation k asked regs) e = absurd cc
cells_left (Done place) e = absurd cc
cells_left (Prepared life slot generation recovery regs) e = absurd cc
cells_left (CellsPrepared life number recovery ps) e = refl
cells_left (CellsOutcome place end) e = absurd cc
cells_left (CellsOnePhase life number ps) e = absurd cc

only : (place : ℕ) (s : Standing) → is_decision_at place s ≡ true → is_left s ≡ true
only place s e = decision_left s.item (right_of (s.place == place) (is_decision s.item) e)

only_cells : (place : ℕ) (s : Standing) → are_cells_at place s ≡ true → is_left s ≡ true
only_cells place s e = cells_left s.item (right_of (s.place == place) (is_cells_prepared s.item) e)

any_left : (place : ℕ) (xs : List Standing) → list_any (is_decision_at place) (filter is_left xs) ≡ list_any (is_decision_at place) xs
any_left place xs = any-filter_same (is_decision_at place) is_left true (only place) xs

-- what can follow what is left can follow the rest too
pub follow_left : (found : Found) (r : JournalRecord) → can_follow (left found) r ≡ can_follow found r
follow_left found (Life life) = refl
follow_left found (Decision life slot generation k asked regs) = refl
follow_left found (Done place) = any_left place found.standing
follow_left found (Prepared life slot generation recovery regs) = refl
follow_left found (CellsPrepared life number recovery ps) = refl
follow_left found (CellsOutcome place end) = any-filter_same (are_cells_at place) is_left true (only_cells place) found.standing
follow_left found (CellsOnePhase life number ps) = refl

pushed_left : (xs : List Standing) (s : Standing) → is_left s ≡ true → filter is_left (xs ++ s ∷ []) ≡ filter is_left xs ++ s ∷ []
pushed_left xs s e = filter-append is_left xs (s ∷ []) ∙ ap (λ (b : Bool). filter is_left xs ++ cond b (s ∷ []) []) e

-- with one more that stands for itself
pub add_left : (found : Found) (place : ℕ) (r : JournalRecord) → is_done r ≡ false → left (with_record found place r) ≡ with_record (left found) place r
add_left found place (Life life) e = refl
add_left found place (Decision life slot generation k asked regs) e =
    ap (λ (xs : List Standing). record { life = found.life; standing = xs }) (pushed_left found.standing (record { place = place; item = Decision life slot generation k asked regs }) refl)
add_left found place (Done named) e = absurd cc
add_left found place (Prepared life slot generation recovery regs) e =
    ap (λ (xs : List Standing). record { life = found.life; standing = xs }) (pushed_left found.standing (record { place = place; item = Prepared life slot generation recovery regs }) refl)
add_left found place (CellsPrepared life number recovery ps) e =
    ap (λ (xs : List Standing). record { life = found.life; standing = xs }) (pushed_left found.standing (record { place = place; item = CellsPrepared life number recovery ps }) refl)
add_left found place (CellsOutcome named end) e =
    ap (λ (xs : List Standing). record { life = found.life; standing = xs }) (pushed_left found.standing (record { place = place; item = CellsOutcome named end }) refl)
add_left found place (CellsOnePhase life number ps) e =
    ap (λ (xs : List Standing). record { life = found.life; standing = xs }) (pushed_left found.standing (record { place = place; item = CellsOnePhase life number ps }) refl)

pub not_done : (r : JournalRecord) → ((named : ℕ) → r ≡ Done named → ⊥) → is_done r ≡ false
not_done (Life life) other = refl
not_done (Decision life slot generation k asked regs) other = refl
not_done (Done named) other = absurd (other named refl)
not_done (Prepared life slot generation recovery regs) other = refl
not_done (CellsPrepared life number recovery ps) other = refl
not_done (CellsOutcome named end) other = refl
not_done (CellsOnePhase life number ps) other = refl

-- ---- a Done in the stead of a decision

-- the first of some that passes is taken away from them
record IsMarked (p : Standing → Bool) (d : Standing) (xs ys : List Standing) : Type 0 where
  pub at : ℕ
  pub within : at < length xs
  pub passes : p (get_or xs at d) ≡ true
  pub before : (k : ℕ) → k < at → p (get_or xs k d) ≡ false
  pub removed : ys ≡ remove xs at

marked : (p : Standing → Bool) (d y : Standing) → ((s : Standing) → p s ≡ true → is_left s ≡ true) → is_left y ≡ false → (xs : List Standing) (i : ℕ)
    → i < length xs → p (get_or xs i d) ≡ true → ((k : ℕ) → k < i → p (get_or xs k d) ≡ false) → IsMarked p d (filter is_left xs) (filter is_left (set xs i y))
marked p d y only gone [] i lt passes before = absurd (omega arith)
marked p d y only gone (x ∷ xs) zero lt passes before =
    rw (only x passes) (rw gone (record { at = 0; within = omega arith; passes = passes; before = λ k less. absurd (omega (arith, less)); removed = refl }))
marked p d y only gone (x ∷ xs) (suc i) lt passes before =
    by_test (is_left x) (marked p d y only gone xs i (omega (arith, lt)) passes (λ k less. before (suc k) (omega (arith, less)))) (before 0 (omega arith))
  where
    at_front : (zs : List Standing) (j : ℕ) → p x ≡ false → ((k : ℕ) → k < j → p (get_or zs k d) ≡ false) → (k : ℕ) → k < suc j → p (get_or (x ∷ zs) k d) ≡ false
    at_front zs j first rest zero less = first
    at_front zs j first rest (suc k) less = rest k (omega (arith, less))

    by_test : (l : Bool) → IsMarked p d (filter is_left xs) (filter is_left (set xs i y)) → p x ≡ false
        → IsMarked p d (cond l (x ∷ filter is_left xs) (filter is_left xs)) (cond l (x ∷ filter is_left (set xs i y)) (filter is_left (set xs i y)))
    by_test false m first = m
    by_test true m first = record {
      at = suc m.at;
      within = omega (arith, m.within);
      passes = m.passes;
      before = at_front (filter is_left xs) m.at first m.before;
      removed = ap (λ (zs : List Standing). x ∷ zs) m.removed;
    }

marked_left : (place i : ℕ) (y : Standing) (xs : List Standing) → is_left y ≡ false → position (is_decision_at place) xs ≡ Some i
    → filter is_left (set xs i y) ≡ taken_away (position (is_decision_at place) (filter is_left xs)) (filter is_left xs)
marked_left place i y xs gone is =
    let first = position-Some (is_decision_at place) xs i y is in
    let m = marked (is_decision_at place) y y (only place) gone xs i first.0 first.1 first.2 in
    let at = (one_passes (is_decision_at place) (filter is_left xs) m.at y m.within m.passes m.before).0 in
    m.removed ∙ ap (λ (o : Option ℕ). taken_away o (filter is_left xs)) (sym at)

-- what was found, with a Done in the stead of the decision at this place
pub marked_found : (place i life : ℕ) (y : Standing) (xs : List Standing) (found : Found) → record { life = life; standing = xs } ≡ found → is_left y ≡ false → position (is_decision_at place) xs ≡ Some i
    → left (record { life = life; standing = set xs i y }) ≡ with_record (left found) 0 (Done place)
marked_found place i life y xs found is gone at =
    subst (λ (f : Found). left (record { life = life; standing = set xs i y }) ≡ with_record (left f) 0 (Done place)) is
    (ap (λ (ys : List Standing). record { life = life; standing = ys }) (marked_left place i y xs gone at))

-- where no decision stands at this place
pub unmarked_found : (place : ℕ) (found : Found) → list_any (is_decision_at place) found.standing ≡ false → left found ≡ with_record (left found) 0 (Done place)
unmarked_found place found none =
    let xs = filter is_left found.standing in
    let no = any_place (is_decision_at place) xs ∙ (any_left place found.standing ∙ none) in
    let nowhere : position (is_decision_at place) xs ≡ None = ap (λ (b : Bool). cond b (Some (position_or_len (is_decision_at place) xs)) None) no in
    ap (λ (o : Option ℕ). record { life = found.life; standing = taken_away o xs }) (sym nowhere)

same_place : (xs : List Standing) (i k : ℕ) (y d : Standing) → y.place ≡ (get_or xs i y).place → (get_or (set xs i y) k d).place ≡ (get_or xs k d).place
same_place [] i k y d is = refl
same_place (x ∷ xs) zero zero y d is = is
same_place (x ∷ xs) zero (suc k) y d is = refl
same_place (x ∷ xs) (suc i) zero y d is = refl
same_place (x ∷ xs) (suc i) (suc k) y d is = same_place xs i k y d is

left_of : (a b : Bool) → (a && b) ≡ true → a ≡ true
left_of true b e = refl
left_of false b e = absurd cc

abbrev number : JournalRecord → ℕ
number r = cond (is_decision r) 1 0

abbrev counted : Standing → ℕ
counted s = number s.item

module _ (place i : ℕ) (y : Standing) (xs : List Standing) (at : y.place ≡ place) (is : position (is_decision_at place) xs ≡ Some i) where
  first : (i < length xs) × (is_decision_at place (get_or xs i y) ≡ true) × ((k : ℕ) → k < i → is_decision_at place (get_or xs k y) ≡ false)
  first = position-Some (is_decision_at place) xs i y is

  there : y.place ≡ (get_or xs i y).place
  there =
      let same = left_of ((get_or xs i y).place == place) (is_decision (get_or xs i y).item) first.1 in
      grind (arith, nat_tests, same, at)

  pub marked_before : (n : ℕ) → AreBefore n xs → AreBefore n (set xs i y)
  marked_before n before k d lt = omega (arith, same_place xs i k y d there, before k d (omega (arith, lt, length-set xs i y)))

  pub marked_indexed : (n : ℕ) → is_decision y.item ≡ false → IsIndexed xs n → IsIndexed (set xs i y) (n - 1)
  marked_indexed n none indexed =
      let some = right_of ((get_or xs i y).place == place) (is_decision (get_or xs i y).item) first.1 in
      record {
        order = λ a b d less within. omega (arith, same_place xs i a y d there, same_place xs i b y d there, indexed.order a b d less (omega (arith, within, length-set xs i y)));
        count = omega (arith, indexed.count, sum_by-set counted xs i y y first.0, ap {B = ℕ} (λ (b : Bool). cond b 1 0) none, ap {B = ℕ} (λ (b : Bool). cond b 1 0) some);
      }

-- ---- what is left alone

count_left : (xs : List Standing) → count_by (λ s. is_decision s.item) (filter is_left xs) ≡ count_by (λ s. is_decision s.item) xs
count_left [] = refl
count_left (x ∷ xs) = by_test (is_left x) refl (count_left xs)
  where
    none : (r : JournalRecord) → not (is_done r) ≡ false → number r ≡ 0
    none (Life life) e = absurd cc
    none (Decision life slot generation k asked regs) e = absurd cc
    none (Done place) e = refl
    none (Prepared life slot generation recovery regs) e = absurd cc
    none (CellsPrepared life number recovery ps) e = absurd cc
    none (CellsOutcome place end) e = absurd cc
    none (CellsOnePhase life number ps) e = absurd cc

    by_test : (l : Bool) → is_left x ≡ l → count_by (λ s. is_decision s.item) (filter is_left xs) ≡ count_by (λ s. is_decision s.item) xs
        → count_by (λ s. is_decision s.item) (cond l (x ∷ filter is_left xs) (filter is_left xs)) ≡ count_by (λ s. is_decision s.item) (x ∷ xs)
    by_test true e rest = omega (arith, rest, sum_by-cons counted x (filter is_left xs), sum_by-cons counted x xs)
    by_test false e rest = omega (arith, rest, sum_by-cons counted x xs, none x.item e)

pub settled_indexed : (n : ℕ) (xs : List Standing) → IsIndexed xs n → IsIndexed (filter is_left xs) n
settled_indexed n xs indexed = record {
  order = AllPairs-filter (λ (s t : Standing). s.place < t.place) is_left xs indexed.order;
  count = omega (arith, indexed.count, count_left xs);
}
