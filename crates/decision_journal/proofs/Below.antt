-- What stands is in the order of its places, and before the gate at the end.
use Rattle.std.proofs.Common.{◌≡◌, ℕ, suc, ◌+◌, ◌-◌, ◌<◌, ◌≤◌, Bool, true, false, cond, ◌&&◌, List, [], ◌∷◌, ◌++◌, length, get_or, take, drop, Option, Some, None, sym, ap, subst, arith, length-append}
use Rattle.std.specs.Prelude.{position, ◌==◌}
use Rattle.std.specs.List.{count_by, flat_map, remove}
use Rattle.std.proofs.lemmas.List.Elements.{All-append, All-drop, All-nil, All-push, All-take, All-weaker}
use Rattle.std.proofs.lemmas.List.Quantifiers.{all_pairs_push, all_pairs_remove, position-Some}
use Rattle.std.proofs.lemmas.List.Sums.{sum_by-append, sum_by-remove}
use Rattle.std.proofs.lemmas.List.Concat.{flat_map-cons}
use Rattle.decision_journal.specs.declared.journal.Standing.{Standing}
use Rattle.decision_journal.specs.declared.record.JournalRecord.{JournalRecord}
use Rattle.decision_journal.specs.declared.record.JournalRecord.TheVariants.{Life, Decision, Done, Prepared, CellsPrepared, CellsOutcome, CellsOnePhase}
use Rattle.decision_journal.specs.Layout.{record_octets}
use Rattle.decision_journal.specs.Journal.{Found, IsFilled, first_gate, is_decision, is_decision_at, nothing_found, taken_away, with_record, with_records}
use Rattle.decision_journal.specs.Index.{AreBefore, AreInOrder, IsIndexed}
use Rattle.decision_journal.proofs.Scans.{length_front}
use Rattle.decision_journal.proofs.Steps.{length_record}

abbrev stands_decided : Standing → Bool
stands_decided s = is_decision s.item

abbrev counted : Standing → ℕ
counted s = cond (stands_decided s) 1 0

-- ---- before a place

pub later : (place more : ℕ) (xs : List Standing) → place ≤ more → AreBefore place xs → AreBefore more xs
later place more xs le before = All-weaker (λ (s : Standing). s.place < place) (λ (s : Standing). s.place < more) (λ s lt. omega arith) xs before

pub none_before : (place : ℕ) (found : Found) → found ≡ nothing_found → AreBefore place found.standing
none_before place found none = subst (λ (f : Found). AreBefore place f.standing) (sym none) (All-nil (λ (s : Standing). s.place < place))

pushed : (place more : ℕ) (item : JournalRecord) (xs : List Standing) → place < more → AreBefore place xs → AreBefore more (xs ++ record { place = place; item = item } ∷ [])
pushed place more item xs lt before = All-push (λ (s : Standing). s.place < more) xs (record { place = place; item = item }) (later place more xs (omega arith) before) lt

removed : (place i : ℕ) (xs : List Standing) → AreBefore place xs → AreBefore place (remove xs i)
removed place i xs before =
    let P = λ (s : Standing). s.place < place in
    All-append P (take i xs) (drop (suc i) xs) (All-take P i xs before) (All-drop P (suc i) xs before)

taken : (place : ℕ) (o : Option ℕ) (xs : List Standing) → AreBefore place xs → AreBefore place (taken_away o xs)
taken place None xs before = before
taken place (Some i) xs before = removed place i xs before

pub one_more : (found : Found) (place more : ℕ) (r : JournalRecord) → place < more → AreBefore place found.standing → AreBefore more (with_record found place r).standing
one_more found place more (Life life) lt before = later place more found.standing (omega arith) before
one_more found place more (Decision life slot generation k asked regs) lt before = pushed place more (Decision life slot generation k asked regs) found.standing lt before
one_more found place more (Done named) lt before = later place more _ (omega arith) (taken place (position (is_decision_at named) found.standing) found.standing before)
one_more found place more (Prepared life slot generation recovery regs) lt before = pushed place more (Prepared life slot generation recovery regs) found.standing lt before
one_more found place more (CellsPrepared life number recovery ps) lt before = pushed place more (CellsPrepared life number recovery ps) found.standing lt before
one_more found place more (CellsOutcome named end) lt before = pushed place more (CellsOutcome named end) found.standing lt before
one_more found place more (CellsOnePhase life number ps) lt before = pushed place more (CellsOnePhase life number ps) found.standing lt before

all_more : (found : Found) (place : ℕ) (rs : List JournalRecord) → AreBefore place found.standing → AreBefore (place + length (flat_map record_octets rs)) (with_records found place rs).standing
all_more found place [] before = later place _ found.standing (omega arith) before
all_more found place (r ∷ rs) before =
    let next : ℕ = place + length (record_octets r) in
    later (next + length (flat_map record_octets rs)) _ _ (omega (arith, ap length (flat_map-cons record_octets r rs), length-append (record_octets r) (flat_map record_octets rs)))
    (all_more (with_record found place r) next rs (one_more found place next r (omega (arith, length_record r)) before))

-- all that stands stands before the gate at the end
pub before_end : (service : ℕ) (octets : List ℕ) (found : Found) → IsFilled service octets found → AreBefore (length octets) found.standing
before_end service octets found filled =
    let a = filled.1 in
    later (first_gate + length (flat_map record_octets filled.0)) (length octets) found.standing (omega (arith, ap length a.octets_are, length_front service filled.0))
    (subst (λ (f : Found). AreBefore (first_gate + length (flat_map record_octets filled.0)) f.standing) (sym a.found_is) (all_more nothing_found first_gate filled.0 (All-nil (λ (s : Standing). s.place < first_gate))))

-- ---- the index

count_pushed : (xs : List Standing) (x : Standing) → count_by stands_decided (xs ++ x ∷ []) ≡ count_by stands_decided xs + counted x
count_pushed xs x = omega (arith, sum_by-append counted xs (x ∷ []))

order_pushed : (place : ℕ) (item : JournalRecord) (xs : List Standing) → AreInOrder xs → AreBefore place xs → AreInOrder (xs ++ record { place = place; item = item } ∷ [])
order_pushed place item xs order before = all_pairs_push (λ (s t : Standing). s.place < t.place) xs (record { place = place; item = item }) order (λ k d lt. before k d lt)

module _ (place n : ℕ) (item : JournalRecord) (xs : List Standing) (indexed : IsIndexed xs n) (before : AreBefore place xs) where
  pub put_decided : is_decision item ≡ true → IsIndexed (xs ++ record { place = place; item = item } ∷ []) (n + 1)
  put_decided is = record {
    order = order_pushed place item xs indexed.order before;
    count = omega (arith, indexed.count, count_pushed xs (record { place = place; item = item }), ap {B = ℕ} (λ (b : Bool). cond b 1 0) is);
  }

  pub put_other : is_decision item ≡ false → IsIndexed (xs ++ record { place = place; item = item } ∷ []) n
  put_other is = record {
    order = order_pushed place item xs indexed.order before;
    count = omega (arith, indexed.count, count_pushed xs (record { place = place; item = item }), ap {B = ℕ} (λ (b : Bool). cond b 1 0) is);
  }

both_right : (a b : Bool) → (a && b) ≡ true → b ≡ true
both_right true b e = e
both_right false b e = absurd cc

module _ (place i n : ℕ) (xs : List Standing) (d : Standing) (is : position (is_decision_at place) xs ≡ Some i) where
  at : (i < length xs) × (stands_decided (get_or xs i d) ≡ true)
  at = let first = position-Some (is_decision_at place) xs i d is in (first.0, both_right ((get_or xs i d).place == place) (stands_decided (get_or xs i d)) first.1)

  one_less : count_by stands_decided (remove xs i) + 1 ≡ count_by stands_decided xs
  one_less = omega (arith, sum_by-remove counted xs i d at.0, ap {B = ℕ} (λ (b : Bool). cond b 1 0) at.1)

  pub some_stand : IsIndexed xs n → 0 < n
  some_stand indexed = omega (arith, indexed.count, one_less)

  pub take_indexed : IsIndexed xs n → IsIndexed (remove xs i) (n - 1)
  take_indexed indexed = record {
    order = all_pairs_remove (λ (s t : Standing). s.place < t.place) xs i at.0 indexed.order;
    count = omega (arith, indexed.count, one_less);
  }

no_place : (place i : ℕ) → position (is_decision_at place) [] ≡ Some i → ⊥
no_place place i e = absurd cc

pub some_stand_at : (place i n : ℕ) (xs : List Standing) → position (is_decision_at place) xs ≡ Some i → IsIndexed xs n → 0 < n
some_stand_at place i n [] is indexed = absurd (no_place place i is)
some_stand_at place i n (x ∷ xs) is indexed = some_stand place i n (x ∷ xs) x is indexed

pub take_indexed_at : (place i n : ℕ) (xs : List Standing) → position (is_decision_at place) xs ≡ Some i → IsIndexed xs n → IsIndexed (remove xs i) (n - 1)
take_indexed_at place i n [] is indexed = absurd (no_place place i is)
take_indexed_at place i n (x ∷ xs) is indexed = take_indexed place i n (x ∷ xs) x is indexed
