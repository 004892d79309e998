-- Which live branch is the next one to be rolled back.
use Rattle.std.proofs.Common.{◌≡◌, ◌⊎◌, inl, inr, ℕ, ◌+◌, ◌<◌, ◌≤◌, ◌&&◌, Bool, true, false, zero, suc, List, length, Option, Some, None, refl, ap, arith}
use Rattle.std.specs.Prelude.{filter, nat_lt, if◌then◌else◌, MatchOption}
use Rattle.std.specs.List.{range_with_len}
use Rattle.std.proofs.lemmas.Bool.Decides.{nat_tests}
use Rattle.txn_tree.specs.Rows.{depth}
use Rattle.txn_tree.specs.Calls.{is_live_below, is_deeper, deepest, live_under}
use Rattle.txn_tree.specs.Laws.{GoesFirst, IsNext}
use Rattle.txn_tree.specs.declared.row.Row.{Row}
use Rattle.txn_tree.proofs.Deepest.{kept_or_not}

-- none of so many branches from one on
abbrev pub NoneFrom : List Row → ℕ → ℕ → ℕ → Type 0
NoneFrom rows b place n = (q : ℕ) → place ≤ q → q < place + n → is_live_below rows b q ≡ false

-- the first of so many branches from one on
pub record IsNextFrom (rows : List Row) (b place n r : ℕ) : Type 0 where
  pub low : place ≤ r
  pub high : r < place + n
  pub live : is_live_below rows b r ≡ true
  pub first : (q : ℕ) → place ≤ q → q < place + n → is_live_below rows b q ≡ true → GoesFirst rows r q

abbrev pub Found : List Row → ℕ → ℕ → ℕ → Option ℕ → Type 0
Found rows b place n o = MatchOption o (NoneFrom rows b place n) (IsNextFrom rows b place n)

here_or_later : (place q : ℕ) → place ≤ q → (q ≡ place) ⊎ (place + 1 ≤ q)
here_or_later place q h = grind arith

deeper_none : (rows : List Row) (b place n : ℕ) → is_live_below rows b place ≡ false → NoneFrom rows b (place + 1) n → NoneFrom rows b place (suc n)
deeper_none rows b place n dead none q low high =
    elim (here_or_later place q low) [ inl e ↦ rw e dead | inr l ↦ none q l (omega arith) ]

wider : (rows : List Row) (b place n r : ℕ) → is_live_below rows b place ≡ false → IsNextFrom rows b (place + 1) n r → IsNextFrom rows b place (suc n) r
wider rows b place n r dead h = record {
  low = omega (arith, h.low);
  high = omega (arith, h.high);
  live = h.live;
  first = λ q low high live.
      elim (here_or_later place q low) [ inl e ↦ absurd (cc (dead, live, e)) | inr l ↦ h.first q l (omega (arith, high)) live ];
}

alone : (rows : List Row) (b place n : ℕ) → is_live_below rows b place ≡ true → NoneFrom rows b (place + 1) n → IsNextFrom rows b place (suc n) place
alone rows b place n live none = record {
  low = omega arith;
  high = omega arith;
  live = live;
  first = λ q low high alive.
      elim (here_or_later place q low) [ inl e ↦ inr (ap (λ (x : ℕ). depth rows x) e, omega (arith, e)) | inr l ↦ absurd (cc (none q l (omega (arith, high)), alive)) ];
}

below_deeper : (rows : List Row) (r q place : ℕ) → depth rows r < depth rows place → GoesFirst rows r q → GoesFirst rows place q
below_deeper rows r q place h (inl l) = inl (omega arith)
below_deeper rows r q place h (inr e) = inl (omega (arith, e.0))

deeper_one : (rows : List Row) (b place n r : ℕ) → is_live_below rows b place ≡ true → depth rows r < depth rows place → IsNextFrom rows b (place + 1) n r → IsNextFrom rows b place (suc n) place
deeper_one rows b place n r live deep h = record {
  low = omega arith;
  high = omega arith;
  live = live;
  first = λ q low high alive.
      elim (here_or_later place q low) [
        | inl e ↦ inr (ap (λ (x : ℕ). depth rows x) e, omega (arith, e))
        | inr l ↦ below_deeper rows r q place deep (h.first q l (omega (arith, high)) alive)
      ];
}

as_deep : (m n p r : ℕ) → m ≤ n → p ≤ r → (m < n) ⊎ ((m ≡ n) × (p ≤ r))
as_deep m n p r h k = elim (less_or_same m n h) [ inl l ↦ inl l | inr e ↦ inr (e, k) ]
  where
    less_or_same : (m n : ℕ) → m ≤ n → (m < n) ⊎ (m ≡ n)
    less_or_same m n h = grind arith

no_deeper : (rows : List Row) (b place n r : ℕ) → depth rows place ≤ depth rows r → IsNextFrom rows b (place + 1) n r → IsNextFrom rows b place (suc n) r
no_deeper rows b place n r deep h = record {
  low = omega (arith, h.low);
  high = omega (arith, h.high);
  live = h.live;
  first = λ q low high alive.
      elim (here_or_later place q low) [
        | inl e ↦ rw e (as_deep (depth rows place) (depth rows r) place r deep (omega (arith, h.low)))
        | inr l ↦ h.first q l (omega (arith, high)) alive
      ];
}

deep_then : (m n : ℕ) → nat_lt m n ≡ true → m < n
deep_then m n h = grind (arith, nat_tests)

deep_else : (m n : ℕ) → nat_lt m n ≡ false → n ≤ m
deep_else m n h = grind (arith, nat_tests)

merged : (rows : List Row) (b place n : ℕ) (o : Option ℕ) → Found rows b (place + 1) n o → (deep live : Bool) → is_deeper rows place o ≡ deep → is_live_below rows b place ≡ live → Found rows b place (suc n) (if deep && live then Some place else o)
merged rows b place n None h true true d l = alone rows b place n l h
merged rows b place n None h true false d l = deeper_none rows b place n l h
merged rows b place n None h false live d l = absurd (cc)
merged rows b place n (Some r) h true true d l = deeper_one rows b place n r l (deep_then _ _ d) h
merged rows b place n (Some r) h true false d l = wider rows b place n r l h
merged rows b place n (Some r) h false live d l = no_deeper rows b place n r (deep_else _ _ d) h

found : (rows : List Row) (b n place : ℕ) → Found rows b place n (deepest rows (filter (is_live_below rows b) (range_with_len place n)))
found rows b zero place = λ q low high. absurd (omega (arith, low, high))
found rows b (suc n) place =
    rw (kept_or_not rows b place (range_with_len (place + 1) n))
    (merged rows b place n (deepest rows (filter (is_live_below rows b) (range_with_len (place + 1) n))) (found rows b n (place + 1)) _ _ refl refl)

all_of : (rows : List Row) (b : ℕ) (o : Option ℕ) → Found rows b 0 (length rows) o → MatchOption o ((q : ℕ) → q < length rows → is_live_below rows b q ≡ false) (IsNext rows b)
all_of rows b None h = λ q k. h q (omega arith) (omega (arith, k))
all_of rows b (Some r) h = record {
  there = omega (arith, h.high);
  live = h.live;
  first = λ q k alive. h.first q (omega arith) (omega (arith, k)) alive;
}

pub next_is_first : (rows : List Row) (b : ℕ) → MatchOption (live_under rows b) ((q : ℕ) → q < length rows → is_live_below rows b q ≡ false) (IsNext rows b)
next_is_first rows b = all_of rows b (live_under rows b) (found rows b (length rows) 0)
