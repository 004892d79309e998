-- Octets that stand behind padding, and the reader that stands behind both.
use Rattle.std.proofs.Common.{◌≡◌, ℕ, ◌+◌, ◌≤◌, ltb, List, [], ◌++◌, length, take, drop, Ok, refl, sym, ap, subst, ◌∙◌, append_assoc, arith}
use Rattle.std.proofs.lemmas.Bool.{ltb-false, le-ltb}
use Rattle.std.proofs.lemmas.List.{take_at, drop_at, drop-drop, take-append-drop, length-append, length-take, length-drop}
use Rattle.cdr_values.specs.declared.order.Order.{Order}
use Rattle.cdr_values.specs.declared.fault.CdrFault.TheVariants.{Short}
use Rattle.cdr_values.specs.Value.{Value, alignment, gap, IsBare, Aligned}
use Rattle.cdr_values.specs.Reading.{Reading, Reads, further, sized_at, aligned_at}
use Rattle.cdr_values.proofs.Given.{ok_is, guard_ok}

-- a reading of these parts
abbrev pub reading : Order → ℕ → List ℕ → Reading
reading order place rest = record { order = order; place = place; rest = rest }

-- a reading is its order, its place and its octets
pub reading_is : (r s : Reading) → r.order ≡ s.order → r.place ≡ s.place → r.rest ≡ s.rest → r ≡ s
reading_is r s o p t = ap (λ (x : Order). reading x r.place r.rest) o ∙ ap (λ (x : ℕ). reading s.order x r.rest) p ∙ ap (reading s.order s.place) t

-- octets stand behind padding to a multiple of n, and the new reading behind both
pub record Stands (n : ℕ) (old : Reading) (octets : List ℕ) (new : Reading) : Type 0 where
  pub padding : List ℕ
  pub parts : old.rest ≡ (padding ++ octets) ++ new.rest
  pub aligned : length padding ≡ gap n old.place
  pub place : new.place ≡ old.place + length (padding ++ octets)
  pub order : new.order ≡ old.order

-- a value is read where its octets stand
pub reads_from : (value : Value) (r : Reading) (bare : List ℕ) (behind : Reading) → Stands (alignment value) r bare behind → IsBare r.order value bare → Reads r value behind
reads_from value r bare behind s is = record {
  octets = s.padding ++ bare;
  spelled = record { padding = s.padding; bare = bare; parts = refl; aligned = s.aligned; is_bare = is };
  front = s.parts;
  place = s.place;
  order = s.order;
}

-- where a value is read, its octets stand
pub stands_from : (value : Value) (r : Reading) (behind : Reading) (h : Reads r value behind) → Stands (alignment value) r h.spelled.bare behind
stands_from value r behind h = record {
  padding = h.spelled.padding;
  parts = h.front ∙ ap (λ (x : List ℕ). x ++ behind.rest) h.spelled.parts;
  aligned = h.spelled.aligned;
  place = h.place ∙ ap (λ (x : List ℕ). r.place + length x) h.spelled.parts;
  order = h.order;
}

-- with the octets behind them they stand there too
pub stands_then : (n : ℕ) (r : Reading) (front : List ℕ) (middle : Reading) (back : List ℕ) (behind : Reading) → Stands n r front middle → middle.rest ≡ back ++ behind.rest → behind.place ≡ middle.place + length back → behind.order ≡ middle.order → Stands n r (front ++ back) behind
stands_then n r front middle back behind s e p o = record {
  padding = s.padding;
  parts = s.parts ∙ ap (λ (x : List ℕ). (s.padding ++ front) ++ x) e ∙ sym (append_assoc (s.padding ++ front) back behind.rest) ∙ ap (λ (x : List ℕ). x ++ behind.rest) (append_assoc s.padding front back);
  aligned = s.aligned;
  place = omega (arith, s.place, p, length-append s.padding front, length-append s.padding (front ++ back), length-append front back);
  order = o ∙ s.order;
}

-- so many octets stand where there are enough
pub taken : (n k : ℕ) (r : Reading) → gap n r.place + k ≤ length r.rest → Stands n r (take k (drop (gap n r.place) r.rest)) (further r (gap n r.place + k)) × (length (take k (drop (gap n r.place) r.rest)) ≡ k)
taken n k r long =
    let g = gap n r.place in
    let xs = take k (drop g r.rest) in
    let size : length xs ≡ k = omega (arith, length-take k (drop g r.rest), length-drop g r.rest) in
    let padded : length (take g r.rest) ≡ g = omega (arith, length-take g r.rest) in
    let split : xs ++ drop (g + k) r.rest ≡ drop g r.rest = ap (λ (x : List ℕ). xs ++ x) (sym (drop-drop k g r.rest)) ∙ take-append-drop k (drop g r.rest) in (
      record {
        padding = take g r.rest;
        parts = sym (append_assoc (take g r.rest) xs (drop (g + k) r.rest) ∙ ap (λ (x : List ℕ). take g r.rest ++ x) split ∙ take-append-drop g r.rest);
        aligned = padded;
        place = omega (arith, length-append (take g r.rest) xs, padded, size);
        order = refl;
      },
      size,
    )

-- the next k octets behind padding, and the reading behind them
pub record Splits (n k : ℕ) (r : Reading) (octets : List ℕ) (behind : Reading) : Type 0 where
  pub long : gap n r.place + k ≤ length r.rest
  pub next : take k (drop (gap n r.place) r.rest) ≡ octets
  pub after : further r (gap n r.place + k) ≡ behind

-- octets that stand are the next ones
pub splits : (n k : ℕ) (r : Reading) (octets : List ℕ) (behind : Reading) → length octets ≡ k → Stands n r octets behind → Splits n k r octets behind
splits n k r octets behind size s =
    let g = gap n r.place in
    let both : length (s.padding ++ octets) ≡ g + k = omega (arith, length-append s.padding octets, s.aligned, size) in
    let whole : r.rest ≡ s.padding ++ (octets ++ behind.rest) = s.parts ∙ append_assoc s.padding octets behind.rest in
    let front : drop g r.rest ≡ octets ++ behind.rest = ap (drop g) whole ∙ drop_at s.padding (octets ++ behind.rest) g s.aligned in
    let back : drop (g + k) r.rest ≡ behind.rest = ap (drop (g + k)) s.parts ∙ drop_at (s.padding ++ octets) behind.rest (g + k) both in
    record {
      long = omega (arith, ap length s.parts, length-append (s.padding ++ octets) behind.rest, both);
      next = ap (take k) front ∙ take_at octets behind.rest k size;
      after = reading_is (further r (g + k)) behind (sym s.order) (omega (arith, s.place, both)) back;
    }

-- octets of a size that are read stand there
pub sized_found : (n : ℕ) (r : Reading) (octets : List ℕ) (behind : Reading) → sized_at n r ≡ Ok (octets, behind) → Stands n r octets behind × (length octets ≡ n)
unfolding sized_at
sized_found n r octets behind e =
    let g = gap n r.place in
    let q = guard_ok (ltb (length r.rest) (g + n)) (Short r.place) (Ok (take n (drop g r.rest), further r (g + n))) (octets, behind) e in
    subst (λ (p : List ℕ × Reading). Stands n r p.0 p.1 × (length p.0 ≡ n)) (ok_is (take n (drop g r.rest), further r (g + n)) (octets, behind) q.1) (taken n n r (ltb-false _ _ q.0))

-- and where they stand they are read
pub sized_only : (n : ℕ) (r : Reading) (octets : List ℕ) (behind : Reading) → length octets ≡ n → Stands n r octets behind → sized_at n r ≡ Ok (octets, behind)
unfolding sized_at
sized_only n r octets behind size s =
    let p = splits n n r octets behind size s in
    rw (le-ltb (length r.rest) (gap n r.place + n) p.long, p.next, p.after) refl

-- a reader that goes on to a multiple of n finds nothing there
pub aligned_found : (n : ℕ) (r : Reading) (behind : Reading) → aligned_at n r ≡ Ok (tt, behind) → Reads r (Aligned n) behind
unfolding aligned_at
aligned_found n r behind e =
    let g = gap n r.place in
    let q = guard_ok (ltb (length r.rest) g) (Short r.place) (Ok (tt, further r g)) (tt, behind) e in
    let t = taken n 0 r (omega (arith, ltb-false _ _ q.0)) in
    let sum : g + 0 ≡ g = omega arith in
    let is : further r (g + 0) ≡ behind = ap (further r) sum ∙ ap (λ (p : Unit {0} × Reading). p.1) (ok_is (tt, further r g) (tt, behind) q.1) in
    reads_from (Aligned n) r [] behind (subst (λ (b : Reading). Stands n r [] b) is t.0) refl

-- and where nothing stands at a multiple of n the reader goes on
pub aligned_only : (n : ℕ) (r : Reading) (behind : Reading) → Reads r (Aligned n) behind → aligned_at n r ≡ Ok (tt, behind)
unfolding aligned_at
aligned_only n r behind h =
    let s = stands_from (Aligned n) r behind h in
    let p = splits n 0 r h.spelled.bare behind (ap length h.spelled.is_bare) s in
    let sum : gap n r.place + 0 ≡ gap n r.place = omega arith in
    let long : gap n r.place ≤ length r.rest = omega (arith, p.long) in
    rw (le-ltb (length r.rest) (gap n r.place) long) (ap (λ (x : Reading). Ok (tt, x)) (ap (further r) (sym sum) ∙ p.after))
