-- Words in the order of their numbers: where one stands, and which is the first with a number.
use Rattle.std.proofs.Common.{◌≡◌, ◌∙◌, refl, ap, sym, subst, ℕ, zero, suc, ◌+◌, ◌<◌, ◌≤◌, ◌⊎◌, ⊎_elim, inl, inr, Bool, true, false, if◌then◌else◌, List, [], ◌∷◌, length, get_or, Option, Some, None, arith}
use Rattle.std.specs.Prelude.{◌==◌, slice_get}
use Rattle.std.specs.List.{insert}
use Rattle.std.proofs.lemmas.Bool.{cases_lt}
use Rattle.std.proofs.lemmas.Bool.Decides.{nat_tests}
use Rattle.std.proofs.lemmas.List.Edits.{get_or-insert_above, get_or-insert_at, get_or-insert_below, length-insert}
use Rattle.std.proofs.lemmas.List.Sums.{sum_by-cons, get_or-le-sum_by}
use Rattle.std.proofs.lemmas.Option.{slice_get-get_or, slice_get_past}
use Rattle.std.proofs.lemmas.List.{get_or_default}
use Rattle.family_rules.specs.Outs.{IsFirstOf, StandInOrder, branch_in, comes_before, one_at, times}
use Rattle.family_rules.specs.declared.outs.Posted.{Posted}

-- ---- the order

-- one that comes before another, which doesn't come behind a third
pub before_later : (p q r : Posted) → comes_before q r ≡ true → comes_before q p ≡ false → comes_before p r ≡ true
before_later p q r a b = grind (arith, nat_tests, a, b)

pub not_before_itself : (p : Posted) → comes_before p p ≡ false
not_before_itself p = grind (arith, nat_tests)

neither : (p q : Posted) → comes_before p q ≡ false → comes_before q p ≡ false → p ≡ q
neither p q a b = ap (λ (n : ℕ). record { serial = n; branch = p.branch }) serial ∙ ap (λ (n : ℕ). record { serial = q.serial; branch = n }) branch
  where
    serial : p.serial ≡ q.serial
    serial = grind (arith, nat_tests, a, b)

    branch : p.branch ≡ q.branch
    branch = grind (arith, nat_tests, a, b)

low_serial : (p q : Posted) → comes_before q p ≡ false → p.serial ≤ q.serial
low_serial p q h = grind (arith, nat_tests, h)

low_branch : (p q : Posted) → comes_before q p ≡ false → p.serial ≡ q.serial → p.branch ≤ q.branch
low_branch p q h e = grind (arith, nat_tests, h, e)

not_below : (p : Posted) (s c : ℕ) → p.serial ≡ s → comes_before p (record { serial = s; branch = 0 }) ≡ true → ⊥
not_below p s c e h = grind (arith, nat_tests, h, e)

not_both : {x : Bool} → x ≡ true → x ≡ false → ⊥
not_both t f = absurd (cc (sym t ∙ f))

-- those in order, whether or not they are one
pub in_order : (xs : List Posted) → StandInOrder xs → (i j : ℕ) (d : Posted) → i ≤ j → j < length xs → comes_before (get_or xs j d) (get_or xs i d) ≡ false
in_order xs order i j d up within = ⊎_elim
    (λ less. order i j d less within)
    (λ same. let e : j ≡ i = omega (arith, up, same) in subst (λ (k : ℕ). comes_before (get_or xs k d) (get_or xs i d) ≡ false) (sym e) (not_before_itself (get_or xs i d)))
    (cases_lt i j)

-- ---- where a word stands

is_same : (s b : ℕ) (p : Posted) → 0 < one_at s b p → (p.serial ≡ s) × (p.branch ≡ b)
is_same s b p h = (serial h, branch h)
  where
    serial : 0 < one_at s b p → p.serial ≡ s
    serial h = grind (arith, nat_tests, h)

    branch : 0 < one_at s b p → p.branch ≡ b
    branch h = grind (arith, nat_tests, h)

is_one : (s b : ℕ) (p : Posted) → p.serial ≡ s → p.branch ≡ b → one_at s b p ≡ 1
is_one s b p e f = grind (arith, nat_tests, e, f)

-- a place of it
abbrev Stands : ℕ → ℕ → List Posted → Type 0
Stands s b xs = (j : ℕ) × (j < length xs) × ((d : Posted) → (get_or xs j d).serial ≡ s) × ((d : Posted) → (get_or xs j d).branch ≡ b)

stands : (s b : ℕ) (xs : List Posted) → 0 < times s b xs → Stands s b xs
stands s b [] h = absurd (omega (arith, h))
stands s b (x ∷ xs) h = ⊎_elim
    (λ none. let r = stands s b xs none in (suc r.0, omega (arith, r.1), λ d. r.2 d, λ d. r.3 d))
    (λ one. (zero, omega arith, λ d. (is_same s b x one).0, λ d. (is_same s b x one).1))
    (either (times s b xs) (one_at s b x) (subst (λ (n : ℕ). 0 < n) (sum_by-cons (one_at s b) x xs) h))
  where
    either : (m n : ℕ) → 0 < n + m → (0 < m) ⊎ (0 < n)
    either m n h = ⊎_elim (λ l. inl l) (λ l. inr (omega (arith, h, l))) (cases_lt 0 m)

-- ---- the first with a number

zero_if : (n : ℕ) → (0 < n → ⊥) → n ≡ 0
zero_if zero h = refl
zero_if (suc n) h = absurd (h (omega arith))

-- these stand before the place of a word, and those from it on
abbrev pub AreBelow : List Posted → ℕ → Posted → Type 0
AreBelow xs at p = (k : ℕ) (d : Posted) → k < at → comes_before (get_or xs k d) p ≡ true

abbrev pub AreAbove : List Posted → ℕ → Posted → Type 0
AreAbove xs at p = (k : ℕ) (d : Posted) → at ≤ k → k < length xs → comes_before (get_or xs k d) p ≡ false

-- the least with a number
abbrev pub least : ℕ → Posted
least s = record { serial = s; branch = 0 }

none_past : (xs : List Posted) (at s c : ℕ) → length xs ≤ at → AreBelow xs at (least s) → times s c xs ≡ 0
none_past xs at s c past below = zero_if (times s c xs) (λ some.
    let r = stands s c xs some in
    not_below (get_or xs r.0 (least s)) s c (r.2 (least s)) (below r.0 (least s) (omega (arith, r.1, past))))

none_other : (xs : List Posted) (at s c : ℕ) (e : Posted) → StandInOrder xs → at < length xs → e ≡ get_or xs at e → (e.serial == s) ≡ false
    → AreBelow xs at (least s) → AreAbove xs at (least s) → times s c xs ≡ 0
none_other xs at s c e order within is other below above = zero_if (times s c xs) (λ some.
    let r = stands s c xs some in
    let here = r.2 e in
    ⊎_elim
    (λ before. not_below (get_or xs r.0 e) s c here (below r.0 e before))
    (λ behind.
    let low : s ≤ e.serial = low_serial (least s) e (subst (λ (p : Posted). comes_before p (least s) ≡ false) (sym is) (above at e (omega arith) within)) in
    let high : e.serial ≤ (get_or xs r.0 e).serial = low_serial e (get_or xs r.0 e) (subst (λ (p : Posted). comes_before (get_or xs r.0 e) p ≡ false) (sym is) (in_order xs order at r.0 e behind r.1)) in
    no (omega (arith, low, high, here)) other)
    (cases_lt r.0 at))
  where
    no : e.serial ≡ s → (e.serial == s) ≡ false → ⊥
    no h other = grind (arith, nat_tests, h, other)

first_some : (xs : List Posted) (at s : ℕ) (e : Posted) → StandInOrder xs → at < length xs → e ≡ get_or xs at e → (e.serial == s) ≡ true
    → AreBelow xs at (least s) → IsFirstOf s xs (Some e.branch)
first_some xs at s e order within is same below = (there, none)
  where
    serial : e.serial ≡ s
    serial = grind (arith, nat_tests, same)

    there : 0 < times s e.branch xs
    there =
        let part = get_or-le-sum_by (one_at s e.branch) xs at e within in
        let one : one_at s e.branch (get_or xs at e) ≡ 1 = ap (λ (p : Posted). one_at s e.branch p) (sym is) ∙ is_one s e.branch e serial refl in
        omega (arith, part, one)

    none : (c : ℕ) → c < e.branch → times s c xs ≡ 0
    none c less = zero_if (times s c xs) (λ some.
        let r = stands s c xs some in
        let here = r.2 e in
        let mine = r.3 e in
        ⊎_elim
        (λ before. not_below (get_or xs r.0 e) s c here (below r.0 e before))
        (λ behind.
        let high = low_branch e (get_or xs r.0 e) (subst (λ (p : Posted). comes_before (get_or xs r.0 e) p ≡ false) (sym is) (in_order xs order at r.0 e behind r.1)) (serial ∙ sym here) in
        omega (arith, high, mine, less))
        (cases_lt r.0 at))

found : (xs : List Posted) (at s : ℕ) (e : Posted) (same : Bool) → (e.serial == s) ≡ same → StandInOrder xs → at < length xs → e ≡ get_or xs at e
    → AreBelow xs at (least s) → AreAbove xs at (least s) → IsFirstOf s xs (if same then Some e.branch else None)
found xs at s e true is order within has below above = first_some xs at s e order within has is below
found xs at s e false is order within has below above = λ c. none_other xs at s c e order within has is below above

pub first_is : (xs : List Posted) (at s : ℕ) (r : Option ℕ) → StandInOrder xs → AreBelow xs at (least s) → AreAbove xs at (least s) → r ≡ branch_in s (slice_get xs at) → IsFirstOf s xs r
first_is xs at s r order below above is = subst (λ (o : Option ℕ). IsFirstOf s xs o) (sym is) (⊎_elim
    (λ within.
    let e : Posted = get_or xs at (least s) in
    subst (λ (o : Option Posted). IsFirstOf s xs (branch_in s o)) (sym (slice_get-get_or xs at (least s) within))
    (found xs at s e (e.serial == s) refl order within (get_or_default xs at (least s) e within) below above))
    (λ past. subst (λ (o : Option Posted). IsFirstOf s xs (branch_in s o)) (sym (slice_get_past xs at past))
    (λ c. none_past xs at s c past below))
    (cases_lt at (length xs)))

-- ---- one is removed

-- a place of a word isn't in front of the place for it
not_before : (p : Posted) (xs : List Posted) (at k : ℕ) (d : Posted) → (get_or xs k d).serial ≡ p.serial → (get_or xs k d).branch ≡ p.branch → AreBelow xs at p → k < at → ⊥
not_before p xs at k d serial branch below before = no (get_or xs k d) serial branch (below k d before)
  where
    no : (q : Posted) → q.serial ≡ p.serial → q.branch ≡ p.branch → comes_before q p ≡ true → ⊥
    no q e f h = grind (arith, nat_tests, h, e, f)

pub in_range : (xs : List Posted) (at : ℕ) (p : Posted) → 0 < times p.serial p.branch xs → AreBelow xs at p → at < length xs
in_range xs at p some below =
    let r = stands p.serial p.branch xs some in
    ⊎_elim (λ before. absurd (not_before p xs at r.0 p (r.2 p) (r.3 p) below before)) (λ behind. omega (arith, behind, r.1)) (cases_lt r.0 at)

-- what stands there is that word
pub is_it : (xs : List Posted) (at : ℕ) (p e : Posted) → StandInOrder xs → 0 < times p.serial p.branch xs → AreBelow xs at p → AreAbove xs at p → e ≡ get_or xs at e → e ≡ p
is_it xs at p e order some below above is =
    let r = stands p.serial p.branch xs some in
    let within = in_range xs at p some below in
    let same : get_or xs r.0 e ≡ p = equal (get_or xs r.0 e) (r.2 e) (r.3 e) in
    ⊎_elim
    (λ before. absurd (not_before p xs at r.0 e (r.2 e) (r.3 e) below before))
    (λ behind. neither e p
    (subst (λ (q : Posted). comes_before q p ≡ false) (sym is) (above at e (omega arith) within))
    (subst (λ (q : Posted). comes_before p q ≡ false) (sym is) (subst (λ (q : Posted). comes_before q (get_or xs at e) ≡ false) same (in_order xs order at r.0 e behind r.1))))
    (cases_lt r.0 at)
  where
    equal : (q : Posted) → q.serial ≡ p.serial → q.branch ≡ p.branch → q ≡ p
    equal q e f = ap (λ (n : ℕ). record { serial = n; branch = q.branch }) e ∙ ap (λ (n : ℕ). record { serial = p.serial; branch = n }) f

-- ---- one is put in

pub order_inserted : (xs : List Posted) (at : ℕ) (p : Posted) → StandInOrder xs → at ≤ length xs → AreBelow xs at p → AreAbove xs at p → StandInOrder (insert xs at p)
order_inserted xs at p order fits below above = λ i j d less within.
    let len = length-insert xs at p fits in
    let short : j < length xs + 1 = omega (arith, within, len) in
    ⊎_elim
    (λ front. ⊎_elim
    (λ m. subst (λ (q : Posted). comes_before q (get_or (insert xs at p) i d) ≡ false) (sym (get_or-insert_below xs at p d j m fits))
    (subst (λ (q : Posted). comes_before (get_or xs j d) q ≡ false) (sym (get_or-insert_below xs at p d i front fits)) (order i j d less (omega (arith, m, fits)))))
    (λ m. subst (λ (q : Posted). comes_before (get_or (insert xs at p) j d) q ≡ false) (sym (get_or-insert_below xs at p d i front fits))
    (behind i d front j m short))
    (cases_lt j at))
    (λ back. past i j d back less short)
    (cases_lt i at)
  where
    no_later : (q r : Posted) → comes_before q r ≡ true → comes_before r q ≡ false
    no_later q r h = grind (arith, nat_tests, h)

    through : (q r s : Posted) → comes_before q r ≡ true → comes_before s r ≡ false → comes_before s q ≡ false
    through q r s a b = grind (arith, nat_tests, a, b)

    moved : (j : ℕ) (d : Posted) → at ≤ j → get_or (insert xs at p) (suc j) d ≡ get_or xs j d
    moved j d up = let e : suc j ≡ j + 1 = omega arith in ap (λ (k : ℕ). get_or (insert xs at p) k d) e ∙ get_or-insert_above xs at p d j up fits

    -- one in front of the place, and one from it on
    behind : (i : ℕ) (d : Posted) → i < at → (j : ℕ) → at ≤ j → j < length xs + 1 → comes_before (get_or (insert xs at p) j d) (get_or xs i d) ≡ false
    behind i d front zero m short = absurd (omega (arith, front, m))
    behind i d front (suc j) m short = ⊎_elim
        (λ here. let e : suc j ≡ at = omega (arith, here, m) in
        subst (λ (q : Posted). comes_before q (get_or xs i d) ≡ false) (sym (ap (λ (k : ℕ). get_or (insert xs at p) k d) e ∙ get_or-insert_at xs at p d fits)) (no_later (get_or xs i d) p (below i d front)))
        (λ up. subst (λ (q : Posted). comes_before q (get_or xs i d) ≡ false) (sym (moved j d up))
        (through (get_or xs i d) p (get_or xs j d) (below i d front) (above j d up (omega (arith, short)))))
        (cases_lt j at)

    -- both from the place on
    past : (i j : ℕ) (d : Posted) → at ≤ i → i < j → j < length xs + 1 → comes_before (get_or (insert xs at p) j d) (get_or (insert xs at p) i d) ≡ false
    past i zero d back less short = absurd (omega (arith, less))
    past i (suc j) d back less short =
        subst (λ (q : Posted). comes_before q (get_or (insert xs at p) i d) ≡ false) (sym (moved j d (omega (arith, back, less)))) (first i back less)
      where
        first : (i : ℕ) → at ≤ i → i < suc j → comes_before (get_or xs j d) (get_or (insert xs at p) i d) ≡ false
        first zero back less =
            let e : zero ≡ at = omega (arith, back) in
            subst (λ (q : Posted). comes_before (get_or xs j d) q ≡ false) (sym (ap (λ (k : ℕ). get_or (insert xs at p) k d) e ∙ get_or-insert_at xs at p d fits)) (above j d (omega (arith, back)) (omega (arith, short)))
        first (suc i) back less = ⊎_elim
            (λ here. let e : suc i ≡ at = omega (arith, here, back) in
            subst (λ (q : Posted). comes_before (get_or xs j d) q ≡ false) (sym (ap (λ (k : ℕ). get_or (insert xs at p) k d) e ∙ get_or-insert_at xs at p d fits)) (above j d (omega (arith, less, e)) (omega (arith, short))))
            (λ up. subst (λ (q : Posted). comes_before (get_or xs j d) q ≡ false) (sym (moved i d up))
            (order i j d (omega (arith, less)) (omega (arith, short))))
            (cases_lt i at)

-- whether or not there was memory
pub order_kept : (ok : Bool) (xs ys : List Posted) → StandInOrder xs → StandInOrder ys → StandInOrder (if ok then xs else ys)
order_kept true xs ys a b = a
order_kept false xs ys a b = b
