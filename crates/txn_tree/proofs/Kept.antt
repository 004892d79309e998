-- What is read and written of the links.
use Rattle.std.proofs.Common.{◌≡◌, ◌≢◌, ◌⊎◌, inl, inr, ℕ, ◌<◌, ◌==◌, ◌&&◌, zero, suc, List, [], ◌∷◌, ◌++◌, length, Option, None, refl, ap, sym, ◌∙◌, arith}
use Rattle.std.specs.Prelude.{if◌then◌else◌, slice_set, take}
use Rattle.std.specs.List.{slice_index_or}
use Rattle.std.proofs.lemmas.Grind.{common_steps}
use Rattle.std.proofs.lemmas.Bool.Decides.{nat_tests}
use Rattle.txn_tree.specs.Links.{depth_count, kept, last, before, AreWide}
use Rattle.txn_tree.specs.declared.links.Links.{Links}

pub same_or_not : (a b : ℕ) → (a ≡ b) ⊎ (a ≢ b)
same_or_not zero zero = inl refl
same_or_not zero (suc b) = inr (λ e. absurd (omega (arith, e)))
same_or_not (suc a) zero = inr (λ e. absurd (omega (arith, e)))
same_or_not (suc a) (suc b) = elim (same_or_not a b) [ inl e ↦ inl (ap (λ (n : ℕ). suc n) e) | inr ne ↦ inr (λ e. ne (omega (arith, e))) ]

-- a place
pub kept_read : (places : List (Option ℕ)) (n : ℕ) → slice_index_or places n None ≡ kept places n
kept_read [] n = grind (arith, common_steps)
kept_read (o ∷ places) zero = refl
kept_read (o ∷ places) (suc n) = kept_read places n

pub kept_same : (places : List (Option ℕ)) (n : ℕ) (o : Option ℕ) → n < length places → kept (slice_set places n o) n ≡ o
kept_same [] n o h = absurd (omega arith)
kept_same (p ∷ places) zero o h = refl
kept_same (p ∷ places) (suc n) o h = kept_same places n o (omega arith)

pub kept_other : (places : List (Option ℕ)) (n m : ℕ) (o : Option ℕ) → m ≢ n → kept (slice_set places n o) m ≡ kept places m
kept_other [] n m o h = refl
kept_other (p ∷ places) zero zero o h = absurd (h refl)
kept_other (p ∷ places) zero (suc m) o h = refl
kept_other (p ∷ places) (suc n) zero o h = refl
kept_other (p ∷ places) (suc n) (suc m) o h = kept_other places n m o (λ e. h (ap (λ (x : ℕ). suc x) e))

-- the links of a branch
pub last_read : (links : List Links) (a n : ℕ) (d : Links) → a < length links → slice_index_or (slice_index_or links a d).last n None ≡ last links a n
last_read [] a n d h = absurd (omega arith)
last_read (k ∷ links) zero n d h = kept_read k.last n
last_read (k ∷ links) (suc a) n d h = last_read links a n d (omega arith)

pub before_read : (links : List Links) (a n : ℕ) (d : Links) → a < length links → slice_index_or (slice_index_or links a d).before n None ≡ before links a n
before_read [] a n d h = absurd (omega arith)
before_read (k ∷ links) zero n d h = kept_read k.before n
before_read (k ∷ links) (suc a) n d h = before_read links a n d (omega arith)

-- the links of a branch are written
pub last_here : (links : List Links) (a n : ℕ) (k : Links) → a < length links → last (slice_set links a k) a n ≡ kept k.last n
last_here [] a n k h = absurd (omega arith)
last_here (j ∷ links) zero n k h = refl
last_here (j ∷ links) (suc a) n k h = last_here links a n k (omega arith)

pub last_there : (links : List Links) (a b n : ℕ) (k : Links) → b ≢ a → last (slice_set links a k) b n ≡ last links b n
last_there [] a b n k h = refl
last_there (j ∷ links) zero zero n k h = absurd (h refl)
last_there (j ∷ links) zero (suc b) n k h = refl
last_there (j ∷ links) (suc a) zero n k h = refl
last_there (j ∷ links) (suc a) (suc b) n k h = last_there links a b n k (λ e. h (ap (λ (x : ℕ). suc x) e))

pub before_here : (links : List Links) (a n : ℕ) (k : Links) → a < length links → before (slice_set links a k) a n ≡ kept k.before n
before_here [] a n k h = absurd (omega arith)
before_here (j ∷ links) zero n k h = refl
before_here (j ∷ links) (suc a) n k h = before_here links a n k (omega arith)

pub before_there : (links : List Links) (a b n : ℕ) (k : Links) → b ≢ a → before (slice_set links a k) b n ≡ before links b n
before_there [] a b n k h = refl
before_there (j ∷ links) zero zero n k h = absurd (h refl)
before_there (j ∷ links) zero (suc b) n k h = refl
before_there (j ∷ links) (suc a) zero n k h = refl
before_there (j ∷ links) (suc a) (suc b) n k h = before_there links a b n k (λ e. h (ap (λ (x : ℕ). suc x) e))

pub wide_at : (links : List Links) (a : ℕ) (d : Links) → AreWide links → a < length links → (length (slice_index_or links a d).last ≡ depth_count) × (length (slice_index_or links a d).before ≡ depth_count)
wide_at [] a d w h = absurd (omega arith)
wide_at (k ∷ links) zero d w h = (w.0, w.1)
wide_at (k ∷ links) (suc a) d w h = wide_at links a d w.2 (omega arith)

pub wide_put : (links : List Links) (a : ℕ) (k : Links) → AreWide links → length k.last ≡ depth_count → length k.before ≡ depth_count → AreWide (slice_set links a k)
wide_put [] a k w h i = w
wide_put (j ∷ links) zero k w h i = (h, i, w.2)
wide_put (j ∷ links) (suc a) k w h i = (w.0, w.1, wide_put links a k w.2 h i)

pub wide_push : (links : List Links) (k : Links) → AreWide links → length k.last ≡ depth_count → length k.before ≡ depth_count → AreWide (links ++ k ∷ [])
wide_push [] k w h i = (h, i, tt)
wide_push (j ∷ links) k w h i = (w.0, w.1, wide_push links k w.2 h i)

-- the last ones of a fresh branch are none
pub last_push : (links : List Links) (k : Links) → ((l : ℕ) → kept k.last l ≡ None) → (a l : ℕ) → last (links ++ k ∷ []) a l ≡ last links a l
last_push [] k h zero l = h l
last_push [] k h (suc a) l = refl
last_push (j ∷ links) k h zero l = refl
last_push (j ∷ links) k h (suc a) l = last_push links k h a l

pub before_push : (links : List Links) (k : Links) (q d : ℕ) → q < length links → before (links ++ k ∷ []) q d ≡ before links q d
before_push [] k q d h = absurd (omega arith)
before_push (j ∷ links) k zero d h = refl
before_push (j ∷ links) k (suc q) d h = before_push links k q d (omega arith)

-- one place of one branch is written

pub chosen : (a b l n : ℕ) (r o p : Option ℕ) → (a ≡ b → l ≡ n → r ≡ o) → (a ≢ b → r ≡ p) → (l ≢ n → r ≡ p) → r ≡ (if a == b && l == n then o else p)
chosen a b l n r o p both one other =
    elim (same_or_not a b) [
      | inl e ↦ elim (same_or_not l n) [
        | inl f ↦ let x = both e f in grind (arith, nat_tests)
        | inr nf ↦ let x = other nf in grind (arith, nat_tests)
      ]
      | inr ne ↦ let x = one ne in grind (arith, nat_tests)
    ]

pub last_written : (links : List Links) (b n : ℕ) (o : Option ℕ) (d : Links) → AreWide links → b < length links → n < depth_count → (a l : ℕ)
    → last (slice_set links b (record { last = slice_set (slice_index_or links b d).last n o; before = (slice_index_or links b d).before })) a l ≡ (if a == b && l == n then o else last links a l)
last_written links b n o d w h k a l =
    let its : Links = record { last = slice_set (slice_index_or links b d).last n o; before = (slice_index_or links b d).before } in
    let long = wide_at links b d w h in
    chosen a b l n _ o (last links a l)
    (λ e f. rw (e, f) (last_here links b n its h ∙ kept_same (slice_index_or links b d).last n o (rw long.0 k)))
    (λ ne. last_there links b a l its ne)
    (λ nf. elim (same_or_not a b) [
      | inl e ↦ rw e (last_here links b l its h ∙ kept_other (slice_index_or links b d).last n l o nf ∙ sym (kept_read (slice_index_or links b d).last l) ∙ last_read links b l d h)
      | inr ne ↦ last_there links b a l its ne
    ])

pub before_written : (links : List Links) (b n : ℕ) (o : Option ℕ) (d : Links) → AreWide links → b < length links → n < depth_count → (a l : ℕ)
    → before (slice_set links b (record { last = (slice_index_or links b d).last; before = slice_set (slice_index_or links b d).before n o })) a l ≡ (if a == b && l == n then o else before links a l)
before_written links b n o d w h k a l =
    let its : Links = record { last = (slice_index_or links b d).last; before = slice_set (slice_index_or links b d).before n o } in
    let long = wide_at links b d w h in
    chosen a b l n _ o (before links a l)
    (λ e f. rw (e, f) (before_here links b n its h ∙ kept_same (slice_index_or links b d).before n o (rw long.1 k)))
    (λ ne. before_there links b a l its ne)
    (λ nf. elim (same_or_not a b) [
      | inl e ↦ rw e (before_here links b l its h ∙ kept_other (slice_index_or links b d).before n l o nf ∙ sym (kept_read (slice_index_or links b d).before l) ∙ before_read links b l d h)
      | inr ne ↦ before_there links b a l its ne
    ])

-- the other part stays
pub last_unwritten : (links : List Links) (b : ℕ) (xs : List (Option ℕ)) (d : Links) → b < length links → (a l : ℕ)
    → last (slice_set links b (record { last = (slice_index_or links b d).last; before = xs })) a l ≡ last links a l
last_unwritten links b xs d h a l =
    let its : Links = record { last = (slice_index_or links b d).last; before = xs } in
    elim (same_or_not a b) [
      | inl e ↦ rw e (last_here links b l its h ∙ sym (kept_read (slice_index_or links b d).last l) ∙ last_read links b l d h)
      | inr ne ↦ last_there links b a l its ne
    ]

pub before_unwritten : (links : List Links) (b : ℕ) (xs : List (Option ℕ)) (d : Links) → b < length links → (a l : ℕ)
    → before (slice_set links b (record { last = xs; before = (slice_index_or links b d).before })) a l ≡ before links a l
before_unwritten links b xs d h a l =
    let its : Links = record { last = xs; before = (slice_index_or links b d).before } in
    elim (same_or_not a b) [
      | inl e ↦ rw e (before_here links b l its h ∙ sym (kept_read (slice_index_or links b d).before l) ∙ before_read links b l d h)
      | inr ne ↦ before_there links b a l its ne
    ]

pub wide_last : (links : List Links) (b n : ℕ) (o : Option ℕ) (d : Links) → AreWide links → b < length links
    → AreWide (slice_set links b (record { last = slice_set (slice_index_or links b d).last n o; before = (slice_index_or links b d).before }))
wide_last links b n o d w h =
    let long = wide_at links b d w h in
    let same : length (slice_set (slice_index_or links b d).last n o) ≡ length (slice_index_or links b d).last = grind (arith, common_steps) in
    wide_put links b _ w (same ∙ long.0) long.1

pub wide_before : (links : List Links) (b n : ℕ) (o : Option ℕ) (d : Links) → AreWide links → b < length links
    → AreWide (slice_set links b (record { last = (slice_index_or links b d).last; before = slice_set (slice_index_or links b d).before n o }))
wide_before links b n o d w h =
    let long = wide_at links b d w h in
    let same : length (slice_set (slice_index_or links b d).before n o) ≡ length (slice_index_or links b d).before = grind (arith, common_steps) in
    wide_put links b _ w long.0 (same ∙ long.1)

pub last_past : (links : List Links) (a l : ℕ) → (a < length links → last links a l ≡ None) → last links a l ≡ None
last_past [] a l h = refl
last_past (k ∷ links) zero l h = h (omega arith)
last_past (k ∷ links) (suc a) l h = last_past links a l (λ within. h (omega (arith, within)))

-- what is written back whole
pub written_back : (new old : List Links) (n : ℕ) → n ≡ length new → take n (new ++ old) ≡ new
written_back [] old zero h = refl
written_back [] old (suc n) h = absurd (omega arith)
written_back (k ∷ new) old zero h = absurd (omega arith)
written_back (k ∷ new) old (suc n) h = ap (λ (ks : List Links). k ∷ ks) (written_back new old n (omega arith))
