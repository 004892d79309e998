-- Who holds cells: what is kept where a resource comes to hold one more.
use Rattle.std.proofs.Common.{◌≡◌, ◌∙◌, inl, inr, ℕ, zero, suc, ◌<◌, Bool, true, false, cond, not, ◌||◌, List, [], ◌∷◌, length, get_or, Option, Some, None, refl, sym, ap, subst, arith}
use Rattle.std.specs.Prelude.{◌==◌, IfSome, is_some}
use Rattle.std.specs.Option.{unwrap_or}
use Rattle.std.proofs.lemmas.Bool.{and_parts, both_ways, cases_eq, eqb-true}
use Rattle.decision_journal.specs.declared.record.Put.{Put}
use Rattle.resource_end.specs.declared.cells.Cell.{Cell}
use Rattle.resource_end.specs.Cells.{value_at}
use Rattle.resource_end.specs.declared.kept.Kept.{Kept}
use Rattle.resource_end.specs.End.{Resource}
use Rattle.resource_end.specs.Inside.{HoldsItsCells, Id, IsHeldBy, Keeps, holder_in, is_another, is_same, numbered, resource_at, resources_of}

weaker : (x was : Bool) (k : Id) (o : Option (Option Id)) → IsHeldBy was k o → IsHeldBy (x || was) k o
weaker x was k None h = absurd h
weaker true true k (Some holder) h = tt
weaker false true k (Some holder) h = tt
weaker true false k (Some holder) h = tt
weaker false false k (Some holder) h = h

stronger : (x y : Bool) (k : Id) (o : Option (Option Id)) → IsHeldBy x k o → IsHeldBy (x || y) k o
stronger x y k None h = absurd h
stronger true y k (Some holder) h = tt
stronger false true k (Some holder) h = tt
stronger false false k (Some holder) h = h

pub its : (x : Bool) (k : Id) (o : Option (Option Id)) → o ≡ Some (Some k) → IsHeldBy x k o
its x k o is = subst (IsHeldBy x k) (sym is) (by x)
  where
    by : (b : Bool) → IsHeldBy b k (Some (Some k))
    by true = tt
    by false = refl

assoc : (x y z : Bool) → (x || (y || z)) ≡ (x || y || z)
assoc true y z = refl
assoc false y z = refl

pub keeps_more : (x y : Bool) (a b c : List (ℕ × Cell)) → Keeps x a b → Keeps y b c → Keeps (y || x) a c
keeps_more x y a b c first then id cell was h = subst (λ f. IsHeldBy f id (holder_in cell c)) (assoc y x was) (then id cell (x || was) (first id cell was h))

same_id : (k id : Id) → is_same k id ≡ true → id ≡ k
same_id k id h =
    let p = and_parts (k.0 == id.0) (k.1 == id.1) h in
    (λ i. (sym (eqb-true k.0 id.0 p.0) i, sym (eqb-true k.1 id.1 p.1) i))

-- the cell that one came to hold
taken : (id k : Id) (was : Bool) (old : Option (Option Id)) (before : Option Id) → before ≡ unwrap_or old None → IsHeldBy was k old
    → IsHeldBy (is_another before id || was) k (Some (Some id))
taken id k was None before is h = absurd h
taken id k true (Some old) before is h = by (is_another before id)
  where
    by : (b : Bool) → IsHeldBy (b || true) k (Some (Some id))
    by true = tt
    by false = tt
taken id k false (Some old) before is h = subst (λ o. IsHeldBy (is_another o id || false) k (Some (Some id))) (sym (is ∙ h)) (by (is_same k id) refl)
  where
    by : (b : Bool) → is_same k id ≡ b → IsHeldBy (not b || false) k (Some (Some id))
    by true same = ap Some (same_id k id same)
    by false same = tt

pub keeps_one : (cell : ℕ) (id : Id) (before : Option Id) (a b : List (ℕ × Cell)) → before ≡ unwrap_or (holder_in cell a) None
    → holder_in cell b ≡ Some (Some id) → ((other : ℕ) → (other ≡ cell → ⊥) → holder_in other b ≡ holder_in other a) → Keeps (is_another before id) a b
keeps_one cell id before a b was_held held others k c was h = elim (cases_eq c cell) [
  | inl same ↦
      subst (IsHeldBy (is_another before id || was) k) (sym (ap (λ x. holder_in x b) same ∙ held))
      (taken id k was (holder_in cell a) before was_held (subst (λ x. IsHeldBy was k (holder_in x a)) same h))
  | inr differs ↦
      weaker (is_another before id) was k (holder_in c b) (subst (IsHeldBy was k) (sym (others c differs)) h)
]

-- a cell that is among puts is that of one of them
pub put_at : (cell : ℕ) (puts : List Put) → is_some (value_at cell puts) ≡ true → (k : ℕ) × (k < length puts) × ((d : Put) → (get_or puts k d).cell ≡ cell)
put_at cell [] there = absurd (both_ways _ refl there)
put_at cell (p ∷ puts) there = by (put_at cell puts) (p.cell == cell) refl there
  where
    by : (is_some (value_at cell puts) ≡ true → (k : ℕ) × (k < length puts) × ((d : Put) → (get_or puts k d).cell ≡ cell))
        → (b : Bool) → (p.cell == cell) ≡ b → is_some (cond b (Some p.value) (value_at cell puts)) ≡ true
        → (k : ℕ) × (k < length (p ∷ puts)) × ((d : Put) → (get_or (p ∷ puts) k d).cell ≡ cell)
    by rest true h t = (zero, omega arith, λ d. eqb-true p.cell cell h)
    by rest false h t = let r = rest t in (suc r.0, omega (arith, r.1), λ d. r.2 d)

-- ---- resource after resource

-- those that are looked at hold their cells, as far as a list of them goes
abbrev pub Held : Bool → List (ℕ × Cell) → List Resource → List (Id × Kept) → Type 0
Held contested cells now rest = (k : Id) → IfSome (numbered k now) (λ r. numbered k (resources_of rest) ≡ None → HoldsItsCells contested cells k r)

pub held_first : (cells : List (ℕ × Cell)) (now : List Resource) (es : List (Id × Kept)) → resources_of es ≡ now → Held false cells now es
held_first cells now es is k = by (numbered k now) (numbered k (resources_of es)) (ap (numbered k) is)
  where
    by : (o all : Option Resource) → all ≡ o → IfSome o (λ r. all ≡ None → HoldsItsCells false cells k r)
    by None all same = tt
    by (Some r) all same = λ none. absurd (both_ways _ refl (ap is_some (sym none ∙ same)))

pub held_last : (contested : Bool) (cells : List (ℕ × Cell)) (now : List Resource) (rest : List (Id × Kept)) → rest ≡ [] → Held contested cells now rest
    → (k : Id) → IfSome (numbered k now) (HoldsItsCells contested cells k)
held_last contested cells now rest none held k = by (numbered k now) (held k)
  where
    by : (o : Option Resource) → IfSome o (λ r. numbered k (resources_of rest) ≡ None → HoldsItsCells contested cells k r) → IfSome o (HoldsItsCells contested cells k)
    by None h = tt
    by (Some r) h = h (ap (λ es. numbered k (resources_of es)) none)

pub held_more : (x y : Bool) (a b : List (ℕ × Cell)) (now : List Resource) (e : Id) (v : Kept) (rest all : List (Id × Kept)) → all ≡ (e, v) ∷ rest
    → numbered e now ≡ Some (resource_at e v) → Held x a now all → HoldsItsCells y b e (resource_at e v) → Keeps y a b → Held (y || x) b now rest
held_more x y a b now e v rest all is there held more keeps k = by (is_same e k) refl
  where
    others : (r : Resource) → HoldsItsCells x a k r → HoldsItsCells (y || x) b k r
    others r h cell hc = keeps k cell x (h cell hc)

    through : (o : Option Resource) → (numbered k (resources_of rest) ≡ None → numbered k (resources_of all) ≡ None)
        → IfSome o (λ r. numbered k (resources_of all) ≡ None → HoldsItsCells x a k r) → IfSome o (λ r. numbered k (resources_of rest) ≡ None → HoldsItsCells (y || x) b k r)
    through None to h = tt
    through (Some r) to h = λ none. others r (h (to none))

    by : (f : Bool) → is_same e k ≡ f → IfSome (numbered k now) (λ r. numbered k (resources_of rest) ≡ None → HoldsItsCells (y || x) b k r)
    by true same =
        subst (λ j. IfSome (numbered j now) (λ r. numbered j (resources_of rest) ≡ None → HoldsItsCells (y || x) b j r)) (sym (same_id e k same))
        (subst (λ o. IfSome o (λ r. numbered e (resources_of rest) ≡ None → HoldsItsCells (y || x) b e r)) (sym there)
        (λ none cell hc. stronger y x e (holder_in cell b) (more cell hc)))
    by false differs =
        through (numbered k now)
        (λ none. ap (λ es. numbered k (resources_of es)) is ∙ ap (λ f. cond f (Some (resource_at e v)) (numbered k (resources_of rest))) differs ∙ none)
        (held k)
