-- Each resource holds its cells: what keeps this as resources and cells change.
use Rattle.std.proofs.Common.{◌≡◌, ◌∙◌, inl, inr, ℕ, Bool, true, false, cond, ◌&&◌, List, [], ◌∷◌, Option, Some, None, refl, sym, ap, subst}
use Rattle.std.specs.Prelude.{◌==◌, find, IfSome, IsSome, is_some, Result, Ok, Err, IfOk, OnOk, OnErr}
use Rattle.std.specs.List.{AllByRecursion}
use Rattle.std.specs.Option.{unwrap_or}
use Rattle.std.proofs.lemmas.Bool.{and_from, and_parts, both_ways, cases_Bool, cases_eq, eq-eqb, ne_eqb}
use Rattle.decision_journal.specs.declared.record.Put.{Put}
use Rattle.resource_end.specs.declared.cells.Cell.{Cell}
use Rattle.resource_end.specs.declared.state.State.{State}
use Rattle.resource_end.specs.declared.state.State.TheVariants.{Prepared}
use Rattle.resource_end.specs.States.{holds, stores, is_stored}
use Rattle.resource_end.specs.Cells.{value_at, with_put}
use Rattle.resource_end.specs.States.{is_forgotten}
use Rattle.resource_end.specs.Calls.{bound, with_cell}
use Rattle.resource_end.specs.End.{Resource, is_numbered, kept, moved, with_resource}
use Rattle.resource_end.specs.Inside.{AreHeld, HasOwnPuts, HoldersStay, HoldsAlone, HoldsItsCells, Id, IsHeldBy, MayFollow, holder_in, holds_cell, is_other_holder, numbered, placed, puts_stored, without}
use Rattle.resource_end.proofs.Finding.{found_with, found_without}
use Rattle.resource_end.proofs.Holding.{its}
use Rattle.resource_end.proofs.Named.{holds_other, of_found, one_number}
use Rattle.resource_end.proofs.Stored.{one_put}

-- ---- one that is put into a list, or taken out

pub if_cond : (b : Bool) (r : Resource) (o : Option Resource) (P : Resource → Type 0) → (b ≡ true → P r) → IfSome o P → IfSome (cond b (Some r) o) P
if_cond true r o P h k = h refl
if_cond false r o P h k = k

pub held_with : (contested : Bool) (cells : List (ℕ × Cell)) (rs : List Resource) (r : Resource) → AreHeld contested cells rs
    → HoldsItsCells contested cells (r.life, r.number) r → AreHeld contested cells (with_resource r rs)
held_with contested cells rs r held more id =
    subst (λ o. IfSome o (HoldsItsCells contested cells id)) (sym (found_with id r rs))
    (if_cond (is_numbered id.0 id.1 r) r (numbered id rs) (HoldsItsCells contested cells id)
    (λ h. subst (λ k. HoldsItsCells contested cells k r) (one_number (r.life, r.number) id r (and_from _ _ (eq-eqb r.life r.life refl) (eq-eqb r.number r.number refl)) h) more)
    (held id))

pub if_none : (b : Bool) (o : Option Resource) (P : Resource → Type 0) → IfSome o P → IfSome (cond b None o) P
if_none true o P h = tt
if_none false o P h = h

pub held_without : (contested : Bool) (cells : List (ℕ × Cell)) (rs : List Resource) (k : Id) → AreHeld contested cells rs → AreHeld contested cells (without k rs)
held_without contested cells rs k held id =
    subst (λ o. IfSome o (HoldsItsCells contested cells id)) (sym (found_without id k rs)) (if_none (id.0 == k.0 && id.1 == k.1) (numbered id rs) _ (held id))

-- cells that are held as they were
pub held_stay : (contested : Bool) (a b : List (ℕ × Cell)) (rs : List Resource) → HoldersStay a b → AreHeld contested a rs → AreHeld contested b rs
held_stay contested a b rs stay held id = by (numbered id rs) (held id)
  where
    by : (o : Option Resource) → IfSome o (HoldsItsCells contested a id) → IfSome o (HoldsItsCells contested b id)
    by None h = tt
    by (Some r) h = λ cell hc. subst (IsHeldBy contested id) (sym (stay cell)) (h cell hc)

-- ---- who alone holds a cell

pub alone : (cells : List (ℕ × Cell)) (rs : List Resource) (cell : ℕ) (holder : Option Id) → holder ≡ unwrap_or (holder_in cell cells) None → AreHeld false cells rs → HoldsAlone cell holder rs
alone cells rs cell holder is held id = by (numbered id rs) (held id)
  where
    at : (o : Option (Option Id)) → IsHeldBy false id o → unwrap_or o None ≡ Some id
    at None h = absurd h
    at (Some k) h = h

    by : (o : Option Resource) → IfSome o (HoldsItsCells false cells id) → IfSome o (λ r. holds_cell cell r ≡ true → holder ≡ Some id)
    by None h = tt
    by (Some r) h = λ hc. is ∙ at (holder_in cell cells) (h cell hc)

-- ---- one more cell is held

pub find_none : (test : Resource → Bool) (rs : List Resource) (k : Id) → find test rs ≡ None → IfSome (numbered k rs) (λ r. test r ≡ false)
find_none test [] k none = tt
find_none test (r ∷ rs) k none = by (find_none test rs k) (test r) refl none
  where
    by : (find test rs ≡ None → IfSome (numbered k rs) (λ r. test r ≡ false)) → (b : Bool) → test r ≡ b → cond b (Some r) (find test rs) ≡ None
        → IfSome (cond (is_numbered k.0 k.1 r) (Some r) (numbered k rs)) (λ r. test r ≡ false)
    by rest true h n = absurd (both_ways _ (ap is_some n) refl)
    by rest false h n = if_cond (is_numbered k.0 k.1 r) r (numbered k rs) (λ r. test r ≡ false) (λ _. h) (rest n)

-- one of a number, and what is known of it
pub known : (o : Option Resource) → IsSome o → (P : Resource → Type 0) → IfSome o P → (r : Resource) × ((o ≡ Some r) × P r)
known None there P h = absurd (both_ways _ refl there)
known (Some r) there P h = (r, (refl, h))

pub at_known : (o : Option Resource) (r : Resource) (P : Resource → Type 0) → o ≡ Some r → IfSome o P → P r
at_known o r P is h = subst (λ x. IfSome x P) is h

pub its_number : (k : Id) (rs : List Resource) (r : Resource) → numbered k rs ≡ Some r → is_numbered k.0 k.1 r ≡ true
its_number k rs r is = at_known (numbered k rs) r (λ x. is_numbered k.0 k.1 x ≡ true) is (of_found k rs (λ x. is_numbered k.0 k.1 x ≡ true) (λ x h. h))

pub itself : (r : Resource) → is_numbered r.life r.number r ≡ true
itself r = and_from _ _ (eq-eqb r.life r.life refl) (eq-eqb r.number r.number refl)

-- ---- one that changes

module _ (contested : Bool) (cells : List (ℕ × Cell)) (rs : List Resource) (k : Id) (r : Resource) (is : numbered k rs ≡ Some r) where
  pub held_change : (s : Resource) → s.life ≡ r.life → s.number ≡ r.number → AreHeld contested cells rs
      → ((cell : ℕ) → holds_cell cell s ≡ true → IsHeldBy contested k (holder_in cell cells)) → AreHeld contested cells (with_resource s rs)
  held_change s p q held holds_too =
      held_with contested cells rs s held
      (subst (λ j. HoldsItsCells contested cells j s)
      (one_number k (r.life, r.number) r (its_number k rs r is) (itself r) ∙ (λ i. (sym p i, sym q i)))
      holds_too)

  its_cells : AreHeld contested cells rs → HoldsItsCells contested cells k r
  its_cells held = at_known (numbered k rs) r (HoldsItsCells contested cells k) is (held k)

  same_cells : (b : Bool) (recovery : List ℕ) (cell : ℕ) → holds_cell cell (cond b r (record r { recovery = recovery })) ≡ holds_cell cell r
  same_cells true recovery cell = refl
  same_cells false recovery cell = refl

  same_life : (b : Bool) (recovery : List ℕ) → (cond b r (record r { recovery = recovery })).life ≡ r.life
  same_life true recovery = refl
  same_life false recovery = refl

  same_number : (b : Bool) (recovery : List ℕ) → (cond b r (record r { recovery = recovery })).number ≡ r.number
  same_number true recovery = refl
  same_number false recovery = refl

  pub held_bound : (recovery : List ℕ) → AreHeld contested cells rs → AreHeld contested cells (with_resource (bound recovery r) rs)
  held_bound recovery held =
      held_change (bound recovery r) (same_life (is_some r.record_place) recovery) (same_number (is_some r.record_place) recovery) held
      (λ cell h. its_cells held cell (sym (same_cells (is_some r.record_place) recovery cell) ∙ h))

-- ---- one that puts a cell

pub held_cell : (contested : Bool) (a b : List (ℕ × Cell)) (rs : List Resource) (id : Id) (cell : ℕ) → find (is_other_holder id cell) rs ≡ None
    → holder_in cell b ≡ Some (Some id) → ((other : ℕ) → (other ≡ cell → ⊥) → holder_in other b ≡ holder_in other a)
    → AreHeld contested a rs → AreHeld contested b rs
held_cell contested a b rs id cell none here others held k =
    by (numbered k rs) refl (held k) (find_none (is_other_holder id cell) rs k none)
  where
    own : (r : Resource) → numbered k rs ≡ Some r → is_other_holder id cell r ≡ false → holds_cell cell r ≡ true → id ≡ k
    own r is not_other hc = elim (cases_Bool (is_numbered id.0 id.1 r)) [
      | inl same ↦ one_number id k r same (its_number k rs r is)
      | inr differs ↦ absurd (both_ways _ not_other (holds_other id cell r differs hc))
    ]

    at : (r : Resource) → numbered k rs ≡ Some r → HoldsItsCells contested a k r → is_other_holder id cell r ≡ false → HoldsItsCells contested b k r
    at r is h not_other c hc = elim (cases_eq c cell) [
      | inl same ↦
          subst (λ j. IsHeldBy contested j (holder_in c b)) (own r is not_other (subst (λ x. holds_cell x r ≡ true) same hc))
          (its contested id (holder_in c b) (ap (λ x. holder_in x b) same ∙ here))
      | inr differs ↦ subst (IsHeldBy contested k) (sym (others c differs)) (h c hc)
    ]

    by : (o : Option Resource) → numbered k rs ≡ o → IfSome o (HoldsItsCells contested a k) → IfSome o (λ r. is_other_holder id cell r ≡ false) → IfSome o (HoldsItsCells contested b k)
    by None is h n = tt
    by (Some r) is h n = at r is h n

pub held_put : (contested : Bool) (cells : List (ℕ × Cell)) (rs : List Resource) (id : Id) (r : Resource) (cell value : ℕ) → numbered id rs ≡ Some r
    → HasOwnPuts r → holder_in cell cells ≡ Some (Some id) → AreHeld contested cells rs → AreHeld contested cells (with_resource (with_cell cell value r) rs)
held_put contested cells rs id r cell value is own here held =
    held_change contested cells rs id r is (with_cell cell value r) refl refl held (λ c hc.
    elim (cases_eq c cell) [
      | inl same ↦ its contested id (holder_in c cells) (ap (λ x. holder_in x cells) same ∙ here)
      | inr differs ↦
          its_cells contested cells rs id r is held c (old c differs (and_parts true (is_some (value_at c (with_put (record { cell = cell; value = value }) r.puts))) hc).1)
    ])
  where
    old : (c : ℕ) → (c ≡ cell → ⊥) → is_some (value_at c (with_put (record { cell = cell; value = value }) r.puts)) ≡ true → holds_cell c r ≡ true
    old c differs h =
        let there : is_some (value_at c r.puts) ≡ true =
        ap is_some (sym (one_put c (record { cell = cell; value = value }) r.puts ∙ ap (λ b. cond b (Some value) (value_at c r.puts)) (ne_eqb cell c (λ e. differs (sym e))))) ∙ h in
        elim own [
          | inl holding ↦ and_from _ _ holding there
          | inr none ↦ absurd (both_ways _ refl (ap (λ ps. is_some (value_at c ps)) (sym none) ∙ there))
        ]

-- ---- one whose state changes

all_known : (K : ℕ → Type 0) (puts : List Put) → ((cell : ℕ) → is_some (value_at cell puts) ≡ true → K cell) → AllByRecursion (λ p. K p.cell) puts
all_known K [] h = tt
all_known K (p ∷ puts) h = (
  h p.cell (ap (λ b. is_some (cond b (Some p.value) (value_at p.cell puts))) (eq-eqb p.cell p.cell refl)),
  all_known K puts (λ cell t. h cell (by (p.cell == cell) cell t)),
)
  where
    by : (b : Bool) (cell : ℕ) → is_some (value_at cell puts) ≡ true → is_some (cond b (Some p.value) (value_at cell puts)) ≡ true
    by true cell t = refl
    by false cell t = t

is_known : (contested : Bool) (k : Id) (o : Option (Option Id)) → IsHeldBy contested k o → IsSome o
is_known contested k None h = absurd h
is_known contested k (Some holder) h = refl

pub stored_known : (contested : Bool) (cells : List (ℕ × Cell)) (k : Id) (r : Resource) (next : State) → HoldsItsCells contested cells k r
    → AllByRecursion (λ p. IsSome (holder_in p.cell cells)) (puts_stored next r)
stored_known contested cells k r next held = by (stores r.state next) refl
  where
    by : (b : Bool) → stores r.state next ≡ b → AllByRecursion (λ (p : Put). IsSome (holder_in p.cell cells)) (cond b r.puts [])
    by true h =
        all_known (λ cell. IsSome (holder_in cell cells)) r.puts
        (λ cell t. is_known contested k (holder_in cell cells) (held cell (and_from _ _ (and_parts (holds r.state) (is_stored next) h).0 t)))
    by false h = tt

-- its place alone may be another
record SameButPlace (s r : Resource) : Type 0 where
  life : s.life ≡ r.life
  number : s.number ≡ r.number
  puts : s.puts ≡ r.puts

same_but_place : (next : State) (place : Option ℕ) (r : Resource) → SameButPlace (placed next place r) r
same_but_place next None r = record { life = refl; number = refl; puts = refl }
same_but_place Prepared (Some place) r = record { life = refl; number = refl; puts = refl }
same_but_place next (Some place) r = record { life = refl; number = refl; puts = refl }

pub held_moved : (contested : Bool) (cells : List (ℕ × Cell)) (rs : List Resource) (k : Id) (r : Resource) (next : State) (place : Option ℕ) → numbered k rs ≡ Some r
    → MayFollow next r.state → AreHeld contested cells rs → AreHeld contested cells (kept (moved next (placed next place r)) rs)
held_moved contested cells rs k r next place is may held = by (is_forgotten next)
  where
    same : SameButPlace (placed next place r) r
    same = same_but_place next place r

    holding : (cell : ℕ) → (b : Bool) → holds next ≡ b → (b && is_some (value_at cell (cond b (placed next place r).puts []))) ≡ true → holds_cell cell r ≡ true
    holding cell true h t = and_from _ _ (may.holding h) (ap (λ ps. is_some (value_at cell ps)) (sym same.puts) ∙ t)
    holding cell false h t = absurd (both_ways _ refl t)

    by : (b : Bool) → AreHeld contested cells (cond b (without ((placed next place r).life, (placed next place r).number) rs) (with_resource (moved next (placed next place r)) rs))
    by true = held_without contested cells rs ((placed next place r).life, (placed next place r).number) held
    by false =
        held_change contested cells rs k r is (moved next (placed next place r)) same.life same.number held
        (λ cell h. its_cells contested cells rs k r is held cell (holding cell (holds next) refl h))

-- ---- answers

pub on_ok : {A E : Type 0} (result : Result A E) (P Q : Type 0) → OnOk result P → (P → Q) → OnOk result Q
on_ok (Ok x) P Q h f = f h
on_ok (Err e) P Q h f = tt

pub on_err : {A E : Type 0} (result : Result A E) (P Q : Type 0) → OnErr result P → (P → Q) → OnErr result Q
on_err (Ok x) P Q h f = tt
on_err (Err e) P Q h f = f h

pub either_way : {A E : Type 0} (result : Result A E) (P Q G : Type 0) → OnOk result P → OnErr result Q → (P → G) → (Q → G) → G
either_way (Ok x) P Q G p q f g = f p
either_way (Err e) P Q G p q f g = g q

pub on_both : {A E : Type 0} (result : Result A E) (P Q R : Type 0) → OnOk result P → OnOk result Q → (P → Q → R) → OnOk result R
on_both (Ok x) P Q R p q f = f p q
on_both (Err e) P Q R p q f = tt

pub if_ok : {A E : Type 0} (result : Result A E) (P Q : A → Type 0) → IfOk result P → ((x : A) → P x → Q x) → IfOk result Q
if_ok (Ok x) P Q h f = f x h
if_ok (Err e) P Q h f = tt
