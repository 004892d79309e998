-- Which resource a key names, which has its record at a place, and which holds a cell: where it is known that one alone may.
use Rattle.std.proofs.Common.{◌≡◌, ◌∙◌, ℕ, Bool, true, false, cond, not, ◌&&◌, List, [], ◌∷◌, Option, Some, None, refl, sym, ap}
use Rattle.std.specs.Prelude.{◌==◌, find, IfSome, is_some}
use Rattle.std.proofs.lemmas.Bool.{and_parts, and_from, and_left, and_right, both_ways, eq-eqb, eqb-true, ne_eqb, not_from_false, not_from_true}
use Rattle.ior_refs.specs.declared.key.ObjectKey.{ObjectKey}
use Rattle.resource_end.specs.States.{holds}
use Rattle.resource_end.specs.Cells.{value_at}
use Rattle.resource_end.specs.End.{Resource, has_letter, is_named, is_numbered}
use Rattle.resource_end.specs.Inside.{AreApart, Id, PassesAlone, holds_cell, if_passes, is_other_holder, numbered}

-- what holds of each resource of a number holds of that which is found by it
pub of_found : (k : Id) (rs : List Resource) (P : Resource → Type 0) → ((r : Resource) → is_numbered k.0 k.1 r ≡ true → P r) → IfSome (numbered k rs) P
of_found k [] P all = tt
of_found k (r ∷ rs) P all = by (of_found k rs P all) (is_numbered k.0 k.1 r) refl
  where
    by : IfSome (numbered k rs) P → (b : Bool) → is_numbered k.0 k.1 r ≡ b → IfSome (cond b (Some r) (numbered k rs)) P
    by rest true h = all r h
    by rest false h = rest

-- two numbers of one resource are one
pub one_number : (k j : Id) (r : Resource) → is_numbered k.0 k.1 r ≡ true → is_numbered j.0 j.1 r ≡ true → k ≡ j
one_number k j r h i =
    let p = and_parts (r.life == k.0) (r.number == k.1) h in
    let q = and_parts (r.life == j.0) (r.number == j.1) i in
    (λ x. ((sym (eqb-true r.life k.0 p.0) ∙ eqb-true r.life j.0 q.0) x, (sym (eqb-true r.number k.1 p.1) ∙ eqb-true r.number j.1 q.1) x))

pub find_never : (test : Resource → Bool) → ((r : Resource) → test r ≡ false) → (rs : List Resource) → find test rs ≡ None
find_never test never [] = refl
find_never test never (r ∷ rs) = ap (λ b. cond b (Some r) (find test rs)) (never r) ∙ find_never test never rs

-- a key of this service names
abbrev names_by : Bool → Bool → Bool → Bool → Bool → Bool
names_by service slot index number letter = service && slot && index && number && letter

pub named_alone : (service : ℕ) (key : ObjectKey) (rs : List Resource) → PassesAlone (is_named service key) (key.life, key.generation) rs
named_alone service key rs other = of_found other rs (λ r. is_named service key r ≡ true → other ≡ (key.life, key.generation)) (λ r h t.
    one_number other (key.life, key.generation) r h
    (and_parts (key.service == service && key.slot == 0 && key.index == 0) (is_numbered key.life key.generation r)
    (and_parts (key.service == service && key.slot == 0 && key.index == 0 && is_numbered key.life key.generation r) (has_letter r.kind key.kind) t).0).1)

-- ---- what a key names

pub named_yes : (service : ℕ) (key : ObjectKey) (r : Resource) → key.service ≡ service → key.slot ≡ 0 → key.index ≡ 0
    → is_numbered key.life key.generation r ≡ true → has_letter r.kind key.kind ≡ true → is_named service key r ≡ true
named_yes service key r s t i n l =
    and_from _ _ (and_from _ _ (and_from _ _ (and_from _ _ (eq-eqb key.service service s) (eq-eqb key.slot 0 t)) (eq-eqb key.index 0 i)) n) l

pub named_not : (service : ℕ) (key : ObjectKey) (r : Resource) → has_letter r.kind key.kind ≡ false → is_named service key r ≡ false
named_not service key r l = and_right _ _ l

pub other_service : (service : ℕ) (key : ObjectKey) → (key.service ≡ service → ⊥) → (r : Resource) → is_named service key r ≡ false
other_service service key differs r = and_left _ _ (and_left _ _ (and_left _ _ (and_left _ _ (ne_eqb key.service service differs))))

pub other_slot : (service : ℕ) (key : ObjectKey) → (key.slot ≡ 0 → ⊥) → (r : Resource) → is_named service key r ≡ false
other_slot service key differs r = and_left _ _ (and_left _ _ (and_left _ _ (and_right _ _ (ne_eqb key.slot 0 differs))))

pub other_index : (service : ℕ) (key : ObjectKey) → (key.index ≡ 0 → ⊥) → (r : Resource) → is_named service key r ≡ false
other_index service key differs r = and_left _ _ (and_left _ _ (and_right _ _ (ne_eqb key.index 0 differs)))

pub itself : (k : Id) → (k.0 == k.0 && k.1 == k.1) ≡ true
itself k = and_from _ _ (eq-eqb k.0 k.0 refl) (eq-eqb k.1 k.1 refl)

-- ---- who holds a cell

pub other_alone : (id holder : Id) (cell : ℕ) (rs : List Resource) → PassesAlone (holds_cell cell) holder rs → PassesAlone (is_other_holder id cell) holder rs
other_alone id holder cell rs alone other = by (numbered other rs) (alone other)
  where
    by : (o : Option Resource) → IfSome o (λ r. holds_cell cell r ≡ true → other ≡ holder) → IfSome o (λ r. is_other_holder id cell r ≡ true → other ≡ holder)
    by None h = tt
    by (Some r) h = λ t.
        let p = and_parts (not (is_numbered id.0 id.1 r) && holds r.state) (is_some (value_at cell r.puts)) t in
        h (and_from _ _ (and_parts (not (is_numbered id.0 id.1 r)) (holds r.state) p.0).1 p.1)

pub holds_other : (id : Id) (cell : ℕ) (r : Resource) → is_numbered id.0 id.1 r ≡ false → holds_cell cell r ≡ true → is_other_holder id cell r ≡ true
holds_other id cell r n h =
    let p = and_parts (holds r.state) (is_some (value_at cell r.puts)) h in
    and_from _ _ (and_from _ _ (not_from_false _ n) p.0) p.1

pub is_itself : (id : Id) (cell : ℕ) (r : Resource) → is_numbered id.0 id.1 r ≡ true → is_other_holder id cell r ≡ false
is_itself id cell r n = and_left _ _ (and_left _ _ (not_from_true _ n))

pub holds_not : (id : Id) (cell : ℕ) (r : Resource) → holds_cell cell r ≡ false → is_other_holder id cell r ≡ false
holds_not id cell r h = by (not (is_numbered id.0 id.1 r)) (holds r.state) (is_some (value_at cell r.puts)) h
  where
    by : (a b c : Bool) → (b && c) ≡ false → (a && b && c) ≡ false
    by true b c h = h
    by false b c h = refl

-- ---- one that a key names is found by its number

if_passed : (test : Resource → Bool) (o : Option Resource) (r : Resource) → if_passes test o ≡ Some r → o ≡ Some r
if_passed test None r h = h
if_passed test (Some x) r h = by (test x) refl h
  where
    by : (b : Bool) → test x ≡ b → cond b (Some x) None ≡ Some r → Some x ≡ Some r
    by true t k = k
    by false t k = absurd (both_ways _ refl (ap is_some k))

pub number_of_named : (service : ℕ) (key : ObjectKey) (rs : List Resource) (r : Resource) → AreApart rs → find (is_named service key) rs ≡ Some r
    → numbered (key.life, key.generation) rs ≡ Some r
number_of_named service key rs r apart is =
    if_passed (is_named service key) (numbered (key.life, key.generation) rs) r
    (sym (apart (is_named service key) (key.life, key.generation) (named_alone service key rs)) ∙ is)
