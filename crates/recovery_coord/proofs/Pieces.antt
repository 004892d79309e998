-- A list that is made piece by piece.
use Rattle.std.proofs.Common.{◌≡◌, ◌∙◌, ℕ, ◌+◌, ◌<◌, List, [], ◌∷◌, ◌++◌, length, get_or, map, take, drop, Option, Some, None, refl, sym, ap, arith}
use Rattle.std.specs.Prelude.{IsOk, OnOk, Result, Ok, Err}
use Rattle.std.specs.List.{cons_option, filter_map, flat_map}
use Rattle.std.specs.Option.{option_to_list}
use Rattle.std.proofs.lemmas.List.{append_assoc, drop_more, flat_map_more, get_or_at, length-map, length-take, map_more, take_more}
use Rattle.std.proofs.lemmas.List.Elements.{filter_map-append}
use Rattle.ots_model.specs.declared.tree.Outward.{Outward}
use Rattle.recovery_coord.specs.Telling.{IsMore}

one : {Y : Type 0} (o : Option Y) → cons_option o [] ≡ option_to_list o
one None = refl
one (Some y) = refl

-- what one more element adds
pub filter_map_more : {X Y : Type 0} (h : X → Option Y) (xs : List X) (i : ℕ) (d : X) → i < length xs → filter_map h (take (i + 1) xs) ≡ filter_map h (take i xs) ++ option_to_list (h (get_or xs i d))
filter_map_more h xs i d lt =
    ap (filter_map h) (take_more xs i d lt)
    ∙ filter_map-append h (take i xs) (get_or xs i d ∷ [])
    ∙ ap (λ ys. filter_map h (take i xs) ++ ys) (one (h (get_or xs i d)))

-- the same behind a list that was there
pub one_more : {X Y : Type 0} (h : X → Option Y) (xs : List X) (i : ℕ) (x : X) (init cur new : List Y) → i < length xs → x ≡ get_or xs i x
    → cur ≡ init ++ filter_map h (take i xs) → new ≡ cur ++ option_to_list (h x) → new ≡ init ++ filter_map h (take (i + 1) xs)
one_more h xs i x init cur new lt is so_far more =
    more
    ∙ ap (λ ys. ys ++ option_to_list (h x)) so_far
    ∙ append_assoc init (filter_map h (take i xs)) (option_to_list (h x))
    ∙ ap (λ y. init ++ (filter_map h (take i xs) ++ option_to_list (h y))) is
    ∙ ap (λ ys. init ++ ys) (sym (filter_map_more h xs i x lt))

-- a list whose first elements are changed has its next one as before
pub as_before : {X : Type 0} (f : X → X) (xs ys : List X) (i : ℕ) (x : X) → i < length xs → ys ≡ map f (take i xs) ++ drop i xs → x ≡ get_or ys i x → x ≡ get_or xs i x
as_before f xs ys i x lt so_far is =
    let front = map f (take i xs) in
    let long : length front ≡ i = length-map (take i xs) f ∙ omega (arith, length-take i xs) in
    is ∙ ap (λ l. get_or l i x) (so_far ∙ ap (λ l. front ++ l) (drop_more xs i x lt)) ∙ get_or_at front _ _ x i long

-- each of a list is changed, and what each is then has a piece of another list
pub one_changed : {X Y : Type 0} (f : X → X) (g : X → List Y) (xs : List X) (i : ℕ) (x : X) (init cur new : List Y) → i < length xs → x ≡ get_or xs i x
    → cur ≡ init ++ flat_map g (map f (take i xs)) → new ≡ cur ++ g (f x) → new ≡ init ++ flat_map g (map f (take (i + 1) xs))
one_changed f g xs i x init cur new lt is so_far more =
    more
    ∙ ap (λ ys. ys ++ g (f x)) so_far
    ∙ ap (λ y. (init ++ flat_map g (map f (take i xs))) ++ g (f y)) is
    ∙ flat_map_more g init (map f (take i xs)) (f (get_or xs i x))
    ∙ ap (λ ys. init ++ flat_map g ys) (sym (map_more f xs i x lt))

-- a second step that is Ok only where the first was
pub both_ok : {T E P Q R : Type 0} (first second : Result T E) → OnOk first P → OnOk second (IsOk first) → OnOk second Q → (P → Q → R) → OnOk second R
both_ok (Ok t) (Ok u) p ok q both = both p q
both_ok (Err e) (Ok u) p ok q both = absurd (cc (ok))
both_ok first (Err e) p ok q both = tt

-- words behind words
pub more_still : (a b c : List Outward) → IsMore a b → IsMore b c → IsMore a c
more_still a b c one two = (one.0 ++ two.0, two.1 ∙ ap (λ (ws : List Outward). ws ++ two.0) one.1 ∙ append_assoc a one.0 two.0)
