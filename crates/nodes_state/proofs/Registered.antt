-- The name of the object that is registered with a number.
use Rattle.std.proofs.Common.{◌≡◌, ℕ, zero, suc, ◌+◌, ◌≤◌, List, [], ◌∷◌, ◌++◌, length, map, take, slice_get, Option, Some, None, refl, sym, ap, ◌∙◌, arith}
use Rattle.std.specs.Option.{option_map, option_and_then}
use Rattle.std.proofs.lemmas.List.{map-append, take_all, take_more}
use Rattle.std.proofs.lemmas.Option.{get_or_from_slice_get, slice_get-map, slice_get_within}
use Rattle.resource_votes.specs.Ballots.{numbered}
use Rattle.resource_votes.specs.declared.registration.Registration.{Registration}
use Rattle.nodes_world.specs.World.{NamedKey, World, referred}
use Rattle.nodes_world.specs.Happenings.{name_numbered}
use Rattle.nodes_state.specs.Casting.{name_at_number}
use Rattle.nodes_state.specs.Telling.{AreIndexed, kept_name, name_in}
use Rattle.nodes_state.proofs.Indexed.{numbered_found}

each_named : (w : World) (o : Option Registration)
    → option_and_then (name_in w) o ≡ option_map (λ (n : NamedKey). n.name) (option_and_then (λ (r : Registration). referred w r.to) o)
each_named w (Some r) = refl
each_named w None = refl

-- a family's own
pub own_names : (w : World) (some : List Registration) (number : ℕ) → AreIndexed some → name_at_number w some number ≡ name_numbered w some number
own_names w some number indexed =
    each_named w (numbered some number)
    ∙ ap (λ x. option_map (λ (n : NamedKey). n.name) (option_and_then (λ (r : Registration). referred w r.to) x)) (sym (numbered_found some number indexed))

-- those that were kept
numbered_map : (w : World) (some : List Registration) (number : ℕ) → numbered (map (name_in w) some) number ≡ option_map (name_in w) (numbered some number)
numbered_map w some zero = refl
numbered_map w some (suc i) = slice_get-map (name_in w) some i

flat_named : (w : World) (o : Option Registration)
    → option_and_then (λ (x : Option (List ℕ)). x) (option_map (name_in w) o) ≡ option_and_then (name_in w) o
flat_named w (Some r) = refl
flat_named w None = refl

pub kept_names : (w : World) (names : List (Option (List ℕ))) (some : List Registration) (number : ℕ) → AreIndexed some → names ≡ map (name_in w) some
    → kept_name names number ≡ name_numbered w some number
kept_names w names some number indexed kept =
    ap (λ xs. kept_name xs number) kept
    ∙ ap (λ o. option_and_then (λ (x : Option (List ℕ)). x) o) (numbered_map w some number)
    ∙ flat_named w (numbered some number)
    ∙ own_names w some number indexed

-- ---- names that are kept one by one

pub one_more : (w : World) (some : List Registration) (place : ℕ) (r : Registration) (found : List (Option (List ℕ))) → numbered some (place + 1) ≡ Some r
    → found ≡ map (name_in w) (take place some) → found ++ name_in w r ∷ [] ≡ map (name_in w) (take (place + 1) some)
one_more w some place r found there so =
    let e : place + 1 ≡ suc place = omega arith in
    let at : slice_get some place ≡ Some r = sym (ap (λ n. numbered some n) e) ∙ there in
    ap (λ xs. xs ++ name_in w r ∷ []) so
    ∙ sym (map-append (name_in w) (take place some) (r ∷ []))
    ∙ ap (λ xs. map (name_in w) xs) (sym (take_more some place r (slice_get_within some place r at)
    ∙ ap (λ x. take place some ++ x ∷ []) (get_or_from_slice_get some place r r at)))

pub all_kept : (w : World) (some : List Registration) (place : ℕ) (found : List (Option (List ℕ))) → numbered some (place + 1) ≡ None
    → found ≡ map (name_in w) (take place some) → found ≡ map (name_in w) some
all_kept w some place found none so =
    let e : place + 1 ≡ suc place = omega arith in
    so ∙ ap (λ xs. map (name_in w) xs) (take_all place some (past some place (sym (ap (λ n. numbered some n) e) ∙ none)))
  where
    past : (xs : List Registration) (i : ℕ) → slice_get xs i ≡ None → length xs ≤ i
    past [] i none = omega arith
    past (x ∷ xs) zero none = absurd cc
    past (x ∷ xs) (suc i) none = let less = past xs i none in omega arith
