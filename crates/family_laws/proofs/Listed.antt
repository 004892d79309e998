-- Who is in the list of some branch stays in one.
use Rattle.std.proofs.Common.{◌≡◌, ◌≢◌, inl, inr, ℕ, ◌+◌, ◌<◌, zero, suc, List, [], ◌∷◌, ◌++◌, length, Bool, Contains, refl, ap, sym, subst, ◌∙◌, arith}
use Rattle.std.proofs.lemmas.Grind.{common_steps}
use Rattle.std.proofs.lemmas.List.{get_or-set_other}
use Rattle.std.proofs.lemmas.List.Elements.{filter_map-append, Contains-append_left, Contains-append_right}
use Rattle.std.specs.Prelude.{slice_set}
use Rattle.std.specs.List.{AllByRecursion, filter_map}
use Rattle.resource_votes.specs.Ballots.{Ballots, numbered, participants, adopted, registered, registered_aware}
use Rattle.resource_votes.specs.Lists.{list_at}
use Rattle.resource_votes.specs.declared.registration.Registration.{Registration}
use Rattle.family_laws.specs.Sound.{IsListed}
use Rattle.family_laws.proofs.Lists.{AllNumbers, new_one, all_map, also_last, aware_same, registered_elsewhere}
use Rattle.family_laws.proofs.Trees.{same_or_not}

-- ---- each of a list is in it

all_in : (xs : List Registration) → AllByRecursion (Contains xs) xs
all_in [] = tt
all_in (x ∷ xs) = ((0, omega arith, refl), all_map (Contains xs) (Contains (x ∷ xs)) later xs (all_in xs))
  where
    later : (y : Registration) → Contains xs y → Contains (x ∷ xs) y
    later y h = let l = h.1 in (suc h.0, omega (arith, l), h.2)

pub all_listed : (b : ℕ) (some : Ballots) → AllByRecursion (IsListed some) (participants b some)
all_listed b some =
    all_map (Contains (participants b some)) (IsListed some) (λ r h. record { branch = b; there = h }) (participants b some) (all_in (participants b some))

-- ---- lists that are set

set_here : (lists : List (List ℕ)) (b : ℕ) (xs : List ℕ) → b < length lists → list_at (slice_set lists b xs) b ≡ xs
set_here [] b xs k = absurd (omega (arith, k))
set_here (y ∷ lists) zero xs k = refl
set_here (y ∷ lists) (suc b) xs k = set_here lists b xs (omega (arith, k))

as_long : (lists : List (List ℕ)) (b : ℕ) (xs : List ℕ) → length (slice_set lists b xs) ≡ length lists
as_long lists b xs = grind (arith, common_steps)

-- a branch has a list, where somebody is in it
has_list : (some : Ballots) (b : ℕ) (r : Registration) → Contains (participants b some) r → b < length some.lists
has_list some b r h = go some.lists b h
  where
    go : (lists : List (List ℕ)) (b : ℕ) → Contains (filter_map (numbered some.registrations) (list_at lists b)) r → b < length lists
    go [] b h = let l = h.1 in absurd (omega (arith, l))
    go (x ∷ lists) zero h = omega arith
    go (x ∷ lists) (suc b) h = let k = go lists b h in omega (arith, k)

-- ---- a commit hands a list to the parent

adopted_at : (some : Ballots) (child parent : ℕ) → parent < length some.lists → participants parent (adopted child parent some) ≡ participants parent some ++ participants child some
adopted_at some child parent k =
    let l = as_long some.lists child [] in
    ap (λ (xs : List ℕ). filter_map (numbered some.registrations) xs)
    (set_here (slice_set some.lists child []) parent (list_at some.lists parent ++ list_at some.lists child) (omega (arith, k, l)))
    ∙ filter_map-append (numbered some.registrations) (list_at some.lists parent) (list_at some.lists child)

adopted_elsewhere : (some : Ballots) (child parent b : ℕ) → b ≢ parent → b ≢ child → participants b (adopted child parent some) ≡ participants b some
adopted_elsewhere some child parent b o u =
    ap (λ (xs : List ℕ). filter_map (numbered some.registrations) xs)
    (get_or-set_other (slice_set some.lists child []) parent b (list_at some.lists parent ++ list_at some.lists child) [] o
    ∙ get_or-set_other some.lists child b [] [] u)

pub adopted_listed : (some : Ballots) (child parent : ℕ) → parent < child → (r : Registration) → IsListed some r → IsListed (adopted child parent some) r
adopted_listed some child parent under r h =
    elim (same_or_not h.branch child) [
      | inl e ↦ of_child (subst (λ (b : ℕ). Contains (participants b some) r) e h.there)
      | inr u ↦
          elim (same_or_not h.branch parent) [
            | inl e ↦ of_parent (subst (λ (b : ℕ). Contains (participants b some) r) e h.there)
            | inr o ↦ record { branch = h.branch; there = subst (λ (rs : List Registration). Contains rs r) (sym (adopted_elsewhere some child parent h.branch o u)) h.there }
          ]
    ]
  where
    joined : parent < length some.lists → Contains (participants parent some ++ participants child some) r → IsListed (adopted child parent some) r
    joined k c = record { branch = parent; there = subst (λ (rs : List Registration). Contains rs r) (sym (adopted_at some child parent k)) c }

    of_parent : Contains (participants parent some) r → IsListed (adopted child parent some) r
    of_parent c = joined (has_list some parent r c) (Contains-append_left (participants parent some) (participants child some) r c)

    of_child : Contains (participants child some) r → IsListed (adopted child parent some) r
    of_child c =
        let k = has_list some child r c in
        joined (omega (arith, k, under)) (Contains-append_right (participants parent some) (participants child some) r c)

-- ---- a registration

pub registered_at : (some : Ballots) (branch : ℕ) (to : List ℕ) (aware : Bool) → branch < length some.lists → AllNumbers some
    → participants branch (registered branch to aware some) ≡ participants branch some ++ new_one branch to aware some ∷ []
registered_at some branch to aware k all =
    let r : Registration = new_one branch to aware some in
    ap (λ (xs : List ℕ). filter_map (numbered (some.registrations ++ r ∷ [])) xs)
    (set_here some.lists branch (list_at some.lists branch ++ (length some.registrations + 1) ∷ []) k)
    ∙ also_last some.registrations r (list_at some.lists branch) (all branch)

pub registered_listed : (some : Ballots) (branch : ℕ) (to : List ℕ) (aware : Bool) → AllNumbers some → (r : Registration) → IsListed some r → IsListed (registered branch to aware some) r
registered_listed some branch to aware all r h =
    elim (same_or_not h.branch branch) [
      | inl e ↦ here (subst (λ (b : ℕ). Contains (participants b some) r) e h.there)
      | inr o ↦ record { branch = h.branch; there = subst (λ (rs : List Registration). Contains rs r) (sym (registered_elsewhere some branch to aware h.branch o all)) h.there }
    ]
  where
    here : Contains (participants branch some) r → IsListed (registered branch to aware some) r
    here c = record {
      branch = branch;
      there = subst (λ (rs : List Registration). Contains rs r) (sym (registered_at some branch to aware (has_list some branch r c) all))
          (Contains-append_left (participants branch some) (new_one branch to aware some ∷ []) r c);
    }

pub aware_listed : (some : Ballots) (branch : ℕ) (to : List ℕ) → AllNumbers some → (r : Registration) → IsListed some r → IsListed (registered_aware branch to some) r
aware_listed some branch to all r h =
    record { branch = h.branch; there = subst (λ (rs : List Registration). Contains rs r) (sym (aware_same some branch to h.branch all)) h.there }
