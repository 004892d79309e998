-- Who is in the lists of a family once a resource is registered with it, or one that is told of the end of a subtransaction alone.
use Rattle.std.proofs.Common.{◌≡◌, ◌≢◌, ◌⊎◌, inl, inr, ℕ, ◌<◌, Bool, List, [], ◌∷◌, length, Contains, refl, sym, subst, arith}
use Rattle.std.proofs.lemmas.List.Elements.{Contains-append_left, Contains-append_right, Contains-push_cases}
use Rattle.resource_votes.specs.Ballots.{Ballots, participants, registered, registered_aware}
use Rattle.resource_votes.specs.declared.registration.Registration.{Registration}
use Rattle.coordinator.specs.Family.{Family}
use Rattle.family_laws.specs.Sound.{IsSoundFamily}
use Rattle.family_laws.proofs.Lists.{AllNumbers, aware_same, new_one, registered_elsewhere}
use Rattle.family_laws.proofs.Listed.{registered_at}

same_or_not : (a b : ℕ) → (a ≡ b) ⊎ (a ≢ b)
same_or_not a b = grind arith

-- a branch that is there has its list
pub has_list : (f : Family) (b : ℕ) → IsSoundFamily f → b < length f.rows → b < length f.ballots.lists
has_list f b sound less = let room = sound.lists.room in let few = sound.lists.few in omega (arith, less, room, few)

pub lists_on : (some : Ballots) (b : ℕ) (to : List ℕ) (aware : Bool) → b < length some.lists → AllNumbers some → (d : ℕ) (r : Registration)
    → Contains (participants d some) r → Contains (participants d (registered b to aware some)) r
lists_on some b to aware there all d r among = elim (same_or_not d b) [
  | inl here ↦ subst (λ (x : ℕ). Contains (participants x (registered b to aware some)) r) (sym here)
      (subst (λ (rs : List Registration). Contains rs r) (sym (registered_at some b to aware there all))
      (Contains-append_left (participants b some) (new_one b to aware some ∷ []) r (subst (λ (x : ℕ). Contains (participants x some) r) here among)))
  | inr other ↦ subst (λ (rs : List Registration). Contains rs r) (sym (registered_elsewhere some b to aware d other all)) among
]

pub lists_cases : (some : Ballots) (b : ℕ) (to : List ℕ) (aware : Bool) → b < length some.lists → AllNumbers some → (d : ℕ) (r : Registration)
    → Contains (participants d (registered b to aware some)) r → Contains (participants d some) r ⊎ (r ≡ new_one b to aware some)
lists_cases some b to aware there all d r among = elim (same_or_not d b) [
  | inl here ↦ elim (Contains-push_cases (participants b some) (new_one b to aware some) r
      (subst (λ (rs : List Registration). Contains rs r) (registered_at some b to aware there all)
      (subst (λ (x : ℕ). Contains (participants x (registered b to aware some)) r) here among))) [
        | inl was ↦ inl (subst (λ (x : ℕ). Contains (participants x some) r) (sym here) was)
        | inr new ↦ inr (sym new)
      ]
  | inr other ↦ inl (subst (λ (rs : List Registration). Contains rs r) (registered_elsewhere some b to aware d other all) among)
]

pub lists_new : (some : Ballots) (b : ℕ) (to : List ℕ) (aware : Bool) → b < length some.lists → AllNumbers some
    → Contains (participants b (registered b to aware some)) (new_one b to aware some)
lists_new some b to aware there all =
    subst (λ (rs : List Registration). Contains rs (new_one b to aware some)) (sym (registered_at some b to aware there all))
    (Contains-append_right (participants b some) (new_one b to aware some ∷ []) (new_one b to aware some) (0, omega arith, refl))

pub aware_on : (some : Ballots) (b : ℕ) (to : List ℕ) → AllNumbers some → (d : ℕ) (r : Registration)
    → Contains (participants d some) r → Contains (participants d (registered_aware b to some)) r
aware_on some b to all d r among = subst (λ (rs : List Registration). Contains rs r) (sym (aware_same some b to d all)) among

pub aware_back : (some : Ballots) (b : ℕ) (to : List ℕ) → AllNumbers some → (d : ℕ) (r : Registration)
    → Contains (participants d (registered_aware b to some)) r → Contains (participants d some) r
aware_back some b to all d r among = subst (λ (rs : List Registration). Contains rs r) (aware_same some b to d all) among
