-- Each registration's number is its place, so a look behind one begins at its place.
use Rattle.std.proofs.Common.{◌≡◌, refl, ap, sym, ℕ, ◌+◌, ◌≤◌, zero, suc, Bool, true, false, ◌&&◌, ◌==◌, List, [], ◌∷◌, ◌++◌, length, drop, find, Option, Some, arith}
use Rattle.std.specs.Prelude.{nat_lt}
use Rattle.std.specs.List.{slice_get}
use Rattle.std.specs.Option.{option_map_or}
use Rattle.std.proofs.lemmas.Bool.Decides.{nat_tests}
use Rattle.resource_votes.specs.Ballots.{is_aware_after}
use Rattle.resource_votes.specs.Numbers.{ArePlaces}
use Rattle.resource_votes.specs.VotesInside.{AreNumbered}
use Rattle.resource_votes.specs.declared.registration.Registration.{Registration}

pub numbered_more : (n : ℕ) (rs : List Registration) (r : Registration) → r.index ≡ n + length rs → AreNumbered n rs → AreNumbered n (rs ++ r ∷ [])
numbered_more n [] r is all = (omega (arith, is), tt)
numbered_more n (x ∷ rs) r is all = (all.0, numbered_more (n + 1) rs r (omega (arith, is)) all.1)

-- those before it are none of them
not_behind : (branch after : ℕ) (r : Registration) → r.index ≤ after → is_aware_after branch after r ≡ false
not_behind branch after r low = ends_false (r.aware && r.branch == branch) (nat_lt after r.index) (grind (arith, nat_tests))
  where
    ends_false : (a b : Bool) → b ≡ false → (a && b) ≡ false
    ends_false true b is = is
    ends_false false b is = refl

pub aware_behind : (n : ℕ) (rs : List Registration) (branch after k : ℕ) → AreNumbered n rs → n + k ≤ after + 1
    → find (is_aware_after branch after) (drop k rs) ≡ find (is_aware_after branch after) rs
aware_behind n rs branch after zero all few = refl
aware_behind n [] branch after (suc k) all few = refl
aware_behind n (r ∷ rs) branch after (suc k) all few =
    rw (not_behind branch after r (omega (arith, all.0, few))) (aware_behind (n + 1) rs branch after k all.1 (omega (arith, few)))

at_place : (n : ℕ) (rs : List Registration) (i : ℕ) (r : Registration) → AreNumbered n rs → slice_get rs i ≡ Some r → r.index ≡ n + i
at_place n [] i r all is = absurd (cc (is))
at_place n (x ∷ rs) zero r all is =
    let same : r.index ≡ x.index = ap (λ (o : Option Registration). option_map_or (λ (y : Registration). y.index) o 0) (sym is) in
    omega (arith, same, all.0)
at_place n (x ∷ rs) (suc i) r all is = let more = at_place (n + 1) rs i r all.1 is in omega (arith, more)

pub placed : (rs : List Registration) → AreNumbered 1 rs → ArePlaces rs
placed rs all zero r is = absurd (cc (is))
placed rs all (suc i) r is = let its = at_place 1 rs i r all is in omega (arith, its)
