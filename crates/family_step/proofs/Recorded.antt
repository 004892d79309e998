-- What a decision record names, and that it fits.
use Rattle.std.proofs.Common.{◌≡◌, ◌≤◌, Bool, true, false, List, [], ◌∷◌, length, ap, arith, if◌then◌else◌}
use Rattle.std.specs.Prelude.{filter}
use Rattle.std.specs.List.{AllByRecursion}
use Rattle.decision_journal.specs.Layout.{FitsRegistration, FitsRegistrations}
use Rattle.decision_journal.specs.declared.record.Registration.{Registration}
use Rattle.coordinator.specs.Family.{Family}
use Rattle.coordinator.specs.Hearing.{decision_record, named}
use Rattle.family_rules.specs.Recording.{decides}

few_filtered : (t : Registration → Bool) (rs : List Registration) → length (filter t rs) ≤ length rs
few_filtered t [] = omega arith
few_filtered t (r ∷ rs) = by_test (t r) (few_filtered t rs)
  where
    by_test : (b : Bool) → length (filter t rs) ≤ length rs → length (if b then r ∷ filter t rs else filter t rs) ≤ length (r ∷ rs)
    by_test true few = omega (arith, few)
    by_test false few = omega (arith, few)

all_filtered : (t : Registration → Bool) (rs : List Registration) → AllByRecursion FitsRegistration rs → AllByRecursion FitsRegistration (filter t rs)
all_filtered t [] all = tt
all_filtered t (r ∷ rs) all = by_test (t r) (all_filtered t rs all.1)
  where
    by_test : (b : Bool) → AllByRecursion FitsRegistration (filter t rs) → AllByRecursion FitsRegistration (if b then r ∷ filter t rs else filter t rs)
    by_test true rest = (all.0, rest)
    by_test false rest = rest

pub fits_filtered : (t : Registration → Bool) (rs : List Registration) → FitsRegistrations rs → FitsRegistrations (filter t rs)
fits_filtered t rs fits = (let few = few_filtered t rs in let less = fits.0 in omega (arith, few, less), all_filtered t rs fits.1)

pub decided_by : (f : Family) (rs : List Registration) → rs ≡ named f.completion → decides f rs ≡ decision_record f
unfolding decision_record
decided_by f rs is = ap (λ (xs : List Registration). decides f xs) is
