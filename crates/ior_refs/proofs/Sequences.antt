-- Profiles and components, one after another.
use Rattle.std.proofs.Common.{◌≡◌, ℕ, ◌+◌, ◌<◌, ◌≤◌, arith, List, [], ◌∷◌, ◌++◌, length, get_or, take, drop, Bool, true, false, cond, Some, None, sym, ap, subst, ◌∙◌}
use Rattle.std.specs.Prelude.{find, Option}
use Rattle.std.specs.Option.{option_map}
use Rattle.std.specs.List.{flat_map}
use Rattle.std.proofs.lemmas.List.{append-nil, take-append-drop, take_all, take_more}
use Rattle.std.proofs.lemmas.Grind.{flat_map-append}
use Rattle.cdr_values.specs.declared.fault.CdrFault.{CdrFault}
use Rattle.cdr_values.specs.Value.{Value}
use Rattle.cdr_values.specs.Again.{AllFit}
use Rattle.cdr_values.specs.Writing.{Writing}
use Rattle.cdr_values.specs.Tagged.{tagged_values}
use Rattle.ior_refs.specs.Reference.{Tagged}
use Rattle.ior_refs.specs.Writing.{HasWritten, StopsIn}
use Rattle.ior_refs.proofs.Values.{fit-append, fit_front, fit_behind, wrote_more, stops_more, stops_behind}

-- the values of one more
pub one_more : (all : List Tagged) (i : ℕ) (x : Tagged) → i < length all → x ≡ get_or all i x → flat_map tagged_values (take (i + 1) all) ≡ flat_map tagged_values (take i all) ++ tagged_values x
one_more all i x lt is =
    ap (flat_map tagged_values) (take_more all i x lt ∙ ap (λ (y : Tagged). take i all ++ y ∷ []) (sym is)) ∙ flat_map-append tagged_values (take i all) (x ∷ []) ∙ ap (λ (y : List Value). flat_map tagged_values (take i all) ++ y) (append-nil (tagged_values x))

-- the values of all are those of some and those of the others
pub all_split : (all : List Tagged) (n : ℕ) → flat_map tagged_values all ≡ flat_map tagged_values (take n all) ++ flat_map tagged_values (drop n all)
all_split all n = ap (flat_map tagged_values) (sym (take-append-drop n all)) ∙ flat_map-append tagged_values (take n all) (drop n all)

-- where the values of all fit, those of each do
pub one_fits : (all : List Tagged) (i : ℕ) (x : Tagged) → i < length all → x ≡ get_or all i x → AllFit (flat_map tagged_values all) → AllFit (tagged_values x)
one_fits all i x lt is fit =
    let front = fit_front (flat_map tagged_values (take (i + 1) all)) (flat_map tagged_values (drop (i + 1) all)) (subst AllFit (all_split all (i + 1)) fit) in
    fit_behind (flat_map tagged_values (take i all)) (tagged_values x) (subst AllFit (one_more all i x lt is) front)

-- one more is written
pub goes_on : (w now new : Writing) (all : List Tagged) (i : ℕ) (x : Tagged) → i < length all → x ≡ get_or all i x
    → HasWritten (flat_map tagged_values (take i all)) w now → HasWritten (tagged_values x) now new → HasWritten (flat_map tagged_values (take (i + 1) all)) w new
goes_on w now new all i x lt is so_far more =
    subst (λ (vs : List Value). HasWritten vs w new) (sym (one_more all i x lt is)) (wrote_more (flat_map tagged_values (take i all)) (tagged_values x) w now new so_far more)

-- a writer that stops in one of them stops in all of them
pub stops : (fault : CdrFault) (w now new : Writing) (all : List Tagged) (i : ℕ) (x : Tagged) → i < length all → x ≡ get_or all i x
    → HasWritten (flat_map tagged_values (take i all)) w now → StopsIn (tagged_values x) fault now new → StopsIn (flat_map tagged_values all) fault w new
stops fault w now new all i x lt is so_far h =
    let more = stops_behind (flat_map tagged_values (take i all)) (tagged_values x) fault w now new so_far h in
    let here = subst (λ (vs : List Value). StopsIn vs fault w new) (sym (one_more all i x lt is)) more in
    subst (λ (vs : List Value). StopsIn vs fault w new) (sym (all_split all (i + 1))) (stops_more (flat_map tagged_values (take (i + 1) all)) (flat_map tagged_values (drop (i + 1) all)) fault w new here)

-- behind the last one, all are written
pub all_written : (w now : Writing) (all : List Tagged) (i : ℕ) → length all ≤ i → HasWritten (flat_map tagged_values (take i all)) w now → HasWritten (flat_map tagged_values all) w now
all_written w now all i le h = subst (λ (xs : List Tagged). HasWritten (flat_map tagged_values xs) w now) (take_all i all le) h

-- the values of one more fit
pub all_fit_more : (all : List Tagged) (x : Tagged) → AllFit (flat_map tagged_values all) → AllFit (tagged_values x) → AllFit (flat_map tagged_values (all ++ x ∷ []))
all_fit_more all x fit one =
    let whole : flat_map tagged_values (all ++ x ∷ []) ≡ flat_map tagged_values all ++ tagged_values x = flat_map-append tagged_values all (x ∷ []) ∙ ap (λ (y : List Value). flat_map tagged_values all ++ y) (append-nil (tagged_values x)) in
    subst AllFit (sym whole) (fit-append (flat_map tagged_values all) (tagged_values x) fit one)

-- where the values of all fit, those of the one that is found do
pub found_fits : (test : Tagged → Bool) (all : List Tagged) (x : Tagged) → find test all ≡ Some x → AllFit (flat_map tagged_values all) → AllFit (tagged_values x)
found_fits test [] x e fit = absurd cc
found_fits test (y ∷ all) x e fit = by_test (test y) (find test all) y all x e fit (λ f. found_fits test all x f (fit_behind (tagged_values y) (flat_map tagged_values all) fit)) where
  by_test : (b : Bool) (found : Option Tagged) (y : Tagged) (all : List Tagged) (x : Tagged) → cond b (Some y) found ≡ Some x → AllFit (flat_map tagged_values (y ∷ all)) → (found ≡ Some x → AllFit (tagged_values x)) → AllFit (tagged_values x)
  by_test true found y all x e fit others = let same : y ≡ x = cc in subst (λ (z : Tagged). AllFit (tagged_values z)) same (fit_front (tagged_values y) (flat_map tagged_values all) fit)
  by_test false found y all x e fit others = others e

-- the octets of the first profile with a tag are few
pub first_short : (test : Tagged → Bool) (all : List Tagged) (found : Option Tagged) (octets : List ℕ) → find test all ≡ found → option_map (λ (tagged : Tagged). tagged.1) found ≡ Some octets → AllFit (flat_map tagged_values all) → length octets ≤ 65536
first_short test all None octets e f fit = absurd cc
first_short test all (Some x) octets e f fit =
    let same : x.1 ≡ octets = cc in
    let fits = found_fits test all x e fit in
    omega (arith, fits.1.0, ap length same)
