-- References are read exactly where their values stand.
use Rattle.std.proofs.Common.{◌≡◌, ℕ, ◌+◌, ◌≤◌, Bool, true, false, cond, ltb, leb, List, [], ◌∷◌, ◌++◌, length, Result, Ok, Err, refl, sym, ap, subst, ◌∙◌, arith}
use Rattle.std.specs.List.{flat_map}
use Rattle.std.proofs.lemmas.Bool.{ltb-false, le-leb, leb-true}
use Rattle.cdr_values.specs.declared.order.Order.TheVariants.{Big}
use Rattle.cdr_values.specs.Reading.{Reading, ◌>>=◌}
use Rattle.cdr_values.specs.Again.{standing, ValuesAreReadAgain}
use Rattle.cdr_values.specs.Values.{ReadsAll, ValuesAreWrittenCanonically, canonical_all}
use Rattle.cdr_values.specs.Writing.{Writing, place_of}
use Rattle.cdr_values.specs.Tagged.{TaggedLaws, reference_at, reference_values, tagged_values}
use Rattle.ior_refs.specs.Limits.{count_limit}
use Rattle.ior_refs.specs.Reference.{Reference, Tagged, is_short, canonical_octets}
use Rattle.ior_refs.specs.Fault.{fault_of, too_many}
use Rattle.ior_refs.specs.Reading.{if_short, short_reference_at}
use Rattle.ior_refs.specs.Laws.{ReferencesAreReadExactly, ReferencesAreReadAgain, ReferencesAreReadWhereWritten, SameOctetsSameReference}
use Rattle.ior_refs.specs.declared.fault.IorFault.{IorFault}
use Rattle.ior_refs.specs.declared.fault.IorFault.TheVariants.{TooLong}
use Rattle.ior_refs.proofs.Short.{short}
use Rattle.ior_refs.proofs.Made.{least, all_at_least}

-- a result that holds a value
abbrev done : {F A : Type 0} → A → Result A F
done x = Ok x

-- results that are equal hold equal values
pub ok_is : {F A : Type 0} (x y : A) → done {F = F} x ≡ done y → x ≡ y
ok_is x y e = cc

-- the value of a step that did not fail
pub bind_ok : {F A B : Type 0} (r : Result A F) (f : A → Result B F) (y : B) → (r >>= f) ≡ Ok y → (x : A) × (r ≡ Ok x) × (f x ≡ Ok y)
bind_ok (Ok x) f y e = (x, refl, e)
bind_ok (Err d) f y e = absurd cc

-- a test that did not fail
pub guard_ok : {F A : Type 0} (b : Bool) (d : F) (r : Result A F) (y : A) → cond b (Err d) r ≡ Ok y → (b ≡ false) × (r ≡ Ok y)
guard_ok true d r y e = absurd cc
guard_ok false d r y e = (refl, e)

-- how many octets profiles have at least
tagged_least : (all : List Tagged) → length all ≤ least Big (flat_map tagged_values all)
tagged_least [] = omega arith
tagged_least (x ∷ all) = omega (arith, tagged_least all)

-- a short reference has few profiles
few_profiles : (x : Reference) → length x.1 ≤ length (canonical_octets x)
unfolding canonical_octets
few_profiles x = omega (arith, all_at_least Big 0 (reference_values x), tagged_least x.1)

short_is : (place : ℕ) (x y : Reference) → if_short place x ≡ Ok y → (x ≡ y) × (is_short x ≡ true)
unfolding if_short
short_is place x y e =
    let g = guard_ok (ltb 1024 (length (canonical_octets x))) (TooLong place) (Ok x) y e in
    (ok_is {F = IorFault} x y g.1, le-leb (length (canonical_octets x)) 1024 (ltb-false _ _ g.0))

found : TaggedLaws IorFault → (r : Reading) (x : Reference) (behind : Reading) → short_reference_at r ≡ Ok (x, behind) → ReadsAll r (reference_values x) behind × (is_short x ≡ true)
unfolding short_reference_at
found laws r x behind e =
    let law = laws.reference count_limit fault_of too_many in
    let a = bind_ok (reference_at count_limit fault_of too_many r) (λ found. if_short r.place found.0 >>= λ reference. Ok (reference, found.1)) (x, behind) e in
    let b = bind_ok (if_short r.place a.0.0) (λ reference. Ok (reference, a.0.1)) (x, behind) a.2 in
    let s = short_is r.place a.0.0 b.0 b.1 in
    let stand : ReadsAll r (reference_values a.0.0) a.0.1 × (is_short a.0.0 ≡ true) = ((law.found r a.0.0 a.0.1 a.1).0, s.1) in
    let pair : (a.0.0, a.0.1) ≡ (x, behind) = ap (λ (y : Reference). (y, a.0.1)) s.0 ∙ ok_is {F = IorFault} (b.0, a.0.1) (x, behind) b.2 in
    subst (λ (p : Reference × Reading). ReadsAll r (reference_values p.0) p.1 × (is_short p.0 ≡ true)) pair stand

only : TaggedLaws IorFault → (r : Reading) (x : Reference) (behind : Reading) → ReadsAll r (reference_values x) behind → is_short x ≡ true → short_reference_at r ≡ Ok (x, behind)
unfolding short_reference_at
only laws r x behind h few =
    let law = laws.reference count_limit fault_of too_many in
    let size : length (canonical_octets x) ≤ 1024 = leb-true _ _ few in
    let allowed : leb (length x.1) 65536 ≡ true = le-leb (length x.1) 65536 (omega (arith, size, few_profiles x)) in
    rw (law.only r x behind h allowed, short r.place x size) refl

pub short_exact : TaggedLaws IorFault → ReferencesAreReadExactly
short_exact laws = record {
  found = λ r x behind e. found laws r x behind e;
  only = λ r x behind h few. only laws r x behind h few;
}

pub read_again : ReferencesAreReadExactly → ValuesAreReadAgain → ReferencesAreReadAgain
read_again exact again order at reference more is =
    exact.only (standing order at (canonical_all order at (reference_values reference) ++ more)) reference (standing order (at + length (canonical_all order at (reference_values reference))) more)
    (again order at (reference_values reference) more is.fits) (le-leb _ _ is.short)

pub read_where_written : ReferencesAreReadAgain → ValuesAreWrittenCanonically → ReferencesAreReadWhereWritten
read_where_written again written w reference more is =
    let values = reference_values reference in
    (canonical_all w.order (place_of w) values, ap (λ (x : Writing). x.octets) (written w values), again w.order (place_of w) reference more is)

pub same_reference : ReferencesAreReadAgain → SameOctetsSameReference
unfolding canonical_octets
same_reference again a b ia ib e =
    let one = again Big 0 a [] ia in
    let other = again Big 0 b [] ib in
    let both = sym one ∙ ap (λ (xs : List ℕ). short_reference_at (standing Big 0 (xs ++ []))) e ∙ other in
    ap (λ (p : Reference × Reading). p.0) (ok_is {F = IorFault} (a, standing Big (0 + length (canonical_octets a)) []) (b, standing Big (0 + length (canonical_octets b)) []) both)
