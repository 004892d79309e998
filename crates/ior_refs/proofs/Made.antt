-- The reference that is made for an object, and why none is.
use Rattle.std.proofs.Common.{◌≡◌, ℕ, ◌+◌, ◌<◌, ◌≤◌, ◌⊎◌, inl, inr, Bool, true, false, cond, ltb, Some, None, List, [], ◌∷◌, ◌++◌, length, refl, ap, arith, length-append, Result, Ok, Err, replicate}
use Rattle.std.specs.Prelude.{IsOk, IfOk, IfErr}
use Rattle.std.specs.Option.{option_or}
use Rattle.std.proofs.lemmas.Bool.{lt-ltb, ltb-false}
use Rattle.cdr_values.specs.declared.order.Order.{Order}
use Rattle.cdr_values.specs.declared.order.Order.TheVariants.{Big}
use Rattle.cdr_values.specs.declared.fault.CdrFault.TheVariants.{BadString}
use Rattle.cdr_values.specs.Value.{Value, OctetSequence, Text, alignment, bare_of, canonical, gap, octets_of, has_nul}
use Rattle.cdr_values.specs.Again.{AllFit}
use Rattle.cdr_values.specs.Values.{canonical_all, with_values}
use Rattle.cdr_values.specs.Encapsulation.{begun}
use Rattle.cdr_values.specs.Writing.{Writing}
use Rattle.cdr_values.specs.Tagged.{reference_values}
use Rattle.ots_model.specs.declared.service.Endpoint.{Endpoint}
use Rattle.ior_refs.specs.Reference.{Reference, canonical_octets}
use Rattle.ior_refs.specs.Fault.{Finds}
use Rattle.ior_refs.specs.Reading.{if_short}
use Rattle.ior_refs.specs.Iiop.{iiop_values}
use Rattle.ior_refs.specs.Making.{iiop_to, profile_to, reference_to, refusal_to}
use Rattle.ior_refs.specs.declared.fault.IorFault.{IorFault}
use Rattle.ior_refs.specs.declared.fault.IorFault.TheVariants.{Cdr, TooLong, Memory}
use Rattle.ior_refs.specs.declared.key.ObjectKey.{ObjectKey}
use Rattle.ior_refs.proofs.Faults.{fails_is}
use Rattle.ior_refs.proofs.Short.{with_values-is}
use Rattle.ior_refs.proofs.Room.{profile_short}

-- the host holds a NUL
pub host_refused : (type_id : List ℕ) (at : Endpoint) (key : ObjectKey) → has_nul type_id ≡ false → has_nul at.host ≡ true → refusal_to type_id at key ≡ Some (Cdr (BadString 3))
host_refused type_id at key p q = rw (p, q) refl

-- it would be too long
pub long_refused : (type_id : List ℕ) (at : Endpoint) (key : ObjectKey) → has_nul type_id ≡ false → has_nul at.host ≡ false → 1024 < length (canonical_octets (reference_to type_id at key)) → refusal_to type_id at key ≡ Some (TooLong 0)
long_refused type_id at key p q h = rw (p, q, lt-ltb _ _ h) refl

-- how many octets values have at least
abbrev pub least : Order → List Value → ℕ
least order [] = 0
least order (v ∷ vs) = length (bare_of order v) + least order vs

pub all_at_least : (order : Order) (at : ℕ) (values : List Value) → least order values ≤ length (canonical_all order at values)
all_at_least order at [] = omega arith
all_at_least order at (v ∷ vs) =
    let one = canonical order at v in
    let padding : List ℕ = replicate (gap (alignment v) at) 0 in
    let rest = all_at_least order (at + length one) vs in
    omega (arith, rest, length-append one (canonical_all order (at + length one) vs), length-append padding (bare_of order v))

text_at_least : (text : List ℕ) → length text ≤ length (bare_of Big (Text text))
text_at_least text = omega (arith, length-append (octets_of Big 4 (length text + 1)) (text ++ 0 ∷ []), length-append text (0 ∷ []))

host_in_profile : (at : Endpoint) (key : ObjectKey) → length at.host ≤ length (profile_to at key)
unfolding profile_to
host_in_profile at key =
    let values = iiop_values (iiop_to at key) [] in
    let size : length (with_values (begun Big) values).octets ≡ length ((begun Big).octets ++ canonical_all Big 1 values) = ap (λ (x : Writing). length x.octets) (with_values-is (begun Big) values) in
    omega (arith, size, all_at_least Big 1 values, text_at_least at.host, length-append (begun Big).octets (canonical_all Big 1 values))

-- a reference has the octets of its texts
pub texts_in_reference : (type_id : List ℕ) (at : Endpoint) (key : ObjectKey) → length type_id + length at.host ≤ length (canonical_octets (reference_to type_id at key))
unfolding canonical_octets
texts_in_reference type_id at key =
    let octets = profile_to at key in
    let counted : length octets ≤ length (bare_of Big (OctetSequence octets)) = omega (arith, length-append (octets_of Big 4 (length octets)) octets) in
    omega (arith, all_at_least Big 0 (reference_values (reference_to type_id at key)), text_at_least type_id, counted, host_in_profile at key)

-- a long text makes it too long
pub texts_refused : (type_id : List ℕ) (at : Endpoint) (key : ObjectKey) → has_nul type_id ≡ false → has_nul at.host ≡ false → 1024 < length type_id + length at.host → refusal_to type_id at key ≡ Some (TooLong 0)
texts_refused type_id at key p q h = long_refused type_id at key p q (omega (arith, h, texts_in_reference type_id at key))

-- its values fit
pub made_fits : (type_id : List ℕ) (at : Endpoint) (key : ObjectKey) → has_nul type_id ≡ false → length type_id ≤ 1024 → length at.host ≤ 1024 → AllFit (reference_values (reference_to type_id at key))
unfolding profile_to
made_fits type_id at key p few short =
    let profile : length (profile_to at key) ≤ 65536 = omega (arith, profile_short at key short) in
    ((omega arith, p), (omega arith, (omega arith, (profile, tt))))

-- what a call answers that keeps it
abbrev pub Makes : List ℕ → Endpoint → ObjectKey → Result Reference IorFault → Type 0
Makes type_id at key result =
    IfOk result (λ o. o ≡ reference_to type_id at key) × (IsOk result → refusal_to type_id at key ≡ None)
    × IfErr result (λ fault. (fault ≡ Memory) ⊎ (refusal_to type_id at key ≡ Some fault))

-- a reference that is too long
abbrev is_long : Result Reference IorFault
is_long = Err (TooLong 0)

by_length : (b : Bool) (reference : Reference) (result : Result Reference IorFault) → Finds (λ o. o) result (cond b (Err (TooLong 0)) (Ok reference))
    → IfOk result (λ o. o ≡ reference) × (IsOk result → cond b (Some (TooLong 0)) None ≡ None) × IfErr result (λ fault. (fault ≡ Memory) ⊎ (cond b (Some (TooLong 0)) None ≡ Some fault))
by_length true reference (Ok o) h = absurd cc
by_length true reference (Err fault) h =
    let is : (fault ≡ Memory) ⊎ (Some (TooLong 0) ≡ Some fault) = elim (fails_is fault is_long h) [ inl memory ↦ inl memory | inr e ↦ inr cc ] in
    (tt, λ ok. absurd cc, is)
by_length false reference (Ok o) h = (cc, λ ok. refl, tt)
by_length false reference (Err fault) h =
    let is : (fault ≡ Memory) ⊎ (None ≡ Some fault) = elim (fails_is fault (Ok reference) h) [ inl memory ↦ inl memory | inr e ↦ absurd cc ] in
    (tt, λ ok. absurd cc, is)

pub made : (type_id : List ℕ) (at : Endpoint) (key : ObjectKey) (result : Result Reference IorFault) → has_nul type_id ≡ false → has_nul at.host ≡ false → Finds (λ o. o) result (if_short 0 (reference_to type_id at key)) → Makes type_id at key result
unfolding if_short
made type_id at key result p q h = rw (p, q) (by_length (ltb 1024 (length (canonical_octets (reference_to type_id at key)))) (reference_to type_id at key) result h)

-- a reference that isn't refused has a host without a NUL, and few octets
pub not_refused : (type_id : List ℕ) (at : Endpoint) (key : ObjectKey) → refusal_to type_id at key ≡ None → (has_nul at.host ≡ false) × (length at.host ≤ 1024)
not_refused type_id at key e =
    let long = ltb 1024 (length (canonical_octets (reference_to type_id at key))) in
    let tests = by_tests (has_nul type_id) (has_nul at.host) long e in
    (tests.0, omega (arith, ltb-false _ _ tests.1, texts_in_reference type_id at key)) where
      by_tests : (a b c : Bool) → option_or (cond a (Some (Cdr (BadString 0))) (cond b (Some (Cdr (BadString 3))) None)) (cond c (Some (TooLong 0)) None) ≡ None → (b ≡ false) × (c ≡ false)
      by_tests true b c e = absurd cc
      by_tests false true c e = absurd cc
      by_tests false false true e = absurd cc
      by_tests false false false e = (refl, refl)
