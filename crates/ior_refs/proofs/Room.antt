-- The octets of the profile that is made for an object.
use Rattle.std.proofs.Common.{◌≡◌, ℕ, ◌+◌, ◌-◌, ◌≤◌, ◌%◌, ◌⊎◌, inl, inr, false, Some, Result, Ok, Err, List, [], ◌∷◌, ◌++◌, length, sym, ap, ◌∙◌, arith, length-append, replicate}
use Rattle.std.specs.Prelude.{IfErr, OnOk}
use Rattle.std.proofs.lemmas.List.{length-replicate}
use Rattle.cdr_values.specs.declared.order.Order.{Order}
use Rattle.cdr_values.specs.declared.order.Order.TheVariants.{Big}
use Rattle.cdr_values.specs.declared.fault.CdrFault.{CdrFault}
use Rattle.cdr_values.specs.declared.fault.CdrFault.TheVariants as cdr
use Rattle.cdr_values.specs.Value.{Value, Octet, UShort, Text, alignment, bare_of, canonical, gap, octets_of}
use Rattle.cdr_values.specs.Values.{canonical_all, with_values}
use Rattle.cdr_values.specs.Encapsulation.{begun}
use Rattle.cdr_values.specs.Writing.{Writing, WritesValue, with_value, is_bad, refusal}
use Rattle.ots_model.specs.declared.service.Endpoint.{Endpoint}
use Rattle.ior_refs.specs.Iiop.{iiop_values}
use Rattle.ior_refs.specs.Making.{iiop_to}
use Rattle.ior_refs.specs.declared.key.ObjectKey.{ObjectKey}
use Rattle.ior_refs.proofs.Values.{with_values-append}
use Rattle.ior_refs.proofs.Short.{with_values-is, full_if, grows}

-- how many octets values have at most, with padding
abbrev total : Order → List Value → ℕ
total order [] = 0
total order (v ∷ vs) = alignment v + length (bare_of order v) + total order vs

gap_small : (n at : ℕ) → gap n at ≤ n
gap_small n at = omega (arith, mod_small (n - at % n) n) where
  mod_small : (a n : ℕ) → a % n ≤ a
  mod_small a n = omega arith

all_at_most : (order : Order) (at : ℕ) (values : List Value) → length (canonical_all order at values) ≤ total order values
all_at_most order at [] = omega arith
all_at_most order at (v ∷ vs) =
    let one = canonical order at v in
    let padding : List ℕ = replicate (gap (alignment v) at) 0 in
    let rest = all_at_most order (at + length one) vs in
    omega (arith, rest, gap_small (alignment v) at, length-append one (canonical_all order (at + length one) vs), length-append padding (bare_of order v), length-replicate {A = ℕ} (gap (alignment v) at) 0)

-- its values
abbrev values : Endpoint → ObjectKey → List Value
values at key = iiop_values (iiop_to at key) []

-- it has few octets
pub profile_short : (at : Endpoint) (key : ObjectKey) → length at.host ≤ 1024 → length (with_values (begun Big) (values at key)).octets ≤ 2048
profile_short at key h =
    let size : length (with_values (begun Big) (values at key)).octets ≡ length ((begun Big).octets ++ canonical_all Big 1 (values at key)) = ap (λ (x : Writing). length x.octets) (with_values-is (begun Big) (values at key)) in
    let text : length (bare_of Big (Text at.host)) ≡ 4 + (length at.host + 1) = omega (arith, length-append (octets_of Big 4 (length at.host + 1)) (at.host ++ 0 ∷ []), length-append at.host (0 ∷ [])) in
    omega (arith, size, all_at_most Big 1 (values at key), text, length-append (begun Big).octets (canonical_all Big 1 (values at key)))

-- a writer that has room refuses no value
pub has_room : (value : Value) (others : List Value) (fault : CdrFault) (w whole : Writing) → is_bad value ≡ false → with_values w (value ∷ others) ≡ whole → length whole.octets ≤ 2048 → (fault ≡ cdr.Memory) ⊎ (refusal w value ≡ Some fault) → fault ≡ cdr.Memory
has_room value others fault w whole good is small (inl memory) = memory
has_room value others fault w whole good is small (inr refused) =
    let many = full_if value fault w good refused in
    let size = ap (λ (x : Writing). length x.octets) is in
    absurd (omega (arith, many, size, small, grows (with_value w value) others))

-- the last value is written, or memory is wanted
pub last_written : (value : Value) (result : Result (Unit {0}) CdrFault) (w new before : Writing) → is_bad value ≡ false → w ≡ before → length (with_value before value).octets ≤ 2048
    → WritesValue value result w new → OnOk result (new ≡ with_value before value) × IfErr result (λ fault. fault ≡ cdr.Memory)
last_written value (Ok nothing) w new before good is small h = (h.ok ∙ ap (λ (x : Writing). with_value x value) is, tt)
last_written value (Err fault) w new before good is small h =
    (tt, has_room value [] fault w (with_value before value) good (ap (λ (x : Writing). with_value x value) is) small h.refused)

-- one more value is written
pub one_behind : (w middle new : Writing) (xs : List Value) (value : Value) → middle ≡ with_values w xs → new ≡ with_value middle value → new ≡ with_values w (xs ++ value ∷ [])
one_behind w middle new xs value m e = e ∙ ap (λ (x : Writing). with_value x value) m ∙ sym (with_values-append w xs (value ∷ []))

-- what is written in front of the key
pub in_front : (at : Endpoint) (a b c d e : Writing) → a ≡ begun Big → b ≡ with_value a (Octet 1) → c ≡ with_value b (Octet 2) → d ≡ with_value c (Text at.host) → e ≡ with_value d (UShort at.port) → e ≡ with_values (begun Big) (Octet 1 ∷ Octet 2 ∷ Text at.host ∷ UShort at.port ∷ [])
in_front at a b c d e p q r s t =
    one_behind (begun Big) d e (Octet 1 ∷ Octet 2 ∷ Text at.host ∷ []) (UShort at.port)
    (one_behind (begun Big) c d (Octet 1 ∷ Octet 2 ∷ []) (Text at.host)
    (one_behind (begun Big) b c (Octet 1 ∷ []) (Octet 2)
    (one_behind (begun Big) a b [] (Octet 1) p q) r) s) t
