-- The references in a context: those to objects are short, and that to no object is read from its octets.
use Rattle.std.proofs.Common.{◌≡◌, ℕ, ◌+◌, ◌-◌, ◌≤◌, ◌<◌, ◌%◌, false, None, Ok, List, [], ◌∷◌, ◌++◌, length, refl, ap, arith, length-append, replicate}
use Rattle.std.proofs.lemmas.List.{length-replicate}
use Rattle.std.proofs.lemmas.Bool.{le-ltb}
use Rattle.cdr_values.specs.declared.order.Order.{Order}
use Rattle.cdr_values.specs.declared.order.Order.TheVariants.{Big}
use Rattle.cdr_values.specs.Again.{standing}
use Rattle.cdr_values.specs.Value.{Value, OctetSequence, Text, alignment, bare_of, canonical, gap, has_nul, octets_of}
use Rattle.cdr_values.specs.Values.{canonical_all, with_values}
use Rattle.cdr_values.specs.Encapsulation.{begun}
use Rattle.cdr_values.specs.Writing.{Writing}
use Rattle.cdr_values.specs.Tagged.{reference_at, reference_values, tagged_at}
use Rattle.cdr_values.specs.Sequence.{each_at, sequence_at}
use Rattle.cdr_values.specs.Reading.{number_at, octets_at, sized_at, string_at}
use Rattle.ots_model.specs.declared.service.Endpoint.{Endpoint}
use Rattle.ior_refs.specs.Iiop.{iiop_values}
use Rattle.ior_refs.specs.Making.{iiop_to, profile_to, reference_to, refusal_to}
use Rattle.ior_refs.specs.Reading.{count_at, each_tagged_at, if_short, short_reference_at, whole}
use Rattle.ior_refs.specs.Reference.{canonical_octets, nil}
use Rattle.ior_refs.specs.declared.key.ObjectKey.{ObjectKey}
use Rattle.ior_refs.proofs.Short.{with_values-is}

-- how many octets values have at most, with padding
abbrev total : Order → List Value → ℕ
total order [] = 0
total order (v ∷ vs) = alignment v + length (bare_of order v) + total order vs

gap_small : (n at : ℕ) → gap n at ≤ n
gap_small n at = omega (arith, mod_small (n - at % n) n) where
  mod_small : (a n : ℕ) → a % n ≤ a
  mod_small a n = omega arith

all_at_most : (order : Order) (at : ℕ) (values : List Value) → length (canonical_all order at values) ≤ total order values
all_at_most order at [] = omega arith
all_at_most order at (v ∷ vs) =
    let one = canonical order at v in
    let padding : List ℕ = replicate (gap (alignment v) at) 0 in
    let rest = all_at_most order (at + length one) vs in
    omega (arith, rest, gap_small (alignment v) at, length-append one (canonical_all order (at + length one) vs), length-append padding (bare_of order v), length-replicate {A = ℕ} (gap (alignment v) at) 0)

text_length : (text : List ℕ) → length (bare_of Big (Text text)) ≡ 5 + length text
text_length text = omega (arith, length-append (octets_of Big 4 (length text + 1)) (text ++ 0 ∷ []), length-append text (0 ∷ []))

sequence_length : (octets : List ℕ) → length (bare_of Big (OctetSequence octets)) ≡ 4 + length octets
sequence_length octets = omega (arith, length-append (octets_of Big 4 (length octets)) octets)

profile_length : (at : Endpoint) (key : ObjectKey) → length at.host ≤ 255 → length (profile_to at key) ≤ 512
unfolding profile_to
profile_length at key h =
    let values = iiop_values (iiop_to at key) [] in
    let size : length (with_values (begun Big) values).octets ≡ length ((begun Big).octets ++ canonical_all Big 1 values) = ap (λ (x : Writing). length x.octets) (with_values-is (begun Big) values) in
    omega (arith, size, all_at_most Big 1 values, text_length at.host, length-append (begun Big).octets (canonical_all Big 1 values))

-- a reference whose type_id and host are short has few octets
reference_length : (type_id : List ℕ) (at : Endpoint) (key : ObjectKey) → length type_id ≤ 64 → length at.host ≤ 255 → length (canonical_octets (reference_to type_id at key)) ≤ 1024
unfolding canonical_octets
reference_length type_id at key few short =
    omega (arith, all_at_most Big 0 (reference_values (reference_to type_id at key)), text_length type_id, sequence_length (profile_to at key), profile_length at key short)

-- so nothing but want of memory refuses it
pub not_refused : (type_id : List ℕ) (at : Endpoint) (key : ObjectKey) → length type_id ≤ 64 → has_nul type_id ≡ false → length at.host ≤ 255 → has_nul at.host ≡ false → refusal_to type_id at key ≡ None
not_refused type_id at key few plain short text =
    rw (plain, text, le-ltb _ _ (reference_length type_id at key few short)) refl

-- the octets of the reference to no object
abbrev pub nil_octets : List ℕ
nil_octets = 0 ∷ 0 ∷ 0 ∷ 1 ∷ 0 ∷ 0 ∷ 0 ∷ 0 ∷ 0 ∷ 0 ∷ 0 ∷ 0 ∷ []

pub nil_read : whole short_reference_at (standing Big 0 nil_octets) ≡ Ok nil
unfolding short_reference_at each_tagged_at count_at if_short canonical_octets reference_at tagged_at sequence_at each_at string_at octets_at number_at sized_at
nil_read = refl
