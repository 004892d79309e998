-- The reference to an object of an end whose name fits is short, so a record has room for it.
use Rattle.std.proofs.Common.{◌≡◌, ℕ, ◌+◌, ◌-◌, ◌≤◌, ◌%◌, ◌==◌, Bool, true, false, cond, List, [], ◌∷◌, ◌++◌, length, codes, find, bytes_eq, is_some, replicate, Contains, Option, Some, None, refl, sym, ap, subst, ◌∙◌, append_assoc, append-nil, length-append, arith}
use Rattle.std.specs.Option.{option_and_then, option_map, option_map_or}
use Rattle.std.proofs.lemmas.Slice.Eq.{bytes_eq-Decides}
use Rattle.std.proofs.lemmas.List.{length-replicate}
use Rattle.cdr_values.specs.declared.order.Order.{Order}
use Rattle.cdr_values.specs.declared.order.Order.TheVariants.{Big}
use Rattle.cdr_values.specs.Encapsulation.{begun}
use Rattle.cdr_values.specs.Value.{Value, OctetSequence, Text, ULong, alignment, bare_of, canonical, gap, octets_of}
use Rattle.cdr_values.specs.Values.{canonical_all, with_values}
use Rattle.cdr_values.specs.Writing.{Writing, place_of, with_value}
use Rattle.ior_refs.specs.declared.key.ObjectKey.{ObjectKey}
use Rattle.ior_refs.specs.Iiop.{iiop_values}
use Rattle.ior_refs.specs.Making.{iiop_to, profile_to}
use Rattle.ior_refs.specs.Reference.{canonical_octets}
use Rattle.ots_model.specs.Limits.{name_limit, reference_limit}
use Rattle.coordinator.specs.Family.{Family}
use Rattle.resource_votes.specs.declared.registration.Registration.{Registration}
use Rattle.resource_end.specs.Limits.{aware_kind}
use Rattle.nodes_world.specs.AgreementInside.{Known}
use Rattle.nodes_world.specs.Objects.{listening, reference, type_of}
use Rattle.nodes_world.specs.Objects as objects
use Rattle.nodes_world.specs.Told.{Told}
use Rattle.nodes_world.specs.World.{World, FlatEnd, FlatResource, NamedKey, end_at, family_at, has_number, is_referred_to, referred, resource_at, resources, seat_name}
use Rattle.nodes_world.proofs.KnownLines.{referred_named}

-- ---- octets

abbrev writing : Order → ℕ → List ℕ → Writing
writing order start octets = record { order = order; start = start; octets = octets }

-- the octets of the values stand behind those that were there
written : (w : Writing) (values : List Value) → with_values w values ≡ writing w.order w.start (w.octets ++ canonical_all w.order (place_of w) values)
written w [] = ap (writing w.order w.start) (sym (append-nil w.octets))
written w (x ∷ xs) =
    let one = canonical w.order (place_of w) x in
    let place : place_of (with_value w x) ≡ place_of w + length one = omega (arith, length-append w.octets one) in
    written (with_value w x) xs
    ∙ ap (writing w.order w.start) (ap (λ (k : ℕ). (w.octets ++ one) ++ canonical_all w.order k xs) place
    ∙ append_assoc w.octets one (canonical_all w.order (place_of w + length one) xs))

-- how many octets values have at most, with padding
abbrev total : Order → List Value → ℕ
total order [] = 0
total order (v ∷ vs) = alignment v + length (bare_of order v) + total order vs

gap_small : (n at : ℕ) → gap n at ≤ n
gap_small n at = omega (arith, mod_small (n - at % n) n)
  where
    mod_small : (a n : ℕ) → a % n ≤ a
    mod_small a n = omega arith

all_at_most : (order : Order) (at : ℕ) (values : List Value) → length (canonical_all order at values) ≤ total order values
all_at_most order at [] = omega arith
all_at_most order at (v ∷ vs) =
    let one = canonical order at v in
    let padding : List ℕ = replicate (gap (alignment v) at) 0 in
    let rest = all_at_most order (at + length one) vs in
    omega (
      arith,
      rest,
      gap_small (alignment v) at,
      length-append one (canonical_all order (at + length one) vs),
      length-append padding (bare_of order v),
      length-replicate {A = ℕ} (gap (alignment v) at) 0,
    )

text_size : (text : List ℕ) → length (bare_of Big (Text text)) ≡ 4 + (length text + 1)
text_size text = omega (arith, length-append (octets_of Big 4 (length text + 1)) (text ++ 0 ∷ []), length-append text (0 ∷ []))

items_size : (items : List ℕ) → length (bare_of Big (OctetSequence items)) ≡ 4 + length items
items_size items = omega (arith, length-append (octets_of Big 4 (length items)) items)

profile_few : (name : List ℕ) (key : ObjectKey) → length (profile_to (listening name) key) ≤ 100 + length name
unfolding profile_to
profile_few name key =
    let values = iiop_values (iiop_to (listening name) key) [] in
    let size : length (with_values (begun Big) values).octets ≡ length ((begun Big).octets ++ canonical_all Big 1 values)
    = ap (λ (x : Writing). length x.octets) (written (begun Big) values) in
    omega (arith, size, all_at_most Big 1 values, text_size name, length-append (begun Big).octets (canonical_all Big 1 values))

type_few : (kind : ℕ) → length (type_of kind) ≤ 59
type_few kind = by (kind == aware_kind)
  where
    by : (b : Bool) → length (cond b (codes "IDL:omg.org/CosTransactions/SubtransactionAwareResource:1.0") (codes "IDL:omg.org/CosTransactions/Resource:1.0")) ≤ 59
    by true = omega arith
    by false = omega arith

pub reference_few : (name : List ℕ) (key : ObjectKey) → length name ≤ name_limit → length (reference name key) ≤ reference_limit
unfolding reference canonical_octets
reference_few name key few =
    let profile = profile_to (listening name) key in
    omega (
      arith,
      few,
      all_at_most Big 0 (Text (type_of key.kind) ∷ ULong 1 ∷ ULong 0 ∷ OctetSequence profile ∷ []),
      text_size (type_of key.kind),
      items_size profile,
      type_few key.kind,
      profile_few name key,
    )

-- ---- what is registered

end_is : (w : World) (key : ObjectKey) (r : FlatResource) → resource_at w key ≡ Some r → (e : FlatEnd) × (end_at w (objects.place_of key) ≡ Some e)
unfolding resource_at
end_is w key r is = by (end_at w (objects.place_of key)) refl is
  where
    by : (o : Option FlatEnd) → end_at w (objects.place_of key) ≡ o → option_and_then (λ (e : FlatEnd). find (has_number key) e.resources) o ≡ Some r
        → (e : FlatEnd) × (end_at w (objects.place_of key) ≡ Some e)
    by (Some e) at is = (e, at)
    by None at is = absurd cc

inner : {A : Type 0} (x y : A) → Some x ≡ Some y → x ≡ y
inner x y e = cc

found_passes : {A : Type 0} (p : A → Bool) (xs : List A) (r : A) → find p xs ≡ Some r → p r ≡ true
found_passes p [] r is = absurd cc
found_passes p (x ∷ xs) r is = by (p x) refl (found_passes p xs r) is
  where
    by : (b : Bool) → p x ≡ b → (find p xs ≡ Some r → p r ≡ true) → cond b (Some x) (find p xs) ≡ Some r → p r ≡ true
    by true so later is = ap p (sym (inner x r is)) ∙ so
    by false so later is = later is

-- what leads to an object is short
pub referred_few : (w : World) (told : List Told) → Known w told → (to : List ℕ) (x : NamedKey) → referred w to ≡ Some x → length to ≤ reference_limit
unfolding referred
referred_few w told k to x is =
    let at = k.names.resources x.name x.key (referred_named w told k to x is) in
    let up = end_is w x.key at.0 at.1 in
    by up.0 up.1 (seat_name w (objects.place_of x.key)) refl (found_passes (is_referred_to w to) (resources w) x is)
  where
    by : (e : FlatEnd) → end_at w (objects.place_of x.key) ≡ Some e → (o : Option (List ℕ)) → seat_name w (objects.place_of x.key) ≡ o
        → option_map_or (λ (octets : List ℕ). bytes_eq octets to) (option_map (λ (n : List ℕ). reference n x.key) o) false ≡ true → length to ≤ reference_limit
    by e up (Some n) named is =
        subst (λ (octets : List ℕ). length octets ≤ reference_limit) ((bytes_eq-Decides (reference n x.key) to).0 is)
        (reference_few n x.key (k.counted.short (objects.place_of x.key) e n up named))
    by e up None named is = absurd cc

-- so is each reference that is registered with a family
pub registration_few : (w : World) (told : List Told) → Known w told → (key : ObjectKey) (f : Family) → family_at w key ≡ Some f → (r : Registration)
    → Contains f.ballots.registrations r → length r.to ≤ reference_limit
registration_few w told k key f there r among = by (referred w r.to) refl ((k.families key f there).named r among)
  where
    by : (o : Option NamedKey) → referred w r.to ≡ o → is_some o ≡ true → length r.to ≤ reference_limit
    by (Some x) is some = referred_few w told k r.to x is
    by None is some = absurd cc
