-- Where values end, counted by their sizes.
use Rattle.std.proofs.Common.{◌≡◌, ℕ, ◌+◌, ◌<◌, List, [], ◌∷◌, ◌++◌, length, get_or, take, replicate, refl, sym, ap, ◌∙◌, arith, length-append}
use Rattle.std.specs.List.{flat_map}
use Rattle.std.proofs.lemmas.List.{take_more, append-nil, length-replicate}
use Rattle.std.proofs.lemmas.Grind.{flat_map-append}
use Rattle.cdr_values.specs.declared.order.Order.{Order}
use Rattle.cdr_values.specs.declared.order.Order.TheVariants.{Big, Little}
use Rattle.cdr_values.specs.Value.{Value, Octet, Boolean, UShort, ULong, ULongLong, OctetSequence, Text, Aligned, alignment, gap, octets_of, bare_of, canonical}
use Rattle.cdr_values.specs.Values.{canonical_all}
use Rattle.giop_frames.specs.Sizes.{size_of, end_of}

-- values behind others
pub end_of-append : (at : ℕ) (xs ys : List Value) → end_of at (xs ++ ys) ≡ end_of (end_of at xs) ys
end_of-append at [] ys = refl
end_of-append at (x ∷ xs) ys = end_of-append (end_of at (x ∷ [])) xs ys

-- the values of one more thing
pub values_more : {X : Type 0} (values : X → List Value) (xs : List X) (i : ℕ) (x : X) → i < length xs → x ≡ get_or xs i x → flat_map values (take (i + 1) xs) ≡ flat_map values (take i xs) ++ values x
values_more {X} values xs i x lt is =
    ap (flat_map values) (take_more xs i x lt ∙ ap (λ (y : X). take i xs ++ y ∷ []) (sym is)) ∙ flat_map-append values (take i xs) (x ∷ []) ∙ ap (λ (vs : List Value). flat_map values (take i xs) ++ vs) (append-nil (values x))

-- how many octets a value has without its padding
bare_size : (order : Order) (value : Value) → length (bare_of order value) ≡ size_of value
bare_size Big (Octet n) = refl
bare_size Big (Boolean b) = refl
bare_size Big (UShort n) = refl
bare_size Big (ULong n) = refl
bare_size Big (ULongLong n) = refl
bare_size Big (OctetSequence octets) = omega (arith, length-append (octets_of Big 4 (length octets)) octets)
bare_size Big (Text text) = omega (arith, length-append (octets_of Big 4 (length text + 1)) (text ++ 0 ∷ []), length-append text (0 ∷ []))
bare_size Big (Aligned n) = refl
bare_size Little (Octet n) = refl
bare_size Little (Boolean b) = refl
bare_size Little (UShort n) = refl
bare_size Little (ULong n) = refl
bare_size Little (ULongLong n) = refl
bare_size Little (OctetSequence octets) = omega (arith, length-append (octets_of Little 4 (length octets)) octets)
bare_size Little (Text text) = omega (arith, length-append (octets_of Little 4 (length text + 1)) (text ++ 0 ∷ []), length-append text (0 ∷ []))
bare_size Little (Aligned n) = refl

-- how many octets a value has
pub value_size : (order : Order) (at : ℕ) (value : Value) → length (canonical order at value) ≡ gap (alignment value) at + size_of value
value_size order at value =
    let g = gap (alignment value) at in
    length-append (replicate g 0) (bare_of order value) ∙ ap (λ (k : ℕ). k + length (bare_of order value)) (length-replicate g 0) ∙ ap (λ (k : ℕ). g + k) (bare_size order value)

-- the end by sizes is the end of the octets, in both byte orders
pub end_of-is : (order : Order) (at : ℕ) (values : List Value) → end_of at values ≡ at + length (canonical_all order at values)
end_of-is order at [] = omega arith
end_of-is order at (x ∷ xs) =
    let one = canonical order at x in
    let next = at + gap (alignment x) at + size_of x in
    let place : next ≡ at + length one = omega (arith, value_size order at x) in
    let later : length (canonical_all order next xs) ≡ length (canonical_all order (at + length one) xs) = ap (λ (k : ℕ). length (canonical_all order k xs)) place in
    omega (arith, end_of-is order next xs, later, place, length-append one (canonical_all order (at + length one) xs))
