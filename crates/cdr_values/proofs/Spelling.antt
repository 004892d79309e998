-- No spelling begins another: a value of a type is read in one way.
use Rattle.std.proofs.Common.{◌≡◌, ℕ, ◌+◌, List, ◌++◌, length, take, Result, Ok, refl, sym, ap, ◌∙◌, arith}
use Rattle.std.proofs.lemmas.List.{take_at}
use Rattle.cdr_values.specs.declared.order.Order.{Order}
use Rattle.cdr_values.specs.declared.fault.CdrFault.{CdrFault}
use Rattle.cdr_values.specs.Value.{Value, Octet, Boolean, UShort, ULong, ULongLong, OctetSequence, Text, Aligned, Spells}
use Rattle.cdr_values.specs.Alike.{Kind, OctetKind, BooleanKind, UShortKind, ULongKind, ULongLongKind, OctetsKind, TextKind, AlignedKind, kind_of, AreAlike}
use Rattle.cdr_values.specs.Reading.{Reading, Reads, ◌>>=◌, octet_at, boolean_at, number_at, octets_at, string_at, aligned_at}
use Rattle.cdr_values.proofs.Given.{ok_is}
use Rattle.cdr_values.proofs.Standing.{reading, stands_from, aligned_only}
use Rattle.cdr_values.proofs.Numbers.{number_only, octet_only, boolean_only}
use Rattle.cdr_values.proofs.Counted.{octets_only, string_only}

-- a read, with its value as a value of that type
abbrev as_value : {X : Type 0} → (X → Value) → Result (X × Reading) CdrFault → Result (Value × Reading) CdrFault
as_value of read = read >>= λ x. Ok (of x.0, x.1)

-- reads a value of a type
abbrev value_at : Kind → Reading → Result (Value × Reading) CdrFault
value_at OctetKind r = as_value Octet (octet_at r)
value_at BooleanKind r = as_value Boolean (boolean_at r)
value_at UShortKind r = as_value UShort (number_at 2 r)
value_at ULongKind r = as_value ULong (number_at 4 r)
value_at ULongLongKind r = as_value ULongLong (number_at 8 r)
value_at OctetsKind r = as_value OctetSequence (octets_at r)
value_at TextKind r = as_value Text (string_at r)
value_at (AlignedKind n) r = as_value (λ x. Aligned n) (aligned_at n r)

-- where a value stands, the read of its type gives it
value_only : (value : Value) (r behind : Reading) → Reads r value behind → value_at (kind_of value) r ≡ Ok (value, behind)
value_only (Octet n) r behind h = ap (as_value Octet) (octet_only n r behind h)
value_only (Boolean b) r behind h = ap (as_value Boolean) (boolean_only b r behind h)
value_only (UShort n) r behind h = ap (as_value UShort) (number_only 2 n r behind h.spelled.bare (stands_from (UShort n) r behind h) h.spelled.is_bare)
value_only (ULong n) r behind h = ap (as_value ULong) (number_only 4 n r behind h.spelled.bare (stands_from (ULong n) r behind h) h.spelled.is_bare)
value_only (ULongLong n) r behind h = ap (as_value ULongLong) (number_only 8 n r behind h.spelled.bare (stands_from (ULongLong n) r behind h) h.spelled.is_bare)
value_only (OctetSequence octets) r behind h = ap (as_value OctetSequence) (octets_only octets r behind h)
value_only (Text text) r behind h = ap (as_value Text) (string_only text r behind h)
value_only (Aligned n) r behind h = ap (as_value (λ x. Aligned n)) (aligned_only n r behind h)

-- a spelling is read, whatever follows it
spelled_only : (order : Order) (at : ℕ) (value : Value) (octets rest : List ℕ) → Spells order at value octets → value_at (kind_of value) (reading order at (octets ++ rest)) ≡ Ok (value, reading order (at + length octets) rest)
spelled_only order at value octets rest s =
    value_only value (reading order at (octets ++ rest)) (reading order (at + length octets) rest) (record { octets = octets; spelled = s; front = refl; place = refl; order = refl })

-- no spelling begins another of that type
pub one_spelling : (order : Order) (at : ℕ) (one other : Value) (a b x y : List ℕ) → AreAlike one other → Spells order at one a → Spells order at other b → a ++ x ≡ b ++ y → (a ≡ b) × (one ≡ other)
one_spelling order at one other a b x y alike s t e =
    let r = reading order (at + length a) x in
    let q = reading order (at + length b) y in
    let same : value_at (kind_of one) (reading order at (a ++ x)) ≡ value_at (kind_of other) (reading order at (b ++ y)) = ap (λ (k : Kind). value_at k (reading order at (a ++ x))) alike ∙ ap (λ (z : List ℕ). value_at (kind_of other) (reading order at z)) e in
    let both = ok_is (one, r) (other, q) (sym (spelled_only order at one a x s) ∙ same ∙ spelled_only order at other b y t) in
    let places : at + length a ≡ at + length b = ap (λ (p : Value × Reading). p.1.place) both in
    let size : length b ≡ length a = omega (arith, places) in
    (sym (take_at a x (length a) refl) ∙ ap (take (length a)) e ∙ take_at b y (length a) size, ap (λ (p : Value × Reading). p.0) both)
