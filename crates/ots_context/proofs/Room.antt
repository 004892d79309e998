-- How many octets identities take, and why there is room for them.
use Rattle.std.proofs.Common.{◌≡◌, ℕ, suc, ◌+◌, ◌*◌, ◌<◌, ◌≤◌, ◌⊎◌, inl, inr, Bool, true, false, cond, ltb, Some, None, Option, List, [], ◌∷◌, ◌++◌, length, take, get_or, refl, sym, ap, ◌∙◌, arith, length-append, replicate, Result, Ok, Err, IfErr, OnOk}
use Rattle.std.specs.Prelude.{All}
use Rattle.std.specs.List.{flat_map}
use Rattle.std.specs.Option.{option_or}
use Rattle.cdr_values.specs.Sequence.{sequence_values}
use Rattle.std.specs.Int.{w32, cast_unsigned}
use Rattle.std.proofs.lemmas.List.{append-nil, length-replicate, take_more}
use Rattle.std.proofs.lemmas.Grind.{flat_map-append}
use Rattle.std.proofs.lemmas.Bool.{ltb-true}
use Rattle.cdr_values.specs.declared.order.Order.{Order}
use Rattle.cdr_values.specs.declared.order.Order.TheVariants.{Big, Little}
use Rattle.cdr_values.specs.declared.fault.CdrFault.{CdrFault}
use Rattle.cdr_values.specs.declared.fault.CdrFault.TheVariants as cdr
use Rattle.cdr_values.specs.Limits.{output_limit}
use Rattle.cdr_values.specs.Value.{Value, Octet, Boolean, UShort, ULong, ULongLong, OctetSequence, Text, Aligned, Fits, alignment, bare_of, canonical, gap, octets_of}
use Rattle.cdr_values.specs.Again.{AllFit}
use Rattle.cdr_values.specs.Values.{canonical_all, refusal_of_all, with_values}
use Rattle.cdr_values.specs.Writing.{Writing, place_of, with_value, is_bad, refusal}
use Rattle.cdr_values.specs.Tagged.{tagged_values, reference_values}
use Rattle.ior_refs.specs.Reference.{Reference, Tagged, IsReference, canonical_octets}
use Rattle.ior_refs.specs.Writing.{WritesWhole}
use Rattle.ots_context.specs.declared.context.Identity.{Identity}
use Rattle.ots_context.specs.declared.context.Context.{Context}
use Rattle.ots_context.specs.Writing.{behind_current}
use Rattle.ots_context.specs.Identity.{IsIdentity, identity_values, otid_values}
use Rattle.ots_context.specs.RoomInside.{reference_size, otid_size, identity_size}
use Rattle.ots_context.proofs.Given.{with_values-append}

-- how many octets a value of a field of contexts has, without padding
abbrev pub size : Value → ℕ
size (ULong n) = 4
size (OctetSequence octets) = 4 + length octets
size (Text text) = 4 + (length text + 1)
size _ = 0

-- a value of such a field
abbrev pub IsField : Value → Type 0
IsField (ULong n) = Unit {0}
IsField (OctetSequence octets) = Unit {0}
IsField (Text text) = Unit {0}
IsField _ = ⊥

abbrev pub AreFields : List Value → Type 0
AreFields [] = Unit {0}
AreFields (v ∷ vs) = IsField v × AreFields vs

abbrev pub sizes : List Value → ℕ
sizes [] = 0
sizes (v ∷ vs) = size v + sizes vs

four : (order : Order) (n : ℕ) → length (octets_of order 4 n) ≡ 4
four Big n = refl
four Little n = refl

bare_size : (order : Order) (v : Value) → IsField v → length (bare_of order v) ≡ size v
bare_size order (ULong n) h = four order n
bare_size order (OctetSequence octets) h = omega (arith, length-append (octets_of order 4 (length octets)) octets, four order (length octets))
bare_size order (Text text) h =
    omega (arith, length-append (octets_of order 4 (length text + 1) ++ text) (0 ∷ []), length-append (octets_of order 4 (length text + 1)) text, four order (length text + 1))
bare_size order (Octet n) h = absurd h
bare_size order (Boolean b) h = absurd h
bare_size order (UShort n) h = absurd h
bare_size order (ULongLong n) h = absurd h
bare_size order (Aligned n) h = absurd h

at_four : (v : Value) → IsField v → (alignment v ≡ 4) × (4 ≤ size v)
at_four (ULong n) h = (refl, omega arith)
at_four (OctetSequence octets) h = (refl, omega arith)
at_four (Text text) h = (refl, omega arith)
at_four (Octet n) h = absurd h
at_four (Boolean b) h = absurd h
at_four (UShort n) h = absurd h
at_four (ULongLong n) h = absurd h
at_four (Aligned n) h = absurd h

-- the octets of a value, with its padding
one_between : (order : Order) (at : ℕ) (v : Value) → IsField v → (size v ≤ length (canonical order at v)) × (length (canonical order at v) ≤ size v + 3)
one_between order at v h =
    let k = at_four v h in
    let padding : List ℕ = replicate (gap (alignment v) at) 0 in
    let small : gap (alignment v) at ≤ 3 = rw k.0 (omega arith) in
    let whole : length (canonical order at v) ≡ gap (alignment v) at + size v = omega (arith, length-append padding (bare_of order v), length-replicate {A = ℕ} (gap (alignment v) at) 0, bare_size order v h) in
    (omega (arith, whole), omega (arith, whole, small))

-- values take as many octets at least
all_at_least : (order : Order) (at : ℕ) (vs : List Value) → AreFields vs → sizes vs ≤ length (canonical_all order at vs)
all_at_least order at [] h = omega arith
all_at_least order at (v ∷ vs) h =
    let one = canonical order at v in
    omega (arith, all_at_least order (at + length one) vs h.1, (one_between order at v h.0).0, length-append one (canonical_all order (at + length one) vs))

-- how many octets a writer has behind values at most
pub few_behind : (w : Writing) (vs : List Value) → AreFields vs → 4 * length (with_values w vs).octets ≤ 4 * length w.octets + 7 * sizes vs
few_behind w [] h = omega arith
few_behind w (v ∷ vs) h =
    let one = canonical w.order (place_of w) v in
    omega (arith, few_behind (with_value w v) vs h.1, (one_between w.order (place_of w) v h.0).1, (at_four v h.0).1, length-append w.octets one)

-- octets only come
grows : (w : Writing) (vs : List Value) → length w.octets ≤ length (with_values w vs).octets
grows w [] = omega arith
grows w (v ∷ vs) = omega (arith, grows (with_value w v) vs, length-append w.octets (canonical w.order (place_of w) v))

-- ---- the values of an identity are such fields

fields-append : (xs ys : List Value) → AreFields xs → AreFields ys → AreFields (xs ++ ys)
fields-append [] ys p q = q
fields-append (x ∷ xs) ys p q = (p.0, fields-append xs ys p.1 q)

sizes-append : (xs ys : List Value) → sizes (xs ++ ys) ≡ sizes xs + sizes ys
sizes-append [] ys = omega arith
sizes-append (x ∷ xs) ys = omega (arith, sizes-append xs ys)

tagged_fields : (all : List Tagged) → AreFields (flat_map tagged_values all)
tagged_fields [] = tt
tagged_fields (x ∷ all) = (tt, (tt, tagged_fields all))

pub reference_fields : (x : Reference) → AreFields (reference_values x)
reference_fields x = (tt, (tt, tagged_fields x.1))

reference_sizes : (x : Reference) → length (canonical_octets x) ≤ 1024 → sizes (reference_values x) ≤ 1024
unfolding canonical_octets
reference_sizes x h = omega (arith, h, all_at_least Big 0 (reference_values x) (reference_fields x))

pub reference_room : (w : Writing) (x : Reference) → IsReference x → length (with_values w (reference_values x)).octets ≤ length w.octets + reference_size
reference_room w x is = omega (arith, few_behind w (reference_values x) (reference_fields x), reference_sizes x is.short)

pub otid_room : (w : Writing) (format bqual : ℕ) (tid : List ℕ) → length tid ≤ 128 → length (with_values w (otid_values format bqual tid)).octets ≤ length w.octets + otid_size
otid_room w format bqual tid few = omega (arith, few_behind w (otid_values format bqual tid) (tt, (tt, (tt, tt))), few)

pub identity_room : (w : Writing) (i : Identity) → IsIdentity i → length (with_values w (identity_values i)).octets ≤ length w.octets + identity_size
identity_room w i is =
    let otid = otid_values (cast_unsigned w32 i.otid.format) i.otid.bqual i.otid.tid in
    let one = with_values w (reference_values i.coord) in
    let two = with_values one (reference_values i.term) in
    let parts : with_values w (identity_values i) ≡ with_values two otid = with_values-append w (reference_values i.coord) (reference_values i.term ++ otid) ∙ with_values-append one (reference_values i.term) otid in
    let size : length (with_values w (identity_values i)).octets ≡ length (with_values two otid).octets = ap (λ (x : Writing). length x.octets) parts in
    omega (arith, size, reference_room w i.coord is.coord, reference_room one i.term is.term, otid_room two (cast_unsigned w32 i.otid.format) i.otid.bqual i.otid.tid is.otid.lengths.1)

-- ---- where there is room, only memory may want

-- a value that fits is no text with a NUL
good : (value : Value) → Fits value → is_bad value ≡ false
good (Octet n) h = refl
good (Boolean b) h = refl
good (UShort n) h = refl
good (ULong n) h = refl
good (ULongLong n) h = refl
good (OctetSequence octets) h = refl
good (Text text) h = h.1
good (Aligned n) h = refl

-- a test that was passed
passed : (b : Bool) (x y : CdrFault) → cond b (Some x) None ≡ Some y → b ≡ true
passed true x y e = refl
passed false x y e = absurd cc

-- a writer that refuses a value is full
full : (value : Value) (fault : CdrFault) (w : Writing) → is_bad value ≡ false → refusal w value ≡ Some fault → output_limit < length (with_value w value).octets
full value fault w plain refused =
    let n = length (with_value w value).octets in
    ltb-true _ _ (passed (ltb output_limit n) (cdr.TooLong (place_of w) n) fault (rw plain at refused))

-- and one that refuses values has no room for them
refused_full : (values : List Value) (fault : CdrFault) (w : Writing) → AllFit values → refusal_of_all w values ≡ Some fault → output_limit < length (with_values w values).octets
refused_full [] fault w fit e = absurd cc
refused_full (v ∷ vs) fault w fit e = by_first (refusal w v) v vs fault w fit.0 refl e (λ f. refused_full vs fault (with_value w v) fit.1 f) where
  by_first : (first : Option CdrFault) (v : Value) (vs : List Value) (fault : CdrFault) (w : Writing) → Fits v → refusal w v ≡ first → option_or first (refusal_of_all (with_value w v) vs) ≡ Some fault
      → (refusal_of_all (with_value w v) vs ≡ Some fault → output_limit < length (with_values (with_value w v) vs).octets) → output_limit < length (with_values (with_value w v) vs).octets
  by_first (Some cause) v vs fault w fit is e others = omega (arith, full v cause w (good v fit) is, grows (with_value w v) vs)
  by_first None v vs fault w fit is e others = others e

-- so one that has room for values refuses them for want of memory alone
all_room : (values : List Value) (fault : CdrFault) (w : Writing) → AllFit values → length (with_values w values).octets ≤ output_limit → (fault ≡ cdr.Memory) ⊎ (refusal_of_all w values ≡ Some fault) → fault ≡ cdr.Memory
all_room values fault w fit small (inl memory) = memory
all_room values fault w fit small (inr refused) = absurd (omega (arith, refused_full values fault w fit refused, small))

-- a call that writes a reference for which there is room fails for want of memory alone
pub written_err : (x : Reference) (result : Result (Unit {0}) CdrFault) (w new : Writing) → IsReference x → length w.octets + reference_size ≤ output_limit → WritesWhole (reference_values x) result w new → IfErr result (λ fault. fault ≡ cdr.Memory)
written_err x (Ok nothing) w new is small h = tt
written_err x (Err fault) w new is small h = all_room (reference_values x) fault w is.fits (omega (arith, small, reference_room w x is)) h.refused

-- ---- several identities

-- what follows where a call answered plainly
pub map_ok : {F A B : Type 0} (result : Result (Unit {0}) F) → (A → B) → OnOk result A → OnOk result B
map_ok (Ok nothing) f h = f h
map_ok (Err fault) f h = tt

-- the values of one more
pub one_more : (all : List Identity) (i : ℕ) (x : Identity) → i < length all → x ≡ get_or all i x → flat_map identity_values (take (i + 1) all) ≡ flat_map identity_values (take i all) ++ identity_values x
one_more all i x lt is =
    ap (flat_map identity_values) (take_more all i x lt ∙ ap (λ (y : Identity). take i all ++ y ∷ []) (sym is)) ∙ flat_map-append identity_values (take i all) (x ∷ []) ∙ ap (λ (y : List Value). flat_map identity_values (take i all) ++ y) (append-nil (identity_values x))

-- one more is written
pub goes_on : (w now new : Writing) (all : List Identity) (i : ℕ) (x : Identity) → i < length all → x ≡ get_or all i x
    → now ≡ with_values w (flat_map identity_values (take i all)) → new ≡ with_values now (identity_values x) → new ≡ with_values w (flat_map identity_values (take (i + 1) all))
goes_on w now new all i x lt is so_far more =
    more ∙ ap (λ (y : Writing). with_values y (identity_values x)) so_far ∙ sym (with_values-append w (flat_map identity_values (take i all)) (identity_values x)) ∙ ap (with_values w) (sym (one_more all i x lt is))

-- what is written in front of the parents is short
pub current_room : (w : Writing) (c : Context) → length w.octets ≤ 1 → IsIdentity c.current → length (behind_current w c).octets ≤ 3837
unfolding behind_current
current_room w c front is =
    let one = with_values w (ULong c.timeout ∷ []) in
    omega (arith, front, few_behind w (ULong c.timeout ∷ []) (tt, tt), identity_room one c.current is)

-- and so is a writer of the timeout
pub timeout_room : (w middle : Writing) (timeout : ℕ) → length w.octets ≤ 1 → middle ≡ with_value w (ULong timeout) → length middle.octets ≤ 8
timeout_room w middle timeout front is =
    omega (arith, front, few_behind w (ULong timeout ∷ []) (tt, tt), ap (λ (x : Writing). length x.octets) is)

-- there is room for identities
each_room : (w : Writing) (all : List Identity) → All IsIdentity all → length (with_values w (flat_map identity_values all)).octets ≤ length w.octets + identity_size * length all
each_room w [] are = omega arith
each_room w (i ∷ all) are =
    let one = with_values w (identity_values i) in
    let parts : with_values w (flat_map identity_values (i ∷ all)) ≡ with_values one (flat_map identity_values all) = with_values-append w (identity_values i) (flat_map identity_values all) in
    omega (arith, ap (λ (x : Writing). length x.octets) parts, identity_room w i (are 0 i (omega arith)), each_room one all (λ k d lt. are (suc k) d (omega arith)))

-- a writer that has written the parents has no more than a writer has
pub parents_room : (w new : Writing) (all : List Identity) → length w.octets ≤ 3837 → length all ≤ 16 → All IsIdentity all → new ≡ with_values w (sequence_values identity_values all) → length new.octets ≤ output_limit
parents_room w new all short few are is =
    let counted = with_values w (ULong (length all) ∷ []) in
    omega (arith, short, few, ap (λ (x : Writing). length x.octets) is, few_behind w (ULong (length all) ∷ []) (tt, tt), each_room counted all are)
