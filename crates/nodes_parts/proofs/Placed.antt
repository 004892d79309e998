-- Where the number of an object stands in its reference.
use Rattle.std.proofs.Common.{◌≡◌, ℕ, ◌+◌, ◌-◌, ◌≤◌, List, [], ◌∷◌, ◌++◌, length, take, drop, replicate, codes, sym, ap, ◌∙◌, append_assoc, append-nil, length-append, length-drop, arith}
use lib.Seq.{drop-drop, drop_at, take_all, take_at}
use borrow.Rule.Slice.PartMut.{put_mid}
use Rattle.std.proofs.lemmas.List.{drop_all}
use Rattle.std.proofs.lemmas.List.{length-replicate}
use Rattle.byteorder.specs.Endian.{big_bytes}
use Rattle.cdr_values.specs.declared.order.Order.TheVariants.{Big}
use Rattle.cdr_values.specs.Encapsulation.{begun}
use Rattle.cdr_values.specs.Value.{OctetSequence, Text, ULong, UShort, canonical, gap, octets_of}
use Rattle.cdr_values.specs.Values.{ValuesAreWrittenCanonically, canonical_all}
use Rattle.cdr_values.specs.Writing.{Writing}
use Rattle.ior_refs.specs.declared.key.ObjectKey.{ObjectKey}
use Rattle.ior_refs.specs.Iiop.{iiop_values}
use Rattle.ior_refs.specs.Key.{octets_of_key}
use Rattle.ior_refs.specs.Making.{iiop_to, profile_to, reference_to}
use Rattle.ior_refs.specs.Reference.{canonical_octets}
use Rattle.ots_model.specs.declared.service.Endpoint.{Endpoint}
use Rattle.nodes_world.specs.Objects.{listening, reference, type_of}
use Rattle.nodes_parts.specs.Moulded.{numbered_as, with_number}

-- ---- the key, and what stands behind it

-- its count, and its octets in front of the number
abbrev key_front : ObjectKey → List ℕ
key_front k = octets_of Big 4 32 ++ codes "OTS" ++ k.kind ∷ [] ++ big_bytes 8 k.service ++ big_bytes 4 k.life ++ big_bytes 4 k.slot

-- what stands behind the number: the index, and that there are no components
abbrev rest : ObjectKey → List ℕ
rest k = big_bytes 4 k.index ++ octets_of Big 4 0

abbrev end_of : ObjectKey → List ℕ
end_of k = big_bytes 8 k.generation ++ rest k

-- a count of a key and the key, behind padding
abbrev keyed : ℕ → ObjectKey → List ℕ
keyed at k = replicate (gap 4 at) 0 ++ (octets_of Big 4 32 ++ octets_of_key k)

keyed_size : (at : ℕ) (k : ObjectKey) → length (keyed at k) ≡ gap 4 at + 36
keyed_size at k = length-append (replicate (gap 4 at) 0) (octets_of Big 4 32 ++ octets_of_key k) ∙ ap (λ (n : ℕ). n + 36) (length-replicate {A = ℕ} (gap 4 at) 0)

no_gap : (at : ℕ) → gap 4 (at + (gap 4 at + 36)) ≡ 0
no_gap at = omega arith

key_laid : (at : ℕ) (k : ObjectKey) → canonical_all Big at (OctetSequence (octets_of_key k) ∷ ULong 0 ∷ []) ≡ (replicate (gap 4 at) 0 ++ key_front k) ++ end_of k
key_laid at k =
    ap (λ (n : ℕ). keyed at k ++ ((replicate (gap 4 (at + n)) 0 ++ octets_of Big 4 0) ++ [])) (keyed_size at k)
    ∙ ap (λ (n : ℕ). keyed at k ++ ((replicate n 0 ++ octets_of Big 4 0) ++ [])) (no_gap at)
    ∙ append_assoc (replicate (gap 4 at) 0) (octets_of Big 4 32 ++ octets_of_key k) (octets_of Big 4 0)
    ∙ sym (append_assoc (replicate (gap 4 at) 0) (key_front k) (end_of k))

-- ---- a profile

-- the place behind a host
abbrev host_end : Endpoint → ℕ
host_end at = 3 + length (canonical Big 3 (Text at.host))

-- the place behind a port
abbrev port_end : Endpoint → ℕ
port_end at = host_end at + length (canonical Big (host_end at) (UShort at.port))

abbrev profile_front : Endpoint → ObjectKey → List ℕ
profile_front at k =
    0 ∷ 1 ∷ 2 ∷ canonical Big 3 (Text at.host) ++ (canonical Big (host_end at) (UShort at.port)
    ++ (replicate (gap 4 (port_end at)) 0 ++ key_front k))

profile_laid : ValuesAreWrittenCanonically → (at : Endpoint) (k : ObjectKey) → profile_to at k ≡ profile_front at k ++ end_of k
unfolding profile_to
profile_laid law at k =
    let host = canonical Big 3 (Text at.host) in
    let port = canonical Big (host_end at) (UShort at.port) in
    let front = replicate (gap 4 (port_end at)) 0 ++ key_front k in
    ap (λ (w : Writing). w.octets) (law (begun Big) (iiop_values (iiop_to at k) []))
    ∙ ap (λ (xs : List ℕ). 0 ∷ 1 ∷ 2 ∷ host ++ (port ++ xs)) (key_laid (port_end at) k)
    ∙ ap (λ (xs : List ℕ). 0 ∷ 1 ∷ 2 ∷ host ++ xs) (sym (append_assoc port front (end_of k)))
    ∙ ap (λ (xs : List ℕ). 0 ∷ 1 ∷ 2 ∷ xs) (sym (append_assoc host (port ++ front) (end_of k)))

profile_size : (at : Endpoint) (k : ObjectKey) → length (profile_front at k ++ end_of k) ≡ length (profile_front at k) + 16
profile_size at k = length-append (profile_front at k) (end_of k)

-- ---- a reference

-- the place behind a type_id, and those behind the two numbers that follow it
abbrev type_end : List ℕ → ℕ
type_end t = 0 + length (canonical Big 0 (Text t))

abbrev count_end : List ℕ → ℕ
count_end t = type_end t + length (canonical Big (type_end t) (ULong 1))

abbrev tag_end : List ℕ → ℕ
tag_end t = count_end t + length (canonical Big (count_end t) (ULong 0))

-- the octets of a reference around its profile
abbrev around : List ℕ → List ℕ → List ℕ
around t xs = canonical Big 0 (Text t) ++ (canonical Big (type_end t) (ULong 1) ++ (canonical Big (count_end t) (ULong 0) ++ (replicate (gap 4 (tag_end t)) 0 ++ xs)))

around_more : (t xs ys : List ℕ) → around t (xs ++ ys) ≡ around t xs ++ ys
around_more t xs ys =
    let a = canonical Big 0 (Text t) in
    let b = canonical Big (type_end t) (ULong 1) in
    let c = canonical Big (count_end t) (ULong 0) in
    let d = replicate (gap 4 (tag_end t)) 0 in
    ap (λ (zs : List ℕ). a ++ (b ++ (c ++ zs))) (sym (append_assoc d xs ys))
    ∙ ap (λ (zs : List ℕ). a ++ (b ++ zs)) (sym (append_assoc c (d ++ xs) ys))
    ∙ ap (λ (zs : List ℕ). a ++ zs) (sym (append_assoc b (c ++ (d ++ xs)) ys))
    ∙ sym (append_assoc a (b ++ (c ++ (d ++ xs))) ys)

plain : (t profile : List ℕ) → canonical_all Big 0 (Text t ∷ ULong 1 ∷ ULong 0 ∷ OctetSequence profile ∷ []) ≡ around t (octets_of Big 4 (length profile) ++ profile)
plain t profile =
    ap (λ (zs : List ℕ). canonical Big 0 (Text t) ++ (canonical Big (type_end t) (ULong 1) ++ (canonical Big (count_end t) (ULong 0) ++ zs)))
    (append-nil (replicate (gap 4 (tag_end t)) 0 ++ (octets_of Big 4 (length profile) ++ profile)))

-- all in front of the number
abbrev front : List ℕ → Endpoint → ObjectKey → List ℕ
front t at k = around t (octets_of Big 4 (length (profile_front at k) + 16) ++ profile_front at k)

laid : ValuesAreWrittenCanonically → (t : List ℕ) (at : Endpoint) (k : ObjectKey) → canonical_octets (reference_to t at k) ≡ front t at k ++ end_of k
unfolding canonical_octets
laid law t at k =
    plain t (profile_to at k)
    ∙ ap (λ (xs : List ℕ). around t (octets_of Big 4 (length xs) ++ xs)) (profile_laid law at k)
    ∙ ap (λ (n : ℕ). around t (octets_of Big 4 n ++ (profile_front at k ++ end_of k))) (profile_size at k)
    ∙ around_more t (octets_of Big 4 (length (profile_front at k) + 16) ++ profile_front at k) (end_of k)

-- ---- another number

front_size : (xs : List ℕ) (k : ObjectKey) → length (xs ++ end_of k) ≡ length xs + 16
front_size xs k = length-append xs (end_of k)

name_laid : ValuesAreWrittenCanonically → (name : List ℕ) (k : ObjectKey) → reference name k ≡ front (type_of k.kind) (listening name) k ++ end_of k
unfolding reference
name_laid law name k = laid law (type_of k.kind) (listening name) k

pub has_number : ValuesAreWrittenCanonically → (name : List ℕ) (k : ObjectKey) → 16 ≤ length (reference name k)
has_number law name k = omega (arith, ap length (name_laid law name k), front_size (front (type_of k.kind) (listening name) k) k)

renumbered : (n : ℕ) (k : ObjectKey) (xs : List ℕ) (place after : ℕ) → place ≡ length xs → after ≡ place + 8
    → take place (xs ++ end_of k) ++ (big_bytes 8 n ++ drop after (xs ++ end_of k)) ≡ xs ++ end_of (numbered_as k n)
renumbered n k xs place after is behind =
    let e = end_of k in
    ap (λ (m : ℕ). take place (xs ++ e) ++ (big_bytes 8 n ++ drop m (xs ++ e))) behind
    ∙ ap (λ (ys : List ℕ). take place (xs ++ e) ++ (big_bytes 8 n ++ ys)) (sym (drop-drop 8 place (xs ++ e)))
    ∙ ap (λ (ys : List ℕ). take place (xs ++ e) ++ (big_bytes 8 n ++ drop 8 ys)) (drop_at xs e place (sym is))
    ∙ ap (λ (ys : List ℕ). ys ++ end_of (numbered_as k n)) (take_at xs e place (sym is))

-- the octets of a reference, with another number, are those of the reference to the object with that number
pub another : ValuesAreWrittenCanonically → (name : List ℕ) (k : ObjectKey) (n : ℕ) → with_number n (reference name k) ≡ reference name (numbered_as k n)
another law name k n =
    let xs = front (type_of k.kind) (listening name) k in
    let all = name_laid law name k in
    let long = front_size xs k in
    ap (λ (ys : List ℕ). with_number n ys) all
    ∙ renumbered n k xs (length (xs ++ end_of k) - 16) (length (xs ++ end_of k) - 8) (omega (arith, long)) (omega (arith, long))
    ∙ sym (name_laid law name (numbered_as k n))

-- what a write behind a place leaves
pub written : (n : ℕ) (xs part : List ℕ) (place size : ℕ) → place ≡ length xs - 16 → size ≡ length xs - place → 16 ≤ length xs
    → part ≡ big_bytes 8 n ++ drop 8 (take size (drop place xs)) → put_mid place size xs part ≡ with_number n xs
written n xs part place size is many long are =
    let behind = drop place xs in
    let count : length behind ≡ length xs - place = length-drop place xs in
    ap (λ (ys : List ℕ). take place xs ++ (ys ++ drop size behind)) are
    ∙ ap (λ (ys : List ℕ). take place xs ++ ((big_bytes 8 n ++ drop 8 (take size behind)) ++ ys)) (drop_all size behind (omega (arith, count, many)))
    ∙ ap (λ (ys : List ℕ). take place xs ++ ys) (append-nil (big_bytes 8 n ++ drop 8 (take size behind)))
    ∙ ap (λ (ys : List ℕ). take place xs ++ (big_bytes 8 n ++ drop 8 ys)) (take_all size behind (omega (arith, count, many)))
    ∙ ap (λ (ys : List ℕ). take place xs ++ (big_bytes 8 n ++ ys)) (drop-drop 8 place xs)
    ∙ ap (λ (m : ℕ). take place xs ++ (big_bytes 8 n ++ drop m xs)) (omega (arith, is, long))
    ∙ ap (λ (m : ℕ). take m xs ++ (big_bytes 8 n ++ drop (length xs - 8) xs)) is
