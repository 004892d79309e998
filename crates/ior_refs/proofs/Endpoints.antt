-- IIOP profiles are read exactly where their values stand.
use Rattle.std.proofs.Common.{◌≡◌, ℕ, ◌+◌, ◌<◌, ◌≤◌, arith, None, Bool, true, false, ◌&&◌, cond, eqb, leb, List, [], ◌∷◌, length, Result, Ok, Err, refl, sym, ap, subst}
use Rattle.std.specs.List.{list_all}
use Rattle.std.proofs.lemmas.List.{append-nil}
use Rattle.cdr_values.specs.declared.order.Order.TheVariants.{Big}
use Rattle.cdr_values.specs.Again.{AllFit, standing, ValuesAreReadAgain}
use Rattle.cdr_values.specs.Encapsulation.{begun, opened}
use Rattle.cdr_values.specs.Writing.{Writing}
use Rattle.ots_model.specs.declared.service.Endpoint.{Endpoint}
use Rattle.ior_refs.specs.Making.{iiop_to, profile_to, reference_to, refusal_to}
use Rattle.ior_refs.specs.declared.key.ObjectKey.{ObjectKey}
use Rattle.ior_refs.proofs.Short.{with_values-is}
use Rattle.ior_refs.proofs.Made.{not_refused}
use Rattle.cdr_values.specs.Value.{has_nul}
use Rattle.cdr_values.specs.Reading.{Reading, ◌>>=◌, octet_at, ushort_at, octets_at, string_at}
use Rattle.cdr_values.specs.Values.{ReadsAll, canonical_all}
use Rattle.cdr_values.specs.Laws.{ReadingLaws}
use Rattle.cdr_values.specs.Sequence.{SequencesAreExact, fault_as, sequence_values}
use Rattle.cdr_values.specs.Tagged.{TaggedLaws, tagged_at, tagged_values}
use Rattle.ior_refs.specs.Limits.{count_limit}
use Rattle.ior_refs.specs.Reference.{Tagged}
use Rattle.ior_refs.specs.Fault.{fault_of, too_many}
use Rattle.ior_refs.specs.Reading.{each_tagged_at, whole}
use Rattle.ior_refs.specs.Iiop.{IsProfile, components_at, components_values, has_components, iiop_at, iiop_in, iiop_in_octets, iiop_values}
use Rattle.ior_refs.specs.Laws.{IiopLaws}
use Rattle.ior_refs.specs.declared.fault.IorFault.{IorFault}
use Rattle.ior_refs.specs.declared.fault.IorFault.TheVariants.{Rest}
use Rattle.std.proofs.lemmas.Bool.{and_parts}
use Rattle.ior_refs.specs.declared.profile.Iiop.{Iiop}
use Rattle.ior_refs.proofs.Exact.{bind_ok, ok_is}
use Rattle.ior_refs.proofs.Texts.{value_is, pass_ok, nothing_is, opened_found, opened_only}

-- the laws that it rests on
pub record Laws : Type 0 where
  pub reading : ReadingLaws
  pub tagged : TaggedLaws IorFault
  pub sequences : SequencesAreExact Tagged IorFault
  pub again : ValuesAreReadAgain

all_tagged : (xs : List Tagged) → list_all (λ tagged. true) xs ≡ true
all_tagged [] = refl
all_tagged (x ∷ xs) = all_tagged xs

components_found : Laws → (b : Bool) (r behind : Reading) → components_at b r ≡ Ok (tt, behind) → (components : List Tagged) × (leb (length components) 65536 ≡ true) × ReadsAll r (components_values b components) behind
unfolding components_at each_tagged_at
components_found laws true r behind e =
    let law = laws.sequences tagged_values (λ tagged. true) (tagged_at fault_of) count_limit fault_of too_many (laws.tagged.tagged fault_of) in
    let a = bind_ok (each_tagged_at r) (λ components. Ok (tt, components.1)) (tt, behind) e in
    let same : a.0.1 ≡ behind = ap (λ (p : Unit {0} × Reading). p.1) (ok_is {F = IorFault} (tt, a.0.1) (tt, behind) a.2) in
    let stand = law.found r a.0.0 a.0.1 a.1 in
    let few = and_parts (leb (length a.0.0) 65536) (list_all (λ (tagged : Tagged). true) a.0.0) stand.1 in
    (a.0.0, few.0, subst (λ (s : Reading). ReadsAll r (sequence_values tagged_values a.0.0) s) same stand.0)
components_found laws false r behind e =
    let same : r ≡ behind = ap (λ (p : Unit {0} × Reading). p.1) (ok_is {F = IorFault} (tt, r) (tt, behind) e) in
    ([], refl, sym same)

components_only : Laws → (b : Bool) (r : Reading) (components : List Tagged) (behind : Reading) → ReadsAll r (components_values b components) behind → leb (length components) 65536 ≡ true → components_at b r ≡ Ok (tt, behind)
unfolding components_at each_tagged_at
components_only laws true r components behind h few =
    let law = laws.sequences tagged_values (λ tagged. true) (tagged_at fault_of) count_limit fault_of too_many (laws.tagged.tagged fault_of) in
    let all : (leb (length components) 65536 && list_all (λ (tagged : Tagged). true) components) ≡ true = rw (few, all_tagged components) refl in
    rw (law.only r components behind h all) refl
components_only laws false r components behind h few = ap (λ (s : Reading). Ok (tt, s)) (sym h)

-- an Iiop of these fields
abbrev iiop_of : ℕ → ℕ → List ℕ → ℕ → List ℕ → Iiop
iiop_of a b h p k = record { major = a; minor = b; host = h; port = p; key = k }

-- what is read behind each field
abbrev behind_key : ℕ → ℕ → List ℕ → ℕ → List ℕ × Reading → Result (Iiop × Reading) IorFault
behind_key a b h p key = components_at (has_components a b) key.1 >>= λ components. Ok (iiop_of a b h p key.0, components.1)

abbrev behind_port : ℕ → ℕ → List ℕ → ℕ × Reading → Result (Iiop × Reading) IorFault
behind_port a b h port = fault_as fault_of (octets_at port.1) >>= behind_key a b h port.0

abbrev behind_host : ℕ → ℕ → List ℕ × Reading → Result (Iiop × Reading) IorFault
behind_host a b host = fault_as fault_of (ushort_at host.1) >>= behind_port a b host.0

abbrev behind_minor : ℕ → ℕ × Reading → Result (Iiop × Reading) IorFault
behind_minor a minor = fault_as fault_of (string_at minor.1) >>= behind_host a minor.0

abbrev behind_major : ℕ × Reading → Result (Iiop × Reading) IorFault
behind_major major = fault_as fault_of (octet_at major.1) >>= behind_minor major.0

found : Laws → (r : Reading) (i : Iiop) (behind : Reading) → iiop_at r ≡ Ok (i, behind) → (components : List Tagged) × (leb (length components) 65536 ≡ true) × ReadsAll r (iiop_values i components) behind
unfolding iiop_at
found laws r i behind e =
    let a = bind_ok (fault_as fault_of (octet_at r)) behind_major (i, behind) e in
    let b = bind_ok (fault_as fault_of (octet_at a.0.1)) (behind_minor a.0.0) (i, behind) a.2 in
    let h = bind_ok (fault_as fault_of (string_at b.0.1)) (behind_host a.0.0 b.0.0) (i, behind) b.2 in
    let p = bind_ok (fault_as fault_of (ushort_at h.0.1)) (behind_port a.0.0 b.0.0 h.0.0) (i, behind) h.2 in
    let k = bind_ok (fault_as fault_of (octets_at p.0.1)) (behind_key a.0.0 b.0.0 h.0.0 p.0.0) (i, behind) p.2 in
    let whole : Iiop = iiop_of a.0.0 b.0.0 h.0.0 p.0.0 k.0.0 in
    let c = bind_ok (components_at (has_components a.0.0 b.0.0) k.0.1) (λ components. Ok (whole, components.1)) (i, behind) k.2 in
    let components = components_found laws (has_components a.0.0 b.0.0) k.0.1 c.0.1 c.1 in
    let one = laws.reading.octet.found r a.0.0 a.0.1 (value_is (octet_at r) a.0 a.1) in
    let two = laws.reading.octet.found a.0.1 b.0.0 b.0.1 (value_is (octet_at a.0.1) b.0 b.1) in
    let three = laws.reading.string.found b.0.1 h.0.0 h.0.1 (value_is (string_at b.0.1) h.0 h.1) in
    let four = laws.reading.ushort.found h.0.1 p.0.0 p.0.1 (value_is (ushort_at h.0.1) p.0 p.1) in
    let five = laws.reading.octets.found p.0.1 k.0.0 k.0.1 (value_is (octets_at p.0.1) k.0 k.1) in
    let stand : (components : List Tagged) × (leb (length components) 65536 ≡ true) × ReadsAll r (iiop_values whole components) c.0.1 = (components.0, components.1, (a.0.1, one, (b.0.1, two, (h.0.1, three, (p.0.1, four, (k.0.1, five, components.2)))))) in
    subst (λ (q : Iiop × Reading). (components : List Tagged) × (leb (length components) 65536 ≡ true) × ReadsAll r (iiop_values q.0 components) q.1) (ok_is {F = IorFault} (whole, c.0.1) (i, behind) c.2) stand

only : Laws → (r : Reading) (i : Iiop) (components : List Tagged) (behind : Reading) → ReadsAll r (iiop_values i components) behind → leb (length components) 65536 ≡ true → iiop_at r ≡ Ok (i, behind)
unfolding iiop_at
only laws r i components behind h few =
    let one = laws.reading.octet.only r i.major h.0 h.1 in
    let two = laws.reading.octet.only h.0 i.minor h.2.0 h.2.1 in
    let three = laws.reading.string.only h.2.0 i.host h.2.2.0 h.2.2.1 in
    let four = laws.reading.ushort.only h.2.2.0 i.port h.2.2.2.0 h.2.2.2.1 in
    let five = laws.reading.octets.only h.2.2.2.0 i.key h.2.2.2.2.0 h.2.2.2.2.1 in
    let six = components_only laws (has_components i.major i.minor) h.2.2.2.2.0 components behind h.2.2.2.2.2 few in
    rw (one, two, three, four, five, six) refl

-- octets that are read as a profile are one
profile_found : Laws → (octets : List ℕ) (i : Iiop) → iiop_in_octets octets ≡ Ok i → IsProfile i octets
unfolding iiop_in_octets
profile_found laws octets i e =
    let a = bind_ok (fault_as fault_of (opened octets)) (whole iiop_at) i e in
    let b = bind_ok (iiop_at a.0) (λ found. cond (eqb (length found.1.rest) 0) (Ok found.0) (Err (Rest found.1.place))) i a.2 in
    let d = pass_ok (eqb (length b.0.1.rest) 0) (Rest b.0.1.place) (Ok b.0.0) i b.2 in
    let stand = found laws a.0 b.0.0 b.0.1 b.1 in
    let same : b.0.0 ≡ i = ok_is {F = IorFault} b.0.0 i d.1 in
    let reads = subst (λ (x : Iiop). ReadsAll a.0 (iiop_values x stand.0) b.0.1) same stand.2 in
    record {
      components = stand.0;
      few = stand.1;
      reader = a.0;
      opened = opened_found octets a.0 (value_is (opened octets) a.0 a.1);
      whole = record { behind = b.0.1; reads = reads; nothing = nothing_is b.0.1.rest d.0 };
    }

-- and octets that are one are read
profile_only : Laws → (octets : List ℕ) (i : Iiop) → IsProfile i octets → iiop_in_octets octets ≡ Ok i
unfolding iiop_in_octets
profile_only laws octets i h =
    let size : length h.whole.behind.rest ≡ 0 = ap length h.whole.nothing in
    rw (opened_only octets h.reader h.opened, only laws h.reader i h.components h.whole.behind h.whole.reads h.few, size) refl

-- the profile of an object is an encapsulation
profile_is : (at : Endpoint) (key : ObjectKey) → profile_to at key ≡ 0 ∷ canonical_all Big 1 (iiop_values (iiop_to at key) [])
unfolding profile_to
profile_is at key = ap (λ (w : Writing). w.octets) (with_values-is (begun Big) (iiop_values (iiop_to at key) []))

-- and says where it is
made_found : Laws → (at : Endpoint) (key : ObjectKey) → at.port < 65536 → has_nul at.host ≡ false → length at.host ≤ 1024 → iiop_in_octets (profile_to at key) ≡ Ok (iiop_to at key)
unfolding iiop_in_octets
made_found laws at key port text few =
    let values = iiop_values (iiop_to at key) [] in
    let octets = canonical_all Big 1 values in
    let fit : AllFit values = (omega arith, (omega arith, ((omega arith, text), (port, (omega arith, (omega arith, tt)))))) in
    let behind = standing Big (1 + length octets) [] in
    let reads : ReadsAll (standing Big 1 octets) values behind = subst (λ (xs : List ℕ). ReadsAll (standing Big 1 xs) values behind) (append-nil octets) (laws.again Big 1 values [] fit) in
    rw (profile_is at key, only laws (standing Big 1 octets) (iiop_to at key) [] behind reads refl) refl

made : Laws → (type_id : List ℕ) (at : Endpoint) (key : ObjectKey) → at.port < 65536 → refusal_to type_id at key ≡ None → iiop_in (reference_to type_id at key) ≡ Ok (iiop_to at key)
unfolding iiop_in
made laws type_id at key port e =
    let good = not_refused type_id at key e in
    made_found laws at key port good.0 good.1

pub iiop_laws : Laws → IiopLaws
iiop_laws laws = record {
  found = λ r i behind e. found laws r i behind e;
  only = λ r i components behind h few. only laws r i components behind h few;
  whole = λ octets i. (λ e. profile_found laws octets i e, λ h. profile_only laws octets i h);
  made = λ type_id at key port e. made laws type_id at key port e;
}
