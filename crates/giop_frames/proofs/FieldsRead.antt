-- Targets and contexts: what is read is spelled so, and what is spelled so is read.
use Rattle.std.proofs.Common.{◌≡◌, ℕ, ◌≤◌, true, cond, ltb, leb, eqb, List, [], ◌∷◌, length, Result, Ok, Err, refl, sym, ap, subst, inl, inr}
use Rattle.std.specs.List.{list_all}
use Rattle.std.proofs.lemmas.Bool.{ltb-false, le-ltb, leb-true, le-leb, eqb-true, and_parts}
use Rattle.cdr_values.specs.Value.{Value, UShort, ULong, OctetSequence}
use Rattle.cdr_values.specs.Reading.{Reading, Reads, ushort_at, ulong_at, octets_at}
use Rattle.cdr_values.specs.Values.{ReadsAll}
use Rattle.cdr_values.specs.Sequence.{IsExact, allows_sequence}
use Rattle.cdr_values.specs.Tagged.{reference_at, reference_values, tagged_at, tagged_values}
use Rattle.giop_frames.specs.declared.fault.FrameFault.{FrameFault}
use Rattle.giop_frames.specs.declared.fault.FrameFault.TheVariants.{BadType}
use Rattle.giop_frames.specs.declared.message.Target.{Target}
use Rattle.giop_frames.specs.declared.message.Target.TheVariants.{Key, Profile, Reference}
use Rattle.giop_frames.specs.declared.message.ServiceContext.{ServiceContext}
use Rattle.giop_frames.specs.Fault.{fault_of, too_long}
use Rattle.giop_frames.specs.Layout.{IsTarget, context_values, contexts_values}
use Rattle.giop_frames.specs.Content.{key_at, profile_at, indexed_at, target_at, context_at, contexts_at}
use Rattle.giop_frames.specs.ContentInside.{FieldLaws}
use Rattle.giop_frames.specs.Limits.{context_limit, key_limit, profile_limit}
use Rattle.giop_frames.proofs.Given.{read_is, bind_ok, field_ok, guard_ok, which}

-- ---- keys

-- a key that is read stands there
key_found : FieldLaws → (r : Reading) (t : Target) (behind : Reading) → key_at r ≡ Ok (t, behind) → (key : List ℕ) × (Key key ≡ t) × (length key ≤ key_limit) × Reads r (OctetSequence key) behind
unfolding key_at
key_found laws r t behind e =
    let a = field_ok (octets_at r) _ (t, behind) e in
    let key = a.0.0 in
    let g = guard_ok (ltb key_limit (length key)) (too_long r.place (length key)) (Ok (Key key, a.0.1)) (t, behind) a.2 in
    let same = read_is (Key key) a.0.1 t behind g.1 in
    (key, same.0, ltb-false _ _ g.0, subst (λ (b : Reading). Reads r (OctetSequence key) b) same.1 (laws.values.octets.found r key a.0.1 a.1))

-- and a key that stands there is read
key_only : FieldLaws → (r : Reading) (key : List ℕ) (behind : Reading) → length key ≤ key_limit → Reads r (OctetSequence key) behind → key_at r ≡ Ok (Key key, behind)
unfolding key_at
key_only laws r key behind few h = rw (laws.values.octets.only r key behind h, le-ltb key_limit (length key) few) refl

-- ---- profiles and references

-- a profile that is passed over stands there
profile_found : FieldLaws → (r : Reading) (t : Target) (behind : Reading) → profile_at r ≡ Ok (t, behind) → (profile : ℕ × List ℕ) × (Profile ≡ t) × ReadsAll r (tagged_values profile) behind
unfolding profile_at
profile_found laws r t behind e =
    let a = bind_ok (tagged_at fault_of r) _ (t, behind) e in
    let same = read_is Profile a.0.1 t behind a.2 in
    let stood = ((laws.tagged.tagged fault_of).found r a.0.0 a.0.1 a.1).0 in
    (a.0.0, same.0, subst (λ (b : Reading). ReadsAll r (tagged_values a.0.0) b) same.1 stood)

-- and a profile that stands there is passed over
profile_only : FieldLaws → (r : Reading) (profile : ℕ × List ℕ) (behind : Reading) → ReadsAll r (tagged_values profile) behind → profile_at r ≡ Ok (Profile, behind)
unfolding profile_at
profile_only laws r profile behind h = rw ((laws.tagged.tagged fault_of).only r profile behind h refl) refl

-- a reference stands there, with its index
record IsReference (r behind : Reading) : Type 0 where
  index : ℕ
  reference : List ℕ × List (ℕ × List ℕ)
  few : length reference.1 ≤ profile_limit
  read : ReadsAll r (ULong index ∷ reference_values reference) behind

-- a reference that is passed over stands there
reference_found : FieldLaws → (r : Reading) (t : Target) (behind : Reading) → indexed_at r ≡ Ok (t, behind) → (Reference ≡ t) × IsReference r behind
unfolding indexed_at
reference_found laws r t behind e =
    let a = field_ok (ulong_at r) _ (t, behind) e in
    let b = bind_ok (reference_at profile_limit fault_of too_long a.0.1) _ (t, behind) a.2 in
    let same = read_is Reference b.0.1 t behind b.2 in
    let p = (laws.tagged.reference profile_limit fault_of too_long).found a.0.1 b.0.0 b.0.1 b.1 in
    let stood = subst (λ (x : Reading). ReadsAll a.0.1 (reference_values b.0.0) x) same.1 p.0 in (
      same.0,
      record {
        index = a.0.0;
        reference = b.0.0;
        few = leb-true (length b.0.0.1) profile_limit p.1;
        read = (a.0.1, laws.values.ulong.found r a.0.0 a.0.1 a.1, stood);
      },
    )

-- and a reference that stands there is passed over
reference_only : FieldLaws → (r behind : Reading) → IsReference r behind → indexed_at r ≡ Ok (Reference, behind)
unfolding indexed_at
reference_only laws r behind is =
    let h = is.read in
    let few = le-leb (length is.reference.1) profile_limit is.few in
    rw (laws.values.ulong.only r is.index h.0 h.1, (laws.tagged.reference profile_limit fault_of too_long).only h.0 is.reference behind h.2 few) refl

-- ---- targets

-- a reference, where the number tells one
abbrev of_reference : ℕ → Reading → Result (Target × Reading) FrameFault
of_reference way r = cond (eqb way 2) (indexed_at r) (Err BadType)

-- a profile, where the number tells one, or else a reference
abbrev of_profile : ℕ → Reading → Result (Target × Reading) FrameFault
of_profile way r = cond (eqb way 1) (profile_at r) (of_reference way r)

-- a target behind the number that tells which it is
abbrev of_way : ℕ → Reading → Result (Target × Reading) FrameFault
of_way way r = cond (eqb way 0) (key_at r) (of_profile way r)

-- a target that is read behind that number stands there
way_found : FieldLaws → (way : ℕ) (r : Reading) (t : Target) (behind : Reading) → of_way way r ≡ Ok (t, behind) → (values : List Value) × IsTarget t (UShort way ∷ values) × ReadsAll r values behind
way_found laws way r t behind e =
    elim (which (eqb way 0) (key_at r) (of_profile way r) (t, behind) e) [
      | inl p ↦
          let k = key_found laws r t behind p.1 in
          let values = OctetSequence k.0 ∷ [] in
          let begun : UShort way ∷ values ≡ UShort 0 ∷ values = ap (λ (n : ℕ). UShort n ∷ values) (eqb-true _ _ p.0) in
          (values, subst (λ (x : Target). IsTarget x (UShort way ∷ values)) k.1 (begun, k.2), (behind, k.3, refl))
      | inr p ↦
          elim (which (eqb way 1) (profile_at r) (of_reference way r) (t, behind) p.1) [
            | inl q ↦
                let k = profile_found laws r t behind q.1 in
                let values = tagged_values k.0 in
                let begun : UShort way ∷ values ≡ UShort 1 ∷ values = ap (λ (n : ℕ). UShort n ∷ values) (eqb-true _ _ q.0) in
                (values, subst (λ (x : Target). IsTarget x (UShort way ∷ values)) k.1 (k.0, begun), k.2)
            | inr q ↦
                elim (which (eqb way 2) (indexed_at r) (Err BadType) (t, behind) q.1) [
                  | inl s ↦
                      let k = reference_found laws r t behind s.1 in
                      let is = k.1 in
                      let values = ULong is.index ∷ reference_values is.reference in
                      let begun : UShort way ∷ values ≡ UShort 2 ∷ values = ap (λ (n : ℕ). UShort n ∷ values) (eqb-true _ _ s.0) in
                      (values, subst (λ (x : Target). IsTarget x (UShort way ∷ values)) k.0 (is.index, is.reference, is.few, begun), is.read)
                  | inr s ↦ absurd cc
                ]
          ]
    ]

-- a target that is read stands there
pub target_found : FieldLaws → (r : Reading) (t : Target) (behind : Reading) → target_at r ≡ Ok (t, behind) → (values : List Value) × IsTarget t values × ReadsAll r values behind
unfolding target_at
target_found laws r t behind e =
    let a = field_ok (ushort_at r) _ (t, behind) e in
    let w = way_found laws a.0.0 a.0.1 t behind a.2 in
    (UShort a.0.0 ∷ w.0, w.1, (a.0.1, laws.values.ushort.found r a.0.0 a.0.1 a.1, w.2))

-- and a target that stands there is read
pub target_only : FieldLaws → (t : Target) (values : List Value) (r behind : Reading) → IsTarget t values → ReadsAll r values behind → target_at r ≡ Ok (t, behind)
unfolding target_at
target_only laws (Key key) values r behind is h =
    let k : ReadsAll r (UShort 0 ∷ OctetSequence key ∷ []) behind = subst (λ (x : List Value). ReadsAll r x behind) is.0 h in
    let last : Reads k.0 (OctetSequence key) behind = subst (λ (x : Reading). Reads k.0 (OctetSequence key) x) (sym k.2.2) k.2.1 in
    rw (laws.values.ushort.only r 0 k.0 k.1) (key_only laws k.0 key behind is.1 last)
target_only laws Profile values r behind is h =
    let k : ReadsAll r (UShort 1 ∷ tagged_values is.0) behind = subst (λ (x : List Value). ReadsAll r x behind) is.1 h in
    rw (laws.values.ushort.only r 1 k.0 k.1) (profile_only laws k.0 is.0 behind k.2)
target_only laws Reference values r behind is h =
    let k : ReadsAll r (UShort 2 ∷ ULong is.0 ∷ reference_values is.1) behind = subst (λ (x : List Value). ReadsAll r x behind) is.3 h in
    rw (laws.values.ushort.only r 2 k.0 k.1) (reference_only laws k.0 behind (record { index = is.0; reference = is.1; few = is.2; read = k.2 }))

-- ---- contexts

-- a context that is read stands there
context_found : FieldLaws → (r : Reading) (c : ServiceContext) (behind : Reading) → context_at r ≡ Ok (c, behind) → ReadsAll r (context_values c) behind
unfolding context_at
context_found laws r c behind e =
    let a = bind_ok (tagged_at fault_of r) _ (c, behind) e in
    let same = read_is (record { id = a.0.0.0; bytes = a.0.0.1 }) a.0.1 c behind a.2 in
    let stood = ((laws.tagged.tagged fault_of).found r a.0.0 a.0.1 a.1).0 in
    let ended = subst (λ (b : Reading). ReadsAll r (tagged_values a.0.0) b) same.1 stood in
    subst (λ (x : ServiceContext). ReadsAll r (context_values x) behind) same.0 ended

-- and a context that stands there is read
context_only : FieldLaws → (r : Reading) (c : ServiceContext) (behind : Reading) → ReadsAll r (context_values c) behind → context_at r ≡ Ok (c, behind)
unfolding context_at
context_only laws r c behind h = rw ((laws.tagged.tagged fault_of).only r (c.id, c.bytes) behind h refl) refl

-- each context is allowed
all_contexts : (cs : List ServiceContext) → list_all (λ context. true) cs ≡ true
all_contexts [] = refl
all_contexts (c ∷ cs) = all_contexts cs

contexts_exact : FieldLaws → IsExact contexts_at contexts_values (allows_sequence context_limit (λ (context : ServiceContext). true))
contexts_exact laws =
    let one : IsExact context_at context_values (λ (context : ServiceContext). true) = record {
      found = λ r c behind e. (context_found laws r c behind e, refl);
      only = λ r c behind h all. context_only laws r c behind h;
    } in
    laws.contexts context_values (λ (context : ServiceContext). true) context_at context_limit fault_of too_long one

-- contexts that are read stand there, behind their count
pub contexts_found : FieldLaws → (r : Reading) (cs : List ServiceContext) (behind : Reading) → contexts_at r ≡ Ok (cs, behind) → (length cs ≤ context_limit) × ReadsAll r (contexts_values cs) behind
contexts_found laws r cs behind e =
    let p = (contexts_exact laws).found r cs behind e in
    let few = and_parts (leb (length cs) context_limit) (list_all (λ (context : ServiceContext). true) cs) p.1 in
    (leb-true (length cs) context_limit few.0, p.0)

-- and contexts that stand there are read
pub contexts_only : FieldLaws → (r : Reading) (cs : List ServiceContext) (behind : Reading) → length cs ≤ context_limit → ReadsAll r (contexts_values cs) behind → contexts_at r ≡ Ok (cs, behind)
contexts_only laws r cs behind few h =
    let all : allows_sequence context_limit (λ (context : ServiceContext). true) cs ≡ true = rw (le-leb (length cs) context_limit few, all_contexts cs) refl in
    (contexts_exact laws).only r cs behind h all
