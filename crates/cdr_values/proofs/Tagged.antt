-- Octets with a tag, and references, are read exactly where their values stand.
use Rattle.std.proofs.Common.{◌≡◌, ℕ, true, ◌&&◌, leb, List, [], ◌∷◌, length, Ok, refl, sym, ap, subst}
use Rattle.std.specs.List.{list_all}
use Rattle.std.proofs.lemmas.Bool.{and_parts}
use Rattle.cdr_values.specs.declared.fault.CdrFault.{CdrFault}
use Rattle.cdr_values.specs.Values.{ReadsAll}
use Rattle.cdr_values.specs.Reading.{Reading, ◌>>=◌, ulong_at, octets_at, string_at}
use Rattle.cdr_values.specs.Sequence.{IsExact, fault_as, sequence_at}
use Rattle.cdr_values.specs.Tagged.{TaggedLaws, tagged_at, tagged_values, reference_at, reference_values, allows_reference}
use Rattle.cdr_values.proofs.Given.{ok_is, bind_ok}
use Rattle.cdr_values.proofs.Exact.{ulong_exact, octets_exact, string_exact}
use Rattle.cdr_values.proofs.Sequence.{sequences_exact, value_is}

-- octets with a tag, and what stands behind them
abbrev Tagged : Type 0
Tagged = ℕ × List ℕ

tagged_found : {F : Type 0} (as_fault : CdrFault → F) (r : Reading) (x : Tagged) (behind : Reading) → tagged_at as_fault r ≡ Ok (x, behind) → ReadsAll r (tagged_values x) behind
unfolding tagged_at
tagged_found as_fault r x behind e =
    let a = bind_ok (fault_as as_fault (ulong_at r)) (λ tag. fault_as as_fault (octets_at tag.1) >>= λ octets. Ok ((tag.0, octets.0), octets.1)) (x, behind) e in
    let b = bind_ok (fault_as as_fault (octets_at a.0.1)) (λ octets. Ok ((a.0.0, octets.0), octets.1)) (x, behind) a.2 in
    let one = ulong_exact.found r a.0.0 a.0.1 (value_is as_fault (ulong_at r) a.0 a.1) in
    let two = octets_exact.found a.0.1 b.0.0 b.0.1 (value_is as_fault (octets_at a.0.1) b.0 b.1) in
    subst (λ (p : Tagged × Reading). ReadsAll r (tagged_values p.0) p.1) (ok_is ((a.0.0, b.0.0), b.0.1) (x, behind) b.2) (a.0.1, one, (b.0.1, two, refl))

tagged_only : {F : Type 0} (as_fault : CdrFault → F) (r : Reading) (x : Tagged) (behind : Reading) → ReadsAll r (tagged_values x) behind → tagged_at as_fault r ≡ Ok (x, behind)
unfolding tagged_at
tagged_only as_fault r x behind h =
    let two = h.2 in
    rw (ulong_exact.only r x.0 h.0 h.1, octets_exact.only h.0 x.1 two.0 two.1) (ap (λ (s : Reading). Ok (x, s)) (sym two.2))

tagged_exact : {F : Type 0} (as_fault : CdrFault → F) → IsExact (tagged_at as_fault) tagged_values (λ tagged. true)
tagged_exact as_fault = record {
  found = λ r x behind e. (tagged_found as_fault r x behind e, refl);
  only = λ r x behind h all. tagged_only as_fault r x behind h;
}

-- each one with a tag is allowed
all_tagged : (xs : List Tagged) → list_all (λ tagged. true) xs ≡ true
all_tagged [] = refl
all_tagged (x ∷ xs) = all_tagged xs

-- a type_id and profiles
abbrev Reference : Type 0
Reference = List ℕ × List Tagged

reference_found : {F : Type 0} (limit : ℕ) (as_fault : CdrFault → F) (too_many : ℕ → ℕ → F) (r : Reading) (x : Reference) (behind : Reading) → reference_at limit as_fault too_many r ≡ Ok (x, behind) → ReadsAll r (reference_values x) behind × (allows_reference limit x ≡ true)
unfolding reference_at
reference_found {F = F} limit as_fault too_many r x behind e =
    let a = bind_ok (fault_as as_fault (string_at r)) (λ type_id. sequence_at limit as_fault too_many (tagged_at as_fault) type_id.1 >>= λ profiles. Ok ((type_id.0, profiles.0), profiles.1)) (x, behind) e in
    let b = bind_ok (sequence_at limit as_fault too_many (tagged_at as_fault) a.0.1) (λ profiles. Ok ((a.0.0, profiles.0), profiles.1)) (x, behind) a.2 in
    let one = string_exact.found r a.0.0 a.0.1 (value_is as_fault (string_at r) a.0 a.1) in
    let law = sequences_exact Tagged F tagged_values (λ tagged. true) (tagged_at as_fault) limit as_fault too_many (tagged_exact as_fault) in
    let two = law.found a.0.1 b.0.0 b.0.1 b.1 in
    let few = and_parts (leb (length b.0.0) limit) (list_all (λ tagged. true) b.0.0) two.1 in
    subst (λ (p : Reference × Reading). ReadsAll r (reference_values p.0) p.1 × (allows_reference limit p.0 ≡ true)) (ok_is ((a.0.0, b.0.0), b.0.1) (x, behind) b.2) ((a.0.1, one, two.0), few.0)

reference_only : {F : Type 0} (limit : ℕ) (as_fault : CdrFault → F) (too_many : ℕ → ℕ → F) (r : Reading) (x : Reference) (behind : Reading) → ReadsAll r (reference_values x) behind → allows_reference limit x ≡ true → reference_at limit as_fault too_many r ≡ Ok (x, behind)
unfolding reference_at
reference_only {F = F} limit as_fault too_many r x behind h few =
    let law = sequences_exact Tagged F tagged_values (λ tagged. true) (tagged_at as_fault) limit as_fault too_many (tagged_exact as_fault) in
    let all : (leb (length x.1) limit && list_all (λ (tagged : Tagged). true) x.1) ≡ true = rw (few, all_tagged x.1) refl in
    rw (string_exact.only r x.0 h.0 h.1, law.only h.0 x.1 behind h.2 all) refl

pub tagged_laws : (F : Type 0) → TaggedLaws F
tagged_laws F = record {
  tagged = tagged_exact;
  reference = λ limit as_fault too_many. record {
    found = λ r x behind e. reference_found limit as_fault too_many r x behind e;
    only = λ r x behind h few. reference_only limit as_fault too_many r x behind h few;
  };
}
