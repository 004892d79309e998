-- Octets, booleans and numbers: what is read is spelled so, and what is spelled so is read.
use Rattle.std.proofs.Common.{◌≡◌, ℕ, zero, suc, ◌≤◌, Bool, true, false, cond, ltb, eqb, List, [], ◌∷◌, length, Ok, Err, refl, ap, subst, ◌∙◌, arith}
use Rattle.std.specs.Prelude.{slice_index}
use Rattle.std.proofs.lemmas.Bool.{ltb-false}
use Rattle.cdr_values.specs.declared.fault.CdrFault.TheVariants.{BadBoolean}
use Rattle.cdr_values.specs.Value.{Octet, Boolean, number_in, IsNumber}
use Rattle.cdr_values.specs.Reading.{Reading, Reads, sized_at, octet_at, boolean_at, number_at}
use Rattle.cdr_values.proofs.Given.{ok_is, bind_ok, guard_ok}
use Rattle.cdr_values.proofs.Standing.{Stands, reads_from, stands_from, sized_found, sized_only}

-- a number that is read stands there
pub number_found : (n x : ℕ) (r behind : Reading) → number_at n r ≡ Ok (x, behind) → (octets : List ℕ) × Stands n r octets behind × IsNumber r.order n x octets
unfolding number_at
number_found n x r behind e =
    let b = bind_ok (sized_at n r) (λ octets. Ok (number_in r.order n octets.0, octets.1)) (x, behind) e in
    let s = sized_found n r b.0.0 b.0.1 b.1 in
    let is = ok_is (number_in r.order n b.0.0, b.0.1) (x, behind) b.2 in
    subst (λ (p : ℕ × Reading). (octets : List ℕ) × Stands n r octets p.1 × IsNumber r.order n p.0 octets) is (b.0.0, s.0, record { size = s.1; value = refl })

-- and where it stands it is read
pub number_only : (n x : ℕ) (r behind : Reading) (octets : List ℕ) → Stands n r octets behind → IsNumber r.order n x octets → number_at n r ≡ Ok (x, behind)
unfolding number_at
number_only n x r behind octets s is =
    rw (sized_only n r octets behind is.size s) (ap (λ (y : ℕ). Ok (y, behind)) is.value)

-- a list of one item
one_item : (xs : List ℕ) → length xs ≡ 1 → xs ≡ slice_index xs 0 ∷ []
one_item [] e = absurd (omega arith)
one_item (x ∷ []) e = refl
one_item (x ∷ y ∷ xs) e = absurd (omega arith)

-- an octet that is read stands there
pub octet_found : (x : ℕ) (r behind : Reading) → octet_at r ≡ Ok (x, behind) → Reads r (Octet x) behind
unfolding octet_at
octet_found x r behind e =
    let b = bind_ok (sized_at 1 r) (λ octets. Ok (slice_index octets.0 0, octets.1)) (x, behind) e in
    let s = sized_found 1 r b.0.0 b.0.1 b.1 in
    let is = ok_is (slice_index b.0.0 0, b.0.1) (x, behind) b.2 in
    subst (λ (p : ℕ × Reading). Reads r (Octet p.0) p.1) is (reads_from (Octet (slice_index b.0.0 0)) r b.0.0 b.0.1 s.0 (one_item b.0.0 s.1))

-- and where it stands it is read
pub octet_only : (x : ℕ) (r behind : Reading) → Reads r (Octet x) behind → octet_at r ≡ Ok (x, behind)
unfolding octet_at
octet_only x r behind h =
    let s = stands_from (Octet x) r behind h in
    rw (sized_only 1 r h.spelled.bare behind (ap length h.spelled.is_bare) s) (ap (λ (xs : List ℕ). Ok (slice_index xs 0, behind)) h.spelled.is_bare)

-- the octet of a boolean
bit_of : (x : ℕ) → x ≤ 1 → x ≡ cond (eqb x 1) 1 0
bit_of zero h = refl
bit_of (suc zero) h = refl
bit_of (suc (suc x)) h = absurd (omega arith)

-- a boolean that is read stands there, as its octet
pub boolean_found : (x : Bool) (r behind : Reading) → boolean_at r ≡ Ok (x, behind) → Reads r (Boolean x) behind
unfolding boolean_at
boolean_found x r behind e =
    let b = bind_ok (octet_at r) (λ octet. cond (ltb 1 octet.0) (Err (BadBoolean r.place)) (Ok (eqb octet.0 1, octet.1))) (x, behind) e in
    let q = guard_ok (ltb 1 b.0.0) (BadBoolean r.place) (Ok (eqb b.0.0 1, b.0.1)) (x, behind) b.2 in
    let h = octet_found b.0.0 r b.0.1 b.1 in
    let bit : h.spelled.bare ≡ cond (eqb b.0.0 1) 1 0 ∷ [] = h.spelled.is_bare ∙ ap (λ (y : ℕ). y ∷ []) (bit_of b.0.0 (ltb-false _ _ q.0)) in
    let made = reads_from (Boolean (eqb b.0.0 1)) r h.spelled.bare b.0.1 (stands_from (Octet b.0.0) r b.0.1 h) bit in
    subst (λ (p : Bool × Reading). Reads r (Boolean p.0) p.1) (ok_is (eqb b.0.0 1, b.0.1) (x, behind) q.1) made

-- and where it stands it is read
pub boolean_only : (x : Bool) (r behind : Reading) → Reads r (Boolean x) behind → boolean_at r ≡ Ok (x, behind)
unfolding boolean_at
boolean_only true r behind h = rw (octet_only 1 r behind (reads_from (Octet 1) r h.spelled.bare behind (stands_from (Boolean true) r behind h) h.spelled.is_bare)) refl
boolean_only false r behind h = rw (octet_only 0 r behind (reads_from (Octet 0) r h.spelled.bare behind (stands_from (Boolean false) r behind h) h.spelled.is_bare)) refl
