-- Passing over elements, one after another.
use Rattle.std.proofs.Common.{◌≡◌, ℕ, suc, ◌+◌, ◌-◌, ◌<◌, ◌≤◌, List, ◌∷◌, Result, Ok, Err, refl, sym, ap, ◌∙◌, arith}
use Rattle.cdr_values.specs.Reading.{Reading, ◌>>=◌}
use Rattle.cdr_values.specs.Sequence.{Read, each_at}
use Rattle.ior_refs.specs.declared.fault.IorFault.{IorFault}
use Rattle.ior_refs.specs.Iiop.{passed}
use Rattle.ior_refs.proofs.Exact.{ok_is}

-- an element in front makes no difference
one_passed : {A : Type 0} (x : A) (others : Result (List A × Reading) IorFault)
    → passed (others >>= λ others. Ok (x ∷ others.0, others.1)) ≡ passed others
one_passed x (Ok y) = refl
one_passed x (Err fault) = refl

-- what is passed over stands there
more_passed : {A : Type 0} (read : Read A IorFault) (n : ℕ) (r behind : Reading) (first : Result (A × Reading) IorFault)
    → read r ≡ first → passed first ≡ Ok (tt, behind) → passed (each_at read (suc n) r) ≡ passed (each_at read n behind)
unfolding each_at
more_passed read n r behind (Ok x) same e =
    let stands : x.1 ≡ behind = ap (λ (p : Unit {0} × Reading). p.1) (ok_is {F = IorFault} (tt, x.1) (tt, behind) e) in
    rw (same, sym stands) (one_passed x.0 (each_at read n x.1))
more_passed read n r behind (Err fault) same e = grind arith

-- behind one more element, the others are left
pub passed_on : {A : Type 0} (read : Read A IorFault) (n i : ℕ) (r behind : Reading)
    (whole : Result (Unit {0} × Reading) IorFault) → i < n → passed (read r) ≡ Ok (tt, behind)
    → passed (each_at read (n - i) r) ≡ whole → passed (each_at read (n - (i + 1)) behind) ≡ whole
passed_on read n i r behind whole lt one so_far =
    let k : n - i ≡ suc (n - (i + 1)) = omega arith in
    let more : passed (each_at read (n - i) r) ≡ passed (each_at read (n - (i + 1)) behind) = rw k (more_passed read (n - (i + 1)) r behind (read r) refl one) in
    sym more ∙ so_far

-- a fault of an element is the fault of the whole
fault_passed : {A : Type 0} (read : Read A IorFault) (n : ℕ) (r : Reading) (fault : IorFault) (first : Result (A × Reading) IorFault)
    → read r ≡ first → passed first ≡ Err fault → passed (each_at read (suc n) r) ≡ Err fault
unfolding each_at
fault_passed read n r fault (Ok x) same e = grind arith
fault_passed read n r fault (Err other) same e = rw same e

pub passed_fault : {A : Type 0} (read : Read A IorFault) (n i : ℕ) (r : Reading) (fault : IorFault)
    (whole : Result (Unit {0} × Reading) IorFault) → i < n → passed (read r) ≡ Err fault
    → passed (each_at read (n - i) r) ≡ whole → whole ≡ Err fault
passed_fault read n i r fault whole lt one so_far =
    let k : n - i ≡ suc (n - (i + 1)) = omega arith in
    sym so_far ∙ rw k (fault_passed read (n - (i + 1)) r fault (read r) refl one)

-- behind the last element nothing is left
pub all_passed : {A : Type 0} (read : Read A IorFault) (n i : ℕ) (r : Reading)
    (whole : Result (Unit {0} × Reading) IorFault) → n ≤ i
    → passed (each_at read (n - i) r) ≡ whole → whole ≡ Ok (tt, r)
unfolding each_at
all_passed read n i r whole le so_far =
    let k : n - i ≡ 0 = omega arith in
    sym so_far ∙ rw k refl
