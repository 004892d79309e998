-- Sequences: what holds of the elements holds of them.
use Rattle.std.proofs.Common.{◌≡◌, ℕ, zero, suc, ◌+◌, ◌-◌, ◌<◌, ◌≤◌, Bool, true, false, cond, ltb, leb, List, [], ◌∷◌, ◌++◌, length, take, drop, Result, Ok, Err, refl, sym, ap, subst, ◌∙◌, append_assoc, arith}
use Rattle.std.specs.List.{flat_map, list_all}
use Rattle.std.proofs.lemmas.Bool.{ltb-false, le-ltb, le-leb, leb-true, and_parts}
use Rattle.std.proofs.lemmas.List.{append-nil, take_at, drop_at}
use Rattle.cdr_values.specs.declared.order.Order.{Order}
use Rattle.cdr_values.specs.declared.fault.CdrFault.{CdrFault}
use Rattle.cdr_values.specs.Value.{Value, ULong}
use Rattle.cdr_values.specs.Values.{SpellsAll, ReadsAll}
use Rattle.cdr_values.specs.Reading.{Reading, Reads, ◌>>=◌, ulong_at}
use Rattle.cdr_values.specs.Again.{standing}
use Rattle.cdr_values.specs.Sequence.{Read, IsExact, NoneBeginsAnother, SequencesAreExact, NoSequenceBeginsAnother, ReadIsNotBegun, LoopLaws, after_front, allows_sequence, each_at, fault_as, sequence_at, sequence_values}
use Rattle.cdr_values.proofs.Given.{ok_is, bind_ok, guard_ok}
use Rattle.cdr_values.proofs.Exact.{ulong_exact}
use Rattle.cdr_values.proofs.Spelling.{one_spelling}
use Rattle.cdr_values.proofs.Values.{reads_then, reads_apart, reads_spelled, spells_apart}

-- elements that are read stand there
each_found : {A F : Type 0} (values : A → List Value) (allows : A → Bool) (read : Read A F) → IsExact read values allows → (n : ℕ) (r : Reading) (xs : List A) (behind : Reading) → each_at read n r ≡ Ok (xs, behind)
    → ReadsAll r (flat_map values xs) behind × (list_all allows xs ≡ true) × (length xs ≡ n)
unfolding each_at
each_found {A = A} values allows read exact zero r xs behind e =
    subst (λ (p : List A × Reading). ReadsAll r (flat_map values p.0) p.1 × (list_all allows p.0 ≡ true) × (length p.0 ≡ 0)) (ok_is ([], r) (xs, behind) e) (refl, refl, refl)
each_found {A = A} values allows read exact (suc n) r xs behind e =
    let a = bind_ok (read r) (λ first. each_at read n first.1 >>= λ others. Ok (first.0 ∷ others.0, others.1)) (xs, behind) e in
    let b = bind_ok (each_at read n a.0.1) (λ others. Ok (a.0.0 ∷ others.0, others.1)) (xs, behind) a.2 in
    let one = exact.found r a.0.0 a.0.1 a.1 in
    let others = each_found values allows read exact n a.0.1 b.0.0 b.0.1 b.1 in
    let all : list_all allows (a.0.0 ∷ b.0.0) ≡ true = rw (one.1, others.1) refl in
    let stand = reads_then (values a.0.0) (flat_map values b.0.0) r a.0.1 b.0.1 one.0 others.0 in
    subst (λ (p : List A × Reading). ReadsAll r (flat_map values p.0) p.1 × (list_all allows p.0 ≡ true) × (length p.0 ≡ suc n)) (ok_is (a.0.0 ∷ b.0.0, b.0.1) (xs, behind) b.2) (stand, all, ap suc others.2)

-- and where they stand they are read
each_only : {A F : Type 0} (values : A → List Value) (allows : A → Bool) (read : Read A F) → IsExact read values allows → (xs : List A) (r behind : Reading) → ReadsAll r (flat_map values xs) behind → list_all allows xs ≡ true
    → each_at read (length xs) r ≡ Ok (xs, behind)
unfolding each_at
each_only values allows read exact [] r behind h all = ap (λ (s : Reading). Ok ([], s)) (sym h)
each_only values allows read exact (x ∷ xs) r behind h all =
    let both = and_parts (allows x) (list_all allows xs) all in
    let p = reads_apart (values x) (flat_map values xs) r behind h in
    rw (exact.only r x p.0 p.1 both.0, each_only values allows read exact xs p.0 behind p.2 both.1) refl

-- a value that is read as the user's
pub value_is : {A F : Type 0} (as_fault : CdrFault → F) (read : Result A CdrFault) (x : A) → fault_as as_fault read ≡ Ok x → read ≡ Ok x
value_is as_fault (Ok y) x e = ap Ok (ok_is y x e)
value_is as_fault (Err fault) x e = absurd cc

-- a sequence that is read stands there
sequence_found : {A F : Type 0} (values : A → List Value) (allows : A → Bool) (read : Read A F) (limit : ℕ) (as_fault : CdrFault → F) (too_many : ℕ → ℕ → F) → IsExact read values allows → (r : Reading) (xs : List A) (behind : Reading)
    → sequence_at limit as_fault too_many read r ≡ Ok (xs, behind) → ReadsAll r (sequence_values values xs) behind × (allows_sequence limit allows xs ≡ true)
unfolding sequence_at
sequence_found values allows read limit as_fault too_many exact r xs behind e =
    let c = bind_ok (fault_as as_fault (ulong_at r)) (λ count. cond (ltb limit count.0) (Err (too_many r.place count.0)) (each_at read count.0 count.1)) (xs, behind) e in
    let n = c.0.0 in
    let q = guard_ok (ltb limit n) (too_many r.place n) (each_at read n c.0.1) (xs, behind) c.2 in
    let each = each_found values allows read exact n c.0.1 xs behind q.1 in
    let counted = ulong_exact.found r n c.0.1 (value_is as_fault (ulong_at r) c.0 c.1) in
    let few : leb (length xs) limit ≡ true = le-leb (length xs) limit (omega (arith, each.2, ltb-false _ _ q.0)) in
    let all : allows_sequence limit allows xs ≡ true = rw (few, each.1) refl in
    let is : n ≡ length xs = sym each.2 in
    ((c.0.1, subst (λ (k : ℕ). Reads r (ULong k) c.0.1) is counted, each.0), all)

-- and where it stands it is read
sequence_only : {A F : Type 0} (values : A → List Value) (allows : A → Bool) (read : Read A F) (limit : ℕ) (as_fault : CdrFault → F) (too_many : ℕ → ℕ → F) → IsExact read values allows → (r : Reading) (xs : List A) (behind : Reading)
    → ReadsAll r (sequence_values values xs) behind → allows_sequence limit allows xs ≡ true → sequence_at limit as_fault too_many read r ≡ Ok (xs, behind)
unfolding sequence_at
sequence_only values allows read limit as_fault too_many exact r xs behind h all =
    let both = and_parts (leb (length xs) limit) (list_all allows xs) all in
    let few : ltb limit (length xs) ≡ false = le-ltb limit (length xs) (leb-true _ _ both.0) in
    rw (ulong_exact.only r (length xs) h.0 h.1, few) (each_only values allows read exact xs h.0 behind h.2 both.1)

pub sequences_exact : (A F : Type 0) → SequencesAreExact A F
sequences_exact A F values allows read limit as_fault too_many exact = record {
  found = λ r xs behind. sequence_found values allows read limit as_fault too_many exact r xs behind;
  only = λ r xs behind. sequence_only values allows read limit as_fault too_many exact r xs behind;
}

-- equal octets in front leave equal ones
left : (front a b : List ℕ) → front ++ a ≡ front ++ b → a ≡ b
left front a b e = sym (drop_at front a (length front) refl) ∙ ap (drop (length front)) e ∙ drop_at front b (length front) refl

-- as many elements begin no others
each_apart : {A : Type 0} (values : A → List Value) (allows : A → Bool) → NoneBeginsAnother values allows → (order : Order) (at : ℕ) (xs ys : List A) (a b x y : List ℕ) → length xs ≡ length ys
    → list_all allows xs ≡ true → list_all allows ys ≡ true → SpellsAll order at (flat_map values xs) a → SpellsAll order at (flat_map values ys) b → a ++ x ≡ b ++ y → (a ≡ b) × (xs ≡ ys)
each_apart values allows law order at [] [] a b x y size all others s t e = (s ∙ sym t, refl)
each_apart values allows law order at [] (q ∷ ys) a b x y size all others s t e = absurd (omega arith)
each_apart values allows law order at (p ∷ xs) [] a b x y size all others s t e = absurd (omega arith)
each_apart {A = A} values allows law order at (p ∷ xs) (q ∷ ys) a b x y size all others s t e =
    let this = and_parts (allows p) (list_all allows xs) all in
    let that = and_parts (allows q) (list_all allows ys) others in
    let f = spells_apart (values p) (flat_map values xs) order at a s in
    let g = spells_apart (values q) (flat_map values ys) order at b t in
    let whole : f.0 ++ (f.1 ++ x) ≡ g.0 ++ (g.1 ++ y) = sym (append_assoc f.0 f.1 x) ∙ ap (λ (z : List ℕ). z ++ x) (sym f.2) ∙ e ∙ ap (λ (z : List ℕ). z ++ y) g.2 ∙ append_assoc g.0 g.1 y in
    let one = law order at p q f.0 g.0 (f.1 ++ x) (g.1 ++ y) this.0 that.0 f.3 g.3 whole in
    let rest : f.1 ++ x ≡ g.1 ++ y = left g.0 (f.1 ++ x) (g.1 ++ y) (ap (λ (z : List ℕ). z ++ (f.1 ++ x)) (sym one.0) ∙ whole) in
    let moved : SpellsAll order (at + length g.0) (flat_map values xs) f.1 = subst (λ (z : List ℕ). SpellsAll order (at + length z) (flat_map values xs) f.1) one.0 f.4 in
    let sizes : length xs ≡ length ys = omega (arith, size) in
    let more = each_apart values allows law order (at + length g.0) xs ys f.1 g.1 x y sizes this.1 that.1 moved g.4 rest in
    (f.2 ∙ ap (λ (z : List ℕ). z ++ f.1) one.0 ∙ ap (λ (z : List ℕ). g.0 ++ z) more.0 ∙ sym g.2, ap (λ (z : A). z ∷ xs) one.1 ∙ ap (λ (z : List A). q ∷ z) more.1)

pub sequences_apart : (A : Type 0) → NoSequenceBeginsAnother A
sequences_apart A values allows limit law order at xs ys a b x y all others s t e =
    let this = and_parts (leb (length xs) limit) (list_all allows xs) all in
    let that = and_parts (leb (length ys) limit) (list_all allows ys) others in
    let whole : s.0 ++ (s.1 ++ x) ≡ t.0 ++ (t.1 ++ y) = sym (append_assoc s.0 s.1 x) ∙ ap (λ (z : List ℕ). z ++ x) (sym s.2) ∙ e ∙ ap (λ (z : List ℕ). z ++ y) t.2 ∙ append_assoc t.0 t.1 y in
    let count = one_spelling order at (ULong (length xs)) (ULong (length ys)) s.0 t.0 (s.1 ++ x) (t.1 ++ y) refl s.3 t.3 whole in
    let size : length xs ≡ length ys = let c = count.1 in cc in
    let rest : s.1 ++ x ≡ t.1 ++ y = left t.0 (s.1 ++ x) (t.1 ++ y) (ap (λ (z : List ℕ). z ++ (s.1 ++ x)) (sym count.0) ∙ whole) in
    let moved : SpellsAll order (at + length t.0) (flat_map values xs) s.1 = subst (λ (z : List ℕ). SpellsAll order (at + length z) (flat_map values xs) s.1) count.0 s.4 in
    let more = each_apart values allows law order (at + length t.0) xs ys s.1 t.1 x y size this.1 that.1 moved t.4 rest in
    (s.2 ∙ ap (λ (z : List ℕ). z ++ s.1) count.0 ∙ ap (λ (z : List ℕ). t.0 ++ z) more.0 ∙ sym t.2, more.1)

pub read_apart : (A F : Type 0) → ReadIsNotBegun A F
read_apart A F values allows read exact order at one other a b x y this that s t e =
    let r = standing order (at + length a) x in
    let q = standing order (at + length b) y in
    let here = exact.only (standing order at (a ++ x)) one r (reads_spelled (values one) order at a x s) this in
    let there = exact.only (standing order at (b ++ y)) other q (reads_spelled (values other) order at b y t) that in
    let both = ok_is (one, r) (other, q) (sym here ∙ ap (λ (z : List ℕ). read (standing order at z)) e ∙ there) in
    let places : at + length a ≡ at + length b = ap (λ (p : A × Reading). p.1.place) both in
    let size : length b ≡ length a = omega (arith, places) in
    (sym (take_at a x (length a) refl) ∙ ap (take (length a)) e ∙ take_at b y (length a) size, ap (λ (p : A × Reading). p.0) both)

-- ---- reading in a loop

-- one more in front
one_more : {A F : Type 0} (front : List A) (x : A) (read : Result (List A × Reading) F) → after_front front (read >>= λ others. Ok (x ∷ others.0, others.1)) ≡ after_front (front ++ x ∷ []) read
one_more {A = A} front x (Ok y) = ap (λ (xs : List A). Ok (xs, y.1)) (simp append_assoc)
one_more front x (Err fault) = refl

goes_on : {A F : Type 0} (read : Read A F) (n i : ℕ) (front : List A) (x : A) (r behind : Reading) (whole : Result (List A × Reading) F) → i < n → read r ≡ Ok (x, behind)
    → after_front front (each_at read (n - i) r) ≡ whole → after_front (front ++ x ∷ []) (each_at read (n - (i + 1)) behind) ≡ whole
unfolding each_at
goes_on read n i front x r behind whole lt h so_far =
    let k : n - i ≡ suc (n - (i + 1)) = omega arith in
    let one : after_front front (each_at read (n - i) r) ≡ after_front (front ++ x ∷ []) (each_at read (n - (i + 1)) behind) = rw (k, h) (one_more front x (each_at read (n - (i + 1)) behind)) in
    sym one ∙ so_far

fails : {A F : Type 0} (read : Read A F) (n i : ℕ) (front : List A) (fault : F) (r : Reading) (whole : Result (List A × Reading) F) → i < n → read r ≡ Err fault
    → after_front front (each_at read (n - i) r) ≡ whole → whole ≡ Err fault
unfolding each_at
fails read n i front fault r whole lt h so_far =
    let k : n - i ≡ suc (n - (i + 1)) = omega arith in
    sym so_far ∙ rw (k, h) refl

ends : {A F : Type 0} (read : Read A F) (n i : ℕ) (front : List A) (r : Reading) (whole : Result (List A × Reading) F) → n ≤ i
    → after_front front (each_at read (n - i) r) ≡ whole → whole ≡ Ok (front, r)
unfolding each_at
ends {A = A} {F = F} read n i front r whole le so_far =
    let k : n - i ≡ 0 = omega arith in
    let one : after_front front (each_at read (n - i) r) ≡ Ok (front, r) = rw k (ap (λ (xs : List A). Ok (xs, r)) (append-nil front)) in
    sym so_far ∙ one

pub loop_laws : (A F : Type 0) → LoopLaws A F
loop_laws A F = record { goes_on = goes_on; fails = fails; ends = ends }
