-- A value that is read is the value that was written, and what was written is read again: for one field, and for fields
-- one after another.
use Rattle.std.proofs.Common.{◌≡◌, ℕ, zero, suc, ◌+◌, ◌^◌, ◌<◌, ◌≤◌, Bool, true, false, cond, ltb, List, [], ◌∷◌, ◌++◌, length, get_or, take, drop, Option, Some, None, refl, sym, ap, subst, ◌∙◌, append_assoc, arith, inl, inr}
use Rattle.std.specs.List.{flat_map, AllByRecursion}
use Rattle.std.specs.Int.{w16, w32, w64, from_be_bytes}
use Rattle.std.proofs.lemmas.Bool.{cases_lt, ltb-false, le-ltb}
use Rattle.std.proofs.lemmas.List.{drop_at, take-append-drop, length-append, length-take, get_or-drop, get_or-take, get_or_past}
use Rattle.std.proofs.lemmas.List.Concat.{flat_map-cons}
use Rattle.std.proofs.lemmas.Nat.{be_bytes_2, be_bytes_4, be_bytes_8}
use Rattle.byteorder.specs.Endian.{big_bytes, big_number}
use Rattle.byteorder.specs.Numbers.{big_from-take, big_from-lt, big_number-reads_back, length-bytes_high_first}
use Rattle.decision_journal.specs.Layout.{one, two}
use Rattle.decision_journal.specs.Reading.{◌>>=◌, Reading, number_at, both_at, made_at, list_at, counted_at, none_at}

abbrev pub IsOctets : List ℕ → Type 0
IsOctets octets = (i : ℕ) → get_or octets i 0 < 256

pub IsOctets-drop : (n : ℕ) (octets : List ℕ) → IsOctets octets → IsOctets (drop n octets)
IsOctets-drop n octets h i = rw get_or-drop (h (n + i))

pub IsOctets-take : (n : ℕ) (octets : List ℕ) → IsOctets octets → IsOctets (take n octets)
IsOctets-take n octets h i =
    elim (cases_lt i n) [
      | inl lt ↦ rw (get_or-take n octets i 0 lt) (h i)
      | inr le ↦ rw (get_or_past (take n octets) i 0 (omega (arith, length-take n octets))) (omega arith)
    ]

-- the value of a step that did not fail
pub bind_some : {A B : Type 0} (r : Option A) (f : A → Option B) (y : B) → (r >>= f) ≡ Some y → (x : A) × (r ≡ Some x) × (f x ≡ Some y)
bind_some (Some x) f y e = (x, refl, e)
bind_some None f y e = absurd cc

-- a test that did not fail
pub guard_some : {A : Type 0} (b : Bool) (r : Option A) (y : A) → cond b None r ≡ Some y → (b ≡ false) × (r ≡ Some y)
guard_some true r y e = absurd cc
guard_some false r y e = (refl, e)

abbrev done : {A : Type 0} → A → Option A
done x = Some x

pub some_is : {A : Type 0} (x y : A) → done x ≡ done y → x ≡ y
some_is x y e = cc

-- what a reader took from the front
pub record Taken (octets text rest : List ℕ) : Type 0 where
  pub parts : octets ≡ text ++ rest
  pub rest_fits : IsOctets rest

pub Taken-then : (a x b y c : List ℕ) → Taken a x b → Taken b y c → Taken a (x ++ y) c
Taken-then a x b y c p q = record { parts = p.parts ∙ ap (λ (t : List ℕ). x ++ t) q.parts ∙ sym (append_assoc x y c); rest_fits = q.rest_fits }

pub record IsCodec {A : Type 0} (spell : A → List ℕ) (at : List ℕ → Reading A) (Fits : A → Type 0) : Type 0 where
  pub again : (x : A) (rest : List ℕ) → Fits x → at (spell x ++ rest) ≡ Some (x, rest)
  pub takes : (octets : List ℕ) (x : A) (rest : List ℕ) → IsOctets octets → at octets ≡ Some (x, rest) → Taken octets (spell x) rest × Fits x

-- ---- numbers

number_codec : (n : ℕ) → ((octets : List ℕ) → n ≤ length octets → IsOctets octets → big_bytes n (big_number n octets) ≡ take n octets) → IsCodec (big_bytes n) (number_at n) (λ x. x < 256 ^ n)
number_codec n back = record {
  again = λ x rest fits.
      let len : length (big_bytes n x) ≡ n = length-bytes_high_first n x in
      let long : ltb (length (big_bytes n x ++ rest)) n ≡ false = le-ltb _ _ (omega (arith, len, length-append (big_bytes n x) rest)) in
      rw (long, big_number-reads_back n x rest fits, drop_at (big_bytes n x) rest n len) refl;
  takes = λ octets x rest octets_fit e.
      let g = guard_some (ltb (length octets) n) (Some (big_number n octets, drop n octets)) (x, rest) e in
      let long : n ≤ length octets = ltb-false _ _ g.0 in
      let is = some_is (big_number n octets, drop n octets) (x, rest) g.1 in
      let whole : Taken octets (big_bytes n (big_number n octets)) (drop n octets) × (big_number n octets < 256 ^ n) = (
        record { parts = rw (back octets long octets_fit) (sym (take-append-drop n octets)); rest_fits = IsOctets-drop n octets octets_fit },
        big_from-lt 0 n octets octets_fit,
      ) in
      subst (λ (p : ℕ × List ℕ). Taken octets (big_bytes n p.0) p.1 × (p.0 < 256 ^ n)) is whole;
}

two_back : (xs : List ℕ) → 2 ≤ length xs → IsOctets xs → big_bytes 2 (big_number 2 xs) ≡ take 2 xs
two_back xs le h =
    let value : big_number 2 (take 2 xs) ≡ from_be_bytes w16 (take 2 xs) = omega arith in
    be_bytes_2 (take 2 xs) (big_number 2 xs) (omega (arith, length-take 2 xs)) (IsOctets-take 2 xs h) (sym (big_from-take 0 2 2 xs (omega arith)) ∙ value)

four_back : (xs : List ℕ) → 4 ≤ length xs → IsOctets xs → big_bytes 4 (big_number 4 xs) ≡ take 4 xs
four_back xs le h =
    let value : big_number 4 (take 4 xs) ≡ from_be_bytes w32 (take 4 xs) = omega arith in
    be_bytes_4 (take 4 xs) (big_number 4 xs) (omega (arith, length-take 4 xs)) (IsOctets-take 4 xs h) (sym (big_from-take 0 4 4 xs (omega arith)) ∙ value)

eight_back : (xs : List ℕ) → 8 ≤ length xs → IsOctets xs → big_bytes 8 (big_number 8 xs) ≡ take 8 xs
eight_back xs le h =
    let value : big_number 8 (take 8 xs) ≡ from_be_bytes w64 (take 8 xs) = omega arith in
    be_bytes_8 (take 8 xs) (big_number 8 xs) (omega (arith, length-take 8 xs)) (IsOctets-take 8 xs h) (sym (big_from-take 0 8 8 xs (omega arith)) ∙ value)

pub two_codec : IsCodec (big_bytes 2) (number_at 2) (λ x. x < 2 ^ 16)
two_codec = number_codec 2 two_back

pub four_codec : IsCodec (big_bytes 4) (number_at 4) (λ x. x < 2 ^ 32)
four_codec = number_codec 4 four_back

pub eight_codec : IsCodec (big_bytes 8) (number_at 8) (λ x. x < 2 ^ 64)
eight_codec = number_codec 8 eight_back

one_at : (b : ℕ) (rest : List ℕ) → number_at 1 (b ∷ rest) ≡ Some (b, rest)
one_at b rest =
    let long : ltb (length (b ∷ rest)) 1 ≡ false = le-ltb _ _ (omega arith) in
    let value : big_number 1 (b ∷ rest) ≡ b = omega arith in
    rw (long, value) refl

one_takes : (octets : List ℕ) (x : ℕ) (rest : List ℕ) → IsOctets octets → number_at 1 octets ≡ Some (x, rest) → Taken octets (one x) rest × (x < 256)
one_takes [] x rest h e = absurd cc
one_takes (b ∷ octets) x rest h e =
    subst (λ (p : ℕ × List ℕ). Taken (b ∷ octets) (one p.0) p.1 × (p.0 < 256)) (some_is (b, octets) (x, rest) (sym (one_at b octets) ∙ e))
    (record { parts = refl; rest_fits = λ i. h (suc i) }, h 0)

pub one_codec : IsCodec one (number_at 1) (λ x. x < 256)
one_codec = record { again = λ x rest fits. one_at x rest; takes = one_takes }

-- ---- fields one after another

pub none_codec : IsCodec (λ (_ : Unit {0}). []) none_at (λ _. Unit {0})
none_codec = record {
  again = λ x rest fits. refl;
  takes = λ octets x rest h e. (
    record { parts = ap (λ (p : Unit {0} × List ℕ). p.1) (some_is (tt, octets) (x, rest) e); rest_fits = subst IsOctets (ap (λ (p : Unit {0} × List ℕ). p.1) (some_is (tt, octets) (x, rest) e)) h },
    tt,
  );
}

pub both_codec : {A B : Type 0} {s : A → List ℕ} {a : List ℕ → Reading A} {F : A → Type 0} {t : B → List ℕ} {b : List ℕ → Reading B} {G : B → Type 0}
    → IsCodec s a F → IsCodec t b G → IsCodec (λ (x : A × B). s x.0 ++ t x.1) (both_at a b) (λ x. F x.0 × G x.1)
both_codec {A} {B} {s} {a} {F} {t} {b} {G} p q = record {
  again = λ x rest fits. rw (append_assoc (s x.0) (t x.1) rest, p.again x.0 (t x.1 ++ rest) fits.0, q.again x.1 rest fits.1) refl;
  takes = λ octets x rest h e.
      let first = bind_some (a octets) (λ x. b x.1 >>= λ y. Some ((x.0, y.0), y.1)) (x, rest) e in
      let second = bind_some (b first.0.1) (λ y. Some ((first.0.0, y.0), y.1)) (x, rest) first.2 in
      let t1 = p.takes octets first.0.0 first.0.1 h first.1 in
      let t2 = q.takes first.0.1 second.0.0 second.0.1 t1.0.rest_fits second.1 in
      let made : (A × B) × List ℕ = ((first.0.0, second.0.0), second.0.1) in
      subst (λ (y : (A × B) × List ℕ). Taken octets (s y.0.0 ++ t y.0.1) y.1 × (F y.0.0 × G y.0.1)) (some_is made (x, rest) second.2)
      (Taken-then octets (s first.0.0) first.0.1 (t second.0.0) second.0.1 t1.0 t2.0, (t1.1, t2.1));
}

-- what is made of a field that was read, and what it is made of
pub record Makes {A B : Type 0} (make : A → Option B) (from : B → A) (F : A → Type 0) (G : B → Type 0) : Type 0 where
  pub forth : (y : B) → G y → (make (from y) ≡ Some y) × F (from y)
  pub back : (x : A) (y : B) → F x → make x ≡ Some y → (from y ≡ x) × G y

pub made_codec : {A B : Type 0} {s : A → List ℕ} {a : List ℕ → Reading A} {F : A → Type 0} (make : A → Option B) (from : B → A) (G : B → Type 0)
    → IsCodec s a F → Makes make from F G → IsCodec (λ y. s (from y)) (made_at make a) G
made_codec {A} {B} {s} {a} {F} make from G p makes = record {
  again = λ y rest fits. rw (p.again (from y) rest (makes.forth y fits).1, (makes.forth y fits).0) refl;
  takes = λ octets y rest h e.
      let first = bind_some (a octets) (λ x. make x.0 >>= λ y. Some (y, x.1)) (y, rest) e in
      let second = bind_some (make first.0.0) (λ z. Some (z, first.0.1)) (y, rest) first.2 in
      let taken = p.takes octets first.0.0 first.0.1 h first.1 in
      let same = makes.back first.0.0 second.0 taken.1 second.1 in
      let made : B × List ℕ = (second.0, first.0.1) in
      subst (λ (z : B × List ℕ). Taken octets (s (from z.0)) z.1 × G z.0) (some_is made (y, rest) second.2)
      (subst (λ (x : A). Taken octets (s x) first.0.1) (sym same.0) taken.0, same.1);
}

-- a value that is built of fields: what is written is read as it, and what is read was built so
pub built_again : {A B : Type 0} {s : A → List ℕ} {a : List ℕ → Reading A} {F : A → Type 0} (build : A → B) → IsCodec s a F → (x : A) (rest : List ℕ) → F x
    → made_at (λ x. Some (build x)) a (s x ++ rest) ≡ Some (build x, rest)
built_again build p x rest fits = rw (p.again x rest fits) refl

pub built_takes : {A B : Type 0} {s : A → List ℕ} {a : List ℕ → Reading A} {F : A → Type 0} (build : A → B) → IsCodec s a F → (octets : List ℕ) (y : B) (rest : List ℕ) → IsOctets octets
    → made_at (λ x. Some (build x)) a octets ≡ Some (y, rest) → (x : A) × (build x ≡ y) × Taken octets (s x) rest × F x
built_takes {A} {B} {s} {a} {F} build p octets y rest h e =
    let first = bind_some (a octets) (λ x. Some (build x.0) >>= λ y. Some (y, x.1)) (y, rest) e in
    let made : B × List ℕ = (build first.0.0, first.0.1) in
    let is = some_is made (y, rest) first.2 in
    let taken = p.takes octets first.0.0 first.0.1 h first.1 in
    (first.0.0, ap (λ (z : B × List ℕ). z.0) is, subst (Taken octets (s first.0.0)) (ap (λ (z : B × List ℕ). z.1) is) taken.0, taken.1)

-- ---- lists behind their count

list_again : {A : Type 0} {s : A → List ℕ} {a : List ℕ → Reading A} {F : A → Type 0} → IsCodec s a F → (xs : List A) (rest : List ℕ) → AllByRecursion F xs → list_at a (length xs) (flat_map s xs ++ rest) ≡ Some (xs, rest)
unfolding list_at
list_again p [] rest fits = refl
list_again {A} {s} {a} p (x ∷ xs) rest fits =
    let regrouped : flat_map s (x ∷ xs) ++ rest ≡ s x ++ (flat_map s xs ++ rest) = ap (λ (t : List ℕ). t ++ rest) (flat_map-cons s x xs) ∙ append_assoc (s x) (flat_map s xs) rest in
    ap (list_at a (suc (length xs))) regrouped ∙ rw (p.again x (flat_map s xs ++ rest) fits.0, list_again p xs rest fits.1) refl

list_takes : {A : Type 0} {s : A → List ℕ} {a : List ℕ → Reading A} {F : A → Type 0} → IsCodec s a F → (n : ℕ) (octets : List ℕ) (x : List A × List ℕ) → IsOctets octets → list_at a n octets ≡ Some x
    → Taken octets (flat_map s x.0) x.1 × (length x.0 ≡ n) × AllByRecursion F x.0
unfolding list_at
list_takes {A} {s} {a} {F} p zero octets x h e =
    subst (λ (y : List A × List ℕ). Taken octets (flat_map s y.0) y.1 × (length y.0 ≡ 0) × AllByRecursion F y.0) (some_is ([], octets) x e) (record { parts = refl; rest_fits = h }, refl, tt)
list_takes {A} {s} {a} {F} p (suc n) octets x h e =
    let first = bind_some (a octets) (λ first. list_at a n first.1 >>= λ others. Some (first.0 ∷ others.0, others.1)) x e in
    let others = bind_some (list_at a n first.0.1) (λ others. Some (first.0.0 ∷ others.0, others.1)) x first.2 in
    let t1 = p.takes octets first.0.0 first.0.1 h first.1 in
    let t2 = list_takes p n first.0.1 others.0 t1.0.rest_fits others.1 in
    let both = Taken-then octets (s first.0.0) first.0.1 (flat_map s others.0.0) others.0.1 t1.0 t2.0 in
    let made : List A × List ℕ = (first.0.0 ∷ others.0.0, others.0.1) in
    subst (λ (y : List A × List ℕ). Taken octets (flat_map s y.0) y.1 × (length y.0 ≡ suc n) × AllByRecursion F y.0) (some_is made x others.2)
    (rw flat_map-cons both, ap suc t2.1, (t1.1, t2.2))

pub counted_codec : {A : Type 0} {s : A → List ℕ} {a : List ℕ → Reading A} {F : A → Type 0} → IsCodec s a F
    → IsCodec (λ (xs : List A). two (length xs) ++ flat_map s xs) (counted_at a) (λ xs. (length xs < 2 ^ 16) × AllByRecursion F xs)
counted_codec {A} {s} {a} {F} p = record {
  again = λ xs rest fits.
      rw (append_assoc (two (length xs)) (flat_map s xs) rest, two_codec.again (length xs) (flat_map s xs ++ rest) fits.0) (list_again p xs rest fits.1);
  takes = λ octets xs rest h e.
      let n = bind_some (number_at 2 octets) (λ n. list_at a n.0 n.1) (xs, rest) e in
      let t1 = two_codec.takes octets n.0.0 n.0.1 h n.1 in
      let t2 = list_takes p n.0.0 n.0.1 (xs, rest) t1.0.rest_fits n.2 in
      let both = Taken-then octets (two n.0.0) n.0.1 (flat_map s xs) rest t1.0 t2.0 in
      (subst (λ (k : ℕ). Taken octets (two k ++ flat_map s xs) rest) (sym t2.1) both, (omega (arith, t2.1, t1.1), t2.2));
}
