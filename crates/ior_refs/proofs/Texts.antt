-- Texts are read exactly where they are stringified references.
use Rattle.std.proofs.Common.{◌≡◌, ℕ, zero, suc, ◌+◌, eqb, Bool, true, false, cond, List, [], ◌∷◌, ◌++◌, length, drop, replicate, Result, Ok, Err, refl, sym, ap, subst, ◌∙◌, arith}
use Rattle.std.specs.Prelude.{zip}
use Rattle.std.specs.List.{prefix_len}
use Rattle.std.proofs.lemmas.Bool.{eqb-true, le-leb}
use Rattle.std.proofs.lemmas.List.{append-nil}
use Rattle.hex.specs.declared.error.FromHexError.{FromHexError}
use Rattle.hex.specs.Hex.{decode_of, encode_lower}
use Rattle.hex.proofs.HexLemmas.{decode_of-encode_lower}
use Rattle.cdr_values.specs.declared.order.Order.{Order}
use Rattle.cdr_values.specs.declared.order.Order.TheVariants.{Big, Little}
use Rattle.cdr_values.specs.declared.fault.CdrFault.{CdrFault}
use Rattle.cdr_values.specs.Value.{Value, alignment, bare_of, canonical, gap}
use Rattle.cdr_values.specs.Reading.{Reading}
use Rattle.cdr_values.specs.Again.{standing, ValuesAreReadAgain}
use Rattle.cdr_values.specs.Values.{ReadsAll, canonical_all}
use Rattle.cdr_values.specs.Encapsulation.{IsEncapsulation, order_octet, inside, opened, begun}
use Rattle.cdr_values.specs.Writing.{Writing}
use Rattle.cdr_values.specs.Sequence.{IsExact, Read, fault_as}
use Rattle.cdr_values.specs.Tagged.{reference_values}
use Rattle.ior_refs.specs.Reference.{Reference, AreOctets, IsReference, is_short, canonical_octets}
use Rattle.ior_refs.specs.Fault.{fault_of}
use Rattle.ior_refs.specs.Reading.{IsWhole, short_reference_at, whole}
use Rattle.ior_refs.specs.Text.{IsTextOf, agreeing, encapsulated, octets_in_text, octets_of_digits, prefix, reference_in_octets, reference_in_text, text_of}
use Rattle.ior_refs.specs.Laws.{ReferencesAreReadExactly, TextLaws}
use Rattle.ior_refs.specs.declared.fault.IorFault.{IorFault}
use Rattle.ior_refs.specs.declared.fault.IorFault.TheVariants.{BadText, Rest}
use Rattle.ior_refs.proofs.Exact.{bind_ok, ok_is}
use Rattle.ior_refs.proofs.Short.{with_values-is}

-- a test that passed
pub pass_ok : {F A : Type 0} (b : Bool) (d : F) (r : Result A F) (y : A) → cond b r (Err d) ≡ Ok y → (b ≡ true) × (r ≡ Ok y)
pass_ok true d r y e = (refl, e)
pass_ok false d r y e = absurd cc

-- a value that is read as the user's
pub value_is : {A : Type 0} (read : Result A CdrFault) (x : A) → fault_as fault_of read ≡ Ok x → read ≡ Ok x
value_is (Ok y) x e = ap Ok (ok_is {F = IorFault} y x e)
value_is (Err fault) x e = absurd cc

-- no octets are left
pub nothing_is : (xs : List ℕ) → eqb (length xs) 0 ≡ true → xs ≡ []
nothing_is [] e = refl
nothing_is (x ∷ xs) e = absurd (omega (arith, eqb-true (length (x ∷ xs)) 0 e))

-- what is whole
pub whole_found : {A : Type 0} (read : Read A IorFault) (values : A → List Value) (allows : A → Bool) → IsExact read values allows → (r : Reading) (x : A) → whole read r ≡ Ok x → IsWhole (values x) r × (allows x ≡ true)
whole_found {A = A} read values allows exact r x e =
    let a = bind_ok (read r) (λ found. cond (eqb (length found.1.rest) 0) (Ok found.0) (Err (Rest found.1.place))) x e in
    let b = pass_ok (eqb (length a.0.1.rest) 0) (Rest a.0.1.place) (Ok a.0.0) x a.2 in
    let f = exact.found r a.0.0 a.0.1 a.1 in
    let stand : IsWhole (values a.0.0) r × (allows a.0.0 ≡ true) = (record { behind = a.0.1; reads = f.0; nothing = nothing_is a.0.1.rest b.0 }, f.1) in
    subst (λ (y : A). IsWhole (values y) r × (allows y ≡ true)) (ok_is {F = IorFault} a.0.0 x b.1) stand

pub whole_only : {A : Type 0} (read : Read A IorFault) (values : A → List Value) (allows : A → Bool) → IsExact read values allows → (r : Reading) (x : A) → IsWhole (values x) r → allows x ≡ true → whole read r ≡ Ok x
whole_only read values allows exact r x h all =
    let size : length h.behind.rest ≡ 0 = ap length h.nothing in
    rw (exact.only r x h.behind h.reads all, size) refl

-- an encapsulation is opened exactly where it is one
pub opened_found : (octets : List ℕ) (reader : Reading) → opened octets ≡ Ok reader → IsEncapsulation octets reader
opened_found [] reader e = absurd cc
opened_found (x ∷ xs) reader e = by_first (eqb x 0) (eqb x 1) x xs reader refl refl e where
  by_first : (a b : Bool) (x : ℕ) (xs : List ℕ) (reader : Reading) → eqb x 0 ≡ a → eqb x 1 ≡ b → cond a (Ok (inside Big xs)) (cond b (Ok (inside Little xs)) (opened (2 ∷ xs))) ≡ Ok reader → IsEncapsulation (x ∷ xs) reader
  by_first true b x xs reader p q e = subst (λ (r : Reading). IsEncapsulation (x ∷ xs) r) (ok_is {F = CdrFault} (inside Big xs) reader e) (record { parts = ap (λ (y : ℕ). y ∷ xs) (eqb-true x 0 p); place = refl })
  by_first false true x xs reader p q e = subst (λ (r : Reading). IsEncapsulation (x ∷ xs) r) (ok_is {F = CdrFault} (inside Little xs) reader e) (record { parts = ap (λ (y : ℕ). y ∷ xs) (eqb-true x 1 q); place = refl })
  by_first false false x xs reader p q e = absurd cc

of_three : {X : Type 0} (f : Order → ℕ → List ℕ → X) (a b : Order) (p q : ℕ) (xs ys : List ℕ) → a ≡ b → p ≡ q → xs ≡ ys → f a p xs ≡ f b q ys
of_three f a b p q xs ys d e g = cc

opened_by : (order : Order) (place : ℕ) (rest : List ℕ) → place ≡ 1 → opened (order_octet order ∷ rest) ≡ Ok (standing order place rest)
opened_by Big place rest e = ap (λ (k : ℕ). Ok (standing Big k rest)) (sym e)
opened_by Little place rest e = ap (λ (k : ℕ). Ok (standing Little k rest)) (sym e)

pub opened_only : (octets : List ℕ) (reader : Reading) → IsEncapsulation octets reader → opened octets ≡ Ok reader
opened_only octets reader h = ap opened h.parts ∙ opened_by reader.order reader.place reader.rest h.place

-- octets that agree with all of a front begin with it
one_agrees : (x y : ℕ) (xs ys : List ℕ) → agreeing (x ∷ xs) (y ∷ ys) ≡ cond (eqb x y) (suc (agreeing xs ys)) 0
one_agrees x y xs ys = by_test (eqb x y) x y xs ys refl where
  by_test : (b : Bool) (x y : ℕ) (xs ys : List ℕ) → eqb x y ≡ b → agreeing (x ∷ xs) (y ∷ ys) ≡ cond b (suc (agreeing xs ys)) 0
  by_test true x y xs ys e =
      let n = prefix_len (λ (pair : ℕ × ℕ). eqb pair.0 pair.1) (zip xs ys) in
      let more : 1 + n ≡ suc n = omega arith in
      rw (e, more) refl
  by_test false x y xs ys e = rw e refl

agrees_whole : (xs ys : List ℕ) → agreeing xs ys ≡ length xs → ys ≡ xs ++ drop (length xs) ys
agrees_whole [] ys e = refl
agrees_whole (x ∷ xs) [] e = absurd (omega arith)
agrees_whole (x ∷ xs) (y ∷ ys) e = by_test (eqb x y) x y xs ys refl (sym (one_agrees x y xs ys) ∙ e) (λ f. agrees_whole xs ys f) where
  by_test : (b : Bool) (x y : ℕ) (xs ys : List ℕ) → eqb x y ≡ b → cond b (suc (agreeing xs ys)) 0 ≡ suc (length xs) → (agreeing xs ys ≡ length xs → ys ≡ xs ++ drop (length xs) ys) → y ∷ ys ≡ x ∷ (xs ++ drop (length xs) ys)
  by_test true x y xs ys e f others =
      let same : x ≡ y = eqb-true x y e in
      let rest : ys ≡ xs ++ drop (length xs) ys = others (omega (arith, f)) in
      cc
  by_test false x y xs ys e f others = absurd (omega (arith, f))

digits_ok : (digits octets : List ℕ) (decoded : Result (List ℕ) FromHexError) → octets_of_digits digits decoded ≡ Ok octets → decoded ≡ Ok octets
digits_ok digits octets (Ok xs) e = ap Ok (ok_is {F = IorFault} xs octets e)
digits_ok digits octets (Err fault) e = absurd cc

text_found : ReferencesAreReadExactly → (text : List ℕ) (reference : Reference) → reference_in_text text ≡ Ok reference → IsTextOf text reference
unfolding reference_in_text octets_in_text reference_in_octets
text_found exact text reference e =
    let a = bind_ok (octets_in_text text) reference_in_octets reference e in
    let digits = drop 4 text in
    let b = pass_ok (eqb (agreeing prefix text) 4) (BadText (agreeing prefix text)) (octets_of_digits digits (decode_of digits)) a.0 a.1 in
    let c = bind_ok (fault_as fault_of (opened a.0)) (whole short_reference_at) reference a.2 in
    let w = whole_found short_reference_at reference_values is_short exact c.0 reference c.2 in
    record {
      digits = digits;
      octets = a.0;
      reader = c.0;
      parts = agrees_whole prefix text (eqb-true (agreeing prefix text) 4 b.0);
      decoded = digits_ok digits a.0 (decode_of digits) b.1;
      opened = opened_found a.0 c.0 (value_is (opened a.0) c.0 c.1);
      whole = w.0;
      short = w.1;
    }

text_only : ReferencesAreReadExactly → (text : List ℕ) (reference : Reference) → IsTextOf text reference → reference_in_text text ≡ Ok reference
unfolding reference_in_text octets_in_text reference_in_octets
text_only exact text reference h =
    let behind : drop 4 text ≡ h.digits = ap (drop 4) h.parts in
    let agree : agreeing prefix text ≡ 4 = ap (agreeing prefix) h.parts in
    rw (agree, behind, h.decoded, opened_only h.octets h.reader h.opened) (whole_only short_reference_at reference_values is_short exact h.reader reference h.whole h.short)

-- ---- octets

octets_front : (xs ys : List ℕ) → AreOctets (xs ++ ys) → AreOctets xs
octets_front [] ys h i = omega arith
octets_front (x ∷ xs) ys h zero = h 0
octets_front (x ∷ xs) ys h (suc i) = octets_front xs ys (λ k. h (suc k)) i

octets_behind : (xs ys : List ℕ) → AreOctets (xs ++ ys) → AreOctets ys
octets_behind [] ys h i = h i
octets_behind (x ∷ xs) ys h i = octets_behind xs ys (λ k. h (suc k)) i

octets_both : (xs ys : List ℕ) → AreOctets xs → AreOctets ys → AreOctets (xs ++ ys)
octets_both [] ys h k i = k i
octets_both (x ∷ xs) ys h k zero = h 0
octets_both (x ∷ xs) ys h k (suc i) = octets_both xs ys (λ j. h (suc j)) k i

octets_zero : (n : ℕ) → AreOctets (replicate n 0)
octets_zero zero i = omega arith
octets_zero (suc n) zero = omega arith
octets_zero (suc n) (suc i) = octets_zero n i

-- the octets of each value without its padding
abbrev AllOctets : Order → List Value → Type 0
AllOctets order [] = Unit {0}
AllOctets order (v ∷ vs) = AreOctets (bare_of order v) × AllOctets order vs

octets_apart : (order : Order) (at : ℕ) (values : List Value) → AreOctets (canonical_all order at values) → AllOctets order values
octets_apart order at [] h = tt
octets_apart order at (v ∷ vs) h =
    let one = canonical order at v in
    let rest = canonical_all order (at + length one) vs in
    (octets_behind (replicate (gap (alignment v) at) 0) (bare_of order v) (octets_front one rest h), octets_apart order (at + length one) vs (octets_behind one rest h))

octets_joined : (order : Order) (at : ℕ) (values : List Value) → AllOctets order values → AreOctets (canonical_all order at values)
octets_joined order at [] h = λ i. omega arith
octets_joined order at (v ∷ vs) h =
    let one = canonical order at v in
    octets_both one (canonical_all order (at + length one) vs) (octets_both (replicate (gap (alignment v) at) 0) (bare_of order v) (octets_zero (gap (alignment v) at)) h.0) (octets_joined order (at + length one) vs h.1)

-- a reference as an encapsulation
encapsulated_is : (reference : Reference) → encapsulated reference ≡ 0 ∷ canonical_all Big 1 (reference_values reference)
unfolding encapsulated
encapsulated_is reference = ap (λ (w : Writing). w.octets) (with_values-is (begun Big) (reference_values reference))

encapsulated_octets : (reference : Reference) → AreOctets (canonical_octets reference) → AreOctets (encapsulated reference)
unfolding canonical_octets
encapsulated_octets reference h =
    let all = octets_joined Big 1 (reference_values reference) (octets_apart Big 0 (reference_values reference) h) in
    let zero_first : AreOctets (0 ∷ []) = octets_zero 1 in
    subst AreOctets (sym (encapsulated_is reference)) (octets_both (0 ∷ []) (canonical_all Big 1 (reference_values reference)) zero_first all)

text_again : ReferencesAreReadExactly → ValuesAreReadAgain → (reference : Reference) → IsReference reference → reference_in_text (text_of reference) ≡ Ok reference
text_again exact again reference is =
    let values = reference_values reference in
    let octets = canonical_all Big 1 values in
    let reads = again Big 1 values [] is.fits in
    let here : ReadsAll (standing Big 1 octets) values (standing Big (1 + length octets) []) = subst (λ (xs : List ℕ). ReadsAll (standing Big 1 xs) values (standing Big (1 + length octets) [])) (append-nil octets) reads in
    text_only exact (text_of reference) reference (record {
      digits = encode_lower (encapsulated reference);
      octets = encapsulated reference;
      reader = standing Big 1 octets;
      parts = refl;
      decoded = decode_of-encode_lower (encapsulated reference) (encapsulated_octets reference is.octets);
      opened = record { parts = encapsulated_is reference; place = refl };
      whole = record { behind = standing Big (1 + length octets) []; reads = here; nothing = refl };
      short = le-leb _ _ is.short;
    })

pub text_laws : ReferencesAreReadExactly → ValuesAreReadAgain → TextLaws
text_laws exact again = record {
  exact = λ text reference. (λ e. text_found exact text reference e, λ h. text_only exact text reference h);
  again = λ reference is. text_again exact again reference is;
}
