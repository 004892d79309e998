-- References to objects differ where their keys do: each ends with the octets of its key.
use Rattle.std.proofs.Common.{◌≡◌, ℕ, suc, ◌+◌, List, [], ◌∷◌, ◌++◌, length, replicate, refl, sym, ap, ◌∙◌, append_assoc, append-nil, length-append, arith}
use Rattle.std.proofs.lemmas.List.{length-replicate}
use Rattle.cdr_values.specs.Encapsulation.{begun}
use Rattle.cdr_values.specs.declared.order.Order.TheVariants.{Big}
use Rattle.cdr_values.specs.Value.{OctetSequence, ULong, canonical, gap, octets_of, Octet, Text, UShort, Value}
use Rattle.ior_refs.specs.declared.key.ObjectKey.{ObjectKey}
use Rattle.ior_refs.specs.Key.{AreNumbers, octets_of_key}
use Rattle.ior_refs.specs.Laws.{SameOctetsSameKey}
use Rattle.ior_refs.specs.Making.{profile_to}
use Rattle.ior_refs.specs.Reference.{canonical_octets}
use Rattle.nodes_world.specs.Objects.{reference, listening, type_of}
use Rattle.cdr_values.specs.Values.{canonical_all, with_values}
use Rattle.nodes_world.specs.Limits.{script_port}

-- octets end with others
record EndsWith (last all : List ℕ) : Type 0 where
  front : List ℕ
  is : all ≡ front ++ last

ends_behind : (last more all : List ℕ) → EndsWith last all → EndsWith last (more ++ all)
ends_behind last more all e = record { front = more ++ e.front; is = ap (λ (xs : List ℕ). more ++ xs) e.is ∙ sym (append_assoc more e.front last) }

ends_nil : (last all : List ℕ) → EndsWith last all → EndsWith last (all ++ [])
ends_nil last all e = record { front = e.front; is = append-nil all ∙ e.is }

-- no components
abbrev none : List ℕ
none = 0 ∷ 0 ∷ 0 ∷ 0 ∷ []

-- where a writer stands behind octets
abbrev place : List ℕ → ℕ
place before = 0 + length before

abbrev key_part : List ℕ → ObjectKey → List ℕ
key_part before key = canonical Big (place before) (OctetSequence (octets_of_key key))

-- behind a key there is no padding
gap_none : (l : ℕ) → gap 4 (0 + (l + (gap 4 (0 + l) + (4 + 32)))) ≡ 0
gap_none l = omega arith

behind_key : (before : List ℕ) (key : ObjectKey) → length (before ++ key_part before key) ≡ length before + (gap 4 (place before) + (4 + 32))
behind_key before key =
    length-append before (key_part before key)
    ∙ ap (λ (n : ℕ). length before + n) (length-append (replicate (gap 4 (place before)) 0) (octets_of Big 4 32 ++ octets_of_key key)
    ∙ ap (λ (n : ℕ). n + (4 + 32)) (length-replicate (gap 4 (place before)) 0))

ends_so : (before : List ℕ) (key : ObjectKey)
    → EndsWith (octets_of_key key ++ none) ((before ++ key_part before key) ++ canonical Big (place (before ++ key_part before key)) (ULong 0))
ends_so before key =
    let pad : List ℕ = replicate (gap 4 (place before)) 0 in
    let count : List ℕ = octets_of Big 4 32 in
    let keyed : List ℕ = octets_of_key key in
    let no_gap : gap 4 (place (before ++ key_part before key)) ≡ 0 = ap (λ (n : ℕ). gap 4 (0 + n)) (behind_key before key) ∙ gap_none (length before) in
    record {
      front = before ++ (pad ++ count);
      is =
          ap (λ (n : ℕ). (before ++ (pad ++ (count ++ keyed))) ++ (replicate n 0 ++ none)) no_gap
          ∙ append_assoc before (pad ++ (count ++ keyed)) none
          ∙ ap (λ (xs : List ℕ). before ++ (xs ++ none)) (sym (append_assoc pad count keyed))
          ∙ ap (λ (xs : List ℕ). before ++ xs) (append_assoc (pad ++ count) keyed none)
          ∙ sym (append_assoc before (pad ++ count) (keyed ++ none));
    }

values_end : (at : ℕ) (values : List Value) (items last : List ℕ) → EndsWith last items → EndsWith last (canonical_all Big at (values ++ OctetSequence items ∷ []))
values_end at [] items last e =
    ends_nil last (canonical Big at (OctetSequence items))
    (ends_behind last (replicate (gap 4 at) 0) (octets_of Big 4 (length items) ++ items) (ends_behind last (octets_of Big 4 (length items)) items e))
values_end at (v ∷ values) items last e =
    ends_behind last (canonical Big at v) (canonical_all Big (at + length (canonical Big at v)) (values ++ OctetSequence items ∷ []))
    (values_end (at + length (canonical Big at v)) values items last e)

profile_ends : (name : List ℕ) (key : ObjectKey) → EndsWith (octets_of_key key ++ none) (profile_to (listening name) key)
unfolding profile_to
profile_ends name key =
    ends_so (with_values (begun Big) (Octet 1 ∷ Octet 2 ∷ Text name ∷ UShort script_port ∷ [])).octets key

reference_ends : (name : List ℕ) (key : ObjectKey) → EndsWith (octets_of_key key ++ none) (reference name key)
unfolding reference canonical_octets
reference_ends name key =
    values_end 0 (Text (type_of key.kind) ∷ ULong 1 ∷ ULong 0 ∷ []) (profile_to (listening name) key) (octets_of_key key ++ none) (profile_ends name key)

-- ---- what ends alike

one_end : (a b x y : List ℕ) → length x ≡ length y → a ++ x ≡ b ++ y → x ≡ y
one_end [] [] x y same is = is
one_end [] (c ∷ b) x y same is =
    let many = ap length is in
    let both = length-append b y in
    absurd (omega (arith, same, many, both))
one_end (c ∷ a) [] x y same is =
    let many = ap length is in
    let both = length-append a x in
    absurd (omega (arith, same, many, both))
one_end (c ∷ a) (d ∷ b) x y same is = one_end a b x y same (tail_of c d _ _ is)
  where
    tail_of : (c d : ℕ) (xs ys : List ℕ) → c ∷ xs ≡ d ∷ ys → xs ≡ ys
    tail_of c d xs ys e = cc

one_front : (x y z : List ℕ) → length x ≡ length y → x ++ z ≡ y ++ z → x ≡ y
one_front [] [] z same is = refl
one_front [] (d ∷ y) z same is = absurd cc
one_front (c ∷ x) [] z same is = absurd cc
one_front (c ∷ x) (d ∷ y) z same is = both c d x y (head_of c d _ _ is) (one_front x y z (inner same) (tail_of c d _ _ is))
  where
    head_of : (c d : ℕ) (xs ys : List ℕ) → c ∷ xs ≡ d ∷ ys → c ≡ d
    head_of c d xs ys e = cc

    tail_of : (c d : ℕ) (xs ys : List ℕ) → c ∷ xs ≡ d ∷ ys → xs ≡ ys
    tail_of c d xs ys e = cc

    inner : {a b : ℕ} → suc a ≡ suc b → a ≡ b
    inner e = omega (arith, e)

    both : (c d : ℕ) (xs ys : List ℕ) → c ≡ d → xs ≡ ys → c ∷ xs ≡ d ∷ ys
    both c d xs ys e f = ap (λ (z : ℕ). z ∷ xs) e ∙ ap (λ (zs : List ℕ). d ∷ zs) f

-- where the references are the same, the keys are
pub same_reference_key : SameOctetsSameKey → (name other : List ℕ) (a b : ObjectKey) → AreNumbers a → AreNumbers b → reference name a ≡ reference other b → a ≡ b
same_reference_key law name other a b numbers also same =
    let one = reference_ends name a in
    let two = reference_ends other b in
    law a b numbers also (one_front (octets_of_key a) (octets_of_key b) none refl
    (one_end one.front two.front (octets_of_key a ++ none) (octets_of_key b ++ none) refl (sym one.is ∙ same ∙ two.is)))
