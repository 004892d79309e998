-- Values that octets spell one after another, and a reader that goes over them.
use Rattle.std.proofs.Common.{◌≡◌, ℕ, ◌+◌, List, [], ◌∷◌, ◌++◌, length, Ok, refl, sym, ap, subst, ◌∙◌, append_assoc, arith}
use Rattle.std.proofs.lemmas.List.{append-nil, length-append}
use Rattle.cdr_values.specs.declared.order.Order.{Order}
use Rattle.cdr_values.specs.declared.order.Order.TheVariants.{Big, Little}
use Rattle.cdr_values.specs.Value.{Value, canonical}
use Rattle.cdr_values.specs.Reading.{Reading}
use Rattle.cdr_values.specs.Writing.{Writing, place_of, with_value}
use Rattle.cdr_values.specs.Values.{SpellsAll, ReadsAll, canonical_all, with_values}
use Rattle.cdr_values.specs.Laws.{CanonicalSpells}
use Rattle.cdr_values.specs.Encapsulation.{inside, opened, begun}
use Rattle.cdr_values.specs.Again.{AllFit, standing, ValuesAreReadAgain, EncapsulationsAreReadAgain}
use Rattle.cdr_values.proofs.Standing.{reading_is}

-- a reader goes over values and then over more values
pub reads_then : (us vs : List Value) (r middle behind : Reading) → ReadsAll r us middle → ReadsAll middle vs behind → ReadsAll r (us ++ vs) behind
reads_then [] vs r middle behind h k = subst (λ (s : Reading). ReadsAll s vs behind) h k
reads_then (u ∷ us) vs r middle behind h k = (h.0, h.1, reads_then us vs h.0 middle behind h.2 k)

-- where the reader stands between them
pub reads_apart : (us vs : List Value) (r behind : Reading) → ReadsAll r (us ++ vs) behind → (middle : Reading) × ReadsAll r us middle × ReadsAll middle vs behind
reads_apart [] vs r behind h = (r, refl, h)
reads_apart (u ∷ us) vs r behind h =
    let p = reads_apart us vs h.0 behind h.2 in
    (p.0, (h.0, h.1, p.1), p.2)

-- a reader goes over values where octets spell them
pub reads_spelled : (vs : List Value) (order : Order) (at : ℕ) (octets more : List ℕ) → SpellsAll order at vs octets → ReadsAll (standing order at (octets ++ more)) vs (standing order (at + length octets) more)
reads_spelled [] order at octets more s = reading_is (standing order (at + length octets) more) (standing order at (octets ++ more)) refl (omega (arith, ap length s)) (sym (ap (λ (x : List ℕ). x ++ more) s))
reads_spelled (v ∷ vs) order at octets more s =
    let front = s.0 in
    let rest = s.1 in
    let middle = standing order (at + length front) (rest ++ more) in
    let parts : octets ++ more ≡ front ++ (rest ++ more) = ap (λ (x : List ℕ). x ++ more) s.2 ∙ append_assoc front rest more in
    let place : (at + length front) + length rest ≡ at + length octets = omega (arith, ap length s.2, length-append front rest) in
    let others = reads_spelled vs order (at + length front) rest more s.4 in
    (middle, record { octets = front; spelled = s.3; front = parts; place = refl; order = refl }, subst (λ (k : ℕ). ReadsAll middle vs (standing order k more)) place others)

-- octets that spell values and then more values come apart
pub spells_apart : (us vs : List Value) (order : Order) (at : ℕ) (octets : List ℕ) → SpellsAll order at (us ++ vs) octets → (front : List ℕ) × (rest : List ℕ) × (octets ≡ front ++ rest) × SpellsAll order at us front × SpellsAll order (at + length front) vs rest
spells_apart [] vs order at octets s =
    let here : at ≡ at + 0 = omega arith in
    ([], octets, refl, refl, subst (λ (k : ℕ). SpellsAll order k vs octets) here s)
spells_apart (u ∷ us) vs order at octets s =
    let one = s.0 in
    let p = spells_apart us vs order (at + length one) s.1 s.4 in
    let place : (at + length one) + length p.0 ≡ at + length (one ++ p.0) = omega (arith, length-append one p.0) in
    (one ++ p.0, p.1, s.2 ∙ ap (λ (x : List ℕ). one ++ x) p.2 ∙ sym (append_assoc one p.0 p.1), (one, p.0, refl, s.3, p.3), subst (λ (k : ℕ). SpellsAll order k vs p.1) place p.4)

-- the canonical octets of values spell them
pub spells_all : CanonicalSpells → (order : Order) (at : ℕ) (values : List Value) → AllFit values → SpellsAll order at values (canonical_all order at values)
spells_all law order at [] fit = refl
spells_all law order at (x ∷ xs) fit =
    let one = canonical order at x in
    let rest = canonical_all order (at + length one) xs in
    (one, rest, refl, law order at x fit.0, spells_all law order (at + length one) xs fit.1)

-- values that were written are read again
pub values_again : CanonicalSpells → ValuesAreReadAgain
values_again law order at values more fit = reads_spelled values order at (canonical_all order at values) more (spells_all law order at values fit)

-- a writing of these parts
abbrev writing : Order → ℕ → List ℕ → Writing
writing order start octets = record { order = order; start = start; octets = octets }

-- the octets of the values stand behind those that were there
pub with_values-is : (w : Writing) (values : List Value) → with_values w values ≡ writing w.order w.start (w.octets ++ canonical_all w.order (place_of w) values)
with_values-is w [] = ap (writing w.order w.start) (sym (append-nil w.octets))
with_values-is w (x ∷ xs) =
    let one = canonical w.order (place_of w) x in
    let place : place_of (with_value w x) ≡ place_of w + length one = omega (arith, length-append w.octets one) in
    with_values-is (with_value w x) xs ∙ ap (writing w.order w.start) (ap (λ (k : ℕ). (w.octets ++ one) ++ canonical_all w.order k xs) place ∙ append_assoc w.octets one (canonical_all w.order (place_of w + length one) xs))

-- an encapsulation that was written is opened in its order
opened_again : (order : Order) (octets : List ℕ) → opened ((begun order).octets ++ octets) ≡ Ok (inside order octets)
opened_again Big octets = refl
opened_again Little octets = refl

-- what was written into an encapsulation is read again
pub encapsulations_again : CanonicalSpells → EncapsulationsAreReadAgain
encapsulations_again law order values tail fit =
    let octets = canonical_all order 1 values in
    let whole : (with_values (begun order) values).octets ≡ (begun order).octets ++ octets = ap (λ (w : Writing). w.octets) (with_values-is (begun order) values) in
    let behind : (with_values (begun order) values).octets ++ tail ≡ (begun order).octets ++ (octets ++ tail) = ap (λ (x : List ℕ). x ++ tail) whole ∙ append_assoc (begun order).octets octets tail in
    (ap opened behind ∙ opened_again order (octets ++ tail), values_again law order 1 values tail fit)
