-- Values that octets spell one after another, and a reader that goes over them.
use Rattle.std.proofs.Common.{◌≡◌, ℕ, ◌+◌, List, [], ◌∷◌, ◌++◌, length, refl, sym, ap, subst, ◌∙◌, append_assoc, arith}
use Rattle.std.proofs.lemmas.List.{length-append}
use Rattle.cdr_values.specs.declared.order.Order.{Order}
use Rattle.cdr_values.specs.Value.{Value}
use Rattle.cdr_values.specs.Reading.{Reading}
use Rattle.cdr_values.specs.Values.{SpellsAll, ReadsAll}
use Rattle.giop_frames.proofs.Given.{reading_is}

-- a reader goes over values and then over more values
pub reads_then : (us vs : List Value) (r middle behind : Reading) → ReadsAll r us middle → ReadsAll middle vs behind → ReadsAll r (us ++ vs) behind
reads_then [] vs r middle behind h k = subst (λ (s : Reading). ReadsAll s vs behind) h k
reads_then (u ∷ us) vs r middle behind h k = (h.0, h.1, reads_then us vs h.0 middle behind h.2 k)

-- where the reader stands between them
pub reads_apart : (us vs : List Value) (r behind : Reading) → ReadsAll r (us ++ vs) behind → (middle : Reading) × ReadsAll r us middle × ReadsAll middle vs behind
reads_apart [] vs r behind h = (r, refl, h)
reads_apart (u ∷ us) vs r behind h =
    let p = reads_apart us vs h.0 behind h.2 in
    (p.0, (h.0, h.1, p.1), p.2)

-- a reader behind these octets, with more left
abbrev pub after : Reading → List ℕ → List ℕ → Reading
after r octets more = record { order = r.order; place = r.place + length octets; rest = more }

-- a reader goes over values where octets spell them
pub reads_spelled : (vs : List Value) (r : Reading) (octets more : List ℕ) → SpellsAll r.order r.place vs octets → r.rest ≡ octets ++ more → ReadsAll r vs (after r octets more)
reads_spelled [] r octets more s e = reading_is (after r octets more) r refl (omega (arith, ap length s)) (sym (e ∙ ap (λ (x : List ℕ). x ++ more) s))
reads_spelled (v ∷ vs) r octets more s e =
    let front = s.0 in
    let rest = s.1 in
    let middle = after r front (rest ++ more) in
    let parts : r.rest ≡ front ++ (rest ++ more) = e ∙ ap (λ (x : List ℕ). x ++ more) s.2 ∙ append_assoc front rest more in
    let place : (r.place + length front) + length rest ≡ r.place + length octets = omega (arith, ap length s.2, length-append front rest) in
    let others = reads_spelled vs middle rest more s.4 refl in
    let ended = reading_is (after middle rest more) (after r octets more) refl place refl in
    (middle, record { octets = front; spelled = s.3; front = parts; place = refl; order = refl }, subst (λ (b : Reading). ReadsAll middle vs b) ended others)

-- the octets that a reader goes over
pub record Passed (r : Reading) (vs : List Value) (behind : Reading) : Type 0 where
  pub octets : List ℕ
  pub spelled : SpellsAll r.order r.place vs octets
  pub front : r.rest ≡ octets ++ behind.rest
  pub place : behind.place ≡ r.place + length octets
  pub order : behind.order ≡ r.order

-- octets spell the values that a reader goes over
pub passed : (vs : List Value) (r behind : Reading) → ReadsAll r vs behind → Passed r vs behind
passed [] r behind h = record { octets = []; spelled = refl; front = sym (ap (λ (s : Reading). s.rest) h); place = omega (arith, ap (λ (s : Reading). s.place) h); order = ap (λ (s : Reading). s.order) h }
passed (v ∷ vs) r behind h =
    let middle = h.0 in
    let one = h.1 in
    let p = passed vs middle behind h.2 in
    let ordered : SpellsAll r.order middle.place vs p.octets = subst (λ (o : Order). SpellsAll o middle.place vs p.octets) one.order p.spelled in
    let others : SpellsAll r.order (r.place + length one.octets) vs p.octets = subst (λ (k : ℕ). SpellsAll r.order k vs p.octets) one.place ordered in
    record {
      octets = one.octets ++ p.octets;
      spelled = (one.octets, p.octets, refl, one.spelled, others);
      front = one.front ∙ ap (λ (x : List ℕ). one.octets ++ x) p.front ∙ sym (append_assoc one.octets p.octets behind.rest);
      place = omega (arith, p.place, one.place, length-append one.octets p.octets);
      order = p.order ∙ one.order;
    }
