-- How far octets that are read a piece at a time go along with those that are known.
use Rattle.std.proofs.Common.{◌≡◌, ◌⊎◌, inl, inr, ℕ, ◌+◌, ◌-◌, ◌<◌, ◌≤◌, Bool, List, [], ◌∷◌, ◌++◌, length, get_or, take, drop, Option, Some, None, refl, sym, ap, subst, ◌∙◌, arith, length-append, length-drop, length-take, slice_range}
use Rattle.std.specs.Prelude.{IsTrue}
use Rattle.std.proofs.lemmas.Bool.{cases_lt}
use Rattle.std.proofs.lemmas.List.{get_or_append_left, append-nil, take_at}
use Rattle.std.proofs.Math.Seq.{get_or-append_right, get_or-append_seam, get_or-drop}
use Rattle.decision_journal.specs.declared.record.JournalRecord.{JournalRecord}
use Rattle.decision_journal.specs.Layout.{record_octets}
use Rattle.decision_journal.specs.Journal.{IsAlong, StandsAt}
use Rattle.decision_journal.specs.State.{BeginsWithEither, doubted_octets}
use Rattle.decision_journal.proofs.Begins.{stands_by}
use Rattle.decision_journal.proofs.Images.{begins_with}
use Rattle.decision_journal.proofs.Pieces.{take_more}

-- the place was found before
pub along_found : (known read more : List ℕ) (same : ℕ) (closed : Bool) → same < length read → IsAlong known read same closed → IsAlong known (read ++ more) same closed
along_found known read more same closed lt a = record {
  first = record {
    same = λ k less. get_or_append_left read more 0 k (omega (arith, less, lt)) ∙ a.first.same k less;
    within = (a.first.within.0, omega (arith, a.first.within.1, length-append read more));
    differs = λ x y e. a.first.differs x lt (sym (get_or_append_left read more 0 same lt) ∙ e);
  };
  gate = (
    (λ t. (omega (arith, lt, length-append read more), λ e. (a.gate.0 t).1 (sym (get_or_append_left read more 0 same lt) ∙ e))),
    (λ p. a.gate.1 (lt, λ e. p.1 (get_or_append_left read more 0 same lt ∙ e))),
  );
}

-- all was the same, and it goes on
pub along_more : (known read piece : List ℕ) (same more : ℕ) (was closed : Bool) → same ≡ length read → IsAlong known read same was → IsAlong (drop same known) piece more closed → IsAlong known (read ++ piece) (same + more) closed
along_more known read piece same more was closed n_is a b = record {
  first = record {
    same = λ k less. elim (cases_lt k same) [
      | inl low ↦ get_or_append_left read piece 0 k (omega (arith, low, n_is)) ∙ a.first.same k low
      | inr high ↦
          at k high ∙ b.first.same (k - same) (omega (arith, less, high)) ∙ in_known k high
    ];
    within = (omega (arith, a.first.within.0, b.first.within.0, length-drop same known), omega (arith, n_is, b.first.within.1, length-append read piece));
    differs = λ x y e. b.first.differs (omega (arith, x, length-drop same known)) (omega (arith, y, n_is, length-append read piece))
        (sym (front 0) ∙ e ∙ known_at 0);
  };
  gate = (
    (λ t. let h = b.gate.0 t in (omega (arith, h.0, n_is, length-append read piece), λ e. h.1 (sym (front 0) ∙ e))),
    (λ p. b.gate.1 (omega (arith, p.0, n_is, length-append read piece), λ e. p.1 (front 0 ∙ e))),
  );
}
  where
    at : (k : ℕ) → same ≤ k → get_or (read ++ piece) k 0 ≡ get_or piece (k - same) 0
    at k high =
        get_or-append_right read piece k 0 (omega (arith, high, n_is)) ∙ ap (λ (n : ℕ). get_or piece (k - n) 0) (sym n_is)

    in_known : (k : ℕ) → same ≤ k → get_or (drop same known) (k - same) 0 ≡ get_or known k 0
    in_known k high = get_or-drop same known (k - same) 0 ∙ (let e : same + (k - same) ≡ k = omega (arith, high) in ap (λ (n : ℕ). get_or known n 0) e)

    front : (z : ℕ) → get_or (read ++ piece) (same + more) 0 ≡ get_or piece more 0
    front z = at (same + more) (omega arith) ∙ (let e : same + more - same ≡ more = omega arith in ap (λ (n : ℕ). get_or piece n 0) e)

    known_at : (z : ℕ) → get_or known (same + more) 0 ≡ get_or (drop same known) more 0
    known_at z = sym (get_or-drop same known more 0)

-- one more piece of what is read
pub along_piece : (known reads piece : List ℕ) (place part same more : ℕ) (was closed : Bool) → place + part ≤ length reads → piece ≡ slice_range reads place (place + part)
    → ((read : List ℕ) → length read ≡ place → IsAlong known read same was → IsAlong known (read ++ piece) more closed) → IsAlong known (take place reads) same was → IsAlong known (take (place + part) reads) more closed
along_piece known reads piece place part same more was closed within piece_is step a =
    let size : length (take place reads) ≡ place = omega (arith, within, length-take place reads) in
    let range : piece ≡ take part (drop place reads) = piece_is ∙ (let e : place + part - place ≡ part = omega arith in ap (λ (k : ℕ). take k (drop place reads)) e) in
    subst (λ (l : List ℕ). IsAlong known l more closed) (ap (λ (p : List ℕ). take place reads ++ p) range ∙ take_more reads place part) (step (take place reads) size a)

-- what stands at the front of the octets that it was read into
pub piece_front : (into rest reads : List ℕ) (place part m : ℕ) → m ≡ part → place + part ≤ length reads → into ≡ slice_range reads place (place + m) → take part (into ++ rest) ≡ slice_range reads place (place + part)
piece_front into rest reads place part m m_is within read =
    let is : into ≡ slice_range reads place (place + part) = read ∙ ap (λ (k : ℕ). slice_range reads place (place + k)) m_is in
    let size : length into ≡ part = omega (arith, within, ap length is, length-take (place + part - place) (drop place reads), length-drop place reads) in
    take_at into rest part size ∙ is

-- ---- what is found so

-- octets that are known, behind which a gate that isn't open was found
pub along_stands : (o rest read : List ℕ) (same : ℕ) (closed : Bool) → IsAlong (o ++ rest) read same closed → same ≡ length o → IsTrue closed → StandsAt o read
along_stands o rest read same closed a is t =
    let gate = a.gate.0 t in
    let begins = begins_with o read (omega (arith, gate.0, is)) (λ i lt. a.first.same i (omega (arith, lt, is)) ∙ get_or_append_left o rest 0 i lt) in
    stands_by o read (omega (arith, gate.0, is)) (ap (take (length o)) begins ∙ take_at o (drop (length o) read) (length o) refl) (λ e. gate.1 (ap (λ (n : ℕ). get_or read n 0) is ∙ e))

-- and where they stand, it is found
pub along_there : (o rest read : List ℕ) (same : ℕ) (closed : Bool) → ((rest ≡ []) ⊎ (get_or rest 0 0 ≡ 1)) → IsAlong (o ++ rest) read same closed → StandsAt o read → (same ≡ length o) × IsTrue closed
along_there o rest read same closed form a at =
    let same_is = place in (same_is, a.gate.1 (omega (arith, long, same_is), λ e. at.closed (sym gate_at ∙ ap (λ (n : ℕ). get_or read n 0) (sym same_is) ∙ e)))
  where
    long : length o < length read
    long = omega (arith, ap length at.octets_are, length-append o (at.gate ∷ at.behind))

    gate_at : get_or read (length o) 0 ≡ at.gate
    gate_at = ap (λ (l : List ℕ). get_or l (length o) 0) at.octets_are ∙ get_or-append_seam o at.gate at.behind 0

    not_below : same < length o → ⊥
    not_below lt = a.first.differs (omega (arith, lt, length-append o rest)) (omega (arith, lt, long))
        (ap (λ (l : List ℕ). get_or l same 0) at.octets_are ∙ get_or_append_left o (at.gate ∷ at.behind) 0 same lt ∙ sym (get_or_append_left o rest 0 same lt))

    not_above : length o < same → ⊥
    not_above lt = elim form [
      | inl none ↦ absurd (omega (arith, lt, a.first.within.0, length-append o rest, ap length none))
      | inr one ↦ at.closed (sym gate_at ∙ a.first.same (length o) lt ∙ get_or-append_right o rest (length o) 0 (omega arith) ∙ (let e : length o - length o ≡ 0 = omega arith in ap (λ (n : ℕ). get_or rest n 0) e) ∙ one)
    ]

    place : same ≡ length o
    place = elim (cases_lt same (length o)) [
      | inl below ↦ absurd (not_below below)
      | inr from ↦ elim (cases_lt (length o) same) [ inl above ↦ absurd (not_above above) | inr upto ↦ omega (arith, from, upto) ]
    ]

-- where it is neither, the octets are none that were expected
pub along_neither : (o read : List ℕ) (doubted : Option JournalRecord) (same : ℕ) (closed : Bool) → IsAlong (o ++ doubted_octets doubted) read same closed → (same ≡ length o → IsTrue closed → ⊥)
    → (same ≡ length (o ++ doubted_octets doubted) → IsTrue closed → ⊥) → BeginsWithEither o doubted read → ⊥
along_neither o read None same closed a first second at = let f = along_there o [] read same closed (inl refl) a at in first f.0 f.1
along_neither o read (Some r) same closed a first second (inl at) = let f = along_there o (record_octets r) read same closed (inr refl) a at in first f.0 f.1
along_neither o read (Some r) same closed a first second (inr at) =
    let whole = subst (λ (l : List ℕ). IsAlong l read same closed) (sym (append-nil (o ++ record_octets r))) a in
    let f = along_there (o ++ record_octets r) [] read same closed (inl refl) whole at in second f.0 f.1
