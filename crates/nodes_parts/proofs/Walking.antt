-- A walk from gate to gate comes to the end of the records.
use Rattle.std.proofs.Common.{◌≡◌, ℕ, zero, suc, ◌+◌, ◌<◌, ◌≤◌, ◌^◌, false, cond, ltb, List, [], ◌∷◌, ◌++◌, length, drop, Some, None, refl, sym, ap, ◌∙◌, arith, append_assoc, length-append}
use Rattle.std.proofs.lemmas.Bool.{le-ltb, ne_eqb}
use Rattle.std.proofs.lemmas.List.{drop_at}
use Rattle.std.proofs.lemmas.List.Concat.{flat_map-cons}
use Rattle.byteorder.specs.Endian.{big_number}
use Rattle.byteorder.specs.Numbers.{big_number-reads_back, length-bytes_high_first}
use Rattle.decision_journal.specs.Journal.{first_gate}
use Rattle.decision_journal.specs.Layout.{four, payload, record_octets}
use Rattle.decision_journal.specs.Limits.{area_limit}
use Rattle.decision_journal.specs.declared.record.JournalRecord.{JournalRecord}
use Rattle.nodes_parts.specs.Gated.{HoldsRecords, gate_behind, octets_of, place_behind, record_end}

length_record : (r : JournalRecord) → length (record_octets r) ≡ 5 + length (payload r)
length_record r = omega (arith, length-append (four (length (payload r))) (payload r), length-bytes_high_first 4 (length (payload r)))

-- behind a record stands the next gate
end_of_record : (r : JournalRecord) (rest : List ℕ) (gate : ℕ) → length (payload r) < 2 ^ 32
    → gate_behind gate (record_octets r ++ rest) ≡ Some (gate + length (record_octets r))
end_of_record r rest gate small =
    let n = length (payload r) in
    let tail = (four n ++ payload r) ++ rest in
    let long : ltb (length ((four (length (payload r)) ++ payload r) ++ rest)) 4 ≡ false =
    le-ltb _ _ (omega (arith, length-append (four (length (payload r)) ++ payload r) rest, length-append (four (length (payload r))) (payload r), length-bytes_high_first 4 (length (payload r)))) in
    let number : big_number 4 tail ≡ n = ap (big_number 4) (append_assoc (four n) (payload r) rest) ∙ big_number-reads_back 4 n (payload r ++ rest) small in
    let sum : gate + 1 + 4 + length (payload r) ≡ gate + length (record_octets r) = omega (arith, length_record r) in
    ap (λ b. cond b None (Some (gate + 1 + 4 + big_number 4 tail))) long
    ∙ ap (λ k. Some (gate + 1 + 4 + k)) number ∙ ap (λ (k : ℕ). Some k) sum

end_of_all : (gate place : ℕ) (behind : List ℕ) → ¬ (gate ≡ 1) → gate_behind place (gate ∷ behind) ≡ None
end_of_all gate place behind closed = ap (λ b. cond b (record_end (place + 1) behind) None) (ne_eqb gate 1 closed)

-- the gate of the last of these records that stand from a gate on
pub last_after : ℕ → ℕ → List JournalRecord → ℕ
last_after last end [] = last
last_after last end (r ∷ rs) = last_after end (end + length (record_octets r)) rs

last_of : (last end : ℕ) (before : List JournalRecord) (r : JournalRecord) → last_after last end (before ++ r ∷ []) ≡ end + length (octets_of before)
unfolding last_after
last_of last end [] r = omega arith
last_of last end (s ∷ before) r =
    last_of end (end + length (record_octets s)) before r
    ∙ omega (arith, length-append (record_octets s) (octets_of before), ap length (flat_map-cons record_octets s before))

-- what is ahead of a walk
pub record IsAhead (octets : List ℕ) (last end : ℕ) (rs : List JournalRecord) : Type 0 where
  pub left : List JournalRecord
  pub gate : ℕ
  pub behind : List ℕ
  pub stands : drop end octets ≡ octets_of left ++ gate ∷ behind
  pub closed : ¬ (gate ≡ 1)
  pub place : end + length (octets_of left) ≡ place_behind rs
  pub within : place_behind rs ≤ area_limit
  pub lasts : last_after last end left ≡ last_after first_gate first_gate rs

pub ahead_first : (octets : List ℕ) (rs : List JournalRecord) → HoldsRecords octets rs → IsAhead octets first_gate first_gate rs
ahead_first octets rs h = record {
  left = rs;
  gate = h.gate;
  behind = h.behind;
  stands = ap (drop first_gate) h.octets_are ∙ drop_at h.front (octets_of rs ++ h.gate ∷ h.behind) first_gate h.first;
  closed = h.closed;
  place = refl;
  within = h.within;
  lasts = refl;
}

drop_more : (xs : List ℕ) (m n : ℕ) → drop (m + n) xs ≡ drop n (drop m xs)
drop_more xs zero n = let e : zero + n ≡ n = omega arith in ap (λ k. drop k xs) e
drop_more [] (suc m) zero = let e : suc m + zero ≡ suc m = omega arith in ap (λ k. drop k []) e
drop_more [] (suc m) (suc n) = let e : suc m + suc n ≡ suc (m + suc n) = omega arith in ap (λ k. drop k []) e
drop_more (x ∷ xs) (suc m) n = let e : suc m + n ≡ suc (m + n) = omega arith in ap (λ k. drop k (x ∷ xs)) e ∙ drop_more xs m n

module _ (octets : List ℕ) (last end : ℕ) (rs : List JournalRecord) (a : IsAhead octets last end rs) where
  next_left : (left : List JournalRecord) (next : ℕ) → a.left ≡ left → gate_behind end (drop end octets) ≡ Some next → IsAhead octets end next rs
  unfolding last_after
  next_left [] next e found =
      absurd (let n = sym found ∙ ap (gate_behind end) (a.stands ∙ ap (λ l. octets_of l ++ a.gate ∷ a.behind) e) ∙ end_of_all a.gate end a.behind a.closed in cc)
  next_left (r ∷ left) next e found =
      let place = a.place in
      let within = a.within in
      let size = length-append (record_octets r) (octets_of left) in
      let all : length (octets_of a.left) ≡ length (record_octets r ++ octets_of left) = ap (λ l. length (octets_of l)) e ∙ ap length (flat_map-cons record_octets r left) in
      let stands : drop end octets ≡ record_octets r ++ (octets_of left ++ a.gate ∷ a.behind) =
      a.stands ∙ ap (λ l. octets_of l ++ a.gate ∷ a.behind) e ∙ ap (λ xs. xs ++ a.gate ∷ a.behind) (flat_map-cons record_octets r left)
      ∙ append_assoc (record_octets r) (octets_of left) (a.gate ∷ a.behind) in
      let small : length (payload r) < 2 ^ 32 = omega (arith, length_record r) in
      let is : Some next ≡ Some (end + length (record_octets r)) =
      sym found ∙ ap (gate_behind end) stands ∙ end_of_record r (octets_of left ++ a.gate ∷ a.behind) end small in
      let at : next ≡ end + length (record_octets r) = cc in
      record {
        left = left;
        gate = a.gate;
        behind = a.behind;
        stands = ap (λ k. drop k octets) at ∙ drop_more octets end (length (record_octets r)) ∙ ap (drop (length (record_octets r))) stands
            ∙ drop_at (record_octets r) (octets_of left ++ a.gate ∷ a.behind) (length (record_octets r)) refl;
        closed = a.closed;
        place = omega arith;
        within = within;
        lasts = ap (λ k. last_after end k left) at ∙ sym (ap (last_after last end) e) ∙ a.lasts;
      }

  pub ahead_next : (next : ℕ) → gate_behind end (drop end octets) ≡ Some next → IsAhead octets end next rs
  ahead_next next found = next_left a.left next refl found

  pub record HasEnded : Type 0 where
    pub end_is : end ≡ place_behind rs
    pub last_is : last ≡ last_after first_gate first_gate rs

  none_left : (left : List JournalRecord) → a.left ≡ left → gate_behind end (drop end octets) ≡ None → HasEnded
  unfolding last_after
  none_left [] e found =
      let place = a.place in
      let none : length (octets_of a.left) ≡ 0 = ap (λ l. length (octets_of l)) e in
      record { end_is = omega arith; last_is = sym (ap (last_after last end) e) ∙ a.lasts }
  none_left (r ∷ left) e found =
      let place = a.place in
      let within = a.within in
      let size = length-append (record_octets r) (octets_of left) in
      let all : length (octets_of a.left) ≡ length (record_octets r ++ octets_of left) = ap (λ l. length (octets_of l)) e ∙ ap length (flat_map-cons record_octets r left) in
      let stands : drop end octets ≡ record_octets r ++ (octets_of left ++ a.gate ∷ a.behind) =
      a.stands ∙ ap (λ l. octets_of l ++ a.gate ∷ a.behind) e ∙ ap (λ xs. xs ++ a.gate ∷ a.behind) (flat_map-cons record_octets r left)
      ∙ append_assoc (record_octets r) (octets_of left) (a.gate ∷ a.behind) in
      let small : length (payload r) < 2 ^ 32 = omega (arith, length_record r) in
      absurd (let n = sym found ∙ ap (gate_behind end) stands ∙ end_of_record r (octets_of left ++ a.gate ∷ a.behind) end small in cc)

  pub ahead_none : gate_behind end (drop end octets) ≡ None → HasEnded
  ahead_none found = none_left a.left refl found

pub last_found : (octets : List ℕ) (last end : ℕ) (before : List JournalRecord) (r : JournalRecord) → last ≡ last_after first_gate first_gate (before ++ r ∷ [])
    → last ≡ place_behind before
last_found octets last end before r e = e ∙ last_of first_gate first_gate before r
