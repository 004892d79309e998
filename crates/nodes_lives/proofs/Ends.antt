-- Where the end of a journal is, found from where it was.
use Rattle.std.proofs.Common.{◌≡◌, ℕ, ◌+◌, ◌<◌, ◌^◌, Bool, false, cond, ltb, List, ◌∷◌, ◌++◌, length, Option, Some, None, refl, ap, ◌∙◌, arith, append_assoc, length-append}
use Rattle.std.specs.Prelude.{unwrap_or}
use Rattle.std.proofs.lemmas.Bool.{le-ltb}
use Rattle.std.proofs.lemmas.List.{drop_at}
use Rattle.byteorder.specs.Endian.{big_number}
use Rattle.byteorder.specs.Numbers.{big_number-reads_back, length-bytes_high_first}
use Rattle.decision_journal.specs.Layout.{four, payload, record_octets}
use Rattle.decision_journal.specs.Limits.{area_limit}
use Rattle.decision_journal.specs.declared.record.JournalRecord.{JournalRecord}
use Rattle.nodes_parts.specs.Gated.{gate_behind}
use Rattle.nodes_lives.specs.Running.{end_from}

length_record : (r : JournalRecord) → length (record_octets r) ≡ 5 + length (payload r)
length_record r = omega (arith, length-append (four (length (payload r))) (payload r), length-bytes_high_first 4 (length (payload r)))

-- the length of a record that is open leads behind it
behind_record : (r : JournalRecord) (rest : List ℕ) (gate : ℕ) → length (payload r) < 2 ^ 32
    → gate_behind gate (record_octets r ++ rest) ≡ Some (gate + length (record_octets r))
behind_record r rest gate small =
    let n = length (payload r) in
    let tail = (four n ++ payload r) ++ rest in
    let long : ltb (length ((four (length (payload r)) ++ payload r) ++ rest)) 4 ≡ false =
    le-ltb _ _ (omega (arith, length-append (four (length (payload r)) ++ payload r) rest, length-append (four (length (payload r))) (payload r), length-bytes_high_first 4 (length (payload r)))) in
    let number : big_number 4 tail ≡ n = ap (big_number 4) (append_assoc (four n) (payload r) rest) ∙ big_number-reads_back 4 n (payload r ++ rest) small in
    let sum : gate + 1 + 4 + length (payload r) ≡ gate + length (record_octets r) = omega (arith, length_record r) in
    ap (λ (b : Bool). cond b None (Some (gate + 1 + 4 + big_number 4 tail))) long
    ∙ ap (λ (k : ℕ). Some (gate + 1 + 4 + k)) number ∙ ap (λ (k : ℕ). Some k) sum

-- it stays at a gate that is closed
pub end_stays : (f rest : List ℕ) → end_from (f ++ 0 ∷ rest) (length f) ≡ length f
end_stays f rest = ap (λ (xs : List ℕ). unwrap_or (gate_behind (length f) xs) (length f)) (drop_at f (0 ∷ rest) (length f) refl)

-- it moves behind a record
pub end_moves : (f : List ℕ) (r : JournalRecord) (rest : List ℕ) → length (record_octets r) < area_limit
    → end_from (f ++ (record_octets r ++ 0 ∷ rest)) (length f) ≡ length f + length (record_octets r)
end_moves f r rest less =
    let small : length (payload r) < 2 ^ 32 = omega (arith, less, length_record r) in
    ap (λ (xs : List ℕ). unwrap_or (gate_behind (length f) xs) (length f)) (drop_at f (record_octets r ++ 0 ∷ rest) (length f) refl)
    ∙ ap (λ (o : Option ℕ). unwrap_or o (length f)) (behind_record r (0 ∷ rest) (length f) small)
