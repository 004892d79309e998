-- What a disk reads once a record was appended to it.
use Rattle.std.proofs.Common.{◌≡◌, ℕ, zero, suc, ◌+◌, List, [], ◌∷◌, ◌++◌, length, drop, refl, sym, ap, ◌∙◌, arith, append_assoc, length-append}
use Rattle.std.proofs.Math.Seq.{drop-append-add}
use Rattle.ots_outside.specs.Disk.{DiskState, overwritten}
use Rattle.decision_journal.specs.Laws.{appended, behind_gate}
use Rattle.decision_journal.specs.Layout.{record_octets}
use Rattle.decision_journal.specs.declared.record.JournalRecord.{JournalRecord}
use Rattle.decision_journal.proofs.Append.{body, over_behind, over_gate}
use Rattle.nodes_parts.specs.Striking.{closed_over}

-- octets with a closed gate behind them stay so
pub closed_self : (f rest : List ℕ) → closed_over f (f ++ 0 ∷ rest) ≡ f ++ 0 ∷ rest
closed_self f rest = ap (λ (xs : List ℕ). f ++ 0 ∷ xs) (drop-append-add f (0 ∷ rest) 1)

drop_more : (xs : List ℕ) (m n : ℕ) → drop (m + n) xs ≡ drop n (drop m xs)
drop_more xs zero n = let e : zero + n ≡ n = omega arith in ap (λ (k : ℕ). drop k xs) e
drop_more [] (suc m) zero = let e : suc m + zero ≡ suc m = omega arith in ap (λ (k : ℕ). drop k []) e
drop_more [] (suc m) (suc n) = let e : suc m + suc n ≡ suc (m + suc n) = omega arith in ap (λ (k : ℕ). drop k []) e
drop_more (x ∷ xs) (suc m) n = let e : suc m + n ≡ suc (m + n) = omega arith in ap (λ (k : ℕ). drop k (x ∷ xs)) e ∙ drop_more xs m n

-- the record stands behind what was there, and then a closed gate
pub appended_reads : (f : List ℕ) (gate : ℕ) (behind : List ℕ) (r : JournalRecord) (disk : DiskState) → disk.reads ≡ f ++ gate ∷ behind
    → (appended (length f) (behind_gate r) disk).reads ≡ f ++ (record_octets r ++ 0 ∷ drop (length (behind_gate r)) behind)
appended_reads f gate behind r disk is =
    let left = drop (length (behind_gate r)) behind in
    let first : overwritten disk.reads (length f + 1) (behind_gate r) ≡ f ++ gate ∷ (body r ++ 0 ∷ left) =
    ap (λ (l : List ℕ). overwritten l (length f + 1) (behind_gate r)) is ∙ over_behind f gate behind (behind_gate r)
    ∙ ap (λ (l : List ℕ). f ++ gate ∷ l) (append_assoc (body r) (0 ∷ []) left) in
    ap (λ (l : List ℕ). overwritten l (length f) (1 ∷ [])) first ∙ over_gate f gate (body r ++ 0 ∷ left)

-- what stands behind that is what stood there when the disk was loaded
pub closed_more : (f loaded : List ℕ) (r : JournalRecord) (disk : DiskState) → disk.reads ≡ closed_over f loaded
    → (appended (length f) (behind_gate r) disk).reads ≡ closed_over (f ++ record_octets r) loaded
closed_more f loaded r disk is =
    let one : length (record_octets r) ≡ suc (length (body r)) = refl in
    let places : length f + 1 + length (behind_gate r) ≡ length (f ++ record_octets r) + 1 =
    omega (arith, one, length-append f (record_octets r), length-append (body r) (0 ∷ [])) in
    appended_reads f 0 (drop (length f + 1) loaded) r disk is
    ∙ ap (λ (xs : List ℕ). f ++ (record_octets r ++ 0 ∷ xs)) (sym (drop_more loaded (length f + 1) (length (behind_gate r))) ∙ ap (λ (k : ℕ). drop k loaded) places)
    ∙ sym (append_assoc f (record_octets r) (0 ∷ drop (length (f ++ record_octets r) + 1) loaded))
