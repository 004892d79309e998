-- The journal that octets stand for ends at the gate that was found.
use Rattle.std.proofs.Common.{◌≡◌, ℕ, ◌+◌, ◌<◌, ◌≤◌, List, [], ◌∷◌, ◌++◌, Option, Some, length, take, refl, sym, ap, subst, ◌∙◌, arith, append_assoc, length-append}
use Rattle.decision_journal.specs.Journal.{StandsFor, first_gate, front, header}
use Rattle.decision_journal.specs.Limits.{area_limit}
use Rattle.decision_journal.specs.declared.record.JournalRecord.{JournalRecord}
use Rattle.decision_journal.proofs.Scans.{length_front}
use Rattle.nodes_lives.specs.Loads.{StoresJournal}
use Rattle.nodes_world.specs.Journals.{records_in}
use Rattle.nodes_world.specs.Laws.{RecordsAreRead}
use Rattle.nodes_world.specs.Lives.{journal_line}
use Rattle.nodes_parts.specs.Gated.{HoldsRecords, IsEndGate, octets_of, place_behind}

pub holds_records : (service : ℕ) (octets : List ℕ) (rs : List JournalRecord) → StandsFor service octets rs → HoldsRecords octets rs
holds_records service octets rs s = record {
  front = header service;
  gate = s.gate;
  behind = s.behind;
  first = refl;
  octets_are = s.octets_are ∙ append_assoc (header service) (octets_of rs) (s.gate ∷ s.behind);
  closed = s.closed;
  within = let long : length (front service rs) ≡ place_behind rs = length_front service rs in omega (arith, long, s.within);
}

pub end_is : (service : ℕ) (octets : List ℕ) (rs : List JournalRecord) (end : ℕ) → StandsFor service octets rs → IsEndGate octets end → end ≡ length (front service rs)
end_is service octets rs end s at = at rs (holds_records service octets rs s) ∙ sym (length_front service rs)

pub end_within : (service : ℕ) (octets : List ℕ) (rs : List JournalRecord) (end : ℕ) → StandsFor service octets rs → IsEndGate octets end → end ≤ length octets
end_within service octets rs end s at =
    let is = end_is service octets rs end s at in
    let long : length octets ≡ length (front service rs) + length (s.gate ∷ s.behind) = ap length s.octets_are ∙ length-append (front service rs) (s.gate ∷ s.behind) in
    omega (arith, is, long)

take_front : (xs ys : List ℕ) → take (length xs) (xs ++ ys) ≡ xs
take_front [] [] = refl
take_front [] (y ∷ ys) = refl
take_front (x ∷ xs) ys = ap (λ zs. x ∷ zs) (take_front xs ys)

pub taken : (service : ℕ) (octets : List ℕ) (rs : List JournalRecord) (end : ℕ) → StandsFor service octets rs → IsEndGate octets end → take end octets ≡ front service rs
taken service octets rs end s at =
    ap (λ n. take n octets) (end_is service octets rs end s at)
    ∙ ap (λ xs. take (length (front service rs)) xs) s.octets_are
    ∙ take_front (front service rs) (s.gate ∷ s.behind)

-- a line tells it
pub journal_is_told : RecordsAreRead → (name : List ℕ) (service : ℕ) (octets : List ℕ) → StoresJournal service octets
    → journal_line name service (records_in service octets) ≡ [] → ⊥
journal_is_told law name service octets s none =
    let read = law service octets s.records s.stands in
    let some : journal_line name service (Some s.records) ≡ [] =
    ap (λ (o : Option (List JournalRecord)). journal_line name service o) (sym read) ∙ none in
    absurd (cc (some))
