-- No more records stand than there are octets.
use Rattle.std.proofs.Common.{ℕ, suc, ◌+◌, ◌≤◌, List, [], ◌∷◌, ◌++◌, length, take, drop, Option, Some, None, ap, arith, length-append, length-take, length-drop}
use Rattle.std.specs.Prelude.{position}
use Rattle.std.specs.List.{flat_map, remove}
use Rattle.std.proofs.lemmas.List.Sums.{count_by-le-length}
use Rattle.std.proofs.lemmas.List.Concat.{flat_map-cons}
use Rattle.decision_journal.specs.declared.journal.Standing.{Standing}
use Rattle.decision_journal.specs.declared.record.JournalRecord.{JournalRecord}
use Rattle.decision_journal.specs.declared.record.JournalRecord.TheVariants.{Life, Decision, Done, Prepared, CellsPrepared, CellsOutcome, CellsOnePhase}
use Rattle.decision_journal.specs.Layout.{record_octets}
use Rattle.decision_journal.specs.Journal.{Found, nothing_found, first_gate, with_record, with_records, taken_away, is_decision, is_decision_at, IsFilled}
use Rattle.decision_journal.specs.State.{decisions}
use Rattle.decision_journal.proofs.Scans.{length_front}

length-pushed : (xs : List Standing) (s : Standing) → length (xs ++ s ∷ []) ≤ length xs + 1
length-pushed xs s = omega (arith, length-append xs (s ∷ []))

removed : (xs : List Standing) (i : ℕ) → length (remove xs i) ≤ length xs
removed xs i = omega (arith, length-append (take i xs) (drop (suc i) xs), length-take i xs, length-drop (suc i) xs)

taken : (o : Option ℕ) (xs : List Standing) → length (taken_away o xs) ≤ length xs
taken None xs = omega arith
taken (Some i) xs = removed xs i

one_more : (found : Found) (place : ℕ) (r : JournalRecord) → length (with_record found place r).standing ≤ length found.standing + 1
one_more found place (Life life) = omega arith
one_more found place (Decision life slot generation k asked regs) = length-pushed found.standing (record { place = place; item = Decision life slot generation k asked regs })
one_more found place (Done named) = omega (arith, taken (position (is_decision_at named) found.standing) found.standing)
one_more found place (Prepared life slot generation recovery regs) = length-pushed found.standing (record { place = place; item = Prepared life slot generation recovery regs })
one_more found place (CellsPrepared life number recovery ps) = length-pushed found.standing (record { place = place; item = CellsPrepared life number recovery ps })
one_more found place (CellsOutcome named end) = length-pushed found.standing (record { place = place; item = CellsOutcome named end })
one_more found place (CellsOnePhase life number ps) = length-pushed found.standing (record { place = place; item = CellsOnePhase life number ps })

all_more : (found : Found) (place : ℕ) (rs : List JournalRecord) → length (with_records found place rs).standing ≤ length found.standing + length (flat_map record_octets rs)
all_more found place [] = omega arith
all_more found place (r ∷ rs) =
    omega (arith, all_more (with_record found place r) (place + length (record_octets r)) rs, one_more found place r, ap length (flat_map-cons record_octets r rs), length-append (record_octets r) (flat_map record_octets rs))

pub few : (service : ℕ) (octets : List ℕ) (found : Found) → IsFilled service octets found → decisions found ≤ length octets
few service octets found filled =
    let a = filled.1 in
    omega (arith, count_by-le-length (λ s. is_decision s.item) found.standing, ap (λ (f : Found). length f.standing) a.found_is, all_more nothing_found first_gate filled.0, ap length a.octets_are, length_front service filled.0)
