-- Each record that stands fits.
use Rattle.std.proofs.Common.{◌≡◌, ℕ, suc, ◌+◌, List, [], ◌∷◌, length, take, drop, Option, Some, None, sym, subst}
use Rattle.std.specs.Prelude.{position}
use Rattle.std.specs.List.{All, AllByRecursion}
use Rattle.std.proofs.lemmas.List.Elements.{All-append, All-drop, All-nil, All-push, All-take}
use Rattle.decision_journal.specs.Layout.{Fits, record_octets}
use Rattle.decision_journal.specs.Journal.{Found, IsFilled, first_gate, is_decision_at, nothing_found, taken_away, with_record, with_records}
use Rattle.decision_journal.specs.declared.journal.Standing.{Standing}
use Rattle.decision_journal.specs.declared.record.JournalRecord.{JournalRecord}
use Rattle.decision_journal.specs.declared.record.JournalRecord.TheVariants.{Life, Decision, Done, Prepared, CellsPrepared, CellsOutcome, CellsOnePhase}

abbrev It : Standing → Type 0
It s = Fits s.item

away : (index : Option ℕ) (standing : List Standing) → All It standing → All It (taken_away index standing)
away None standing all = all
away (Some index) standing all =
    All-append It (take index standing) (drop (suc index) standing) (All-take It index standing all) (All-drop It (suc index) standing all)

more : (found : Found) (place : ℕ) (r : JournalRecord) → Fits r → All It found.standing → All It (with_record found place r).standing
more found place (Life life) fits all = all
more found place (Decision life slot generation k asked regs) fits all =
    All-push It found.standing (record { place = place; item = Decision life slot generation k asked regs }) all fits
more found place (Done named) fits all = away (position (is_decision_at named) found.standing) found.standing all
more found place (Prepared life slot generation recovery regs) fits all =
    All-push It found.standing (record { place = place; item = Prepared life slot generation recovery regs }) all fits
more found place (CellsPrepared life number recovery ps) fits all =
    All-push It found.standing (record { place = place; item = CellsPrepared life number recovery ps }) all fits
more found place (CellsOutcome named end) fits all =
    All-push It found.standing (record { place = place; item = CellsOutcome named end }) all fits
more found place (CellsOnePhase life number ps) fits all =
    All-push It found.standing (record { place = place; item = CellsOnePhase life number ps }) all fits

each : (found : Found) (place : ℕ) (rs : List JournalRecord) → AllByRecursion Fits rs → All It found.standing → All It (with_records found place rs).standing
each found place [] fit all = all
each found place (r ∷ rs) fit all = each (with_record found place r) (place + length (record_octets r)) rs fit.1 (more found place r fit.0 all)

pub stand_fit : (service : ℕ) (octets : List ℕ) (found : Found) → IsFilled service octets found → All It found.standing
stand_fit service octets found filled =
    subst (λ (f : Found). All It f.standing) (sym filled.1.found_is) (each nothing_found first_gate filled.0 filled.1.fit (All-nil It))
