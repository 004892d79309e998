-- A disk that holds records has room for the number of the next life.
use Rattle.std.proofs.Common.{◌≡◌, inl, inr, ℕ, ◌+◌, ◌^◌, ◌<◌, ◌≤◌, ◌==◌, true, false, IsTrue, List, [], ◌∷◌, length, slice_get, Some, None, sym, subst, arith, length-append}
use Rattle.std.specs.List.{flat_map}
use Rattle.std.proofs.lemmas.Bool.Decides.{nat_tests}
use Rattle.decision_journal.specs.Journal.{AreInTurn, Found, Holds, can_follow, first_gate, found_in, header, nothing_found, with_record, with_records}
use Rattle.decision_journal.specs.Layout.{record_octets}
use Rattle.decision_journal.specs.Loading.{LoadsAreSafe}
use Rattle.decision_journal.specs.declared.record.JournalRecord.{JournalRecord}
use Rattle.decision_journal.specs.declared.record.JournalRecord.TheVariants.{Life, Decision, Done, Prepared, CellsPrepared, CellsOutcome, CellsOnePhase}
use Rattle.nodes_world.specs.Journals.{records_on}
use Rattle.nodes_world.specs.Laws.{RecordsAreRead}
use Rattle.decision_journal.specs.Growing.{JournalsGrow}
use Rattle.nodes_world.specs.Objects.{service_at}
use Rattle.nodes_world.specs.World.{World, Seat, OfNode}
use Rattle.nodes_world.specs.Lives.{loads}
use Rattle.nodes_world.specs.Step.{lacks_life}
use Rattle.nodes_world.specs.AgreementSteps.{StaysKnown}
use Rattle.nodes_world.proofs.KnownLoad.{held_as, known_load}
use Rattle.family_laws.specs.OwnDecisions.{NodesKeepDecisions}

one_further : (found : Found) (place : ℕ) (r : JournalRecord) → IsTrue (can_follow found r) → (with_record found place r).life ≤ found.life + 1
one_further found place (Life life) is = let same = next life found.life is in omega (arith, same)
  where
    next : (a b : ℕ) → (a == b + 1) ≡ true → a ≡ b + 1
    next a b e = grind (arith, nat_tests)
one_further found place (Decision life slot generation by asked regs) is = omega arith
one_further found place (Done named) is = omega arith
one_further found place (Prepared life slot generation recovery regs) is = omega arith
one_further found place (CellsPrepared life number recovery ps) is = omega arith
one_further found place (CellsOutcome named how) is = omega arith
one_further found place (CellsOnePhase life number ps) is = omega arith

lives_rise : (found : Found) (place : ℕ) (rs : List JournalRecord) → AreInTurn found place rs → (with_records found place rs).life ≤ found.life + length rs
lives_rise found place [] turn = omega arith
lives_rise found place (r ∷ rs) (first, turn) =
    let later = lives_rise (with_record found place r) (place + length (record_octets r)) rs turn in
    let one = one_further found place r first in
    omega (arith, later, one)

octets_some : (rs : List JournalRecord) → length rs ≤ length (flat_map record_octets rs)
octets_some [] = omega arith
octets_some (r ∷ rs) =
    let others = octets_some rs in
    let both = length-append (record_octets r) (flat_map record_octets rs) in
    omega (arith, others, both)

pub life_fits : (service : ℕ) (octets : List ℕ) (rs : List JournalRecord) → Holds service octets rs → (found_in rs).life + 1 < 2 ^ 32
life_fits service octets rs (inl stands) =
    let rises = lives_rise nothing_found first_gate rs stands.in_turn in
    let some = octets_some rs in
    let both = length-append (header service) (flat_map record_octets rs) in
    let within = stands.within in
    omega (arith, rises, some, both, within)
life_fits service octets rs (inr (fresh, none)) = subst (λ (ps : List JournalRecord). (found_in ps).life + 1 < 2 ^ 32) (sym none) (omega arith)

pub known_loading : JournalsGrow → LoadsAreSafe → RecordsAreRead → NodesKeepDecisions → (w : World) (place : ℕ) (s : Seat) (rs : List JournalRecord)
    → slice_get w.seats place ≡ Some s → s.server ≡ OfNode None → records_on (service_at place) s.disk ≡ Some rs
    → lacks_life (service_at place) rs ≡ false → StaysKnown w (loads place s (Some rs) w)
known_loading grow safe read sound w place s rs there down held lacks told k =
    let fits = life_fits (service_at place) s.disk.reads rs (held_as w place s rs told there down held k) in
    known_load grow safe read sound w place s rs told there down held lacks fits k
