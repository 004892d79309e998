-- What is decided in a world, and what is closed, is so once a script has gone on: a decision that stands stays, and a node appends
-- decisions of its own life alone.
use Rattle.std.proofs.Common.{◌≡◌, ◌⊎◌, inl, inr, ℕ, ◌<◌, ◌==◌, ◌&&◌, ◌||◌, Bool, true, false, is_some, IsTrue, List, [], ◌∷◌, ◌++◌, slice_get, Option, Some, None, refl, sym, ap, subst, ◌∙◌, append_assoc, append-nil, arith}
use Rattle.std.specs.List.{AllByRecursion, list_any}
use Rattle.std.specs.Option.{option_and_then, option_map, option_map_or}
use Rattle.std.proofs.lemmas.Bool.Decides.{nat_tests}
use Rattle.std.proofs.lemmas.List.Elements.{Contains-append_left, filter_map-append}
use Rattle.std.proofs.lemmas.List.Folds.{list_any-append}
use Rattle.ior_refs.specs.declared.key.ObjectKey.{ObjectKey}
use Rattle.ots_model.specs.Safe.{Stands}
use Rattle.ots_model.specs.declared.line.Line.{Line}
use Rattle.ots_model.specs.declared.line.Line.TheVariants as lines
use Rattle.decision_journal.specs.Growing.{JournalsGrow}
use Rattle.decision_journal.specs.Journal.{found_in}
use Rattle.decision_journal.specs.Loading.{LoadsAreSafe}
use Rattle.decision_journal.specs.declared.record.JournalRecord.{JournalRecord}
use Rattle.decision_journal.specs.declared.record.JournalRecord.TheVariants.{Life, Decision, Done, Prepared, CellsPrepared, CellsOutcome, CellsOnePhase}
use Rattle.coordinator.specs.Node.{Node}
use Rattle.nodes_world.specs.declared.thing.Thing.{Thing}
use Rattle.nodes_world.specs.Agreement.{IsClosed, IsDecided, IsOutlived, IsRolledBack, IsTransaction, OutcomesLast, ReachedOutcomesLast, by_known, by_other, by_synchronization, has_record, is_decision_of, outlived, records_at, rolled_back}
use Rattle.nodes_world.specs.AgreementInside.{Known}
use Rattle.nodes_world.specs.AgreementSteps.{Goes, GoesOn, StepsStayKnown, further, still}
use Rattle.nodes_world.specs.Happenings as happenings
use Rattle.nodes_world.specs.Journals.{records_in, records_on}
use Rattle.nodes_world.specs.Laws.{RecordsAreRead}
use Rattle.nodes_world.specs.Objects.{place_of, service_at}
use Rattle.nodes_world.specs.Step.{carried_out}
use Rattle.nodes_world.specs.Told.{Told, known, known_in}
use Rattle.nodes_world.specs.World.{World, Seat, OfNode, seat_name, thing}
use Rattle.nodes_world.proofs.DisksGoOn.{DecidesIn, DisksGoOn, HearingsGoOn, RecordsGoOn, disks_go, more, same}
use Rattle.nodes_world.proofs.Delivered.{reached_delivered}
use Rattle.nodes_world.proofs.GoingOn.{deeds_go}
use Rattle.nodes_world.proofs.KnownLines.{in_front}
use Rattle.nodes_world.proofs.Reaching.{goes_known, known_reached}

inner : {A : Type 0} {x y : A} → Some x ≡ Some y → x ≡ y
inner e = cc

is_there : {A : Type 0} (o : Option A) → IsTrue (is_some o) → (x : A) × (o ≡ Some x)
is_there (Some x) is = (x, refl)
is_there None is = absurd cc

either : (a b : Bool) → (a || b) ≡ true → (a ≡ true) ⊎ (b ≡ true)
either true b is = inl refl
either false b is = inr is

or_left : (a b : Bool) → a ≡ true → (a || b) ≡ true
or_left true b is = refl
or_left false b is = absurd cc

three : (life slot number a b c : ℕ) → (life == a && slot == b && number == c) ≡ true → life ≡ a
three life slot number a b c is = grind (arith, nat_tests)

-- among decisions of a life one of this family is of that life
decision_life : (key : ObjectKey) (now : ℕ) (rs : List JournalRecord) → AllByRecursion (DecidesIn now) rs → list_any (is_decision_of key) rs ≡ true
    → key.life ≡ now
decision_life key now [] all is = absurd cc
decision_life key now (r ∷ rs) (first, others) is = elim (either (is_decision_of key r) (list_any (is_decision_of key) rs) is) [
  | inl here ↦ one r first here
  | inr later ↦ decision_life key now rs others later
]
  where
    one : (r : JournalRecord) → DecidesIn now r → is_decision_of key r ≡ true → key.life ≡ now
    one (Decision life slot generation by asked regs) first is = sym (three life slot generation key.life key.slot key.generation is) ∙ first
    one (Life life) first is = absurd cc
    one (Done named) first is = absurd cc
    one (Prepared life slot generation recovery regs) first is = absurd cc
    one (CellsPrepared life number recovery ps) first is = absurd cc
    one (CellsOutcome named how) first is = absurd cc
    one (CellsOnePhase life number ps) first is = absurd cc

-- ---- what a seat tells of its world

abbrev has_in : (JournalRecord → Bool) → Option (List JournalRecord) → Bool
has_in is_so o = option_map_or (λ (rs : List JournalRecord). list_any is_so rs) o false

records_here : (w : World) (place : ℕ) (s : Seat) → slice_get w.seats place ≡ Some s → records_at w place ≡ records_on (service_at place) s.disk
records_here w place s there = ap (λ (o : Option Seat). option_and_then (λ (x : Seat). records_on (service_at place) x.disk) o) there

name_here : (w : World) (place : ℕ) (s : Seat) → slice_get w.seats place ≡ Some s → seat_name w place ≡ Some s.name
name_here w place s there = ap (option_map (λ (x : Seat). x.name)) there

-- ---- one step

module _ (w v : World) (told more_told : List Told) (goes : DisksGoOn w v) (k : Known w told) (later : Known v (told ++ more_told)) where
  abbrev all : List Told
  all = told ++ more_told

  stands_on : (line : Line) → Stands line (known told) → Stands line (known all)
  stands_on line s = subst (Stands line) (sym (filter_map-append known_in told more_told)) (in_front (known told) (known more_told) line s)

  back_on : (name : List ℕ) → IsRolledBack told name → IsRolledBack all name
  back_on name (by_known reason s) = by_known reason (stands_on _ s)
  back_on name (by_other reason c) = by_other reason (Contains-append_left told more_told _ c)
  back_on name (by_synchronization reason s c) = by_synchronization reason s (Contains-append_left told more_told _ c)

  -- a record that is there stays
  kept_by : (is_so : JournalRecord → Bool) (place : ℕ) (s t : Seat) → RecordsGoOn place s t
      → has_in is_so (records_on (service_at place) s.disk) ≡ true → has_in is_so (records_on (service_at place) t.disk) ≡ true
  kept_by is_so place s t (same reads) is = ap (λ (octets : List ℕ). has_in is_so (records_in (service_at place) octets)) reads ∙ is
  kept_by is_so place s t (more up rs behind node was now of) is =
      let had : list_any is_so rs ≡ true = sym (ap (has_in is_so) was) ∙ is in
      ap (has_in is_so) now ∙ list_any-append is_so rs behind ∙ or_left (list_any is_so rs) (list_any is_so behind) had

  has_on : (is_so : JournalRecord → Bool) (place : ℕ) (s : Seat) → slice_get w.seats place ≡ Some s → IsTrue (has_record w place is_so)
      → IsTrue (has_record v place is_so)
  has_on is_so place s there is =
      let at = goes.seats place s there in
      ap (has_in is_so) (records_here v place at.seat at.there)
      ∙ kept_by is_so place s at.seat at.records (sym (ap (has_in is_so) (records_here w place s there)) ∙ is)

  -- the decision of a family of an earlier life isn't new
  had_by : (key : ObjectKey) (place : ℕ) (s t : Seat) → ((rs : List JournalRecord) (up : Option Node) → s.server ≡ OfNode up → records_on (service_at place) s.disk ≡ Some rs → key.life < (found_in rs).life)
      → RecordsGoOn place s t
      → has_in (is_decision_of key) (records_on (service_at place) t.disk) ≡ true → has_in (is_decision_of key) (records_on (service_at place) s.disk) ≡ true
  had_by key place s t early (same reads) is = ap (λ (octets : List ℕ). has_in (is_decision_of key) (records_in (service_at place) octets)) (sym reads) ∙ is
  had_by key place s t early (more up rs behind node was now of) is =
      elim (either (list_any (is_decision_of key) rs) (list_any (is_decision_of key) behind)
      (sym (list_any-append (is_decision_of key) rs behind) ∙ sym (ap (has_in (is_decision_of key)) now) ∙ is)) [
        | inl had ↦ ap (has_in (is_decision_of key)) was ∙ had
        | inr new ↦ absurd (let less = early rs up node was in let life = decision_life key (found_in rs).life behind of new in omega (arith, less, life))
      ]

  module _ (name : List ℕ) (key : ObjectKey) (named : IsTransaction w name key) (top : key.index ≡ 0) where
    seat : (s : Seat) × (slice_get w.seats (place_of key) ≡ Some s)
    seat = is_there (slice_get w.seats (place_of key)) (k.transactions.seated name key named)

    decided_on : IsDecided w told key name → IsDecided v all key name
    decided_on (inl s) = inl (stands_on _ s)
    decided_on (inr has) = inr (has_on (is_decision_of key) (place_of key) seat.0 seat.1 has)

    outlived_on : IsOutlived w told key → IsOutlived v all key
    outlived_on is =
        let at = goes.seats (place_of key) seat.0 seat.1 in
        record {
          server = is.server;
          named = name_here v (place_of key) at.seat at.there ∙ ap (λ (x : List ℕ). Some x) at.name
              ∙ sym (name_here w (place_of key) seat.0 seat.1) ∙ is.named;
          life = is.life;
          later = is.later;
          up = stands_on _ is.up;
        }

    early : IsOutlived w told key → (rs : List JournalRecord) (up : Option Node) → seat.0.server ≡ OfNode up
        → records_on (service_at (place_of key)) seat.0.disk ≡ Some rs → key.life < (found_in rs).life
    early is rs up node was =
        let own : is.server ≡ seat.0.name = inner (sym is.named ∙ name_here w (place_of key) seat.0 seat.1) in
        let begun = k.disks.lives (place_of key) seat.0 up is.life rs seat.1 node
        (subst (λ (x : List ℕ). Stands (lines.Up x is.life) (known told)) own is.up) (records_here w (place_of key) seat.0 seat.1 ∙ was) in
        let less = is.later in
        omega (arith, begun, less)

    recorded : IsDecided v all key name → IsTrue (has_record v (place_of key) (is_decision_of key))
    recorded (inl s) = later.recorded name key (goes.names name _ named) top s
    recorded (inr has) = has

    decided_back : IsOutlived w told key → IsDecided v all key name → IsDecided w told key name
    decided_back is decided =
        let at = goes.seats (place_of key) seat.0 seat.1 in
        inr (ap (has_in (is_decision_of key)) (records_here w (place_of key) seat.0 seat.1)
        ∙ had_by key (place_of key) seat.0 at.seat (early is) at.records
        (sym (ap (has_in (is_decision_of key)) (records_here v (place_of key) at.seat at.there)) ∙ recorded decided))

    closed_on : IsClosed w told key name → IsClosed v all key name
    closed_on (rolled_back is) = rolled_back (back_on name is)
    closed_on (outlived is undecided) = outlived (outlived_on is) (λ decided. undecided (decided_back is decided))

  pub outcomes_last : OutcomesLast w v told all
  outcomes_last = record { decided = decided_on; closed = closed_on }

-- ---- any number of steps

record LastsOn (w v : World) (told all : List Told) : Type 0 where
  names : (name : List ℕ) (x : Thing) → thing w name ≡ Some x → thing v name ≡ Some x
  outcomes : OutcomesLast w v told all
  is_known : Known v all

lasts_still : (w : World) (told : List Told) → Known w told → LastsOn w w told told
lasts_still w told k = record {
  names = λ name x is. is;
  outcomes = record { decided = λ name key named top is. is; closed = λ name key named top is. is };
  is_known = k;
}

lasts_then : (a b c : World) (told between behind : List Told) → LastsOn a b told between → LastsOn b c between behind → LastsOn a c told behind
lasts_then a b c told between behind first later = record {
  names = λ name x is. later.names name x (first.names name x is);
  outcomes = record {
    decided = λ name key named top is. later.outcomes.decided name key (first.names name _ named) top (first.outcomes.decided name key named top is);
    closed = λ name key named top is. later.outcomes.closed name key (first.names name _ named) top (first.outcomes.closed name key named top is);
  };
  is_known = later.is_known;
}

module _ (grow : JournalsGrow) (safe : LoadsAreSafe) (read : RecordsAreRead) (hearings : HearingsGoOn) (keeps : StepsStayKnown) where
  lasts_once : (w : World) (d : happenings.Done) → Goes w d → (told : List Told) → Known w told → LastsOn w d.world told (told ++ d.lines)
  lasts_once w d step told k =
      let disks = disks_go grow safe read hearings w told d k step in
      let later = goes_known keeps w d step told k in
      record { names = disks.names; outcomes = outcomes_last w d.world told d.lines disks k later; is_known = later }

  lasts_on : (w : World) (d : happenings.Done) → GoesOn w d → (told : List Told) → Known w told → LastsOn w d.world told (told ++ d.lines)
  lasts_on w d still told k = subst (LastsOn w w told) (sym (append-nil told)) (lasts_still w told k)
  lasts_on w d (further between last before step) told k =
      let first = lasts_on w between before told k in
      subst (LastsOn w last.world told) (append_assoc told between.lines last.lines)
      (lasts_then w between.world last.world told (told ++ between.lines) ((told ++ between.lines) ++ last.lines) first
      (lasts_once between.world last step (told ++ between.lines) first.is_known))

  pub reached_outcomes_last : ReachedOutcomesLast
  reached_outcomes_last w told event deed reached few fit is limit =
      (lasts_on w (carried_out deed w) (deeds_go event deed w (reached_delivered w told reached) few fit is limit) told (known_reached keeps w told reached)).outcomes
