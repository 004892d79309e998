-- What stands in a journal stands in the order of its places, so the records that are loaded do.
use Rattle.std.proofs.Common.{ℕ, zero, suc, ◌+◌, ◌<◌, ◌≤◌, List, [], ◌∷◌, length, get_or, arith}
use Rattle.std.specs.List.{filter_map}
use Rattle.decision_journal.specs.declared.journal.Standing.{Standing}
use Rattle.decision_journal.specs.declared.record.JournalRecord.{JournalRecord}
use Rattle.decision_journal.specs.declared.record.JournalRecord.TheVariants.{Life, Decision, Done, Prepared, CellsPrepared, CellsOutcome, CellsOnePhase}
use Rattle.decision_journal.specs.Index.{AreInOrder}
use Rattle.recovery_coord.specs.Held.{loaded}
use Rattle.recovery_coord.specs.Order.{RiseFrom}
use Rattle.recovery_coord.proofs.Ordered.{later}

pub loaded_rise : (from : ℕ) (ss : List Standing) → AreInOrder ss → ((k : ℕ) (d : Standing) → k < length ss → from ≤ (get_or ss k d).place) → RiseFrom from (filter_map loaded ss)
loaded_rise from [] order least = tt
loaded_rise from (s ∷ ss) order least =
    by_item (loaded_rise (s.place + 1) ss (λ i j d lt within. order (suc i) (suc j) d (omega (arith, lt)) (omega (arith, within))) (λ k d within. omega (arith, order zero (suc k) d (omega arith) (omega (arith, within))))) s.item
  where
    from_here : from ≤ s.place
    from_here = least zero s (omega arith)

    passed : RiseFrom (s.place + 1) (filter_map loaded ss) → RiseFrom from (filter_map loaded ss)
    passed rest = later from (s.place + 1) (filter_map loaded ss) (omega (arith, from_here)) rest

    by_item : RiseFrom (s.place + 1) (filter_map loaded ss) → (item : JournalRecord) → RiseFrom from (filter_map loaded (record { place = s.place; item = item } ∷ ss))
    by_item rest (Life life) = passed rest
    by_item rest (Decision life slot generation k asked regs) = (from_here, rest)
    by_item rest (Done named) = passed rest
    by_item rest (Prepared life slot generation recovery regs) = (from_here, rest)
    by_item rest (CellsPrepared life number recovery ps) = passed rest
    by_item rest (CellsOutcome named ending) = passed rest
    by_item rest (CellsOnePhase life number ps) = passed rest
