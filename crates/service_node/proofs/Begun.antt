-- What a journal has found after a load is what the records leave that its disk held, and the next life.
use Rattle.std.proofs.Common.{◌≡◌, ◌∙◌, ℕ, List, [], ◌∷◌, ◌++◌, Option, Some, None, ap}
use Rattle.std.specs.Prelude.{IfSome}
use Rattle.ots_outside.specs.Disk.{DiskState, Tells}
use Rattle.decision_journal.specs.Journal.{Found, IsFilled, StandsFor, found_in}
use Rattle.decision_journal.specs.Laws.{OctetsStandForOneList}
use Rattle.decision_journal.specs.Loading.{LoadIsDone, next_life}
use Rattle.decision_journal.specs.State.{IsAtRest}
use Rattle.coordinator.specs.Node.{loaded_node}
use Rattle.service_node.specs.NodeState.{IsBegun}

module _ (service : ℕ) (octets : List ℕ) (found : Found) (before after : DiskState) where
  stands : (filled : IsFilled service octets found) → IsAtRest octets after → StandsFor service after.reads filled.0
  stands filled rest = record {
    gate = rest.stands.gate;
    behind = rest.stands.behind;
    octets_are = rest.stands.octets_are ∙ ap (λ (xs : List ℕ). xs ++ rest.stands.gate ∷ rest.stands.behind) filled.1.octets_are;
    closed = rest.stands.closed;
    fit = filled.1.fit;
    in_turn = filled.1.in_turn;
    within = filled.1.within;
  }

  pub found_is : OctetsStandForOneList → (done : LoadIsDone service before after) → IsFilled service octets found → IsAtRest octets after
      → found ≡ found_in (done.records ++ next_life done.records ∷ [])
  found_is one done filled rest = filled.1.found_is ∙ ap found_in (one service after.reads filled.0 (done.records ++ next_life done.records ∷ []) (stands filled rest) done.stands)

  begun : OctetsStandForOneList → LoadIsDone service before after → IsFilled service octets found → IsAtRest octets after → IsBegun service (loaded_node service found) before after
  begun one done filled rest = record {
    records = done.records;
    held = done.held;
    node_is = ap (loaded_node service) (found_is one done filled rest);
  }

pub begun_told : OctetsStandForOneList → (service : ℕ) (octets : List ℕ) (found : Found) (before after : Option DiskState) → Tells before after (LoadIsDone service)
    → IsFilled service octets found → IfSome after (IsAtRest octets) → Tells before after (IsBegun service (loaded_node service found))
begun_told one service octets found None None done filled rest = tt
begun_told one service octets found None (Some after) done filled rest = done
begun_told one service octets found (Some before) None done filled rest = done
begun_told one service octets found (Some before) (Some after) done filled rest = begun service octets found before after one done filled rest
