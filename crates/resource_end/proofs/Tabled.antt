-- The table of words and states: it computes.
use Rattle.std.proofs.Common.{refl}
use Rattle.resource_end.specs.End.{changes}
use Rattle.resource_end.specs.Recall.{recalls, reread}
use Rattle.resource_end.specs.Calls.{changing, fresh, bind, put, refuse, choose_heuristic, told, wanted}
use Rattle.resource_end.specs.TableByState.{TableByState}

pub table_by_state : TableByState
unfolding changes recalls reread changing fresh bind put refuse choose_heuristic told wanted
table_by_state = record {
  in_fresh = refl;
  in_working = refl;
  in_refused = refl;
  in_prepared = refl;
  in_applied = refl;
  in_undone = refl;
  in_chose_commit = refl;
  in_chose_rollback = refl;
  in_forgotten = refl;
}
