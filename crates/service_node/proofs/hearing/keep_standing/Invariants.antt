use Rattle.std.proofs.Common.{◌≡◌, ◌-◌, ◌≤◌, length, take, None}
use Rattle.std.specs.Prelude.{find}
use Rattle.std.specs.List.{filter}
use Rattle.service_node.proofs.Keeping.{keeps, loses}
use Rattle.service_node.proofs.hearing.keep_standing.Given as goal

abbrev pub invariant-loop-index : goal.invariant-loop-index
invariant-loop-index l = record {
  others : l.recovered ≡ record l.initial.recovered { records = l.recovered.records };
  kept : filter (keeps l.standing) l.recovered.records ≡ filter (keeps l.standing) l.initial.recovered.records;
  front : find (loses l.standing) (take l.index l.recovered.records) ≡ None;
  within : l.index ≤ length l.recovered.records;
}

abbrev pub decreases-loop-index : goal.decreases-loop-index
decreases-loop-index l = length l.recovered.records - l.index
