use Rattle.std.proofs.Common.{◌≡◌, ◌++◌, drop, map, take}
use Rattle.std.specs.List.{filter_map}
use Rattle.coordinator.specs.NodeTick.{happens_in, ticked}
use Rattle.service_node.specs.NodeState.{shown}
use Rattle.service_node.specs.Ticking.{AreTaken, told, words_in}
use Rattle.service_node.proofs.passing.pass_all.Given as goal

abbrev pub invariant-loop-place : goal.invariant-loop-place
invariant-loop-place g l = record {
  passed : map shown l.places ≡ map (ticked l.now) (take l.place-index (map shown l.initial.places)) ++ drop l.place-index (map shown l.initial.places);
  words : l.out.words ≡ l.initial.out.words ++ words_in (filter_map (happens_in l.now) (take l.place-index (map shown l.initial.places)));
  happened : l.happened.items ≡ l.initial.happened.items ++ map told (filter_map (happens_in l.now) (take l.place-index (map shown l.initial.places)));
  others : l.recovered ≡ record l.initial.recovered { records = l.recovered.records };
  taken : AreTaken l.journal.found l.now l.place-index (map shown l.initial.places) l.initial.recovered.records l.recovered.records;
}
