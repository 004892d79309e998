use Rattle.std.proofs.Common.{◌≡◌, take}
use Rattle.std.specs.List.{filter_map}
use Rattle.recovery_coord.specs.Held.{loaded}
use Rattle.recovery_coord.proofs.recovered.load_all.Given as goal

abbrev pub invariant-loop-each : goal.invariant-loop-each
invariant-loop-each l = l.records.items ≡ filter_map loaded (take l.each-index l.standing)
