use Rattle.std.proofs.Common.{◌≡◌, take}
use Rattle.resource_end.specs.End.{End}
use Rattle.resource_end.specs.Recall.{recalls_all}
use Rattle.resource_end.specs.Inside as inside
use Rattle.resource_end.proofs.loading.load_all.Given as goal

abbrev pub invariant-loop-each : goal.invariant-loop-each
invariant-loop-each l =
    ((e : End) → recalls_all (take l.each-index l.standing) (inside.with_contents inside.no_contents e) ≡ inside.with_contents (inside.contents_of l.loading.resources l.loading.cells) e)
    × inside.AreRecorded l.standing l.loading.resources
    × inside.AreWritable 0 l.loading.resources
