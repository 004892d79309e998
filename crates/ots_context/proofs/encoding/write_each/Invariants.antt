use Rattle.std.proofs.Common.{◌≡◌, ◌+◌, ◌*◌, ◌≤◌, length, take}
use Rattle.std.specs.Prelude.{All}
use Rattle.std.specs.List.{flat_map}
use Rattle.cdr_values.specs.Values.{with_values}
use Rattle.ots_context.specs.Identity.{IsIdentity, identity_values}
use Rattle.ots_context.proofs.encoding.write_each.Given as goal

abbrev pub invariant-loop-parent : goal.invariant-loop-parent
invariant-loop-parent l = record {
  written : l.writer ≡ with_values l.fn.writer (flat_map identity_values (take l.parent-index l.parents));
  parents : All IsIdentity (take l.parent-index l.parents);
  room : length l.writer.octets ≤ length l.fn.writer.octets + 3829 * l.parent-index;
}
