use Rattle.std.proofs.Common.{◌+◌, ◌*◌, ◌≤◌, take}
use Rattle.std.specs.List.{flat_map}
use Rattle.giop_frames.specs.Layout.{context_values}
use Rattle.giop_frames.specs.Encode.{octets_in_contexts}
use Rattle.giop_frames.specs.Put.{HasPut}
use Rattle.giop_frames.proofs.fields.put_each_context.Given as goal

abbrev pub invariant-loop-context : goal.invariant-loop-context
invariant-loop-context l = record {
  put : HasPut (flat_map context_values (take l.context-index l.contexts)) l.fn.sink l.sink;
  most : l.sink.end ≤ l.fn.sink.end + octets_in_contexts (take l.context-index l.contexts) + 14 * l.context-index;
}
