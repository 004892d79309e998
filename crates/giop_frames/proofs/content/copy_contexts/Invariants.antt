use Rattle.std.proofs.Common.{◌≡◌, map, take}
use Rattle.giop_frames.specs.Walk.{context_of}
use Rattle.giop_frames.proofs.content.copy_contexts.Given as goal

abbrev pub invariant-loop-context : goal.invariant-loop-context
invariant-loop-context l = l.contexts.items ≡ map (context_of l.content) (take l.context-index l.found)
