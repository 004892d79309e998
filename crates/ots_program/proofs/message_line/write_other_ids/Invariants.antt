use Rattle.std.proofs.Common.{◌≡◌, ◌∷◌, ◌++◌, take}
use Rattle.std.specs.List.{flat_map}
use Rattle.std.specs.Fmt.{decimal}
use Rattle.ots_program.proofs.message_line.write_other_ids.Given as goal

abbrev pub invariant-loop-context : goal.invariant-loop-context
invariant-loop-context l = l.lines.items ≡ l.fn.lines.items ++ flat_map (λ c. 44 ∷ decimal c.id) (take l.context-index l.contexts)
