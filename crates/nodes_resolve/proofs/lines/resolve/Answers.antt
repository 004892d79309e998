use Rattle.std.proofs.Common.{Option, ap, ◌∙◌}
use Rattle.std.specs.Option.{ok_or}
use Rattle.ots_world.specs.declared.fault.WorldFault.TheVariants as faults
use Rattle.nodes_world.specs.declared.deed.Deed.{Deed}
use Rattle.nodes_state.specs.Shown.{shown}
use Rattle.nodes_resolve.proofs.Named.{making_named}
use Rattle.nodes_resolve.proofs.lines.resolve.Goals as goal

pub returns-in_default-clause-named : goal.returns-in_default-clause-named
returns-in_default-clause-named c =
    making_named c.args.event.now (shown c.args.state.now) c.ok_or.result
    (c.ok_or.ensures.value ∙ ap (λ (found : Option Deed). ok_or found faults.Names) c.making_line.ensures)
