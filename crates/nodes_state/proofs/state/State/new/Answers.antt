use Rattle.std.proofs.Common.{map}
use Rattle.nodes_state.specs.Seated.{seat_of}
use Rattle.nodes_state.proofs.Named.{nothing_named}
use Rattle.nodes_state.proofs.state.State.new.Goals as goal

pub returns-clause-names : goal.returns-clause-names
returns-clause-names c = nothing_named c.new-3.result (map seat_of c.new.result.items) c.new-2.result c.new-3.ensures.none
