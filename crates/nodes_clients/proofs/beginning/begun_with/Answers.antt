use Rattle.std.proofs.Common.{map}
use Rattle.nodes_state.specs.Seated.{seat_of}
use Rattle.nodes_clients.proofs.Named.{names_more, resources_named}
use Rattle.nodes_clients.proofs.beginning.begun_with.Goals as goal

pub returns-in_ok-tell_known-in-Ok-clause-names : goal.returns-in_ok-tell_known-in-Ok-clause-names
returns-in_ok-tell_known-in-Ok-clause-names c =
    names_more c.args.state.now.names c.name_transaction.new.self (map seat_of c.args.state.now.seats.items) c.args.state.now.messages c.args.name.now c.in-Ok.key
    c.in_ok-name_transaction-in-Ok.ensures.things c.name_transaction.ensures.referred c.requires.names

pub returns-in_ok-tell_known-in-Ok-clause-resources : goal.returns-in_ok-tell_known-in-Ok-clause-resources
returns-in_ok-tell_known-in-Ok-clause-resources c =
    resources_named c.args.state.now.names c.name_transaction.new.self c.args.name.now c.in-Ok.key c.in_ok-name_transaction-in-Ok.ensures.things
