use Rattle.std.proofs.Common.{Some, None, refl, sym, ap, ◌∙◌}
use Rattle.std.specs.Option.{option_map}
use Rattle.coordinator.specs.NodeCalls.{retold_answer}
use Rattle.nodes_world.specs.Happenings.{cast_of_key}
use Rattle.nodes_world.specs.Nodes.{key_of_record}
use Rattle.nodes_clients.proofs.Answered.{recorded_is}
use Rattle.nodes_clients.proofs.answering.recorded_key.Goals as goal

pub returns-in_err-held : goal.returns-in_err-held
returns-in_err-held c =
    ap (λ o. option_map cast_of_key o) c.from_residual-in_err-held.ensures
    ∙ recorded_is (retold_answer c.args.act.now) c.in_ok-number.number.now c.args.node.now.node c.args.node.now.node.recovered None (sym c.in_ok-number.ensures)
    refl c.in_err-held.ensures

pub returns : goal.returns
returns c =
    ap (λ k. Some (cast_of_key k)) (c.key_of_record.ensures ∙ ap (λ s. key_of_record s c.in_ok-held.held.now) c.service.ensures)
    ∙ recorded_is (retold_answer c.args.act.now) c.in_ok-number.number.now c.args.node.now.node c.args.node.now.node.recovered (Some c.in_ok-held.held.now)
    (sym c.in_ok-number.ensures) refl c.in_ok-held.ensures
