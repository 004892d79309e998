use Rattle.std.proofs.Common.{Ok, sym, subst}
use Rattle.nodes_world.specs.Happenings.{Done}
use Rattle.nodes_state.specs.Does.{Does}
use Rattle.nodes_state.specs.Shown.{shown}
use Rattle.nodes_state.proofs.Doing.{does_nothing}
use Rattle.nodes_clients.proofs.Behind.{made_none, made_one}
use Rattle.nodes_clients.proofs.making.name_created.Goals as goal

pub returns-in-Some-clause-does : goal.returns-in-Some-clause-does
returns-in-Some-clause-does c =
    subst (λ (d : Done). Does d (shown c.name_sub.new.state) c.args.lines.now.items c.name_sub.new.lines.items c.name_sub.result)
    (sym (made_one c.args.parent.now c.args.name.now c.args.said.now c.in-Some.branch (shown c.args.state.now) (sym c.in-Some.ensures)))
    c.name_sub.ensures.does

pub returns-in-None-clause-does : goal.returns-in-None-clause-does
returns-in-None-clause-does c =
    let w = shown c.args.state.now in
    let none = made_none c.args.parent.now c.args.name.now c.args.said.now w (sym c.in-None.ensures) in
    subst (λ (d : Done). Does d w c.args.lines.now.items c.args.lines.now.items (Ok tt)) (sym none) (does_nothing w c.args.lines.now.items)
