use Rattle.std.proofs.Common.{Result, Err, sym, ap, subst, ◌∙◌}
use Rattle.std.proofs.lemmas.Result.{err_from_is_err_and}
use Rattle.ots_world.specs.declared.fault.WorldFault.{WorldFault}
use Rattle.nodes_resolve.specs.Lines.{keeps_octets}
use Rattle.nodes_state.specs.Shown.{shown}
use Rattle.nodes_world.specs.Step.{step}
use Rattle.nodes_replay.specs.Carrying.{CarriesLine}
use Rattle.nodes_replay.proofs.Carried.{flow_carried, flow_quiet, line_carried, line_refused}
use Rattle.nodes_replay.proofs.deeds.carry_line.Goals as goal

pub returns-in-Flow-clause-carries : goal.returns-in-Flow-clause-carries
returns-in-Flow-clause-carries c =
    flow_carried c.args.event.now c.in-Flow.count (shown c.args.state.now) (shown c.flow_line.new.state) c.args.lines.now.items
    c.flow_line.new.lines.items c.flow_line.result c.in-Flow.is c.flow_line.ensures.carries

pub returns-in-Flow-clause-quiet : goal.returns-in-Flow-clause-quiet
returns-in-Flow-clause-quiet c quiet =
    c.flow_line.ensures.quiet (flow_quiet c.args.event.now c.in-Flow.count (shown c.args.state.now) c.in-Flow.is quiet)

pub returns-in_err-deed-clause-carries : goal.returns-in_err-deed-clause-carries
returns-in_err-deed-clause-carries c =
    let p = err_from_is_err_and c.from_residual.result c.from_residual.ensures.1 in
    let w = shown c.args.state.now in
    subst (λ (r : Result (Unit {0}) WorldFault). CarriesLine (step c.args.event.now w) w w c.args.lines.now.items c.args.lines.now.items r)
    (sym (p.1 ∙ ap Err p.2))
    (line_refused (keeps_octets c.args.event.now) c.args.event.now c.in_err-deed.field-0.0 w c.args.lines.now.items c.in_err-deed.ensures.answered)

pub returns-clause-carries : goal.returns-clause-carries
returns-clause-carries c =
    line_carried (keeps_octets c.args.event.now) c.args.event.now c.in_ok-deed.deed (shown c.args.state.now) (shown c.carry_out.new.state)
    c.args.lines.now.items c.carry_out.new.lines.items c.carry_out.result c.in_ok-deed.ensures.answered c.carry_out.ensures.carries
