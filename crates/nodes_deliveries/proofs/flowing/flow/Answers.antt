use Rattle.std.proofs.Common.{◌-◌, Err, Ok, sym, ap, subst, ◌∙◌, arith, refl}
use Rattle.std.proofs.lemmas.Result.{err_from_is_err_and}
use Rattle.nodes_world.specs.Deliveries.{delivers, flows}
use Rattle.nodes_world.specs.World.{World}
use Rattle.nodes_state.specs.Does.{BreaksOff, Does}
use Rattle.nodes_state.specs.Shown.{shown}
use Rattle.nodes_deliveries.proofs.Flowed.{flow_breaks, flow_ended, flow_ends, flow_goes_on, lowest_is, same_world}
use Rattle.nodes_deliveries.proofs.flowing.flow.Goals as goal

pub returns-in_default-clause-does : goal.returns-in_default-clause-does
returns-in_default-clause-does c =
    let s = c.loop-left.state in
    subst (λ (w : World). Does (flows c.args.count (shown c.args.state.now)) w c.args.lines.now.items c.loop-left.lines.items (Ok tt))
    (sym (same_world s c.lowest.new.self c.lowest.ensures.same))
    (flow_ends (flows c.args.count (shown c.args.state.now)) c.args.lines.now.items c.loop-left.left (shown s) c.loop-left.lines.items c.loop-left.invariant.doing
    (omega arith) (lowest_is (shown s) ∙ sym c.lowest.ensures.lowest ∙ c.in_default.is))

pub returns-in_err-deliver-clause-does : goal.returns-in_err-deliver-clause-does
returns-in_err-deliver-clause-does c =
    let s = c.loop-left.state in
    let p = err_from_is_err_and c.from_residual.result c.from_residual.ensures.1 in
    flow_breaks (flows c.args.count (shown c.args.state.now)) c.args.lines.now.items c.loop-left.left (shown s) c.loop-left.lines.items c.loop-left.invariant.doing
    c.in-Some.place (shown c.deliver.new.state) c.deliver.new.lines.items c.from_residual.result c.in_err-deliver.field-0.0 (p.1 ∙ ap Err p.2) (omega arith)
    (lowest_is (shown s) ∙ sym c.lowest.ensures.lowest ∙ c.in-Some.is)
    (subst (λ (w : World). BreaksOff (delivers c.in-Some.place w) c.in_err-deliver.field-0.0 c.loop-left.lines.items c.deliver.new.lines.items)
    (same_world s c.lowest.new.self c.lowest.ensures.same) c.in_err-deliver.ensures.does)

pub loop-left-preserved : goal.loop-left-preserved
loop-left-preserved c =
    let s = c.loop-left.state in
    record {
      doing = flow_goes_on (flows c.args.count (shown c.args.state.now)) c.args.lines.now.items c.loop-left.left (shown s) c.loop-left.lines.items
          c.loop-left.invariant.doing c.in-Some.place (c.loop-left.left - 1) (shown c.deliver.new.state) c.deliver.new.lines.items (omega arith) refl
          (lowest_is (shown s) ∙ sym c.lowest.ensures.lowest ∙ c.in-Some.is)
          (subst (λ (w : World). Does (delivers c.in-Some.place w) (shown c.deliver.new.state) c.loop-left.lines.items c.deliver.new.lines.items (Ok tt))
          (same_world s c.lowest.new.self c.lowest.ensures.same) c.in_ok-deliver.ensures.does);
      ready = c.in_ok-deliver.ensures.ready;
    }

pub returns-clause-does : goal.returns-clause-does
returns-clause-does c =
    flow_ended (flows c.args.count (shown c.args.state.now)) c.args.lines.now.items c.loop-left.left (shown c.loop-left.state) c.loop-left.lines.items
    c.loop-left.invariant.doing (omega arith)
