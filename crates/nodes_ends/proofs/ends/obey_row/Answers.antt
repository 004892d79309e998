use Rattle.std.proofs.Common.{◌≡◌, Option, Some, None, Err, sym, ap, subst, ◌∙◌}
use Rattle.std.proofs.lemmas.Result.{err_from_is_err_and}
use Rattle.resource_end.specs.declared.state.Row.{Row}
use Rattle.resource_end.specs.Table.{row}
use Rattle.resource_end.specs.declared.state.State.{State as Stage}
use Rattle.nodes_parts.specs.Kept.{flat}
use Rattle.nodes_parts.specs.Referring.{named}
use Rattle.nodes_world.specs.Ends.{answer_of_row, moves, obeys_row}
use Rattle.nodes_state.specs.Shown.{shown}
use Rattle.nodes_state.specs.Telling.{Tells}
use Rattle.nodes_state.specs.declared.state.State.{State}
use Rattle.nodes_state.proofs.Doing.{tells_none}
use Rattle.nodes_state.proofs.Failing.{does_fail}
use Rattle.nodes_ends.specs.Ending.{KeepsNodes}
use Rattle.nodes_ends.proofs.EndChanged.{all_kept}
use Rattle.nodes_ends.proofs.Obeying.{keeps_then, on_ok, row_answered, row_broken}
use Rattle.nodes_ends.proofs.ends.obey_row.Goals as goal
use Rattle.nodes_ends.proofs.ends.obey_row.Goals.{in-Some+in_ok-move_resource, in_default}

pub returns-in_err-move_resource-clause-does : goal.returns-in_err-move_resource-clause-does
returns-in_err-move_resource-clause-does c =
    let p = err_from_is_err_and c.from_residual.result c.from_residual.ensures.1 in
    let by = row c.args.word c.args.resource.state in
    does_fail (obeys_row c.args.request (named c.args.named) (flat c.args.resource) (row c.args.word c.args.resource.state) (shown c.args.state.now)) (shown c.move_resource.new.state)
    c.args.lines.now.items c.move_resource.new.lines.items c.from_residual.result c.in_err-move_resource.field-0.0 (p.1 ∙ ap Err p.2)
    (row_broken c.args.request (named c.args.named) (flat c.args.resource) (row c.args.word c.args.resource.state) (shown c.args.state.now) c.args.lines.now.items
    c.in-Some.stage c.in_err-move_resource.field-0.0 c.move_resource.new.lines.items (ap (λ (x : Row). x.next) (sym c.row-row.ensures) ∙ c.in-Some.is)
    c.in_err-move_resource.ensures.does)

-- it has moved, or not
record Moved (c : goal.Joined-row-4) : Type 0 where
  next : Option Stage
  is : (row c.args.word c.args.resource.state).next ≡ next
  world : shown c.match-row.state ≡ (moves (named c.args.named) (flat c.args.resource) next (shown c.args.state.now)).world
  told : Tells (moves (named c.args.named) (flat c.args.resource) next (shown c.args.state.now)).lines c.args.lines.now.items c.match-row.lines.items
  keeps : KeepsNodes c.args.state.now c.match-row.state

moved : (c : goal.Joined-row-4) → Moved c
moved c = elim c.match-row.branch [
  | in-Some+in_ok-move_resource w ↦ record {
    next = Some w.in-Some.stage;
    is = ap (λ (x : Row). x.next) (sym c.row-row.ensures) ∙ w.in-Some.is;
    world = ap (λ (s : State). shown s) w.state-is ∙ w.in_ok-move_resource.ensures.does.0;
    told = ap (λ v. v.items) w.lines-is ∙ w.in_ok-move_resource.ensures.does.1;
    keeps = subst (λ (s : State). KeepsNodes c.args.state.now s) (sym w.state-is) w.in_ok-move_resource.ensures.nodes;
  }
  | in_default w ↦ record {
    next = None;
    is = ap (λ (x : Row). x.next) (sym c.row-row.ensures) ∙ w.in_default.is;
    world = ap (λ (s : State). shown s) w.state-is;
    told = ap (λ v. v.items) w.lines-is ∙ tells_none c.args.lines.now.items;
    keeps = all_kept c.args.state.now c.match-row.state (ap (λ (s : State). s.names) w.state-is) (ap (λ (s : State). s.seats) w.state-is);
  }
]

pub returns-in-Some-answer_of_row-clause-does : goal.returns-in-Some-answer_of_row-clause-does
returns-in-Some-answer_of_row-clause-does c =
    let m = moved c in
    row_answered c.args.request (named c.args.named) (flat c.args.resource) (row c.args.word c.args.resource.state) (shown c.args.state.now) c.args.lines.now.items
    m.next c.in-Some-answer_of_row.said (shown c.match-row.state) (shown c.reply.new.self) c.match-row.lines.items c.reply.new.lines.items c.reply.result
    m.is m.world m.told (ap (λ (x : Row). answer_of_row x.said) (sym c.row-row.ensures) ∙ sym c.in-Some-answer_of_row.ensures) c.reply.ensures.does

pub returns-in-Some-answer_of_row-clause-nodes : goal.returns-in-Some-answer_of_row-clause-nodes
returns-in-Some-answer_of_row-clause-nodes c =
    on_ok c.reply.result (KeepsNodes c.args.state.now c.reply.new.self) (keeps_then c.args.state.now c.match-row.state c.reply.new.self (moved c).keeps c.reply.ensures.same)
