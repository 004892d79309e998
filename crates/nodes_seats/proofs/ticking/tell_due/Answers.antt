use Rattle.std.proofs.Common.{◌≡◌, ◌<◌, List, length, get_or, Some, Err, sym, ap, subst, ◌∙◌}
use Rattle.std.proofs.lemmas.Result.{err_from_is_err_and}
use Rattle.service_node.specs.declared.passing.Happening.{Happening}
use Rattle.nodes_world.specs.World.{node_at}
use Rattle.nodes_state.specs.Shown.{shown}
use Rattle.nodes_state.proofs.Failing.{does_fail}
use Rattle.nodes_state.proofs.Named.{names_stay}
use Rattle.nodes_seats.specs.Ticking.{tells_tick}
use Rattle.nodes_seats.proofs.Ticks.{IsAt, at_index, left, next_is, node_stays, passes_on, passing_breaks}
use Rattle.nodes_seats.proofs.ticking.tell_due.Goals as goal

pub loop-happening-preserved : goal.loop-happening-preserved
loop-happening-preserved c =
    let before = c.loop-happening.invariant in
    let same = c.in_ok-tell_one.ensures.same in
    let i = c.loop-happening.happening-index in
    let item : Happening = c.happening-item.result in
    record {
      primed = c.in_ok-tell_one.ensures.primed;
      names = names_stay c.loop-happening.state c.tell_one.new.state same before.names;
      same = record { seats = same.seats ∙ before.same.seats; names = same.names ∙ before.same.names };
      passing = λ t up due.
          let at : IsAt t.happened i item = subst (λ (x : Happening). IsAt t.happened i x) (sym c.happening-item.is)
          (subst (λ (ys : List Happening). i < length ys → IsAt t.happened i (get_or ys i item)) (sym due.happened_is) (at_index t.happened i item) c.loop-happening-test.true) in
          let passing = before.passing t up due in
          let first = shown c.args.state.now in
          let w = shown c.loop-happening.state in
          let lines = c.args.lines.now.items in
          let now = c.loop-happening.lines.items in
          let next = next_is t c.args.place first lines i item c.loop-happening.words w now at passing in
          let rest = left t c.args.place first lines i item c.loop-happening.words w now at passing in
          let here : node_at w c.args.place ≡ Some t.node = node_stays c.args.state.now c.loop-happening.state c.args.place before.same ∙ up in
          passes_on t c.args.place first lines i item c.loop-happening.words w now at passing c.tell_one.new.words (shown c.tell_one.new.state) c.tell_one.new.lines.items
          (c.in_ok-tell_one.ensures.does t.node at.happening rest here next) (c.in_ok-tell_one.ensures.rest at.happening rest next);
    }

pub returns-in_err-tell_one-clause-does : goal.returns-in_err-tell_one-clause-does
returns-in_err-tell_one-clause-does c = λ t up due.
    let p = err_from_is_err_and c.from_residual.result c.from_residual.ensures.1 in
    let before = c.loop-happening.invariant in
    let i = c.loop-happening.happening-index in
    let item : Happening = c.happening-item.result in
    let at : IsAt t.happened i item = subst (λ (x : Happening). IsAt t.happened i x) (sym c.happening-item.is)
    (subst (λ (ys : List Happening). i < length ys → IsAt t.happened i (get_or ys i item)) (sym due.happened_is) (at_index t.happened i item) c.loop-happening-test.true) in
    let passing = before.passing t up due in
    let first = shown c.args.state.now in
    let w = shown c.loop-happening.state in
    let lines = c.args.lines.now.items in
    let now = c.loop-happening.lines.items in
    let next = next_is t c.args.place first lines i item c.loop-happening.words w now at passing in
    let rest = left t c.args.place first lines i item c.loop-happening.words w now at passing in
    let here : node_at w c.args.place ≡ Some t.node = node_stays c.args.state.now c.loop-happening.state c.args.place before.same ∙ up in
    does_fail (tells_tick c.args.place t.node t.happened t.words first) (shown c.tell_one.new.state) lines c.tell_one.new.lines.items
    c.from_residual.result c.in_err-tell_one.field-0.0 (p.1 ∙ ap Err p.2)
    (passing_breaks t c.args.place first lines i item c.loop-happening.words w now at passing c.in_err-tell_one.field-0.0 c.tell_one.new.lines.items
    (c.in_err-tell_one.ensures.does t.node at.happening rest here next))
