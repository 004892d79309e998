use Rattle.std.proofs.Common.{ℕ, Err, ap, subst, ◌∙◌}
use Rattle.std.proofs.lemmas.Result.{err_from_is_err_and}
use Rattle.ots_world.specs.declared.fault.WorldFault.TheVariants as faults
use Rattle.service_node.specs.declared.passing.Happening.{Happening}
use Rattle.nodes_world.specs.Nodes.{happens}
use Rattle.nodes_state.specs.Shown.{shown}
use Rattle.nodes_state.proofs.Failing.{does_fail}
use Rattle.nodes_seats.specs.Waiting.{IsSplit}
use Rattle.nodes_seats.proofs.Ticks.{half_happened, happened_so}
use Rattle.nodes_seats.proofs.ticking.tell_one.Goals as goal

pub returns-in_err-tell_happening-clause-does : goal.returns-in_err-tell_happening-clause-does
returns-in_err-tell_happening-clause-does c = λ later h rest up next.
    let p = err_from_is_err_and c.from_residual.result c.from_residual.ensures.1 in
    let w = shown c.args.state.now in
    does_fail (happens c.args.place later h w) w c.args.lines.now.items c.tell_happening.new.lines.items c.from_residual.result faults.Memory (p.1 ∙ ap Err p.2)
    (half_happened c.args.place later h c.args.happening.now w c.args.lines.now.items c.tell_happening.new.lines.items next.told_so (c.in_err-tell_happening.ensures later up))

pub returns-clause-does : goal.returns-clause-does
returns-clause-does c = λ later h rest up next.
    happened_so c.args.place later h c.args.happening.now (shown c.args.state.now) (shown c.send_words_of.new.state) c.args.lines.now.items
    c.tell_happening.new.lines.items c.send_words_of.new.lines.items c.send_words_of.result next.told_so (c.in_ok-tell_happening.ensures later up)
    (c.send_words_of.ensures.does h.words rest
    (subst (λ (slot : ℕ). IsSplit slot h.words rest c.args.words.now) (ap (λ (x : Happening). x.key.slot) next.told_so) next.split))
