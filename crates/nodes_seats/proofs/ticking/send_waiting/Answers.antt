use Rattle.std.proofs.Common.{◌++◌, Option, Err, sym, ap, subst, ◌∙◌}
use Rattle.std.specs.Option.{option_to_list}
use Rattle.std.proofs.lemmas.Result.{err_from_is_err_and}
use Rattle.ots_model.specs.declared.tree.Outward.{Outward}
use Rattle.nodes_world.specs.Happenings.{◌▹◌, requests, requests_all}
use Rattle.nodes_state.specs.Does.{Does}
use Rattle.nodes_state.specs.Shown.{shown}
use Rattle.nodes_state.proofs.Doing.{breaks_first, does_then}
use Rattle.nodes_state.proofs.Failing.{does_fail}
use Rattle.nodes_state.proofs.Named.{names_stay}
use Rattle.nodes_seats.proofs.Ticks.{requests_grow}
use Rattle.nodes_seats.proofs.ticking.send_waiting.Goals as goal

pub returns-in_err-request-in-Some-clause-does : goal.returns-in_err-request-in-Some-clause-does
returns-in_err-request-in-Some-clause-does c =
    let p = err_from_is_err_and c.from_residual.result c.from_residual.ensures.1 in
    let w = shown c.args.state.now in
    let rest = c.args.words.others.words in
    let o = c.in-Some.outward in
    let before = c.args.lines.now.items in
    let after = c.request.new.lines.items in
    subst (λ (next : Option Outward). Does (requests_all c.args.place (option_to_list next ++ rest) w) (shown c.request.new.self) before after c.from_residual.result) (sym c.in-Some.is)
    (does_fail (requests c.args.place o w ▹ requests_all c.args.place rest) (shown c.request.new.self) before after c.from_residual.result
    c.in_err-request-in-Some.field-0.0 (p.1 ∙ ap Err p.2)
    (breaks_first (requests c.args.place o w) (requests_all c.args.place rest) c.in_err-request-in-Some.field-0.0 before after (requests_grow c.args.place rest)
    c.in_err-request-in-Some.ensures.does))

pub send_words-requires : goal.send_words-requires
send_words-requires c = record { names = names_stay c.args.state.now c.request.new.self c.in_ok-request-in-Some.ensures.same c.requires.names }

pub returns-in_ok-request-in-Some-clause-does : goal.returns-in_ok-request-in-Some-clause-does
returns-in_ok-request-in-Some-clause-does c =
    let w = shown c.args.state.now in
    let rest = c.args.words.others.words in
    let o = c.in-Some.outward in
    let d = c.in_ok-request-in-Some.ensures.does in
    subst (λ (next : Option Outward). Does (requests_all c.args.place (option_to_list next ++ rest) w) (shown c.send_words.new.self) c.args.lines.now.items
    c.send_words.new.lines.items c.send_words.result) (sym c.in-Some.is)
    (does_then (requests c.args.place o w) (requests_all c.args.place rest) (shown c.request.new.self) (shown c.send_words.new.self) c.args.lines.now.items
    c.request.new.lines.items c.send_words.new.lines.items c.send_words.result d.0 d.1 c.send_words.ensures.does)
