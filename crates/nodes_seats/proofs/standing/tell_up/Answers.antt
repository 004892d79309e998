use Rattle.std.proofs.Common.{ℕ, List, ◌++◌, ap, subst, ◌∙◌}
use Rattle.std.specs.List.{flat_map}
use Rattle.ots_model.specs.declared.line.Line.TheVariants as lines
use Rattle.recovery_coord.specs.declared.held.Held.{Held}
use Rattle.nodes_world.specs.Lives.{standing_lines}
use Rattle.nodes_world.specs.Told.{Known, spelled}
use Rattle.nodes_state.specs.Telling.{TellsSome}
use Rattle.nodes_seats.proofs.Standings.{up_told}
use Rattle.nodes_seats.proofs.standing.tell_up.Goals as goal

pub returns : goal.returns
returns c = λ w names.
    let n = c.args.node.now.node in
    let mid = c.tell_known.new.lines.items in
    let after = c.tell_all_standing.new.lines.items in
    up_told w c.args.server n c.args.lines.now.items mid after c.tell_all_standing.result
    (c.in_ok-tell_known.ensures ∙ ap (λ (life : ℕ). c.args.lines.now.items ++ spelled (Known (lines.Up c.args.server life))) c.life-life.ensures)
    (subst (λ (service : ℕ). TellsSome (flat_map (standing_lines w service) n.recovered) mid after c.tell_all_standing.result) c.service.ensures
    (subst (λ (held : List Held). TellsSome (flat_map (standing_lines w c.service.result) held) mid after c.tell_all_standing.result) c.records.ensures
    (c.tell_all_standing.ensures w names)))
