use Rattle.std.proofs.Common.{[], ◌∷◌, ap, ◌∙◌}
use Rattle.ots_program.proofs.Fed.{fed_joined, stopped_joined}
use Rattle.ots_program.proofs.player.Player.take_front.Goals as goal

pub returns-clause-fed : goal.returns-clause-fed
returns-clause-fed c =
    fed_joined c.take_whole-2.result c.args.self.now c.take_part.new.self c.take_out-line.new.self c.take_whole-2.new.self c.args.octets.now _ (10 ∷ []) c.in_ok-take_part.ensures.fed c.take_out-line.ensures.emptied
    (c.as_slice.ensures.value ∙ ap (λ v. v.items) c.take_out-line.ensures.line) c.take_whole-2.ensures.fed

pub returns-clause-stops : goal.returns-clause-stops
returns-clause-stops c =
    stopped_joined c.take_whole-2.result c.args.self.now c.take_part.new.self c.take_out-line.new.self c.take_whole-2.new.self c.args.octets.now _ (10 ∷ []) c.in_ok-take_part.ensures.fed c.take_out-line.ensures.emptied
    (c.as_slice.ensures.value ∙ ap (λ v. v.items) c.take_out-line.ensures.line) c.take_whole-2.ensures.stops
