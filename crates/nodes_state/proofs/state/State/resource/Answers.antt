use Rattle.std.proofs.Common.{sym, ap, ◌∙◌}
use Rattle.std.specs.Option.{option_copied, option_map}
use Rattle.nodes_parts.specs.Kept.{flat}
use Rattle.nodes_world.specs.World.{end_at}
use Rattle.nodes_state.specs.Shown.{shown}
use Rattle.nodes_state.proofs.Reading.{no_resource, resource_there}
use Rattle.nodes_state.proofs.state.State.resource.Goals as goal

pub returns-in_err-end : goal.returns-in_err-end
returns-in_err-end c =
    let none = ap (λ p. end_at (shown c.args.self.now) p) (sym c.place_of.ensures) ∙ sym c.in_err-end.ensures in
    ap (λ o. option_map flat (option_copied o)) c.from_residual.ensures ∙ sym (no_resource (shown c.args.self.now) c.args.key.now none)

pub returns : goal.returns
returns c =
    let some = ap (λ p. end_at (shown c.args.self.now) p) (sym c.place_of.ensures) ∙ sym c.in_ok-end.ensures in
    c.resource.ensures ∙ sym (resource_there (shown c.args.self.now) c.args.key.now c.in_ok-end.field-0.now some)
