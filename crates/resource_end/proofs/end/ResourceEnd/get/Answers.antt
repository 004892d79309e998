use Rattle.std.proofs.Common.{◌∙◌, ap, sym}
use Rattle.std.specs.Prelude.{find, Ok}
use Rattle.std.specs.Option.{option_or}
use Rattle.resource_end.specs.End.{is_named, named, stored}
use Rattle.resource_end.specs.Inside.{resource_at}
use Rattle.resource_end.proofs.Seen.{get_none, get_some}
use Rattle.resource_end.proofs.end.ResourceEnd.get.Goals as goal

pub returns-in-None : goal.returns-in-None
returns-in-None g c =
    sym (get_none c.args.key.now c.args.cell c.args.self.now.end
    (ap (λ s. named c.args.key.now s.end) (sym c.self.view_is)
    ∙ ap (λ service. find (is_named service c.args.key.now) c.self.inside.contents.resources) (sym c.service.ensures)
    ∙ sym c.in-None.ensures))

pub returns-in-Some-own : goal.returns-in-Some-own
returns-in-Some-own g c =
    sym (get_some c.args.key.now c.args.cell c.args.self.now.end (resource_at (c.args.key.now.life, c.args.key.now.generation) c.in-Some.kept.now)
    (ap (λ s. named c.args.key.now s.end) (sym c.self.view_is)
    ∙ ap (λ service. find (is_named service c.args.key.now) c.self.inside.contents.resources) (sym c.service.ensures)
    ∙ sym c.in-Some.ensures)
    ∙ ap (λ o. Ok (option_or o (stored c.args.cell c.args.self.now.end))) (sym (c.own-own.ensures (c.args.key.now.life, c.args.key.now.generation)) ∙ c.in-Some-own.is))

pub returns-in-None-own : goal.returns-in-None-own
returns-in-None-own g c =
    ap (λ o. Ok o) (c.stored.ensures ∙ ap (λ s. stored c.args.cell s.end) c.self.view_is)
    ∙ sym (get_some c.args.key.now c.args.cell c.args.self.now.end (resource_at (c.args.key.now.life, c.args.key.now.generation) c.in-Some.kept.now)
    (ap (λ s. named c.args.key.now s.end) (sym c.self.view_is)
    ∙ ap (λ service. find (is_named service c.args.key.now) c.self.inside.contents.resources) (sym c.service.ensures)
    ∙ sym c.in-Some.ensures)
    ∙ ap (λ o. Ok (option_or o (stored c.args.cell c.args.self.now.end))) (sym (c.own-own.ensures (c.args.key.now.life, c.args.key.now.generation)) ∙ c.in-None-own.is))
