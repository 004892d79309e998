use Rattle.std.proofs.Common.{ℕ, sym, ap, ◌∙◌}
use Rattle.std.specs.List.{slice_get}
use Rattle.std.specs.Option.{option_and_then}
use Rattle.nodes_parts.specs.Kept.{flat_object}
use Rattle.nodes_parts.proofs.Ending.{by_place}
use Rattle.nodes_parts.proofs.ends.object_numbered.Goals as goal

pub returns-in-Some : goal.returns-in-Some
returns-in-Some c =
    c.object_at.ensures
    ∙ ap (option_and_then (λ (place : ℕ). option_and_then flat_object (slice_get c.args.objects.now place))) (sym c.in-Some.is ∙ c.place_of.ensures)
    ∙ sym (by_place c.args.objects.now c.args.number c.requires.numbered)

pub returns-in-None : goal.returns-in-None
returns-in-None c =
    ap (option_and_then (λ (place : ℕ). option_and_then flat_object (slice_get c.args.objects.now place))) (sym c.in-None.is ∙ c.place_of.ensures)
    ∙ sym (by_place c.args.objects.now c.args.number c.requires.numbered)
