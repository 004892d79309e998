-- A front of safe lines is safe.
use Rattle.std.proofs.Common.{List, ◌++◌, ap, subst, ◌∙◌, append_assoc}
use Rattle.std.proofs.lemmas.List.Elements.{filter_map-append}
use Rattle.ots_model.specs.declared.line.Line.{Line}
use Rattle.ots_model.specs.Safe.{AreSafe}
use Rattle.nodes_world.specs.Told.{Told, known, known_in}

lines_safe : (all rest : List Line) → AreSafe (all ++ rest) → AreSafe all
lines_safe all rest safe front behind is = safe front (behind ++ rest) (ap (λ xs. xs ++ rest) is ∙ append_assoc front behind rest)

pub front_safe : (some others : List Told) → AreSafe (known (some ++ others)) → AreSafe (known some)
front_safe some others safe =
    lines_safe (known some) (known others) (subst (λ (ls : List Line). AreSafe ls) (filter_map-append known_in some others) safe)
