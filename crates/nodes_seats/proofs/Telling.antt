-- Lines that were told, or were not.
use Rattle.std.proofs.Common.{◌≡◌, ℕ, List, [], ◌∷◌, ◌++◌, sym, ap, ◌∙◌}
use Rattle.std.proofs.lemmas.List.{append-nil}
use Rattle.std.proofs.lemmas.List.Concat.{flat_map-cons}
use Rattle.nodes_world.specs.Told.{Told, spelled}
use Rattle.nodes_state.specs.Telling.{Tells, TellsPart}

pub one_told : (line : Told) (before after : List ℕ) → after ≡ before ++ spelled line → Tells (line ∷ []) before after
one_told line before after e = e ∙ ap (λ t. before ++ t) (sym (flat_map-cons spelled line [] ∙ append-nil (spelled line)))

pub none_told : (before : List ℕ) → Tells [] before before
none_told before = sym (append-nil before)

pub part_none : (some : List Told) (before after : List ℕ) → after ≡ before → TellsPart some before after
part_none some before after e = (0, e ∙ sym (append-nil before))
