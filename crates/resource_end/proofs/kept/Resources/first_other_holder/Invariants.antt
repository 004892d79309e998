use Rattle.std.proofs.Common.{◌≡◌}
use Rattle.std.specs.Prelude.{find}
use Rattle.resource_end.specs.Inside.{is_other_holder}
use Rattle.resource_end.proofs.Holders.{find_among}
use Rattle.resource_end.proofs.kept.Resources.first_other_holder.Given as goal

abbrev pub invariant-loop-other : goal.invariant-loop-other
invariant-loop-other l =
    find (is_other_holder l.id l.cell) l.self ≡ find_among (is_other_holder l.id l.cell) l.self l.other-iterator
