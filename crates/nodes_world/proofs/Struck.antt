-- What an append does to a disk: it computes.
use Rattle.std.proofs.Common.{refl}
use Rattle.nodes_world.specs.Disks.{left_by, strikes}
use Rattle.nodes_world.specs.Laws.{AppendsStrike}

pub appends_strike : AppendsStrike
unfolding strikes left_by
appends_strike = record {
  whole = λ gate r disk. refl;
  first_undone = λ gate r disk. refl;
  first_done = λ gate r disk. refl;
  second_undone = λ gate r disk. refl;
  second_done = λ gate r disk. refl;
  later = λ gate r disk image. refl;
}
