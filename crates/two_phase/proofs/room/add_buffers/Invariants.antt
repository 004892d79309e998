use Rattle.std.proofs.Common.{◌≤◌, vec_len}
use Rattle.two_phase.specs.StockInside.{AreRoomy}
use Rattle.two_phase.proofs.room.add_buffers.Given as goal

abbrev pub invariant-loop-so_many : goal.invariant-loop-so_many
invariant-loop-so_many l = record {
  more : vec_len l.initial.buffers ≤ vec_len l.buffers;
  enough : l._so_many ≤ vec_len l.buffers;
  roomy : AreRoomy l.octets l.buffers.items;
}
