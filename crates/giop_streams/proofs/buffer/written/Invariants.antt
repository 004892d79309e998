use Rattle.std.proofs.Common.{◌≡◌, take, vec_capacity}
use Rattle.giop_streams.proofs.buffer.written.Given as goal

abbrev pub invariant-loop-octet : goal.invariant-loop-octet
invariant-loop-octet l = record {
  octets : l.filled.items ≡ take l.octet-index l.octets;
  memory : vec_capacity l.filled ≡ vec_capacity l.fn.memory;
}
