use Rattle.std.proofs.Common.{◌≡◌, ◌+◌, length, take, vec_len, vec_capacity}
use Rattle.giop_streams.proofs.buffer.fill.Given as goal

abbrev pub invariant-loop-place : goal.invariant-loop-place
invariant-loop-place l = record {
  front : take (length l.fn.memory.items) l.octets.items ≡ l.fn.memory.items;
  len : vec_len l.octets ≡ vec_len l.fn.memory + l.place;
  memory : vec_capacity l.octets ≡ vec_capacity l.fn.memory;
}
