use Rattle.std.proofs.Common.{◌≡◌, ◌++◌, length, take}
use Rattle.std.specs.Slice.Iter.{chunks_rest, chunks_size}
use Rattle.hex.specs.Hex.{encode_lower}
use Rattle.nodes_lines.proofs.journal.write_digits.Given as goal

-- what is written, and the digits of what is left, are those of all
abbrev pub invariant-loop-chunk : goal.invariant-loop-chunk
invariant-loop-chunk l = record {
  size : chunks_size l.chunk-iterator ≡ 256;
  whole : l.lines.items ++ encode_lower (chunks_rest l.chunk-iterator) ≡ l.fn.lines.items ++ encode_lower l.octets;
  front : take (length l.fn.lines.items) l.lines.items ≡ l.fn.lines.items;
}
