use Rattle.std.proofs.Common.{◌∙◌, append-nil}
use Rattle.std.proofs.lemmas.List.{nil_from_length}
use Rattle.nodes_lines.proofs.Journals.{chunk_written, encode_none, front_written}
use Rattle.nodes_lines.proofs.journal.write_digits.Goals as goal

pub loop-chunk-preserved : goal.loop-chunk-preserved
loop-chunk-preserved c = record {
  size = c.in-Some.ensures.steps.0 ∙ c.loop-chunk.invariant.size;
  whole = chunk_written _ _ _ _ _ _ c.in-Some.ensures.steps.1.0 c.in_ok-write_chunk.ensures.ok c.loop-chunk.invariant.whole;
  front = front_written _ _ _ _ c.loop-chunk.invariant.front c.in_ok-write_chunk.ensures.ok;
}

pub returns-clause-ok : goal.returns-clause-ok
returns-clause-ok c =
    let none = nil_from_length _ c.in-None.ensures.steps.1.0 in
    rw (none, encode_none, append-nil) at c.loop-chunk.invariant.whole
