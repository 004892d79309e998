use Rattle.giop_frames.proofs.laws.fields_are_read_exactly.Goals as goal

pub returns : goal.returns
returns c = record { values = c.reading_is_exact.ensures; tagged = c.references_are_read_exactly.ensures; contexts = c.sequences_are_exact.ensures }
