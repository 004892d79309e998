use Rattle.giop_streams.proofs.parts.whole_part.Goals as goal

pub returns-in-Ok-2-clause-refused : goal.returns-in-Ok-2-clause-refused
returns-in-Ok-2-clause-refused c = tt
