use Rattle.giop_streams.proofs.parts.behind_id.Goals as goal

pub returns : goal.returns
returns c = c.behind.ensures
