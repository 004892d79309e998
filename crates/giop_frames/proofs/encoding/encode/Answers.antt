use Rattle.giop_frames.proofs.encoding.encode.Goals as goal

pub returns : goal.returns
returns c = c.encode_as.ensures
