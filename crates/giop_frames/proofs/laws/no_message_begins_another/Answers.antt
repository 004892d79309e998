use Rattle.giop_frames.proofs.Whole.{one_message}
use Rattle.giop_frames.proofs.laws.no_message_begins_another.Goals as goal

pub returns : goal.returns
returns c versions = one_message versions c.fields_are_read_exactly.ensures
