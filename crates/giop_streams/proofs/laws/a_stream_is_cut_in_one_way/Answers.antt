use Rattle.giop_streams.proofs.Cuts.{one_stream}
use Rattle.giop_streams.proofs.laws.a_stream_is_cut_in_one_way.Goals as goal

pub returns : goal.returns
returns c = one_stream c.headers_are_read_exactly.ensures
