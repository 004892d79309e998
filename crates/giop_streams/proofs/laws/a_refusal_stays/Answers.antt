use Rattle.giop_streams.proofs.Cuts.{one_refusal, no_stream, refused_on}
use Rattle.giop_streams.proofs.laws.a_refusal_stays.Goals as goal

pub returns : goal.returns
returns c =
    let laws = c.headers_are_read_exactly.ensures in
    record { refused = one_refusal laws; goes_on = refused_on laws; no_stream = no_stream laws }
