use Rattle.giop_streams.proofs.Cuts.{not_both, one_end}
use Rattle.giop_streams.proofs.laws.octets_end_in_one_way.Goals as goal

pub returns : goal.returns
returns c =
    let laws = c.headers_are_read_exactly.ensures in
    record { not_both = not_both laws; one_end = one_end laws }
