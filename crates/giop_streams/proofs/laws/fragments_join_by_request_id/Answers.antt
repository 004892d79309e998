use Rattle.giop_streams.proofs.Joining.{fragment_goes_on, joins}
use Rattle.giop_streams.proofs.laws.fragments_join_by_request_id.Goals as goal

pub returns-clause-joins : goal.returns-clause-joins
returns-clause-joins c versions octets parts messages rest s id = joins parts s.taken id

pub returns-clause-goes_on : goal.returns-clause-goes_on
returns-clause-goes_on c versions octets parts messages rest s p fragment long = fragment_goes_on parts s.taken p fragment long
