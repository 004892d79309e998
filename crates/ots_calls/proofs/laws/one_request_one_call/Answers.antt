use Rattle.ots_calls.proofs.Requests.{one_call}
use Rattle.ots_calls.proofs.laws.one_request_one_call.Goals as goal

pub returns : goal.returns
returns c = one_call c.requests_are_read_exactly.ensures c.same_octets_same_key.ensures
