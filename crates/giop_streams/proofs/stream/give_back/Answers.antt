use Rattle.std.proofs.Common.{arith}
use Rattle.giop_streams.proofs.stream.give_back.Goals as goal

pub returns-then-taken-len-clause-mostly : goal.returns-then-taken-len-clause-mostly
returns-then-taken-len-clause-mostly c = omega arith
