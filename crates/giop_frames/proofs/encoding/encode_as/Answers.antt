use Rattle.std.proofs.Common.{arith}
use Rattle.giop_frames.proofs.Refused.{told_is_small}
use Rattle.giop_frames.proofs.encoding.encode_as.Goals as goal

pub encode_told-requires : goal.encode_told-requires
encode_told-requires c = omega (arith, told_is_small c.args.version c.args.message.now c.of.result c.of.ensures, c.requires)

pub returns : goal.returns
returns c = c.encode_told.ensures c.args.message.now c.of.ensures
