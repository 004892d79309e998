use Rattle.std.proofs.Common.{ℕ}
use Rattle.giop_frames.specs.declared.message.Message.{Message}
use Rattle.giop_frames.specs.declared.decoding.Decoded.{Decoded}
use Rattle.giop_frames.proofs.Whole.{within_from, found_from, only_from}
use Rattle.giop_frames.proofs.Further.{stays_from}
use Rattle.giop_frames.proofs.decoding.decode_as.Goals as goal

-- the message and how many octets it has
abbrev view : Decoded → Message × ℕ
view d = (d.message, d.used)

pub returns-clause-within : goal.returns-clause-within
returns-clause-within c = within_from c.args.versions.now c.fields_are_read_exactly.ensures view c.args.bytes.now c.decode_front.result c.decode_front.ensures.exact

pub returns-clause-found : goal.returns-clause-found
returns-clause-found c = found_from c.args.versions.now c.fields_are_read_exactly.ensures view c.args.bytes.now c.decode_front.result c.decode_front.ensures.exact

pub returns-clause-only : goal.returns-clause-only
returns-clause-only c = only_from c.args.versions.now c.fields_are_read_exactly.ensures view c.args.bytes.now c.decode_front.result c.decode_front.ensures.exact

pub returns-clause-stays : goal.returns-clause-stays
returns-clause-stays c = stays_from c.args.versions.now view c.args.bytes.now c.decode_front.result c.decode_front.ensures.exact
