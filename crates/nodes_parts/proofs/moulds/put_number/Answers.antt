use Rattle.std.proofs.Common.{refl, length, ◌-◌}
use Rattle.nodes_parts.proofs.Placed.{written}
use Rattle.nodes_parts.proofs.moulds.put_number.Goals as goal

pub returns : goal.returns
returns c =
    let xs = c.args.octets.now in
    let place = length xs - 16 in
    written c.args.number xs c.write_u64.new.buf place (length xs - place) refl refl c.requires.long c.write_u64.ensures
