use Rattle.std.proofs.Common.{◌-◌, length, arith}
use Rattle.ots_program.specs.Limits.{octets_limit}
use Rattle.ots_program.specs.PlayingInside.{place_of}
use Rattle.ots_program.proofs.Turned.{StopsAt-more_lines, StopsAt-more_octets}
use Rattle.ots_program.proofs.player.Player.take_part.Goals as goal

pub returns-then-self-ge-LINES_LIMIT-clause-stops : goal.returns-then-self-ge-LINES_LIMIT-clause-stops
returns-then-self-ge-LINES_LIMIT-clause-stops c =
    λ rest. StopsAt-more_lines (place_of c.args.self.now) c.args.self.now.line.items c.args.octets.now rest c.args.self.now.output.items c.requires.plays.one_line (grind (arith, c.if-is_empty.false, c.is_empty.ensures)) c.if-self-ge-LINES_LIMIT.true

pub returns-then-octets-self-clause-stops : goal.returns-then-octets-self-clause-stops
returns-then-octets-self-clause-stops c =
    λ rest. StopsAt-more_octets (octets_limit - c.args.self.now.octets - length c.args.self.now.line.items) (place_of c.args.self.now) c.args.self.now.line.items c.args.octets.now rest c.args.self.now.output.items
    c.requires.plays.one_line c.requires.one_line c.if-self-ge-LINES_LIMIT.false (omega (arith, c.requires.plays.octets)) (grind (arith, c.if-octets-self.true, c.len.ensures, c.requires.plays.octets))
