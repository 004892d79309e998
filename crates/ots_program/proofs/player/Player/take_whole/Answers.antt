use Rattle.std.proofs.Common.{[], ◌∷◌, ◌∙◌, ap, append_assoc, arith}
use Rattle.ots_program.specs.PlayingInside.{place_of}
use Rattle.ots_program.proofs.Fed.{IsFed-line}
use Rattle.ots_program.proofs.Turned.{StopsAt-past_lines, StopsAt-past_octets, StopsAt-fed}
use Rattle.ots_program.proofs.player.Player.take_whole.Goals as goal

pub returns-then-self-ge-LINES_LIMIT-clause-stops : goal.returns-then-self-ge-LINES_LIMIT-clause-stops
returns-then-self-ge-LINES_LIMIT-clause-stops c =
    λ rest. rw (c.requires.none, append_assoc c.args.text.now (10 ∷ []) rest)
    (StopsAt-past_lines (place_of c.args.self.now) c.args.text.now 10 rest c.args.self.now.output.items c.requires.one_line c.if-self-ge-LINES_LIMIT.true)

pub returns-then-text-self-clause-stops : goal.returns-then-text-self-clause-stops
returns-then-text-self-clause-stops c =
    λ rest. rw (c.requires.none, append_assoc c.args.text.now (10 ∷ []) rest)
    (StopsAt-past_octets (place_of c.args.self.now) c.args.text.now 10 rest c.args.self.now.output.items c.requires.one_line c.if-self-ge-LINES_LIMIT.false (omega arith))

pub returns-clause-fed : goal.returns-clause-fed
returns-clause-fed c =
    IsFed-line c.take_line.result c.args.self.now c.take_line.new.self c.args.text.now c.requires.one_line c.requires.none (omega arith) (omega arith) c.take_line.ensures.turned
    (ap (λ v. v.items) c.take_line.ensures.line ∙ c.requires.none) c.take_line.ensures.counted c.take_line.ensures.measured

pub returns-clause-stops : goal.returns-clause-stops
returns-clause-stops c =
    StopsAt-fed c.take_line.result c.args.self.now c.args.text.now c.take_line.new.self.world _ _ c.requires.one_line c.requires.none c.take_line.ensures.turned
