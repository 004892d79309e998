use Rattle.std.proofs.Common.{◌≡◌, Err, ap}
use Rattle.ots_world.specs.Script.{Says, reading}
use Rattle.ots_program.specs.PlayingInside.{place_of}
use Rattle.ots_program.proofs.Carried.{Turns-refused}
use Rattle.ots_program.proofs.player.Player.carry_out.Goals as goal

-- The world refuses what the line says.
pub returns-in-Ok-Some-clause-turned : goal.returns-in-Ok-Some-clause-turned
returns-in-Ok-Some-clause-turned c =
    let says : reading c.args.text.now ≡ Says c.in-Ok-Some.event = rw c.in-Ok-Some.field-0-is at c.in-Ok-Some.ensures.exact in
    rw (says, c.by_world.ensures) (Turns-refused c.in-Err.fault (place_of c.args.self.now) c.in-Ok-Some.event c.args.self.now.world c.step.new.self _ _ c.requires.plays.stands
    (λ e. c.in-Err.ensures.stepped.names (ap Err e)) c.in-Err.ensures.stepped.stopped (λ n e. c.in-Err.ensures.stepped.limit n (ap Err e)))
