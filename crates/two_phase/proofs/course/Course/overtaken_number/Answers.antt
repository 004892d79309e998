use Rattle.std.proofs.Common.{arith}
use Rattle.two_phase.proofs.Answered.{serial_fits}
use Rattle.two_phase.proofs.course.Course.overtaken_number.Goals as goal

pub following-requires : goal.following-requires
following-requires c =
    serial_fits c.self.inside.number.serial c.self.inside.parties.items c.self.inside.overtaken (omega (arith, c.self.invariant.few)) c.self.invariant.serial
