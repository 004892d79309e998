use Rattle.std.proofs.Common.{arith}
use Rattle.family_rules.proofs.state.State.tell_own.Goals as goal

pub gather_own-requires-clause-room : goal.gather_own-requires-clause-room
gather_own-requires-clause-room c = omega (arith, c.requires.can.tasks c.args.branch)
