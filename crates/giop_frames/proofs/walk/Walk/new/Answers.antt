use Rattle.std.proofs.Common.{refl}
use Rattle.giop_frames.proofs.Near.{far_at_front}
use Rattle.giop_frames.proofs.walk.Walk.new.Goals as goal

pub returns-clause-far : goal.returns-clause-far
returns-clause-far c = far_at_front c.args.header _ refl refl c.layout.ensures
