use Rattle.std.proofs.Common.{rules}
use Rattle.giop_frames.proofs.layout.layout.Goals as goal

pub returns-in-V1_2-Reply : goal.returns-in-V1_2-Reply
returns-in-V1_2-Reply c = search rules
