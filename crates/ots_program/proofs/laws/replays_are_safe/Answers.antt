use Rattle.ots_program.proofs.Agreed.{replay-right}
use Rattle.ots_program.proofs.laws.replays_are_safe.Goals as goal

pub returns : goal.returns
returns c = λ octets. (replay-right c.worlds_agree.ensures octets).safe
