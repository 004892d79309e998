use Rattle.ots_program.proofs.Agreed.{replay-right}
use Rattle.ots_program.proofs.ReadBack.{read_safe}
use Rattle.ots_program.proofs.laws.what_is_read_is_safe.Goals as goal

pub returns-clause-told : goal.returns-clause-told
returns-clause-told c = λ octets. (replay-right c.worlds_agree.ensures octets).read

pub returns-clause-safe : goal.returns-clause-safe
returns-clause-safe c = read_safe c.worlds_agree.ensures
