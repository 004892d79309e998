use Rattle.ots_context.proofs.Tails.{again_stands, stand_again}
use Rattle.ots_context.proofs.laws.tails_stand_where_read_again.Goals as goal

pub returns : goal.returns
returns c place tail =
    (stand_again c.reading_is_exact.ensures c.values_are_read_again.ensures place tail, again_stands place tail)
