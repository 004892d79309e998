use Rattle.ots_calls.proofs.Sizes.{framed_again}
use Rattle.ots_calls.proofs.writing.request_of.Goals as goal

pub returns-clause-framed : goal.returns-clause-framed
returns-clause-framed c =
    framed_again c.args.id c.args.c.now c.in_ok-contexts.contexts c.in_ok-body.body c.addressed.result c.in_ok-contexts.ensures.few c.addressed.ensures.request
