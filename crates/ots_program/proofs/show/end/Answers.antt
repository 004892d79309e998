use Rattle.std.proofs.Common.{sym, ◌∙◌}
use Rattle.std.proofs.lemmas.Bool.{false≢true}
use Rattle.ots_program.proofs.Showing.{ends_finished}
use Rattle.ots_program.proofs.show.end.Goals as goal

pub returns : goal.returns
returns c = ends_finished c.args.stream.now (λ inside. false≢true (sym c.if-unfinished.false ∙ c.unfinished.ensures.1 inside))
