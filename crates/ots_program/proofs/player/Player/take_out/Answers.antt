use Rattle.std.proofs.Common.{ap, ◌∙◌, refl}
use Rattle.ots_program.proofs.Fed.{Plays-emptied}
use Rattle.ots_program.proofs.player.Player.take_out.Goals as goal

pub returns-clause-emptied : goal.returns-clause-emptied
returns-clause-emptied c = record { line = ap (λ v. v.items) c.replace.ensures.after ∙ c.new.ensures.items; world = refl; lines = refl; octets = refl; output = refl }

pub returns-clause-plays : goal.returns-clause-plays
returns-clause-plays c = Plays-emptied c.args.self.now _ c.requires.plays (returns-clause-emptied c)
