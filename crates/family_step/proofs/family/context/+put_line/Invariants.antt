use Rattle.family_step.proofs.family.context.+put_line.Given as goal

abbrev pub decreases-put_line : goal.decreases-put_line
decreases-put_line l = l.branch
