use Rattle.std.proofs.Common.{subst}
use Rattle.resource_end.specs.Inside.{AreApart}
use Rattle.resource_end.proofs.contents.Contents.record_for.Goals as goal

pub returns-in-Some-clause-apart : goal.returns-in-Some-clause-apart
returns-in-Some-clause-apart c = subst (λ s. AreApart s.resources) c.self.view_is c.numbered.ensures.apart
