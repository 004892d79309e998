use Rattle.std.proofs.Common.{ap, ◌∙◌, rules}
use Rattle.std.specs.List.{filter}
use Rattle.std.proofs.lemmas.List.Elements.{filter_from_retain}
use Rattle.decision_journal.specs.Index.{Lined, is_left}
use Rattle.decision_journal.proofs.line.Line.settle.Goals as goal

pub returns : goal.returns
returns c =
    c.shrink_to_fit.ensures.items ∙ (filter_from_retain _ is_left (λ p s b q r. search rules) _ _ c.retain.new.self.items c.retain.ensures.filtered
    ∙ (ap (filter is_left) (c.drop-drain.ensures.items ∙ c.drain.ensures.kept) ∙ ap (λ (l : Lined). filter is_left l.standing) c.self.view_is))
