use Rattle.std.proofs.Common.{List, set, ◌+◌, ◌-◌, ◌∙◌, ap}
use Rattle.std.specs.Prelude.{vec_capacity, vec_len}
use Rattle.std.proofs.lemmas.List.{drop-set-add}
use Rattle.decision_journal.specs.declared.journal.Standing.{Standing}
use Rattle.decision_journal.specs.Index.{Lined}
use Rattle.decision_journal.proofs.line.Line.set.Goals as goal

pub returns : goal.returns
returns c =
    ap (λ (xs : List Standing). record { standing = xs; spare = vec_capacity c.self.inside.items + c.self.inside.gone - vec_len c.self.inside.items; gone = c.self.inside.gone }) (drop-set-add c.self.inside.gone c.self.inside.items.items c.args.index c.args.item)
    ∙ ap (λ (l : Lined). record { standing = set l.standing c.args.index c.args.item; spare = l.spare; gone = l.gone }) c.self.view_is
