use Rattle.std.proofs.Common.{◌∙◌, sym, ap}
use Rattle.std.proofs.lemmas.List.{get_or_default}
use Rattle.decision_journal.specs.declared.journal.Standing.{Standing}
use Rattle.decision_journal.specs.Journal.{is_cells_prepared}
use Rattle.decision_journal.proofs.Places.{none_there, at_test}
use Rattle.decision_journal.proofs.found.cells_stand.Goals as goal

pub returns-in-None : goal.returns-in-None
returns-in-None c = sym (none_there c.args.standing.now c.requires c.args.place (λ (s : Standing). is_cells_prepared s.item) (sym c.index_of.ensures ∙ c.in-None.is)).1

pub returns-in-Some : goal.returns-in-Some
returns-in-Some c =
    sym (at_test c.args.standing.now c.requires c.args.place (λ (s : Standing). is_cells_prepared s.item) c.in-Some.index (sym c.index_of.ensures ∙ c.in-Some.is) c.are_cells.result (λ d within.
    let e = get_or_default c.args.standing.now c.in-Some.index d c.index-standing-index.result within in
    ap (λ (s : Standing). is_cells_prepared s.item) e ∙ sym c.are_cells.ensures))
