use Rattle.std.proofs.Common.{◌∙◌, ap, sym, arith}
use Rattle.std.proofs.lemmas.List.{get_or_default}
use Rattle.decision_journal.specs.declared.record.Put.{Put}
use Rattle.resource_end.proofs.Gaps.{other_cells, value_nowhere, value_there}
use Rattle.resource_end.proofs.puts.value_in.Goals as goal

pub returns-then-index-puts : goal.returns-then-index-puts
returns-then-index-puts c =
    sym (value_nowhere c.args.cell c.args.puts.now (other_cells c.args.cell c.gap-index.result c.args.puts.now c.requires c.gap-index.ensures (λ d within same.
    omega (arith, within, c.if-index-puts.true))))

pub returns-then-put-cell : goal.returns-then-put-cell
returns-then-put-cell c =
    sym (value_nowhere c.args.cell c.args.puts.now (other_cells c.args.cell c.gap-index.result c.args.puts.now c.requires c.gap-index.ensures (λ d within same.
    c.if-put-cell.true (ap (λ (p : Put). p.cell) (get_or_default c.args.puts.now c.gap-index.result (record { cell = 0; value = 0 }) d within) ∙ same))))

pub returns : goal.returns
returns c =
    sym (value_there c.args.cell c.gap-index.result c.args.puts.now (record { cell = 0; value = 0 }) c.gap-index.ensures (omega (arith, c.if-index-puts.false)) c.if-put-cell.false)
