use Rattle.std.proofs.Common.{◌∙◌, List, ap, sym, subst, arith}
use Rattle.std.proofs.lemmas.List.{get_or_default}
use Rattle.decision_journal.specs.declared.record.Put.{Put}
use Rattle.resource_end.specs.Inside.{IsGap}
use Rattle.resource_end.proofs.Gaps.{insert_at, set_at}
use Rattle.resource_end.proofs.puts.set_put.Goals as goal
use Rattle.resource_end.proofs.puts.set_put.Goals.{else-index-len-via-then-index-len+else-index-put, else-index-len-via-else-index-len}

pub returns-then-index-put-clause-ok : goal.returns-then-index-put-clause-ok
returns-then-index-put-clause-ok c =
    let gap = subst (λ (ps : List Put). IsGap c.args.put.cell c.gap-index.result ps) c.as_slice.ensures.value c.gap-index.ensures in
    sym (set_at c.args.put c.gap-index.result c.args.puts.now.items c.index.result.now gap (omega (arith, c.if-index-len.true, c.len.ensures))
    (ap (λ (p : Put). p.cell) (sym c.index.ensures) ∙ c.if-index-put.true))

pub returns-clause-ok : goal.returns-clause-ok
returns-clause-ok c =
    let gap = subst (λ (ps : List Put). IsGap c.args.put.cell c.gap-index.result ps) c.as_slice.ensures.value c.gap-index.ensures in
    c.in_ok-insert.ensures.items
    ∙ sym (insert_at c.args.put c.gap-index.result c.args.puts.now.items gap (λ d lt same. elim c.else-index-len.branch [
      | else-index-len-via-then-index-len+else-index-put w ↦
          w.if-index-put.false (ap (λ (p : Put). p.cell) (w.index.ensures ∙ get_or_default c.args.puts.now.items c.gap-index.result w.index.result.now d lt) ∙ same)
      | else-index-len-via-else-index-len w ↦ absurd (omega (arith, w.if-index-len.false, lt, c.len.ensures))
    ]))
