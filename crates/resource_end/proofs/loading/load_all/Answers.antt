use Rattle.std.proofs.Common.{◌≡◌, ◌∙◌, suc, ◌+◌, take, ap, sym, subst, arith}
use Rattle.std.specs.Prelude.{IfSome}
use Rattle.decision_journal.specs.Layout.{Fits}
use Rattle.decision_journal.specs.declared.journal.Standing.{Standing}
use Rattle.resource_end.specs.Recall.{recalls, recalls_all}
use Rattle.resource_end.specs.Inside.{AreRecorded, AreWritable, IsRecorded, IsWritable, contents_of, no_contents, numbered, with_contents}
use Rattle.resource_end.proofs.Claims.{if_ok}
use Rattle.resource_end.proofs.Told.{recalls_more, recalls_whole}
use Rattle.resource_end.proofs.loading.load_all.Goals as goal

pub loop-each-init : goal.loop-each-init
loop-each-init c = (
  (λ e i. with_contents (contents_of (sym c.new.ensures i) (sym c.new-2.ensures i)) e),
  (λ id. subst (λ rs. IfSome (numbered id rs) (IsRecorded c.args.standing.now id)) (sym c.new.ensures) tt),
  (λ id. subst (λ rs. IfSome (numbered id rs) (λ r. IsWritable 0 r.state r)) (sym c.new.ensures) tt),
)

pub loop-each-preserved : goal.loop-each-preserved
loop-each-preserved c =
    let one : c.loop-each.each-index + 1 ≡ suc c.loop-each.each-index = omega arith in (
      (λ e. ap (λ n. recalls_all (take n c.args.standing.now) (with_contents no_contents e)) one
          ∙ recalls_more c.args.standing.now c.loop-each.each-index c.each-item.result c.loop-each-test.true (with_contents no_contents e)
          ∙ (λ i. recalls (sym c.each-item.is i) (c.loop-each.invariant.0 e i))
          ∙ c.in-Ok.ensures.told e),
      c.in-Ok.ensures.recorded,
      c.in-Ok.ensures.writable,
    )

pub recall-requires : goal.recall-requires
recall-requires c = record {
  order = c.requires.order;
  among = (c.loop-each.each-index, c.loop-each-test.true, sym c.each-item.is);
  fits = subst (λ (s : Standing). Fits s.item) (sym c.each-item.is) (c.requires.fit c.loop-each.each-index c.each-item.result c.loop-each-test.true);
  recorded = c.loop-each.invariant.1;
  writable = c.loop-each.invariant.2;
}

pub returns-clause-contents : goal.returns-clause-contents
returns-clause-contents c =
    if_ok c.of.result _ _ c.of.ensures (λ x is e.
    ap (λ xs. recalls_all xs (with_contents no_contents e)) (sym (recalls_whole c.args.standing.now c.loop-each.each-index c.loop-each-test.false))
    ∙ c.loop-each.invariant.0 e ∙ ap (λ s. with_contents s e) (sym is))

pub returns-clause-recorded : goal.returns-clause-recorded
returns-clause-recorded c = if_ok c.of.result _ _ c.of.ensures (λ x is. subst (λ s. AreRecorded c.args.standing.now s.resources) (sym is) c.loop-each.invariant.1)

pub returns-clause-writable : goal.returns-clause-writable
returns-clause-writable c = if_ok c.of.result _ _ c.of.ensures (λ x is. subst (λ s. AreWritable 0 s.resources) (sym is) c.loop-each.invariant.2)
