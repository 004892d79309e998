use Rattle.std.proofs.Common.{ℕ, ◌-◌, length, drop, false, true, refl, subst, ◌∙◌, arith, length-drop, length-take}
use Rattle.ots_outside.specs.Asked.{AskRead}
use Rattle.std.proofs.Common.{rules}
use Rattle.std.proofs.lemmas.Slice.{overwrites}
use Rattle.decision_journal.proofs.Asking.{read_all, read_one, read_refused}
use Rattle.decision_journal.proofs.Pieces.{piece_read, some_step}
use Rattle.decision_journal.proofs.disk_calls.read_pieces.Goals as goal

pub loop-place-preserved : goal.loop-place-preserved
loop-place-preserved g c =
    let count = c.min-end.result - c.loop-place.place in
    record {
      within = search (rules, overwrites);
      untouched = c.read_at.ensures.untouched ∙ c.loop-place.invariant.untouched;
      front = some_step (g.D.Disk.told c.args.disk.now) (g.D.Disk.told c.loop-place.disk) _ _ _ _ c.loop-place.invariant.untouched c.loop-place.invariant.front c.requires c.in-Ok.ensures.octets
          (λ s front long read. piece_read c.loop-place.octets s.reads c.read_at.new.into c.loop-place.place c.min-end.result _ (omega arith) (omega arith) (omega (arith, long)) front refl read);
      asked = read_one g.D.Disk.asked c.loop-place.place count c.min-end.result (length c.args.octets.now) c.args.disk.now c.loop-place.disk c.read_at.new.self c.loop-place.invariant.asked (omega (arith, c.loop-place-test.true, c.loop-place.auto.octets)) (omega (arith, c.min-end.ensures, c.loop-place.auto.octets)) (omega (arith, c.min-end.ensures, c.loop-place-test.true)) (subst (λ (n : ℕ). g.D.Disk.asked c.loop-place.disk (AskRead c.loop-place.place n) true c.read_at.new.self) {y = count} (omega (arith, length-take count (drop c.loop-place.place c.loop-place.octets), length-drop c.loop-place.place c.loop-place.octets, c.min-end.ensures)) c.in-Ok.ensures.asked);
      calm = c.in-Ok.ensures.calm ∙ c.loop-place.invariant.calm;
    }

pub returns-in-Err-clause-asked : goal.returns-in-Err-clause-asked
returns-in-Err-clause-asked g c =
    let count = c.min-end.result - c.loop-place.place in
    read_refused g.D.Disk.asked c.loop-place.place count (length c.args.octets.now) c.args.disk.now c.loop-place.disk c.read_at.new.self c.loop-place.invariant.asked (omega (arith, c.loop-place-test.true, c.loop-place.auto.octets)) (omega (arith, c.min-end.ensures, c.loop-place.auto.octets)) (subst (λ (n : ℕ). g.D.Disk.asked c.loop-place.disk (AskRead c.loop-place.place n) false c.read_at.new.self) {y = count} (omega (arith, length-take count (drop c.loop-place.place c.loop-place.octets), length-drop c.loop-place.place c.loop-place.octets, c.min-end.ensures)) c.in-Err.ensures.asked)

pub returns-clause-asked : goal.returns-clause-asked
returns-clause-asked g c = read_all g.D.Disk.asked c.loop-place.place (length c.args.octets.now) c.args.disk.now c.loop-place.disk c.loop-place.invariant.asked (omega (arith, c.loop-place.invariant.within, c.loop-place-test.false, c.loop-place.auto.octets))
