use Rattle.std.proofs.Common.{◌≡◌, ◌-◌, ◌++◌, ℕ, List, length, take, drop, refl, ap, sym, ◌∙◌, arith, length-append, length-drop}
use Rattle.std.proofs.lemmas.List.{take_all}
use Rattle.decision_journal.specs.Index.{left}
use Rattle.decision_journal.specs.Journal.{header}
use Rattle.decision_journal.specs.Layout.{record_octets}
use Rattle.decision_journal.proofs.Scans.{starts, goes_on, behind_first, rest_short}
use Rattle.decision_journal.proofs.Below.{later, none_before}
use Rattle.decision_journal.proofs.scan.scan.Goals as goal

pub loop-rest-init : goal.loop-rest-init
loop-rest-init c =
    let rest : take (length c.args.octets.now - 16) (drop 16 c.args.octets.now) ≡ drop 16 c.args.octets.now = take_all _ _ (omega (arith, length-drop 16 c.args.octets.now)) in
    record {
      scanning = starts c.args.service c.args.octets.now _ (left c.args.index.now.found) (c.requires.header ∙ ap (λ (l : List ℕ). header c.args.service ++ l) (sym rest)) (omega (arith, ap length rest, length-drop 16 c.args.octets.now, c.requires.long)) (ap left c.requires.new);
      before = none_before (length c.args.octets.now - length (take (length c.args.octets.now - 16) (drop 16 c.args.octets.now))) c.args.index.now.found c.requires.new;
    }

pub loop-rest-preserved : goal.loop-rest-preserved
loop-rest-preserved c =
    let scanning = c.loop-rest.invariant.scanning in
    let is = behind_first c.loop-rest.rest.now (length c.loop-rest.rest.now - 1) scanning.more c.loop-rest-test.true refl in
    let short = rest_short c.args.service c.args.octets.now (left c.loop-rest.index.found) c.loop-rest.rest.now scanning in
    record {
      scanning = goes_on c.args.service c.args.octets.now (left c.loop-rest.index.found) c.loop-rest.rest.now scanning _ c.in-Ok.after.now (left c.step.new.index.found) is c.in-Ok.ensures.next;
      before = later _ _ c.step.new.index.found.standing
          (omega (arith, short, ap length is, ap length c.in-Ok.ensures.next.octets_are, length-append (drop 1 (record_octets c.in-Ok.ensures.next.item)) c.in-Ok.after.now))
          c.in-Ok.ensures.before;
    }

pub step-requires-clause-behind : goal.step-requires-clause-behind
step-requires-clause-behind c = c.loop-rest.invariant.before
