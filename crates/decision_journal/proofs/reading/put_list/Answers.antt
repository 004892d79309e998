use Rattle.decision_journal.specs.Reading.{list_at, put_at}
use Rattle.decision_journal.proofs.Loop.{goes_on, ends, is_done}
use Rattle.decision_journal.proofs.reading.put_list.Goals as goal

pub returns-in-Err : goal.returns-in-Err
returns-in-Err c = ends put_at c.in-Err.fault c.loop.items.items c.args.count c.loop.counter c.loop.rest.now (list_at put_at c.args.count c.args.octets.now) c.loop-test.true c.in-Err.ensures c.loop.invariant

pub loop-preserved : goal.loop-preserved
loop-preserved c =
    rw c.in_ok-push.ensures.items (goes_on put_at c.loop.items.items c.args.count c.loop.counter c.loop.rest.now c.in-Ok.value.0 c.in-Ok.value.1.now (list_at put_at c.args.count c.args.octets.now) c.loop-test.true c.in-Ok.ensures c.loop.invariant)

pub returns : goal.returns
returns c = is_done put_at c.loop.items.items c.args.count c.loop.counter c.loop.rest.now (list_at put_at c.args.count c.args.octets.now) c.loop-test.false c.loop.invariant
