use Rattle.ots_server.specs.Site.{site}
use Rattle.outward_calls.specs.Moment.{moment}
use Rattle.ots_server.proofs.Told.{ends_answered}
use Rattle.ots_server.proofs.stepping.settle.Goals as goal

pub returns-in-Some-clause-answer : goal.returns-in-Some-clause-answer
returns-in-Some-clause-answer g c =
    let s = site g.D.Disk.wants_memory g.D.Disk.told g.D.Disk.faults c.args.desk.now.room.now in
    let before = moment (g.L.Link.faults c.args.link.now) (g.L.Link.exchanged c.args.link.now) in
    let after = moment (g.L.Link.faults c.tell_all.new.link) (g.L.Link.exchanged c.tell_all.new.link) in
    ends_answered s c.args.desk.now.now c.args.out.now.words before c.args.called.now c.args.step.now c.args.context after
    c.in_ok-first.first c.in_ok-ending.ending.starved c.in_ok-ending.ending.answer c.in-Some.answer c.in_ok-first.ensures.answer c.if-starved.false c.in-Some.is
    c.requires.later c.in_ok-ending.ensures.told
