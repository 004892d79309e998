use Rattle.std.proofs.Common.{ap, sym, subst}
use Rattle.outward_calls.specs.Moment.{moment}
use Rattle.ots_server.specs.Site.{site}
use Rattle.ots_server.specs.StepsInside.{IsToldBy}
use Rattle.ots_server.proofs.Told.{goes_next_told}
use Rattle.ots_server.proofs.telling.tell_next.Goals as goal

pub returns-clause-told : goal.returns-clause-told
returns-clause-told g c =
    let s = site g.D.Disk.wants_memory g.D.Disk.told g.D.Disk.faults c.args.desk.now.room.now in
    let told = subst (λ words. IsToldBy s c.args.desk.now.now c.in-Some.word c.send-heard.result c.in_ok-finished.finished words c.tell.new.out.words)
    (ap (λ o. o.words) c.take.ensures.rest) c.in_ok-finished.ensures in
    goes_next_told s c.args.desk.now.now c.args.out.now.words c.in-Some.word
    (moment (g.L.Link.faults c.args.link.now) (g.L.Link.exchanged c.args.link.now))
    (moment (g.L.Link.faults c.send-heard.new.link) (g.L.Link.exchanged c.send-heard.new.link))
    c.send-heard.result c.is_want-starved.result c.in_ok-finished.finished c.tell.new.out.words (sym c.in-Some.ensures.first)
    c.at.result.now c.service.result c.at.ensures c.service.ensures
    c.send-heard.ensures.exchange c.send-heard.ensures.lost c.send-heard.ensures.later c.is_want-starved.ensures told
