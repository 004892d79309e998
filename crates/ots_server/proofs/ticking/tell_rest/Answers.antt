use Rattle.std.proofs.Common.{sym, subst, arith}
use Rattle.ots_server.specs.StepsInside.{HasGoneNext, HaveGoneSo}
use Rattle.ots_server.specs.declared.telling.Told.{Told}
use Rattle.ots_server.specs.Site.{site}
use Rattle.outward_calls.specs.Moment.{moment}
use Rattle.ots_server.proofs.Told.{goes_first, goes_next, some_of}
use Rattle.ots_server.proofs.ticking.tell_rest.Goals as goal

pub loop-init : goal.loop-init
loop-init g c =
    let s = site g.D.Disk.wants_memory g.D.Disk.told g.D.Disk.faults c.args.desk.now.room.now in
    let before = moment (g.L.Link.faults c.args.link.now) (g.L.Link.exchanged c.args.link.now) in
    record { gone = goes_first s c.args.desk.now.now c.args.out.now.words before; later = omega (arith) }

pub loop-preserved : goal.loop-preserved
loop-preserved g c =
    let s = site g.D.Disk.wants_memory g.D.Disk.told g.D.Disk.faults c.args.desk.now.room.now in
    let before = moment (g.L.Link.faults c.args.link.now) (g.L.Link.exchanged c.args.link.now) in
    let midway = moment (g.L.Link.faults c.loop.link) (g.L.Link.exchanged c.loop.link) in
    let after = moment (g.L.Link.faults c.tell_next.new.link) (g.L.Link.exchanged c.tell_next.new.link) in
    let gone = some_of (λ (told : Told). HasGoneNext s c.args.desk.now.now c.loop.out.words midway told.starved told.finished c.tell_next.new.out.words after)
    c.in_ok-told.field-0 c.in-Some-2.told c.in-Some-2.is c.in_ok-told.ensures.told in
    let rest = goes_next s c.args.desk.now.now c.args.out.now.words before c.loop.starved c.in-Some-2.told.starved c.loop.out.words c.tell_next.new.out.words
    c.in-Some-2.told.finished midway after c.loop.invariant.gone gone in
    record {
      gone = subst (λ b. HaveGoneSo s c.args.desk.now.now c.args.out.now.words before b c.tell_next.new.out.words after) (sym c.is_starved-starved.ensures) rest;
      later = omega (arith, c.loop.invariant.later, c.tell_next.ensures.later);
    }
