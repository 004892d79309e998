use Rattle.std.proofs.Common.{sym, subst, arith}
use Rattle.ots_server.specs.StepsInside.{AreTold, HasGoneNext}
use Rattle.ots_server.specs.declared.telling.Told.{Told}
use Rattle.ots_server.specs.Site.{site}
use Rattle.outward_calls.specs.Moment.{moment}
use Rattle.ots_server.proofs.Told.{some_of, told_first, told_next}
use Rattle.ots_server.proofs.stepping.tell_all.Goals as goal

pub loop-init : goal.loop-init
loop-init g c =
    let s = site g.D.Disk.wants_memory g.D.Disk.told g.D.Disk.faults c.args.desk.now.room.now in
    let before = moment (g.L.Link.faults c.args.link.now) (g.L.Link.exchanged c.args.link.now) in
    record {
      told = told_first s c.args.desk.now.now c.args.out.now.words before c.args.called.now c.args.position c.args.first;
      later = omega (arith);
      short = c.requires.short;
    }

pub loop-preserved : goal.loop-preserved
loop-preserved g c =
    let s = site g.D.Disk.wants_memory g.D.Disk.told g.D.Disk.faults c.args.desk.now.room.now in
    let before = moment (g.L.Link.faults c.args.link.now) (g.L.Link.exchanged c.args.link.now) in
    let midway = moment (g.L.Link.faults c.loop.link) (g.L.Link.exchanged c.loop.link) in
    let after = moment (g.L.Link.faults c.tell_next.new.link) (g.L.Link.exchanged c.tell_next.new.link) in
    let gone = some_of (λ (told : Told). HasGoneNext s c.args.desk.now.now c.loop.out.words midway told.starved told.finished c.tell_next.new.out.words after)
    c.in_ok-told.field-0 c.in-Some-2.told c.in-Some-2.is c.in_ok-told.ensures.told in
    let told = told_next s c.args.desk.now.now c.args.out.now.words before c.args.called.now c.args.position c.args.first c.loop.ending.answer
    c.in_ok-answer_or.field-0 c.loop.ending.starved c.in-Some-2.told.starved c.loop.out.words c.tell_next.new.out.words c.in-Some-2.told.finished midway after
    c.loop.invariant.told gone c.in_ok-answer_or.ensures.answer in
    record {
      told = subst (λ b. AreTold s c.args.desk.now.now c.args.called.now c.args.position c.args.out.now.words before c.args.first b
          c.in_ok-answer_or.field-0 c.tell_next.new.out.words after) (sym c.is_starved.ensures) told;
      later = omega (arith, c.loop.invariant.later, c.tell_next.ensures.later);
      short = c.in_ok-answer_or.ensures.short;
    }
