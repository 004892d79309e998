use Rattle.std.proofs.Common.{◌≤◌}
use Rattle.std.specs.Prelude.{IfSome}
use Rattle.ots_server.specs.Site.{site}
use Rattle.ots_server.specs.StepsInside.{AreTold}
use Rattle.ots_sessions.specs.Replies.{IsWritable}
use Rattle.outward_calls.specs.Moment.{moment}
use Rattle.ots_server.proofs.stepping.tell_all.Given as goal

abbrev pub invariant-loop : goal.invariant-loop
invariant-loop g l = record {
  told : AreTold (site g.D.Disk.wants_memory g.D.Disk.told g.D.Disk.faults l.fn.desk.room.now) l.fn.desk.now l.fn.called l.fn.position
      l.fn.out.words (moment (g.L.Link.faults l.fn.link) (g.L.Link.exchanged l.fn.link)) l.fn.first l.ending.starved l.ending.answer
      l.out.words (moment (g.L.Link.faults l.link) (g.L.Link.exchanged l.link));
  later : g.L.Link.faults l.fn.link ≤ g.L.Link.faults l.link;
  short : IfSome l.ending.answer (λ answer. IsWritable answer);
}
