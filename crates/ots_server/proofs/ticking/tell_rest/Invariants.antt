use Rattle.std.proofs.Common.{◌≤◌}
use Rattle.ots_server.specs.Site.{site}
use Rattle.outward_calls.specs.Moment.{moment}
use Rattle.ots_server.specs.StepsInside.{HaveGoneSo}
use Rattle.ots_server.proofs.ticking.tell_rest.Given as goal

abbrev pub invariant-loop : goal.invariant-loop
invariant-loop g l = record {
  gone : HaveGoneSo (site g.D.Disk.wants_memory g.D.Disk.told g.D.Disk.faults l.fn.desk.room.now) l.fn.desk.now
      l.fn.out.words (moment (g.L.Link.faults l.fn.link) (g.L.Link.exchanged l.fn.link)) l.starved
      l.out.words (moment (g.L.Link.faults l.link) (g.L.Link.exchanged l.link));
  later : g.L.Link.faults l.fn.link ≤ g.L.Link.faults l.link;
}
