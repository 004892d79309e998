use Rattle.std.proofs.Common.{◌≡◌, ◌≤◌}
use Rattle.outward_calls.specs.Moment.{moment}
use Rattle.end_server.specs.Serving.{side}
use Rattle.end_server.specs.Ticking.{HaveAskedSo}
use Rattle.end_server.proofs.ticking.ask_all.Given as goal

abbrev pub invariant-loop : goal.invariant-loop
invariant-loop g l = record {
  asked : HaveAskedSo g.E.Ends.does (g.E.Ends.place l.fn.ends) l.fn.out.words
      (side l.fn.ends (moment (g.L.Link.faults l.fn.link) (g.L.Link.exchanged l.fn.link))) l.starved
      l.out.words (side l.ends (moment (g.L.Link.faults l.link) (g.L.Link.exchanged l.link)));
  stays : g.E.Ends.place l.ends ≡ g.E.Ends.place l.fn.ends;
  later : g.L.Link.faults l.fn.link ≤ g.L.Link.faults l.link;
}
