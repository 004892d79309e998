use Rattle.std.proofs.Common.{◌≡◌, ◌+◌, All, length}
use Rattle.std.specs.Arc.{arc_value}
use Rattle.ots_server.proofs.servant.servants_of.Given as goal

abbrev pub invariant-loop-number : goal.invariant-loop-number
invariant-loop-number g l = record {
  made : length l.servants.items ≡ l.number;
  passes : length l.passes.items + l.number ≡ length l.fn.passes.items;
  links : length l.links.items + l.number ≡ length l.fn.links.items;
  clocks : length l.clocks.items + l.number ≡ length l.fn.clocks.items;
  rooms : All (λ servant. arc_value servant.room ≡ arc_value l.fn.room) l.servants.items;
}
