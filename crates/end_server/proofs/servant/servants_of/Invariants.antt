use Rattle.std.proofs.Common.{◌≡◌, ◌+◌, All, length}
use Rattle.end_room.specs.Sharing.{place_of}
use Rattle.end_server.proofs.servant.servants_of.Given as goal

abbrev pub invariant-loop-number : goal.invariant-loop-number
invariant-loop-number g l = record {
  made : length l.servants.items ≡ l.number;
  links : length l.links.items + l.number ≡ length l.fn.links.items;
  clocks : length l.clocks.items + l.number ≡ length l.fn.clocks.items;
  places : All (λ servant. place_of servant.ends ≡ place_of l.fn.shared) l.servants.items;
}
