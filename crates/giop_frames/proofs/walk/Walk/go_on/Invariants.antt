use Rattle.std.proofs.Common.{◌≡◌, ◌≤◌}
use Rattle.giop_frames.specs.Walk.{IsWalked, standing, walk_left}
use Rattle.giop_frames.proofs.walk.Walk.go_on.Given as goal

abbrev pub invariant-fields : goal.invariant-fields
invariant-fields l = record {
  walked : IsWalked l.fn.header l.fn.content l.self;
  forward : l.fn.self.place ≤ l.self.place;
  stands : l.reader ≡ standing l.fn.header.order l.fn.content l.self.place;
}

abbrev pub decreases-fields : goal.decreases-fields
decreases-fields l = walk_left l.self.step l.self.fields.now
