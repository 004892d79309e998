use Rattle.std.proofs.Common.{◌≡◌, ◌++◌, take, None}
use Rattle.giop_frames.specs.HeaderWalk.{IsSound, taken}
use Rattle.giop_frames.proofs.header_walk.HeaderWalk.go_on.Given as goal

abbrev pub invariant-loop-octet : goal.invariant-loop-octet
invariant-loop-octet l = record {
  sound : IsSound l.versions l.self;
  taken_are : taken l.self ≡ taken l.fn.self ++ take l.octet-index l.octets;
  partial : l.self.header ≡ None;
}
