use Rattle.std.proofs.Common.{◌≡◌, ◌≤◌, ℕ, List, length, None}
use Rattle.giop_streams.specs.declared.framed.Framed.{Framed}
use Rattle.giop_frames.specs.declared.layout.Version.{Version}
use Rattle.giop_streams.specs.Held.{Holds}
use Rattle.giop_streams.proofs.stream.Stream.next_framed.Given as goal

abbrev pub invariant-loop-self : goal.invariant-loop-self
invariant-loop-self l = record {
  accepts : l.self.refused ≡ None;
  goes_on : (versions : List Version) (octets : List ℕ) (messages : List Framed) → Holds versions octets messages l.fn.self → Holds versions octets messages l.self;
  shorter : length l.self.rest ≤ length l.fn.self.rest;
  kept : l.self.kept ≤ l.fn.self.kept;
  memory : l.self.memory ≡ l.fn.self.memory;
}

abbrev pub decreases-loop-self : goal.decreases-loop-self
decreases-loop-self l = length l.self.rest
