use Rattle.std.proofs.Common.{◌≡◌, take}
use Rattle.recovery_coord.specs.Waiting.{waiting_of}
use Rattle.recovery_coord.proofs.waiting.waiting_of.Given as goal

abbrev pub invariant-loop-party : goal.invariant-loop-party
invariant-loop-party l = l.waiting ≡ waiting_of (take l.party-index l.parties)
