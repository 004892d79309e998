use Rattle.std.proofs.Common.{◌≡◌, ◌++◌, map, take, drop}
use Rattle.recovery_coord.specs.Hearing.{party_after}
use Rattle.recovery_coord.specs.Waiting.{waiting_of}
use Rattle.recovery_coord.proofs.parties.hear_all.Given as goal

abbrev pub invariant-loop-party : goal.invariant-loop-party
invariant-loop-party l = record {
  after : l.parties ≡ map (party_after l.serial l.h) (take l.party-index l.initial.parties) ++ drop l.party-index l.initial.parties;
  waiting : l.waiting ≡ waiting_of (map (party_after l.serial l.h) (take l.party-index l.initial.parties));
}
