use Rattle.std.proofs.Common.{◌≡◌, map, take}
use Rattle.recovery_coord.specs.Held.{party_of}
use Rattle.recovery_coord.proofs.parties.copy_parties.Given as goal

abbrev pub invariant-loop-registration : goal.invariant-loop-registration
invariant-loop-registration l =
    l.parties.items ≡ map (party_of l.first l.commits l.forgets) (take l.registration-index l.registrations)
