use Rattle.std.proofs.Common.{◌≡◌, ◌-◌}
use Rattle.decision_journal.specs.Reading.{list_at, registration_at}
use Rattle.decision_journal.proofs.Loop.{with_front}
use Rattle.decision_journal.proofs.reading.registration_list.Given as goal

abbrev pub invariant-loop : goal.invariant-loop
invariant-loop l = with_front registration_at l.items.items (list_at registration_at (l.count - l.counter) l.rest) ≡ list_at registration_at l.count l.octets
