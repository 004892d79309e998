use Rattle.std.proofs.Common.{◌≡◌, ◌-◌}
use Rattle.decision_journal.specs.Reading.{list_at, put_at}
use Rattle.decision_journal.proofs.Loop.{with_front}
use Rattle.decision_journal.proofs.reading.put_list.Given as goal

abbrev pub invariant-loop : goal.invariant-loop
invariant-loop l = with_front put_at l.items.items (list_at put_at (l.count - l.counter) l.rest) ≡ list_at put_at l.count l.octets
