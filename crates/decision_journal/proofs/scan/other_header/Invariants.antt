use Rattle.std.proofs.Common.{◌≡◌, ℕ, ◌<◌, get_or}
use Rattle.decision_journal.specs.Journal.{header}
use Rattle.decision_journal.proofs.scan.other_header.Given as goal

abbrev pub invariant-loop-place : goal.invariant-loop-place
invariant-loop-place l = (k : ℕ) → k < l.place → get_or l.octets k 0 ≡ get_or (header l.service) k 0
