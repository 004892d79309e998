use Rattle.std.proofs.Common.{◌≡◌, ◌-◌}
use Rattle.cdr_values.specs.Sequence.{each_at, after_front}
use Rattle.ots_context.specs.Reading.{identity_at}
use Rattle.ots_context.proofs.decoding.read_each.Given as goal

abbrev pub invariant-loop : goal.invariant-loop
invariant-loop l =
    after_front l.parents.items (each_at identity_at (l.count - l.counter) l.reader) ≡ each_at identity_at l.count l.fn.reader
