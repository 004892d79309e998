use Rattle.std.proofs.Common.{◌≡◌, ◌&&◌, find, drop}
use Rattle.std.specs.Str.{bytes_eq}
use Rattle.ots_calls.specs.declared.operation.Operation.{Operation}
use Rattle.ots_calls.specs.Table.{serves, word_of}
use Rattle.ots_calls.proofs.table.named_among.Given as goal

abbrev pub invariant-loop-one : goal.invariant-loop-one
invariant-loop-one l =
    find (λ (one : Operation). serves l.kind one && bytes_eq l.word (word_of one)) (drop l.one-index l.some)
    ≡ find (λ (one : Operation). serves l.kind one && bytes_eq l.word (word_of one)) l.some
