use Rattle.std.proofs.Common.{◌≡◌}
use Rattle.resource_end.specs.Inside.{asks_of}
use Rattle.resource_end.proofs.Asked.{Asked, asks_among}
use Rattle.resource_end.proofs.kept.Resources.asks.Given as goal

abbrev pub invariant-loop-id : goal.invariant-loop-id
invariant-loop-id l = Asked l.initial.out.words l.out.words (asks_of l.self) (asks_among l.self l.id-iterator) × (l.out.room ≡ l.initial.out.room)
