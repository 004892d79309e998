use Rattle.std.proofs.Common.{◌≡◌, ◌++◌, take}
use Rattle.std.specs.List.{filter_map}
use Rattle.recovery_coord.specs.Telling.{word_to}
use Rattle.recovery_coord.proofs.telling.Teller.tell.Given as goal

abbrev pub invariant-loop-party : goal.invariant-loop-party
invariant-loop-party l = record {
  so_far : l.out.words ≡ l.initial.out.words ++ filter_map (word_to l.self.life l.self.place l.self.decided) (take l.party-index l.parties);
  room : l.out.room ≡ l.initial.out.room;
}
