use Rattle.std.proofs.Common.{◌≡◌, ◌++◌, map, take, drop}
use Rattle.std.specs.Prelude.{OnOk}
use Rattle.std.specs.List.{flat_map}
use Rattle.recovery_coord.specs.Telling.{IsMore, retold, words_of}
use Rattle.recovery_coord.proofs.telling.tell_all.Given as goal

abbrev pub invariant-loop-held : goal.invariant-loop-held
invariant-loop-held l = record {
  records_are : l.records ≡ map retold (take l.held-index l.initial.records) ++ drop l.held-index l.initial.records;
  so_far : OnOk l.told (l.out.words ≡ l.initial.out.words ++ flat_map (words_of l.life) (map retold (take l.held-index l.initial.records)));
  more : IsMore l.initial.out.words l.out.words;
  room : l.out.room ≡ l.initial.out.room;
}
