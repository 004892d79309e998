use Rattle.std.proofs.Common.{◌≡◌, ◌+◌, ◌≤◌, ◌++◌, length, map, vec_len, vec_capacity}
use Rattle.std.specs.Prelude.{min}
use Rattle.ots_model.specs.Limits.{reference_limit}
use Rattle.two_phase.specs.Parties.{party_of}
use Rattle.two_phase.specs.Stages.{longest}
use Rattle.two_phase.specs.StockInside.{AreRoomy}
use Rattle.two_phase.proofs.stock.enter.Given as goal

abbrev pub invariant-loop-registration : goal.invariant-loop-registration
invariant-loop-registration l = record {
  entered : l.parties.items ++ map party_of l.registration-iterator ≡ l.initial.parties.items ++ map party_of l.initial.registration-iterator;
  taken : vec_len l.blanks + length l.initial.registration-iterator ≡ vec_len l.initial.blanks + length l.registration-iterator;
  room : vec_len l.parties + length l.registration-iterator ≡ vec_len l.initial.parties + length l.initial.registration-iterator;
  capacity : vec_capacity l.parties ≡ vec_capacity l.initial.parties;
  shorter : longest l.registration-iterator ≤ longest l.initial.registration-iterator;
  roomy : AreRoomy (min (longest l.initial.registration-iterator) reference_limit) l.blanks.items;
}
