use Rattle.std.proofs.Common.{◌≡◌, ◌+◌, ◌++◌, ◌≤◌, length, take, map, vec_len, vec_capacity}
use Rattle.std.specs.List.{filter}
use Rattle.two_phase.specs.Parties.{is_owed}
use Rattle.two_phase.specs.declared.party.Party.{Party}
use Rattle.two_phase.proofs.parties.add_owed_numbers.Given as goal

abbrev pub invariant-loop-party : goal.invariant-loop-party
invariant-loop-party l = record {
  so_far : l.into.items ≡ l.initial.into.items ++ map (λ (p : Party). p.index) (filter (is_owed l.stage) (take l.party-index l.parties));
  room : vec_len l.into + length l.parties ≤ vec_capacity l.into + l.party-index;
  capacity : vec_capacity l.into ≡ vec_capacity l.initial.into;
}
