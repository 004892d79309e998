use Rattle.std.proofs.Common.{◌≡◌, ◌≤◌, ◌+◌, ◌-◌, ◌++◌, length, map, drop}
use Rattle.std.specs.Prelude.{vec_len, vec_capacity}
use Rattle.coordinator.specs.Step.{said_later}
use Rattle.family_rules.specs.Changes.{finished_of}
use Rattle.family_rules.proofs.draft.put_later.Given as goal

-- what is left comes behind, and there is room for it
abbrev pub invariant-loop-told : goal.invariant-loop-told
invariant-loop-told l = record {
  same : l.into.items ++ said_later l.position (map finished_of (drop l.told-index l.finished))
      ≡ l.initial.into.items ++ said_later l.position (map finished_of l.finished);
  room : vec_len l.into + (length l.finished - l.told-index) ≤ vec_capacity l.into;
}
