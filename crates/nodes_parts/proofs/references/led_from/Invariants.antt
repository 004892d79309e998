use Rattle.std.proofs.Common.{◌≡◌, drop, map}
use Rattle.nodes_parts.specs.Referring.{entry_of, referred_in}
use Rattle.nodes_parts.proofs.references.led_from.Given as goal

-- what stands before leads elsewhere
abbrev pub invariant-loop-at : goal.invariant-loop-at
invariant-loop-at l = referred_in (map entry_of (drop l.at l.entries)) l.to ≡ referred_in (map entry_of (drop l.place l.entries)) l.to
