use Rattle.std.proofs.Common.{◌≡◌, ℕ, List, ◌++◌, length}
use Rattle.ots_program.specs.PlayingInside.{IsFed}
use Rattle.ots_program.proofs.player.Player.feed.Given as goal

abbrev pub invariant-loop-end : goal.invariant-loop-end
invariant-loop-end l = (fed : List ℕ) × (l.piece ≡ fed ++ l.rest) × IsFed l.initial.self l.self fed

abbrev pub decreases-loop-end : goal.decreases-loop-end
decreases-loop-end l = length l.rest
