use Rattle.std.proofs.Common.{◌≡◌, List, ℕ, Result, Ok, Err, OnOk, OnErr, IfErr}
use Rattle.nodes_world.specs.Lives.{last_lines}
use Rattle.nodes_world.specs.World.{World}
use Rattle.nodes_state.specs.Telling.{Tells, TellsPart}
use Rattle.ots_program.specs.declared.player.Stop.{Stop}
use Rattle.ots_program.specs.declared.player.Stop.TheVariants as stops
use Rattle.ots_program.specs.PlayingInside.{Ends, Passes, StopsAt}
use Rattle.ots_program.specs.Replay.{Replay, completed}
use Rattle.ots_program.proofs.Turned.{Ends-told, StopsAt-told}
use Rattle.ots_program.proofs.player.Player.finish.Goals as goal

ends : (result : Result (Unit {0}) Stop) (r : Replay) (w : World) (before mid after : List ℕ) → Passes r (completed w) before mid → OnOk result (Tells (last_lines w) mid after)
    → OnOk result (Ends r before after)
ends (Ok done) r w before mid after passes told = Ends-told r w before mid after passes told
ends (Err stop) r w before mid after passes told = tt

stopped : (result : Result (Unit {0}) Stop) (r : Replay) (w : World) (before mid after : List ℕ) → Passes r (completed w) before mid → OnErr result (TellsPart (last_lines w) mid after)
    → IfErr result (λ stop. stop ≡ stops.Memory) → IfErr result (λ stop. StopsAt stop r before after)
stopped (Ok done) r w before mid after passes told memory = tt
stopped (Err stop) r w before mid after passes told memory = rw memory (StopsAt-told r w before mid after passes told)

-- The journals were told, or memory ran out.
pub returns-clause-ends : goal.returns-clause-ends
returns-clause-ends c = ends c.tell_journals-told.result _ _ _ _ _ c.in_default.ensures.passes c.tell_journals-told.ensures.told

pub returns-clause-stops : goal.returns-clause-stops
returns-clause-stops c = stopped c.tell_journals-told.result _ _ _ _ _ c.in_default.ensures.passes c.tell_journals-told.ensures.part c.tell_journals-told.ensures.memory
