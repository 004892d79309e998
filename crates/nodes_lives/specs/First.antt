-- What had happened in a call before its record was written (our profile).
use Rattle.std.specs.Prelude.{ℕ, Bool, true, false, List, [], length, position, take, unwrap_or, Option, Some, None, Result, Ok, Err}
use Rattle.coordinator.specs.Family.{Family}
use Rattle.coordinator.specs.declared.effect.Effect.{Effect}
use Rattle.coordinator.specs.declared.effect.Effect.TheVariants as effects
use Rattle.coordinator.specs.declared.event.Act.{Act}
use Rattle.coordinator.specs.declared.node.NodeFault.{NodeFault}
use Rattle.coordinator.specs.declared.said.StepAnswer.{StepAnswer}
use Rattle.nodes_world.specs.Nodes.{heard_effects}

abbrev pub is_done : Effect → Bool
is_done effects.Done = true
is_done _ = false

abbrev pub is_decided : Effect → Bool
is_decided (effects.Decided fixed) = true
is_decided _ = false

-- the place of the Done, or else that of the outcome
abbrev pub recorded_at : List Effect → ℕ
recorded_at some = unwrap_or (position is_done some) (unwrap_or (position is_decided some) (length some))

-- all that is told before it
abbrev pub before_record : List Effect → List Effect
before_record some = take (recorded_at some) some

-- of what a call was answered
abbrev pub told_before : Result StepAnswer NodeFault → List Effect
told_before (Ok a) = before_record a.effects
told_before (Err fault) = []

-- what the family that a call is for had heard
abbrev pub heard_by : Option Family → Act → List Effect
heard_by (Some f) act = heard_effects act f
heard_by None act = []
