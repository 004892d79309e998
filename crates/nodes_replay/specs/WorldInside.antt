-- What holds of a script's world as the code keeps it (our profile).
use Rattle.std.specs.Prelude.{◌≢◌, Option, Some, None, Result, Ok, Err}
use Rattle.ots_world.specs.declared.fault.WorldFault.{WorldFault}
use Rattle.ots_world.specs.declared.fault.WorldFault.TheVariants as faults
use Rattle.nodes_ready.specs.Ready.{IsReady}
use Rattle.nodes_state.specs.Shown.{shown}
use Rattle.nodes_state.specs.declared.state.State.{State}
use Rattle.nodes_replay.specs.Standing.{Standing}
use Rattle.nodes_replay.specs.declared.world.World.TheInside.{Inside}

-- a state stands for its world, unless it has refused for good
abbrev pub stands : State → Option WorldFault → Standing
stands s None = Ok (shown s)
stands s (Some fault) = Err fault

abbrev pub seen : Inside → Standing
seen w = stands w.state w.fault

-- while it stands, it is ready; what it answers for good isn't about names
abbrev pub Agrees : State → Option WorldFault → Type 0
Agrees s None = IsReady s
Agrees s (Some fault) = fault ≢ faults.Names

abbrev pub Keeps : Inside → Type 0
Keeps w = Agrees w.state w.fault

-- what is answered for good from a line on, by what the line is answered
abbrev pub lasting_fault : Result (Unit {0}) WorldFault → Option WorldFault
lasting_fault (Ok _) = None
lasting_fault (Err faults.Names) = None
lasting_fault (Err (faults.Limit n)) = Some (faults.Limit n)
lasting_fault (Err faults.Memory) = Some faults.Memory
