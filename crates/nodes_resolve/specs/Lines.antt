-- The deed that a line of a script is, by kinds of lines, and what is answered to it (our profile).
use Rattle.std.specs.Prelude.{◌≡◌, ◌⊎◌, ℕ, Bool, true, false, Option, Some, None, Result, Ok, Err}
use Rattle.std.specs.Option.{option_map}
use Rattle.ots_world.specs.declared.fault.WorldFault.{WorldFault}
use Rattle.ots_world.specs.declared.fault.WorldFault.TheVariants as faults
use Rattle.ots_world.specs.declared.script.Image.{Image}
use Rattle.ots_world.specs.declared.script.Image.TheVariants as images
use Rattle.ots_world.specs.declared.script.ScriptEvent.{ScriptEvent}
use Rattle.ots_world.specs.declared.script.ScriptEvent.TheVariants as events
use Rattle.coordinator.specs.declared.event.Act.TheVariants as acts
use Rattle.nodes_world.specs.declared.deed.Deed.{Deed}
use Rattle.nodes_world.specs.declared.deed.Deed.TheVariants as deeds
use Rattle.nodes_world.specs.declared.deed.Manner.TheVariants as manners
use Rattle.nodes_world.specs.Resolve.{asks_for, begins_named, calls_named, commits_named, creates_named, down_named, ends_by, if_free, node_named, puts_named, refuses_named, registers_named, relates_named, status_act}
use Rattle.nodes_world.specs.World.{World}

-- ---- what is answered

-- octets must be kept of this image
abbrev pub has_octets : Image → Bool
has_octets (images.Octets octets) = true
has_octets _ = false

-- and so for the deed of this line
abbrev pub keeps_octets : ScriptEvent → Bool
keeps_octets (events.Stop server write image) = has_octets image
keeps_octets _ = false

-- The deed is answered, or that the line is refused for its names. Where octets must be kept, memory may run out.
abbrev pub IsAnswered : Bool → Option Deed → Result Deed WorldFault → Type 0
IsAnswered keeps None result = result ≡ Err faults.Names
IsAnswered false (Some deed) result = result ≡ Ok deed
IsAnswered true (Some deed) result = (result ≡ Ok deed) ⊎ (result ≡ Err faults.Memory)

-- ---- kinds of lines

-- a line about a node that is there, but for `stop`; or that lets messages flow
abbrev pub node_line : ScriptEvent → World → Option Deed
node_line (events.Flow count) w = Some (deeds.Flow count)
node_line (events.Tick server seconds) w = option_map (λ (place : ℕ). deeds.Tick place seconds) (node_named w server)
node_line (events.Crash server) w = option_map deeds.Crash (node_named w server)
node_line (events.Restart server) w = option_map deeds.Restart (down_named w server)
node_line _ w = None

-- a line that calls a transaction or touches a resource, or such a one
abbrev pub call_line : ScriptEvent → World → Option Deed
call_line (events.Put resource cell value) w = puts_named w resource cell value
call_line (events.Refuse resource) w = refuses_named w resource
call_line (events.Commit transaction reports) w = commits_named w transaction reports
call_line (events.Rollback transaction) w = calls_named w transaction (ends_by acts.Rollback)
call_line (events.Mark transaction) w = calls_named w transaction (asks_for acts.RollbackOnly)
call_line (events.Status transaction whose) w = calls_named w transaction (asks_for (status_act whose))
call_line (events.Relate relation transaction other) w = relates_named w relation transaction other
call_line (events.NameOf transaction) w = calls_named w transaction (asks_for acts.GetTransactionName)
call_line (events.Hash transaction) w = calls_named w transaction (asks_for acts.HashTransaction)
call_line other w = node_line other w

-- a line that makes something of a new name, or such a one
abbrev pub making_line : ScriptEvent → World → Option Deed
making_line (events.Node name) w = if_free w name (deeds.MakeNode name)
making_line (events.End name) w = if_free w name (deeds.MakeEnd name)
making_line (events.Begin node transaction seconds) w = begins_named w node transaction seconds
making_line (events.Sub parent transaction) w = creates_named w parent transaction
making_line (events.Register transaction end resource) w = registers_named w manners.Resource transaction end resource
making_line (events.Aware transaction end resource) w = registers_named w manners.Aware transaction end resource
making_line (events.Double transaction end resource) w = registers_named w manners.Double transaction end resource
making_line other w = call_line other w
