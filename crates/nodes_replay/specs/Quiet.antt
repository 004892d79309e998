-- Lines that want no memory (our profile).
use Rattle.std.specs.Prelude.{◌≡◌, true, false, Some, None}
use Rattle.ots_world.specs.declared.script.ScriptEvent.{ScriptEvent}
use Rattle.nodes_ends.specs.Ending.{IsOpen}
use Rattle.nodes_resolve.specs.Lines.{keeps_octets}
use Rattle.nodes_world.specs.declared.deed.Deed.{Deed}
use Rattle.nodes_world.specs.declared.deed.Deed.TheVariants as deeds
use Rattle.nodes_world.specs.Deliveries.{lowest}
use Rattle.nodes_world.specs.Resolve.{resolve}
use Rattle.nodes_world.specs.Step.{is_full}
use Rattle.nodes_world.specs.World.{World, resource_at}

-- a node or an end is to be made where there are as many as there may be; a resource is made to vote rollback, and its state lets it; no
-- message waits to be delivered; or a crash inside a write is set
abbrev pub IsQuietDeed : Deed → World → Type 0
IsQuietDeed (deeds.MakeNode name) w = is_full w ≡ true
IsQuietDeed (deeds.MakeEnd name) w = is_full w ≡ true
IsQuietDeed (deeds.Refuse key) w = IsOpen (resource_at w key)
IsQuietDeed (deeds.Flow count) w = lowest w ≡ None
IsQuietDeed (deeds.Stop place write image) w = Unit {0}
IsQuietDeed _ w = ⊥

-- no octets of an image are kept, and what the line does, where that is anything, wants no memory
pub record IsQuiet (event : ScriptEvent) (w : World) : Type 0 where
  pub bare : keeps_octets event ≡ false
  pub deed : (deed : Deed) → resolve event w ≡ Some deed → IsQuietDeed deed w
