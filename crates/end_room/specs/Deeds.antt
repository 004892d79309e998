-- What the calls of an end do, each with what it was given and what it answers (our profile).
use Rattle.std.specs.Prelude.{ℕ, Bool, List, Option, Result}
use Rattle.ior_refs.specs.declared.key.ObjectKey.{ObjectKey}
use Rattle.ots_model.specs.declared.tree.Heard.{Heard}
use Rattle.ots_model.specs.declared.tree.Outward.{Outward}
use Rattle.resource_end.specs.declared.fault.EndFault.{EndFault}
use Rattle.resource_end.specs.declared.state.Word.{Word}
use Rattle.end_room.specs.declared.ends.Entered.{Entered}

pub data Deed : Type 0 where
  Enters : List ℕ → Result Entered EndFault → Deed
  Binds : List ℕ → ObjectKey → List ℕ → Result (Unit {0}) EndFault → Deed
  Unmakes : ObjectKey → Deed
  Puts : ObjectKey → ℕ → ℕ → Result (Unit {0}) EndFault → Deed
  Reads : Option (List ℕ) → ℕ → Option ℕ → Deed
  Has : ObjectKey → Bool → Deed
  Tells : Word → ObjectKey → Result Heard EndFault → Deed
  Asks : List Outward → List Outward → Result (Unit {0}) EndFault → Deed
  Learns : ObjectKey → Heard → Result (Unit {0}) EndFault → Deed
