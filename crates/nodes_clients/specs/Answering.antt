-- Of whom it is told what comes of a call to a node (our profile).
use Rattle.std.specs.Prelude.{◌≡◌, List, [], Option, Some, None}
use Rattle.std.specs.Borrow.{Bor}
use Rattle.std.specs.Option.{option_copied, option_map}
use Rattle.ior_refs.specs.declared.key.ObjectKey.{ObjectKey}
use Rattle.coordinator.specs.Family.{Family, FamilyParts}
use Rattle.coordinator.specs.Node.{Node, family_of}
use Rattle.coordinator.specs.declared.effect.Effect.{Effect}
use Rattle.nodes_world.specs.Disks.{Stop}
use Rattle.nodes_world.specs.Happenings.{Cast, all_effect_lines, cast_of, cast_of_key}
use Rattle.nodes_world.specs.Told.{Told}
use Rattle.nodes_world.specs.World.{Seat, World, node_in}
use Rattle.nodes_state.specs.Casting.{IsRosterOf}
use Rattle.nodes_state.specs.declared.casts.Roster.{Roster}

abbrev pub family_in : Option (Bor FamilyParts) → Option Family
family_in f = option_map (λ (p : FamilyParts). p.family) (option_copied f)

-- the family, or else that of a record
abbrev pub spoken_of : Option Family → Option ObjectKey → Option Cast
spoken_of (Some f) recorded = Some (cast_of f)
spoken_of None recorded = option_map cast_of_key recorded

-- where a stop is to come, the names of a family that is there were kept, and no others
abbrev pub AreNamesKept : Option Stop → Option Family → Option Roster → World → Type 0
AreNamesKept (Some stop) (Some f) (Some r) w = IsRosterOf r f w
AreNamesKept (Some stop) (Some f) None w = ⊥
AreNamesKept (Some stop) None (Some r) w = ⊥
AreNamesKept (Some stop) None None w = Unit {0}
AreNamesKept None f roster w = Unit {0}

-- so it is with the family of a key at a seat
abbrev pub AreKept : ObjectKey → Seat → Option Roster → World → Type 0
AreKept k s roster w = (n : Node) → node_in s.server ≡ Some n → AreNamesKept s.stop (family_of k n) roster w

-- these lines tell what happened to the family whose names were kept
abbrev pub AreTold : World → Option Roster → List Effect → List Told → Type 0
AreTold w (Some r) happened some = (f : Family) × IsRosterOf r f w × (some ≡ all_effect_lines w (cast_of f) happened)
AreTold w None happened some = some ≡ []
