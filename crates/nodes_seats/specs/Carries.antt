-- What a call that carries out a deed has done, where a limit may be passed before anything comes of it (our profile).
use Rattle.std.specs.Prelude.{◌≡◌, ℕ, List, Option, Some, None, Result, Ok, Err}
use Rattle.ots_world.specs.declared.fault.WorldFault.{WorldFault}
use Rattle.ots_world.specs.declared.fault.WorldFault.TheVariants as faults
use Rattle.nodes_world.specs.Happenings.{Done}
use Rattle.nodes_world.specs.World.{World}
use Rattle.nodes_state.specs.Does.{Does}

-- the limit is passed, unless memory ran out before that was known
abbrev pub IsPassed : ℕ → Result (Unit {0}) WorldFault → Type 0
IsPassed limit (Ok _) = ⊥
IsPassed limit (Err (faults.Limit n)) = n ≡ limit
IsPassed limit (Err faults.Memory) = Unit {0}
IsPassed limit (Err faults.Names) = ⊥

-- nothing comes of it, and nothing is told; or it is done
abbrev pub Carries : Option ℕ → Done → World → List ℕ → List ℕ → Result (Unit {0}) WorldFault → Type 0
Carries (Some limit) d w before after result = IsPassed limit result × (after ≡ before)
Carries None d w before after result = Does d w before after result

-- it is done, and nothing is told
abbrev pub DoesUntold : Done → World → Type 0
DoesUntold d w = (lines : List ℕ) → Does d w lines lines (Ok tt)
