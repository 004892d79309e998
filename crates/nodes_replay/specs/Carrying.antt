-- What a call that carries out a line has done, by what it answers (our profile).
use Rattle.std.specs.Prelude.{◌≡◌, ℕ, List, Result, Ok, Err}
use Rattle.ots_world.specs.declared.fault.WorldFault.{WorldFault}
use Rattle.ots_world.specs.declared.fault.WorldFault.TheVariants as faults
use Rattle.nodes_world.specs.Step.{Stepped, Moves, Passes, Names}
use Rattle.nodes_world.specs.World.{World}
use Rattle.nodes_state.specs.Telling.{Tells, TellsPart}

-- The line moves the world on; or it passes a limit, or memory runs out, and then some of its lines were told; or it is refused for
-- its names.
abbrev pub CarriesLine : Stepped → World → World → List ℕ → List ℕ → Result (Unit {0}) WorldFault → Type 0
CarriesLine (Moves to) old new before after (Ok _) = (new ≡ to.world) × Tells to.lines before after
CarriesLine (Moves to) old new before after (Err faults.Memory) = TellsPart to.lines before after
CarriesLine (Moves to) old new before after (Err (faults.Limit n)) = ⊥
CarriesLine (Moves to) old new before after (Err faults.Names) = ⊥
CarriesLine (Passes limit lines) old new before after (Err (faults.Limit n)) = (n ≡ limit) × TellsPart lines before after
CarriesLine (Passes limit lines) old new before after (Err faults.Memory) = TellsPart lines before after
CarriesLine (Passes limit lines) old new before after (Err faults.Names) = ⊥
CarriesLine (Passes limit lines) old new before after (Ok _) = ⊥
CarriesLine Names old new before after (Err faults.Names) = (new ≡ old) × (after ≡ before)
CarriesLine Names old new before after (Err faults.Memory) = ⊥
CarriesLine Names old new before after (Err (faults.Limit n)) = ⊥
CarriesLine Names old new before after (Ok _) = ⊥
