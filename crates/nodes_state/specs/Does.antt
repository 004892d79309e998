-- What a call that carries something out has done, by what it answers (our profile).
use Rattle.std.specs.Prelude.{◌≡◌, ℕ, ◌<◌, List, length, Result, Ok, Err}
use Rattle.ots_world.specs.declared.fault.WorldFault.{WorldFault}
use Rattle.ots_world.specs.declared.fault.WorldFault.TheVariants as faults
use Rattle.nodes_world.specs.Limits.{message_limit}
use Rattle.nodes_world.specs.World.{World}
use Rattle.nodes_world.specs.Happenings.{Done}
use Rattle.nodes_state.specs.Telling.{Tells, TellsPart}
use Rattle.nodes_state.specs.declared.state.State.{State}

-- too many messages would have gone out
abbrev pub Overflows : World → ℕ → Type 0
Overflows w n = (n ≡ message_limit) × (message_limit < length w.messages)

-- it wanted memory, or passed the limit of messages; then some of the lines were told
abbrev pub BreaksOff : Done → WorldFault → List ℕ → List ℕ → Type 0
BreaksOff d faults.Memory before after = TellsPart d.lines before after
BreaksOff d (faults.Limit n) before after = Overflows d.world n × TellsPart d.lines before after
BreaksOff d faults.Names before after = ⊥

-- the world is as it leaves it, and its lines were told; or it broke off
abbrev pub Does : Done → World → List ℕ → List ℕ → Result (Unit {0}) WorldFault → Type 0
Does d w before after (Ok _) = (w ≡ d.world) × Tells d.lines before after
Does d w before after (Err fault) = BreaksOff d fault before after

-- seats and names stay
pub record StaysSo (old new : State) : Type 0 where
  pub seats : new.seats ≡ old.seats
  pub names : new.names ≡ old.names
