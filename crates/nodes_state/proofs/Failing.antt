-- What was done, or told, by a call that broke off.
use Rattle.std.proofs.Common.{◌≡◌, ℕ, ◌<◌, List, length, Result, Ok, Err, sym, subst, arith}
use Rattle.std.specs.Result.{IsErr}
use Rattle.ots_world.specs.declared.fault.WorldFault.{WorldFault}
use Rattle.ots_world.specs.declared.fault.WorldFault.TheVariants as faults
use Rattle.nodes_parts.specs.Sending.{CannotSend}
use Rattle.nodes_world.specs.declared.message.Message.{Message}
use Rattle.nodes_world.specs.Told.{Told}
use Rattle.nodes_world.specs.World.{World}
use Rattle.nodes_world.specs.Happenings.{Done}
use Rattle.nodes_state.specs.Telling.{TellsPart, TellsSome}
use Rattle.nodes_state.specs.Does.{BreaksOff, Does}

pub some_failed : {E : Type 0} (some : List Told) (before after : List ℕ) (result : Result (Unit {0}) E) → IsErr result → TellsPart some before after
    → TellsSome some before after result
some_failed some before after (Ok u) e p = absurd cc
some_failed some before after (Err fault) e p = p

pub does_fail : (d : Done) (w : World) (before after : List ℕ) (result : Result (Unit {0}) WorldFault) (fault : WorldFault) → result ≡ Err fault
    → BreaksOff d fault before after → Does d w before after result
does_fail d w before after result fault e b = subst (λ (r : Result (Unit {0}) WorldFault). Does d w before after r) (sym e) b

pub cannot_send : (d : Done) (messages : List Message) (fault : WorldFault) (before after : List ℕ) → CannotSend messages fault
    → length messages < length d.world.messages → TellsPart d.lines before after → BreaksOff d fault before after
cannot_send d messages faults.Memory before after refused more part = part
cannot_send d messages (faults.Limit n) before after refused more part = let full = refused.1 in ((refused.0, omega arith), part)
cannot_send d messages faults.Names before after refused more part = absurd refused
