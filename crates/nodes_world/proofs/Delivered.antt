-- No client's call waits to be delivered, in any world that a script reaches.
use Rattle.std.proofs.Common.{inl, inr, refl, sym, subst}
use Rattle.nodes_world.specs.declared.message.Message.{Message}
use Rattle.nodes_world.specs.Agreement.{nothing, further as and_further}
use Rattle.nodes_world.specs.AgreementSteps.{ReachedCallsAreDelivered}
use Rattle.nodes_world.specs.Changes.{CallIsDelivered, CallsAreDelivered, MessageBecomes, WorldBecomes, WorldGoesOn, by_answer, by_delivery, by_loss, by_message, by_name, by_new_seat, by_seat, by_sending, still, further}
use Rattle.nodes_world.specs.Step.{carried_out}
use Rattle.nodes_world.specs.World.{World}
use Rattle.nodes_world.proofs.Deeds.{deeds_are_changes}
use Rattle.nodes_world.proofs.KnownFrames.{push_cases}
use Rattle.nodes_world.proofs.KnownTouch.{set_cases}

changed_delivered : (m later : Message) → MessageBecomes m later → CallIsDelivered m → CallIsDelivered later
changed_delivered _ _ (by_delivery m) was to act says = refl
changed_delivered _ _ (by_loss m) was to act says = was to act says
changed_delivered _ _ (by_answer m) was to act says = was to act says

once_delivered : (w v : World) → WorldBecomes w v → CallsAreDelivered w → CallsAreDelivered v
once_delivered w v (by_new_seat s new) was nth m there = was nth m there
once_delivered w v (by_seat place s later there becomes) was nth m at = was nth m at
once_delivered w v (by_sending sent delivered) was nth m there = elim (push_cases w.messages nth sent m there) [
  | inl before ↦ was nth m before
  | inr is ↦ subst CallIsDelivered (sym is.1) delivered
]
once_delivered w v (by_message place before later there becomes) was nth m at = elim (set_cases w.messages place nth later m at) [
  | inl is ↦ subst CallIsDelivered (sym is.1) (changed_delivered before later becomes (was place before there))
  | inr kept ↦ was nth m kept
]
once_delivered w v (by_name name named free) was nth m there = was nth m there

pub still_delivered : (w v : World) → WorldGoesOn w v → CallsAreDelivered w → CallsAreDelivered v
still_delivered w v still was = was
still_delivered w v (further between later before last) was = once_delivered between later last (still_delivered w between before was)

pub reached_delivered : ReachedCallsAreDelivered
reached_delivered w told nothing = λ nth m there. absurd cc
reached_delivered w told (and_further before earlier event deed reached few fit is limit) =
    still_delivered before (carried_out deed before).world (deeds_are_changes event deed before is) (reached_delivered before earlier reached)
