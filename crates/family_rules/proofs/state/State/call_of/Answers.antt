use Rattle.std.proofs.Common.{is_some, true, length, arith, ◌≡◌, ◌∙◌, sym, ap, subst, List, Option, refl}
use Rattle.family_rules.specs.Calls.{Sees, call_kept}
use Rattle.coordinator.specs.Family.{call_at}
use Rattle.family_rules.specs.Room.{StateParts}
use Rattle.family_rules.specs.StateInside.{shown}
use Rattle.family_rules.specs.declared.call.Call.{Call}
use Rattle.family_rules.specs.declared.call.Call.{Call as KeptCall}
use Rattle.family_rules.specs.declared.call.Seat.{Seat}
use Rattle.family_rules.proofs.AtSeat.{kept_within, sees}
use Rattle.family_rules.proofs.state.State.call_of.Goals as goal

pub returns-clause-seen : goal.returns-clause-seen
returns-clause-seen c =
    let rs = c.self.inside.votes.ballots.registrations in
    let seats = c.self.inside.seats.items in
    let at = c.args.branch in
    let is : c.kept_call.result ≡ call_kept seats at = c.kept_call.ensures ∙ ap (λ (xs : List Seat). call_kept xs at) c.deref.ensures.value in
    subst (λ (v : StateParts). Sees c.kept_call.result (call_at v.family at)) c.self.view_is
    (subst (λ (o : Option Call). Sees o (call_at (shown c.self.inside).family at)) (sym is)
    (sees (shown c.self.inside).family rs seats at refl))

pub returns-clause-there : goal.returns-clause-there
returns-clause-there c = λ some.
    let seats = c.self.inside.seats.items in
    let at = c.args.branch in
    let is : c.kept_call.result ≡ call_kept seats at = c.kept_call.ensures ∙ ap (λ (xs : List Seat). call_kept xs at) c.deref.ensures.value in
    let kept : is_some (call_kept seats at) ≡ true = sym (ap (λ (o : Option KeptCall). is_some o) is) ∙ some in
    let rows = ap (λ (v : StateParts). length v.family.rows) c.self.view_is in
    omega (arith, kept_within seats at kept, rows, c.self.invariant.seats, c.self.inside.seats.ok.0)
