use Rattle.std.proofs.Common.{◌∙◌, ◌||◌, Bool, not, length, is_some, nat_le, sym, ap}
use Rattle.coordinator.specs.History.{limit_of}
use Rattle.family_step.proofs.Indexed.{known_is, less_is}
use Rattle.family_step.proofs.ready.has_room.Goals as goal

pub returns-then-is_some : goal.returns-then-is_some
returns-then-is_some c =
    let entries = c.args.state.now.family.entries in
    let e = c.args.event.now in
    let known = known_is c.args.callers.now.places entries c.requires.index e.key in
    let yes = known ∙ sym (ap is_some c.call_of.ensures) ∙ sym c.is_some.ensures ∙ c.if-is_some.true in
    c.if-is_some.true ∙ sym (ap (λ (b : Bool). b || not (nat_le (limit_of e.act) (length entries))) yes)

pub returns-else-is_some : goal.returns-else-is_some
returns-else-is_some c =
    let entries = c.args.state.now.family.entries in
    let e = c.args.event.now in
    let known = known_is c.args.callers.now.places entries c.requires.index e.key in
    let no = known ∙ sym (ap is_some c.call_of.ensures) ∙ sym c.is_some.ensures ∙ c.if-is_some.false in
    less_is _ _ (length entries) (limit_of e.act) c.entry_count.ensures.count c.history_limit.ensures
    ∙ sym (ap (λ (b : Bool). b || not (nat_le (limit_of e.act) (length entries))) no)
