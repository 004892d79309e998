use Rattle.std.proofs.Common.{◌∙◌, sym}
use Rattle.family_rules.proofs.AtSeat.{waits_at, waits_nowhere}
use Rattle.family_rules.proofs.state.State.waiting_for.Goals as goal

pub returns-then-is_own_number : goal.returns-then-is_own_number
returns-then-is_own_number c =
    waits_at c.args.self.now.family c.args.number.now c.waiting_at.result (sym c.is_own_number.ensures ∙ c.if-is_own_number.true) c.waiting_at.ensures

pub returns-else-is_own_number : goal.returns-else-is_own_number
returns-else-is_own_number c =
    waits_nowhere c.args.self.now.family c.args.number.now (sym c.is_own_number.ensures ∙ c.if-is_own_number.false)
