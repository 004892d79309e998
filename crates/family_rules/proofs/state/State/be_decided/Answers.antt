use Rattle.std.proofs.Common.{◌+◌, ap, length, arith}
use Rattle.family_rules.specs.Changes.{Changes}
use Rattle.family_rules.specs.Room.{StateParts}
use Rattle.family_rules.proofs.Going.{still_can}
use Rattle.family_rules.proofs.state.State.be_decided.Goals as goal

pub returns-in-Unsure-clause-can : goal.returns-in-Unsure-clause-can
returns-in-Unsure-clause-can c = λ n can.
    c.doubt.ensures.can n
    (still_can (n + 3) (n + 2) c.args.self.now.family _ c.args.out.now c.show_fixed.new.self
    (ap (λ (v : StateParts). length v.family.rows) c.self.view_is)
    (ap (λ (v : StateParts). v.family.serial) c.self.view_is)
    (ap (λ (v : StateParts). length v.family.entries) c.self.view_is)
    (ap (λ (v : StateParts). v.family.calls) c.self.view_is)
    (ap (λ (x : Changes). x.words) c.show_fixed.ensures.shown)
    (ap (λ (x : Changes). x.tasks) c.show_fixed.ensures.shown)
    (omega (arith, c.show_fixed.ensures.room)) (omega (arith, c.show_fixed.ensures.tasks_room)) can)
