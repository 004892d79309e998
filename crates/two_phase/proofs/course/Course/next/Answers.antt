use Rattle.std.proofs.Common.{rules, ◌≡◌, Some}
use Rattle.two_phase.specs.Course.{errand}
use Rattle.two_phase.proofs.Opened.{errand_open}
use Rattle.two_phase.proofs.Consented.{errand_consented}
use Rattle.two_phase.proofs.course.Course.next.Goals as goal

pub send-requires-clause-unheard : goal.send-requires-clause-unheard
send-requires-clause-unheard c =
    let next : errand c.args.self.now ≡ Some c.in_ok-errand.errand = search rules in
    errand_open c.args.self.now c.in_ok-errand.errand next

pub send-requires-clause-behind : goal.send-requires-clause-behind
send-requires-clause-behind c =
    let next : errand c.args.self.now ≡ Some c.in_ok-errand.errand = search rules in
    errand_consented c.args.self.now c.in_ok-errand.errand next
