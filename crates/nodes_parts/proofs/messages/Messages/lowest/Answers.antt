use Rattle.std.proofs.Common.{◌≡◌, ◌+◌, ◌-◌, ◌≤◌, cond, nat_lt, Some, None, ap, subst, ◌∙◌, length, drop, sym, arith, length-drop}
use Rattle.std.specs.List.{position}
use Rattle.std.proofs.lemmas.List.{take_all}
use Rattle.std.proofs.lemmas.Grind.{common_steps}
use Rattle.nodes_parts.specs.Sending.{CountsPassed, is_waiting}
use Rattle.nodes_parts.proofs.Waiting.{more_passed, next_is}
use Rattle.nodes_parts.proofs.messages.Messages.lowest.Goals as goal

pub invariant_of-self : goal.invariant_of-self
invariant_of-self c =
    let xs = c.self.inside.items.items in
    let passed = c.self.inside.passed in
    let long : length (drop c.self.inside.passed c.deref.result.now) ≤ length c.deref.result.now - c.self.inside.passed =
    omega (arith, length-drop c.self.inside.passed c.deref.result.now) in
    let rest = take_all (length c.deref.result.now - c.self.inside.passed) (drop c.self.inside.passed c.deref.result.now) long
    ∙ ap (drop c.self.inside.passed) c.deref.ensures.value in
    more_passed xs passed c.count_passed.result c.self.invariant (subst (CountsPassed c.count_passed.result) rest c.count_passed.ensures)

pub returns-clause-lowest : goal.returns-clause-lowest
returns-clause-lowest c =
    let xs = c.self.inside.items.items in
    let passed = c.self.inside.passed in
    let long : length (drop c.self.inside.passed c.deref.result.now) ≤ length c.deref.result.now - c.self.inside.passed =
    omega (arith, length-drop c.self.inside.passed c.deref.result.now) in
    let rest = take_all (length c.deref.result.now - c.self.inside.passed) (drop c.self.inside.passed c.deref.result.now) long
    ∙ ap (drop c.self.inside.passed) c.deref.ensures.value in
    let count : c.len.result ≡ length c.self.inside.items.items = grind (arith, common_steps) in
    c.place_within.ensures
    ∙ ap (λ n. cond (nat_lt (c.self.inside.passed + c.count_passed.result) n) (Some (c.self.inside.passed + c.count_passed.result)) None) count
    ∙ sym (next_is xs passed c.count_passed.result c.self.invariant (subst (CountsPassed c.count_passed.result) rest c.count_passed.ensures))
    ∙ ap (position is_waiting) c.self.view_is
