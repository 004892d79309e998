use Rattle.std.proofs.Common.{ℕ, ◌+◌, ◌≡◌, drop, position, Some, None, ap, sym, ◌∙◌}
use Rattle.std.specs.Option.{option_map}
use Rattle.two_phase.specs.Course.{next_asked}
use Rattle.two_phase.specs.Parties.{is_unasked}
use Rattle.two_phase.proofs.Consented.{asked_behind}
use Rattle.two_phase.proofs.parties.next_asked.Goals as goal

pub returns-in-Some : goal.returns-in-Some
unfolding next_asked
returns-in-Some c =
    let n = c.args.consented in
    let ps = c.args.parties.now in
    let found : position is_unasked (drop n ps) ≡ Some c.in-Some.further = sym (c.unasked_of.ensures ∙ ap (position is_unasked) c.behind.ensures) ∙ c.in-Some.is in
    sym (asked_behind n ps c.requires.consented ∙ ap (option_map (λ (i : ℕ). n + i)) found)

pub returns-in-None : goal.returns-in-None
unfolding next_asked
returns-in-None c =
    let n = c.args.consented in
    let ps = c.args.parties.now in
    let found : position is_unasked (drop n ps) ≡ None = sym (c.unasked_of.ensures ∙ ap (position is_unasked) c.behind.ensures) ∙ c.in-None.is in
    sym (asked_behind n ps c.requires.consented ∙ ap (option_map (λ (i : ℕ). n + i)) found)
