use Rattle.std.proofs.Common.{ℕ, ◌+◌, ◌≡◌, drop, position, Some, None, ap, sym, ◌∙◌}
use Rattle.std.specs.Option.{option_map}
use Rattle.two_phase.specs.Course.{next_told}
use Rattle.two_phase.specs.Parties.{is_untold}
use Rattle.two_phase.proofs.Told.{untold_behind}
use Rattle.two_phase.proofs.parties.next_told.Goals as goal

pub returns-in-Some : goal.returns-in-Some
unfolding next_told
returns-in-Some c =
    let n = c.args.told in
    let ps = c.args.parties.now in
    let found : position (is_untold c.args.alone c.args.fixed) (drop n ps) ≡ Some c.in-Some.further = sym (c.untold_of.ensures ∙ ap (position (is_untold c.args.alone c.args.fixed)) c.behind.ensures) ∙ c.in-Some.is in
    sym (untold_behind c.args.alone c.args.fixed n ps c.requires.told ∙ ap (option_map (λ (i : ℕ). n + i)) found)

pub returns-in-None : goal.returns-in-None
unfolding next_told
returns-in-None c =
    let n = c.args.told in
    let ps = c.args.parties.now in
    let found : position (is_untold c.args.alone c.args.fixed) (drop n ps) ≡ None = sym (c.untold_of.ensures ∙ ap (position (is_untold c.args.alone c.args.fixed)) c.behind.ensures) ∙ c.in-None.is in
    sym (untold_behind c.args.alone c.args.fixed n ps c.requires.told ∙ ap (option_map (λ (i : ℕ). n + i)) found)
