use Rattle.std.proofs.Common.{arith, ap, find, length, take, drop, length-drop, ◌≡◌, ◌-◌, ◌≤◌, ◌∙◌}
use Rattle.std.proofs.lemmas.List.{take_all}
use Rattle.resource_votes.specs.Ballots.{is_aware_after}
use Rattle.resource_votes.proofs.Numbered.{aware_behind}
use Rattle.resource_votes.proofs.votes.aware_behind.Goals as goal

pub returns : goal.returns
returns c =
    let list = c.args.list.now in
    let passed = c.min-passed.result in
    let short : length (drop passed list) ≤ length list - passed = omega (arith, length-drop passed list) in
    c.first_aware.ensures
    ∙ ap (find (is_aware_after c.args.branch c.args.after)) (take_all (length list - passed) (drop passed list) short)
    ∙ aware_behind 1 list c.args.branch c.args.after passed c.requires.numbered (omega (arith, c.min-passed.ensures))
