use Rattle.std.proofs.Common.{◌≡◌, ◌∙◌, None, Some, ap, sym, subst}
use Rattle.std.specs.Prelude.{find}
use Rattle.resource_end.specs.States.{is_prepared}
use Rattle.resource_end.specs.End.{is_named, named}
use Rattle.resource_end.specs.Inside.{HasMoved, IsNamed, numbered}
use Rattle.resource_end.proofs.Changing.{choose_moved, choose_nobody, choose_not, choose_unread}
use Rattle.resource_end.proofs.Claims.{at_known}
use Rattle.resource_end.proofs.end.ResourceEnd.try_choice.Goals as goal

pub returns-in-Err-clause-called : goal.returns-in-Err-clause-called
returns-in-Err-clause-called g c =
    choose_unread g.D.Disk.told c.args.self.now c.args.key.now c.args.d c.reread.new.self c.in-Err.fault c.in-Err.ensures.rereads

pub returns-in-None-clause-called : goal.returns-in-None-clause-called
returns-in-None-clause-called g c =
    choose_nobody g.D.Disk.told c.args.self.now c.args.key.now c.args.d c.reread.new.self c.in-Ok.ensures.rereads
    (subst (λ s. named c.args.key.now s.end ≡ None) c.self.view_is
    (subst (λ n. find (is_named n c.args.key.now) c.self.inside.contents.resources ≡ None) c.service.ensures c.in-None.ensures))

pub returns-then-not-is_prepared-clause-called : goal.returns-then-not-is_prepared-clause-called
returns-then-not-is_prepared-clause-called g c =
    let it = c.in-Some.ensures in
    choose_not g.D.Disk.told c.args.self.now c.args.key.now c.args.d c.reread.new.self c.in-Ok.ensures.rereads it.0
    (subst (λ s. named c.args.key.now s.end ≡ Some it.0) c.self.view_is
    (subst (λ n. IsNamed n c.args.key.now c.self.inside.contents.resources c.in-Some.state it.0) c.service.ensures it.1).named)
    (ap is_prepared it.1.stands ∙ sym c.if-not-is_prepared.ensures)

pub returns-clause-called : goal.returns-clause-called
returns-clause-called g c =
    let it = c.in-Some.ensures in
    let there = subst (λ s. numbered (c.args.key.now.life, c.args.key.now.generation) s.end.resources ≡ Some it.0) c.self.view_is it.1.numbered in
    let moved = at_known (numbered (c.args.key.now.life, c.args.key.now.generation) c.reread.new.self.end.resources) it.0
    (HasMoved g.D.Disk.told c.reread.new.self c.moves.new.self c.moves.result c.of_choice.result) there c.moves.ensures.moves in
    choose_moved g.D.Disk.told c.args.self.now c.args.key.now c.args.d c.reread.new.self c.in-Ok.ensures.rereads it.0
    (subst (λ s. named c.args.key.now s.end ≡ Some it.0) c.self.view_is
    (subst (λ n. IsNamed n c.args.key.now c.self.inside.contents.resources c.in-Some.state it.0) c.service.ensures it.1).named)
    c.moves.new.self c.moves.result (ap is_prepared it.1.stands ∙ sym c.if-not-is_prepared.ensures)
    (subst (λ n. HasMoved g.D.Disk.told c.reread.new.self c.moves.new.self c.moves.result n it.0) c.of_choice.ensures moved)
