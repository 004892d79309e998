use Rattle.std.proofs.Common.{◌≡◌, ◌∙◌, ◌≤◌, None, Some, ap, sym, subst}
use Rattle.std.specs.Prelude.{find, Ok, Err}
use Rattle.resource_end.specs.States.{learnt, made}
use Rattle.resource_end.specs.Calls.{learn, wanted_by_answer}
use Rattle.resource_end.specs.End.{is_named, named}
use Rattle.resource_end.specs.Inside.{HasMoved, HasReadAgain, IsNamed, numbered}
use Rattle.resource_end.specs.Journaling.{IsCalled, afresh}
use Rattle.resource_end.proofs.Calling.{later_cause, learnt_moved, learnt_nobody, learnt_nothing, learnt_unmoved, learnt_unread}
use Rattle.resource_end.proofs.Claims.{at_known}
use Rattle.resource_end.proofs.Writing.{seen}
use Rattle.resource_end.proofs.end.ResourceEnd.try_learn.Goals as goal

pub returns-in-Err-clause-called : goal.returns-in-Err-clause-called
returns-in-Err-clause-called g c =
    learnt_unread g.D.Disk.told c.args.self.now c.args.key.now c.args.heard.now c.reread.new.self c.in-Err.fault
    (subst (λ s. HasReadAgain g.D.Disk.told (afresh s) c.reread.new.self (Err c.in-Err.fault)) c.self.view_is c.in-Err.ensures.rereads)

pub returns-in-None-clause-called : goal.returns-in-None-clause-called
returns-in-None-clause-called g c =
    let read = subst (λ s. HasReadAgain g.D.Disk.told (afresh s) c.reread.new.self (Ok tt)) c.self.view_is c.in-Ok.ensures.rereads in
    let none = subst (λ s. named c.args.key.now s.end ≡ None) c.self-2.view_is
    (subst (λ n. find (is_named n c.args.key.now) c.self-2.inside.contents.resources ≡ None) c.service.ensures c.in-None.ensures) in
    learnt_nobody g.D.Disk.told c.args.self.now c.args.key.now c.args.heard.now c.reread.new.self read none

pub returns-in-Err-moves-clause-called : goal.returns-in-Err-moves-clause-called
returns-in-Err-moves-clause-called g c =
    let read = subst (λ s. HasReadAgain g.D.Disk.told (afresh s) c.reread.new.self (Ok tt)) c.self.view_is c.in-Ok.ensures.rereads in
    let it = c.in-Some.ensures in
    let is = subst (λ s. named c.args.key.now s.end ≡ Some it.0) c.self-2.view_is
    (subst (λ n. IsNamed n c.args.key.now c.self-2.inside.contents.resources c.in-Some.state it.0) c.service.ensures it.1).named in
    let there = subst (λ s. numbered (c.args.key.now.life, c.args.key.now.generation) s.end.resources ≡ Some it.0) c.self-2.view_is it.1.numbered in
    let next = ap (λ x. learnt x c.args.heard.now) it.1.stands ∙ sym c.learns.ensures ∙ c.in-Some-learns.is in
    let moved = at_known (numbered (c.args.key.now.life, c.args.key.now.generation) c.reread.new.self.end.resources) it.0
    (HasMoved g.D.Disk.told c.reread.new.self c.moves.new.self (Err c.in-Err-moves.fault) c.in-Some-learns.next) there c.in-Err-moves.ensures.moves in
    learnt_unmoved g.D.Disk.told c.args.self.now c.args.key.now c.args.heard.now c.reread.new.self read it.0 is c.moves.new.self c.in-Some-learns.next next c.in-Err-moves.fault moved
    (c.moves.ensures.shown ∙ c.reread.ensures.shown)

pub returns-in-Err-moves-clause-fault : goal.returns-in-Err-moves-clause-fault
returns-in-Err-moves-clause-fault g c =
    later_cause g.D.Disk.wants_memory g.D.Disk.told g.D.Disk.faults c.args.self.now.journal c.reread.new.self.journal c.moves.new.self.journal c.in-Err-moves.fault
    (subst (λ s. g.D.Disk.faults s.journal.disk ≤ g.D.Disk.faults c.reread.new.self.journal.disk) c.self.view_is c.reread.ensures.later)
    c.moves.ensures.later c.in-Ok.ensures.ready c.in-Err-moves.ensures.fault

pub returns-in-Ok-moves-clause-called : goal.returns-in-Ok-moves-clause-called
returns-in-Ok-moves-clause-called g c =
    let read = subst (λ s. HasReadAgain g.D.Disk.told (afresh s) c.reread.new.self (Ok tt)) c.self.view_is c.in-Ok.ensures.rereads in
    let it = c.in-Some.ensures in
    let is = subst (λ s. named c.args.key.now s.end ≡ Some it.0) c.self-2.view_is
    (subst (λ n. IsNamed n c.args.key.now c.self-2.inside.contents.resources c.in-Some.state it.0) c.service.ensures it.1).named in
    let there = subst (λ s. numbered (c.args.key.now.life, c.args.key.now.generation) s.end.resources ≡ Some it.0) c.self-2.view_is it.1.numbered in
    let next = ap (λ x. learnt x c.args.heard.now) it.1.stands ∙ sym c.learns.ensures ∙ c.in-Some-learns.is in
    let moved = at_known (numbered (c.args.key.now.life, c.args.key.now.generation) c.reread.new.self.end.resources) it.0
    (HasMoved g.D.Disk.told c.reread.new.self c.moves.new.self (Ok tt) c.in-Some-learns.next) there c.in-Ok-moves.ensures.moves in
    subst (λ x. IsCalled g.D.Disk.told (afresh c.args.self.now) (seen c.self-in-Some-learns.inside.journal c.self-in-Some-learns.inside.drawn c.self-in-Some-learns.inside.contents x)
    (Ok tt) (wanted_by_answer c.args.heard.now c.args.key.now) (learn c.args.key.now c.args.heard.now)) (sym c.shown-self-inside.ensures)
    (subst (λ s. IsCalled g.D.Disk.told (afresh c.args.self.now) (record s { end = record s.end { changed = made c.in-Some-learns.next } })
    (Ok tt) (wanted_by_answer c.args.heard.now c.args.key.now) (learn c.args.key.now c.args.heard.now)) (sym c.self-in-Some-learns.view_is)
    (learnt_moved g.D.Disk.told c.args.self.now c.args.key.now c.args.heard.now c.reread.new.self read it.0 is c.moves.new.self c.in-Some-learns.next next moved))

pub returns-in_default-clause-called : goal.returns-in_default-clause-called
returns-in_default-clause-called g c =
    let read = subst (λ s. HasReadAgain g.D.Disk.told (afresh s) c.reread.new.self (Ok tt)) c.self.view_is c.in-Ok.ensures.rereads in
    let it = c.in-Some.ensures in
    let is = subst (λ s. named c.args.key.now s.end ≡ Some it.0) c.self-2.view_is
    (subst (λ n. IsNamed n c.args.key.now c.self-2.inside.contents.resources c.in-Some.state it.0) c.service.ensures it.1).named in
    let there = subst (λ s. numbered (c.args.key.now.life, c.args.key.now.generation) s.end.resources ≡ Some it.0) c.self-2.view_is it.1.numbered in
    learnt_nothing g.D.Disk.told c.args.self.now c.args.key.now c.args.heard.now c.reread.new.self read it.0 is
    (ap (λ x. learnt x c.args.heard.now) it.1.stands ∙ sym c.learns.ensures ∙ c.in_default.is)
