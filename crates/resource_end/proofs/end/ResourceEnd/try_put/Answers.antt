use Rattle.std.proofs.Common.{◌≡◌, ◌∙◌, inl, inr, false, true, None, Some, ap, sym, subst}
use Rattle.std.specs.Prelude.{find, Err}
use Rattle.std.specs.Option.{option_map}
use Rattle.resource_end.specs.declared.fault.EndFault.TheVariants as faults
use Rattle.resource_end.specs.States.{is_unfinished}
use Rattle.resource_end.specs.Calls.{has_room, put, with_cell}
use Rattle.resource_end.specs.End.{Resource, other_holder, with_resource}
use Rattle.resource_end.specs.Inside.{HasOwnPuts, IsWhole, IsWritable, is_other_holder, numbered}
use Rattle.resource_end.specs.Journaling.{IsStarved}
use Rattle.resource_end.proofs.Again.{if_there, open_unfinished}
use Rattle.resource_end.proofs.Changing.{holder_by, no_holder, put_closed, put_done, put_full, put_held, put_starved, put_unread}
use Rattle.resource_end.proofs.Claims.{at_known}
use Rattle.resource_end.proofs.Putting.{owns, whole_put}
use Rattle.resource_end.proofs.Writing.{doubts_nothing, seen}
use Rattle.resource_end.proofs.end.ResourceEnd.try_put.Goals as goal

pub returns-in-Err-clause-called : goal.returns-in-Err-clause-called
returns-in-Err-clause-called g c =
    inl (put_unread g.D.Disk.told c.args.self.now c.args.key.now c.args.cell c.args.value c.reread.new.self c.in-Err.fault c.in-Err.ensures.rereads)

pub returns-in-Err-needs_open-clause-called : goal.returns-in-Err-needs_open-clause-called
returns-in-Err-needs_open-clause-called g c =
    inl (put_closed g.D.Disk.told c.args.self.now c.args.key.now c.args.cell c.args.value c.reread.new.self c.in-Ok.ensures.rereads
    c.in-Err-needs_open.fault c.in-Err-needs_open.ensures.refused)

pub returns-in-Some-clause-called : goal.returns-in-Some-clause-called
returns-in-Some-clause-called g c =
    let it = c.in-Ok-needs_open.ensures.can_put in
    let there = subst (λ s. numbered (c.args.key.now.life, c.args.key.now.generation) s.end.resources ≡ Some it.resource) (sym c.self.view_is) it.is_numbered in
    let others : find (is_other_holder (c.args.key.now.life, c.args.key.now.generation) c.args.cell) c.reread.new.self.end.resources ≡ other_holder it.resource c.args.cell c.reread.new.self.end =
    holder_by (c.args.key.now.life, c.args.key.now.generation) it.resource c.args.cell c.reread.new.self.end.resources it.is_numbered in
    let held = subst (λ s. Some c.in-Some.number ≡ option_map (λ (r : Resource). r.number) (find (is_other_holder (c.args.key.now.life, c.args.key.now.generation) c.args.cell) s.end.resources)) c.self.view_is c.in-Some.ensures in
    inl (put_held g.D.Disk.told c.args.self.now c.args.key.now c.args.cell c.args.value c.reread.new.self c.in-Ok.ensures.rereads it.resource it.is_named it.can_put
    c.in-Some.number (held ∙ ap (option_map (λ (r : Resource). r.number)) others))

pub returns-then-not-has_room-clause-called : goal.returns-then-not-has_room-clause-called
returns-then-not-has_room-clause-called g c =
    let it = c.in-Ok-needs_open.ensures.can_put in
    let there = subst (λ s. numbered (c.args.key.now.life, c.args.key.now.generation) s.end.resources ≡ Some it.resource) (sym c.self.view_is) it.is_numbered in
    let others : find (is_other_holder (c.args.key.now.life, c.args.key.now.generation) c.args.cell) c.reread.new.self.end.resources ≡ other_holder it.resource c.args.cell c.reread.new.self.end =
    holder_by (c.args.key.now.life, c.args.key.now.generation) it.resource c.args.cell c.reread.new.self.end.resources it.is_numbered in
    let free = subst (λ s. None ≡ option_map (λ (r : Resource). r.number) (find (is_other_holder (c.args.key.now.life, c.args.key.now.generation) c.args.cell) s.end.resources)) c.self.view_is c.in_default.ensures in
    let none = sym others ∙ no_holder (find (is_other_holder (c.args.key.now.life, c.args.key.now.generation) c.args.cell) c.reread.new.self.end.resources) free in
    let room = sym (at_known (numbered (c.args.key.now.life, c.args.key.now.generation) c.self.inside.contents.resources) it.resource (λ r. c.has_room.result ≡ has_room c.args.cell r) there c.has_room.ensures) in
    inl (put_full g.D.Disk.told c.args.self.now c.args.key.now c.args.cell c.args.value c.reread.new.self c.in-Ok.ensures.rereads it.resource it.is_named it.can_put
    none (room ∙ c.if-not-has_room.true))

pub put-requires-clause-clean : goal.put-requires-clause-clean
put-requires-clause-clean g c =
    let it = c.in-Ok-needs_open.ensures.can_put in
    let there = subst (λ s. numbered (c.args.key.now.life, c.args.key.now.generation) s.end.resources ≡ Some it.resource) (sym c.self.view_is) it.is_numbered in
    if_there (numbered (c.args.key.now.life, c.args.key.now.generation) c.self.inside.contents.resources) it.resource HasOwnPuts there
    (owns c.self.inside.drawn it.resource it.can_put
    (at_known (numbered (c.args.key.now.life, c.args.key.now.generation) c.self.inside.contents.resources) it.resource (λ r. IsWritable c.self.inside.drawn r.state r) there (c.self.invariant.writable (c.args.key.now.life, c.args.key.now.generation))))

pub put-requires-clause-unfinished : goal.put-requires-clause-unfinished
put-requires-clause-unfinished g c =
    let it = c.in-Ok-needs_open.ensures.can_put in
    let there = subst (λ s. numbered (c.args.key.now.life, c.args.key.now.generation) s.end.resources ≡ Some it.resource) (sym c.self.view_is) it.is_numbered in
    if_there (numbered (c.args.key.now.life, c.args.key.now.generation) c.self.inside.contents.resources) it.resource (λ r. is_unfinished r.state ≡ true) there
    (open_unfinished it.resource.state it.can_put)

pub invariant_of-self-2 : goal.invariant_of-self-2
invariant_of-self-2 g c =
    let it = c.in-Ok-needs_open.ensures.can_put in
    let there = subst (λ s. numbered (c.args.key.now.life, c.args.key.now.generation) s.end.resources ≡ Some it.resource) (sym c.self.view_is) it.is_numbered in
    let room = sym (at_known (numbered (c.args.key.now.life, c.args.key.now.generation) c.self.inside.contents.resources) it.resource (λ r. c.has_room.result ≡ has_room c.args.cell r) there c.has_room.ensures) in
    let after = at_known (numbered (c.args.key.now.life, c.args.key.now.generation) c.self.inside.contents.resources) it.resource
    (λ r. c.put.new.self ≡ record c.self.inside.contents { resources = with_resource (with_cell c.args.cell c.args.value r) c.self.inside.contents.resources }) there c.in-Ok-put.ensures.ok in
    let none = doubts_nothing c.self.inside.journal.failed c.self.inside.journal.doubted
    (subst (λ s. s.journal.failed ≡ false) (sym c.self.view_is) c.in-Ok.ensures.ready) c.self.invariant.failed in
    subst (λ x. IsWhole c.self.inside.journal c.self.inside.drawn c.self.inside.recovery x.resources) (sym after)
    (whole_put c.self.inside.journal c.self.inside.drawn c.self.inside.recovery c.self.inside.contents.resources c.self.invariant
    (c.args.key.now.life, c.args.key.now.generation) it.resource (record { cell = c.args.cell; value = c.args.value }) there it.can_put (c.ranges.cell.fits, c.ranges.value.fits)
    (room ∙ c.if-not-has_room.false) none)

pub returns-in-Err-put-clause-called : goal.returns-in-Err-put-clause-called
returns-in-Err-put-clause-called g c =
    let it = c.in-Ok-needs_open.ensures.can_put in
    let there = subst (λ s. numbered (c.args.key.now.life, c.args.key.now.generation) s.end.resources ≡ Some it.resource) (sym c.self.view_is) it.is_numbered in
    let others : find (is_other_holder (c.args.key.now.life, c.args.key.now.generation) c.args.cell) c.reread.new.self.end.resources ≡ other_holder it.resource c.args.cell c.reread.new.self.end =
    holder_by (c.args.key.now.life, c.args.key.now.generation) it.resource c.args.cell c.reread.new.self.end.resources it.is_numbered in
    let free = subst (λ s. None ≡ option_map (λ (r : Resource). r.number) (find (is_other_holder (c.args.key.now.life, c.args.key.now.generation) c.args.cell) s.end.resources)) c.self.view_is c.in_default.ensures in
    let none = sym others ∙ no_holder (find (is_other_holder (c.args.key.now.life, c.args.key.now.generation) c.args.cell) c.reread.new.self.end.resources) free in
    let room = sym (at_known (numbered (c.args.key.now.life, c.args.key.now.generation) c.self.inside.contents.resources) it.resource (λ r. c.has_room.result ≡ has_room c.args.cell r) there c.has_room.ensures) in
    let same = sym c.self.view_is ∙ ap (λ x. seen c.self.inside.journal c.self.inside.drawn x c.self.inside.changed) (sym c.in-Err-put.ensures.err) in
    inr (subst (λ s. IsStarved g.D.Disk.told c.args.self.now s (Err faults.Memory) (put c.args.key.now c.args.cell c.args.value)) same
    (put_starved g.D.Disk.told c.args.self.now c.args.key.now c.args.cell c.args.value c.reread.new.self c.in-Ok.ensures.rereads it.resource it.is_named it.can_put
    none (room ∙ c.if-not-has_room.false)))

pub returns-clause-called : goal.returns-clause-called
returns-clause-called g c =
    let it = c.in-Ok-needs_open.ensures.can_put in
    let there = subst (λ s. numbered (c.args.key.now.life, c.args.key.now.generation) s.end.resources ≡ Some it.resource) (sym c.self.view_is) it.is_numbered in
    let others : find (is_other_holder (c.args.key.now.life, c.args.key.now.generation) c.args.cell) c.reread.new.self.end.resources ≡ other_holder it.resource c.args.cell c.reread.new.self.end =
    holder_by (c.args.key.now.life, c.args.key.now.generation) it.resource c.args.cell c.reread.new.self.end.resources it.is_numbered in
    let free = subst (λ s. None ≡ option_map (λ (r : Resource). r.number) (find (is_other_holder (c.args.key.now.life, c.args.key.now.generation) c.args.cell) s.end.resources)) c.self.view_is c.in_default.ensures in
    let none = sym others ∙ no_holder (find (is_other_holder (c.args.key.now.life, c.args.key.now.generation) c.args.cell) c.reread.new.self.end.resources) free in
    let room = sym (at_known (numbered (c.args.key.now.life, c.args.key.now.generation) c.self.inside.contents.resources) it.resource (λ r. c.has_room.result ≡ has_room c.args.cell r) there c.has_room.ensures) in
    let after = at_known (numbered (c.args.key.now.life, c.args.key.now.generation) c.self.inside.contents.resources) it.resource
    (λ r. c.put.new.self ≡ record c.self.inside.contents { resources = with_resource (with_cell c.args.cell c.args.value r) c.self.inside.contents.resources }) there c.in-Ok-put.ensures.ok in
    inl (put_done g.D.Disk.told c.args.self.now c.args.key.now c.args.cell c.args.value c.reread.new.self c.in-Ok.ensures.rereads it.resource it.is_named it.can_put
    (seen c.self.inside.journal c.self.inside.drawn c.put.new.self c.self.inside.changed) none (room ∙ c.if-not-has_room.false)
    (ap (λ s. s.journal) c.self.view_is)
    (ap (λ x. (seen c.self.inside.journal c.self.inside.drawn x c.self.inside.changed).end) after
    ∙ ap (λ s. record s.end { resources = with_resource (with_cell c.args.cell c.args.value it.resource) s.end.resources }) c.self.view_is))
