use Rattle.std.proofs.Common.{◌≡◌, ◌∙◌, ◌<◌, ◌^◌, false, Some, None, refl, sym, subst}
use Rattle.std.specs.Prelude.{IfSome, IsSome, IsTrue, Ok, Err}
use Rattle.decision_journal.specs.Journal.{can_follow}
use Rattle.resource_end.specs.declared.fault.EndFault.TheVariants as faults
use Rattle.resource_end.specs.End.{record_for}
use Rattle.resource_end.specs.Laws.{IsOf}
use Rattle.resource_end.specs.Inside.{CanMove, HasMoved, IsRecallable, IsRecorded, IsWhole, IsWritable, changed, named_by, numbered, placed}
use Rattle.resource_end.proofs.Again.{if_there}
use Rattle.resource_end.proofs.Claims.{at_known, known}
use Rattle.resource_end.proofs.Frames.{whole_moved}
use Rattle.resource_end.proofs.Moving.{changes_seen, due_fits, due_follows, due_is, due_recallable, is_of, moved_alone, moved_by_record, some_of}
use Rattle.resource_end.proofs.Writing.{doubts_nothing, seen, starved}
use Rattle.resource_end.proofs.end.ResourceEnd.moves.Goals as goal

pub returns-in-Err-clause-moves : goal.returns-in-Err-clause-moves
returns-in-Err-clause-moves g c =
    let it = known (numbered c.args.id c.args.self.now.end.resources) c.requires.known (λ r. CanMove r.state c.args.next) c.requires.can in
    let there = subst (λ s. numbered c.args.id s.end.resources ≡ Some it.0) (sym c.self.view_is) it.1.0 in
    let wanted = some_of (record_for c.args.next it.0)
    (at_known (numbered c.args.id c.self.inside.contents.resources) it.0 (λ r. IsSome (record_for c.args.next r)) there c.in-Err.ensures.wanting) in
    let none = doubts_nothing c.self.inside.journal.failed c.self.inside.journal.doubted
    (subst (λ s. s.journal.failed ≡ false) (sym c.self.view_is) c.requires.ready) c.self.invariant.failed in
    let of = is_of c.self.inside.journal.found.standing c.self.inside.contents.resources c.args.id it.0 there c.self.invariant.recorded c.in-Err.ensures.apart
    (seen c.self.inside.journal c.self.inside.drawn c.self.inside.contents c.self.inside.changed).end refl in
    if_there (numbered c.args.id c.args.self.now.end.resources) it.0 (HasMoved g.D.Disk.told c.args.self.now c.args.self.now (Err faults.Memory) c.args.next) it.1.0
    (subst (λ s. HasMoved g.D.Disk.told s s (Err faults.Memory) c.args.next it.0) c.self.view_is
    (moved_by_record g.D.Disk.told (seen c.self.inside.journal c.self.inside.drawn c.self.inside.contents c.self.inside.changed)
    (seen c.self.inside.journal c.self.inside.drawn c.self.inside.contents c.self.inside.changed) (Err faults.Memory) c.args.next it.0 wanted.0 wanted.1 of
    (starved g.D.Disk.told c.self.inside.journal c.self.inside.journal c.self.inside.journal.room c.self.inside.drawn c.self.inside.contents c.self.inside.changed
    wanted.0 none refl)))

pub write-requires-clause-fits : goal.write-requires-clause-fits
write-requires-clause-fits g c =
    let it = known (numbered c.args.id c.args.self.now.end.resources) c.requires.known (λ r. CanMove r.state c.args.next) c.requires.can in
    let there = subst (λ s. numbered c.args.id s.end.resources ≡ Some it.0) (sym c.self.view_is) it.1.0 in
    let is = due_is c.in-Ok.due (numbered c.args.id c.self.inside.contents.resources) it.0 c.args.next there c.in-Ok.ensures.item ∙ c.in-Some.is in
    due_fits c.self.inside.journal.found c.self.inside.drawn c.self.inside.contents.resources c.args.id it.0 c.args.next c.in-Some.item there is
    (at_known (numbered c.args.id c.self.inside.contents.resources) it.0 (λ r. IsWritable c.self.inside.drawn r.state r) there (c.self.invariant.writable c.args.id))
    (at_known (numbered c.args.id c.self.inside.contents.resources) it.0 (λ r. IfSome r.record_place (λ place. place < 2 ^ 32)) there c.in-Ok.ensures.place)

pub write-requires-clause-follows : goal.write-requires-clause-follows
write-requires-clause-follows g c =
    let it = known (numbered c.args.id c.args.self.now.end.resources) c.requires.known (λ r. CanMove r.state c.args.next) c.requires.can in
    let there = subst (λ s. numbered c.args.id s.end.resources ≡ Some it.0) (sym c.self.view_is) it.1.0 in
    let is = due_is c.in-Ok.due (numbered c.args.id c.self.inside.contents.resources) it.0 c.args.next there c.in-Ok.ensures.item ∙ c.in-Some.is in
    subst (λ s. IsTrue (can_follow s.journal.found c.in-Some.item)) c.self.view_is
    (due_follows c.self.inside.journal.found c.self.inside.drawn c.self.inside.contents.resources c.args.id it.0 c.args.next c.in-Some.item there is
    (at_known (numbered c.args.id c.self.inside.contents.resources) it.0 (IsRecorded c.self.inside.journal.found.standing c.args.id) there (c.self.invariant.recorded c.args.id)))

pub write-requires-clause-recallable : goal.write-requires-clause-recallable
write-requires-clause-recallable g c =
    let it = known (numbered c.args.id c.args.self.now.end.resources) c.requires.known (λ r. CanMove r.state c.args.next) c.requires.can in
    let there = subst (λ s. numbered c.args.id s.end.resources ≡ Some it.0) (sym c.self.view_is) it.1.0 in
    let is = due_is c.in-Ok.due (numbered c.args.id c.self.inside.contents.resources) it.0 c.args.next there c.in-Ok.ensures.item ∙ c.in-Some.is in
    subst (λ s. IsRecallable c.in-Some.item (named_by c.in-Some.item) s.end.resources) c.self.view_is
    (due_recallable c.self.inside.journal.found c.self.inside.drawn c.self.inside.contents.resources c.args.id it.0 c.args.next c.in-Some.item there is)

pub invariant_of-self : goal.invariant_of-self
invariant_of-self g c =
    let it = known (numbered c.args.id c.args.self.now.end.resources) c.requires.known (λ r. CanMove r.state c.args.next) c.requires.can in
    let there = subst (λ s. numbered c.args.id s.end.resources ≡ Some it.0) (sym c.self.view_is) it.1.0 in
    let none = doubts_nothing c.self.inside.journal.failed c.self.inside.journal.doubted
    (subst (λ s. s.journal.failed ≡ false) (sym c.self.view_is) c.requires.ready) c.self.invariant.failed in
    let after = at_known (numbered c.args.id c.self.inside.contents.resources) it.0
    (λ r. c.change.new.self ≡ changed c.args.next (placed c.args.next None r) c.self.inside.contents) there c.change.ensures in
    subst (λ x. IsWhole c.self.inside.journal c.self.inside.drawn c.self.inside.recovery x.resources) (sym after)
    (whole_moved c.self.inside.journal c.self.inside.drawn c.self.inside.recovery c.self.inside.contents.resources c.self.invariant
    c.args.id it.0 c.args.next there it.1.1.closed none)

pub returns-in-Some-clause-moves : goal.returns-in-Some-clause-moves
returns-in-Some-clause-moves g c =
    let it = known (numbered c.args.id c.args.self.now.end.resources) c.requires.known (λ r. CanMove r.state c.args.next) c.requires.can in
    let there = subst (λ s. numbered c.args.id s.end.resources ≡ Some it.0) (sym c.self.view_is) it.1.0 in
    let is = due_is c.in-Ok.due (numbered c.args.id c.self.inside.contents.resources) it.0 c.args.next there c.in-Ok.ensures.item ∙ c.in-Some.is in
    let of = is_of c.self.inside.journal.found.standing c.self.inside.contents.resources c.args.id it.0 there c.self.invariant.recorded c.in-Ok.ensures.apart
    (seen c.self.inside.journal c.self.inside.drawn c.self.inside.contents c.self.inside.changed).end refl in
    if_there (numbered c.args.id c.args.self.now.end.resources) it.0 (HasMoved g.D.Disk.told c.args.self.now c.write.new.self c.write.result c.args.next) it.1.0
    (moved_by_record g.D.Disk.told c.args.self.now c.write.new.self c.write.result c.args.next it.0 c.in-Some.item is
    (subst (λ s. IsOf s.end it.0) c.self.view_is of) c.write.ensures.writes)

pub returns-in-None-clause-moves : goal.returns-in-None-clause-moves
returns-in-None-clause-moves g c =
    let it = known (numbered c.args.id c.args.self.now.end.resources) c.requires.known (λ r. CanMove r.state c.args.next) c.requires.can in
    let there = subst (λ s. numbered c.args.id s.end.resources ≡ Some it.0) (sym c.self.view_is) it.1.0 in
    let is = due_is c.in-Ok.due (numbered c.args.id c.self.inside.contents.resources) it.0 c.args.next there c.in-Ok.ensures.item ∙ c.in-None.is in
    let after = at_known (numbered c.args.id c.self.inside.contents.resources) it.0
    (λ r. c.change.new.self ≡ changed c.args.next (placed c.args.next None r) c.self.inside.contents) there c.change.ensures in
    if_there (numbered c.args.id c.args.self.now.end.resources) it.0 (HasMoved g.D.Disk.told c.args.self.now
    (seen c.self.inside.journal c.self.inside.drawn c.change.new.self c.self.inside.changed) (Ok tt) c.args.next) it.1.0
    (subst (λ s. HasMoved g.D.Disk.told s (seen c.self.inside.journal c.self.inside.drawn c.change.new.self c.self.inside.changed) (Ok tt) c.args.next it.0) c.self.view_is
    (moved_alone g.D.Disk.told (seen c.self.inside.journal c.self.inside.drawn c.self.inside.contents c.self.inside.changed)
    (seen c.self.inside.journal c.self.inside.drawn c.change.new.self c.self.inside.changed) c.args.next it.0 is refl
    (changes_seen c.self.inside.journal c.self.inside.drawn c.self.inside.contents c.change.new.self c.self.inside.changed c.args.next it.0 after)))
