use Rattle.std.proofs.Common.{◌≡◌, ◌∙◌, false, None, Some, refl, ap, sym, subst}
use Rattle.std.specs.Prelude.{IsSome}
use Rattle.resource_end.specs.declared.state.State.TheVariants as states
use Rattle.resource_end.specs.End.{changes}
use Rattle.resource_end.specs.Inside.{IsWhole, MayFollow, changed, numbered, placed}
use Rattle.resource_end.proofs.Again.{if_there, open_may}
use Rattle.resource_end.proofs.Changing.{refuse_closed, refuse_done, refuse_unread}
use Rattle.resource_end.proofs.Claims.{at_known}
use Rattle.resource_end.proofs.Frames.{whole_moved}
use Rattle.resource_end.proofs.Moving.{changes_seen}
use Rattle.resource_end.proofs.Writing.{doubts_nothing, seen}
use Rattle.resource_end.proofs.end.ResourceEnd.try_refuse.Goals as goal

pub returns-in-Err-clause-called : goal.returns-in-Err-clause-called
returns-in-Err-clause-called g c =
    refuse_unread g.D.Disk.told c.args.self.now c.args.key.now c.reread.new.self c.in-Err.fault c.in-Err.ensures.rereads

pub returns-in-Err-needs_open-clause-called : goal.returns-in-Err-needs_open-clause-called
returns-in-Err-needs_open-clause-called g c =
    refuse_closed g.D.Disk.told c.args.self.now c.args.key.now c.reread.new.self c.in-Ok.ensures.rereads c.in-Err-needs_open.fault c.in-Err-needs_open.ensures.refused

pub change-requires : goal.change-requires
change-requires g c =
    let it = c.in-Ok-needs_open.ensures.can_put in
    let there = subst (λ s. numbered (c.args.key.now.life, c.args.key.now.generation) s.end.resources ≡ Some it.resource) (sym c.self.view_is) it.is_numbered in
    record {
      known = subst IsSome (sym there) refl;
      follows = if_there (numbered (c.args.key.now.life, c.args.key.now.generation) c.self.inside.contents.resources) it.resource
          (λ r. MayFollow states.Refused r.state) there (open_may it.resource.state it.can_put);
    }

pub invariant_of-self : goal.invariant_of-self
invariant_of-self g c =
    let it = c.in-Ok-needs_open.ensures.can_put in
    let there = subst (λ s. numbered (c.args.key.now.life, c.args.key.now.generation) s.end.resources ≡ Some it.resource) (sym c.self.view_is) it.is_numbered in
    let after = at_known (numbered (c.args.key.now.life, c.args.key.now.generation) c.self.inside.contents.resources) it.resource
    (λ r. c.change.new.self ≡ changed states.Refused (placed states.Refused None r) c.self.inside.contents) there c.change.ensures in
    let none = doubts_nothing c.self.inside.journal.failed c.self.inside.journal.doubted
    (subst (λ s. s.journal.failed ≡ false) (sym c.self.view_is) c.in-Ok.ensures.ready) c.self.invariant.failed in
    subst (λ x. IsWhole c.self.inside.journal c.self.inside.drawn c.self.inside.recovery x.resources) (sym after)
    (whole_moved c.self.inside.journal c.self.inside.drawn c.self.inside.recovery c.self.inside.contents.resources c.self.invariant
    (c.args.key.now.life, c.args.key.now.generation) it.resource states.Refused there refl none)

pub returns-clause-called : goal.returns-clause-called
returns-clause-called g c =
    let it = c.in-Ok-needs_open.ensures.can_put in
    let there = subst (λ s. numbered (c.args.key.now.life, c.args.key.now.generation) s.end.resources ≡ Some it.resource) (sym c.self.view_is) it.is_numbered in
    let after = at_known (numbered (c.args.key.now.life, c.args.key.now.generation) c.self.inside.contents.resources) it.resource
    (λ r. c.change.new.self ≡ changed states.Refused (placed states.Refused None r) c.self.inside.contents) there c.change.ensures in
    refuse_done g.D.Disk.told c.args.self.now c.args.key.now c.reread.new.self c.in-Ok.ensures.rereads it.resource
    (seen c.self.inside.journal c.self.inside.drawn c.change.new.self c.self.inside.changed) it.is_named it.can_put
    (ap (λ s. s.journal) c.self.view_is)
    (changes_seen c.self.inside.journal c.self.inside.drawn c.self.inside.contents c.change.new.self c.self.inside.changed states.Refused it.resource after
    ∙ ap (λ s. changes states.Refused it.resource s.end) c.self.view_is)
