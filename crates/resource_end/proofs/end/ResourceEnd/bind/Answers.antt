use Rattle.std.proofs.Common.{◌≡◌, None, sym, subst}
use Rattle.std.specs.Prelude.{find, Ok, Err}
use Rattle.resource_end.specs.declared.fault.EndFault.TheVariants as faults
use Rattle.resource_end.specs.Calls.{bind, bound}
use Rattle.resource_end.specs.End.{is_named, with_resource}
use Rattle.resource_end.specs.Inside.{IsNamed, IsWhole, numbered}
use Rattle.resource_end.specs.Journaling.{IsAlone}
use Rattle.resource_end.proofs.Claims.{at_known}
use Rattle.resource_end.proofs.Frames.{whole_bound}
use Rattle.resource_end.proofs.Making.{bound_none, bound_one}
use Rattle.resource_end.proofs.Writing.{seen}
use Rattle.resource_end.proofs.Staying.{bound_stays}
use Rattle.resource_end.proofs.end.ResourceEnd.bind.Goals as goal

pub returns-in-None-clause-called : goal.returns-in-None-clause-called
returns-in-None-clause-called g c =
    subst (λ s. IsAlone s s (Err faults.ObjectNotExist) (bind c.args.key.now c.args.recovery s.end)) c.self.view_is
    (bound_none c.self.inside.journal c.self.inside.drawn c.self.inside.contents c.self.inside.changed c.args.key.now c.args.recovery
    (subst (λ n. find (is_named n c.args.key.now) c.self.inside.contents.resources ≡ None) c.service.ensures c.in-None.ensures))

pub invariant_of-self : goal.invariant_of-self
invariant_of-self g c =
    let it = c.in-Some.ensures in
    let after = at_known (numbered (c.args.key.now.life, c.args.key.now.generation) c.self.inside.contents.resources) it.0
    (λ r. c.bind.new.self ≡ record c.self.inside.contents { resources = with_resource (bound c.args.recovery r) c.self.inside.contents.resources })
    it.1.numbered c.bind.ensures.after in
    subst (λ x. IsWhole c.self.inside.journal c.self.inside.drawn c.self.inside.recovery x.resources) (sym after)
    (whole_bound c.self.inside.journal c.self.inside.drawn c.self.inside.recovery c.self.inside.contents.resources c.self.invariant
    (c.args.key.now.life, c.args.key.now.generation) it.0 c.args.recovery it.1.numbered c.bytes-fits.ensures.short)

pub returns-in-Some-clause-called : goal.returns-in-Some-clause-called
returns-in-Some-clause-called g c =
    let it = c.in-Some.ensures in
    let after = at_known (numbered (c.args.key.now.life, c.args.key.now.generation) c.self.inside.contents.resources) it.0
    (λ r. c.bind.new.self ≡ record c.self.inside.contents { resources = with_resource (bound c.args.recovery r) c.self.inside.contents.resources })
    it.1.numbered c.bind.ensures.after in
    subst (λ s. IsAlone s (seen c.self.inside.journal c.self.inside.drawn c.bind.new.self c.self.inside.changed) (Ok tt) (bind c.args.key.now c.args.recovery s.end)) c.self.view_is
    (bound_one c.self.inside.journal c.self.inside.drawn c.self.inside.contents c.self.inside.changed c.args.key.now c.args.recovery it.0 c.bind.new.self
    (subst (λ n. IsNamed n c.args.key.now c.self.inside.contents.resources c.in-Some.field-0 it.0) c.service.ensures it.1).named after)

pub returns-in-Some-clause-stays : goal.returns-in-Some-clause-stays
returns-in-Some-clause-stays g c =
    λ h. bound_stays g.D.Disk.told c.args.self.now (seen c.self.inside.journal c.self.inside.drawn c.bind.new.self c.self.inside.changed) h
    c.args.key.now c.args.recovery (Ok tt) (returns-in-Some-clause-called g c)
