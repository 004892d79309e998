use Rattle.std.proofs.Common.{◌≡◌, ◌∙◌, ◌+◌, ◌<◌, ◌^◌, inl, inr, ap, sym, subst, true, false}
use Rattle.std.specs.Prelude.{Ok, Err}
use Rattle.std.proofs.lemmas.Bool.{eq-eqb, ne_eqb}
use Rattle.resource_end.specs.declared.fault.EndFault.TheVariants as faults
use Rattle.resource_end.specs.Limits.{object_limit, synchronization_kind}
use Rattle.resource_end.specs.Calls.{fresh, is_spent, key_of}
use Rattle.resource_end.specs.End.{with_resource}
use Rattle.resource_end.specs.Inside.{IsWhole, fresh_one}
use Rattle.resource_end.specs.Journaling.{IsAlone}
use Rattle.resource_end.proofs.Frames.{whole_made}
use Rattle.resource_end.proofs.Making.{can_prepare, made_none, made_resource, made_synchronization}
use Rattle.resource_end.proofs.Writing.{memory_err, seen}
use Rattle.resource_end.proofs.Staying.{made_has_none, made_stays}
use Rattle.resource_end.proofs.end.ResourceEnd.fresh.Goals as goal

pub returns-then-is_spent-clause-called : goal.returns-then-is_spent-clause-called
returns-then-is_spent-clause-called g c =
    let spent = subst (λ s. is_spent c.args.kind s.end ≡ true) (sym c.self.view_is) (sym c.is_spent.ensures.spent ∙ c.if-is_spent.true) in
    inl (subst (λ s. IsAlone s s (Err faults.NoResources) (fresh c.args.kind s.end)) c.self.view_is
    (made_none c.self.inside.journal c.self.inside.drawn c.self.inside.contents c.self.inside.changed c.args.kind spent))

pub returns-then-kind-eq-SYNCHRONIZATION_KIND-clause-called : goal.returns-then-kind-eq-SYNCHRONIZATION_KIND-clause-called
returns-then-kind-eq-SYNCHRONIZATION_KIND-clause-called g c =
    let left = subst (λ s. is_spent c.args.kind s.end ≡ false) (sym c.self.view_is) (sym c.is_spent.ensures.spent ∙ c.if-is_spent.false) in
    let key = subst (λ s. c.next_key-key.result ≡ key_of c.args.kind (s.end.drawn + 1) s.end) (sym c.self.view_is) c.next_key-key.ensures.key in
    inl (subst (λ s. IsAlone s (seen c.self.inside.journal (c.self.inside.drawn + 1) c.self.inside.contents c.self.inside.changed) (Ok c.next_key-key.result) (fresh c.args.kind s.end))
    c.self.view_is
    (made_synchronization c.self.inside.journal c.self.inside.drawn c.self.inside.contents c.self.inside.changed c.args.kind c.next_key-key.result left
    (eq-eqb c.args.kind synchronization_kind c.if-kind-eq-SYNCHRONIZATION_KIND.true) key))

pub invariant_of-self-2 : goal.invariant_of-self-2
invariant_of-self-2 g c =
    let key = subst (λ s. c.next_key-key.result ≡ key_of c.args.kind (s.end.drawn + 1) s.end) (sym c.self.view_is) c.next_key-key.ensures.key in
    let life = subst (λ k. k.life < 2 ^ 32) key c.next_key-key.ensures.life in
    let left = subst (λ s. s.end.drawn < object_limit) (sym c.self.view_is) (c.is_spent.ensures.left c.if-is_spent.false) in
    subst (λ x. IsWhole c.self.inside.journal (c.self.inside.drawn + 1) c.self.inside.recovery x.resources)
    (sym (c.in_ok-add.ensures.ok
    ∙ (λ i. record c.self.inside.contents { resources = with_resource (fresh_one ((key i).life, (key i).generation) c.args.kind) c.self.inside.contents.resources })))
    (whole_made c.self.inside.journal c.self.inside.drawn c.self.inside.recovery c.self.inside.contents.resources c.self.invariant
    c.self.inside.journal.found.life c.args.kind (can_prepare c.self.inside.journal.found.life c.self.inside.drawn c.args.kind life left))

pub returns-clause-called : goal.returns-clause-called
returns-clause-called g c =
    let left = subst (λ s. is_spent c.args.kind s.end ≡ false) (sym c.self.view_is) (sym c.is_spent.ensures.spent ∙ c.if-is_spent.false) in
    let key = subst (λ s. c.next_key-key.result ≡ key_of c.args.kind (s.end.drawn + 1) s.end) (sym c.self.view_is) c.next_key-key.ensures.key in
    inl (subst (λ s. IsAlone s (seen c.self.inside.journal (c.self.inside.drawn + 1) c.add.new.self c.self.inside.changed) (Ok c.next_key-key.result) (fresh c.args.kind s.end))
    c.self.view_is
    (made_resource c.self.inside.journal c.self.inside.drawn c.self.inside.contents c.self.inside.changed c.args.kind c.add.new.self c.next_key-key.result left
    (ne_eqb c.args.kind synchronization_kind c.if-kind-eq-SYNCHRONIZATION_KIND.false) key
    (c.in_ok-add.ensures.ok
    ∙ (λ i. record c.self.inside.contents { resources = with_resource (fresh_one ((key i).life, (key i).generation) c.args.kind) c.self.inside.contents.resources }))))

pub returns-then-kind-eq-SYNCHRONIZATION_KIND-clause-stays : goal.returns-then-kind-eq-SYNCHRONIZATION_KIND-clause-stays
returns-then-kind-eq-SYNCHRONIZATION_KIND-clause-stays g c =
    λ h. made_stays g.D.Disk.told c.args.self.now (seen c.self.inside.journal (c.self.inside.drawn + 1) c.self.inside.contents c.self.inside.changed) h
    c.args.kind (Ok c.next_key-key.result) (returns-then-kind-eq-SYNCHRONIZATION_KIND-clause-called g c)

pub returns-clause-stays : goal.returns-clause-stays
returns-clause-stays g c =
    λ h. made_stays g.D.Disk.told c.args.self.now (seen c.self.inside.journal (c.self.inside.drawn + 1) c.add.new.self c.self.inside.changed) h
    c.args.kind (Ok c.next_key-key.result) (returns-clause-called g c)

pub returns-then-kind-eq-SYNCHRONIZATION_KIND-clause-apart : goal.returns-then-kind-eq-SYNCHRONIZATION_KIND-clause-apart
returns-then-kind-eq-SYNCHRONIZATION_KIND-clause-apart g c =
    λ h. made_has_none g.D.Disk.told c.args.self.now (seen c.self.inside.journal (c.self.inside.drawn + 1) c.self.inside.contents c.self.inside.changed) h
    c.args.kind (Ok c.next_key-key.result) (returns-then-kind-eq-SYNCHRONIZATION_KIND-clause-called g c)

pub returns-clause-apart : goal.returns-clause-apart
returns-clause-apart g c =
    λ h. made_has_none g.D.Disk.told c.args.self.now (seen c.self.inside.journal (c.self.inside.drawn + 1) c.add.new.self c.self.inside.changed) h
    c.args.kind (Ok c.next_key-key.result) (returns-clause-called g c)

pub returns-in_err-add-clause-called : goal.returns-in_err-add-clause-called
returns-in_err-add-clause-called g c =
    inr (record {
      left = sym c.is_spent.ensures.spent ∙ c.if-is_spent.false;
      resource = ne_eqb c.args.kind synchronization_kind c.if-kind-eq-SYNCHRONIZATION_KIND.false;
      same = ap (λ x. seen c.self.inside.journal c.self.inside.drawn x c.self.inside.changed) c.in_err-add.ensures.err ∙ c.self.view_is;
      answer = memory_err c.from_residual.result c.from_residual.ensures.1;
    })
