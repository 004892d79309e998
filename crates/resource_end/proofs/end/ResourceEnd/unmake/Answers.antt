use Rattle.std.proofs.Common.{◌≡◌, ◌∙◌, None, refl, ap, sym, subst}
use Rattle.std.specs.Prelude.{find, IsSome}
use Rattle.resource_end.specs.declared.state.State.TheVariants as states
use Rattle.resource_end.specs.Calls.{is_fresh, unmake}
use Rattle.resource_end.specs.End.{is_named}
use Rattle.resource_end.specs.Inside.{IsNamed, IsWhole, changed, numbered, placed}
use Rattle.resource_end.proofs.Again.{all_may}
use Rattle.resource_end.proofs.Claims.{at_known, its_number, itself}
use Rattle.resource_end.proofs.Frames.{whole_unmade}
use Rattle.resource_end.proofs.Making.{fresh_state, unmade_none, unmade_not, unmade_one}
use Rattle.resource_end.proofs.Named.{one_number}
use Rattle.resource_end.proofs.Writing.{seen}
use Rattle.resource_end.proofs.Staying.{unmade_stays}
use Rattle.resource_end.proofs.end.ResourceEnd.unmake.Goals as goal

pub returns-in-None-clause-called : goal.returns-in-None-clause-called
returns-in-None-clause-called g c =
    subst (λ s. s ≡ record s { end = unmake c.args.key.now s.end }) c.self.view_is
    (unmade_none c.self.inside.journal c.self.inside.drawn c.self.inside.contents c.self.inside.changed c.args.key.now
    (subst (λ n. find (is_named n c.args.key.now) c.self.inside.contents.resources ≡ None) c.service.ensures c.in-None.ensures))

pub returns-then-not-is_fresh-clause-called : goal.returns-then-not-is_fresh-clause-called
returns-then-not-is_fresh-clause-called g c =
    let it = c.in-Some.ensures in
    subst (λ s. s ≡ record s { end = unmake c.args.key.now s.end }) c.self.view_is
    (unmade_not c.self.inside.journal c.self.inside.drawn c.self.inside.contents c.self.inside.changed c.args.key.now it.0
    (subst (λ n. IsNamed n c.args.key.now c.self.inside.contents.resources c.in-Some.state it.0) c.service.ensures it.1).named
    (ap is_fresh it.1.stands ∙ sym c.if-not-is_fresh.ensures))

pub change-requires-clause-known : goal.change-requires-clause-known
change-requires-clause-known g c = subst IsSome (sym c.in-Some.ensures.1.numbered) refl

pub change-requires-clause-follows : goal.change-requires-clause-follows
change-requires-clause-follows g c =
    all_may states.Forgotten (numbered (c.args.key.now.life, c.args.key.now.generation) c.self.inside.contents.resources) refl

pub invariant_of-self : goal.invariant_of-self
invariant_of-self g c =
    let it = c.in-Some.ensures in
    let fresh = it.1.stands ∙ fresh_state c.in-Some.state (sym c.if-not-is_fresh.ensures) in
    let after = at_known (numbered (c.args.key.now.life, c.args.key.now.generation) c.self.inside.contents.resources) it.0
    (λ r. c.change.new.self ≡ changed states.Forgotten (placed states.Forgotten None r) c.self.inside.contents) it.1.numbered c.change.ensures in
    subst (λ x. IsWhole c.self.inside.journal c.self.inside.drawn c.self.inside.recovery x.resources) (sym after)
    (whole_unmade c.self.inside.journal c.self.inside.drawn c.self.inside.recovery c.self.inside.contents.resources c.self.invariant
    (it.0.life, it.0.number) it.0
    (ap (λ k. numbered k c.self.inside.contents.resources)
    (one_number (it.0.life, it.0.number) (c.args.key.now.life, c.args.key.now.generation) it.0 (itself it.0)
    (its_number (c.args.key.now.life, c.args.key.now.generation) c.self.inside.contents.resources it.0 it.1.numbered)) ∙ it.1.numbered) fresh)

pub returns-clause-called : goal.returns-clause-called
returns-clause-called g c =
    let it = c.in-Some.ensures in
    let fresh = it.1.stands ∙ fresh_state c.in-Some.state (sym c.if-not-is_fresh.ensures) in
    let after = at_known (numbered (c.args.key.now.life, c.args.key.now.generation) c.self.inside.contents.resources) it.0
    (λ r. c.change.new.self ≡ changed states.Forgotten (placed states.Forgotten None r) c.self.inside.contents) it.1.numbered c.change.ensures in
    subst (λ s. seen c.self.inside.journal c.self.inside.drawn c.change.new.self c.self.inside.changed ≡ record s { end = unmake c.args.key.now s.end }) c.self.view_is
    (unmade_one c.self.inside.journal c.self.inside.drawn c.self.inside.contents c.self.inside.changed c.args.key.now it.0 c.change.new.self
    (subst (λ n. IsNamed n c.args.key.now c.self.inside.contents.resources c.in-Some.state it.0) c.service.ensures it.1).named fresh after)

pub returns-clause-stays : goal.returns-clause-stays
returns-clause-stays g c =
    λ h. unmade_stays g.D.Disk.told c.args.self.now (seen c.self.inside.journal c.self.inside.drawn c.change.new.self c.self.inside.changed) h
    c.args.key.now (returns-clause-called g c)
