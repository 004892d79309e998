use Rattle.std.proofs.Common.{◌<◌, ◌≤◌, ◌+◌, subst, sym, length}
use Rattle.resource_votes.specs.Ballots.{registered_aware, registering_aware}
use Rattle.family_rules.specs.Asking.{Registers}
use Rattle.family_rules.specs.Room.{StateParts}
use Rattle.family_rules.specs.StateInside.{shown}
use Rattle.family_rules.proofs.Added.{seats_stay}
use Rattle.family_rules.proofs.Asked.{answers, either_way, registers_in, sound_aware, sound_same, spare_there}
use Rattle.family_rules.proofs.state.State.register_aware.Goals as goal

pub invariant_of-self : goal.invariant_of-self
invariant_of-self c =
    let s = c.self.inside in
    let v = c.register_aware.new.self in
    let some = spare_there s (subst (λ (p : StateParts). 0 < p.room) (sym c.self.view_is) c.requires.room) in
    let fits = subst (λ (p : StateParts). length c.args.to ≤ p.reach) (sym c.self.view_is) c.requires.fits in
    either_way c.register_aware.result v.ballots (registered_aware c.args.branch c.args.to s.votes.ballots) s.votes.ballots c.register_aware.ensures.ok c.register_aware.ensures.err
    (λ is. sound_aware s v c.args.branch c.args.to c.self.invariant some.2 fits is) (λ is. sound_same s v c.self.invariant is)

pub returns-clause-registered : goal.returns-clause-registered
returns-clause-registered c =
    let s = c.self.inside in
    let v = c.register_aware.new.self in
    let some = spare_there s (subst (λ (p : StateParts). 0 < p.room) (sym c.self.view_is) c.requires.room) in
    let to = answers (registering_aware s.tree.rows c.args.branch s.votes.ballots) (length s.votes.ballots.registrations + 1) s.votes.room (registered_aware c.args.branch c.args.to s.votes.ballots) s.votes.ballots v.ballots
    c.register_aware.result some.1 c.register_aware.ensures.answer c.register_aware.ensures.ok c.register_aware.ensures.index c.register_aware.ensures.err in
    subst (λ (p : StateParts). Registers (registering_aware p.family.rows c.args.branch p.family.ballots) (length p.family.ballots.registrations + 1)
    (registered_aware c.args.branch c.args.to p.family.ballots) p.family (shown (record s { votes = v })).family c.register_aware.result) c.self.view_is
    (registers_in s v _ _ _ c.register_aware.result to (seats_stay s.votes.ballots.registrations _ s.seats.items c.self.invariant.tasks))
