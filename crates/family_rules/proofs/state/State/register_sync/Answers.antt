use Rattle.family_rules.proofs.Asked.{sound_asked}
use Rattle.family_rules.proofs.state.State.register_sync.Goals as goal

pub invariant_of-self : goal.invariant_of-self
invariant_of-self c =
    let asked = c.register_sync in
    sound_asked c.self.inside asked.new.self c.args.branch c.args.to c.self.inside.votes.room asked.result c.self.invariant asked.ensures.answer asked.ensures.ok asked.ensures.err
