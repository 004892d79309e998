use Rattle.recovery_coord.proofs.Waited.{over}
use Rattle.recovery_coord.proofs.held.Parties.are_done.Goals as goal

pub returns : goal.returns
returns c =
    let is = over c.self.inside.items.items in
    cc
