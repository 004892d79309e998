use Rattle.family_laws.proofs.Held.{held_records_stood}
use Rattle.family_laws.proofs.laws.held_records_stood.Goals as goal

pub returns : goal.returns
returns c = held_records_stood
