use Rattle.resource_end.proofs.Stored.{changes_store_once}
use Rattle.resource_end.proofs.laws.changes_store_once.Goals as goal

pub returns : goal.returns
returns c = changes_store_once
