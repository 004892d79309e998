-- What a node tells its families itself, and no caller brings: that the journal was read again, and that a history begins (our
-- profile).
use Rattle.std.specs.Prelude.{Bool, true, false}
use Rattle.coordinator.specs.declared.event.Act.{Act}
use Rattle.coordinator.specs.declared.event.Act.TheVariants as acts

abbrev pub node_makes : Act → Bool
node_makes (acts.Reread stands) = true
node_makes (acts.Opened deadline) = true
node_makes _ = false
