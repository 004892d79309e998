-- A node that is up, as its callers see it, and what holds of it (our profile).
use Rattle.nodes_lives.specs.declared.running.Running.{Running}
use Rattle.nodes_lives.specs.Living.{Living}
use Rattle.nodes_lives.specs.Running.{IsRunning}

abbrev pub living : Running → Living
living r = record { node = r.node.value.node; disk = r.node.value.journal.disk.disk }

abbrev pub Runs : Running → Type 0
Runs r = IsRunning r.node.value r.loaded.items r.end
