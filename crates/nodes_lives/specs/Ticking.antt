-- What comes of a tick (our profile).
use Rattle.std.specs.Prelude.{◌≡◌, ℕ, ◌++◌, map}
use Rattle.coordinator.specs.NodeTick.{ticks}
use Rattle.service_node.specs.Ticking.{told, words_in}
use Rattle.nodes_lives.specs.Living.{Living}
use Rattle.nodes_lives.specs.declared.ticking.Ticked.{Ticked}

-- the node is as its tick leaves it, and the disk stays; what happened is told, and the words go out by slot, and then those
-- that are told again
pub record HasTicked (now : ℕ) (before : Living) (t : Ticked) : Type 0 where
  pub node : t.node.node ≡ (ticks now before.node).node
  pub disk : t.node.disk ≡ before.disk
  pub happened : t.happened ≡ map told (ticks now before.node).happened
  pub words : t.words.words ≡ words_in (ticks now before.node).happened ++ (ticks now before.node).words
