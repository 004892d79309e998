-- What a tick of a node's clock has done (our profile).
use Rattle.std.specs.Prelude.{◌≡◌, ℕ, ◌+◌, ◌++◌, min, map, List, [], ◌∷◌, Option, Some, None}
use Rattle.ots_model.specs.declared.tree.Outward.{Outward}
use Rattle.coordinator.specs.Limits.{last_moment}
use Rattle.coordinator.specs.Node.{Node, family_of}
use Rattle.coordinator.specs.NodeTick.{Happening, Ticked, ticks}
use Rattle.service_node.specs.Ticking.{told, words_in}
use Rattle.service_node.specs.declared.passing.Happening.{Happening as ToldHappening}
use Rattle.nodes_world.specs.Happenings.{Done, ◌▹◌, all_effect_lines, all_finished_lines, cast_of, requests_all}
use Rattle.nodes_world.specs.Nodes.{happens_all}
use Rattle.nodes_world.specs.Told.{Told}
use Rattle.nodes_world.specs.World.{OfNode, Seat, World, node_in}
use Rattle.nodes_seats.specs.declared.ticking.Due.{Due}
use Rattle.nodes_seats.specs.Waiting.{AreOf, BeginsOther, IsSplit}
use Rattle.nodes_seats.specs.declared.waiting.Waiting.{Waiting}

-- the words of each family are of its slot, and what comes behind them is of another
abbrev pub AreBySlot : List Happening → List Outward → Type 0
AreBySlot [] more = Unit {0}
AreBySlot (h ∷ others) more = AreOf h.key.slot h.words × BeginsOther h.key.slot (words_in others ++ more) × AreBySlot others more

-- the clock of a seat, so many seconds later
abbrev pub clock_after : ℕ → Seat → ℕ
clock_after seconds s = min (s.clock + seconds) last_moment

-- this is told of a tick, and these words go out
pub record IsDueOf (t : Ticked) (happened : List ToldHappening) (words : List Outward) : Type 0 where
  pub happened_is : happened ≡ map told t.happened
  pub words_are : words ≡ words_in t.happened ++ t.words
  pub by_slot : AreBySlot t.happened t.words

-- time has passed for the node that was up at a seat
pub record HasTickedAt (seconds : ℕ) (before after : Seat) (due : Due) : Type 0 where
  pub node : Node
  pub up : node_in before.server ≡ Some node
  pub later : after ≡ record before {
    clock = clock_after seconds before;
    server = OfNode (Some (ticks (clock_after seconds before) node).node);
  }
  pub tells : IsDueOf (ticks (clock_after seconds before) node) due.happened due.words.words

-- or no node was up, and the clock has gone on
abbrev pub HasTickedIn : ℕ → Seat → Seat → Option Due → Type 0
HasTickedIn seconds before after (Some due) = HasTickedAt seconds before after due
HasTickedIn seconds before after None = (node_in before.server ≡ None) × (after ≡ record before { clock = clock_after seconds before })

-- this is told of what happened to a family, and its words are those that wait first
pub record IsNext (h : Happening) (rest : List Outward) (happening : ToldHappening) (words : Waiting) : Type 0 where
  pub told_so : told h ≡ happening
  pub split : IsSplit h.key.slot h.words rest words

-- what happened to a family is told, where it is still there
abbrev pub happening_lines : World → Node → ToldHappening → List Told
happening_lines w later h = elim (family_of h.key later) [
  | Some f ↦ all_effect_lines w (cast_of f) h.effects ++ all_finished_lines f.entries h.finished
  | None ↦ []
]

-- what happened to families, and then the words that are told again
abbrev pub tells_tick : ℕ → Node → List Happening → List Outward → World → Done
tells_tick place later happened words w = happens_all place later happened w ▹ requests_all place words
