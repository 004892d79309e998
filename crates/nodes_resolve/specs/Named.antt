-- What the deed that a line names has: the name of what it makes is free, and what it is about is there, up or down as the deed
-- needs it (our profile).
use Rattle.std.specs.Prelude.{◌≡◌, ℕ, true, false, List, IsTrue, None, is_some}
use Rattle.service_node.specs.Given.{node_makes}
use Rattle.nodes_world.specs.declared.deed.Deed.{Deed}
use Rattle.nodes_world.specs.declared.deed.Deed.TheVariants as deeds
use Rattle.nodes_world.specs.Resolve.{is_down_at, may_put}
use Rattle.nodes_world.specs.World.{World, end_at, node_at, thing}

-- no node, end, transaction or resource has the name
abbrev pub IsFree : World → List ℕ → Type 0
IsFree w name = thing w name ≡ None

-- a node is up at the place, and an end
abbrev pub IsNodeUp : World → ℕ → Type 0
IsNodeUp w place = is_some (node_at w place) ≡ true

abbrev pub IsEndUp : World → ℕ → Type 0
IsEndUp w place = is_some (end_at w place) ≡ true

abbrev pub IsNamed : Deed → World → Type 0
IsNamed (deeds.MakeNode name) w = IsFree w name
IsNamed (deeds.MakeEnd name) w = IsFree w name
IsNamed (deeds.Begin place name seconds) w = IsNodeUp w place × IsFree w name
-- a client calls nothing that a node tells its families itself
IsNamed (deeds.Call to act) w = node_makes act ≡ false
IsNamed (deeds.Create parent name) w = IsFree w name
IsNamed (deeds.Register manner transaction place name) w = IsEndUp w place × IsFree w name
IsNamed (deeds.Put resource cell value) w = IsTrue (may_put w cell resource)
IsNamed (deeds.Refuse resource) w = Unit {0}
IsNamed (deeds.Flow count) w = Unit {0}
IsNamed (deeds.Tick place seconds) w = IsNodeUp w place
IsNamed (deeds.Crash place) w = IsNodeUp w place
IsNamed (deeds.Restart place) w = is_down_at w place ≡ true
IsNamed (deeds.Stop place write image) w = IsNodeUp w place
