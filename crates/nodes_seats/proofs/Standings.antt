-- The lines that tell that a node runs, and the decisions that stand there.
use Rattle.std.proofs.Common.{◌≡◌, ℕ, ◌+◌, ◌<◌, ◌≤◌, List, [], ◌∷◌, ◌++◌, length, get_or, drop, slice_get, Option, Some, None, Result, Ok, Err, ap, subst, ◌∙◌}
use Rattle.std.specs.List.{flat_map}
use Rattle.std.proofs.lemmas.List.{at_drop_all, at_drop_more}
use Rattle.std.proofs.lemmas.List.Concat.{flat_map-cons}
use Rattle.ots_model.specs.declared.line.Line.TheVariants as lines
use Rattle.coordinator.specs.Node.{Node, life}
use Rattle.nodes_world.specs.Lives.{standing_lines, up_lines}
use Rattle.nodes_world.specs.Told.{Known, Told, spelled}
use Rattle.nodes_world.specs.World.{Seat, World, node_in}
use Rattle.nodes_state.specs.Telling.{Tells, TellsSome}
use Rattle.nodes_state.proofs.Doing.{one_told, tells_part_then, tells_then}
use Rattle.nodes_state.proofs.Progress.{IsTelling, telling_ends, telling_goes_on}
use Rattle.nodes_seats.specs.Placed.{up_lines_at, up_lines_of}

-- it is told that the node runs, and then each decision
pub up_told : {E : Type 0} (w : World) (name : List ℕ) (n : Node) (before mid after : List ℕ) (result : Result (Unit {0}) E)
    → mid ≡ before ++ spelled (Known (lines.Up name (life n))) → TellsSome (flat_map (standing_lines w n.service) n.recovered) mid after result
    → TellsSome (up_lines w name n) before after result
up_told w name n before mid after (Ok u) first rest =
    let line : Told = Known (lines.Up name (life n)) in
    tells_then (line ∷ []) (flat_map (standing_lines w n.service) n.recovered) before mid after (one_told line before mid first) rest
up_told w name n before mid after (Err fault) first rest =
    let line : Told = Known (lines.Up name (life n)) in
    tells_part_then (line ∷ []) (flat_map (standing_lines w n.service) n.recovered) before mid after (one_told line before mid first) rest

-- ---- at a place

pub up_there : (w : World) (place : ℕ) (s : Seat) (o : Option Node) → slice_get w.seats place ≡ Some s → node_in s.server ≡ o → up_lines_at w place ≡ up_lines_of w s.name o
up_there w place s o there up =
    ap (λ (found : Option Seat). elim found as (λ _. List Told) [ Some x ↦ up_lines_of w x.name (node_in x.server) | None ↦ [] ]) there
    ∙ ap (λ (x : Option Node). up_lines_of w s.name x) up

pub none_up : (w : World) (place : ℕ) → slice_get w.seats place ≡ None → up_lines_at w place ≡ []
none_up w place none =
    ap (λ (found : Option Seat). elim found as (λ _. List Told) [ Some x ↦ up_lines_of w x.name (node_in x.server) | None ↦ [] ]) none

-- ---- one after another

module _ {X : Type 0} (f : X → List Told) (xs : List X) (i : ℕ) (total : List Told) (before now : List ℕ) where
  abbrev TellsFrom : ℕ → List ℕ → Type 0
  TellsFrom k lines = IsTelling total before (flat_map f (drop k xs)) lines

  pub each_told : (d : X) (next : List ℕ) → i < length xs → TellsFrom i now → Tells (f (get_or xs i d)) now next → TellsFrom (i + 1) next
  each_told d next within telling t =
      telling_goes_on total (f (get_or xs i d)) (flat_map f (drop (i + 1) xs)) before now next
      (subst (λ ls. IsTelling total before ls now) (at_drop_more (λ ys. flat_map f ys) xs i d within ∙ flat_map-cons f (get_or xs i d) (drop (i + 1) xs)) telling) t

  pub all_told : length xs ≤ i → TellsFrom i now → Tells total before now
  all_told past telling = telling_ends total before now (subst (λ ls. IsTelling total before ls now) (at_drop_all (λ ys. flat_map f ys) xs i past) telling)
