-- Words go out, and what happened is told, whatever stands at a seat: its name alone counts.
use Rattle.std.proofs.Common.{◌≡◌, ℕ, List, [], ◌∷◌, ◌++◌, slice_get, Option, Some, None, refl, ap, ap₂, ◌∙◌}
use Rattle.std.specs.Option.{option_map}
use Rattle.ots_model.specs.declared.tree.Outward.{Outward}
use Rattle.coordinator.specs.Family.{Family}
use Rattle.coordinator.specs.Node.{Node, family_of}
use Rattle.coordinator.specs.NodeTick.{Happening}
use Rattle.nodes_world.specs.declared.message.Content.TheVariants as contents
use Rattle.nodes_world.specs.Happenings.{Done, after, all_effect_lines, all_finished_lines, cast_of, naming, new_message, requests, requests_all}
use Rattle.nodes_world.specs.Nodes.{happens, happens_all}
use Rattle.nodes_world.specs.Told.{Told, sent}
use Rattle.nodes_world.specs.World.{World, Seat, NamedKey, next_message, referred, with_seat, with_sent}
use Rattle.nodes_world.proofs.EffectsSame.{effects_same}
use Rattle.nodes_world.proofs.KnownAlike.{referred_by}
use Rattle.nodes_world.proofs.KnownSeats.{seat_names_kept}

-- seats stay where words go out
pub request_seats : (from : ℕ) (o : Outward) (u : World) → (requests from o u).world.seats ≡ u.seats
unfolding requests
request_seats from o u = refl

pub requests_seats : (from : ℕ) (os : List Outward) (u : World) → (requests_all from os u).world.seats ≡ u.seats
unfolding requests
requests_seats from [] u = refl
requests_seats from (o ∷ others) u = requests_seats from others (requests from o u).world

pub happens_seats : (from : ℕ) (later : Node) (hs : List Happening) (u : World) → (happens_all from later hs u).world.seats ≡ u.seats
happens_seats from later [] u = refl
happens_seats from later (h ∷ others) u = happens_seats from later others (happens from later h u).world ∙ requests_seats from h.words u

-- another one of its name is put at a place
module _ (place : ℕ) (x : Seat) where
  abbrev pub swapped : Done → Done
  swapped d = record { world = with_seat place x d.world; lines = d.lines }

  -- one of its name is there
  pub record HasName (u : World) : Type 0 where
    pub seat : Seat
    pub there : slice_get u.seats place ≡ Some seat
    pub same : x.name ≡ seat.name

  pub name_on : (u v : World) → v.seats ≡ u.seats → HasName u → HasName v
  name_on u v same h = record { seat = h.seat; there = ap (λ (ss : List Seat). slice_get ss place) same ∙ h.there; same = h.same }

  refers_swap : (u : World) → HasName u → (to : List ℕ) → referred (with_seat place x u) to ≡ referred u to
  refers_swap u h to = referred_by u (with_seat place x u) to refl (seat_names_kept u place h.seat x h.there h.same)

  request_swap : (from : ℕ) (o : Outward) (u : World) → HasName u → requests from o (with_seat place x u) ≡ swapped (requests from o u)
  unfolding requests
  request_swap from o u h =
      ap (λ (r : Option NamedKey). record {
        world = with_sent (new_message (contents.Request from o)) (with_seat place x u);
        lines = naming (sent (next_message u) o.word) (option_map (λ (z : NamedKey). z.name) r);
      }) (refers_swap u h o.to)

  pub requests_swap : (from : ℕ) (os : List Outward) (u : World) → HasName u → requests_all from os (with_seat place x u) ≡ swapped (requests_all from os u)
  requests_swap from [] u h = refl
  requests_swap from (o ∷ others) u h =
      ap (λ (d : Done). after d (requests_all from others d.world)) (request_swap from o u h)
      ∙ ap (after (swapped (requests from o u))) (requests_swap from others (requests from o u).world (name_on u (requests from o u).world (request_seats from o u) h))

  told_swap : (later : Node) (h : Happening) (u : World) → HasName u → (o : Option Family)
      → (elim o as (λ _. List Told) [ Some f ↦ all_effect_lines (with_seat place x u) (cast_of f) h.effects ++ all_finished_lines f.entries h.finished | None ↦ [] ])
      ≡ (elim o as (λ _. List Told) [ Some f ↦ all_effect_lines u (cast_of f) h.effects ++ all_finished_lines f.entries h.finished | None ↦ [] ])
  told_swap later h u has (Some f) =
      ap (λ (ls : List Told). ls ++ all_finished_lines f.entries h.finished) (effects_same u (with_seat place x u) refl (refers_swap u has) (cast_of f) h.effects)
  told_swap later h u has None = refl

  happen_swap : (from : ℕ) (later : Node) (h : Happening) (u : World) → HasName u → happens from later h (with_seat place x u) ≡ swapped (happens from later h u)
  happen_swap from later h u has =
      ap₂ (λ (ls : List Told) (d : Done). record { world = d.world; lines = ls ++ d.lines }) (told_swap later h u has (family_of h.key later)) (requests_swap from h.words u has)

  pub happens_swap : (from : ℕ) (later : Node) (hs : List Happening) (u : World) → HasName u → happens_all from later hs (with_seat place x u) ≡ swapped (happens_all from later hs u)
  happens_swap from later [] u has = refl
  happens_swap from later (h ∷ others) u has =
      ap (λ (d : Done). after d (happens_all from later others d.world)) (happen_swap from later h u has)
      ∙ ap (after (swapped (happens from later h u)))
      (happens_swap from later others (happens from later h u).world (name_on u (happens from later h u).world (requests_seats from h.words u) has))
