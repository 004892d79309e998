-- An event is carried to the node at a place.
use Rattle.std.proofs.Common.{◌≡◌, ℕ, zero, suc, List, [], ◌∷◌, ◌++◌, slice_get, slice_set, Option, Some, None, Result, Ok, refl, sym, ap, subst, ◌∙◌}
use Rattle.std.specs.Option.{option_and_then, option_map}
use Rattle.std.proofs.lemmas.List.{append-nil}
use Rattle.ior_refs.specs.declared.key.ObjectKey.{ObjectKey}
use Rattle.ots_model.specs.declared.tree.Outward.{Outward}
use Rattle.ots_outside.specs.Disk.{DiskState, at_first}
use Rattle.ots_world.specs.declared.fault.WorldFault.{WorldFault}
use Rattle.coordinator.specs.Family.{Family}
use Rattle.coordinator.specs.Node.{Node}
use Rattle.coordinator.specs.NodeCalls.{applies, family_for, retold_answer}
use Rattle.coordinator.specs.declared.effect.Effect.{Effect}
use Rattle.coordinator.specs.declared.event.Event.{Event}
use Rattle.coordinator.specs.declared.node.NodeFault.{NodeFault}
use Rattle.coordinator.specs.declared.said.StepAnswer.{StepAnswer}
use Rattle.nodes_world.specs.Disks.{Stop}
use Rattle.nodes_world.specs.Happenings.{Cast, Done, ◌▹◌, cast_of_key, tells}
use Rattle.nodes_world.specs.Journals.{Asked}
use Rattle.nodes_world.specs.Nodes.{Stepping, answer_told, cast_by, cast_of_record, crashes, crashes_seat, entries_of, heard_lines, no_step, steps, steps_by, steps_node}
use Rattle.nodes_world.specs.Told.{Down}
use Rattle.nodes_world.specs.World.{OfNode, Seat, Server, World, node_at, node_in, on_seat, with_disk, with_seat, with_server}
use Rattle.nodes_state.specs.Telling.{Tells, TellsPart}
use Rattle.nodes_clients.specs.Answering.{spoken_of}
use Rattle.nodes_clients.specs.Carrying.{HasCarried, passed_lines, passes}
use Rattle.nodes_clients.specs.Coming.{WentDown, WentThrough}

-- ---- what the definition does at a seat that is there

steps_there : (place : ℕ) (k : ObjectKey) (e : Event) (w : World) (s : Seat) → slice_get w.seats place ≡ Some s
    → steps place k e w ≡ steps_node (node_in s.server) s place k e w
unfolding steps
steps_there place k e w s there =
    ap (λ (o : Option Seat). elim o as (λ _. Stepping) [ Some x ↦ steps_node (node_in x.server) x place k e w | None ↦ no_step w ]) there

pub steps_nowhere : (place : ℕ) (k : ObjectKey) (e : Event) (w : World) → slice_get w.seats place ≡ None → steps place k e w ≡ no_step w
unfolding steps
steps_nowhere place k e w none =
    ap (λ (o : Option Seat). elim o as (λ _. Stepping) [ Some x ↦ steps_node (node_in x.server) x place k e w | None ↦ no_step w ]) none

pub no_node_steps : (place : ℕ) (k : ObjectKey) (e : Event) (w : World) (s : Seat) → slice_get w.seats place ≡ Some s → node_in s.server ≡ None
    → steps place k e w ≡ no_step w
no_node_steps place k e w s there none =
    steps_there place k e w s there ∙ ap (λ o. steps_node o s place k e w) none

crashes_there : (place : ℕ) (image : List ℕ) (w : World) (s : Seat) → slice_get w.seats place ≡ Some s → crashes place image w ≡ crashes_seat place image s w
unfolding crashes
crashes_there place image w s there =
    ap (λ (o : Option Seat). elim o as (λ _. Done) [ Some x ↦ crashes_seat place image x w | None ↦ record { world = w; lines = [] } ]) there

get_set : {A : Type 0} (xs : List A) (i : ℕ) (s x : A) → slice_get xs i ≡ Some s → slice_get (slice_set xs i x) i ≡ Some x
get_set [] i s x e = absurd (cc e)
get_set (y ∷ xs) zero s x e = refl
get_set (y ∷ xs) (suc i) s x e = get_set xs i s x e

set_twice : {A : Type 0} (xs : List A) (i : ℕ) (x y : A) → slice_set (slice_set xs i x) i y ≡ slice_set xs i y
set_twice [] i x y = refl
set_twice (z ∷ xs) zero x y = refl
set_twice (z ∷ xs) (suc i) x y = ap (λ zs. z ∷ zs) (set_twice xs i x y)

on_seat_there : (place : ℕ) (change : Seat → Seat) (w : World) (s : Seat) → slice_get w.seats place ≡ Some s
    → on_seat place change w ≡ with_seat place (change s) w
on_seat_there place change w s there =
    ap (λ (o : Option Seat). elim o as (λ _. World) [ Some x ↦ with_seat place (change x) w | None ↦ w ]) there

server_there : (place : ℕ) (server : Server) (disk : DiskState) (stop : Option Stop) (w : World) (s : Seat) → slice_get w.seats place ≡ Some s
    → with_server place server (with_disk place disk stop w) ≡ with_seat place (record s { server = server; disk = disk; stop = stop }) w
server_there place server disk stop w s there =
    let first : Seat = record s { disk = disk; stop = stop } in
    ap (λ (v : World). with_server place server v) (on_seat_there place (λ (x : Seat). record x { disk = disk; stop = stop }) w s there)
    ∙ on_seat_there place (λ (x : Seat). record x { server = server }) (with_seat place first w) first (get_set w.seats place s first there)
    ∙ ap (λ (ys : List Seat). record w { seats = ys }) (set_twice w.seats place first (record first { server = server }))

-- ---- a call that went through

spoken_is : (f : Option Family) (recorded : Option ObjectKey) (e : Event) (n : Node) → option_map cast_of_key recorded ≡ cast_of_record (retold_answer e.act) n
    → spoken_of f recorded ≡ cast_by f e n
spoken_is (Some f) recorded e n is = refl
spoken_is None recorded e n is = is

module _ (place : ℕ) (k : ObjectKey) (e : Event) (w : World) (s t : Seat) (there : slice_get w.seats place ≡ Some s) where
  pub through_is : (answer : Result StepAnswer NodeFault) (words : List Outward) (h : WentThrough k e s t answer words) (recorded : Option ObjectKey)
      → option_map cast_of_key recorded ≡ cast_of_record (retold_answer e.act) h.node
      → passes (passed_lines w k e (applies k e h.stood h.node).node recorded answer) place words answer (with_seat place t w) ≡ steps place k e w
  through_is answer words h recorded is =
      let a = applies k e h.stood h.node in
      let f = family_for k e a.node in
      ap (λ (x : Result StepAnswer NodeFault). passes (passed_lines w k e a.node recorded x) place words x (with_seat place t w)) h.answer_is
      ∙ ap (λ (ws : List Outward). passes (passed_lines w k e a.node recorded a.answer) place ws a.answer (with_seat place t w)) h.words_are
      ∙ ap (λ (c : Option Cast). passes (answer_told w c (entries_of f) a.answer) place a.words a.answer (with_seat place t w)) (spoken_is f recorded e h.node is)
      ∙ ap (λ (v : World). passes (answer_told w (cast_by f e h.node) (entries_of f) a.answer) place a.words a.answer v)
      (ap (λ (x : Seat). with_seat place x w) h.later ∙ sym (server_there place (OfNode (Some a.node)) h.disk h.stop w s there))
      ∙ sym (steps_there place k e w s there ∙ ap (λ o. steps_node o s place k e w) h.up
      ∙ ap (λ (x : Asked). steps_by x place k e h.node w) h.asked)

  pub down_is : (heard : List Effect) (h : WentDown k e s t heard)
      → steps place k e w ≡ record { done = tells (heard_lines w (family_for k e h.node) e) w ▹ (λ (v : World). record { world = with_seat place t w; lines = Down s.name ∷ [] }); answer = None }
  down_is heard h =
      steps_there place k e w s there ∙ ap (λ o. steps_node o s place k e w) h.up
      ∙ ap (λ (x : Asked). steps_by x place k e h.node w) h.asked
      ∙ ap (λ (d : Done). record { done = record { world = d.world; lines = heard_lines w (family_for k e h.node) e ++ d.lines }; answer = None })
      (crashes_there place h.image w s there
      ∙ ap (λ (v : World). record { world = v; lines = Down s.name ∷ [] }) (server_there place (OfNode None) (at_first h.image) None w s there ∙ ap (λ (x : Seat). with_seat place x w) (sym h.later)))

  -- what was done behind a call that went through
  pub carried_through : (answer : Result StepAnswer NodeFault) (words : List Outward) (h : WentThrough k e s t answer words) (recorded : Option ObjectKey) (u v : World)
      (before after : List ℕ) (result : Result (Option (Result StepAnswer NodeFault)) WorldFault)
      → option_map cast_of_key recorded ≡ cast_of_record (retold_answer e.act) h.node → u ≡ with_seat place t w
      → HasCarried (passes (passed_lines w k e (applies k e h.stood h.node).node recorded answer) place words answer u) v before after result
      → HasCarried (steps place k e w) v before after result
  carried_through answer words h recorded u v before after result is same d =
      subst (λ (x : Stepping). HasCarried x v before after result)
      (ap (λ (x : World). passes (passed_lines w k e (applies k e h.stood h.node).node recorded answer) place words answer x) same
      ∙ through_is answer words h recorded is) d

  -- and behind a crash
  pub carried_down : (heard : List Effect) (h : WentDown k e s t heard) (v : World) (before after : List ℕ) → v ≡ with_seat place t w
      → Tells (heard_lines w (family_for k e h.node) e ++ Down s.name ∷ []) before after → HasCarried (steps place k e w) v before after (Ok None)
  carried_down heard h v before after same told =
      subst (λ (x : Stepping). HasCarried x v before after (Ok None)) (sym (down_is heard h)) (refl, (same, told))

  pub crash_starves : (heard : List Effect) (h : WentDown k e s t heard) (v : World) (before after : List ℕ)
      → TellsPart (heard_lines w (family_for k e h.node) e ++ Down s.name ∷ []) before after → TellsPart (steps place k e w).done.lines before after
  crash_starves heard h v before after told =
      subst (λ (x : Stepping). TellsPart x.done.lines before after) (sym (down_is heard h)) told

  -- and where no node is up
  pub carried_nowhere : (v : World) (lines : List ℕ) → node_in s.server ≡ None → v ≡ w → HasCarried (steps place k e w) v lines lines (Ok None)
  carried_nowhere v lines none same =
      subst (λ (x : Stepping). HasCarried x v lines lines (Ok None)) (sym (no_node_steps place k e w s there none)) (refl, (same, sym (append-nil lines)))

pub carried_past : (place : ℕ) (k : ObjectKey) (e : Event) (w : World) (lines : List ℕ) → slice_get w.seats place ≡ None
    → HasCarried (steps place k e w) w lines lines (Ok None)
carried_past place k e w lines none =
    subst (λ (x : Stepping). HasCarried x w lines lines (Ok None)) (sym (steps_nowhere place k e w none)) (refl, (refl, sym (append-nil lines)))

pub node_put : (w : World) (place : ℕ) (s t : Seat) → slice_get w.seats place ≡ Some s → node_at (with_seat place t w) place ≡ node_in t.server
unfolding node_at
node_put w place s t there = ap (λ o. option_and_then (λ (x : Seat). node_in x.server) o) (get_set w.seats place s t there)

-- what a seat at which nothing came was, it is
pub same_seat_put : (w : World) (place : ℕ) (s t : Seat) → slice_get w.seats place ≡ Some s → t ≡ s → with_seat place t w ≡ w
same_seat_put w place s t there same =
    ap (λ (x : Seat). with_seat place x w) same ∙ ap (λ (xs : List Seat). record w { seats = xs }) (set_same w.seats place s there)
  where
    set_same : (xs : List Seat) (i : ℕ) (x : Seat) → slice_get xs i ≡ Some x → slice_set xs i x ≡ xs
    set_same [] i x is = refl
    set_same (y ∷ xs) zero x is = let e : y ≡ x = cc in ap (λ z. z ∷ xs) (sym e)
    set_same (y ∷ xs) (suc i) x is = ap (λ ys. y ∷ ys) (set_same xs i x is)

pub seat_same : (a b : Seat) (o : Option Seat) → o ≡ Some a → o ≡ Some b → a ≡ b
seat_same a b o here there = cc
