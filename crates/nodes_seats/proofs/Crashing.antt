-- A node goes down, or is to go down.
use Rattle.std.proofs.Common.{◌≡◌, ℕ, List, ◌++◌, slice_get, Option, Some, None, Ok, refl, sym, ap, subst, ◌∙◌}
use Rattle.ots_outside.specs.Disk.{at_first}
use Rattle.nodes_lives.specs.declared.live.LiveNode.{LiveNode}
use Rattle.nodes_world.specs.Disks.{Stop}
use Rattle.nodes_world.specs.Happenings.{Done, nothing}
use Rattle.nodes_world.specs.Lives.{crashes_now, stops}
use Rattle.nodes_world.specs.Nodes.{crashes, crashes_seat}
use Rattle.nodes_world.specs.Told.{Down, spelled}
use Rattle.nodes_world.specs.World.{OfNode, Seat, World, node_in, with_disk, with_seat, with_server}
use Rattle.nodes_state.specs.Does.{Does}
use Rattle.nodes_state.specs.Seated.{server_of}
use Rattle.nodes_state.specs.declared.seats.Server.{Server as Kept}
use Rattle.nodes_state.specs.declared.seats.Server.TheVariants as servers
use Rattle.nodes_seats.specs.Carries.{DoesUntold}
use Rattle.nodes_seats.proofs.Changing.{on_seat_there}
use Rattle.nodes_seats.proofs.Telling.{none_told, one_told}

stops_there : (place : ℕ) (stop : Stop) (w : World) (s : Seat) → slice_get w.seats place ≡ Some s
    → stops place stop w ≡ nothing (with_seat place (record s { stop = Some stop }) w)
unfolding stops
stops_there place stop w s there =
    ap (λ (o : Option Seat). elim o as (λ _. Done) [ Some x ↦ nothing (with_disk place x.disk (Some stop) w) | None ↦ nothing w ]) there
    ∙ ap (λ (v : World). nothing v) (on_seat_there place (λ (x : Seat). record x { disk = s.disk; stop = Some stop }) w s there)

stops_none : (place : ℕ) (stop : Stop) (w : World) → slice_get w.seats place ≡ None → stops place stop w ≡ nothing w
unfolding stops
stops_none place stop w none =
    ap (λ (o : Option Seat). elim o as (λ _. Done) [ Some x ↦ nothing (with_disk place x.disk (Some stop) w) | None ↦ nothing w ]) none

untold : (d : Done) (v w : World) → d ≡ nothing v → w ≡ v → DoesUntold d w
untold d v w e same = λ lines. subst (λ (x : Done). Does x w lines lines (Ok tt)) (sym e) (same, none_told lines)

pub stop_set : (place : ℕ) (stop : Stop) (w later : World) (s : Seat) → slice_get w.seats place ≡ Some s
    → later ≡ with_seat place (record s { stop = Some stop }) w → DoesUntold (stops place stop w) later
stop_set place stop w later s there same = untold (stops place stop w) (with_seat place (record s { stop = Some stop }) w) later (stops_there place stop w s there) same

pub no_stop_set : (place : ℕ) (stop : Stop) (w : World) → slice_get w.seats place ≡ None → DoesUntold (stops place stop w) w
no_stop_set place stop w none = untold (stops place stop w) w w (stops_none place stop w none) refl

-- ---- a node goes down

pub crashes_there : (place : ℕ) (image : List ℕ) (w : World) (s : Seat) → slice_get w.seats place ≡ Some s → crashes place image w ≡ crashes_seat place image s w
unfolding crashes
crashes_there place image w s there = ap (λ (o : Option Seat). elim o as (λ _. Done) [ Some x ↦ crashes_seat place image x w | None ↦ nothing w ]) there

pub crashes_none : (place : ℕ) (image : List ℕ) (w : World) → slice_get w.seats place ≡ None → crashes place image w ≡ nothing w
unfolding crashes
crashes_none place image w none = ap (λ (o : Option Seat). elim o as (λ _. Done) [ Some x ↦ crashes_seat place image x w | None ↦ nothing w ]) none

pub crashes_by : (place : ℕ) (image : List ℕ) (w : World) (s : Seat) → slice_get w.seats place ≡ Some s → s.disk.reads ≡ image → crashes_now place w ≡ crashes place image w
unfolding crashes_now
crashes_by place image w s there reads =
    ap (λ (o : Option Seat). elim o as (λ _. Done) [ Some x ↦ crashes place x.disk.reads w | None ↦ nothing w ]) there
    ∙ ap (λ (octets : List ℕ). crashes place octets w) reads

-- it has gone down, and that was told
pub gone_down : (place : ℕ) (image : List ℕ) (w later : World) (s : Seat) (before after : List ℕ) → slice_get w.seats place ≡ Some s
    → later ≡ with_server place (OfNode None) (with_disk place (at_first image) None w) → after ≡ before ++ spelled (Down s.name)
    → Does (crashes place image w) later before after (Ok tt)
gone_down place image w later s before after there same told = subst (λ (d : Done). Does d later before after (Ok tt)) (sym (crashes_there place image w s there)) (same, one_told (Down s.name) before after told)

pub none_goes_down : (place : ℕ) (image : List ℕ) (w : World) (lines : List ℕ) → slice_get w.seats place ≡ None → Does (crashes place image w) w lines lines (Ok tt)
none_goes_down place image w lines none = subst (λ (d : Done). Does d w lines lines (Ok tt)) (sym (crashes_none place image w none)) (refl, none_told lines)

pub none_crashes : (place : ℕ) (w : World) (lines : List ℕ) → slice_get w.seats place ≡ None → Does (crashes_now place w) w lines lines (Ok tt)
unfolding crashes_now
none_crashes place w lines none =
    subst (λ (d : Done). Does d w lines lines (Ok tt))
    (sym (ap (λ (o : Option Seat). elim o as (λ _. Done) [ Some x ↦ crashes place x.disk.reads w | None ↦ nothing w ]) none)) (refl, none_told lines)

pub no_node_up : (v : Kept) → ((n : LiveNode) → v ≡ servers.Up n → ⊥) → node_in (server_of v) ≡ None
no_node_up (servers.Up n) other = absurd (other n refl)
no_node_up (servers.Down octets) other = refl
no_node_up (servers.End e) other = refl
