-- A world that was ready is so behind each deed of a script.
use Rattle.std.proofs.Common.{◌≡◌, ℕ, false, List, [], Option, Some, None, Result, Ok, Err}
use Rattle.std.specs.Result.{OnOk}
use Rattle.ior_refs.specs.declared.key.ObjectKey.{ObjectKey}
use Rattle.ots_world.specs.declared.fault.WorldFault.{WorldFault}
use Rattle.service_node.specs.Given.{node_makes}
use Rattle.coordinator.specs.declared.event.Act.{Act}
use Rattle.nodes_world.specs.declared.deed.Deed.{Deed}
use Rattle.nodes_world.specs.declared.deed.Deed.TheVariants as deeds
use Rattle.nodes_world.specs.Clients.{answer_only, begins, calls, creates_sub}
use Rattle.nodes_world.specs.Disks.{Stop}
use Rattle.nodes_world.specs.Ends.{puts, refuses_to}
use Rattle.nodes_world.specs.Happenings.{Done}
use Rattle.nodes_world.specs.Limits.{area_limit, seat_limit}
use Rattle.nodes_world.specs.Lives.{crashes_now, makes_end, makes_node, restarts, stops, ticks}
use Rattle.nodes_world.specs.Step.{carried_out, is_full, lacks_life_at, limit_where}
use Rattle.nodes_world.specs.World.{World, resources}
use Rattle.nodes_state.specs.Does.{Does}
use Rattle.nodes_state.specs.Shown.{HasNames, shown}
use Rattle.nodes_state.specs.declared.state.State.{State}
use Rattle.nodes_ends.specs.Ending.{KeepsNodes}
use Rattle.nodes_clients.specs.Keeping.{KeepsSeats}
use Rattle.nodes_seats.specs.Carries.{Carries, DoesUntold}
use Rattle.nodes_seats.specs.Whole.{IsWhole}
use Rattle.nodes_ready.specs.Ready.{IsReady}
use Rattle.nodes_ready.specs.Staying.{DeedsAddNoCall, DeedsKeepReady, IsGiven, NodesKeepWhole, SeatsKeepWhole, SendingKeepsWhole}
use Rattle.nodes_ready.proofs.CallsGrow.{begins_keep, calls_keep, creates_keep, registers_keep}
use Rattle.nodes_ready.proofs.EndsGrow.{puts_keep, refuses_keep}
use Rattle.nodes_ready.proofs.FlowsGrow.{flows_keep}
use Rattle.nodes_ready.proofs.Growing.{Keeps}
use Rattle.nodes_ready.proofs.Keeping.{whole_kept, whole_named, whole_nodes, whole_stays}
use Rattle.nodes_ready.proofs.LivesGrow.{crashes_now_keeps, makes_end_keeps, makes_node_keeps, restarts_keep, stops_keep, ticks_keep}
use Rattle.nodes_ready.proofs.Readied.{ready_by}

-- ---- any deed

deed_keeps : (deed : Deed) → IsGiven deed → Keeps (carried_out deed)
unfolding carried_out
deed_keeps (deeds.MakeNode name) given = makes_node_keeps name
deed_keeps (deeds.MakeEnd name) given = makes_end_keeps name
deed_keeps (deeds.Begin place name seconds) given = begins_keep place name seconds
deed_keeps (deeds.Call to act) given = calls_keep to act given
deed_keeps (deeds.Create parent name) given = creates_keep parent name
deed_keeps (deeds.Register manner transaction place name) given = registers_keep manner transaction name place
deed_keeps (deeds.Put resource cell value) given = puts_keep resource cell value
deed_keeps (deeds.Refuse resource) given = refuses_keep resource
deed_keeps (deeds.Flow count) given = flows_keep count
deed_keeps (deeds.Tick place seconds) given = ticks_keep place seconds
deed_keeps (deeds.Crash place) given = crashes_now_keeps place
deed_keeps (deeds.Restart place) given = restarts_keep place
deed_keeps (deeds.Stop place write image) given = stops_keep place (record { write = write; image = image })

pub deeds_add_no_call : DeedsAddNoCall
deeds_add_no_call deed w given clients = (deed_keeps deed given w).clients clients

pub deeds_keep_ready : DeedsKeepReady
deeds_keep_ready deed old new given world whole ready = ready_by old new (carried_out deed (shown old)).world (deed_keeps deed given (shown old)) world whole ready

pub sending_keeps_whole : SendingKeepsWhole
sending_keeps_whole = whole_stays

pub seats_keep_whole : SeatsKeepWhole
seats_keep_whole old new seats same names whole = whole_named old new seats same names whole

pub nodes_keep_whole : NodesKeepWhole
nodes_keep_whole = whole_nodes

-- ---- each deed, by what the call leaves that carries it out

pub ready_make_node : (old new : State) (name : List ℕ) → IsReady old → IsWhole new → shown new ≡ (makes_node name (shown old)).world → IsReady new
ready_make_node old new name ready whole world = ready_by old new (makes_node name (shown old)).world (makes_node_keeps name (shown old)) world whole ready

pub ready_make_end : (old new : State) (name : List ℕ) → IsReady old → IsWhole new → shown new ≡ (makes_end name (shown old)).world → IsReady new
ready_make_end old new name ready whole world = ready_by old new (makes_end name (shown old)).world (makes_end_keeps name (shown old)) world whole ready

pub ready_begin : (old new : State) (place : ℕ) (name : List ℕ) (seconds : ℕ) → IsReady old → KeepsSeats old new
    → resources (shown new) ≡ resources (shown old) → HasNames new → shown new ≡ (begins place name seconds (shown old)).world → IsReady new
ready_begin old new place name seconds ready seats same names world =
    ready_by old new (begins place name seconds (shown old)).world (begins_keep place name seconds (shown old)) world
    (whole_named old new seats same names ready.whole) ready

pub ready_call : (old new : State) (to : ObjectKey) (act : Act) → node_makes act ≡ false → IsReady old → KeepsSeats old new → new.names ≡ old.names
    → shown new ≡ (calls to act answer_only (shown old)).world → IsReady new
ready_call old new to act given ready seats names world =
    ready_by old new (calls to act answer_only (shown old)).world (calls_keep to act given (shown old)) world (whole_kept old new seats names ready.whole) ready

pub ready_create : (old new : State) (parent : ObjectKey) (name : List ℕ) → IsReady old → KeepsSeats old new
    → resources (shown new) ≡ resources (shown old) → HasNames new → shown new ≡ (creates_sub parent name (shown old)).world → IsReady new
ready_create old new parent name ready seats same names world =
    ready_by old new (creates_sub parent name (shown old)).world (creates_keep parent name (shown old)) world
    (whole_named old new seats same names ready.whole) ready

pub ready_put : (old new : State) (key : ObjectKey) (cell value : ℕ) → IsReady old → KeepsNodes old new
    → shown new ≡ (puts key cell value (shown old)).world → IsReady new
ready_put old new key cell value ready nodes world =
    ready_by old new (puts key cell value (shown old)).world (puts_keep key cell value (shown old)) world (whole_nodes old new nodes ready.whole) ready

pub ready_refuse : (old new : State) (key : ObjectKey) → IsReady old → KeepsNodes old new → shown new ≡ (refuses_to key (shown old)).world → IsReady new
ready_refuse old new key ready nodes world =
    ready_by old new (refuses_to key (shown old)).world (refuses_keep key (shown old)) world (whole_nodes old new nodes ready.whole) ready

pub ready_tick : (old new : State) (place seconds : ℕ) → IsReady old → IsWhole new → shown new ≡ (ticks place seconds (shown old)).world → IsReady new
ready_tick old new place seconds ready whole world =
    ready_by old new (ticks place seconds (shown old)).world (ticks_keep place seconds (shown old)) world whole ready

pub ready_crash : (old new : State) (place : ℕ) → IsReady old → IsWhole new → shown new ≡ (crashes_now place (shown old)).world → IsReady new
ready_crash old new place ready whole world =
    ready_by old new (crashes_now place (shown old)).world (crashes_now_keeps place (shown old)) world whole ready

pub ready_restart : (old new : State) (place : ℕ) → IsReady old → IsWhole new → shown new ≡ (restarts place (shown old)).world → IsReady new
ready_restart old new place ready whole world =
    ready_by old new (restarts place (shown old)).world (restarts_keep place (shown old)) world whole ready

pub ready_stop : (old new : State) (place : ℕ) (stop : Stop) → IsReady old → IsWhole new → DoesUntold (stops place stop (shown old)) (shown new) → IsReady new
ready_stop old new place stop ready whole does =
    ready_by old new (stops place stop (shown old)).world (stops_keep place stop (shown old)) (does []).0 whole ready

-- ---- and by what such a call answers, so that a caller names its contract alone

carried : (limit : Option ℕ) (d : Done) (w : World) (before after : List ℕ) (u : Unit {0}) → Carries limit d w before after (Ok u) → w ≡ d.world
carried (Some limit) d w before after u c = absurd c.0
carried None d w before after u c = c.0

module _ (old new : State) (before after : List ℕ) where
  pub on_make_node : (name : List ℕ) (result : Result (Unit {0}) WorldFault) → IsReady old → OnOk result (IsWhole new)
      → Carries (limit_where (is_full (shown old)) seat_limit) (makes_node name (shown old)) (shown new) before after result → OnOk result (IsReady new)
  on_make_node name (Ok u) ready whole does =
      ready_make_node old new name ready whole
      (carried (limit_where (is_full (shown old)) seat_limit) (makes_node name (shown old)) (shown new) before after u does)
  on_make_node name (Err fault) ready whole does = tt

  pub on_make_end : (name : List ℕ) (result : Result (Unit {0}) WorldFault) → IsReady old → OnOk result (IsWhole new)
      → Carries (limit_where (is_full (shown old)) seat_limit) (makes_end name (shown old)) (shown new) before after result → OnOk result (IsReady new)
  on_make_end name (Ok u) ready whole does =
      ready_make_end old new name ready whole
      (carried (limit_where (is_full (shown old)) seat_limit) (makes_end name (shown old)) (shown new) before after u does)
  on_make_end name (Err fault) ready whole does = tt

  pub on_begin : (place : ℕ) (name : List ℕ) (seconds : ℕ) (result : Result (Unit {0}) WorldFault) → IsReady old → OnOk result (KeepsSeats old new)
      → OnOk result (resources (shown new) ≡ resources (shown old)) → OnOk result (HasNames new)
      → Does (begins place name seconds (shown old)) (shown new) before after result → OnOk result (IsReady new)
  on_begin place name seconds (Ok u) ready seats same names does = ready_begin old new place name seconds ready seats same names does.0
  on_begin place name seconds (Err fault) ready seats same names does = tt

  pub on_call : (to : ObjectKey) (act : Act) (result : Result (Unit {0}) WorldFault) → node_makes act ≡ false → IsReady old → OnOk result (KeepsSeats old new)
      → OnOk result (new.names ≡ old.names) → Does (calls to act answer_only (shown old)) (shown new) before after result → OnOk result (IsReady new)
  on_call to act (Ok u) given ready seats names does = ready_call old new to act given ready seats names does.0
  on_call to act (Err fault) given ready seats names does = tt

  pub on_create : (parent : ObjectKey) (name : List ℕ) (result : Result (Unit {0}) WorldFault) → IsReady old → OnOk result (KeepsSeats old new)
      → OnOk result (resources (shown new) ≡ resources (shown old)) → OnOk result (HasNames new)
      → Does (creates_sub parent name (shown old)) (shown new) before after result → OnOk result (IsReady new)
  on_create parent name (Ok u) ready seats same names does = ready_create old new parent name ready seats same names does.0
  on_create parent name (Err fault) ready seats same names does = tt

  pub on_put : (key : ObjectKey) (cell value : ℕ) (result : Result (Unit {0}) WorldFault) → IsReady old → OnOk result (KeepsNodes old new)
      → Does (puts key cell value (shown old)) (shown new) before after result → OnOk result (IsReady new)
  on_put key cell value (Ok u) ready nodes does = ready_put old new key cell value ready nodes does.0
  on_put key cell value (Err fault) ready nodes does = tt

  pub on_refuse : (key : ObjectKey) (result : Result (Unit {0}) WorldFault) → IsReady old → OnOk result (KeepsNodes old new)
      → Does (refuses_to key (shown old)) (shown new) before after result → OnOk result (IsReady new)
  on_refuse key (Ok u) ready nodes does = ready_refuse old new key ready nodes does.0
  on_refuse key (Err fault) ready nodes does = tt

  pub on_tick : (place seconds : ℕ) (result : Result (Unit {0}) WorldFault) → IsReady old → OnOk result (IsWhole new)
      → Does (ticks place seconds (shown old)) (shown new) before after result → OnOk result (IsReady new)
  on_tick place seconds (Ok u) ready whole does = ready_tick old new place seconds ready whole does.0
  on_tick place seconds (Err fault) ready whole does = tt

  pub on_crash : (place : ℕ) (result : Result (Unit {0}) WorldFault) → IsReady old → OnOk result (IsWhole new)
      → Does (crashes_now place (shown old)) (shown new) before after result → OnOk result (IsReady new)
  on_crash place (Ok u) ready whole does = ready_crash old new place ready whole does.0
  on_crash place (Err fault) ready whole does = tt

  pub on_restart : (place : ℕ) (result : Result (Unit {0}) WorldFault) → IsReady old → OnOk result (IsWhole new)
      → Carries (limit_where (lacks_life_at (shown old) place) area_limit) (restarts place (shown old)) (shown new) before after result → OnOk result (IsReady new)
  on_restart place (Ok u) ready whole does =
      ready_restart old new place ready whole
      (carried (limit_where (lacks_life_at (shown old) place) area_limit) (restarts place (shown old)) (shown new) before after u does)
  on_restart place (Err fault) ready whole does = tt
