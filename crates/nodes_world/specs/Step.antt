-- What one line of a script does to a world: it names a deed, which is carried out unless a limit is passed (our profile).
use Rattle.std.specs.Prelude.{ℕ, ◌+◌, Bool, false, nat_le, nat_lt, List, [], length, slice_get, Option, Some, None, if◌then◌else◌}
use Rattle.std.specs.Option.{option_map_or}
use Rattle.decision_journal.specs.Journal.{found_in, front}
use Rattle.decision_journal.specs.Loading.{next_life}
use Rattle.decision_journal.specs.State.{need, used}
use Rattle.decision_journal.specs.declared.record.JournalRecord.{JournalRecord}
use Rattle.ots_world.specs.declared.script.ScriptEvent.{ScriptEvent}
use Rattle.nodes_world.specs.declared.deed.Deed.{Deed}
use Rattle.nodes_world.specs.declared.deed.Deed.TheVariants as deeds
use Rattle.nodes_world.specs.Limits.{area_limit, message_limit, seat_limit}
use Rattle.nodes_world.specs.Journals.{records_on}
use Rattle.nodes_world.specs.Objects.{service_at}
use Rattle.nodes_world.specs.Told.{Told}
use Rattle.nodes_world.specs.World.{World, Seat}
use Rattle.nodes_world.specs.Happenings.{Done}
use Rattle.nodes_world.specs.Ends.{puts, refuses_to}
use Rattle.nodes_world.specs.Clients.{answer_only, begins, calls, creates_sub, registers}
use Rattle.nodes_world.specs.Deliveries.{flows}
use Rattle.nodes_world.specs.Lives.{makes_node, makes_end, crashes_now, restarts, stops, ticks}
use Rattle.nodes_world.specs.Resolve.{resolve}

-- what a deed comes to
unfoldable pub carried_out : Deed → World → Done
carried_out (deeds.MakeNode name) w = makes_node name w
carried_out (deeds.MakeEnd name) w = makes_end name w
carried_out (deeds.Begin place name seconds) w = begins place name seconds w
carried_out (deeds.Call to act) w = calls to act answer_only w
carried_out (deeds.Create parent name) w = creates_sub parent name w
carried_out (deeds.Register manner transaction place name) w = registers manner transaction place name w
carried_out (deeds.Put resource cell value) w = puts resource cell value w
carried_out (deeds.Refuse resource) w = refuses_to resource w
carried_out (deeds.Flow count) w = flows count w
carried_out (deeds.Tick place seconds) w = ticks place seconds w
carried_out (deeds.Crash place) w = crashes_now place w
carried_out (deeds.Restart place) w = restarts place w
carried_out (deeds.Stop place write image) w = stops place (record { write = write; image = image }) w

-- ---- limits

-- there are as many nodes and ends as there may be
abbrev pub is_full : World → Bool
is_full w = nat_le seat_limit (length w.seats)

-- no further life fits behind these records
abbrev pub lacks_life : ℕ → List JournalRecord → Bool
lacks_life service rs = nat_lt area_limit (used (front service rs) (found_in rs) + need area_limit (found_in rs) (next_life rs))

abbrev pub lacks_life_on : ℕ → Seat → Bool
lacks_life_on place s = option_map_or (lacks_life (service_at place)) (records_on (service_at place) s.disk) false

abbrev pub lacks_life_at : World → ℕ → Bool
lacks_life_at w place = option_map_or (lacks_life_on place) (slice_get w.seats place) false

-- the limit that is passed where this is so
abbrev pub limit_where : Bool → ℕ → Option ℕ
limit_where passed limit = if passed then Some limit else None

-- the limit that a deed passes before anything comes of it
abbrev pub limit_before : Deed → World → Option ℕ
limit_before (deeds.MakeNode name) w = limit_where (is_full w) seat_limit
limit_before (deeds.MakeEnd name) w = limit_where (is_full w) seat_limit
limit_before (deeds.Restart place) w = limit_where (lacks_life_at w place) area_limit
limit_before _ w = None

-- or by what comes of it: a script sends no more messages than this
abbrev pub limit_behind : Done → Option ℕ
limit_behind d = limit_where (nat_lt message_limit (length d.world.messages)) message_limit

-- ---- a line

-- a line moves the world on; or passes a limit, and then some of these lines may have been told; or is refused for its names
pub data Stepped : Type 0 where
  Moves : (done : Done) → Stepped
  Passes : (limit : ℕ) (lines : List Told) → Stepped
  Names : Stepped

abbrev pub moves_unless : Option ℕ → Done → Stepped
moves_unless (Some limit) d = Passes limit d.lines
moves_unless None d = Moves d

abbrev pub carries_unless : Option ℕ → Done → Stepped
carries_unless (Some limit) d = Passes limit []
carries_unless None d = moves_unless (limit_behind d) d

abbrev pub carries : Deed → World → Stepped
carries deed w = carries_unless (limit_before deed w) (carried_out deed w)

abbrev pub carries_named : Option Deed → World → Stepped
carries_named (Some deed) w = carries deed w
carries_named None w = Names

unfoldable pub step : ScriptEvent → World → Stepped
step event w = carries_named (resolve event w) w
