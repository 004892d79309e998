-- A node that was loaded comes up.
use Rattle.std.proofs.Common.{◌≡◌, inl, inr, ℕ, Bool, true, false, List, [], ◌∷◌, ◌++◌, length, slice_get, slice_set, Option, Some, None, Result, Ok, Err, refl, sym, ap, subst, ◌∙◌, arith}
use Rattle.std.specs.Option.{option_map_or}
use Rattle.ots_outside.specs.Disk.{DiskState, at_first}
use Rattle.ots_world.specs.declared.fault.WorldFault.{WorldFault}
use Rattle.ots_world.specs.declared.fault.WorldFault.TheVariants as faults
use Rattle.decision_journal.specs.Loading.{loaded}
use Rattle.decision_journal.specs.declared.record.JournalRecord.{JournalRecord}
use Rattle.coordinator.specs.Node.{Node, load}
use Rattle.nodes_lives.specs.Living.{Living}
use Rattle.nodes_lives.specs.Loads.{HoldsJournal, IsLoadRefusal, IsLoaded, StoresJournal}
use Rattle.nodes_world.specs.Happenings.{Done, nothing}
use Rattle.nodes_world.specs.Journals.{records_in, records_on}
use Rattle.nodes_world.specs.Limits.{area_limit}
use Rattle.nodes_world.specs.Lives.{comes_up, loads, makes_node, new_seat, restarts, with_named_seat}
use Rattle.nodes_world.specs.Objects.{service_at}
use Rattle.nodes_world.specs.Step.{lacks_life, lacks_life_at, lacks_life_on, limit_where}
use Rattle.nodes_world.specs.Told.{Told}
use Rattle.nodes_world.specs.World.{OfNode, Seat, World, with_disk, with_server}
use Rattle.nodes_state.specs.Does.{BreaksOff, Does}
use Rattle.nodes_state.specs.Telling.{Tells, TellsPart}
use Rattle.nodes_state.proofs.Doing.{part_none}
use Rattle.nodes_state.specs.declared.seats.Server.TheVariants as servers
use Rattle.nodes_seats.specs.Carries.{Carries}
use Rattle.nodes_seats.specs.Placed.{comes_up_at, up_lines_at, with_seat_of}
use Rattle.nodes_seats.proofs.Changing.{get_set, no_server, server_there}
use Rattle.nodes_seats.proofs.Standings.{none_up, up_there}

abbrev pub raised : ℕ → Node → DiskState → World → World
raised place n disk w = with_server place (OfNode (Some n)) (with_disk place disk None w)

abbrev raises : ℕ → Node → DiskState → World → Done
raises place n disk w = record { world = raised place n disk w; lines = up_lines_at (raised place n disk w) place }

comes_up_so : (place : ℕ) (n : Node) (disk : DiskState) (w : World) (o : Option Seat) → slice_get w.seats place ≡ o → comes_up_at place n disk w ≡ raises place n disk w
comes_up_so place n disk w (Some s) there =
    let x : Seat = record s { disk = disk; stop = None; server = OfNode (Some n) } in
    let at : slice_get (raised place n disk w).seats place ≡ Some x =
    ap (λ (v : World). slice_get v.seats place) (server_there place (OfNode (Some n)) disk None w s there) ∙ get_set w.seats place s x there in
    ap (λ (o : Option Seat). elim o as (λ _. Done) [ Some y ↦ comes_up place y.name n disk w | None ↦ nothing w ]) there
    ∙ ap (λ (some : List Told). record { world = raised place n disk w; lines = some }) (sym (up_there (raised place n disk w) place x (Some n) at refl))
comes_up_so place n disk w None none =
    let same : raised place n disk w ≡ w = no_server place (OfNode (Some n)) disk None w none in
    let at : slice_get (raised place n disk w).seats place ≡ None = ap (λ (v : World). slice_get v.seats place) same ∙ none in
    ap (λ (o : Option Seat). elim o as (λ _. Done) [ Some y ↦ comes_up place y.name n disk w | None ↦ nothing w ]) none
    ∙ ap (λ (v : World). record { world = v; lines = [] }) (sym same)
    ∙ ap (λ (some : List Told). record { world = raised place n disk w; lines = some }) (sym (none_up (raised place n disk w) place at))

comes_up_is : (place : ℕ) (n : Node) (disk : DiskState) (w : World) → comes_up_at place n disk w ≡ raises place n disk w
comes_up_is place n disk w = comes_up_so place n disk w (slice_get w.seats place) refl

pub came_up : (place : ℕ) (n : Node) (disk : DiskState) (w later : World) (before after : List ℕ) → later ≡ raised place n disk w
    → Tells (up_lines_at later place) before after → Does (comes_up_at place n disk w) later before after (Ok tt)
came_up place n disk w later before after same told =
    subst (λ (d : Done). Does d later before after (Ok tt)) (sym (comes_up_is place n disk w)) (same, subst (λ (v : World). Tells (up_lines_at v place) before after) same told)

pub half_up : (place : ℕ) (n : Node) (disk : DiskState) (w later : World) (before after : List ℕ) → later ≡ raised place n disk w
    → TellsPart (up_lines_at later place) before after → BreaksOff (comes_up_at place n disk w) faults.Memory before after
half_up place n disk w later before after same told =
    subst (λ (d : Done). TellsPart d.lines before after) (sym (comes_up_is place n disk w)) (subst (λ (v : World). TellsPart (up_lines_at v place) before after) same told)

-- ---- a restart

module _ (place : ℕ) (w : World) (s : Seat) (rs : List JournalRecord) (there : slice_get w.seats place ≡ Some s) (read : records_on (service_at place) s.disk ≡ Some rs) where
  pub restarts_there : restarts place w ≡ comes_up_at place (load (service_at place) rs) (loaded (service_at place) rs s.disk) w
  unfolding restarts
  restarts_there =
      ap (λ (o : Option Seat). elim o as (λ _. Done) [ Some x ↦ loads place x (records_on (service_at place) x.disk) w | None ↦ nothing w ]) there
      ∙ ap (λ (o : Option (List JournalRecord)). loads place s o w) read
      ∙ sym (ap (λ (o : Option Seat). elim o as (λ _. Done) [
        | Some x ↦ comes_up place x.name (load (service_at place) rs) (loaded (service_at place) rs s.disk) w
        | None ↦ nothing w
      ]) there)

  pub lacks_there : lacks_life_at w place ≡ lacks_life (service_at place) rs
  lacks_there =
      ap (λ (o : Option Seat). option_map_or (lacks_life_on place) o false) there
      ∙ ap (λ (o : Option (List JournalRecord)). option_map_or (lacks_life (service_at place)) o false) read

-- no limit is passed
pub carries_on : (passed : Bool) (limit : ℕ) (d : Done) (w : World) (before after : List ℕ) (result : Result (Unit {0}) WorldFault) → passed ≡ false
    → Does d w before after result → Carries (limit_where passed limit) d w before after result
carries_on passed limit d w before after result off does =
    subst (λ (b : Bool). Carries (limit_where b limit) d w before after result) (sym off) does

-- the limit is passed
pub passes : (passed : Bool) (limit : ℕ) (d : Done) (w : World) (before after : List ℕ) (n : ℕ) → passed ≡ true → n ≡ limit → after ≡ before
    → Carries (limit_where passed limit) d w before after (Err (faults.Limit n))
passes passed limit d w before after n on is same =
    subst (λ (b : Bool). Carries (limit_where b limit) d w before after (Err (faults.Limit n))) (sym on) (is, same)

-- memory ran out before anything was done
pub carries_starved : (passed : Bool) (limit : ℕ) (d : Done) (w : World) (before after : List ℕ) → after ≡ before
    → Carries (limit_where passed limit) d w before after (Err faults.Memory)
carries_starved true limit d w before after same = (tt, same)
carries_starved false limit d w before after same = part_none d.lines before after same

-- the node was not loaded
pub load_refused : (place : ℕ) (w later : World) (s : Seat) (octets before after : List ℕ) (d : Done) (fault : WorldFault) → slice_get w.seats place ≡ Some s
    → s.disk ≡ at_first octets → IsLoadRefusal (service_at place) octets fault → after ≡ before
    → Carries (limit_where (lacks_life_at w place) area_limit) d later before after (Err fault)
load_refused place w later s octets before after d (faults.Limit n) there disk refused same =
    passes (lacks_life_at w place) area_limit d later before after n
    (lacks_there place w s refused.records there (ap (λ (x : DiskState). records_on (service_at place) x) disk ∙ refused.read) ∙ refused.full) refused.limit_is same
load_refused place w later s octets before after d faults.Memory there disk refused same = carries_starved (lacks_life_at w place) area_limit d later before after same
load_refused place w later s octets before after d faults.Names there disk refused same = absurd refused

pub restarted : (place : ℕ) (w later : World) (s : Seat) (octets before after : List ℕ) (n : Living) (result : Result (Unit {0}) WorldFault)
    → slice_get w.seats place ≡ Some s → s.disk ≡ at_first octets → IsLoaded (service_at place) octets n
    → Does (comes_up_at place n.node n.disk w) later before after result
    → Carries (limit_where (lacks_life_at w place) area_limit) (restarts place w) later before after result
restarted place w later s octets before after n result there disk is does =
    let service : ℕ = service_at place in
    let read : records_on service s.disk ≡ Some is.records = ap (λ (x : DiskState). records_on service x) disk ∙ is.read in
    let same : restarts place w ≡ comes_up_at place n.node n.disk w =
    restarts_there place w s is.records there read
    ∙ ap (λ (x : DiskState). comes_up_at place (load service is.records) (loaded service is.records x) w) disk
    ∙ ap (λ (x : DiskState). comes_up_at place (load service is.records) x w) (sym is.disk)
    ∙ ap (λ (x : Node). comes_up_at place x n.disk w) (sym is.node) in
    carries_on (lacks_life_at w place) area_limit (restarts place w) later before after result (lacks_there place w s is.records there read ∙ is.roomy)
    (subst (λ (d : Done). Does d later before after result) (sym same) does)

-- ---- a node is made

get_last : (xs : List Seat) (x : Seat) → slice_get (xs ++ x ∷ []) (length xs) ≡ Some x
get_last [] x = refl
get_last (y ∷ xs) x = get_last xs x

set_last : (xs : List Seat) (x y : Seat) → slice_set (xs ++ x ∷ []) (length xs) y ≡ xs ++ y ∷ []
set_last [] x y = refl
set_last (z ∷ xs) x y = ap (λ (ys : List Seat). z ∷ ys) (set_last xs x y)

module _ (name : List ℕ) (w : World) (n : Living) (is : IsLoaded (service_at (length w.seats)) [] n) where
  makes_node_is : makes_node name w ≡ comes_up_at (length w.seats) n.node n.disk (with_named_seat name (OfNode None) w)
  unfolding makes_node
  makes_node_is =
      let service : ℕ = service_at (length w.seats) in
      let v : World = with_named_seat name (OfNode None) w in
      restarts_there (length w.seats) v (new_seat name (OfNode None)) is.records (get_last w.seats (new_seat name (OfNode None))) is.read
      ∙ ap (λ (x : DiskState). comes_up_at (length w.seats) (load service is.records) x v) (sym is.disk)
      ∙ ap (λ (x : Node). comes_up_at (length w.seats) x n.disk v) (sym is.node)

  added_is : with_seat_of name (servers.Up n) w ≡ raised (length w.seats) n.node n.disk (with_named_seat name (OfNode None) w)
  added_is =
      let new : Seat = new_seat name (OfNode None) in
      let v : World = with_named_seat name (OfNode None) w in
      let x : Seat = record new { server = OfNode (Some n.node); disk = n.disk; stop = None } in
      sym (server_there (length w.seats) (OfNode (Some n.node)) n.disk None v new (get_last w.seats new)
      ∙ ap (λ (ys : List Seat). record v { seats = ys }) (set_last w.seats new x))

  pub made_node : (later : World) (before after : List ℕ) → later ≡ with_seat_of name (servers.Up n) w → Tells (up_lines_at later (length w.seats)) before after
      → Does (makes_node name w) later before after (Ok tt)
  made_node later before after same told =
      subst (λ (d : Done). Does d later before after (Ok tt)) (sym makes_node_is)
      (came_up (length w.seats) n.node n.disk (with_named_seat name (OfNode None) w) later before after (same ∙ added_is) told)

  pub half_made : (later : World) (before after : List ℕ) → later ≡ with_seat_of name (servers.Up n) w → TellsPart (up_lines_at later (length w.seats)) before after
      → BreaksOff (makes_node name w) faults.Memory before after
  half_made later before after same told =
      subst (λ (d : Done). BreaksOff d faults.Memory before after) (sym makes_node_is)
      (half_up (length w.seats) n.node n.disk (with_named_seat name (OfNode None) w) later before after (same ∙ added_is) told)

-- an empty disk has room for the first life
empty_read : (service : ℕ) → records_on service (at_first []) ≡ Some []
unfolding records_in
empty_read service = refl

pub empty_holds : (service : ℕ) → HoldsJournal service []
empty_holds service = record { records = []; held = inr (inl (omega arith), refl) }

pub stored_holds : (service : ℕ) (octets : List ℕ) → StoresJournal service octets → HoldsJournal service octets
stored_holds service octets stored = record { records = stored.records; held = inl stored.stands }

first_fits : (service : ℕ) → lacks_life service [] ≡ false
first_fits service = refl

pub starved_alone : (service : ℕ) (fault : WorldFault) → IsLoadRefusal service [] fault → fault ≡ faults.Memory
starved_alone service (faults.Limit n) refused =
    let e : Some refused.records ≡ Some [] = sym refused.read ∙ empty_read service in
    let none : refused.records ≡ [] = cc in
    let wrong : true ≡ false = sym refused.full ∙ ap (λ rs. lacks_life service rs) none ∙ first_fits service in
    absurd cc
starved_alone service faults.Memory refused = refl
starved_alone service faults.Names refused = absurd refused
