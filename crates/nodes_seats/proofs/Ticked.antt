-- The clock of a seat went on.
use Rattle.std.proofs.Common.{◌≡◌, ℕ, List, slice_get, slice_set, Option, Some, None, Result, Ok, sym, ap, subst, ◌∙◌}
use Rattle.ots_world.specs.declared.fault.WorldFault.{WorldFault}
use Rattle.coordinator.specs.NodeTick as clock
use Rattle.coordinator.specs.NodeTick.{Ticked}
use Rattle.nodes_world.specs.Happenings.{Done}
use Rattle.nodes_world.specs.Lives.{ticks}
use Rattle.nodes_world.specs.World.{OfNode, Seat, World, node_at, node_in, with_seat}
use Rattle.nodes_state.specs.Does.{Does}
use Rattle.nodes_state.specs.Seated.{seat_of}
use Rattle.nodes_state.specs.Shown.{shown}
use Rattle.nodes_state.specs.declared.seats.Seat.{Seat as Kept}
use Rattle.nodes_state.specs.declared.state.State.{State}
use Rattle.nodes_state.proofs.Reading.{node_there}
use Rattle.nodes_seats.specs.Ticking.{HasTickedAt, HasTickedIn, IsDueOf, clock_after, tells_tick}
use Rattle.nodes_seats.specs.Whole.{IsServed, IsWhole}
use Rattle.nodes_seats.specs.declared.ticking.Due.{Due}
use Rattle.nodes_seats.proofs.Changing.{get_set, seat_shown, whole_changes, world_changes}
use Rattle.nodes_seats.proofs.Telling.{none_told}
use Rattle.nodes_seats.proofs.Ticks.{clock_only, node_ticked}

name_stays : (seconds : ℕ) (k x : Seat) (o : Option Due) → HasTickedIn seconds k x o → x.name ≡ k.name
name_stays seconds k x (Some due) h = ap (λ (y : Seat). y.name) h.later
name_stays seconds k x None h = ap (λ (y : Seat). y.name) h.1

module _ (s new : State) (place seconds : ℕ) (k x : Kept) (there : slice_get s.seats.items place ≡ Some k)
    (seats : new.seats.items ≡ slice_set s.seats.items place x) (messages : new.messages ≡ s.messages) (names : new.names ≡ s.names) where
  pub tick_whole : (o : Option Due) → HasTickedIn seconds (seat_of k) (seat_of x) o → IsServed place x.server → IsWhole s → IsWhole new
  tick_whole o h served whole =
      whole_changes s new place k x there seats messages names whole (name_stays seconds (seat_of k) (seat_of x) o h) served

  pub tick_does : (due : Due) → HasTickedAt seconds (seat_of k) (seat_of x) due → (v : World) (before after : List ℕ) (result : Result (Unit {0}) WorldFault)
      → ((t : Ticked) → node_at (shown new) place ≡ Some t.node → IsDueOf t due.happened due.words.words
      → Does (tells_tick place t.node t.happened t.words (shown new)) v before after result)
      → Does (ticks place seconds (shown s)) v before after result
  tick_does due h v before after result told =
      let t : Ticked = clock.ticks (clock_after seconds (seat_of k)) h.node in
      let later : Seat = record (seat_of k) { clock = clock_after seconds (seat_of k); server = OfNode (Some t.node) } in
      let world : shown new ≡ with_seat place later (shown s) =
      world_changes s new place k x there seats messages names ∙ ap (λ (y : Seat). with_seat place y (shown s)) h.later in
      let at : slice_get new.seats.items place ≡ Some x = ap (λ xs. slice_get xs place) seats ∙ get_set s.seats.items place k x there in
      let up : node_at (shown new) place ≡ Some t.node = node_there new place x at ∙ ap (λ (y : Seat). node_in y.server) h.later in
      let same : ticks place seconds (shown s) ≡ tells_tick place t.node t.happened t.words (shown new) =
      node_ticked place seconds (shown s) (seat_of k) (seat_shown s place (Some k) there) h.node h.up
      ∙ ap (λ (u : World). tells_tick place t.node t.happened t.words u) (sym world) in
      subst (λ (d : Done). Does d v before after result) (sym same) (told t up h.tells)

  pub tick_clock : HasTickedIn seconds (seat_of k) (seat_of x) None → (lines : List ℕ) → Does (ticks place seconds (shown s)) (shown new) lines lines (Ok tt)
  tick_clock h lines =
      let later : Seat = record (seat_of k) { clock = clock_after seconds (seat_of k) } in
      let world : shown new ≡ with_seat place later (shown s) =
      world_changes s new place k x there seats messages names ∙ ap (λ (y : Seat). with_seat place y (shown s)) h.1 in
      subst (λ (d : Done). Does d (shown new) lines lines (Ok tt)) (sym (clock_only place seconds (shown s) (seat_of k) (seat_shown s place (Some k) there) h.0))
      (world, none_told lines)
