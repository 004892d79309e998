use Rattle.std.proofs.Common.{◌≡◌, ℕ, List, [], length, map, Err, refl, sym, ap, subst, ◌∙◌, arith}
use Rattle.std.proofs.lemmas.Bool.{leb-false}
use Rattle.std.proofs.lemmas.List.{length-map}
use Rattle.std.proofs.lemmas.Result.{err_from_is_err_and}
use Rattle.ots_world.specs.declared.fault.WorldFault.TheVariants as faults
use Rattle.nodes_lives.specs.Loads.{HoldsJournal, IsLoadRefusal, IsLoaded}
use Rattle.nodes_world.specs.Limits.{seat_limit}
use Rattle.nodes_world.specs.Lives.{makes_node}
use Rattle.nodes_world.specs.Objects.{service_at}
use Rattle.nodes_state.specs.Seated.{seat_of}
use Rattle.nodes_state.specs.Shown.{shown}
use Rattle.nodes_state.specs.Telling.{Tells, TellsPart}
use Rattle.nodes_state.proofs.Doing.{part_none}
use Rattle.nodes_state.proofs.Failing.{does_fail}
use Rattle.nodes_seats.specs.Placed.{up_lines_at}
use Rattle.nodes_seats.proofs.Rising.{empty_holds, half_made, made_node, starved_alone}
use Rattle.nodes_seats.proofs.makings.add_node.Goals as goal

pub load-requires : goal.load-requires
load-requires c = record { journal = subst (λ (octets : List ℕ). HoldsJournal c.service_at.result octets) (sym c.new-octets.ensures.items) (empty_holds c.service_at.result) }

pub add_seat-requires-clause-room : goal.add_seat-requires-clause-room
add_seat-requires-clause-room c =
    let less = leb-false seat_limit (length (map seat_of c.args.state.now.seats.items)) c.requires.room in
    let long = length-map c.args.state.now.seats.items seat_of in
    omega arith

pub returns-in_err-node-clause-does : goal.returns-in_err-node-clause-does
returns-in_err-node-clause-does c =
    let w = shown c.args.state.now in
    let d = makes_node c.args.name.now w in
    let lines = c.args.lines.now.items in
    let p = err_from_is_err_and c.from_residual.result c.from_residual.ensures.1 in
    let starved = starved_alone c.service_at.result c.in_err-node.field-0.0
    (subst (λ (octets : List ℕ). IsLoadRefusal c.service_at.result octets c.in_err-node.field-0.0) c.new-octets.ensures.items c.in_err-node.ensures.fault) in
    does_fail d w lines lines c.from_residual.result faults.Memory (p.1 ∙ ap Err (p.2 ∙ starved)) (part_none d.lines lines lines refl)

pub returns-in_err-add_seat-clause-does : goal.returns-in_err-add_seat-clause-does
returns-in_err-add_seat-clause-does c =
    let d = makes_node c.args.name.now (shown c.args.state.now) in
    let lines = c.args.lines.now.items in
    let p = err_from_is_err_and c.from_residual-in_err-add_seat.result c.from_residual-in_err-add_seat.ensures.1 in
    does_fail d (shown c.add_seat.new.state) lines lines c.from_residual-in_err-add_seat.result faults.Memory (p.1 ∙ ap Err p.2) (part_none d.lines lines lines refl)

pub returns-in_err-tell_up_at-clause-does : goal.returns-in_err-tell_up_at-clause-does
returns-in_err-tell_up_at-clause-does c =
    let w = shown c.args.state.now in
    let later = shown c.add_seat.new.state in
    let long = length-map c.args.state.now.seats.items seat_of in
    let ok = c.args.state.now.seats.ok in
    let len = c.len-place.ensures in
    let place : length w.seats ≡ c.len-place.result = omega arith in
    let n = c.in_ok-node.node in
    let loaded = subst (λ (octets : List ℕ). IsLoaded c.service_at.result octets n) c.new-octets.ensures.items c.in_ok-node.ensures.loaded in
    let here = subst (λ (service : ℕ). IsLoaded service [] n) (c.service_at.ensures ∙ ap (λ (k : ℕ). service_at k) (sym place)) loaded in
    let p = err_from_is_err_and c.from_residual-in_err-tell_up_at.result c.from_residual-in_err-tell_up_at.ensures.1 in
    does_fail (makes_node c.args.name.now w) later c.args.lines.now.items c.tell_up_at.new.lines.items
    c.from_residual-in_err-tell_up_at.result faults.Memory (p.1 ∙ ap Err p.2)
    (half_made c.args.name.now w n here later c.args.lines.now.items c.tell_up_at.new.lines.items c.in_ok-add_seat.ensures.world
    (subst (λ (k : ℕ). TellsPart (up_lines_at later k) c.args.lines.now.items c.tell_up_at.new.lines.items) (sym place) c.in_err-tell_up_at.ensures))

pub returns-clause-does : goal.returns-clause-does
returns-clause-does c =
    let w = shown c.args.state.now in
    let later = shown c.add_seat.new.state in
    let long = length-map c.args.state.now.seats.items seat_of in
    let ok = c.args.state.now.seats.ok in
    let len = c.len-place.ensures in
    let place : length w.seats ≡ c.len-place.result = omega arith in
    let n = c.in_ok-node.node in
    let loaded = subst (λ (octets : List ℕ). IsLoaded c.service_at.result octets n) c.new-octets.ensures.items c.in_ok-node.ensures.loaded in
    let here = subst (λ (service : ℕ). IsLoaded service [] n) (c.service_at.ensures ∙ ap (λ (k : ℕ). service_at k) (sym place)) loaded in
    made_node c.args.name.now w n here later c.args.lines.now.items c.tell_up_at.new.lines.items c.in_ok-add_seat.ensures.world
    (subst (λ (k : ℕ). Tells (up_lines_at later k) c.args.lines.now.items c.tell_up_at.new.lines.items) (sym place) c.in_ok-tell_up_at.ensures)
