use Rattle.std.proofs.Common.{◌≡◌, ℕ, List, Option, Some, None, Bor, true, false, is_some, sym, ap, subst, ◌∙◌}
use Rattle.std.specs.Option.{option_copied}
use Rattle.coordinator.specs.Node.{Node}
use Rattle.nodes_lives.specs.Loads.{StoresJournal}
use Rattle.nodes_world.specs.Happenings.{Done}
use Rattle.nodes_world.specs.Objects.{service_at}
use Rattle.nodes_state.specs.Does.{Does}
use Rattle.nodes_state.specs.Seated.{disk_of, seat_of}
use Rattle.nodes_state.specs.Shown.{shown}
use Rattle.nodes_state.specs.declared.seats.Seat.{Seat}
use Rattle.nodes_state.specs.declared.seats.Server.{Server}
use Rattle.nodes_state.proofs.Reading.{node_there}
use Rattle.nodes_seats.specs.Whole.{IsServed}
use Rattle.nodes_seats.proofs.Changing.{read_at, seat_shown}
use Rattle.nodes_seats.proofs.Crashing.{crashes_by, no_node_up, none_crashes}
use Rattle.nodes_seats.proofs.crashes.crash.Goals as goal

pub go_down-requires-clause-journal : goal.go_down-requires-clause-journal
go_down-requires-clause-journal c =
    let there = read_at _ _ _ _ c.deref.ensures.value c.get.ensures.lookup.3 ∙ ap (λ (o : Option (Bor Seat)). option_copied o) c.in-Some.is in
    let served : c.in-Up.node.node.service ≡ service_at c.args.place =
    subst (λ (v : Server). IsServed c.args.place v) c.in-Up.is (c.requires.whole.served c.args.place c.in-Some.seat.now there) in
    let copied : c.in_ok-image.image.items ≡ c.in-Up.node.disk.reads = c.in_ok-image.ensures.items_if_clones_equal (λ x y e. e) ∙ c.octets.ensures in
    subst (λ (octets : List ℕ). StoresJournal (service_at c.args.place) octets) (sym copied)
    (subst (λ (service : ℕ). StoresJournal service c.in-Up.node.disk.reads) served c.kept.ensures.journal)

pub returns-clause-does : goal.returns-clause-does
returns-clause-does c =
    let there = read_at _ _ _ _ c.deref.ensures.value c.get.ensures.lookup.3 ∙ ap (λ (o : Option (Bor Seat)). option_copied o) c.in-Some.is in
    let copied : c.in_ok-image.image.items ≡ c.in-Up.node.disk.reads = c.in_ok-image.ensures.items_if_clones_equal (λ x y e. e) ∙ c.octets.ensures in
    let reads = ap (λ (v : Server). (disk_of v).reads) c.in-Up.is ∙ sym copied in
    subst (λ (d : Done). Does d (shown c.go_down.new.state) c.args.lines.now.items c.go_down.new.lines.items c.go_down.result)
    (sym (crashes_by c.args.place c.in_ok-image.image.items (shown c.args.state.now) (seat_of c.in-Some.seat.now)
    (seat_shown c.args.state.now c.args.place (Some c.in-Some.seat.now) there) reads))
    c.go_down.ensures.does

pub returns-in_default-clause-does : goal.returns-in_default-clause-does
returns-in_default-clause-does c =
    let none = read_at _ _ _ _ c.deref.ensures.value c.get.ensures.lookup.3 ∙ ap (λ (o : Option (Bor Seat)). option_copied o) c.in_default.is in
    none_crashes c.args.place (shown c.args.state.now) c.args.lines.now.items (seat_shown c.args.state.now c.args.place None none)

pub returns-in_default-server : goal.returns-in_default-server
returns-in_default-server c =
    let there = read_at _ _ _ _ c.deref.ensures.value c.get.ensures.lookup.3 ∙ ap (λ (o : Option (Bor Seat)). option_copied o) c.in-Some.is in
    let none = node_there c.args.state.now c.args.place c.in-Some.seat.now there ∙ no_node_up c.in-Some.seat.now.server c.in_default-server.not-Up in
    let wrong : false ≡ true = sym (ap (λ (o : Option Node). is_some o) none) ∙ c.requires.up in
    absurd cc
