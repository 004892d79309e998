use Rattle.std.proofs.Common.{◌≡◌, ℕ, List, Option, Some, Bor, Result, Err, refl, sym, ap, subst, ◌∙◌}
use Rattle.std.specs.Option.{option_copied}
use Rattle.std.proofs.lemmas.Result.{err_from_is_err_and}
use Rattle.ots_world.specs.declared.fault.WorldFault.{WorldFault}
use Rattle.ots_outside.specs.Disk.{at_first}
use Rattle.nodes_lives.specs.Loads.{HoldsJournal, IsLoadRefusal, IsLoaded, StoresJournal}
use Rattle.nodes_world.specs.Limits.{area_limit}
use Rattle.nodes_world.specs.Lives.{restarts}
use Rattle.nodes_world.specs.Objects.{service_at}
use Rattle.nodes_world.specs.Step.{lacks_life_at, limit_where}
use Rattle.nodes_state.specs.Seated.{disk_of, seat_of}
use Rattle.nodes_state.specs.Shown.{shown}
use Rattle.nodes_state.specs.declared.seats.Seat.{Seat}
use Rattle.nodes_state.specs.declared.seats.Server.{Server}
use Rattle.nodes_seats.specs.Carries.{Carries}
use Rattle.nodes_seats.specs.Whole.{IsServed}
use Rattle.nodes_seats.proofs.Changing.{read_at, seat_shown}
use Rattle.nodes_seats.proofs.Rising.{load_refused, restarted, stored_holds}
use Rattle.nodes_seats.proofs.restarts.restart.Goals as goal

pub load-requires : goal.load-requires
load-requires c =
    let there = read_at _ _ _ _ c.deref.ensures.value c.get.ensures.lookup.3 ∙ ap (λ (o : Option (Bor Seat)). option_copied o) c.in-Some.is in
    let copied = c.in_ok-octets.ensures.items_if_clones_equal (λ x y e. e) ∙ c.deref-2.ensures.value in
    let served : StoresJournal (service_at c.args.place) c.in-Down.octets.items =
    subst (λ (v : Server). IsServed c.args.place v) c.in-Down.is (c.requires.whole.served c.args.place c.in-Some.seat.now there) in
    record {
      journal = subst (λ (service : ℕ). HoldsJournal service c.in_ok-octets.octets.items) (sym c.service_at.ensures)
          (subst (λ (octets : List ℕ). HoldsJournal (service_at c.args.place) octets) (sym copied) (stored_holds (service_at c.args.place) c.in-Down.octets.items served));
    }

pub returns-in_err-node-clause-carries : goal.returns-in_err-node-clause-carries
returns-in_err-node-clause-carries c =
    let there = read_at _ _ _ _ c.deref.ensures.value c.get.ensures.lookup.3 ∙ ap (λ (o : Option (Bor Seat)). option_copied o) c.in-Some.is in
    let copied = c.in_ok-octets.ensures.items_if_clones_equal (λ x y e. e) ∙ c.deref-2.ensures.value in
    let octets = c.in_ok-octets.octets.items in
    let disk : (seat_of c.in-Some.seat.now).disk ≡ at_first octets = ap (λ (v : Server). disk_of v) c.in-Down.is ∙ ap (λ (xs : List ℕ). at_first xs) (sym copied) in
    let refused = subst (λ (service : ℕ). IsLoadRefusal service octets c.in_err-node.field-0.0) c.service_at.ensures c.in_err-node.ensures.fault in
    let p = err_from_is_err_and c.from_residual-in_err-node.result c.from_residual-in_err-node.ensures.1 in
    let w = shown c.args.state.now in
    let lines = c.args.lines.now.items in
    subst (λ (r : Result (Unit {0}) WorldFault). Carries (limit_where (lacks_life_at w c.args.place) area_limit) (restarts c.args.place w) w lines lines r)
    (sym (p.1 ∙ ap Err p.2))
    (load_refused c.args.place w w (seat_of c.in-Some.seat.now) octets lines lines (restarts c.args.place w) c.in_err-node.field-0.0
    (seat_shown c.args.state.now c.args.place (Some c.in-Some.seat.now) there) disk refused refl)

pub returns-clause-carries : goal.returns-clause-carries
returns-clause-carries c =
    let there = read_at _ _ _ _ c.deref.ensures.value c.get.ensures.lookup.3 ∙ ap (λ (o : Option (Bor Seat)). option_copied o) c.in-Some.is in
    let copied = c.in_ok-octets.ensures.items_if_clones_equal (λ x y e. e) ∙ c.deref-2.ensures.value in
    let octets = c.in_ok-octets.octets.items in
    let disk : (seat_of c.in-Some.seat.now).disk ≡ at_first octets = ap (λ (v : Server). disk_of v) c.in-Down.is ∙ ap (λ (xs : List ℕ). at_first xs) (sym copied) in
    let loaded = subst (λ (service : ℕ). IsLoaded service octets c.in_ok-node.node) c.service_at.ensures c.in_ok-node.ensures.loaded in
    restarted c.args.place (shown c.args.state.now) (shown c.come_up.new.state) (seat_of c.in-Some.seat.now) octets c.args.lines.now.items
    c.come_up.new.lines.items c.in_ok-node.node c.come_up.result (seat_shown c.args.state.now c.args.place (Some c.in-Some.seat.now) there) disk loaded
    c.come_up.ensures.does
