use Rattle.std.proofs.Common.{◌≡◌, [], ◌∷◌, ◌++◌, Option, None, Bor, ap, sym, subst, ◌∙◌}
use Rattle.std.specs.Option.{option_copied, option_map}
use Rattle.std.proofs.lemmas.Option.{slice_get-map}
use Rattle.std.proofs.lemmas.Result.{err_from_is_err_and}
use Rattle.coordinator.specs.NodeCalls.{applies, call_wants, family_for}
use Rattle.nodes_world.specs.Nodes.{heard_lines, steps}
use Rattle.nodes_world.specs.Told.{Down}
use Rattle.nodes_world.specs.World.{Seat, node_at, node_in}
use Rattle.nodes_state.specs.Seated.{seat_of}
use Rattle.nodes_state.specs.Shown.{shown}
use Rattle.nodes_state.specs.Telling.{AreNamesOf, Tells, TellsPart}
use Rattle.nodes_state.specs.declared.seats.Seat.{Seat as Kept}
use Rattle.nodes_state.proofs.Named.{names_stay}
use Rattle.nodes_state.proofs.Reading.{read_at}
use Rattle.nodes_clients.specs.Answering.{AreKept, AreTold}
use Rattle.nodes_clients.specs.Coming.{HasComeAt, WentDown, WentThrough}
use Rattle.nodes_clients.specs.declared.coming.Came.TheVariants as came
use Rattle.nodes_clients.proofs.Answered.{carry_starves}
use Rattle.nodes_clients.proofs.Carried.{carried_down, carried_nowhere, carried_past, carried_through, crash_starves, node_put, same_seat_put, seat_same}
use Rattle.nodes_clients.proofs.Heard.{heard_told}
use Rattle.nodes_clients.proofs.Kept.{keeps_on, on_ok}
use Rattle.nodes_clients.proofs.carrying.carry.Goals as goal

pub returns-in_default-clause-carried : goal.returns-in_default-clause-carried
returns-in_default-clause-carried c =
    let s = c.args.state.now in
    let none = read_at _ _ _ _ c.deref.ensures.value c.get.ensures.lookup.3 ∙ ap (λ (o : Option (Bor Kept)). option_copied o) c.in_default.is in
    carried_past c.args.place c.args.key.now c.args.event.now (shown s) c.args.lines.now.items
    (slice_get-map seat_of s.seats.items c.args.place ∙ ap (λ o. option_map seat_of o) none)

pub returns-in-Nothing-clause-carried : goal.returns-in-Nothing-clause-carried
returns-in-Nothing-clause-carried c =
    let s = c.args.state.now in
    let h : HasComeAt c.args.key.now c.args.event.now c.args.place s c.come_at.new.state came.Nothing c.come_at.new.words.words
    = subst (λ x. HasComeAt c.args.key.now c.args.event.now c.args.place s c.come_at.new.state x c.come_at.new.words.words) c.in-Nothing.is c.in_ok-come_at.ensures.come in
    let come : (node_in h.before.server ≡ None) × (h.later ≡ h.before) = h.come in
    carried_nowhere c.args.place c.args.key.now c.args.event.now (shown s) h.before h.later h.there (shown c.come_at.new.state) c.args.lines.now.items come.0
    (h.world ∙ same_seat_put (shown s) c.args.place h.before h.later h.there come.1)

pub returns-in-Through-clause-carried : goal.returns-in-Through-clause-carried
returns-in-Through-clause-carried c =
    let s = c.args.state.now in
    let t = c.come_at.new.state in
    let k = c.args.key.now in
    let e = c.args.event.now in
    let answer = c.in-Through.answer in
    let words = c.come_at.new.words.words in
    let h : HasComeAt k e c.args.place s t (came.Through answer) c.come_at.new.words.words
    = subst (λ x. HasComeAt k e c.args.place s t x c.come_at.new.words.words) c.in-Through.is c.in_ok-come_at.ensures.come in
    let gone : WentThrough k e h.before h.later answer words = h.come in
    let there = slice_get-map seat_of s.seats.items c.args.place ∙ ap (λ o. option_map seat_of o)
    (read_at _ _ _ _ c.deref.ensures.value c.get.ensures.lookup.3 ∙ ap (λ (o : Option (Bor Kept)). option_copied o) c.in-Some.is) in
    let same = seat_same (seat_of c.in-Some.seat.now) h.before _ there h.there in
    carried_through c.args.place k e (shown s) h.before h.later h.there answer words gone c.recorded_at-recorded.result (shown t)
    (shown c.go_through.new.state) c.args.lines.now.items c.go_through.new.lines.items c.go_through.result
    (c.recorded_at-recorded.ensures gone.node (ap (λ (x : Seat). node_in x.server) same ∙ gone.up)) h.world
    (c.go_through.ensures.carried (shown s) (applies k e gone.stood gone.node).node
    (subst (λ n. AreNamesOf n (shown s)) (sym c.in_ok-come_at.ensures.names) c.requires.names)
    (ap (λ v. node_at v c.args.place) h.world ∙ node_put (shown s) c.args.place h.before h.later h.there ∙ ap (λ (x : Seat). node_in x.server) gone.later))

pub returns-in-Through-clause-seats : goal.returns-in-Through-clause-seats
returns-in-Through-clause-seats c =
    on_ok c.go_through.result _ (keeps_on c.args.state.now c.come_at.new.state c.go_through.new.state c.in_ok-come_at.ensures.seats c.go_through.ensures.same.seats)

pub returns-in_err-tell_crash-in-Down-clause-carried : goal.returns-in_err-tell_crash-in-Down-clause-carried
returns-in_err-tell_crash-in-Down-clause-carried c =
    let s = c.args.state.now in
    let t = c.come_at.new.state in
    let k = c.args.key.now in
    let e = c.args.event.now in
    let heard = c.in-Down.heard in
    let p = err_from_is_err_and c.from_residual-in_err-tell_crash-in-Down.result c.from_residual-in_err-tell_crash-in-Down.ensures.1 in
    let h : HasComeAt k e c.args.place s t (came.Down heard) c.come_at.new.words.words
    = subst (λ x. HasComeAt k e c.args.place s t x c.come_at.new.words.words) c.in-Down.is c.in_ok-come_at.ensures.come in
    let gone : WentDown k e h.before h.later heard = h.come in
    let there = slice_get-map seat_of s.seats.items c.args.place ∙ ap (λ o. option_map seat_of o)
    (read_at _ _ _ _ c.deref.ensures.value c.get.ensures.lookup.3 ∙ ap (λ (o : Option (Bor Kept)). option_copied o) c.in-Some.is) in
    let same = seat_same (seat_of c.in-Some.seat.now) h.before _ there h.there in
    let some = heard_lines (shown s) (family_for k e gone.node) e in
    let kept : AreKept k h.before c.in_ok-roster.roster (shown s)
    = subst (λ (x : Seat). AreKept k x c.in_ok-roster.roster (shown s)) same (c.in_ok-roster.ensures (shown s) c.requires.names) in
    let told : AreTold (shown s) c.in_ok-roster.roster c.items.result.now some
    = heard_told h.before.stop (shown s) k e gone.node (call_wants k e gone.node) gone.node.service gone.node.found h.before.disk gone.image
    c.in_ok-roster.roster c.items.result.now gone.asked (kept gone.node gone.up) (c.items.ensures.same ∙ gone.heard_is) in
    carry_starves (steps c.args.place k e (shown s)) (shown t) c.args.lines.now.items c.tell_crash.new.lines.items
    c.from_residual-in_err-tell_crash-in-Down.result p.0 p.1 p.2
    (crash_starves c.args.place k e (shown s) h.before h.later h.there heard gone (shown t) c.args.lines.now.items c.tell_crash.new.lines.items
    (subst (λ (x : Seat). TellsPart (some ++ Down x.name ∷ []) c.args.lines.now.items c.tell_crash.new.lines.items) same
    (c.in_err-tell_crash-in-Down.ensures (shown s) some
    (subst (λ n. AreNamesOf n (shown s)) (sym c.in_ok-come_at.ensures.names) c.requires.names) told)))

pub returns-clause-carried : goal.returns-clause-carried
returns-clause-carried c =
    let s = c.args.state.now in
    let t = c.come_at.new.state in
    let k = c.args.key.now in
    let e = c.args.event.now in
    let heard = c.in-Down.heard in
    let h : HasComeAt k e c.args.place s t (came.Down heard) c.come_at.new.words.words
    = subst (λ x. HasComeAt k e c.args.place s t x c.come_at.new.words.words) c.in-Down.is c.in_ok-come_at.ensures.come in
    let gone : WentDown k e h.before h.later heard = h.come in
    let there = slice_get-map seat_of s.seats.items c.args.place ∙ ap (λ o. option_map seat_of o)
    (read_at _ _ _ _ c.deref.ensures.value c.get.ensures.lookup.3 ∙ ap (λ (o : Option (Bor Kept)). option_copied o) c.in-Some.is) in
    let same = seat_same (seat_of c.in-Some.seat.now) h.before _ there h.there in
    let some = heard_lines (shown s) (family_for k e gone.node) e in
    let kept : AreKept k h.before c.in_ok-roster.roster (shown s)
    = subst (λ (x : Seat). AreKept k x c.in_ok-roster.roster (shown s)) same (c.in_ok-roster.ensures (shown s) c.requires.names) in
    let told : AreTold (shown s) c.in_ok-roster.roster c.items.result.now some
    = heard_told h.before.stop (shown s) k e gone.node (call_wants k e gone.node) gone.node.service gone.node.found h.before.disk gone.image
    c.in_ok-roster.roster c.items.result.now gone.asked (kept gone.node gone.up) (c.items.ensures.same ∙ gone.heard_is) in
    carried_down c.args.place k e (shown s) h.before h.later h.there heard gone (shown t) c.args.lines.now.items c.tell_crash.new.lines.items h.world
    (subst (λ (x : Seat). Tells (some ++ Down x.name ∷ []) c.args.lines.now.items c.tell_crash.new.lines.items) same
    (c.in_ok-tell_crash-in-Down.ensures (shown s) some
    (subst (λ n. AreNamesOf n (shown s)) (sym c.in_ok-come_at.ensures.names) c.requires.names) told))

pub returns-in-Through-clause-named : goal.returns-in-Through-clause-named
returns-in-Through-clause-named c =
    on_ok c.go_through.result _ (names_stay c.come_at.new.state c.go_through.new.state c.go_through.ensures.same c.in_ok-come_at.ensures.named)
