use Rattle.std.proofs.Common.{refl, ap, ◌∙◌}
use Rattle.std.specs.Vec.{with_item}
use Rattle.nodes_world.specs.Ends.{with_end, with_fresh}
use Rattle.nodes_world.specs.World.{end_at}
use Rattle.nodes_state.specs.Shown.{shown}
use Rattle.nodes_calls.proofs.Drawn.{at_place, end_within, last_in, nodes_stay, world_becomes}
use Rattle.nodes_calls.proofs.objects.make_resource.Goals as goal

pub make_in-requires : goal.make_in-requires
make_in-requires c =
    let s = c.args.state.now in
    let place = c.place_of-place.result in
    let k = c.index_mut.result.now in
    let made = c.requires.last in
    let up = ap (λ n. end_at (shown s) n) c.place_of-place.ensures ∙ made.there in
    record { last = last_in s place k c.args.object.now.key made.end (at_place s.seats.items place k (end_within s place made.end up) c.index_mut.ensures.value) up made.last }

pub returns-clause-world : goal.returns-clause-world
returns-clause-world c =
    let s = c.args.state.now in
    let place = c.place_of-place.result in
    let k = c.index_mut.result.now in
    let made = c.requires.last in
    let up = ap (λ n. end_at (shown s) n) c.place_of-place.ensures ∙ made.there in
    let v = c.make_in.new.server in
    world_becomes s (record s { seats = with_item s.seats place (record k { server = v }) }) place k v
    (at_place s.seats.items place k (end_within s place made.end up) c.index_mut.ensures.value) refl refl refl (with_fresh c.args.object.now.key) c.make_in.ensures
    ∙ ap (λ n. with_end n (with_fresh c.args.object.now.key) (shown s)) c.place_of-place.ensures

pub returns-clause-nodes : goal.returns-clause-nodes
returns-clause-nodes c =
    let s = c.args.state.now in
    let place = c.place_of-place.result in
    let k = c.index_mut.result.now in
    let made = c.requires.last in
    let up = ap (λ n. end_at (shown s) n) c.place_of-place.ensures ∙ made.there in
    let v = c.make_in.new.server in
    nodes_stay s (record s { seats = with_item s.seats place (record k { server = v }) }) place k v
    (at_place s.seats.items place k (end_within s place made.end up) c.index_mut.ensures.value) refl refl refl (with_fresh c.args.object.now.key) c.make_in.ensures
