use Rattle.std.proofs.Common.{refl}
use Rattle.std.specs.Vec.{with_item}
use Rattle.nodes_calls.proofs.Drawn.{all_nodes_stay, none_changed, world_stays}
use Rattle.nodes_calls.proofs.objects.reference_to.Goals as goal

pub returns-then-place-len-clause-world : goal.returns-then-place-len-clause-world
returns-then-place-len-clause-world c =
    let s = c.args.state.now in
    let place = c.place_of-place.result in
    let k = c.index_mut.result.now in
    let v = c.refer_in.new.server in
    world_stays s (record s { seats = with_item s.seats place (record k { server = v }) }) place k v c.index_mut.ensures.value refl refl refl c.refer_in.ensures.same

pub returns-then-place-len-clause-nodes : goal.returns-then-place-len-clause-nodes
returns-then-place-len-clause-nodes c =
    let s = c.args.state.now in
    let place = c.place_of-place.result in
    let k = c.index_mut.result.now in
    let v = c.refer_in.new.server in
    all_nodes_stay s (record s { seats = with_item s.seats place (record k { server = v }) }) place k v c.index_mut.ensures.value refl refl refl c.refer_in.ensures.same

pub returns-else-place-len-clause-nodes : goal.returns-else-place-len-clause-nodes
returns-else-place-len-clause-nodes c = none_changed c.args.state.now
