use Rattle.std.proofs.Common.{◌≡◌, refl, subst}
use Rattle.std.specs.Option.{option_map}
use Rattle.nodes_lives.specs.Calling.{HasAnswered, HasCalled, stop_of}
use Rattle.nodes_state.specs.declared.seats.Server.TheVariants as servers
use Rattle.nodes_clients.proofs.Come.{through_keeps}
use Rattle.nodes_clients.proofs.coming.come_to.Goals as goal

pub returns-in-Answered-clause-keeps : goal.returns-in-Answered-clause-keeps
returns-in-Answered-clause-keeps c =
    let was : c.args.seat.now.server ≡ servers.Up c.in-Up.node = cc in
    let stop = option_map stop_of c.replace-2.result in
    let called : HasAnswered c.args.key.now c.args.event.now c.in-Up.node stop c.in-Answered.answered c.args.words.now.words c.call.new.words.words
    = subst (λ x. HasCalled c.args.key.now c.args.event.now c.in-Up.node stop x c.args.words.now.words c.call.new.words.words) c.in-Answered.is c.in_ok-answered.ensures.called in
    record {
      name = refl;
      server = through_keeps c.args.key.now c.args.event.now c.args.seat.now.server c.in-Up.node stop c.in-Answered.answered c.args.words.now.words c.call.new.words.words was called;
    }
