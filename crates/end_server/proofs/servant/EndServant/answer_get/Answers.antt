use Rattle.std.proofs.Common.{◌≡◌, subst, true}
use Rattle.outward_calls.specs.Moment.{LinkMoment, moment}
use Rattle.end_server.specs.Answers.{Gets}
use Rattle.end_server.specs.Serving.{side}
use Rattle.end_server.proofs.servant.EndServant.answer_get.Goals as goal

pub returns-clause-answer : goal.returns-clause-answer
returns-clause-answer g c =
    let link : LinkMoment = moment (g.L.Link.faults c.args.self.now.link) (g.L.Link.exchanged c.args.self.now.link) in
    let is_cells : c.is_cells.result ≡ true = cc (c.if-not-is_cells.false) in
    record {
      own = λ _. subst (λ context. Gets g.E.Ends.does context c.args.cell (side c.args.self.now.ends link) c.get.result (side c.get.new.ends link))
          c.as_ref.ensures.value (c.get.ensures.answer _ _);
      foreign = λ other. absurd (other (c.is_cells.ensures.own is_cells));
    }
