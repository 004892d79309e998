use Rattle.std.proofs.Common.{◌≡◌, ◌++◌, subst}
use Rattle.resource_end.specs.Asking.{HasFrontOf}
use Rattle.resource_end.specs.Calls.{asks}
use Rattle.resource_end.proofs.end.ResourceEnd.asks.Goals as goal

pub returns-in_err-asks-clause-front : goal.returns-in_err-asks-clause-front
unfolding asks
returns-in_err-asks-clause-front g c = subst (λ s. HasFrontOf c.args.out.now.words (asks s.end) c.asks.new.out.words) c.self.view_is c.asks.ensures.front

pub returns-clause-ok : goal.returns-clause-ok
unfolding asks
returns-clause-ok g c = subst (λ s. c.asks.new.out.words ≡ c.args.out.now.words ++ asks s.end) c.self.view_is c.in_ok-asks.ensures.ok

pub returns-clause-front : goal.returns-clause-front
unfolding asks
returns-clause-front g c = subst (λ s. HasFrontOf c.args.out.now.words (asks s.end) c.asks.new.out.words) c.self.view_is c.asks.ensures.front
