use Rattle.std.proofs.Common.{◌≡◌, true, sym, subst}
use Rattle.decision_journal.specs.Layout.{is_rising}
use Rattle.resource_end.proofs.Claims.{either_way}
use Rattle.resource_end.proofs.Putting.{rising_put}
use Rattle.resource_end.proofs.puts.RisingPuts.set.Goals as goal

pub invariant_of-self : goal.invariant_of-self
invariant_of-self c =
    either_way c.set_put.result _ _ (is_rising c.set_put.new.puts.items ≡ true) c.set_put.ensures.ok c.set_put.ensures.err
    (λ put. subst (λ ps. is_rising ps ≡ true) (sym put) (rising_put c.args.put c.self.inside.items.items c.self.invariant))
    (λ same. subst (λ ps. is_rising ps ≡ true) (sym same) c.self.invariant)
