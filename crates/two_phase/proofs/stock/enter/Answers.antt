use Rattle.std.proofs.Common.{◌≡◌, ◌≤◌, ◌++◌, ◌∷◌, [], min, ap, subst, ◌∙◌, arith}
use Rattle.std.specs.Option.{option_to_list}
use Rattle.std.proofs.lemmas.Grind.{common_steps}
use Rattle.ots_model.specs.Limits.{reference_limit}
use Rattle.two_phase.specs.Stages.{longest}
use Rattle.two_phase.specs.StockInside.{AreRoomy}
use Rattle.two_phase.proofs.Reach.{last_roomy, rest_roomy}
use Rattle.two_phase.proofs.stock.enter.Goals as goal

pub entered-requires : goal.entered-requires
entered-requires c =
    let most = min (longest c.into_iter-registration-iterator.result) reference_limit in
    let x = c.unwrap-blank.result in
    let items : c.loop-registration.blanks.items ≡ c.pop.new.self.items ++ x ∷ [] =
    c.pop.ensures.items ∙ ap (λ o. c.pop.new.self.items ++ option_to_list o) c.unwrap-blank.ensures in
    let room : most ≤ x = last_roomy most x c.pop.new.self.items (subst (λ bs. AreRoomy most bs) items c.loop-registration.invariant.roomy) in
    let head : longest c.loop-registration.registration-iterator ≡ longest (c.in-Some.registration.now ∷ c.next.new.self) = ap (λ rs. longest rs) c.in-Some.ensures.steps in
    let shorter = c.loop-registration.invariant.shorter in
    omega (arith, room, head, shorter)

pub loop-registration-preserved : goal.loop-registration-preserved
loop-registration-preserved c =
    let most = min (longest c.into_iter-registration-iterator.result) reference_limit in
    let head : longest c.loop-registration.registration-iterator ≡ longest (c.in-Some.registration.now ∷ c.next.new.self) = ap (λ rs. longest rs) c.in-Some.ensures.steps in
    let before = c.loop-registration.invariant in
    record {
      entered = grind (arith, common_steps);
      taken = grind (arith, common_steps);
      room = grind (arith, common_steps);
      capacity = grind (arith, common_steps);
      shorter = let shorter = before.shorter in omega (arith, head, shorter);
      roomy = rest_roomy most c.pop.new.self.items (option_to_list c.pop.result) (subst (λ bs. AreRoomy most bs) c.pop.ensures.items before.roomy);
    }
