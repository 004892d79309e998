-- Those of whom the effects of a family speak have the numbers of their places.
use Rattle.std.proofs.Common.{◌∙◌, suc, List, arith}
use Rattle.resource_votes.specs.declared.registration.Registration.{Registration}
use Rattle.family_rules.specs.Order.{AreInOrder}
use Rattle.nodes_world.specs.Happenings.{Cast}
use Rattle.nodes_state.specs.Telling.{AreIndexed, IsIndexed}

pub indexed : (some : List Registration) → AreInOrder some → AreIndexed some
indexed some order i r found = order (suc i) r found ∙ omega arith

pub all_indexed : (c : Cast) → AreInOrder c.registrations → AreInOrder c.synchronizations → IsIndexed c
all_indexed c registrations synchronizations = record {
  registrations = indexed c.registrations registrations;
  synchronizations = indexed c.synchronizations synchronizations;
}
