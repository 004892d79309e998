-- What is decided or closed in a world is so in a later one, and so in one that is later still.
use Rattle.std.proofs.Common.{List}
use Rattle.nodes_world.specs.Told.{Told}
use Rattle.nodes_world.specs.World.{World}
use Rattle.nodes_steps.specs.Steps.{Lasts}

pub Lasts-still : (w : World) (told : List Told) → Lasts w w told told
Lasts-still w told = record {
  named = λ name named is. is;
  outcomes = record { decided = λ name key is first so. so; closed = λ name key is first so. so };
}

pub Lasts-then : (a b c : World) (told more all : List Told) → Lasts a b told more → Lasts b c more all → Lasts a c told all
Lasts-then a b c told more all h k = record {
  named = λ name named is. k.named name named (h.named name named is);
  outcomes = record {
    decided = λ name key is first so. k.outcomes.decided name key (h.named name _ is) first (h.outcomes.decided name key is first so);
    closed = λ name key is first so. k.outcomes.closed name key (h.named name _ is) first (h.outcomes.closed name key is first so);
  };
}
