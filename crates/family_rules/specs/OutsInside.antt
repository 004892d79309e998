-- What contracts see of the words that are kept, and that they stand in order.
use Rattle.std.specs.Prelude.{vec_capacity}
use Rattle.family_rules.specs.Outs.{OutsParts, StandInOrder}
use Rattle.family_rules.specs.declared.outs.Outs.TheInside.{Inside}

abbrev pub shown : Inside → OutsParts
shown o = record { words = o.words.items; capacity = vec_capacity o.words }

pub record IsSound (o : Inside) : Type 0 where
  pub order : StandInOrder o.words.items
