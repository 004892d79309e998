-- Words that wait to go out, in order, and for how many more there is room (our profile).
use Rattle.std.specs.Prelude.{ℕ, List}
use Rattle.ots_model.specs.declared.tree.Outward.{Outward}

pub record OutboxParts : Type 0 where
  pub words : List Outward
  pub room : ℕ
