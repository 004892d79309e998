use Rattle.std.proofs.Common.{◌≡◌, ◌∙◌, true, Option, Some, None, ap, sym}
use Rattle.std.specs.Prelude.{IfSome}
use Rattle.std.specs.Option.{unwrap_or}
use Rattle.resource_end.specs.End.{Resource}
use Rattle.resource_end.specs.Inside.{holds_cell, numbered}
use Rattle.resource_end.proofs.kept.Resources.other_holder.Goals as goal

pub holder_beside-requires : goal.holder_beside-requires
holder_beside-requires c other = by (numbered other c.args.self.now) (c.requires other)
  where
    by : (o : Option Resource) → IfSome o (λ r. holds_cell c.args.cell r ≡ true → c.args.holder ≡ Some other) → IfSome o (λ r. holds_cell c.args.cell r ≡ true → other ≡ c.in-Some.holder)
    by None h = tt
    by (Some r) h = λ hc. ap (λ o. unwrap_or o other) (sym (h hc) ∙ c.in-Some.is)
