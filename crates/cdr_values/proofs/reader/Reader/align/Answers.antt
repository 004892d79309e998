use Rattle.cdr_values.specs.Value.{Aligned}
use Rattle.cdr_values.specs.Reading.{aligned_at}
use Rattle.cdr_values.proofs.Exact.{gives_value, aligned_exact}
use Rattle.cdr_values.proofs.reader.Reader.align.Goals as goal

pub returns : goal.returns
returns c =
    let n = c.args.n in
    gives_value (λ (nothing : Unit {0}). Aligned n) (aligned_at n) (λ (nothing : Unit {0}). nothing) c.skip_gap.result c.args.self.now c.skip_gap.new.self (aligned_exact n) c.skip_gap.ensures
