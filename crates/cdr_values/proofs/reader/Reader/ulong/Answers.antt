use Rattle.std.proofs.Common.{ℕ}
use Rattle.cdr_values.specs.Value.{ULong}
use Rattle.cdr_values.specs.Reading.{ulong_at}
use Rattle.cdr_values.proofs.Exact.{gives_value, ulong_exact}
use Rattle.cdr_values.proofs.reader.Reader.ulong.Goals as goal

pub returns : goal.returns
returns c = gives_value ULong ulong_at (λ (n : ℕ). n) c.next_ulong.result c.args.self.now c.next_ulong.new.self ulong_exact c.next_ulong.ensures
