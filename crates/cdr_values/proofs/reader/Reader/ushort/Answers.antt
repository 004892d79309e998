use Rattle.std.proofs.Common.{ℕ}
use Rattle.cdr_values.specs.Value.{UShort}
use Rattle.cdr_values.specs.Reading.{ushort_at}
use Rattle.cdr_values.proofs.Exact.{gives_value, ushort_exact}
use Rattle.cdr_values.proofs.reader.Reader.ushort.Goals as goal

pub returns : goal.returns
returns c = gives_value UShort ushort_at (λ (n : ℕ). n) c.next_ushort.result c.args.self.now c.next_ushort.new.self ushort_exact c.next_ushort.ensures
