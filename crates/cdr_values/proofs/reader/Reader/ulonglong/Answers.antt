use Rattle.std.proofs.Common.{ℕ}
use Rattle.cdr_values.specs.Value.{ULongLong}
use Rattle.cdr_values.specs.Reading.{ulonglong_at}
use Rattle.cdr_values.proofs.Exact.{gives_value, ulonglong_exact}
use Rattle.cdr_values.proofs.reader.Reader.ulonglong.Goals as goal

pub returns : goal.returns
returns c = gives_value ULongLong ulonglong_at (λ (n : ℕ). n) c.next_ulonglong.result c.args.self.now c.next_ulonglong.new.self ulonglong_exact c.next_ulonglong.ensures
