use Rattle.std.proofs.Common.{ℕ}
use Rattle.cdr_values.specs.Value.{Octet}
use Rattle.cdr_values.specs.Reading.{octet_at}
use Rattle.cdr_values.proofs.Exact.{gives_value, octet_exact}
use Rattle.cdr_values.proofs.reader.Reader.octet.Goals as goal

pub returns : goal.returns
returns c = gives_value Octet octet_at (λ (n : ℕ). n) c.next_octet.result c.args.self.now c.next_octet.new.self octet_exact c.next_octet.ensures
