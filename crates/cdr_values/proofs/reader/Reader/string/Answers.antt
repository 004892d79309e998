use Rattle.std.proofs.Common.{ℕ, List, Bor}
use Rattle.cdr_values.specs.Value.{Text}
use Rattle.cdr_values.specs.Reading.{string_at}
use Rattle.cdr_values.proofs.Exact.{gives_value, string_exact}
use Rattle.cdr_values.proofs.reader.Reader.string.Goals as goal

pub returns : goal.returns
returns c = gives_value Text string_at (λ (text : Bor (List ℕ)). text.now) c.next_string.result c.args.self.now c.next_string.new.self string_exact c.next_string.ensures
