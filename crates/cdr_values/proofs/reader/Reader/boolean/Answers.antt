use Rattle.std.proofs.Common.{Bool}
use Rattle.cdr_values.specs.Value.{Boolean}
use Rattle.cdr_values.specs.Reading.{boolean_at}
use Rattle.cdr_values.proofs.Exact.{gives_value, boolean_exact}
use Rattle.cdr_values.proofs.reader.Reader.boolean.Goals as goal

pub returns : goal.returns
returns c = gives_value Boolean boolean_at (λ (b : Bool). b) c.next_boolean.result c.args.self.now c.next_boolean.new.self boolean_exact c.next_boolean.ensures
