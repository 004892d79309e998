use Rattle.std.proofs.Common.{ℕ, List, Bor}
use Rattle.cdr_values.specs.Value.{OctetSequence}
use Rattle.cdr_values.specs.Reading.{octets_at}
use Rattle.cdr_values.proofs.Exact.{gives_value, octets_exact}
use Rattle.cdr_values.proofs.reader.Reader.octets.Goals as goal

pub returns : goal.returns
returns c = gives_value OctetSequence octets_at (λ (octets : Bor (List ℕ)). octets.now) c.next_octets.result c.args.self.now c.next_octets.new.self octets_exact c.next_octets.ensures
