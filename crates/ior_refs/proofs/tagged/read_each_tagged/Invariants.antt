use Rattle.std.proofs.Common.{◌≡◌, ◌-◌, length}
use Rattle.std.specs.List.{flat_map}
use Rattle.cdr_values.specs.Again.{AllFit}
use Rattle.cdr_values.specs.Sequence.{each_at, after_front}
use Rattle.cdr_values.specs.Tagged.{tagged_at, tagged_values}
use Rattle.ior_refs.specs.Fault.{fault_of}
use Rattle.ior_refs.proofs.tagged.read_each_tagged.Given as goal

abbrev pub invariant-loop : goal.invariant-loop
invariant-loop l = record {
  exact : after_front l.all.items (each_at (tagged_at fault_of) (l.count - l.counter) l.reader) ≡ each_at (tagged_at fault_of) l.count l.fn.reader;
  fits : AllFit (flat_map tagged_values l.all.items);
  count : length l.all.items ≡ l.counter;
}
