use Rattle.std.proofs.Common.{◌≡◌, ◌-◌}
use Rattle.cdr_values.specs.Sequence.{each_at}
use Rattle.cdr_values.specs.Tagged.{tagged_at}
use Rattle.ior_refs.specs.Fault.{fault_of}
use Rattle.ior_refs.specs.Iiop.{passed}
use Rattle.ior_refs.proofs.tagged.skip_each_tagged.Given as goal

abbrev pub invariant-loop : goal.invariant-loop
invariant-loop l =
    passed (each_at (tagged_at fault_of) (l.count - l.counter) l.reader)
    ≡ passed (each_at (tagged_at fault_of) l.count l.fn.reader)
