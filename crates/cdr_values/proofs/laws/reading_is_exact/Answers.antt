use Rattle.cdr_values.proofs.Exact.{octet_exact, boolean_exact, ushort_exact, ulong_exact, ulonglong_exact, octets_exact, string_exact, aligned_exact}
use Rattle.cdr_values.proofs.laws.reading_is_exact.Goals as goal

pub returns : goal.returns
returns c = record {
  octet = octet_exact;
  boolean = boolean_exact;
  ushort = ushort_exact;
  ulong = ulong_exact;
  ulonglong = ulonglong_exact;
  octets = octets_exact;
  string = string_exact;
  aligned = aligned_exact;
}
