-- Each read gives a value exactly where octets spell it, and so does a call that does what the read does.
use Rattle.std.proofs.Common.{ℕ, Result, Ok, Err, sym, ap, ◌∙◌}
use Rattle.cdr_values.specs.declared.fault.CdrFault.{CdrFault}
use Rattle.cdr_values.specs.Value.{Value, Octet, Boolean, UShort, ULong, ULongLong, OctetSequence, Text, Aligned}
use Rattle.cdr_values.specs.Reading.{Reading, Gives, GivesValue, octet_at, boolean_at, ushort_at, ulong_at, ulonglong_at, octets_at, string_at, aligned_at}
use Rattle.cdr_values.specs.Laws.{ReadsExactly}
use Rattle.cdr_values.proofs.Given.{ok_is}
use Rattle.cdr_values.proofs.Standing.{reads_from, stands_from, aligned_found, aligned_only}
use Rattle.cdr_values.proofs.Numbers.{number_found, number_only, octet_found, octet_only, boolean_found, boolean_only}
use Rattle.cdr_values.proofs.Counted.{octets_found, octets_only, string_found, string_only}

pub octet_exact : ReadsExactly octet_at Octet
octet_exact = record { found = λ r x behind. octet_found x r behind; only = λ r x behind. octet_only x r behind }

pub boolean_exact : ReadsExactly boolean_at Boolean
boolean_exact = record { found = λ r x behind. boolean_found x r behind; only = λ r x behind. boolean_only x r behind }

pub ushort_exact : ReadsExactly ushort_at UShort
ushort_exact = record {
  found = λ r x behind e. let f = number_found 2 x r behind e in reads_from (UShort x) r f.0 behind f.1 f.2;
  only = λ r x behind h. number_only 2 x r behind h.spelled.bare (stands_from (UShort x) r behind h) h.spelled.is_bare;
}

pub ulong_exact : ReadsExactly ulong_at ULong
ulong_exact = record {
  found = λ r x behind e. let f = number_found 4 x r behind e in reads_from (ULong x) r f.0 behind f.1 f.2;
  only = λ r x behind h. number_only 4 x r behind h.spelled.bare (stands_from (ULong x) r behind h) h.spelled.is_bare;
}

pub ulonglong_exact : ReadsExactly ulonglong_at ULongLong
ulonglong_exact = record {
  found = λ r x behind e. let f = number_found 8 x r behind e in reads_from (ULongLong x) r f.0 behind f.1 f.2;
  only = λ r x behind h. number_only 8 x r behind h.spelled.bare (stands_from (ULongLong x) r behind h) h.spelled.is_bare;
}

pub octets_exact : ReadsExactly octets_at OctetSequence
octets_exact = record { found = λ r x behind. octets_found x r behind; only = λ r x behind. octets_only x r behind }

pub string_exact : ReadsExactly string_at Text
string_exact = record { found = λ r x behind. string_found x r behind; only = λ r x behind. string_only x r behind }

pub aligned_exact : (n : ℕ) → ReadsExactly (aligned_at n) (λ nothing. Aligned n)
aligned_exact n = record { found = λ r x behind. aligned_found n r behind; only = λ r x behind. aligned_only n r behind }

-- a call that does what an exact read does gives a value
pub gives_value : {X Y : Type 0} (value : Y → Value) (read : Reading → Result (Y × Reading) CdrFault) (view : X → Y) (result : Result X CdrFault) (old new : Reading) → ReadsExactly read value → Gives view result new old (read old) → GivesValue value read view result old new
gives_value {Y = Y} value read view (Ok x) old new exact given = record {
  found = exact.found old (view x) new given;
  only = λ y behind h.
      let same = ok_is (view x, new) (y, behind) (sym given ∙ exact.only old y behind h) in
      (ap (λ (p : Y × Reading). p.0) same, ap (λ (p : Y × Reading). p.1) same);
  exact = given;
}
gives_value value read view (Err fault) old new exact given = record {
  found = tt;
  only = λ y behind h. let e = sym given.0 ∙ exact.only old y behind h in absurd cc;
  exact = given;
}
