-- Octets that are appended one after another.
use Rattle.std.proofs.Common.{◌≡◌, List, ℕ, ◌++◌, length, take, cond, Result, Ok, Err, refl, ap, ◌∙◌, append_assoc, arith}
use Rattle.std.specs.Prelude.{is_ok}
use Rattle.std.proofs.lemmas.List.{take_all, take_at}
use Rattle.cdr_values.specs.Appending.{AppendsSome}

-- what the last of four calls appends stands behind the others; where it failed, what was there stands in front
pub appended : {F : Type 0} (result : Result (Unit {0}) F) (old one two three four now new : List ℕ) → now ≡ ((old ++ one) ++ two) ++ three → new ≡ cond (is_ok result) (now ++ four) now
    → AppendsSome (one ++ (two ++ (three ++ four))) result old new
appended (Ok x) old one two three four now new is e = record {
  ok = e ∙ ap (λ (x : List ℕ). x ++ four) is ∙ append_assoc ((old ++ one) ++ two) three four ∙ append_assoc (old ++ one) two (three ++ four) ∙ append_assoc old one (two ++ (three ++ four));
  err = tt;
}
appended (Err d) old one two three four now new is e = record {
  ok = tt;
  err = ap (take (length old)) (e ∙ is ∙ append_assoc (old ++ one) two three ∙ append_assoc old one (two ++ three)) ∙ take_at old (one ++ (two ++ three)) (length old) refl;
}

-- nothing was appended
pub failed_first : {F : Type 0} (fault : F) (octets old new : List ℕ) → new ≡ old → AppendsSome octets (Err fault) old new
failed_first fault octets old new e = record {
  ok = tt;
  err = ap (take (length old)) e ∙ take_all (length old) old (omega arith);
}

-- a front was appended
pub failed_behind : {F : Type 0} (fault : F) (octets old front new : List ℕ) → new ≡ old ++ front → AppendsSome octets (Err fault) old new
failed_behind fault octets old front new e = record {
  ok = tt;
  err = ap (take (length old)) e ∙ take_at old front (length old) refl;
}
