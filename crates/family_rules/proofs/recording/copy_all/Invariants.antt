use Rattle.std.proofs.Common.{◌≡◌, ◌++◌, map}
use Rattle.std.specs.List.{AllByRecursion}
use Rattle.decision_journal.specs.Layout.{FitsRegistration}
use Rattle.family_rules.specs.Recording.{recorded}
use Rattle.family_rules.proofs.recording.copy_all.Given as goal

abbrev pub invariant-loop-registration : goal.invariant-loop-registration
invariant-loop-registration l = record {
  entered : l.copies.items ++ map recorded l.registration-iterator ≡ map recorded l.initial.registration-iterator;
  fits : AllByRecursion FitsRegistration l.copies.items;
}
