use Rattle.std.proofs.Common.{◌≡◌, ◌<◌, ◌^◌, true, take}
use Rattle.std.specs.List.{list_all}
use Rattle.std.specs.Str.Parse.{digits_value}
use Rattle.ots_model.specs.Name.{is_digit}
use Rattle.ots_program.proofs.digits.value_of_digits.Given as goal

abbrev pub invariant-loop-digit : goal.invariant-loop-digit
invariant-loop-digit l = record {
  all_digits : list_all is_digit (take l.digit-index l.digits) ≡ true;
  so_far : l.value ≡ digits_value 10 (take l.digit-index l.digits);
  below_limit : l.value < 2 ^ 64;
}
