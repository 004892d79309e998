use Rattle.std.proofs.Common.{◌≡◌, true, get_or, arith, refl, sym, ◌∙◌}
use Rattle.std.proofs.lemmas.List.{take_all}
use Rattle.ots_model.specs.Name.{is_digit}
use Rattle.ots_program.proofs.Numerals.{digits_value_next, all_digits_next, too_large, read_all}
use Rattle.ots_program.proofs.digits.value_of_digits.Goals as goal

pub returns-in_err-checked_mul : goal.returns-in_err-checked_mul
returns-in_err-checked_mul c =
    let digit : is_digit (get_or c.args.digits.now c.loop-digit.digit-index 0) ≡ true = sym c.is_ascii_digit.ensures.value ∙ c.if-not-is_ascii_digit.false in
    c.from_residual.ensures ∙ too_large c.args.digits.now c.loop-digit.digit-index _ c.loop-digit-test.true refl digit (omega arith)

pub returns-in_err-value : goal.returns-in_err-value
returns-in_err-value c =
    let digit : is_digit (get_or c.args.digits.now c.loop-digit.digit-index 0) ≡ true = sym c.is_ascii_digit.ensures.value ∙ c.if-not-is_ascii_digit.false in
    c.from_residual-in_err-value.ensures ∙ too_large c.args.digits.now c.loop-digit.digit-index _ c.loop-digit-test.true refl digit (omega arith)

pub loop-digit-preserved : goal.loop-digit-preserved
loop-digit-preserved c =
    let digit : is_digit (get_or c.args.digits.now c.loop-digit.digit-index 0) ≡ true = sym c.is_ascii_digit.ensures.value ∙ c.if-not-is_ascii_digit.false in
    record {
      all_digits = all_digits_next c.args.digits.now c.loop-digit.digit-index _ c.loop-digit-test.true refl digit c.loop-digit.invariant.all_digits;
      so_far = rw (digits_value_next c.args.digits.now c.loop-digit.digit-index _ c.loop-digit-test.true refl digit) (omega arith);
      below_limit = omega arith;
    }

pub returns : goal.returns
returns c =
    let whole = take_all c.loop-digit.digit-index c.args.digits.now (omega arith) in
    read_all c.args.digits.now c.loop-digit.value (rw whole at c.loop-digit.invariant.all_digits) (rw whole at c.loop-digit.invariant.so_far) (omega arith)
