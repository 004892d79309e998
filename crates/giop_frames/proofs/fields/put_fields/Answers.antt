use Rattle.std.proofs.Common.{ℕ, get_or, ap, arith}
use Rattle.std.proofs.lemmas.List.{get_or_default}
use Rattle.std.proofs.lemmas.List.Sums.{sum_by_more}
use Rattle.std.proofs.lemmas.Result.{err_from_is_err_and}
use Rattle.giop_frames.specs.declared.layout.Field.TheVariants as fields
use Rattle.giop_frames.specs.Encode.{field_values, fields_refusal}
use Rattle.giop_frames.specs.EncodeInside.{fields_told, octets_in_field}
use Rattle.giop_frames.proofs.Putting.{passes, put_more, put_nothing, refuses}
use Rattle.giop_frames.proofs.fields.put_fields.Goals as goal

pub loop-field-preserved : goal.loop-field-preserved
loop-field-preserved c =
    let f = fields_told c.args.told.now in
    let items = c.layout-field-items.result.now in
    let i = c.loop-field.field-index in
    let one = get_or items i fields.Id in
    let is = get_or_default items i fields.Id one c.loop-field-test.true in
    let puts = c.in_ok-put_field.ensures.puts in
    record {
      put = put_more (field_values f) c.args.sink.now c.loop-field.sink c.put_field.new.sink items i one c.loop-field-test.true is c.loop-field.invariant.put puts.put;
      so_far = passes f c.loop-field.sink.end c.put_field.new.sink.end items i one _ c.loop-field-test.true is c.loop-field.invariant.so_far puts.passes puts.put.end;
      most = omega (arith, c.loop-field.invariant.most, c.in_ok-put_field.ensures.within, sum_by_more (octets_in_field f) items i one c.loop-field-test.true, ap (octets_in_field f) is);
    }

pub loop-field-init : goal.loop-field-init
loop-field-init c = record {
  put = put_nothing c.args.sink.now;
  so_far = ap (λ (at : ℕ). fields_refusal (fields_told c.args.told.now) at c.layout-field-items.result.now) c.requires.front;
  most = omega (arith, c.requires.front);
}

pub returns-in_err-put_field-clause-puts : goal.returns-in_err-put_field-clause-puts
returns-in_err-put_field-clause-puts c =
    let f = fields_told c.args.told.now in
    let items = c.layout-field-items.result.now in
    let i = c.loop-field.field-index in
    let one = get_or items i fields.Id in
    let fault = c.in_err-put_field.field-0.0 in
    let p = err_from_is_err_and c.from_residual.result c.from_residual.ensures.1 in
    let refused = refuses f c.loop-field.sink.end items i one fault _ c.loop-field-test.true (get_or_default items i fields.Id one c.loop-field-test.true) c.loop-field.invariant.so_far c.in_err-put_field.ensures.puts.refused in
    rw (p.1, p.2) (record { put = tt; passes = tt; refused = rw c.layout-field-items.ensures at refused })

pub returns-in_err-put_field-clause-within : goal.returns-in_err-put_field-clause-within
returns-in_err-put_field-clause-within c =
    let p = err_from_is_err_and c.from_residual.result c.from_residual.ensures.1 in
    rw p.1 tt
