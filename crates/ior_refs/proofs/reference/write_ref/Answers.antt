use Rattle.std.proofs.Common.{◌≡◌, ℕ, ap, ◌∙◌, arith, subst}
use Rattle.cdr_values.specs.Writing.{written_before}
use Rattle.cdr_values.specs.Tagged.{reference_values}
use Rattle.ior_refs.specs.Reference.{Reference}
use Rattle.ior_refs.specs.Writing.{HasWritten, StopsIn}
use Rattle.ior_refs.proofs.TakenBack.{begun_before, taken_back}
use Rattle.ior_refs.proofs.reference.write_ref.Goals as goal

pub take_back-requires : goal.take_back-requires
take_back-requires c = record { begun = omega (arith, c.place-start.ensures, begun_before _ c.in-Err.fault c.args.w.now c.write_parts.new.writer c.in-Err.ensures) }

pub returns-in-Err : goal.returns-in-Err
returns-in-Err c =
    let parts : Reference = (c.bytes.result.now, c.as_slice.result.now) in
    let same : parts ≡ c.args.o.now = cc in
    let stops : StopsIn (reference_values parts) c.in-Err.fault c.args.w.now c.write_parts.new.writer = c.in-Err.ensures in
    let stopped = subst (λ (o : Reference). StopsIn (reference_values o) c.in-Err.fault c.args.w.now c.write_parts.new.writer) same stops in
    let back = taken_back _ c.in-Err.fault c.args.w.now c.write_parts.new.writer c.in-Err.ensures in
    record {
      ok = tt;
      fits = tt;
      refused = stopped.cause;
      err = c.take_back.ensures ∙ ap (λ (place : ℕ). written_before place c.write_parts.new.writer) c.place-start.ensures ∙ back;
    }

pub returns-in-Ok : goal.returns-in-Ok
returns-in-Ok c =
    let parts : Reference = (c.bytes.result.now, c.as_slice.result.now) in
    let same : parts ≡ c.args.o.now = cc in
    let wrote : HasWritten (reference_values parts) c.args.w.now c.write_parts.new.writer = c.in-Ok.ensures in
    let written = subst (λ (o : Reference). HasWritten (reference_values o) c.args.w.now c.write_parts.new.writer) same wrote in
    record { ok = written.stands; fits = written.fits; refused = tt; err = tt }
