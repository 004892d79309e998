use Rattle.std.proofs.Common.{◌≡◌, ◌∙◌, sym}
use Rattle.std.proofs.lemmas.Result.{err_from_is_err_and}
use Rattle.giop_frames.specs.declared.fault.FrameFault.TheVariants as faults
use Rattle.giop_streams.specs.Stream.{Part, id_of, without_id}
use Rattle.giop_streams.specs.StreamInside.{IsAt}
use Rattle.giop_streams.proofs.Judging.{opening_at, opening_short}
use Rattle.giop_streams.proofs.parts.free_id.Goals as goal

pub returns-in_err-id-clause-refused : goal.returns-in_err-id-clause-refused
returns-in_err-id-clause-refused c =
    let part : Part = record { header = c.args.header; content = c.args.content.now } in
    let p = err_from_is_err_and c.from_residual.result c.from_residual.ensures.1 in
    rw (p.1, p.2) (rw c.in_err-id.ensures.0 (opening_short c.args.unfinished.now part c.in_err-id.ensures.1))

pub returns-in_err-id-clause-memory : goal.returns-in_err-id-clause-memory
returns-in_err-id-clause-memory c =
    let p = err_from_is_err_and c.from_residual.result c.from_residual.ensures.1 in
    rw (p.1, p.2) (λ e. let both : without_id ≡ faults.Memory = sym c.in_err-id.ensures.0 ∙ e in absurd cc)

pub returns-in-Some-clause-refused : goal.returns-in-Some-clause-refused
returns-in-Some-clause-refused c =
    let part : Part = record { header = c.args.header; content = c.args.content.now } in
    let at : IsAt (id_of part) c.args.unfinished.now c.in-Some.field-0 = rw (← c.in_ok-id.ensures.1) c.in-Some.ensures.found in
    opening_at c.args.unfinished.now part c.in-Some.field-0 c.in_ok-id.ensures.0 at

pub returns-clause-free : goal.returns-clause-free
returns-clause-free c = rw (← c.in_ok-id.ensures.1) c.in_default.ensures.none
