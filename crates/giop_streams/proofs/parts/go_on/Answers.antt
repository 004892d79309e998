use Rattle.std.proofs.Common.{◌≡◌, ◌∙◌, true, None, refl, sym}
use Rattle.std.proofs.lemmas.Result.{err_from_is_err_and}
use Rattle.giop_frames.specs.declared.fault.FrameFault.TheVariants as faults
use Rattle.giop_frames.specs.Header.{is_fragment}
use Rattle.giop_streams.specs.Stream.{Part, id_of, numbered, part_of, without_id}
use Rattle.giop_streams.proofs.Results.{fails_from}
use Rattle.giop_streams.proofs.Judging.{fragment_short, fragment_alone}
use Rattle.giop_streams.proofs.parts.go_on.Goals as goal

-- a Fragment of no message wants none
not_memory : faults.BadFragment ≡ faults.Memory → ⊥
not_memory e = cc

-- nor does one without a request_id
id_or_memory : without_id ≡ faults.Memory → ⊥
id_or_memory e = cc

pub returns-in_err-id : goal.returns-in_err-id
returns-in_err-id c =
    let part : Part = part_of c.args.header c.args.content.now in
    let fragment : is_fragment part.header.kind ≡ true = c.requires.fragment in
    let p = err_from_is_err_and c.from_residual.result c.from_residual.ensures.1 in
    rw (p.1, p.2) (λ place. record {
      says = tt;
      after = tt;
      refused = fails_from c.in_err-id.field-0.0 _ (rw c.in_err-id.ensures.0 (fragment_short c.args.unfinished.now.items place part fragment c.in_err-id.ensures.1));
      memory = λ e. absurd (id_or_memory (sym c.in_err-id.ensures.0 ∙ e));
      err = refl;
      short = c.requires.unfinished;
    })

pub returns-in-None : goal.returns-in-None
returns-in-None c place =
    let part : Part = part_of c.args.header c.args.content.now in
    let fragment : is_fragment part.header.kind ≡ true = c.requires.fragment in
    let free : numbered (id_of part) c.args.unfinished.now.items ≡ None = rw (← c.in_ok-id.ensures.1, ← c.deref.ensures.value) c.in-None.ensures.none in
    record {
      says = tt;
      after = tt;
      refused = fragment_alone c.args.unfinished.now.items place part fragment c.in_ok-id.ensures.0 free;
      memory = λ e. absurd (not_memory e);
      err = refl;
      short = c.requires.unfinished;
    }

pub extend-requires-clause-at : goal.extend-requires-clause-at
extend-requires-clause-at c = rw (← c.in_ok-id.ensures.1, ← c.deref.ensures.value) c.in-Some.ensures.found

pub end-requires-clause-at : goal.end-requires-clause-at
end-requires-clause-at c = rw (← c.in_ok-id.ensures.1, ← c.deref.ensures.value) c.in-Some.ensures.found

pub returns-in-Some : goal.returns-in-Some
returns-in-Some c = c.extend.ensures

pub returns-in-Some-2 : goal.returns-in-Some-2
returns-in-Some-2 c = c.end.ensures
