use Rattle.std.proofs.Common.{ℕ, List, ◌++◌, ◌∙◌, ap, inl, inr, length, refl, arith}
use Rattle.std.proofs.lemmas.Result.{err_from_is_err_and}
use Rattle.cdr_values.specs.Writing.{Writing}
use Rattle.giop_frames.specs.Encode.{content_of, refusal_of}
use Rattle.giop_frames.specs.EncodeInside.{values_told}
use Rattle.giop_frames.proofs.Refused.{field_refuses, fields_alike, spelled_by, unless_err, unless_ok}
use Rattle.giop_frames.proofs.Canonical.{fields_written, spelled}
use Rattle.giop_frames.proofs.encoding.encode_told.Goals as goal

pub returns-in_err-sink : goal.returns-in_err-sink
returns-in_err-sink c m tells =
    let p = err_from_is_err_and c.from_residual.result c.from_residual.ensures.1 in
    let why = field_refuses c.args.version m _ (rw (tells.fields, tells.kind) at c.in_err-sink.ensures.refused) in
    rw (p.1, p.2) (record { ok = tt; spelled = tt; fits = tt; refused = inr why; told = rw why refl; err = refl })

pub content_size-requires-clause-ends : goal.content_size-requires-clause-ends
content_size-requires-clause-ends c = c.in_ok-sink.ensures.end

pub content_size-requires-clause-within : goal.content_size-requires-clause-within
content_size-requires-clause-within c = c.in_ok-sink.ensures.within

pub content_size-requires-clause-passes : goal.content_size-requires-clause-passes
content_size-requires-clause-passes c = c.in_ok-sink.ensures.passes

pub returns-in_err-size : goal.returns-in_err-size
returns-in_err-size c m tells =
    let p = err_from_is_err_and c.from_residual-in_err-size.result c.from_residual-in_err-size.ensures.1 in
    let why = unless_err (refusal_of c.args.version m) (length (content_of c.args.version m)) c.in_err-size.field-0.0 (c.in_err-size.ensures m tells) in
    rw (p.1, p.2) (record { ok = tt; spelled = tt; fits = tt; refused = inr why; told = rw why refl; err = refl })

pub returns-in_default : goal.returns-in_default
returns-in_default c m tells =
    let found = unless_ok (refusal_of c.args.version m) (length (content_of c.args.version m)) c.in_ok-size.size (c.in_ok-size.ensures m tells) in
    record { ok = tt; spelled = tt; fits = tt; refused = inl refl; told = rw found.0 tt; err = refl }

pub append-requires : goal.append-requires
append-requires c =
    let octets = rw c.in-Some.writer-is at c.finish-fields.ensures.octets in
    let few = rw c.in-Some.writer-is at c.finish-fields.ensures.few in
    omega (arith, ap length c.bytes.ensures.same, ap length octets, few)

pub returns-in_err-append : goal.returns-in_err-append
returns-in_err-append c m tells =
    let p = err_from_is_err_and c.from_residual-in_err-append.result c.from_residual-in_err-append.ensures.1 in
    let found = unless_ok (refusal_of c.args.version m) (length (content_of c.args.version m)) c.in_ok-size.size (c.in_ok-size.ensures m tells) in
    rw (p.1, p.2) (record { ok = tt; spelled = tt; fits = tt; refused = inl refl; told = rw found.0 tt; err = c.in_err-append.ensures.err })

pub returns : goal.returns
returns c m tells =
    let version = c.args.version in
    let told = c.args.told.now in
    let values = values_told version told in
    let found = unless_ok (refusal_of version m) (length (content_of version m)) c.in_ok-size.size (c.in_ok-size.ensures m tells) in
    let written = rw c.in-Some.is at c.in_ok-sink.ensures.written in
    let octets = rw c.in-Some.writer-is at c.finish-fields.ensures.octets in
    let finished = octets ∙ ap (λ (w : Writing). w.octets) written.0 ∙ fields_written told.order values ∙ fields_alike version m told tells in
    record {
      ok = c.in_ok-append.ensures.ok ∙ ap (λ (octets : List ℕ). c.args.into.now.items ++ octets) (spelled_by version m told _ _ tells found.1 (c.bytes.ensures.same ∙ finished));
      spelled = spelled c.canonical_octets_spell.ensures version m found.0 (rw (tells.fields, tells.kind) at written.1);
      fits = found.0;
      refused = tt;
      told = rw found.0 tt;
      err = tt;
    }
