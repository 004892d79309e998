use Rattle.std.proofs.Common.{◌≡◌, ◌∙◌, ℕ, ap, false, refl, subst, sym}
use Rattle.std.proofs.lemmas.Result.{err_from_is_err_and}
use Rattle.giop_frames.specs.Header.{is_fragment}
use Rattle.giop_streams.specs.Held.{AreShort}
use Rattle.giop_frames.specs.Content.{message_by}
use Rattle.giop_streams.specs.Stream.{Part, judged, part_of, whole}
use Rattle.giop_streams.proofs.Results.{fails_on}
use Rattle.giop_streams.proofs.Judging.{after_first, after_whole, judged_first, judged_whole, short_begun, wants_first, wants_whole}
use Rattle.giop_streams.proofs.parts.judge.Goals as goal

pub returns-then-is_fragment : goal.returns-then-is_fragment
returns-then-is_fragment c = c.go_on.ensures c.args.place

pub returns-in_err-begin : goal.returns-in_err-begin
returns-in_err-begin c =
    let part : Part = part_of c.args.header c.args.content.now in
    let messages = c.args.unfinished.now.items in
    let first : is_fragment part.header.kind ≡ false = sym c.is_fragment.ensures ∙ c.if-is_fragment.false in
    let p = err_from_is_err_and c.from_residual.result c.from_residual.ensures.1 in
    rw (p.1, p.2) (record {
      says = tt;
      after = tt;
      refused = fails_on c.in_err-begin.field-0.0 _ (judged messages c.args.place part) (λ e. judged_first messages c.args.place part first c.if-header.true ∙ e) c.in_err-begin.ensures.refused;
      memory = λ e. wants_first messages part first c.if-header.true (c.in_err-begin.ensures.memory e);
      err = c.in_err-begin.ensures.err;
      short = subst AreShort (sym c.in_err-begin.ensures.err) c.requires.unfinished;
    })

pub returns-then-header : goal.returns-then-header
returns-then-header c =
    let part : Part = part_of c.args.header c.args.content.now in
    let messages = c.args.unfinished.now.items in
    let first : is_fragment part.header.kind ≡ false = sym c.is_fragment.ensures ∙ c.if-is_fragment.false in
    let begun = c.in_ok-begin.ensures in
    record {
      says = judged_first messages c.args.place part first c.if-header.true ∙ begun.says;
      after = begun.after ∙ sym (after_first messages c.args.place part first c.if-header.true);
      refused = tt;
      memory = tt;
      err = tt;
      short = subst AreShort (sym begun.after) (short_begun messages c.args.place part c.requires.unfinished begun.room c.requires.content);
    }

pub returns-in_err-found : goal.returns-in_err-found
returns-in_err-found c =
    let part : Part = part_of c.args.header c.args.content.now in
    let messages = c.args.unfinished.now.items in
    let first : is_fragment part.header.kind ≡ false = sym c.is_fragment.ensures ∙ c.if-is_fragment.false in
    let fault = c.in_err-found.field-0.0 in
    let read = message_by c.args.header c.args.content.now in
    let p = err_from_is_err_and c.from_residual-in_err-found.result c.from_residual-in_err-found.ensures.1 in
    rw (p.1, p.2) (record {
      says = tt;
      after = tt;
      refused = fails_on fault read (judged messages c.args.place part) (λ e. judged_whole messages c.args.place part first c.if-header.false ∙ ap (whole c.args.place c.args.header _) e) c.in_err-found.ensures.message;
      memory = λ e. wants_whole messages part first c.if-header.false (c.in_err-found.ensures.memory e);
      err = refl;
      short = c.requires.unfinished;
    })

pub returns : goal.returns
returns c =
    let part : Part = part_of c.args.header c.args.content.now in
    let messages = c.args.unfinished.now.items in
    let first : is_fragment part.header.kind ≡ false = sym c.is_fragment.ensures ∙ c.if-is_fragment.false in
    let found = c.in_ok-found.ensures in
    let read = message_by c.args.header c.args.content.now in
    record {
      says = judged_whole messages c.args.place part first c.if-header.false ∙ ap (λ (n : ℕ). whole c.args.place c.args.header n read) (sym found.start) ∙ ap (whole c.args.place c.args.header _) found.message ∙ sym c.frame.ensures;
      after = sym (after_whole messages c.args.place part first c.if-header.false);
      refused = tt;
      memory = tt;
      err = tt;
      short = c.requires.unfinished;
    }
