use Rattle.std.proofs.Common.{◌≡◌, ◌∙◌, true, false, sym, set, arith}
use Rattle.std.proofs.lemmas.Grind.{common_steps}
use Rattle.std.proofs.lemmas.Result.{err_from_is_err_and}
use Rattle.giop_frames.specs.Header.{is_fragment}
use Rattle.giop_streams.specs.Stream.{Part, id_of, part_of}
use Rattle.giop_streams.specs.StreamInside.{IsAt}
use Rattle.giop_streams.proofs.Numbered.{remove-set}
use Rattle.giop_streams.proofs.Judging.{fragment_fails, fragment_says, after_last}
use Rattle.giop_streams.proofs.parts.end.Goals as goal

pub returns-in_err-framed : goal.returns-in_err-framed
returns-in_err-framed c =
    let messages = c.args.unfinished.now.items in
    let p = err_from_is_err_and c.from_residual.result c.from_residual.ensures.1 in
    let same : set messages c.args.index c.finish.new.self ≡ messages = grind (arith, common_steps, c.in_err-framed.ensures.err) in
    rw (p.1, p.2)
    (fragment_fails messages (part_of c.args.header c.args.content.now) c.args.index c.index_mut.result.now c.behind_id.result.now false c.in_err-framed.field-0.0 _ c.requires.fragment c.requires.long c.requires.at c.index_mut.ensures.value c.behind_id.ensures c.requires.more
    c.in_err-framed.ensures.refused c.in_err-framed.ensures.memory same c.requires.unfinished)

pub returns : goal.returns
returns c place =
    let part : Part = part_of c.args.header c.args.content.now in
    let messages = c.args.unfinished.now.items in
    let first = c.index_mut.result.now in
    let fragment : is_fragment part.header.kind ≡ true = c.requires.fragment in
    let at : IsAt (id_of part) messages c.args.index = c.requires.at in
    let says = fragment_says messages place part c.args.index first c.behind_id.result.now false fragment c.requires.long at c.index_mut.ensures.value c.behind_id.ensures c.requires.more in
    record {
      says = says ∙ c.in_ok-framed.ensures.says;
      after = c.remove.ensures.items ∙ remove-set messages c.args.index c.finish.new.self ∙ sym (after_last messages place part c.args.index fragment c.requires.more at);
      refused = tt;
      memory = tt;
      err = tt;
      short = grind (arith, common_steps);
    }
