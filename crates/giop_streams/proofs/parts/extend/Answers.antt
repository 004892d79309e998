use Rattle.std.proofs.Common.{◌≡◌, ℕ, List, ◌∙◌, true, ap, sym, get_or, set, drop, arith}
use Rattle.std.proofs.lemmas.Grind.{common_steps}
use Rattle.std.proofs.lemmas.Result.{err_from_is_err_and}
use Rattle.giop_frames.specs.Header.{is_fragment}
use Rattle.giop_streams.specs.Stream.{Part, Unfinished, id_of, part_of, with_more}
use Rattle.giop_streams.specs.StreamInside.{IsAt}
use Rattle.giop_streams.proofs.Judging.{fragment_fails, fragment_says, after_more}
use Rattle.giop_streams.proofs.parts.extend.Goals as goal

pub returns-in_err-go_on : goal.returns-in_err-go_on
returns-in_err-go_on c =
    let messages = c.args.unfinished.now.items in
    let p = err_from_is_err_and c.from_residual.result c.from_residual.ensures.1 in
    let same : set messages c.args.index c.go_on.new.self ≡ messages = grind (arith, common_steps, c.in_err-go_on.ensures.err) in
    rw (p.1, p.2)
    (fragment_fails messages (part_of c.args.header c.args.content.now) c.args.index c.index_mut.result.now c.behind_id.result.now true c.in_err-go_on.field-0.0 _ c.requires.fragment c.requires.long c.requires.at c.index_mut.ensures.value c.behind_id.ensures c.requires.more
    c.in_err-go_on.ensures.refused c.in_err-go_on.ensures.memory same c.requires.unfinished)

pub returns : goal.returns
returns c place =
    let part : Part = part_of c.args.header c.args.content.now in
    let messages = c.args.unfinished.now.items in
    let first = c.index_mut.result.now in
    let fragment : is_fragment part.header.kind ≡ true = c.requires.fragment in
    let at : IsAt (id_of part) messages c.args.index = c.requires.at in
    let says = fragment_says messages place part c.args.index first c.behind_id.result.now true fragment c.requires.long at c.index_mut.ensures.value c.behind_id.ensures c.requires.more in
    let more : Unfinished → Unfinished = with_more (drop 4 part.content) in
    let written : c.go_on.new.self ≡ more (get_or messages c.args.index first) =
    c.in_ok-go_on.ensures.after ∙ ap (λ (o : List ℕ). with_more o first) c.behind_id.ensures ∙ ap more c.index_mut.ensures.value in
    record {
      says = says ∙ c.in_ok-go_on.ensures.says;
      after = ap (set messages c.args.index) written ∙ sym (after_more messages place part c.args.index first fragment c.requires.more at);
      refused = tt;
      memory = tt;
      err = tt;
      short = grind (arith, common_steps, c.in_ok-go_on.ensures.short);
    }
