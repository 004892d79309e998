use Rattle.std.proofs.Common.{◌≡◌, ◌∙◌, refl, sym, subst, Ok, Some, None}
use Rattle.std.specs.Prelude.{IfOk, IfSome}
use Rattle.giop_streams.specs.Held.{HasGiven}
use Rattle.ots_model.specs.declared.completion.Heard.TheVariants.{Other}
use Rattle.ots_model.specs.declared.tree.Heard.TheVariants.{Phase}
use Rattle.outward_calls.proofs.Hearing.{fed_where, heard_first, heard_none, heard_refused}
use Rattle.outward_calls.proofs.words.hear.Goals as goal

pub returns-in-Ok-Some : goal.returns-in-Ok-Some
returns-in-Ok-Some c =
    let come = fed_where c.feed.result c.feed.ensures.ok (sym c.is_err.ensures.value ∙ c.if-is_err.false) in
    let is : c.next.result ≡ Ok (Some c.in-Ok-Some.message) = cc (c.in-Ok-Some.is, c.in-Ok-Some.field-0-is) in
    let given = subst (λ r. IfOk r (λ found. IfSome found (λ m. HasGiven m c.feed.new.self c.next.new.self))) is c.next.ensures.message in
    heard_first c.args.word.now.number.serial c.args.call.now c.args.octets.now c.new-stream.result c.feed.new.self c.next.new.self
    c.hear_message.result c.new-stream.ensures.holds come c.in-Ok-Some.message given c.hear_message.ensures

pub returns-in-Ok-None : goal.returns-in-Ok-None
returns-in-Ok-None c =
    let come = fed_where c.feed.result c.feed.ensures.ok (sym c.is_err.ensures.value ∙ c.if-is_err.false) in
    let is : c.next.result ≡ Ok None = cc (c.in-Ok-None.is, c.in-Ok-None.field-0-is) in
    heard_none c.args.word.now.number.serial c.args.call.now c.args.octets.now c.new-stream.result c.feed.new.self c.next.new.self
    (Phase Other) c.new-stream.ensures.holds come (c.next.ensures.nothing is) (c.next.ensures.partial is) refl

pub returns : goal.returns
returns c =
    let come = fed_where c.feed.result c.feed.ensures.ok (sym c.is_err.ensures.value ∙ c.if-is_err.false) in
    heard_refused c.args.word.now.number.serial c.args.call.now c.args.octets.now c.new-stream.result c.feed.new.self c.next.new.self
    c.unheard_frame.result c.new-stream.ensures.holds come c.in-Err.fault c.in-Err.ensures.refused c.unheard_frame.ensures
