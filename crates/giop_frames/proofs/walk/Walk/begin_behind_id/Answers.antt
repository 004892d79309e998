use Rattle.std.proofs.Common.{◌≡◌, ◌∙◌, [], ap, arith, refl, sym}
use Rattle.giop_frames.specs.Layout.{Fields}
use Rattle.giop_frames.proofs.Walking.{id_first, none_behind, walked_id}
use Rattle.giop_frames.proofs.walk.Walk.begin_behind_id.Goals as goal

pub returns-clause-walked : goal.returns-clause-walked
returns-clause-walked c =
    let h = c.args.header in
    let table = id_first h.version h.kind c.layout.result.now c.layout.ensures c.in-len1-up.len_at_least in
    λ content long is. walked_id h content c.args.id _ table refl refl (λ octets. ap (λ (t : Fields). record t { id = c.args.id }) (c.forget.ensures octets)) long is

pub returns-clause-place : goal.returns-clause-place
returns-clause-place c =
    let h = c.args.header in
    let table = id_first h.version h.kind c.layout.result.now c.layout.ensures c.in-len1-up.len_at_least in
    rw table refl

pub returns-in_default-clause-place : goal.returns-in_default-clause-place
returns-in_default-clause-place c =
    let h = c.args.header in
    let walked = c.new.ensures.walked [] in
    let front : c.new.result.place ≡ 12 = omega (arith, walked.behind_header, walked.within) in
    front ∙ sym (none_behind h.version h.kind c.layout.result.now c.layout.ensures c.in_default.len_below)
