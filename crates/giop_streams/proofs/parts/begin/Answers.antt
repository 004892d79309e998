use Rattle.std.proofs.Common.{◌≡◌, ◌<◌, ◌++◌, ◌∷◌, [], ◌∙◌, ℕ, ap, length, List, None}
use Rattle.std.proofs.lemmas.Result.{err_from_is_err_and}
use Rattle.giop_streams.specs.Limits.{unfinished_limit}
use Rattle.giop_frames.specs.Content.{message_by}
use Rattle.giop_streams.specs.Stream.{Part, Unfinished, begun_as, id_of, numbered, opening, so_far}
use Rattle.giop_streams.proofs.Results.{fails_from, fails_on}
use Rattle.giop_streams.proofs.Judging.{opening_free}
use Rattle.giop_streams.proofs.parts.begin.Goals as goal

pub returns-in_err-id-clause-refused : goal.returns-in_err-id-clause-refused
returns-in_err-id-clause-refused c =
    let p = err_from_is_err_and c.from_residual.result c.from_residual.ensures.1 in
    rw (p.1, p.2) (fails_from c.in_err-id.field-0.0 _ (rw c.deref.ensures.value at c.in_err-id.ensures.refused))

pub returns-in_err-id-clause-memory : goal.returns-in_err-id-clause-memory
returns-in_err-id-clause-memory c =
    let p = err_from_is_err_and c.from_residual.result c.from_residual.ensures.1 in
    rw (p.1, p.2) (λ e. absurd (c.in_err-id.ensures.memory e))

pub returns-in_err-new-clause-refused : goal.returns-in_err-new-clause-refused
returns-in_err-new-clause-refused c =
    let part : Part = record { header = c.args.header; content = c.args.content.now } in
    let messages = c.args.unfinished.now.items in
    let free : numbered (id_of part) messages ≡ None = rw c.deref.ensures.value at c.in_ok-id.ensures.free in
    let room : length messages < unfinished_limit = rw c.deref.ensures.value at c.in_ok-id.ensures.room in
    let judged = opening_free messages part c.in_ok-id.ensures.long free room in
    let p = err_from_is_err_and c.from_residual-in_err-new.result c.from_residual-in_err-new.ensures.1 in
    rw (p.1, p.2) (fails_on c.in_err-new.field-0.0 (so_far (message_by part.header part.content)) (opening messages part) (λ e. judged ∙ e) c.in_err-new.ensures.refused)

pub returns-in_err-new-clause-memory : goal.returns-in_err-new-clause-memory
returns-in_err-new-clause-memory c =
    let p = err_from_is_err_and c.from_residual-in_err-new.result c.from_residual-in_err-new.ensures.1 in
    rw (p.1, p.2) (λ e. (rw c.deref.ensures.value at c.in_ok-id.ensures.free, rw c.deref.ensures.value at c.in_ok-id.ensures.room, c.in_err-new.ensures.memory e))

pub returns-clause-says : goal.returns-clause-says
returns-clause-says c =
    let part : Part = record { header = c.args.header; content = c.args.content.now } in
    let messages = c.args.unfinished.now.items in
    let free : numbered (id_of part) messages ≡ None = rw c.deref.ensures.value at c.in_ok-id.ensures.free in
    let room : length messages < unfinished_limit = rw c.deref.ensures.value at c.in_ok-id.ensures.room in
    opening_free messages part c.in_ok-id.ensures.long free room ∙ c.in_ok-new.ensures.sound

pub returns-clause-after : goal.returns-clause-after
returns-clause-after c =
    let part : Part = record { header = c.args.header; content = c.args.content.now } in
    let messages = c.args.unfinished.now.items in
    let begun = c.in_ok-new.ensures.begun ∙ ap (λ (id : ℕ). begun_as id c.args.place part) c.in_ok-id.ensures.id in
    ◌∙◌ {A = List Unfinished} c.in_ok-push.ensures.items (ap (λ (u : Unfinished). messages ++ (u ∷ [])) begun)

pub returns-clause-room : goal.returns-clause-room
returns-clause-room c = rw c.deref.ensures.value at c.in_ok-id.ensures.room

pub returns-in_err-push-clause-memory : goal.returns-in_err-push-clause-memory
returns-in_err-push-clause-memory c =
    let p = err_from_is_err_and c.from_residual-in_err-push.result c.from_residual-in_err-push.ensures.1 in
    rw (p.1, p.2) (λ e. (rw c.deref.ensures.value at c.in_ok-id.ensures.free, rw c.deref.ensures.value at c.in_ok-id.ensures.room, c.in_ok-new.ensures.sound))
