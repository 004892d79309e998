use Rattle.std.proofs.Common.{◌≡◌, ℕ, ◌+◌, ◌-◌, take, drop, Ok, sym, ap, ◌∙◌, arith}
use Rattle.cdr_values.specs.Reading.{◌>>=◌}
use Rattle.std.proofs.lemmas.Result.{err_from_is_err_and}
use Rattle.giop_frames.specs.declared.fault.FrameFault.TheVariants.{BadFragment, Short}
use Rattle.giop_frames.specs.Content.{message_of}
use Rattle.giop_frames.specs.Decode.{decoded}
use Rattle.giop_frames.proofs.Loops.{fails_from, fails_on, told_behind, told_from, told_ok}
use Rattle.giop_frames.proofs.Whole.{decoded_content, decoded_fault, decoded_headless, decoded_message, decoded_part, decoded_short}
use Rattle.giop_frames.proofs.decoding.decode_front.Goals as goal

pub returns-in_err-found-clause-exact : goal.returns-in_err-found-clause-exact
returns-in_err-found-clause-exact c =
    let p = err_from_is_err_and c.from_residual-in_err-found.result c.from_residual-in_err-found.ensures.1 in
    let h = c.in_ok-header.header in
    let bytes = c.args.bytes.now in
    let same : 12 + h.size - 12 ≡ h.size = omega arith in
    rw (p.1, p.2) (fails_on c.in_err-found.field-0.0 (message_of h.version h.order h.kind (take (12 + h.size - 12) (drop 12 bytes))) (decoded c.args.versions.now bytes)
    (λ e. decoded_fault c.args.versions.now bytes h _ (sym c.in_ok-header.ensures.header) (sym c.is_fragmented.ensures ∙ c.if-is_fragmented.false) (omega arith) (rw same at e)) c.in_err-found.ensures.message)

pub returns-in_err-found-clause-told : goal.returns-in_err-found-clause-told
returns-in_err-found-clause-told c =
    let p = err_from_is_err_and c.from_residual-in_err-found.result c.from_residual-in_err-found.ensures.1 in
    let h = c.in_ok-header.header in
    let bytes = c.args.bytes.now in
    let same : 12 + h.size - 12 ≡ h.size = omega arith in
    let is = decoded_content c.args.versions.now bytes h (sym c.in_ok-header.ensures.header) (sym c.is_fragmented.ensures ∙ c.if-is_fragmented.false) (omega arith) in
    let step : decoded c.args.versions.now bytes ≡ (message_of h.version h.order h.kind (take (12 + h.size - 12) (drop 12 bytes)) >>= λ message. Ok (message, 12 + h.size)) =
    is ∙ ap (λ (n : ℕ). message_of h.version h.order h.kind (take n (drop 12 bytes)) >>= λ message. Ok (message, 12 + h.size)) (sym same) in
    rw (p.1, p.2) (told_behind _ _ c.in_err-found.field-0.0 (message_of h.version h.order h.kind (take (12 + h.size - 12) (drop 12 bytes))) _ (decoded c.args.versions.now bytes) step c.in_err-found.ensures.told)

pub returns-in_err-header-clause-exact : goal.returns-in_err-header-clause-exact
returns-in_err-header-clause-exact c =
    let p = err_from_is_err_and c.from_residual.result c.from_residual.ensures.1 in
    let fault = c.in_err-header.field-0.0 in
    rw (p.1, p.2) (fails_from fault _ (decoded_headless c.args.versions.now c.args.bytes.now fault (sym c.in_err-header.ensures.header)))

pub returns-in_err-header-clause-told : goal.returns-in_err-header-clause-told
returns-in_err-header-clause-told c =
    let p = err_from_is_err_and c.from_residual.result c.from_residual.ensures.1 in
    let fault = c.in_err-header.field-0.0 in
    rw (p.1, p.2) (told_from _ fault _ (decoded_headless c.args.versions.now c.args.bytes.now fault (sym c.in_err-header.ensures.header)))

pub returns-then-is_fragmented-clause-exact : goal.returns-then-is_fragmented-clause-exact
returns-then-is_fragmented-clause-exact c =
    decoded_part c.args.versions.now c.args.bytes.now c.in_ok-header.header (sym c.in_ok-header.ensures.header) (sym c.is_fragmented.ensures ∙ c.if-is_fragmented.true)

pub returns-then-is_fragmented-clause-told : goal.returns-then-is_fragmented-clause-told
returns-then-is_fragmented-clause-told c = told_from _ BadFragment _ (returns-then-is_fragmented-clause-exact c)

pub returns-then-bytes-used-clause-exact : goal.returns-then-bytes-used-clause-exact
returns-then-bytes-used-clause-exact c =
    decoded_short c.args.versions.now c.args.bytes.now c.in_ok-header.header (sym c.in_ok-header.ensures.header) (sym c.is_fragmented.ensures ∙ c.if-is_fragmented.false) c.if-bytes-used.true

pub returns-then-bytes-used-clause-told : goal.returns-then-bytes-used-clause-told
returns-then-bytes-used-clause-told c = told_from _ Short _ (returns-then-bytes-used-clause-exact c)

pub returns-clause-exact : goal.returns-clause-exact
returns-clause-exact c =
    let h = c.in_ok-header.header in
    let same : 12 + h.size - 12 ≡ h.size = omega arith in
    decoded_message c.args.versions.now c.args.bytes.now h _ (sym c.in_ok-header.ensures.header) (sym c.is_fragmented.ensures ∙ c.if-is_fragmented.false) (omega arith) (rw same at c.in_ok-found.ensures.message)

pub returns-clause-told : goal.returns-clause-told
returns-clause-told c = told_ok _ _ _ (returns-clause-exact c)
