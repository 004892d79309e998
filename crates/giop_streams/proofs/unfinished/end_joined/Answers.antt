use Rattle.std.proofs.Common.{◌∙◌, ◌≡◌, ◌++◌, List, ℕ, Ok, Some, ap, drop, subst, sym, take}
use Rattle.std.proofs.lemmas.List.{take-append-drop}
use Rattle.giop_frames.specs.declared.fault.FrameFault.TheVariants as faults
use Rattle.giop_frames.specs.Content.{GivesKept, message_by, start_by}
use Rattle.giop_frames.specs.Fault.{Fails}
use Rattle.giop_frames.specs.Walk.{IsWalked}
use Rattle.giop_streams.specs.Stream.{whole, whole_by}
use Rattle.giop_streams.proofs.Results.{fails_on}
use Rattle.giop_streams.proofs.SoFar.{walked_on}
use Rattle.giop_streams.proofs.unfinished.end_joined.Goals as goal

pub finish_message-requires-clause-walked : goal.finish_message-requires-clause-walked
finish_message-requires-clause-walked c =
    let octets = c.args.content.now.octets in
    let before = c.args.before in
    subst (λ (x : List ℕ). IsWalked c.args.header x c.args.walk.now) (take-append-drop before octets ∙ sym c.octets.ensures) (walked_on c.args.header (take before octets) (drop before octets) c.args.walk.now c.requires.walked)

pub returns-in-Ok-clause-whole : goal.returns-in-Ok-clause-whole
returns-in-Ok-clause-whole c =
    let h = c.args.header in
    let found = c.in-Ok.ensures in
    let read = message_by h c.octets.result.now in
    let is = ap (λ (n : ℕ). whole c.args.place h n read) (sym found.start) ∙ ap (whole c.args.place h _) found.message ∙ sym c.frame.ensures in
    subst (λ (x : List ℕ). whole_by c.args.place h x ≡ Ok (Some c.frame.result)) c.octets.ensures is

pub returns-in-Err-clause-whole : goal.returns-in-Err-clause-whole
returns-in-Err-clause-whole c =
    let h = c.args.header in
    let octets = c.octets.result.now in
    let fault = c.in-Err.fault in
    let fails = fails_on fault (message_by h octets) (whole_by c.args.place h octets) (λ e. ap (whole c.args.place h (start_by h octets)) e) c.in-Err.ensures.message in
    subst (λ (x : List ℕ). Fails fault (whole_by c.args.place h x)) c.octets.ensures fails

pub returns-in-Err-clause-memory : goal.returns-in-Err-clause-memory
returns-in-Err-clause-memory c =
    subst (λ (x : List ℕ). c.in-Err.fault ≡ faults.Memory → GivesKept (message_by c.args.header x)) c.octets.ensures c.in-Err.ensures.memory
