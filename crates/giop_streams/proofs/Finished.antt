-- The last octets of a message.
use Rattle.std.proofs.Common.{◌≡◌, ℕ, ◌≤◌, ◌++◌, inr, List, length, Result, Ok, Err, Some, refl, subst, ◌∙◌}
use Rattle.std.specs.Prelude.{IfErr, IfOk}
use Rattle.std.proofs.lemmas.Bool.{le-ltb}
use Rattle.giop_frames.specs.declared.fault.FrameFault.{FrameFault}
use Rattle.giop_frames.specs.declared.fault.FrameFault.TheVariants as faults
use Rattle.giop_streams.specs.declared.framed.Framed.{Framed}
use Rattle.giop_frames.specs.declared.header.Header.{Header}
use Rattle.giop_frames.specs.Fault.{Fails, Finds}
use Rattle.giop_frames.specs.Limits.{size_limit}
use Rattle.giop_frames.specs.Content.{GivesKept, message_by}
use Rattle.giop_streams.specs.Held.{MayEnd}
use Rattle.giop_streams.specs.Stream.{Judgement, whole_by}
use Rattle.giop_streams.specs.StreamInside.{limited_whole}
use Rattle.giop_streams.proofs.Results.{fails_on}

-- a content that is short enough says what the message does
pub limited_whole_is : (place : ℕ) (header : Header) (octets content : List ℕ) → octets ≡ content → length octets ≤ size_limit → limited_whole place header content ≡ whole_by place header octets
limited_whole_is place header octets content same few = subst (λ (x : List ℕ). limited_whole place header x ≡ whole_by place header octets) same (rw (le-ltb size_limit (length octets) few) refl)

pub whole_says : (result : Result Framed FrameFault) (read limited : Judgement) → limited ≡ read → Finds (λ framed. Some framed) result read → IfOk result (λ framed. limited ≡ Ok (Some framed))
whole_says (Ok framed) read limited same finds = same ∙ finds
whole_says (Err fault) read limited same finds = tt

pub whole_refused : (result : Result Framed FrameFault) (read limited : Judgement) → limited ≡ read → Finds (λ framed. Some framed) result read → IfErr result (λ fault. Fails fault limited)
whole_refused (Ok framed) read limited same finds = tt
whole_refused (Err fault) read limited same finds = fails_on fault read limited (λ e. same ∙ e) finds

-- memory may be wanted for a message that is whole by its joined octets
pub whole_memory : (result : Result Framed FrameFault) (header : Header) (content octets joined : List ℕ) → joined ≡ content ++ octets → length joined ≤ size_limit
    → IfErr result (λ fault. fault ≡ faults.Memory → GivesKept (message_by header joined)) → IfErr result (λ fault. fault ≡ faults.Memory → MayEnd header content octets)
whole_memory (Ok framed) header content octets joined same few memory = tt
whole_memory (Err fault) header content octets joined same few memory = λ e. (rw same at few, inr (rw same at memory e))
