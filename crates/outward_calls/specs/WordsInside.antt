-- What is heard, or why nothing is.
use Rattle.std.specs.Prelude.{◌≡◌, ◌≢◌, ◌<◌, ◌⊎◌, ◌&&◌, ◌==◌, ℕ, Bool, true, false, List, length, Result, Ok, Err}
use Rattle.giop_frames.specs.declared.fault.FrameFault.{FrameFault}
use Rattle.giop_frames.specs.declared.fault.FrameFault.TheVariants.{Memory}
use Rattle.giop_frames.specs.declared.message.Message.{Message}
use Rattle.giop_frames.specs.declared.message.Message.TheVariants as messages
use Rattle.giop_frames.specs.declared.message.Reply.{Reply}
use Rattle.giop_frames.specs.declared.message.Request.{Request}
use Rattle.ior_refs.specs.declared.fault.IorFault.{IorFault}
use Rattle.ior_refs.specs.declared.fault.IorFault.TheVariants as references
use Rattle.ior_refs.specs.declared.profile.Iiop.{Iiop}
use Rattle.ots_calls.specs.Heard.{heard_in_reply}
use Rattle.ots_calls.specs.declared.call.Call.{Call}
use Rattle.ots_calls.specs.declared.fault.CallFault.{CallFault}
use Rattle.ots_calls.specs.declared.fault.CallFault.TheVariants as calls
use Rattle.ots_model.specs.declared.completion.Heard.{Heard as PhaseHeard}
use Rattle.ots_model.specs.declared.completion.Heard.TheVariants.{Other, Starved}
use Rattle.ots_model.specs.declared.tree.Heard.{Heard}
use Rattle.ots_model.specs.declared.tree.Heard.TheVariants.{Phase}
use Rattle.ots_model.specs.declared.tree.Outward.{Outward}
use Rattle.ots_sessions.specs.Short.{is_short_list}
use Rattle.outward_calls.specs.Words.{Home, IsPlace, IsRequestFor}
use Rattle.outward_calls.specs.declared.words.Unheard.{Unheard}

abbrev pub heard_by : Result Heard Unheard → Heard
heard_by (Ok heard) = heard
heard_by (Err unheard) = Phase unheard.0

-- memory was wanting
abbrev pub IsStarved : PhaseHeard → Type 0
IsStarved heard = heard ≡ Starved

-- what is heard where a reference can't be read, and where a call can't be written
abbrev pub unread : IorFault → PhaseHeard
unread references.Memory = Starved
unread fault = Other

abbrev pub unwritten : CallFault → PhaseHeard
unwritten calls.Memory = Starved
unwritten fault = Other

-- memory was wanting, or a reference tells no place, or a key that is too long
abbrev pub IsNowhere : List ℕ → PhaseHeard → Type 0
IsNowhere octets heard = (heard ≡ Starved) ⊎ ((heard ≡ Other) × ((place : Iiop) → IsPlace octets place → 256 < length place.key))

-- memory was wanting, or there is no request for a word to this place
abbrev pub IsUnspoken : Home → Outward → Iiop → PhaseHeard → Type 0
IsUnspoken from word place heard = (heard ≡ Starved) ⊎ ((heard ≡ Other) × ((request : Request) → ¬ IsRequestFor from word place request))

-- the reply has this request_id, and is short
abbrev pub is_reply_to : ℕ → Reply → Bool
is_reply_to id reply = reply.id == id && is_short_list reply.body

-- what is heard in a message: what the call's caller hears in the reply to it; or memory was wanting
pub record HearsReply (id : ℕ) (call : Call) (message : Message) (heard : Heard) : Type 0 where
  pub reply : Reply
  pub message_is : message ≡ messages.Reply reply
  pub own : is_reply_to id reply ≡ true
  pub heard_is : (heard ≡ Phase Starved) ⊎ (heard ≡ heard_in_reply call reply)

pub record HearsNone (id : ℕ) (message : Message) (heard : Heard) : Type 0 where
  pub another : (reply : Reply) → message ≡ messages.Reply reply → is_reply_to id reply ≡ false
  pub heard_is : heard ≡ Phase Other

abbrev pub HearsOf : ℕ → Call → Message → Heard → Type 0
HearsOf id call message heard = HearsReply id call message heard ⊎ HearsNone id message heard

-- what is heard where no message can be read for this reason
abbrev pub HearsFault : FrameFault → Heard → Type 0
HearsFault fault heard = ((fault ≡ Memory) × (heard ≡ Phase Starved)) ⊎ ((fault ≢ Memory) × (heard ≡ Phase Other))
