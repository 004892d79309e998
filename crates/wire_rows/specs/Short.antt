-- Messages that are short enough for every call that a case makes with them (our profile).
use Rattle.std.specs.Prelude.{◌^◌, ◌<◌, All, length}
use Rattle.giop_frames.specs.Encode.{octets_in}
use Rattle.giop_frames.specs.declared.message.Message.{Message}
use Rattle.giop_frames.specs.declared.message.Message.TheVariants as messages
use Rattle.giop_frames.specs.declared.message.Reply.{Reply}
use Rattle.giop_frames.specs.declared.message.Request.{Request}

-- a Request with few octets
pub record IsShortRequest (request : Request) : Type 0 where
  pub octets : octets_in (messages.Request request) < 2 ^ 31
  pub body : length request.body < 2 ^ 31
  pub contexts : All (λ context. length context.bytes < 2 ^ 31) request.contexts

-- a Reply with few octets
pub record IsShortReply (reply : Reply) : Type 0 where
  pub octets : octets_in (messages.Reply reply) < 2 ^ 31
  pub body : length reply.body < 2 ^ 31

-- a message with few octets
abbrev pub IsShort : Message → Type 0
IsShort (messages.Request request) = IsShortRequest request
IsShort (messages.Reply reply) = IsShortReply reply
IsShort message = octets_in message < 2 ^ 31
