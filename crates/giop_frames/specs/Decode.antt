-- Reading one message without fragments from the front of octets (CORBA, GIOP Message Formats), and its first fault
-- (our profile).
use Rattle.std.specs.Prelude.{◌≡◌, ◌≢◌, ℕ, ◌<◌, ◌+◌, ◌||◌, nat_lt, List, ◌++◌, length, Result, Ok, Err, IfOk, IfErr, IsOkAnd, if◌then◌else◌}
use Rattle.cdr_values.specs.Reading.{◌>>=◌}
use Rattle.giop_frames.specs.declared.fault.FrameFault.{FrameFault}
use Rattle.giop_frames.specs.declared.fault.FrameFault.TheVariants.{BadFragment, Memory, Short}
use Rattle.giop_frames.specs.declared.layout.Version.{Version}
use Rattle.giop_frames.specs.declared.decoding.Decoded.{Decoded}
use Rattle.giop_frames.specs.declared.message.Message.{Message}
use Rattle.giop_frames.specs.Fault.{Finds}
use Rattle.giop_frames.specs.Header.{content_behind, is_fragment, header_at}
use Rattle.giop_frames.specs.Message.{IsMessage, message_kept}
use Rattle.giop_frames.specs.Content.{message_of}

-- the message of one of these versions in front, and how many octets it has
unfoldable pub decoded : List Version → List ℕ → Result (Message × ℕ) FrameFault
decoded versions octets = do
  header ← header_at versions octets
  if header.more || is_fragment header.kind then Err BadFragment else (
      if nat_lt (length octets) (12 + header.size) then Err Short else (
      message_of header.version header.order header.kind (content_behind header octets) >>= λ message. Ok (message, 12 + header.size)))

-- a call found what reading gives
abbrev pub Decodes : List Version → List ℕ → Result Decoded FrameFault → Type 0
Decodes versions bytes result = Finds (λ d. (d.message, d.used)) result (decoded versions bytes)

-- a fault that reading finds is answered, never want of memory
abbrev pub TellsFault : List Version → List ℕ → Result Decoded FrameFault → Type 0
TellsFault versions bytes result = IfErr (decoded versions bytes) (λ fault. result ≡ Err fault)

-- a message that keeps something stands in front, for which memory may be wanted
abbrev pub FindsKept : List Version → List ℕ → Type 0
FindsKept versions bytes = IsOkAnd (decoded versions bytes) (λ found. 0 < message_kept found.0)

-- a fault that isn't want of octets or of memory is found whatever octets follow
abbrev pub IsRefusedForGood : List Version → List ℕ → FrameFault → Type 0
IsRefusedForGood versions bytes fault =
    fault ≢ Short → fault ≢ Memory → (more : List ℕ) → decoded versions (bytes ++ more) ≡ Err fault

-- a call found this message of these octets, unless memory ran out
abbrev pub FindsMessage : Message → List ℕ → Result Decoded FrameFault → Type 0
FindsMessage m octets result =
    IfOk result (λ d. (d.message ≡ m) × (d.used ≡ length octets)) × IfErr result (λ fault. fault ≡ Memory)

-- whichever message stands in front, a call found it
abbrev pub FindsWhatStands : List Version → List ℕ → Result Decoded FrameFault → Type 0
FindsWhatStands versions bytes result =
    (m : Message) (octets rest : List ℕ) → IsMessage versions m octets → bytes ≡ octets ++ rest → FindsMessage m octets result
