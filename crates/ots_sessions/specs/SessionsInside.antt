-- How far a session has come, and how one message ends it.
use Rattle.std.specs.Prelude.{◌≡◌, ◌≢◌, ℕ, Bool, false, List, Option, Err}
use Rattle.giop_frames.specs.Encode.{spelling}
use Rattle.giop_frames.specs.Header.{profile_versions}
use Rattle.giop_frames.specs.declared.fault.FrameFault.{FrameFault}
use Rattle.giop_frames.specs.declared.fault.FrameFault.TheVariants.{Memory, Short, TooLarge}
use Rattle.giop_frames.specs.declared.layout.Version.TheVariants.{V1_2}
use Rattle.giop_frames.specs.declared.message.Message.{Message}
use Rattle.giop_frames.specs.declared.message.Message.TheVariants as messages
use Rattle.giop_frames.specs.declared.message.Request.{Request}
use Rattle.giop_streams.specs.Held.{Held, Holds, IsUnfinished}
use Rattle.giop_streams.specs.Stream.{part_at}
use Rattle.giop_streams.specs.declared.framed.Framed.{Framed}
use Rattle.ior_refs.specs.declared.key.ObjectKey.{ObjectKey}
use Rattle.ots_calls.specs.declared.answer.Answer.{Answer}
use Rattle.ots_calls.specs.declared.call.Called.{Called}
use Rattle.ots_outside.specs.Sink.{Takes, TakesPart}
use Rattle.ots_outside.specs.Source.{HasRisen}
use Rattle.ots_sessions.specs.Sessions.{EndsSo, HasRead, ServesAll, Sides, Tears}
use Rattle.ots_sessions.specs.Short.{is_short}
use Rattle.ots_sessions.specs.declared.session.SessionEnd.{SessionEnd}
use Rattle.ots_sessions.specs.declared.session.SessionEnd.TheVariants as ends

-- a part of something may have been written
abbrev pub IsTorn : Option (List ℕ) → Option (List ℕ) → Type 0
IsTorn before after = (part : List ℕ) × TakesPart before part after

-- a peer was told that what it sent is no message
abbrev pub IsToldSo : SessionEnd → Option (List ℕ) → Option (List ℕ) → ℕ × ℕ → Type 0
IsToldSo (ends.Refused fault) before after writes = Takes before (spelling V1_2 messages.Error) after
IsToldSo ends.WriteFault before after writes = HasRisen writes.0 writes.1 × TakesPart before (spelling V1_2 messages.Error) after
IsToldSo ends.Memory before after writes = IsTorn before after
IsToldSo end before after writes = ⊥

-- what it was told is this fault, which is none of memory
abbrev pub IsOfFault : SessionEnd → FrameFault → Type 0
IsOfFault (ends.Refused told) fault = (told ≡ fault) × (fault ≢ Memory)
IsOfFault ends.WriteFault fault = fault ≢ Memory
IsOfFault end fault = Unit {0}

-- why a message of this spelling wasn't written
abbrev pub IsUnwritten : SessionEnd → List ℕ → Option (List ℕ) → Option (List ℕ) → ℕ × ℕ → Type 0
IsUnwritten ends.WriteFault octets before after writes = HasRisen writes.0 writes.1 × TakesPart before octets after
IsUnwritten ends.Memory octets before after writes = IsTorn before after
IsUnwritten end octets before after writes = ⊥

module _ {S : Type 0} (finds : S → ObjectKey → Bool → S → Type 0) (answers : S → Called → Answer → S → Type 0) where
  -- all messages that a stream of these octets gave are answered
  pub record IsGoing (octets : List ℕ) (stream : Held) (before after : Sides S) : Type 0 where
    pub read : List Framed
    pub holds : Holds profile_versions octets read stream
    pub served : ServesAll finds answers before read after

  -- a call has gone on with that
  abbrev pub GoesOn : Held → Held → Sides S → Sides S → Type 0
  GoesOn old new from to = (octets : List ℕ) (before : Sides S) → IsGoing octets old before from → IsGoing octets new before to

  -- a call has ended the session
  abbrev pub EndsGoing : SessionEnd → Held → Sides S → Sides S → ℕ × ℕ → Type 0
  EndsGoing end old from to writes =
      (octets : List ℕ) (before : Sides S) (left : Option (List ℕ)) (reads : ℕ × ℕ) → IsGoing octets old before from
      → EndsSo finds answers end octets left before to reads writes

  -- a message has ended the session: it is CloseConnection, or a request that is too long, or it can't be answered
  abbrev pub EndsAt : Message → SessionEnd → Sides S → Sides S → ℕ × ℕ → Type 0
  EndsAt message ends.Closed from to writes = (message ≡ messages.Close) × (to ≡ from)
  EndsAt message (ends.Refused fault) from to writes = (r : Request) × (message ≡ messages.Request r) × (is_short r ≡ false)
      × (fault ≡ TooLarge 0) × (to.servant ≡ from.servant) × Takes from.taken (spelling V1_2 messages.Error) to.taken
  EndsAt message ends.WriteFault from to writes = HasRisen writes.0 writes.1 × Tears finds answers message from to
  EndsAt message ends.Memory from to writes = IsTorn from.taken to.taken
  EndsAt message end from to writes = ⊥

  -- a session so far: the octets that were read, and what was answered of them. It waits for more,
  -- and what it holds of a message is no whole part
  pub record IsSoFar (stream : Held) (left later : Option (List ℕ)) (before now : Sides S) : Type 0 where
    pub octets : List ℕ
    pub has_read : HasRead octets left later
    pub going : IsGoing octets stream before now
    pub partial : IsUnfinished stream → part_at stream.versions stream.rest ≡ Err Short
