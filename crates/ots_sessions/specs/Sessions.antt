-- What a session answers, how it ends, and how the jobs of a service are counted (CORBA, General Inter-ORB Protocol; our profile).
use Rattle.std.specs.Prelude.{◌≡◌, ◌⊎◌, ◌≤◌, ◌+◌, ◌%◌, ◌==◌, ℕ, Bool, true, false, List, [], ◌∷◌, ◌++◌, Option, Some, IfSome, if◌then◌else◌}
use Rattle.giop_frames.specs.Encode.{spelling}
use Rattle.giop_frames.specs.Header.{profile_versions}
use Rattle.giop_frames.specs.declared.fault.FrameFault.{FrameFault}
use Rattle.giop_frames.specs.declared.fault.FrameFault.TheVariants.{TooLarge}
use Rattle.giop_frames.specs.declared.layout.Version.TheVariants.{V1_2}
use Rattle.giop_frames.specs.declared.message.Located.{Located}
use Rattle.giop_frames.specs.declared.message.Locate.{Locate}
use Rattle.giop_frames.specs.declared.message.Message.{Message}
use Rattle.giop_frames.specs.declared.message.Message.TheVariants as messages
use Rattle.giop_frames.specs.declared.message.Reply.{Reply}
use Rattle.giop_frames.specs.declared.message.Request.{Request}
use Rattle.giop_streams.specs.Stream.{IsBegun, IsCut, IsRefused, IsWhole}
use Rattle.giop_streams.specs.declared.framed.Framed.{Framed}
use Rattle.ior_refs.specs.declared.key.ObjectKey.{ObjectKey}
use Rattle.ots_calls.specs.Request.{IsFor}
use Rattle.ots_calls.specs.declared.answer.Answer.{Answer}
use Rattle.ots_calls.specs.declared.call.Called.{Called}
use Rattle.ots_outside.specs.Sink.{Takes, TakesPart}
use Rattle.ots_outside.specs.Source.{HasRisen, count_end}
use Rattle.ots_sessions.specs.Replies.{IsReply}
use Rattle.ots_sessions.specs.Short.{is_short}
use Rattle.ots_sessions.specs.declared.session.SessionEnd.{SessionEnd}
use Rattle.ots_sessions.specs.declared.session.SessionEnd.TheVariants as ends

-- a request wants a reply: the lowest bit of its response_flags is 1
abbrev pub wants_reply : Request → Bool
wants_reply r = r.flags % 2 == 1

-- a LocateReply: OBJECT_HERE is 1, and UNKNOWN_OBJECT 0
abbrev pub located : ℕ → Bool → Located
located id here = record { id = id; status = if here then 1 else 0; rest = [] }

-- the reply to a LocateRequest of a servant of which is known how it finds objects: an object is here only where its key is one of
-- ours, and it is there
pub record IsLocated {S : Type 0} (finds : S → ObjectKey → Bool → S → Type 0) (before : S) (l : Locate) (reply : Located) (after : S) : Type 0 where
  pub here : Bool
  pub reply_is : reply ≡ located l.id here
  pub own : here ≡ true → (key : ObjectKey) × IsFor key l.target × finds before key true after
  pub known : (key : ObjectKey) → IsFor key l.target → finds before key here after
  pub foreign : ((key : ObjectKey) → ¬ IsFor key l.target) → after ≡ before

-- ---- what a message is answered

-- what a connection has taken, where it tells that, and the servant, at a moment
pub record Sides (S : Type 0) : Type 0 where
  pub taken : Option (List ℕ)
  pub servant : S

abbrev pub sides : {S : Type 0} → Option (List ℕ) → S → Sides S
sides taken servant = record { taken = taken; servant = servant }

-- a reply is written by its one spelling, where it is wanted
abbrev pub WritesWanted : Bool → Reply → Option (List ℕ) → Option (List ℕ) → Type 0
WritesWanted true reply before after = Takes before (spelling V1_2 (messages.Reply reply)) after
WritesWanted false reply before after = after ≡ before

-- ---- what a session has read

-- the source gave these octets, where it tells what is left
abbrev pub HasRead : List ℕ → Option (List ℕ) → Option (List ℕ) → Type 0
HasRead octets before after = IfSome before (λ all. (left : List ℕ) × (all ≡ octets ++ left) × (after ≡ Some left))

-- and nothing is left
abbrev pub HasReadAll : List ℕ → Option (List ℕ) → Type 0
HasReadAll octets before = IfSome before (λ all. all ≡ octets)

-- a message is refused: by the octets behind those that were read
abbrev pub IsNoMessage : List ℕ → List Framed → FrameFault → Type 0
IsNoMessage octets read fault = (place : ℕ) × IsRefused profile_versions read place fault octets

-- or since it is a request with more octets in a list than are looked at
abbrev pub IsTooLong : List ℕ → List Framed → FrameFault → Type 0
IsTooLong octets read fault = (framed : Framed) × (r : Request) × (framed.message ≡ messages.Request r)
    × IsBegun profile_versions (read ++ framed ∷ []) octets × (is_short r ≡ false) × (fault ≡ TooLarge 0)

-- of MessageError only some octets have gone out, from the front
pub record TearsError {S : Type 0} (before after : Sides S) : Type 0 where
  pub torn : TakesPart before.taken (spelling V1_2 messages.Error) after.taken
  pub still : after.servant ≡ before.servant

-- so it is where the octets behind those that were read are no message
pub record TearsRefusal {S : Type 0} (octets : List ℕ) (read : List Framed) (before after : Sides S) : Type 0 where
  pub fault : FrameFault
  pub cause : IsNoMessage octets read fault
  pub torn : TearsError before after

-- ---- how a session is served by a servant, of which is known how it finds objects and how it answers its own calls

module _ {S : Type 0} (finds : S → ObjectKey → Bool → S → Type 0) (answers : S → Called → Answer → S → Type 0) where
  -- a request is answered
  pub record ServesRequest (r : Request) (before after : Sides S) : Type 0 where
    pub reply : Reply
    pub reply_is : IsReply finds answers before.servant r reply after.servant
    pub written : WritesWanted (wants_reply r) reply before.taken after.taken

  -- a LocateRequest is answered
  pub record ServesLocate (l : Locate) (before after : Sides S) : Type 0 where
    pub reply : Located
    pub reply_is : IsLocated finds before.servant l reply after.servant
    pub written : Takes before.taken (spelling V1_2 (messages.LocateReply reply)) after.taken

  -- what a message that was read is answered: a request that wants it one reply, a LocateRequest one LocateReply, and any other
  -- nothing. CloseConnection isn't answered: it ends the session
  abbrev pub Serves : Message → Sides S → Sides S → Type 0
  Serves (messages.Request r) before after = ServesRequest r before after
  Serves (messages.Locate l) before after = ServesLocate l before after
  Serves messages.Close before after = ⊥
  Serves message before after = after ≡ before

  -- these messages were answered, one after another
  pub data ServesAll (before : Sides S) : List Framed → Sides S → Type 0 where
    none : ServesAll before [] before
    one_more : (read : List Framed) (framed : Framed) (midway after : Sides S)
        → ServesAll before read midway → Serves framed.message midway after → ServesAll before (read ++ framed ∷ []) after

  -- ---- a session

  -- all messages of these octets are answered, and none is unfinished
  pub record IsDone (octets : List ℕ) (before after : Sides S) : Type 0 where
    pub read : List Framed
    pub whole : IsWhole profile_versions read octets
    pub served : ServesAll before read after

  -- all are answered, and the octets end inside one
  pub record IsCutOff (octets : List ℕ) (before after : Sides S) : Type 0 where
    pub read : List Framed
    pub place : ℕ
    pub cut : IsCut profile_versions read place octets
    pub served : ServesAll before read after

  -- all that come first in these octets are answered, and behind them CloseConnection has come
  pub record IsClosedByPeer (octets : List ℕ) (before after : Sides S) : Type 0 where
    pub read : List Framed
    pub close : Framed
    pub close_is : close.message ≡ messages.Close
    pub begun : IsBegun profile_versions (read ++ close ∷ []) octets
    pub served : ServesAll before read after

  -- a message is refused: all before it are answered, and MessageError is written
  pub record IsRefusedWith (octets : List ℕ) (fault : FrameFault) (before after : Sides S) : Type 0 where
    pub read : List Framed
    pub midway : Sides S
    pub served : ServesAll before read midway
    pub cause : IsNoMessage octets read fault ⊎ IsTooLong octets read fault
    pub told : Takes midway.taken (spelling V1_2 messages.Error) after.taken
    pub still : after.servant ≡ midway.servant

  -- a message is answered, but of what was to be written then only some octets have gone out, from the front
  pub record TearsReply (r : Request) (before after : Sides S) : Type 0 where
    pub reply : Reply
    pub reply_is : IsReply finds answers before.servant r reply after.servant
    pub torn : TakesPart before.taken (spelling V1_2 (messages.Reply reply)) after.taken

  pub record TearsLocated (l : Locate) (before after : Sides S) : Type 0 where
    pub reply : Located
    pub reply_is : IsLocated finds before.servant l reply after.servant
    pub torn : TakesPart before.taken (spelling V1_2 (messages.LocateReply reply)) after.taken

  abbrev pub Tears : Message → Sides S → Sides S → Type 0
  Tears (messages.Request r) before after = TearsReply r before after ⊎ ((is_short r ≡ false) × TearsError before after)
  Tears (messages.Locate l) before after = TearsLocated l before after
  Tears message before after = ⊥

  -- so it is with the next message of these octets
  pub record TearsNext (octets : List ℕ) (read : List Framed) (before after : Sides S) : Type 0 where
    pub framed : Framed
    pub begun : IsBegun profile_versions (read ++ framed ∷ []) octets
    pub torn : Tears framed.message before after

  -- all that come first in these octets are answered, and what was to be written then is torn
  pub record IsTornOff (octets : List ℕ) (before after : Sides S) : Type 0 where
    pub read : List Framed
    pub midway : Sides S
    pub served : ServesAll before read midway
    pub torn : TearsNext octets read midway after ⊎ TearsRefusal octets read midway after

  -- some that come first in these octets are answered; of what was written then, it may be that a part has gone out
  pub record IsBrokenOff (octets : List ℕ) (before after : Sides S) : Type 0 where
    pub read : List Framed
    pub midway : Sides S
    pub begun : IsBegun profile_versions read octets
    pub served : ServesAll before read midway
    pub part : List ℕ
    pub torn : TakesPart midway.taken part after.taken

  -- what a session has done that ends so. The two pairs of counts are how often the connection has failed when it was read and when it
  -- was written, before and after
  abbrev pub EndsSo : SessionEnd → List ℕ → Option (List ℕ) → Sides S → Sides S → ℕ × ℕ → ℕ × ℕ → Type 0
  EndsSo ends.Closed octets left before after reads writes =
      (HasReadAll octets left × IsDone octets before after) ⊎ IsClosedByPeer octets before after
  EndsSo ends.Cut octets left before after reads writes = HasReadAll octets left × IsCutOff octets before after
  EndsSo (ends.Refused fault) octets left before after reads writes = IsRefusedWith octets fault before after
  EndsSo ends.ReadFault octets left before after reads writes =
      HasRisen reads.0 reads.1 × (IsDone octets before after ⊎ IsCutOff octets before after)
  EndsSo ends.WriteFault octets left before after reads writes = HasRisen writes.0 writes.1 × IsTornOff octets before after
  EndsSo ends.Memory octets left before after reads writes = IsBrokenOff octets before after

  -- a session has read some octets, and has ended so
  pub record IsSession (end : SessionEnd) (left later : Option (List ℕ)) (before after : Sides S) (reads writes : ℕ × ℕ) : Type 0 where
    pub octets : List ℕ
    pub has_read : HasRead octets left later
    pub ends_so : EndsSo end octets left before after reads writes

-- ---- jobs

-- as many jobs were started or refused as connections were given, and one more, for ticks; or a count stands at its end
abbrev pub HasJobs : ℕ → ℕ → ℕ → ℕ → ℕ → ℕ → Type 0
HasJobs given_before given_after started_before started_after refused_before refused_after =
    (given_after + 1 + (started_before + refused_before) ≤ given_before + (started_after + refused_after))
    ⊎ ((count_end ≤ started_after) ⊎ (count_end ≤ refused_after))
