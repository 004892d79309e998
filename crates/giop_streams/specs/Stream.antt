-- Streams of messages (CORBA, GIOP Message Formats, Fragment Message): parts one after another, each judged by the
-- parts before it. Where parts are in a list, the newest stands first. Each part has a version of its own, which is one of
-- those that the stream admits.
use Rattle.std.specs.Prelude.{◌≡◌, ◌≢◌, ◌⊎◌, ℕ, ◌+◌, ◌-◌, ◌^◌, ◌%◌, ◌==◌, nat_le, nat_lt, min, Bool, true, false, ◌||◌, ◌&&◌, not, List, [], ◌∷◌, ◌++◌, length, take, drop, find, Option, Some, None, is_some, Result, Ok, Err, if◌then◌else◌}
use Rattle.std.specs.List.{Contains}
use Rattle.cdr_values.specs.declared.fault.CdrFault.TheVariants as cdr
use Rattle.cdr_values.specs.Value.{number_in}
use Rattle.cdr_values.specs.Reading.{◌>>=◌}
use Rattle.giop_frames.specs.declared.fault.FrameFault.{FrameFault}
use Rattle.giop_frames.specs.declared.fault.FrameFault.TheVariants.{BadFragment, Body, Short, TooLarge}
use Rattle.giop_frames.specs.declared.header.Kind.{Kind}
use Rattle.giop_frames.specs.declared.header.Kind.TheVariants as kinds
use Rattle.giop_frames.specs.declared.header.Header.{Header}
use Rattle.giop_frames.specs.declared.layout.Version.{Version}
use Rattle.giop_frames.specs.declared.layout.Version.TheVariants.{V1_2}
use Rattle.giop_frames.specs.declared.message.Message.{Message}
use Rattle.giop_streams.specs.declared.framed.Framed.{Framed}
use Rattle.giop_frames.specs.Limits.{size_limit}
use Rattle.giop_streams.specs.Limits.{unfinished_limit}
use Rattle.giop_frames.specs.Header.{IsPart, content_behind, is_fragment, header_at}
use Rattle.giop_frames.specs.Content.{message_by, start_by}

-- a part of a stream: what its header says, and its content
pub record Part : Type 0 where
  pub header : Header
  pub content : List ℕ

abbrev pub part_of : Header → List ℕ → Part
part_of header content = record { header = header; content = content }

-- a message whose last part hasn't come: its request_id, the place and the header of its first part, and its octets so
-- far, joined without the request_ids of the Fragments
pub record Unfinished : Type 0 where
  pub id : ℕ
  pub place : ℕ
  pub header : Header
  pub content : List ℕ

-- messages and parts of these types are in a version
abbrev pub may_stand : Version → Kind → Bool
may_stand V1_2 kind = true

-- messages of these types come in several parts
abbrev pub may_be_fragmented : Version → Kind → Bool
may_be_fragmented V1_2 kinds.CancelRequest = false
may_be_fragmented V1_2 kinds.CloseConnection = false
may_be_fragmented V1_2 kinds.MessageError = false
may_be_fragmented V1_2 _ = true

-- the "more fragments" bit stands where it can: on such a type, and where the part's length is a multiple of 8, as it
-- has to be but for a message's last part; that another length is refused is our profile
abbrev pub may_go_on : Header → Bool
may_go_on header = may_be_fragmented header.version header.kind && ((12 + header.size) % 8 == 0)

-- a part with this header may stand in a stream
abbrev pub may_be_part : Header → Bool
may_be_part header = may_stand header.version header.kind && (not header.more || may_go_on header)

-- the octets are this part, of one of these versions
pub record IsStreamPart (versions : List Version) (p : Part) (octets : List ℕ) : Type 0 where
  pub part : IsPart p.header p.content octets
  pub admitted : Contains versions p.header.version
  pub may_be : may_be_part p.header ≡ true

-- the octets are these parts
abbrev pub AreParts : List Version → List Part → List ℕ → Type 0
AreParts versions [] octets = octets ≡ []
AreParts versions (p ∷ older) octets =
    (before : List ℕ) × (part : List ℕ) × (octets ≡ before ++ part) × IsStreamPart versions p part
    × AreParts versions older before

-- the header of a part in front, or its first fault as its octets come
unfoldable pub part_header_at : List Version → List ℕ → Result Header FrameFault
part_header_at versions octets = do
  header ← header_at versions octets
  if not (may_be_part header) then Err BadFragment else Ok header

-- the part in front and what follows it, or the first fault; Short, where there is less than a whole part
unfoldable pub part_at : List Version → List ℕ → Result (Part × List ℕ) FrameFault
part_at versions octets = do
  header ← part_header_at versions octets
  if nat_lt (length octets) (12 + header.size) then Err Short else
      Ok (part_of header (content_behind header octets), drop (12 + header.size) octets)

-- the offset behind parts; it stands still at its type's end
abbrev pub offset : List Part → ℕ
offset [] = 0
offset (p ∷ older) = min (offset older + (12 + p.header.size)) (2 ^ 64 - 1)

-- the request_id with which the content of a Fragment (FragmentHeader_1_2), and of each first part, begins
abbrev pub id_of : Part → ℕ
id_of p = number_in p.header.order 4 (take 4 p.content)

-- a message of this request_id, whose first part, at this place, has come
abbrev pub begun_as : ℕ → ℕ → Part → Unfinished
begun_as id place p = record { id = id; place = place; header = p.header; content = p.content }

-- the message that goes on behind this first part of it
abbrev pub begun_by : ℕ → Part → Unfinished
begun_by place p = begun_as (id_of p) place p

-- a message with more octets
abbrev pub with_more : List ℕ → Unfinished → Unfinished
with_more octets u = record u { content = u.content ++ octets }

-- the unfinished message of this request_id
abbrev pub numbered : ℕ → List Unfinished → Option Unfinished
numbered id messages = find (λ u. u.id == id) messages

-- with more octets
abbrev pub extended : ℕ → List ℕ → List Unfinished → List Unfinished
extended id octets [] = []
extended id octets (u ∷ others) = if u.id == id then with_more octets u ∷ others else u ∷ extended id octets others

abbrev pub without : ℕ → List Unfinished → List Unfinished
without id [] = []
without id (u ∷ others) = if u.id == id then others else u ∷ without id others

-- with the message that goes on behind this first part of it
abbrev pub with_begun : ℕ → Part → List Unfinished → List Unfinished
with_begun place p messages = messages ++ begun_by place p ∷ []

-- the unfinished messages after a Fragment
abbrev pub after_fragment : Part → List Unfinished → List Unfinished
after_fragment p messages =
    if p.header.more then extended (id_of p) (drop 4 p.content) messages else without (id_of p) messages

-- the unfinished messages after a part at this place
abbrev pub after : ℕ → Part → List Unfinished → List Unfinished
after place p messages =
    if is_fragment p.header.kind then after_fragment p messages
    else (if p.header.more then with_begun place p messages else messages)

abbrev pub unfinished : List Part → List Unfinished
unfinished [] = []
unfinished (p ∷ older) = after (offset older) p (unfinished older)

-- a message with more octets, where there is one
abbrev pub with_octets : List ℕ → Option Unfinished → Option Unfinished
with_octets octets None = None
with_octets octets (Some u) = Some (with_more octets u)

-- the message that goes on behind this Fragment of it, by how far it came before: the last Fragment ends it
abbrev pub continued : Part → Option Unfinished → Option Unfinished
continued p before = if p.header.more then with_octets (drop 4 p.content) before else None

-- the message that goes on behind this part, which is no Fragment: the part begins it, or is a whole message and changes
-- nothing
abbrev pub begun : ℕ → Part → Option Unfinished → Option Unfinished
begun place p before = if p.header.more then Some (begun_by place p) else before

-- the message of this request_id that goes on behind these parts: its newest first part, and the octets of each
-- Fragment of that request_id since. Parts of other request_ids are passed over.
abbrev pub going_on : ℕ → List Part → Option Unfinished
going_on id [] = None
going_on id (p ∷ older) =
    if not (id_of p == id) then going_on id older else (
    if is_fragment p.header.kind then continued p (going_on id older) else begun (offset older) p (going_on id older))

-- what a part says of messages: nothing that is whole yet, or a whole message; or it is refused
abbrev pub Judgement : Type 0
Judgement = Result (Option Framed) FrameFault

-- a whole message, whose first part has this place and header, and what it keeps behind its fields begins at this offset
-- modulo 8
abbrev pub whole : ℕ → Header → ℕ → Result Message FrameFault → Judgement
whole place header start (Ok message) =
    Ok (Some (record {
      place = place;
      version = header.version;
      order = header.order;
      size = header.size;
      start = start;
      message = message;
    }))
whole place header start (Err fault) = Err fault

-- a message isn't whole yet: want of octets is no fault, and each field that stands there is judged
abbrev pub so_far : Result Message FrameFault → Judgement
so_far (Ok message) = Ok None
so_far (Err (Body place (cdr.Short at))) = Ok None
so_far (Err fault) = Err fault

-- there is no request_id
abbrev pub without_id : FrameFault
without_id = Body 12 (cdr.Short 12)

-- the whole message, whose first part has this place and header, with this content
abbrev pub whole_by : ℕ → Header → List ℕ → Judgement
whole_by place header content = whole place header (start_by header content) (message_by header content)

-- a first part whose message goes on: its request_id must be free, and there must be room for one more unfinished
-- message (our profile)
abbrev pub opening : List Unfinished → Part → Judgement
opening messages p =
    if nat_lt (length p.content) 4 then Err without_id else (
    if is_some (numbered (id_of p) messages) || nat_le unfinished_limit (length messages) then Err BadFragment else
    so_far (message_by p.header p.content))

-- more octets of a message, whose joined octets have a limit (our profile)
abbrev pub joined : Bool → List ℕ → Unfinished → Judgement
joined more octets first =
    let content = first.content ++ octets in
    if nat_lt size_limit (length content) then Err (TooLarge (length content)) else (
    if more then so_far (message_by first.header content) else
    whole_by first.place first.header content)

-- a Fragment goes on with a message
abbrev pub continuing : Part → Option Unfinished → Judgement
continuing p None = Err BadFragment
continuing p (Some first) = joined p.header.more (drop 4 p.content) first

-- what a Fragment says
abbrev pub continuation : List Unfinished → Part → Judgement
continuation messages p =
    if nat_lt (length p.content) 4 then Err without_id else continuing p (numbered (id_of p) messages)

-- what the part at this place says, by the messages that are unfinished before it
unfoldable pub judged : List Unfinished → ℕ → Part → Judgement
judged messages place p =
    if is_fragment p.header.kind then continuation messages p
    else (if p.header.more then opening messages p
    else whole_by place p.header p.content)

-- what the newest part says
abbrev pub says : List Part → Part → Judgement
says older p = judged (unfinished older) (offset older) p

abbrev pub given : Judgement → List Framed
given (Ok (Some framed)) = framed ∷ []
given _ = []

-- the messages of parts, in the order of their last parts
abbrev pub messages_of : List Part → List Framed
messages_of [] = []
messages_of (p ∷ older) = messages_of older ++ given (says older p)

-- no part is refused
abbrev pub AreTaken : List Part → Type 0
AreTaken [] = Unit {0}
AreTaken (p ∷ older) = (answer : Option Framed) × (says older p ≡ Ok answer) × AreTaken older

-- The octets are whole parts of these versions, of which none is refused, and then a rest. These are the messages of the
-- parts.
pub record Splits (versions : List Version) (octets : List ℕ) (parts : List Part) (messages : List Framed) (rest : List ℕ) : Type 0 where
  pub front : List ℕ
  pub whole : octets ≡ front ++ rest
  pub are_parts : AreParts versions parts front
  pub taken : AreTaken parts
  pub messages_are : messages ≡ messages_of parts

-- the octets are a stream of these messages, in the order of their last parts, and a rest that is no whole part
pub record IsStream (versions : List Version) (messages : List Framed) (rest octets : List ℕ) : Type 0 where
  pub parts : List Part
  pub splits : Splits versions octets parts messages rest
  pub partial : part_at versions rest ≡ Err Short

-- the part in front of the rest is refused: by its octets, or by what is said of it
abbrev pub RefusesFront : List Version → (Part → Judgement) → List ℕ → FrameFault → Type 0
RefusesFront versions say rest fault =
    ((part_at versions rest ≡ Err fault) × (fault ≢ Short))
    ⊎ ((p : Part) × (behind : List ℕ) × (part_at versions rest ≡ Ok (p, behind)) × (say p ≡ Err fault))

-- the part in front of the rest is refused: by its octets, or by the parts before it
abbrev pub Refuses : List Version → List Part → List ℕ → FrameFault → Type 0
Refuses versions older rest fault = RefusesFront versions (says older) rest fault

-- behind these messages the octets have a part that is refused: it stands at this place
pub record IsRefused (versions : List Version) (messages : List Framed) (place : ℕ) (fault : FrameFault) (octets : List ℕ) : Type 0 where
  pub parts : List Part
  pub rest : List ℕ
  pub splits : Splits versions octets parts messages rest
  pub place_is : place ≡ offset parts
  pub refused : Refuses versions parts rest fault

-- the octets are whole parts, of which these are the messages, and no message is unfinished
pub record IsWhole (versions : List Version) (messages : List Framed) (octets : List ℕ) : Type 0 where
  pub parts : List Part
  pub splits : Splits versions octets parts messages []
  pub finished : unfinished parts ≡ []

-- the offset of the earliest message that isn't whole: an unfinished one, or that of the part which is cut off
abbrev pub earliest : ℕ → List Unfinished → ℕ
earliest place [] = place
earliest place (u ∷ others) = u.place

-- behind these messages the octets end inside a message, which begins at this place
pub record IsCut (versions : List Version) (messages : List Framed) (place : ℕ) (octets : List ℕ) : Type 0 where
  pub parts : List Part
  pub rest : List ℕ
  pub splits : Splits versions octets parts messages rest
  pub partial : part_at versions rest ≡ Err Short
  pub inside : (unfinished parts ≢ []) ⊎ (rest ≢ [])
  pub place_is : place ≡ earliest (offset parts) (unfinished parts)

-- these messages come first in the octets
pub record IsBegun (versions : List Version) (messages : List Framed) (octets : List ℕ) : Type 0 where
  pub parts : List Part
  pub rest : List ℕ
  pub splits : Splits versions octets parts messages rest
