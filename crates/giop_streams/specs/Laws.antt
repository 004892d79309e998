-- What holds of all octets: a stream is cut in one way, and its messages are those of their contents.
use Rattle.std.specs.Prelude.{◌≡◌, ◌≤◌, ◌+◌, ℕ, true, List, ◌++◌, length, Some, Ok}
use Rattle.giop_frames.specs.declared.fault.FrameFault.{FrameFault}
use Rattle.giop_frames.specs.declared.layout.Version.{Version}
use Rattle.giop_frames.specs.declared.header.Header.{Header}
use Rattle.giop_frames.specs.Header.{is_fragment}
use Rattle.giop_frames.specs.Layout.{tail_start}
use Rattle.giop_frames.specs.Message.{IsContent, kind_of}
use Rattle.giop_streams.specs.declared.framed.Framed.{Framed}
use Rattle.giop_streams.specs.Stream.{Part, Splits, IsCut, IsRefused, IsStream, IsWhole, continuing, going_on, id_of, numbered, says, unfinished, whole_by}

-- octets are a stream of messages in one way
abbrev pub IsCutInOneWay : Type 0
IsCutInOneWay =
    (versions : List Version) (messages others : List Framed) (rest more octets : List ℕ) → IsStream versions messages rest octets
    → IsStream versions others more octets → (messages ≡ others) × (rest ≡ more)

-- octets, and these octets with more behind them, are refused at one place only
abbrev pub IsRefusedInOneWay : Type 0
IsRefusedInOneWay =
    (versions : List Version) (messages others : List Framed) (place elsewhere : ℕ) (fault another : FrameFault) (octets more : List ℕ)
    → IsRefused versions messages place fault octets → IsRefused versions others elsewhere another (octets ++ more)
    → (messages ≡ others) × (place ≡ elsewhere) × (fault ≡ another)

-- octets that are refused are refused with more of them too
abbrev pub RefusalGoesOn : Type 0
RefusalGoesOn =
    (versions : List Version) (messages : List Framed) (place : ℕ) (fault : FrameFault) (octets more : List ℕ)
    → IsRefused versions messages place fault octets → IsRefused versions messages place fault (octets ++ more)

-- octets that are refused are no stream, whatever follows them
abbrev pub RefusedIsNoStream : Type 0
RefusedIsNoStream =
    (versions : List Version) (messages others : List Framed) (place : ℕ) (fault : FrameFault) (rest octets more : List ℕ)
    → IsRefused versions messages place fault octets → IsStream versions others rest (octets ++ more) → ⊥

-- octets don't end both between messages and inside one
abbrev pub WholeIsNotCut : Type 0
WholeIsNotCut =
    (versions : List Version) (messages others : List Framed) (place : ℕ) (octets : List ℕ) → IsWhole versions messages octets
    → IsCut versions others place octets → ⊥

-- octets that end inside a message end at one place
abbrev pub IsCutOffInOneWay : Type 0
IsCutOffInOneWay =
    (versions : List Version) (messages others : List Framed) (place elsewhere : ℕ) (octets : List ℕ) → IsCut versions messages place octets
    → IsCut versions others elsewhere octets → (messages ≡ others) × (place ≡ elsewhere)

-- the unfinished message of a request_id is told by the parts of that request_id alone
abbrev pub JoinsByRequestId : Type 0
JoinsByRequestId =
    (versions : List Version) (octets : List ℕ) (parts : List Part) (messages : List Framed) (rest : List ℕ)
    → Splits versions octets parts messages rest
    → (id : ℕ) → numbered id (unfinished parts) ≡ going_on id parts

-- a Fragment goes on with that message
abbrev pub FragmentGoesOn : Type 0
FragmentGoesOn =
    (versions : List Version) (octets : List ℕ) (parts : List Part) (messages : List Framed) (rest : List ℕ)
    → Splits versions octets parts messages rest
    → (p : Part) → is_fragment p.header.kind ≡ true → 4 ≤ length p.content
    → says parts p ≡ continuing p (going_on (id_of p) parts)

-- The message of a stream with this content, joined of its parts, whose first part has this place and header: what the
-- header says, a message by its fields, and where what it keeps behind them begins.
pub record IsFramed (place : ℕ) (header : Header) (content : List ℕ) (framed : Framed) : Type 0 where
  pub place_is : framed.place ≡ place
  pub version_is : framed.version ≡ header.version
  pub order_is : framed.order ≡ header.order
  pub size_is : framed.size ≡ header.size
  pub kind_is : header.kind ≡ kind_of framed.message
  pub is_content : IsContent header.version header.order framed.message content
  pub start_is : framed.start ≡ tail_start header.version header.kind (12 + length is_content.fields)

-- a message that is whole is so, and what is so is the whole message
abbrev pub WholeIsFramed : Type 0
WholeIsFramed =
    (place : ℕ) (header : Header) (content : List ℕ) (framed : Framed)
    → whole_by place header content ≡ Ok (Some framed) → IsFramed place header content framed

abbrev pub FramedIsWhole : Type 0
FramedIsWhole =
    (place : ℕ) (header : Header) (content : List ℕ) (framed : Framed) → IsFramed place header content framed
    → whole_by place header content ≡ Ok (Some framed)
