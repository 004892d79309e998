-- What holds of all octets: what they say of a header and of a message, and that no message begins another.
use Rattle.std.specs.Prelude.{◌≡◌, ◌≢◌, ◌≤◌, ◌<◌, ◌+◌, ℕ, List, ◌++◌, length, take, Ok, Err}
use Rattle.std.specs.List.{Contains}
use Rattle.cdr_values.specs.declared.order.Order.{Order}
use Rattle.giop_frames.specs.declared.fault.FrameFault.{FrameFault}
use Rattle.giop_frames.specs.declared.fault.FrameFault.TheVariants.{Short}
use Rattle.giop_frames.specs.declared.header.Kind.{Kind}
use Rattle.giop_frames.specs.declared.layout.Version.{Version}
use Rattle.giop_frames.specs.declared.layout.Version.TheVariants.{V1_2}
use Rattle.giop_frames.specs.declared.message.Message.{Message}
use Rattle.giop_frames.specs.declared.header.Header.{Header}
use Rattle.giop_frames.specs.Limits.{size_limit}
use Rattle.giop_frames.specs.Header.{IsPart, content_behind, header_at}
use Rattle.giop_frames.specs.Layout.{tail_start}
use Rattle.giop_frames.specs.Message.{IsContent, IsMessage, kind_of}
use Rattle.giop_frames.specs.Content.{message_of, start_of}

-- a header of one of these versions that is read stands in front of its content, where that is whole
abbrev pub HeaderStands : Type 0
HeaderStands =
    (versions : List Version) (octets : List ℕ) (h : Header) → header_at versions octets ≡ Ok h → 12 + h.size ≤ length octets
    → Contains versions h.version × IsPart h (content_behind h octets) (take (12 + h.size) octets)

-- a header that stands in front is read where its version is admitted, whatever follows its content
abbrev pub HeaderIsRead : Type 0
HeaderIsRead =
    (versions : List Version) (h : Header) (content octets rest : List ℕ) → Contains versions h.version
    → IsPart h content octets → header_at versions (octets ++ rest) ≡ Ok h

-- what twelve octets say of a header they say whatever follows them
abbrev pub HeaderIsSame : Type 0
HeaderIsSame =
    (versions : List Version) (octets more : List ℕ) → 12 ≤ length octets
    → header_at versions (octets ++ more) ≡ header_at versions octets

-- a fault of a header that isn't want of octets is found whatever octets follow
abbrev pub HeaderIsRefused : Type 0
HeaderIsRefused =
    (versions : List Version) (octets more : List ℕ) (fault : FrameFault) → header_at versions octets ≡ Err fault
    → fault ≢ Short → header_at versions (octets ++ more) ≡ Err fault

-- headers are read exactly where they stand
pub record HeaderLaws : Type 0 where
  pub found : HeaderStands
  pub only : HeaderIsRead
  pub same : HeaderIsSame
  pub stays : HeaderIsRefused
  pub long : (versions : List Version) (octets : List ℕ) (h : Header) → header_at versions octets ≡ Ok h → 12 ≤ length octets
  pub small : (versions : List Version) (octets : List ℕ) (h : Header) → header_at versions octets ≡ Ok h → h.size ≤ size_limit
  pub short : (versions : List Version) (octets : List ℕ) → header_at versions octets ≡ Err Short → length octets < 12

-- no octets that are a message in one part begin others that are one, and no octets are two such messages
abbrev pub NoMessageBeginsAnother : Type 0
NoMessageBeginsAnother =
    (versions : List Version) (m n : Message) (a b x y : List ℕ) → IsMessage versions m a → IsMessage versions n b
    → a ++ x ≡ b ++ y → (a ≡ b) × (m ≡ n)

-- the message that reading a content gives has this content
abbrev pub ReadIsContent : Type 0
ReadIsContent =
    (version : Version) (order : Order) (kind : Kind) (content : List ℕ) (m : Message)
    → message_of version order kind content ≡ Ok m → (kind ≡ kind_of m) × IsContent version order m content

-- reading the content of a message gives that message
abbrev pub ContentIsRead : Type 0
ContentIsRead =
    (version : Version) (order : Order) (kind : Kind) (content : List ℕ) (m : Message) → kind ≡ kind_of m
    → IsContent version order m content → message_of version order kind content ≡ Ok m

-- what a message keeps begins behind the fields of its content
abbrev pub StartIsBehindFields : Type 0
StartIsBehindFields =
    (version : Version) (order : Order) (kind : Kind) (content : List ℕ) (m : Message) → kind ≡ kind_of m
    → (is : IsContent version order m content)
    → start_of version order kind content ≡ tail_start version kind (12 + length is.fields)

-- in version 1.2 the body of a message of this kind begins at a multiple of 8
abbrev pub BeginsAtEight : Kind → Type 0
BeginsAtEight kind = (place : ℕ) → tail_start V1_2 kind place ≡ 0
