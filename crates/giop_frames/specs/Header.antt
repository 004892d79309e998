-- The header in front of each part of a message (CORBA, GIOP Message Formats, MessageHeader_1_1).
use Rattle.std.specs.Prelude.{◌≡◌, ℕ, ◌/◌, ◌%◌, ◌≤◌, ◌==◌, nat_eq, nat_lt, Bool, true, false, not, List, [], ◌∷◌, ◌++◌, length, take, drop, find, slice_index, Option, Some, None, Result, Ok, Err, if◌then◌else◌, codes}
use Rattle.std.specs.List.{starts_with}
use Rattle.cdr_values.specs.declared.order.Order.{Order}
use Rattle.cdr_values.specs.declared.order.Order.TheVariants.{Big, Little}
use Rattle.cdr_values.specs.Value.{IsNumber, number_in, octets_of}
use Rattle.giop_frames.specs.declared.fault.FrameFault.{FrameFault}
use Rattle.giop_frames.specs.declared.fault.FrameFault.TheVariants.{BadMagic, BadVersion, BadType, TooLarge, Short}
use Rattle.giop_frames.specs.declared.header.Kind.{Kind}
use Rattle.giop_frames.specs.declared.header.Kind.TheVariants as kinds
use Rattle.giop_frames.specs.declared.header.Header.{Header}
use Rattle.giop_frames.specs.declared.layout.Version.{Version}
use Rattle.giop_frames.specs.declared.layout.Version.TheVariants.{V1_2}
use Rattle.giop_frames.specs.Limits.{size_limit}

abbrev pub magic : List ℕ
magic = codes "GIOP"

-- the octet of the minor version
abbrev pub minor_octet : Version → ℕ
minor_octet V1_2 = 2

-- the octets of the version, of which the major one is 1
abbrev pub version_octets : Version → List ℕ
version_octets version = 1 ∷ minor_octet version ∷ []

-- the version whose octets these are, of those that are admitted; where octets are wanting, the first that they begin
abbrev pub version_at : List Version → List ℕ → Option Version
version_at versions octets = find (λ version. starts_with nat_eq (version_octets version) octets) versions

-- the versions that are admitted where a call is given none (our profile)
abbrev pub profile_versions : List Version
profile_versions = V1_2 ∷ []

-- the octet that stands for a type
abbrev pub type_octet : Kind → ℕ
type_octet kinds.Request = 0
type_octet kinds.Reply = 1
type_octet kinds.CancelRequest = 2
type_octet kinds.LocateRequest = 3
type_octet kinds.LocateReply = 4
type_octet kinds.CloseConnection = 5
type_octet kinds.MessageError = 6
type_octet kinds.Fragment = 7

-- the type that an octet of at most 7 stands for
abbrev pub kind_at : ℕ → Kind
kind_at octet =
    if octet == 0 then kinds.Request else (
    if octet == 1 then kinds.Reply else (
    if octet == 2 then kinds.CancelRequest else (
    if octet == 3 then kinds.LocateRequest else (
    if octet == 4 then kinds.LocateReply else (
    if octet == 5 then kinds.CloseConnection else (
    if octet == 6 then kinds.MessageError else kinds.Fragment))))))

-- a part of this type goes on with a message
abbrev pub is_fragment : Kind → Bool
is_fragment kinds.Fragment = true
is_fragment _ = false

-- bit 0 of the flags tells the byte order
abbrev pub order_of_flags : ℕ → Order
order_of_flags flags = if flags % 2 == 1 then Little else Big

-- in version 1.2 bit 1 of the flags tells that more fragments follow. The other bits are ignored (our profile).
abbrev pub more_of_flags : Version → ℕ → Bool
more_of_flags V1_2 flags = flags / 2 % 2 == 1

-- the octets are a part: a header, and the content whose length it tells, which has a limit (our profile)
pub record IsPart (header : Header) (content octets : List ℕ) : Type 0 where
  pub flags : ℕ
  pub size : List ℕ
  pub parts : octets ≡ magic ++ (version_octets header.version ++ (flags ∷ type_octet header.kind ∷ (size ++ content)))
  pub order_bit : order_of_flags flags ≡ header.order
  pub more_bit : more_of_flags header.version flags ≡ header.more
  pub sized : IsNumber header.order 4 header.size size
  pub counted : length content ≡ header.size
  pub few : header.size ≤ size_limit

-- the size that a header tells
abbrev pub size_at : List ℕ → ℕ
size_at octets = number_in (order_of_flags (slice_index octets 6)) 4 (take 4 (drop 8 octets))

-- what a header of this version says
abbrev pub header_told : Version → List ℕ → Header
header_told version octets = record {
  version = version;
  order = order_of_flags (slice_index octets 6);
  more = more_of_flags version (slice_index octets 6);
  kind = kind_at (slice_index octets 7);
  size = size_at octets;
}

-- the header whose version was found, or its first fault behind the magic; a version is bad once one of its octets is
abbrev pub header_of : Option Version → List ℕ → Result Header FrameFault
header_of None octets = if nat_lt 4 (length octets) then Err BadVersion else Err Short
header_of (Some version) octets =
    if nat_lt 7 (slice_index octets 7) then Err BadType else (
    if nat_lt (length octets) 12 then Err Short else (
    if nat_lt size_limit (size_at octets) then Err (TooLarge (size_at octets)) else
    Ok (header_told version octets)))

-- the header in front of a part of one of these versions, or the first fault as its octets come
unfoldable pub header_at : List Version → List ℕ → Result Header FrameFault
header_at versions octets =
    if not (starts_with nat_eq magic (take 4 octets)) then Err BadMagic else
    header_of (version_at versions (take 2 (drop 4 octets))) octets

-- the content behind a header that stands in front
abbrev pub content_behind : Header → List ℕ → List ℕ
content_behind header octets = take header.size (drop 12 octets)

-- the flags of a message that isn't fragmented
abbrev pub flags_of : Order → ℕ
flags_of Big = 0
flags_of Little = 1

-- the header of a message that isn't fragmented
abbrev pub header_octets : Version → Order → Kind → ℕ → List ℕ
header_octets version order kind size = magic ++ (version_octets version ++ (flags_of order ∷ type_octet kind ∷ octets_of order 4 size))
