-- Which octets are a message (CORBA, General Inter-ORB Protocol, GIOP Message Formats). The fields of a message are
-- values of CDR, from offset 12 on; what a message doesn't keep, as the reserved octets, may be anything.
use Rattle.std.specs.Prelude.{◌≡◌, ℕ, ◌+◌, false, List, ◌++◌, length, Ok}
use Rattle.std.specs.List.{Contains}
use Rattle.cdr_values.specs.declared.order.Order.{Order}
use Rattle.cdr_values.specs.Value.{Value}
use Rattle.cdr_values.specs.Values.{SpellsAll}
use Rattle.giop_frames.specs.declared.header.Kind.{Kind}
use Rattle.giop_frames.specs.declared.header.Kind.TheVariants as kinds
use Rattle.giop_frames.specs.declared.header.Header.{Header}
use Rattle.giop_frames.specs.declared.layout.Version.{Version}
use Rattle.giop_frames.specs.declared.message.Message.{Message}
use Rattle.giop_frames.specs.declared.message.Message.TheVariants as messages
use Rattle.giop_frames.specs.declared.message.Target.{Target}
use Rattle.giop_frames.specs.declared.message.Target.TheVariants.{Key}
use Rattle.giop_frames.specs.Layout.{Fields, AreFields, blank, layout, kept_tail, message_with}
use Rattle.giop_frames.specs.Header.{IsPart}

abbrev pub kind_of : Message → Kind
kind_of (messages.Request r) = kinds.Request
kind_of (messages.Reply r) = kinds.Reply
kind_of (messages.Cancel id) = kinds.CancelRequest
kind_of (messages.Locate l) = kinds.LocateRequest
kind_of (messages.LocateReply l) = kinds.LocateReply
kind_of messages.Close = kinds.CloseConnection
kind_of messages.Error = kinds.MessageError

-- how many octets a target keeps
abbrev pub target_kept : Target → ℕ
target_kept (Key key) = length key
target_kept _ = 0

-- how many octets and service contexts a message keeps: for these, and for nothing else, memory is wanted when it is read
abbrev pub message_kept : Message → ℕ
message_kept (messages.Request r) = target_kept r.target + length r.operation + length r.contexts + length r.body
message_kept (messages.Reply r) = length r.contexts + length r.body
message_kept (messages.Cancel id) = 0
message_kept (messages.Locate l) = target_kept l.target
message_kept (messages.LocateReply l) = length l.rest
message_kept messages.Close = 0
message_kept messages.Error = 0

-- the content of a message of this version, in this byte order: its fields from offset 12 on, and a tail
pub record IsContent (version : Version) (order : Order) (m : Message) (content : List ℕ) : Type 0 where
  pub told : Fields
  pub values : List Value
  pub fields : List ℕ
  pub tail : List ℕ
  pub parts : content ≡ fields ++ tail
  pub spelled : SpellsAll order 12 values fields
  pub are_fields : AreFields (layout version (kind_of m)) blank told values
  pub made : message_with order (kind_of m) told (kept_tail version (kind_of m) (12 + length fields) tail) ≡ Ok m

-- the octets are a message of one of these versions in one part, without fragments
pub record IsMessage (versions : List Version) (m : Message) (octets : List ℕ) : Type 0 where
  pub header : Header
  pub content : List ℕ
  pub part : IsPart header content octets
  pub admitted : Contains versions header.version
  pub whole : header.more ≡ false
  pub kind : header.kind ≡ kind_of m
  pub is_content : IsContent header.version header.order m content
