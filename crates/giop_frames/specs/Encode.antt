-- The octets that are written for a message, field by field as the table of layouts lists them (CORBA, GIOP Message
-- Formats), and what refuses it first (our profile).
use Rattle.std.specs.Prelude.{◌≡◌, ℕ, ◌+◌, nat_lt, List, [], ◌∷◌, ◌++◌, length, replicate, sum_by, Option, Some, None, IfSome, Result, Err, OnErr, OnOk, if◌then◌else◌}
use Rattle.std.specs.List.{flat_map}
use Rattle.cdr_values.specs.declared.order.Order.{Order}
use Rattle.cdr_values.specs.declared.order.Order.TheVariants.{Big}
use Rattle.cdr_values.specs.declared.fault.CdrFault.TheVariants as cdr
use Rattle.cdr_values.specs.Value.{Value, Octet, UShort, ULong, Text, gap, has_nul}
use Rattle.cdr_values.specs.Values.{canonical_all}
use Rattle.giop_frames.specs.declared.fault.FrameFault.{FrameFault}
use Rattle.giop_frames.specs.declared.fault.FrameFault.TheVariants.{TooLarge, Body, NotWritten}
use Rattle.giop_frames.specs.declared.layout.Version.{Version}
use Rattle.giop_frames.specs.declared.layout.Field.{Field}
use Rattle.giop_frames.specs.declared.layout.Field.TheVariants as fields
use Rattle.giop_frames.specs.declared.message.Message.{Message}
use Rattle.giop_frames.specs.declared.message.Message.TheVariants as messages
use Rattle.giop_frames.specs.declared.message.Request.{Request}
use Rattle.giop_frames.specs.declared.message.Target.{Target}
use Rattle.giop_frames.specs.declared.message.Target.TheVariants.{Key, Profile, Reference}
use Rattle.giop_frames.specs.declared.message.ServiceContext.{ServiceContext}
use Rattle.giop_frames.specs.Limits.{context_limit, key_limit, size_limit}
use Rattle.giop_frames.specs.Fault.{IfRefused, too_long}
use Rattle.giop_frames.specs.Header.{header_octets}
use Rattle.giop_frames.specs.Layout.{Fields, blank, body_alignment, contexts_values, key_addr, key_values, layout}
use Rattle.giop_frames.specs.Message.{IsMessage, kind_of}
use Rattle.giop_frames.specs.Sizes.{end_of}

-- ---- fields

-- what the fields of a message tell
abbrev pub told_of : Message → Fields
told_of (messages.Request r) = record {
  id = r.id;
  flags = r.flags;
  status = 0;
  target = r.target;
  operation = r.operation;
  contexts = r.contexts;
}
told_of (messages.Reply r) = record blank { id = r.id; status = r.status; contexts = r.contexts }
told_of (messages.Cancel id) = record blank { id = id }
told_of (messages.Locate l) = record blank { id = l.id; target = l.target }
told_of (messages.LocateReply l) = record blank { id = l.id; status = l.status }
told_of messages.Close = blank
told_of messages.Error = blank

-- the values of a target; those of a profile and of a reference are not written
abbrev pub target_values : Target → List Value
target_values (Key key) = key_values key
target_values Profile = []
target_values Reference = []

-- the values of a field, as it is written: a reserved octet is 0
abbrev pub field_values : Fields → Field → List Value
field_values f fields.Id = ULong f.id ∷ []
field_values f fields.Flags = Octet f.flags ∷ []
field_values f fields.Reserved = Octet 0 ∷ []
field_values f fields.Status = ULong f.status ∷ []
field_values f fields.Target = target_values f.target
field_values f fields.Operation = Text f.operation ∷ []
field_values f fields.Contexts = contexts_values f.contexts

-- the fields of a message
abbrev pub values_of : Version → Message → List Value
values_of version m = flat_map (field_values (told_of m)) (layout version (kind_of m))

-- a Request or a Reply is written in its own byte order, a message of another type big endian (our profile)
abbrev pub order_of : Message → Order
order_of (messages.Request r) = r.order
order_of (messages.Reply r) = r.order
order_of _ = Big

-- the octets of the fields
abbrev pub fields_of : Version → Message → List ℕ
fields_of version m = canonical_all (order_of m) 12 (values_of version m)

-- ---- octets

-- a body stands at a multiple of n; there is no padding where there is no body
abbrev pub padded_body : ℕ → ℕ → List ℕ → List ℕ
padded_body n at [] = []
padded_body n at (octet ∷ octets) = replicate (gap n at) 0 ++ (octet ∷ octets)

-- what stands behind the fields, which end at this place
abbrev pub tail_at : Version → ℕ → Message → List ℕ
tail_at version at (messages.Request r) = padded_body (body_alignment version) at r.body
tail_at version at (messages.Reply r) = padded_body (body_alignment version) at r.body
tail_at version at (messages.LocateReply l) = l.rest
tail_at version at m = []

abbrev pub tail_of : Version → Message → List ℕ
tail_of version m = tail_at version (12 + length (fields_of version m)) m

abbrev pub content_of : Version → Message → List ℕ
content_of version m = fields_of version m ++ tail_of version m

-- the one spelling of the message that is written: padding is 0
unfoldable pub spelling : Version → Message → List ℕ
spelling version m =
    header_octets version (order_of m) (kind_of m) (length (content_of version m)) ++ content_of version m

-- ---- refusals

-- a target: profiles and references are not written, and a key has a limit
abbrev pub target_refusal : ℕ → Target → Option FrameFault
target_refusal at (Key key) =
    if nat_lt key_limit (length key) then Some (too_long (end_of at (UShort key_addr ∷ [])) (length key)) else None
target_refusal at Profile = Some NotWritten
target_refusal at Reference = Some NotWritten

-- an operation has no NUL
abbrev pub operation_refusal : ℕ → List ℕ → Option FrameFault
operation_refusal at operation = if has_nul operation then Some (Body at (cdr.BadString at)) else None

-- the number of contexts has a limit
abbrev pub contexts_refusal : ℕ → List ServiceContext → Option FrameFault
contexts_refusal at contexts =
    if nat_lt context_limit (length contexts) then Some (too_long at (length contexts)) else None

-- what refuses a field that would be written from this offset on
abbrev pub field_refusal : Fields → ℕ → Field → Option FrameFault
field_refusal f at fields.Target = target_refusal at f.target
field_refusal f at fields.Operation = operation_refusal at f.operation
field_refusal f at fields.Contexts = contexts_refusal at f.contexts
field_refusal f at _ = None

-- the first refusal
infixr 20 ◌or◌
abbrev pub ◌or◌ : Option FrameFault → Option FrameFault → Option FrameFault
(Some fault) or later = Some fault
None or later = later

-- what passes a limit in fields, from the left
abbrev pub fields_refusal : Fields → ℕ → List Field → Option FrameFault
fields_refusal f at [] = None
fields_refusal f at (one ∷ others) = field_refusal f at one or fields_refusal f (end_of at (field_values f one)) others

abbrev pub size_refusal : Version → Message → Option FrameFault
size_refusal version m =
    if nat_lt size_limit (length (content_of version m)) then Some (TooLarge (length (content_of version m))) else None

-- why the message is not written: a limit is passed in its fields, or it has too many octets behind the header
unfoldable pub refusal_of : Version → Message → Option FrameFault
refusal_of version m = fields_refusal (told_of m) 12 (layout version (kind_of m)) or size_refusal version m

-- ---- how much it is

abbrev pub octets_in_contexts : List ServiceContext → ℕ
octets_in_contexts contexts = sum_by (λ context. length context.bytes) contexts

abbrev pub octets_in_target : Target → ℕ
octets_in_target (Key key) = length key
octets_in_target _ = 0

-- how many octets the lists in a Request's fields have together
abbrev pub octets_in_fields : Request → ℕ
octets_in_fields r = octets_in_target r.target + length r.operation + octets_in_contexts r.contexts

-- how many octets and members all lists of a message have together
abbrev pub octets_in : Message → ℕ
octets_in (messages.Request r) = octets_in_fields r + length r.contexts + length r.body
octets_in (messages.Reply r) = length r.contexts + octets_in_contexts r.contexts + length r.body
octets_in (messages.Locate l) = octets_in_target l.target
octets_in (messages.LocateReply l) = length l.rest
octets_in _ = 0

-- ---- what a call does

-- a call appended the spelling of this message, which is the message; or nothing, and answered why it is not written, or
-- for want of memory. What refuses the message is told, never want of memory.
pub record Encodes (version : Version) (m : Message) (result : Result (Unit {0}) FrameFault) (old new : List ℕ) : Type 0 where
  pub ok : OnOk result (new ≡ old ++ spelling version m)
  pub spelled : OnOk result (IsMessage (version ∷ []) m (spelling version m))
  pub fits : OnOk result (refusal_of version m ≡ None)
  pub refused : IfRefused result (λ fault. refusal_of version m ≡ Some fault)
  pub told : IfSome (refusal_of version m) (λ fault. result ≡ Err fault)
  pub err : OnErr result (new ≡ old)
