-- The fields of messages (CORBA, General Inter-ORB Protocol, GIOP Message Formats). One table tells which fields a
-- message has in front of its body, and in which order; `IsField` tells which values each field is. Reading, writing and
-- which octets are a message at all go over the table, and laws tie what is read and written of a field to its values.
use Rattle.std.specs.Prelude.{◌≡◌, ℕ, ◌+◌, ◌%◌, ◌≤◌, List, [], ◌∷◌, ◌++◌, length, drop, Result, Ok, Err}
use Rattle.cdr_values.specs.declared.order.Order.{Order}
use Rattle.cdr_values.specs.Value.{Value, Octet, UShort, ULong, OctetSequence, Text, gap}
use Rattle.cdr_values.specs.Sequence.{sequence_values}
use Rattle.cdr_values.specs.Tagged.{reference_values, tagged_values}
use Rattle.giop_frames.specs.declared.fault.FrameFault.{FrameFault}
use Rattle.giop_frames.specs.declared.fault.FrameFault.TheVariants.{BadFragment}
use Rattle.giop_frames.specs.declared.header.Kind.{Kind}
use Rattle.giop_frames.specs.declared.header.Kind.TheVariants as kinds
use Rattle.giop_frames.specs.declared.layout.Version.{Version}
use Rattle.giop_frames.specs.declared.layout.Version.TheVariants.{V1_2}
use Rattle.giop_frames.specs.declared.layout.Field.{Field}
use Rattle.giop_frames.specs.declared.layout.Field.TheVariants as fields
use Rattle.giop_frames.specs.declared.message.Message.{Message}
use Rattle.giop_frames.specs.declared.message.Message.TheVariants as messages
use Rattle.giop_frames.specs.declared.message.Target.{Target}
use Rattle.giop_frames.specs.declared.message.Target.TheVariants.{Key, Profile, Reference}
use Rattle.giop_frames.specs.declared.message.ServiceContext.{ServiceContext}
use Rattle.giop_frames.specs.Limits.{context_limit, key_limit, profile_limit}

-- the fields of each message (RequestHeader_1_2, ReplyHeader_1_2, CancelRequestHeader, LocateRequestHeader_1_2,
-- LocateReplyHeader_1_2); a Fragment's request_id belongs to the part, and a Fragment is no message of its own
abbrev pub layout : Version → Kind → List Field
layout V1_2 kinds.Request =
    fields.Id ∷ fields.Flags ∷ fields.Reserved ∷ fields.Reserved ∷ fields.Reserved ∷ fields.Target ∷ fields.Operation
    ∷ fields.Contexts ∷ []
layout V1_2 kinds.Reply = fields.Id ∷ fields.Status ∷ fields.Contexts ∷ []
layout V1_2 kinds.CancelRequest = fields.Id ∷ []
layout V1_2 kinds.LocateRequest = fields.Id ∷ fields.Target ∷ []
layout V1_2 kinds.LocateReply = fields.Id ∷ fields.Status ∷ []
layout V1_2 kinds.CloseConnection = []
layout V1_2 kinds.MessageError = []
layout V1_2 kinds.Fragment = []

-- the body of a Request and of a Reply stands at a multiple of this
abbrev pub body_alignment : Version → ℕ
body_alignment V1_2 = 8

-- what the fields of a message tell; a field that a message doesn't have stays as in `blank`
pub record Fields : Type 0 where
  pub id : ℕ
  pub flags : ℕ
  pub status : ℕ
  pub target : Target
  pub operation : List ℕ
  pub contexts : List ServiceContext

-- no field was told
abbrev pub blank : Fields
blank = record { id = 0; flags = 0; status = 0; target = Reference; operation = []; contexts = [] }

-- the numbers that tell which case of a target stands behind them (KeyAddr, ProfileAddr, ReferenceAddr); CORBA's
-- discriminator is a short
abbrev pub key_addr : ℕ
key_addr = 0

abbrev pub profile_addr : ℕ
profile_addr = 1

abbrev pub reference_addr : ℕ
reference_addr = 2

-- the values of a target that is this key, that is this tagged profile, or that is a reference with an index
abbrev pub key_values : List ℕ → List Value
key_values key = UShort key_addr ∷ OctetSequence key ∷ []

abbrev pub profile_values : ℕ × List ℕ → List Value
profile_values profile = UShort profile_addr ∷ tagged_values profile

abbrev pub indexed_values : ℕ → List ℕ × List (ℕ × List ℕ) → List Value
indexed_values index reference = UShort reference_addr ∷ ULong index ∷ reference_values reference

-- the values of a target (TargetAddress): a key, whose length has a limit (our profile); a profile; or a reference,
-- whose number of profiles has a limit (our profile)
abbrev pub IsTarget : Target → List Value → Type 0
IsTarget (Key key) values = (values ≡ key_values key) × (length key ≤ key_limit)
IsTarget Profile values = (profile : ℕ × List ℕ) × (values ≡ profile_values profile)
IsTarget Reference values =
    (index : ℕ) × (reference : List ℕ × List (ℕ × List ℕ)) × (length reference.1 ≤ profile_limit)
    × (values ≡ indexed_values index reference)

-- a service context (ORB Interoperability Architecture, ServiceContext)
abbrev pub context_values : ServiceContext → List Value
context_values context = tagged_values (context.id, context.bytes)

-- how many contexts there are, and then each
abbrev pub contexts_values : List ServiceContext → List Value
contexts_values contexts = sequence_values context_values contexts

-- these are the values of a field, which tells this beside what was told before. A reserved octet may be anything, and
-- the number of contexts has a limit (our profile).
abbrev pub IsField : Field → Fields → Fields → List Value → Type 0
IsField fields.Id old new values = (id : ℕ) × (new ≡ record old { id = id }) × (values ≡ ULong id ∷ [])
IsField fields.Flags old new values = (flags : ℕ) × (new ≡ record old { flags = flags }) × (values ≡ Octet flags ∷ [])
IsField fields.Reserved old new values = (octet : ℕ) × (new ≡ old) × (values ≡ Octet octet ∷ [])
IsField fields.Status old new values = (status : ℕ) × (new ≡ record old { status = status }) × (values ≡ ULong status ∷ [])
IsField fields.Target old new values = (target : Target) × (new ≡ record old { target = target }) × IsTarget target values
IsField fields.Operation old new values =
    (name : List ℕ) × (new ≡ record old { operation = name }) × (values ≡ Text name ∷ [])
IsField fields.Contexts old new values =
    (contexts : List ServiceContext) × (new ≡ record old { contexts = contexts })
    × (length contexts ≤ context_limit) × (values ≡ contexts_values contexts)

-- these are the values of fields, one after another
abbrev pub AreFields : List Field → Fields → Fields → List Value → Type 0
AreFields [] old new values = (new ≡ old) × (values ≡ [])
AreFields (one ∷ others) old new values =
    (between : Fields) × (front : List Value) × (rest : List Value) × (values ≡ front ++ rest)
    × IsField one old between front × AreFields others between new rest

-- the padding in front of what a message keeps behind its fields, which end at this place: a body stands at a multiple
abbrev pub tail_gap : Version → Kind → ℕ → ℕ
tail_gap version kinds.Request place = gap (body_alignment version) place
tail_gap version kinds.Reply place = gap (body_alignment version) place
tail_gap version kind place = 0

-- the offset modulo 8 at which that begins, by which values in it are aligned
abbrev pub tail_start : Version → Kind → ℕ → ℕ
tail_start version kind place = (place + tail_gap version kind place) % 8

-- what a message keeps of the octets behind its fields, which end at this place: a Request and a Reply keep the body,
-- which stands from the next multiple on (none, where the octets end before it), a LocateReply all; octets behind the
-- fields of other messages belong to the message and are passed over (our profile)
abbrev pub kept_tail : Version → Kind → ℕ → List ℕ → List ℕ
kept_tail version kinds.Request place octets = drop (tail_gap version kinds.Request place) octets
kept_tail version kinds.Reply place octets = drop (tail_gap version kinds.Reply place) octets
kept_tail version kinds.LocateReply place octets = octets
kept_tail version kind place octets = []

-- the message of this kind with these fields, and what it keeps behind them
abbrev pub message_with : Order → Kind → Fields → List ℕ → Result Message FrameFault
message_with order kinds.Request f body =
    Ok (messages.Request (record {
      id = f.id;
      flags = f.flags;
      target = f.target;
      operation = f.operation;
      contexts = f.contexts;
      order = order;
      body = body;
    }))
message_with order kinds.Reply f body =
    Ok (messages.Reply (record { id = f.id; status = f.status; contexts = f.contexts; order = order; body = body }))
message_with order kinds.CancelRequest f tail = Ok (messages.Cancel f.id)
message_with order kinds.LocateRequest f tail = Ok (messages.Locate (record { id = f.id; target = f.target }))
message_with order kinds.LocateReply f rest =
    Ok (messages.LocateReply (record { id = f.id; status = f.status; rest = rest }))
message_with order kinds.CloseConnection f tail = Ok messages.Close
message_with order kinds.MessageError f tail = Ok messages.Error
message_with order kinds.Fragment f tail = Err BadFragment
