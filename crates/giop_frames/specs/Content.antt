-- Reading the content of a message from its front, field by field as the table of layouts lists them (CORBA, GIOP
-- Message Formats), and its first fault (our profile).
use Rattle.std.specs.Prelude.{ℕ, ◌<◌, ◌==◌, nat_lt, List, [], ◌∷◌, length, Result, Ok, Err, IsOkAnd, if◌then◌else◌}
use Rattle.cdr_values.specs.declared.order.Order.{Order}
use Rattle.cdr_values.specs.Reading.{Reading, ◌>>=◌, octet_at, ushort_at, ulong_at, octets_at, string_at}
use Rattle.cdr_values.specs.Sequence.{Read, sequence_at}
use Rattle.cdr_values.specs.Tagged.{reference_at, tagged_at}
use Rattle.giop_frames.specs.declared.fault.FrameFault.{FrameFault}
use Rattle.giop_frames.specs.declared.fault.FrameFault.TheVariants.{BadType}
use Rattle.giop_frames.specs.declared.header.Kind.{Kind}
use Rattle.giop_frames.specs.declared.header.Header.{Header}
use Rattle.giop_frames.specs.declared.layout.Version.{Version}
use Rattle.giop_frames.specs.declared.layout.Field.{Field}
use Rattle.giop_frames.specs.declared.layout.Field.TheVariants as fields
use Rattle.giop_frames.specs.declared.message.Message.{Message}
use Rattle.giop_frames.specs.declared.message.Target.{Target}
use Rattle.giop_frames.specs.declared.message.Target.TheVariants.{Key, Profile, Reference}
use Rattle.giop_frames.specs.declared.message.ServiceContext.{ServiceContext}
use Rattle.giop_frames.specs.Limits.{context_limit, key_limit, profile_limit}
use Rattle.giop_frames.specs.Fault.{fault_of, field, too_long}
use Rattle.giop_frames.specs.Layout.{Fields, blank, kept_tail, key_addr, layout, message_with, profile_addr, reference_addr, tail_start}
use Rattle.giop_frames.specs.Message.{message_kept}

unfoldable pub key_at : Reading → Result (Target × Reading) FrameFault
key_at r = do
  key ← field (octets_at r)
  if nat_lt key_limit (length key.0) then Err (too_long r.place (length key.0)) else Ok (Key key.0, key.1)

-- what was passed over is a target of this kind
abbrev pub as_target : {A : Type 0} → Target → Result (A × Reading) FrameFault → Result (Target × Reading) FrameFault
as_target target read = read >>= λ passed. Ok (target, passed.1)

-- a tagged profile
unfoldable pub profile_at : Reading → Result (Target × Reading) FrameFault
profile_at r = as_target Profile (tagged_at fault_of r)

-- an index, and a reference
unfoldable pub indexed_at : Reading → Result (Target × Reading) FrameFault
indexed_at r = field (ulong_at r) >>= λ index. as_target Reference (reference_at profile_limit fault_of too_long index.1)

unfoldable pub target_at : Reading → Result (Target × Reading) FrameFault
target_at r = do
  way ← field (ushort_at r)
  if way.0 == key_addr then key_at way.1 else (
      if way.0 == profile_addr then profile_at way.1 else (
      if way.0 == reference_addr then indexed_at way.1 else Err BadType))

-- a service context
unfoldable pub context_at : Read ServiceContext FrameFault
context_at r = tagged_at fault_of r >>= λ found. Ok (record { id = found.0.0; bytes = found.0.1 }, found.1)

-- how many contexts there are, and then each
abbrev pub contexts_at : Read (List ServiceContext) FrameFault
contexts_at r = sequence_at context_limit fault_of too_long context_at r

-- what a target that was read tells
abbrev pub telling_target : Fields → Result (Target × Reading) FrameFault → Result (Fields × Reading) FrameFault
telling_target told read = read >>= λ target. Ok (record told { target = target.0 }, target.1)

-- this field, and what it tells beside what was told before
unfoldable pub field_at : Field → Fields → Reading → Result (Fields × Reading) FrameFault
field_at fields.Id told r = field (ulong_at r) >>= λ id. Ok (record told { id = id.0 }, id.1)
field_at fields.Flags told r = field (octet_at r) >>= λ flags. Ok (record told { flags = flags.0 }, flags.1)
field_at fields.Reserved told r = field (octet_at r) >>= λ octet. Ok (told, octet.1)
field_at fields.Status told r = field (ulong_at r) >>= λ status. Ok (record told { status = status.0 }, status.1)
field_at fields.Target told r = telling_target told (target_at r)
field_at fields.Operation told r = field (string_at r) >>= λ name. Ok (record told { operation = name.0 }, name.1)
field_at fields.Contexts told r = contexts_at r >>= λ contexts. Ok (record told { contexts = contexts.0 }, contexts.1)

-- these fields, one after another
abbrev pub fields_at : List Field → Fields → Reading → Result (Fields × Reading) FrameFault
fields_at [] told r = Ok (told, r)
fields_at (one ∷ others) told r = field_at one told r >>= λ next. fields_at others next.0 next.1

-- a reader at the start of a content
abbrev pub front_of : Order → List ℕ → Reading
front_of order content = record { order = order; place = 12; rest = content }

-- the fields of a message of this kind with this content
abbrev pub fields_in : Version → Order → Kind → List ℕ → Result (Fields × Reading) FrameFault
fields_in version order kind content = fields_at (layout version kind) blank (front_of order content)

-- the message with these fields, where a reader stands behind them
abbrev pub message_behind : Version → Order → Kind → Fields × Reading → Result Message FrameFault
message_behind version order kind read = message_with order kind read.0 (kept_tail version kind read.1.place read.1.rest)

-- the message of this kind with this content
unfoldable pub message_of : Version → Order → Kind → List ℕ → Result Message FrameFault
message_of version order kind content = fields_in version order kind content >>= message_behind version order kind

-- the offset modulo 8 at which what a message keeps behind the fields that were read begins
abbrev pub start_behind : Version → Kind → Result (Fields × Reading) FrameFault → ℕ
start_behind version kind (Ok read) = tail_start version kind read.1.place
start_behind version kind (Err fault) = 0

-- the same of a message of this kind with this content
unfoldable pub start_of : Version → Order → Kind → List ℕ → ℕ
start_of version order kind content = start_behind version kind (fields_in version order kind content)

-- reading gives a message that keeps something, for which memory may be wanted
abbrev pub GivesKept : Result Message FrameFault → Type 0
GivesKept read = IsOkAnd read (λ m. 0 < message_kept m)

-- the message of a part with this header whose content this is
abbrev pub message_by : Header → List ℕ → Result Message FrameFault
message_by header content = message_of header.version header.order header.kind content

-- the offset modulo 8 at which what it keeps behind its fields begins
abbrev pub start_by : Header → List ℕ → ℕ
start_by header content = start_of header.version header.order header.kind content
