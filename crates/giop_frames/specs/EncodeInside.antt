-- What a message tells where it is written, and how large its fields are.
use Rattle.std.specs.Prelude.{◌≡◌, ℕ, ◌+◌, List, [], ◌∷◌, ◌++◌, length, replicate, sum_by, Option, Some, None, Result, Ok, Err}
use Rattle.std.specs.Borrow.{Bor}
use Rattle.std.specs.List.{flat_map}
use Rattle.cdr_values.specs.declared.order.Order.{Order}
use Rattle.cdr_values.specs.declared.order.Order.TheVariants.{Big}
use Rattle.cdr_values.specs.Value.{Value}
use Rattle.cdr_values.specs.Writing.{Writing}
use Rattle.giop_frames.specs.declared.fault.FrameFault.{FrameFault}
use Rattle.giop_frames.specs.declared.header.Kind.{Kind}
use Rattle.giop_frames.specs.declared.layout.Version.{Version}
use Rattle.giop_frames.specs.declared.layout.Field.{Field}
use Rattle.giop_frames.specs.declared.layout.Field.TheVariants as fields
use Rattle.giop_frames.specs.declared.message.Message.{Message}
use Rattle.giop_frames.specs.declared.message.Message.TheVariants as messages
use Rattle.giop_frames.specs.declared.message.Target.{Target}
use Rattle.giop_frames.specs.declared.message.Target.TheVariants.{Reference}
use Rattle.giop_frames.specs.declared.told.Told.{Told}
use Rattle.giop_frames.specs.Header.{header_octets}
use Rattle.giop_frames.specs.Layout.{Fields, layout, tail_gap}
use Rattle.giop_frames.specs.Message.{kind_of}
use Rattle.giop_frames.specs.Encode.{field_values, fields_refusal, octets_in_contexts, octets_in_target, order_of, told_of}

-- ---- what a message tells

-- a message without a target tells none, as one of which nothing was told
abbrev pub target_told : Option (Bor Target) → Target
target_told None = Reference
target_told (Some target) = target.now

abbrev pub fields_told : Told → Fields
fields_told t = record {
  id = t.id;
  flags = t.flags;
  status = t.status;
  target = target_told t.target;
  operation = t.operation.now;
  contexts = t.contexts.now;
}

-- what a message keeps behind its fields
abbrev pub behind_of : Message → List ℕ
behind_of (messages.Request r) = r.body
behind_of (messages.Reply r) = r.body
behind_of (messages.LocateReply l) = l.rest
behind_of _ = []

-- this is told of a message
pub record Tells (t : Told) (m : Message) : Type 0 where
  pub kind : t.kind ≡ kind_of m
  pub order : t.order ≡ order_of m
  pub fields : fields_told t ≡ told_of m
  pub behind : t.behind.now ≡ behind_of m

-- nothing is told of a message of this type
pub record TellsNothing (kind : Kind) (t : Told) : Type 0 where
  pub kind_is : t.kind ≡ kind
  pub order : t.order ≡ Big
  pub id : t.id ≡ 0
  pub flags : t.flags ≡ 0
  pub status : t.status ≡ 0
  pub target : t.target ≡ None
  pub operation : t.operation.now ≡ []
  pub contexts : t.contexts.now ≡ []
  pub behind : t.behind.now ≡ []

-- the padding in front of that: there is none where there is nothing
abbrev pub padding_at : Version → Kind → ℕ → List ℕ → List ℕ
padding_at version kind at [] = []
padding_at version kind at (octet ∷ octets) = replicate (tail_gap version kind at) 0

-- that, behind its padding
abbrev pub padded_behind : Version → Kind → ℕ → List ℕ → List ℕ
padded_behind version kind at octets = padding_at version kind at octets ++ octets

-- the header of a message that tells this, its fields, and what it keeps behind them
abbrev pub parts_of : Version → Told → ℕ → List ℕ → List ℕ
parts_of version t size octets =
    header_octets version t.order t.kind size ++ (octets ++ padded_behind version t.kind (12 + length octets) t.behind.now)

-- ---- how large it is

-- a refusal, or this
abbrev pub unless : {X : Type 0} → Option FrameFault → X → Result X FrameFault
unless None x = Ok x
unless (Some fault) x = Err fault

-- how many octets and members the lists of a field have
abbrev pub octets_in_field : Fields → Field → ℕ
octets_in_field f fields.Target = octets_in_target f.target
octets_in_field f fields.Operation = length f.operation
octets_in_field f fields.Contexts = octets_in_contexts f.contexts + length f.contexts
octets_in_field f _ = 0

abbrev pub octets_in_table : Fields → List Field → ℕ
octets_in_table f table = sum_by (octets_in_field f) table

-- ---- what is written of what is told

-- nothing is written yet behind a header
abbrev pub unwritten : Order → Writing
unwritten order = record { order = order; start = 12; octets = [] }

-- the values of its fields
abbrev pub values_told : Version → Told → List Value
values_told version t = flat_map (field_values (fields_told t)) (layout version t.kind)

-- what refuses them first
abbrev pub refusal_told : Version → Told → Option FrameFault
refusal_told version t = fields_refusal (fields_told t) 12 (layout version t.kind)

-- how many octets and members its lists have
abbrev pub octets_told : Version → Told → ℕ
octets_told version t = octets_in_table (fields_told t) (layout version t.kind) + length t.behind.now
