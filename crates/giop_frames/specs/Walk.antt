-- Walking over the fields of a message whose octets are still coming: what it means that a walk goes on where it stood
-- (our profile).
use Rattle.std.specs.Prelude.{◌≡◌, ℕ, ◌+◌, ◌-◌, ◌*◌, ◌^◌, ◌<◌, ◌≤◌, List, [], ◌∷◌, ◌++◌, length, take, drop, map, Option, Some, None, Result, Ok, Err, IfErr, IfOk}
use Rattle.cdr_values.specs.declared.order.Order.{Order}
use Rattle.cdr_values.specs.declared.fault.CdrFault.{CdrFault}
use Rattle.cdr_values.specs.declared.fault.CdrFault.TheVariants as cdr
use Rattle.cdr_values.specs.Reading.{Reading, ◌>>=◌}
use Rattle.cdr_values.specs.Sequence.{each_at, sequence_at}
use Rattle.cdr_values.specs.Tagged.{reference_at, tagged_at}
use Rattle.giop_frames.specs.declared.fault.FrameFault.{FrameFault}
use Rattle.giop_frames.specs.declared.fault.FrameFault.TheVariants.{Body, Memory}
use Rattle.giop_frames.specs.declared.header.Header.{Header}
use Rattle.giop_frames.specs.declared.layout.Field.{Field}
use Rattle.giop_frames.specs.declared.layout.Field.TheVariants.{Id}
use Rattle.giop_frames.specs.declared.message.Message.{Message}
use Rattle.giop_frames.specs.declared.message.Target.{Target}
use Rattle.giop_frames.specs.declared.message.Target.TheVariants.{Key, Profile, Reference}
use Rattle.giop_frames.specs.declared.message.ServiceContext.{ServiceContext}
use Rattle.giop_frames.specs.declared.found.Span.{Span}
use Rattle.giop_frames.specs.declared.found.FoundTarget.{FoundTarget}
use Rattle.giop_frames.specs.declared.found.FoundTarget.TheVariants as targets
use Rattle.giop_frames.specs.declared.found.FoundContext.{FoundContext}
use Rattle.giop_frames.specs.declared.found.Found.{Found}
use Rattle.giop_frames.specs.declared.walk.Step.{Step}
use Rattle.giop_frames.specs.declared.walk.Step.TheVariants as steps
use Rattle.giop_frames.specs.declared.walk.Walk.{Walk}
use Rattle.giop_frames.specs.Fault.{fault_of, too_long}
use Rattle.giop_frames.specs.Layout.{Fields, message_with}
use Rattle.giop_frames.specs.Content.{field_at, fields_at, fields_in, telling_target, as_target, key_at, profile_at, indexed_at, context_at}
use Rattle.giop_frames.specs.Limits.{context_limit, profile_limit}

-- ---- what was found

-- these octets of a content
abbrev pub spanned : List ℕ → Span → List ℕ
spanned content span = take span.length (drop span.start content)

abbrev pub target_of : List ℕ → FoundTarget → Target
target_of content (targets.Key span) = Key (spanned content span)
target_of content targets.Profile = Profile
target_of content targets.Reference = Reference

abbrev pub context_of : List ℕ → FoundContext → ServiceContext
context_of content context = record { id = context.id; bytes = spanned content context.bytes }

abbrev pub contexts_of : List ℕ → Found → List ServiceContext
contexts_of content found = map (context_of content) (take found.count found.contexts)

-- what was found in a content tells this
abbrev pub told_by : List ℕ → Found → Fields
told_by content found = record {
  id = found.id;
  flags = found.flags;
  status = found.status;
  target = target_of content found.target;
  operation = spanned content found.operation;
  contexts = contexts_of content found;
}

-- the message whose fields were found in a content, and what it keeps behind them
abbrev pub message_found : Header → List ℕ → Found → List ℕ → Result Message FrameFault
message_found header content found tail = message_with header.order header.kind (told_by content found) tail

-- ---- inside a field

-- what contexts that were read tell, behind those that were found
abbrev pub telling_contexts :
    Fields → List ServiceContext → Result (List ServiceContext × Reading) FrameFault → Result (Fields × Reading) FrameFault
telling_contexts told front read = read >>= λ contexts. Ok (record told { contexts = front ++ contexts.0 }, contexts.1)

-- the rest of a field from here on, and what it tells
unfoldable pub step_at : Step → Fields → Reading → Result (Fields × Reading) FrameFault
step_at (steps.Front one) told r = field_at one told r
step_at steps.Key told r = telling_target told (key_at r)
step_at steps.Profile told r = telling_target told (profile_at r)
step_at steps.Index told r = telling_target told (indexed_at r)
step_at steps.TypeId told r = telling_target told (as_target Reference (reference_at profile_limit fault_of too_long r))
step_at steps.Count told r =
    telling_target told (as_target Reference (sequence_at profile_limit fault_of too_long (tagged_at fault_of) r))
step_at (steps.Profiles left) told r = telling_target told (as_target Reference (each_at (tagged_at fault_of) left r))
step_at (steps.Contexts left) told r = telling_contexts told told.contexts (each_at context_at left r)

-- the same where the field may be whole
abbrev pub rest_at : Option Step → Fields → Reading → Result (Fields × Reading) FrameFault
rest_at None told r = Ok (told, r)
rest_at (Some step) told r = step_at step told r

-- ---- a step

-- more octets follow
abbrev pub followed : Reading → List ℕ → Reading
followed r more = record r { rest = r.rest ++ more }

-- the second reader stands behind the first
pub record IsBehind (old new : Reading) : Type 0 where
  pub octets : List ℕ
  pub front : old.rest ≡ octets ++ new.rest
  pub place : new.place ≡ old.place + length octets
  pub order : new.order ≡ old.order

-- a reader of the content from an offset on
abbrev pub standing : Order → List ℕ → ℕ → Reading
standing order content place = record { order = order; place = place; rest = drop (place - 12) content }

-- the reader stands in this content
pub record StandsIn (content : List ℕ) (r : Reading) : Type 0 where
  pub behind_header : 12 ≤ r.place
  pub rest : r.rest ≡ drop (r.place - 12) content

-- there is room for the contexts that are still to come
abbrev pub HasRoom : Option Step → Found → Type 0
HasRoom (Some (steps.Contexts left)) found = left + found.count ≤ context_limit
HasRoom step found = Unit {0}

-- so many steps of a field are left at most
abbrev pub steps_left : Option Step → ℕ
steps_left None = 0
steps_left (Some (steps.Contexts left)) = 1 + left
steps_left (Some (steps.Profiles left)) = 1 + left
steps_left (Some steps.Count) = 2 ^ 32 + 1
steps_left (Some steps.TypeId) = 2 ^ 32 + 2
steps_left (Some steps.Index) = 2 ^ 32 + 3
steps_left (Some steps.Profile) = 1
steps_left (Some steps.Key) = 1
steps_left (Some (steps.Front one)) = 2 ^ 32 + 4

-- a reader went on over octets that are whole, and they are so whatever octets follow
pub record GoesOn (step : Step) (old : Found) (r : Reading) (later : Option Step) (new : Found) (s : Reading) : Type 0 where
  pub behind : IsBehind r s
  pub same :
      (more content : List ℕ) → StandsIn content (followed r more)
      → step_at step (told_by content old) (followed r more) ≡ rest_at later (told_by content new) (followed s more)
  pub room : HasRoom later new
  pub less : steps_left later < steps_left (Some step)

-- where this fault is want of octets, the value that wants them begins less than 8 octets behind this place
abbrev pub IsNear : ℕ → FrameFault → Type 0
IsNear place (Body at (cdr.Short stood)) = at < place + 8
IsNear place Memory = ⊥
IsNear place fault = Unit {0}

-- a call made this step, or answered its fault; octets that are wanting are those of a value that is near
abbrev pub MakesStep : Step → Found → Reading → Result (Option Step) FrameFault → Found → Reading → Type 0
MakesStep step old r (Ok later) new s = GoesOn step old r later new s
MakesStep step old r (Err fault) new s =
    ((told : Fields) → step_at step told r ≡ Err fault) × (new ≡ old) × IsNear r.place fault

-- a call found octets by this read, and the reader stands behind them
pub record FindsOctets (read : Reading → Result (List ℕ × Reading) CdrFault) (span : Span) (r s : Reading) : Type 0 where
  pub octets : List ℕ
  pub found : read r ≡ Ok (octets, s)
  pub length_is : span.length ≡ length octets
  pub few : span.length < 2 ^ 32
  pub stands : (more content : List ℕ) → StandsIn content (followed r more) → spanned content span ≡ octets

-- a call found octets by this read, or answered its fault
abbrev pub ReadsSpan : (Reading → Result (List ℕ × Reading) CdrFault) → Reading → Result Span CdrFault → Reading → Type 0
ReadsSpan read r (Ok span) s = FindsOctets read span r s
ReadsSpan read r (Err fault) s = read r ≡ Err fault

-- a call found octets with a tag, and does so whatever octets follow; the reader stands behind them
pub record FindsTagged (tag : ℕ) (span : Span) (r s : Reading) : Type 0 where
  pub octets : List ℕ
  pub behind : IsBehind r s
  pub same : (more : List ℕ) → tagged_at fault_of (followed r more) ≡ Ok ((tag, octets), followed s more)
  pub stands : (more content : List ℕ) → StandsIn content (followed r more) → spanned content span ≡ octets

-- a call found octets with a tag, or answered its fault
abbrev pub ReadsTagged : Reading → Result (ℕ × Span) FrameFault → Reading → Type 0
ReadsTagged r (Ok found) s = FindsTagged found.0 found.1 r s
ReadsTagged r (Err fault) s = (tagged_at fault_of r ≡ Err fault) × IsNear r.place fault

-- ---- a walk

-- what is left of the fields
abbrev pub left_at : Option Step → List Field → Fields → Reading → Result (Fields × Reading) FrameFault
left_at step fields told r = rest_at step told r >>= λ next. fields_at fields next.0 next.1

-- the fields of a message whose first part has this header, with this content
abbrev pub fields_by : Header → List ℕ → Result (Fields × Reading) FrameFault
fields_by header content = fields_in header.version header.order header.kind content

-- the fields in front of the place are whole, and they are so whatever octets follow the content
pub record IsWalked (header : Header) (content : List ℕ) (w : Walk) : Type 0 where
  pub behind_header : 12 ≤ w.place
  pub within : w.place ≤ 12 + length content
  pub room : HasRoom w.step w.found
  pub same :
      (more : List ℕ)
      → fields_by header (content ++ more)
      ≡ left_at w.step w.fields.now (told_by (content ++ more) w.found) (standing header.order (content ++ more) w.place)

-- the offset behind the request_id with which these fields begin, or at their front, where they begin with none
abbrev pub place_behind_id : List Field → ℕ
place_behind_id (Id ∷ others) = 16
place_behind_id table = 12

-- no field is left
pub record IsDone (w : Walk) : Type 0 where
  pub step : w.step ≡ None
  pub fields : w.fields.now ≡ []

-- the walk has gone as far as it can: where octets are wanting, it stands at the value that wants them, or less than 8
-- octets in front of it; where all fields stand, none is left
abbrev pub IsAsFar : Header → List ℕ → Walk → Type 0
IsAsFar header content w =
    IfErr (fields_by header content) (λ fault. IsNear w.place fault) × IfOk (fields_by header content) (λ found. IsDone w)

-- so many steps of a walk are left at most
abbrev pub walk_left : Option Step → List Field → ℕ
walk_left step fields = 2 ^ 33 * length fields + steps_left step

-- the step that comes next, where one is left, and a walk in front of it
pub record StandsBefore (old : Walk) (next : Option Step) (new : Walk) : Type 0 where
  pub step : new.step ≡ next
  pub ended : next ≡ None → new.fields.now ≡ []
  pub place : new.place ≡ old.place
  pub found : new.found ≡ old.found
  pub room : HasRoom old.step old.found → HasRoom new.step new.found
  pub less : walk_left new.step new.fields.now ≤ walk_left old.step old.fields.now
  pub same :
      (told : Fields) (r : Reading) → left_at old.step old.fields.now told r ≡ left_at new.step new.fields.now told r
