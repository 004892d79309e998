-- A word as it goes out, and what is heard of it (our profile).
use Rattle.std.specs.Prelude.{◌≡◌, ◌≢◌, ◌≤◌, ◌⊎◌, ℕ, true, false, List, [], ◌∷◌, length, Option, None, Some, Ok, Err}
use Rattle.cdr_values.specs.Again.{standing}
use Rattle.cdr_values.specs.declared.order.Order.TheVariants.{Big}
use Rattle.giop_frames.specs.Encode.{spelling}
use Rattle.giop_frames.specs.declared.fault.FrameFault.{FrameFault}
use Rattle.giop_frames.specs.declared.fault.FrameFault.TheVariants.{Memory, Short}
use Rattle.giop_frames.specs.declared.layout.Version.TheVariants.{V1_2}
use Rattle.giop_frames.specs.declared.message.Message.{Message}
use Rattle.giop_frames.specs.declared.message.Message.TheVariants as messages
use Rattle.giop_frames.specs.declared.message.Reply.{Reply}
use Rattle.giop_frames.specs.declared.message.Request.{Request}
use Rattle.giop_frames.specs.declared.message.Target.TheVariants.{Key}
use Rattle.giop_streams.specs.Held.{Held, Holds}
use Rattle.giop_streams.specs.Stream.{IsRefused, part_at}
use Rattle.giop_streams.specs.declared.framed.Framed.{Framed}
use Rattle.giop_frames.specs.Header.{profile_versions}
use Rattle.ior_refs.specs.Iiop.{iiop_in}
use Rattle.ior_refs.specs.Reading.{short_reference_at, whole}
use Rattle.ior_refs.specs.Reference.{Reference}
use Rattle.ior_refs.specs.declared.key.ObjectKey.{ObjectKey}
use Rattle.ior_refs.specs.declared.profile.Iiop.{Iiop}
use Rattle.ots_calls.specs.Heard.{heard_in_reply}
use Rattle.ots_calls.specs.Writing.{request_of}
use Rattle.ots_calls.specs.declared.call.Call.{Call}
use Rattle.ots_calls.specs.declared.call.Call.TheVariants as calls
use Rattle.ots_calls.specs.declared.call.Called.{Called}
use Rattle.ots_calls.specs.declared.operation.Bare.{Bare}
use Rattle.ots_calls.specs.declared.operation.Bare.TheVariants as bares
use Rattle.ots_calls.specs.declared.operation.Handing.TheVariants as handings
use Rattle.ots_model.specs.declared.completion.Word.{Word as Phase}
use Rattle.ots_model.specs.declared.completion.Word.TheVariants as phases
use Rattle.ots_model.specs.declared.completion.Heard.TheVariants as phase_hears
use Rattle.ots_model.specs.declared.service.Endpoint.{Endpoint}
use Rattle.ots_model.specs.declared.tree.Heard.{Heard}
use Rattle.ots_model.specs.declared.tree.Heard.TheVariants as hears
use Rattle.ots_model.specs.declared.tree.Outward.{Outward}
use Rattle.ots_model.specs.declared.tree.Parent.TheVariants.{Branch}
use Rattle.ots_model.specs.declared.tree.Word.{Word}
use Rattle.ots_model.specs.declared.tree.Word.TheVariants as words
use Rattle.ots_outside.specs.Links.{more}
use Rattle.ots_outside.specs.Source.{HasRisen}
use Rattle.ots_outside.specs.declared.link.Exchange.{Exchange}
use Rattle.ots_outside.specs.declared.link.LinkRefusal.TheVariants as refusals
use Rattle.ots_outside.specs.declared.link.Outcome.{Outcome}
use Rattle.ots_outside.specs.declared.link.Outcome.TheVariants.{Replied, Refused}
use Rattle.ots_sessions.specs.References.{coordinator_key, reference_to}
use Rattle.ots_sessions.specs.Short.{is_short, is_short_list}

-- ---- the call of a word

-- who sends a word: where its service stands, the number of that, and the letter of the keys of its resources
pub record Home : Type 0 where
  pub at : Endpoint
  pub service : ℕ
  pub resource_kind : ℕ

unfoldable pub home : Endpoint → ℕ → ℕ → Home
home at service resource_kind = record { at = at; service = service; resource_kind = resource_kind }

-- the operation of a word of the two phases
abbrev pub bare_for : Phase → Bare
bare_for phases.Prepare = bares.Prepare
bare_for phases.Commit = bares.Commit
bare_for phases.CommitOnePhase = bares.CommitOnePhase
bare_for phases.Rollback = bares.Rollback

-- the key of the resource that sends a word to its superior
abbrev pub resource_key_of : ℕ → ℕ → Outward → ObjectKey
resource_key_of service kind word = record (coordinator_key service word.number 0) { kind = kind }

-- the call of a word of this service (CosTransactions: Resource, Synchronization, SubtransactionAwareResource)
abbrev pub call_for : Home → Outward → Word → Call
call_for from word (words.Phase phase) = calls.Bare (bare_for phase)
call_for from word words.Forget = calls.Bare bares.Forget
call_for from word words.BeforeCompletion = calls.Bare bares.BeforeCompletion
call_for from word (words.AfterCompletion status) = calls.AfterCompletion status
call_for from word (words.CommitSub (Branch branch)) =
    calls.Handing handings.CommitSubtransaction (reference_to from.at (coordinator_key from.service word.number branch))
call_for from word words.RollbackSub = calls.Bare bares.RollbackSubtransaction
call_for from word words.ReplayCompletion =
    calls.Handing handings.ReplayCompletion (reference_to from.at (resource_key_of from.service from.resource_kind word))
call_for from word words.RegisterResource =
    calls.Handing handings.RegisterResource (reference_to from.at (resource_key_of from.service from.resource_kind word))

-- the letter of the keys of objects that have the operation of a word
abbrev pub kind_for : Word → ℕ
kind_for (words.Phase phase) = 82
kind_for words.Forget = 82
kind_for words.BeforeCompletion = 89
kind_for (words.AfterCompletion status) = 89
kind_for (words.CommitSub parent) = 65
kind_for words.RollbackSub = 65
kind_for words.ReplayCompletion = 86
kind_for words.RegisterResource = 75

-- the call of a word, with a key of that kind for the key that stands in the reference. It has no contexts
abbrev pub called_for : Home → Outward → Called
called_for from word = record {
  key = record { kind = kind_for word.word; service = 0; life = 0; slot = 0; generation = 0; index = 0 };
  call = call_for from word word.word;
  retry = None;
  context = None;
}

-- ---- what is sent

-- the place and the key that these octets of a reference tell
pub record IsPlace (octets : List ℕ) (place : Iiop) : Type 0 where
  pub reference : Reference
  pub read : whole short_reference_at (standing Big 0 octets) ≡ Ok reference
  pub place_is : iiop_in reference ≡ Ok place

-- the request for a word to the object at a place, with the key as it stands there, and the serial of the word's number as request_id
pub record IsRequestFor (from : Home) (word : Outward) (place : Iiop) (request : Request) : Type 0 where
  pub place_is : IsPlace word.to place
  pub key_fits : length place.key ≤ 256
  pub written : Request
  pub written_is : request_of word.number.serial (called_for from word) ≡ Ok written
  pub request_is : request ≡ record written { target = Key place.key }
  pub short : is_short request ≡ true

-- ---- what is heard

-- a word is heard as lost only where the link has failed
abbrev pub IsLostBy : Heard → ℕ → ℕ → Type 0
IsLostBy heard before after = heard ≡ hears.Phase phase_hears.Lost → HasRisen before after

-- the first message of these octets is this one
pub record ComesFirst (octets : List ℕ) (message : Message) : Type 0 where
  pub framed : Framed
  pub held : Held
  pub first : Holds profile_versions octets (framed ∷ []) held
  pub message_is : framed.message ≡ message

-- and it is this reply to the request with this request_id
pub record IsReplied (id : ℕ) (octets : List ℕ) (reply : Reply) : Type 0 where
  pub first : ComesFirst octets (messages.Reply reply)
  pub number : reply.id ≡ id
  pub short : is_short_list reply.body ≡ true

-- or it isn't: another message comes first
pub record IsAnother (id : ℕ) (octets : List ℕ) : Type 0 where
  pub message : Message
  pub first : ComesFirst octets message
  pub another : (reply : Reply) → message ≡ messages.Reply reply → reply.id ≡ id → is_short_list reply.body ≡ false

-- or none has come whole
pub record IsHalf (octets : List ℕ) : Type 0 where
  pub held : Held
  pub none : Holds profile_versions octets [] held
  pub partial : part_at held.versions held.rest ≡ Err Short

-- or what comes first can't be read
pub record IsGarbled (octets : List ℕ) : Type 0 where
  pub place : ℕ
  pub fault : FrameFault
  pub cause : fault ≢ Memory
  pub refused : IsRefused profile_versions [] place fault octets

-- what the caller of a call hears in the octets that were answered to the request with this request_id
abbrev pub IsHeardIn : ℕ → Call → List ℕ → Heard → Type 0
IsHeardIn id call octets heard =
    ((reply : Reply) × IsReplied id octets reply × (heard ≡ heard_in_reply call reply))
    ⊎ ((heard ≡ hears.Phase phase_hears.Other) × (IsAnother id octets ⊎ (IsHalf octets ⊎ IsGarbled octets)))

-- what is heard where an exchange came to this; or memory was wanting
abbrev pub IsHeard : ℕ → Call → Outcome → Heard → Type 0
IsHeard id call (Replied octets) heard = (heard ≡ hears.Phase phase_hears.Starved) ⊎ IsHeardIn id call octets heard
IsHeard id call (Refused refusals.Failed) heard = heard ≡ hears.Phase phase_hears.Lost
IsHeard id call (Refused refusals.Memory) heard = heard ≡ hears.Phase phase_hears.Starved

-- ---- a word as an exchange

-- a word went out, by the one spelling of its request
pub record GoesOut (from : Home) (word : Outward) (heard : Heard) (done : List Exchange) (after : Option (List Exchange)) : Type 0 where
  pub place : Iiop
  pub request : Request
  pub request_is : IsRequestFor from word place request
  pub outcome : Outcome
  pub exchanged : after ≡ Some (more done (record { host = place.host; port = place.port })
      (spelling V1_2 (messages.Request request)) outcome)
  pub heard_is : IsHeard word.number.serial (call_for from word word.word) outcome heard

-- why it didn't: memory was wanting, or there is no request for it
abbrev pub IsUnsent : Home → Outward → Heard → Type 0
IsUnsent from word heard =
    (heard ≡ hears.Phase phase_hears.Starved)
    ⊎ ((heard ≡ hears.Phase phase_hears.Other) × ((place : Iiop) (request : Request) → ¬ IsRequestFor from word place request))

pub record StaysIn (from : Home) (word : Outward) (heard : Heard) (done : List Exchange) (after : Option (List Exchange)) : Type 0 where
  pub unsaid : after ≡ Some done
  pub unsent : IsUnsent from word heard

-- a word is one exchange, or none
abbrev pub IsSent : Home → Outward → Heard → List Exchange → Option (List Exchange) → Type 0
IsSent from word heard done after = GoesOut from word heard done after ⊎ StaysIn from word heard done after
