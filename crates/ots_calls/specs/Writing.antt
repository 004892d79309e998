-- The request of a call, and why there is none (our profile). It is big endian, with padding 0, and a reply is wanted.
use Rattle.std.specs.Prelude.{◌≡◌, ℕ, ◌+◌, Bool, true, false, not, List, [], ◌∷◌, ◌++◌, length, Option, Some, None, Result, Ok, Err, if◌then◌else◌}
use Rattle.cdr_values.specs.declared.fault.CdrFault.{CdrFault}
use Rattle.cdr_values.specs.declared.order.Order.TheVariants.{Big}
use Rattle.cdr_values.specs.Encapsulation.{begun}
use Rattle.cdr_values.specs.Reading.{◌>>=◌}
use Rattle.cdr_values.specs.Tagged.{reference_values}
use Rattle.cdr_values.specs.Value.{Value, ULongLong}
use Rattle.cdr_values.specs.Values.{with_values}
use Rattle.cdr_values.specs.Writing.{Writing, refusal, with_value}
use Rattle.giop_frames.specs.Encode.{octets_in_contexts, refusal_of, size_refusal}
use Rattle.giop_frames.specs.declared.layout.Version.TheVariants.{V1_2}
use Rattle.giop_frames.specs.declared.message.Message.{Message}
use Rattle.giop_frames.specs.declared.message.Request.{Request}
use Rattle.giop_frames.specs.declared.message.ServiceContext.{ServiceContext}
use Rattle.giop_frames.specs.declared.message.Target.TheVariants.{Key}
use Rattle.ior_refs.specs.Key.{is_kind, octets_of_key}
use Rattle.ots_model.specs.declared.service.RetryKey.{RetryKey}
use Rattle.ots_context.specs.Limits.{transaction_service}
use Rattle.ots_context.specs.Writing.{kept_length, with_context, written}
use Rattle.ots_context.specs.declared.context.Context.{Context}
use Rattle.ots_calls.specs.Call.{arguments, operation_of}
use Rattle.ots_calls.specs.Fault.{fault_of, fault_of_context, told_as}
use Rattle.ots_calls.specs.Limits.{retry_context}
use Rattle.ots_calls.specs.Reading.{is_nil}
use Rattle.ots_calls.specs.Table.{serves, word_of}
use Rattle.ots_calls.specs.declared.call.Call.{Call}
use Rattle.ots_calls.specs.declared.call.Call.TheVariants as calls
use Rattle.ots_calls.specs.declared.call.Called.{Called}
use Rattle.ots_calls.specs.declared.fault.CallFault.{CallFault}
use Rattle.ots_calls.specs.declared.fault.CallFault.TheVariants.{BadKey, BadOperation, BadParam}

-- a writer of a body, which has written nothing
abbrev pub blank : Writing
blank = record { order = Big; start = 0; octets = [] }

-- what comes next, unless a value is refused
abbrev pub then_unless : {A : Type 0} → Option CdrFault → Result A CallFault → Result A CallFault
then_unless None next = next
then_unless (Some fault) next = Err (fault_of fault)

-- the octets of a writer, and of these values behind them, up to the first that is refused
abbrev pub octets_with : Writing → List Value → Result (List ℕ) CallFault
octets_with w [] = Ok w.octets
octets_with w (value ∷ values) = then_unless (refusal w value) (octets_with (with_value w value) values)

-- a call hands over a reference to no object
abbrev pub lacks_object : Call → Bool
lacks_object (calls.Handing handing reference) = is_nil reference
lacks_object call = false

-- the body of a call
abbrev pub body_of : Call → Result (List ℕ) CallFault
body_of (calls.Handing handing reference) = Ok (with_values blank (reference_values reference)).octets
body_of (calls.Recreate context) = told_as fault_of_context (with_context blank context)
body_of call = octets_with blank (arguments call)

-- a service context
abbrev pub service_context : ℕ → List ℕ → ServiceContext
service_context id octets = record { id = id; bytes = octets }

-- these service contexts, and that of the transaction, where there is one
abbrev pub with_transaction : Option Context → List ServiceContext → Result (List ServiceContext) CallFault
with_transaction None contexts = Ok contexts
with_transaction (Some context) contexts =
    told_as fault_of_context (written context)
    >>= λ octets. Ok (contexts ++ service_context transaction_service octets ∷ [])

-- how many octets and members service contexts have together
abbrev pub size_of_contexts : List ServiceContext → ℕ
size_of_contexts contexts = length contexts + octets_in_contexts contexts

-- the octets of a retry key
unfoldable pub retry_octets : RetryKey → List ℕ
retry_octets key = (with_values (begun Big) (ULongLong key.client ∷ ULongLong key.number ∷ [])).octets

-- these service contexts, and that of the retry key, where there is one
abbrev pub with_retry : Option RetryKey → List ServiceContext → List ServiceContext
with_retry None contexts = contexts
with_retry (Some key) contexts = contexts ++ service_context retry_context (retry_octets key) ∷ []

-- the service contexts of a call
unfoldable pub contexts_of : Called → Result (List ServiceContext) CallFault
contexts_of c = with_transaction c.context [] >>= λ contexts. Ok (with_retry c.retry contexts)

-- the request with these contexts and this body
abbrev pub request_with : ℕ → Called → List ServiceContext → List ℕ → Request
request_with id c contexts body = record {
  id = id;
  flags = 3;
  target = Key (octets_of_key c.key);
  operation = word_of (operation_of c.call);
  contexts = contexts;
  order = Big;
  body = body;
}

-- there are objects with keys of that kind, but they don't have the operation
abbrev pub LacksOperation : Called → Type 0
LacksOperation c = (is_kind c.key.kind ≡ true) × (serves c.key.kind (operation_of c.call) ≡ false)

-- its object has the operation, which is to take a reference to an object, and is handed one to none
abbrev pub LacksObject : Called → Type 0
LacksObject c =
    (is_kind c.key.kind ≡ true) × (serves c.key.kind (operation_of c.call) ≡ true) × (lacks_object c.call ≡ true)

-- the request of a call
unfoldable pub request_of : ℕ → Called → Result Request CallFault
request_of id c =
    if not (is_kind c.key.kind) then Err BadKey else
    if not (serves c.key.kind (operation_of c.call)) then Err BadOperation else
    if lacks_object c.call then Err BadParam else
    (contexts_of c >>= λ contexts. body_of c.call >>= λ body. Ok (request_with id c contexts body))

-- a message of GIOP 1.2, unless it has too many octets: nothing but its size refuses it
abbrev pub OnlySizeRefuses : Message → Type 0
OnlySizeRefuses m = refusal_of V1_2 m ≡ size_refusal V1_2 m

-- how many octets of no fixed limit a call hands over
abbrev pub handed_length : Call → ℕ
handed_length (calls.Recreate context) = kept_length context.tail
handed_length (calls.IsA id) = length id
handed_length call = 0

-- and its context
abbrev pub carried_length : Option Context → ℕ
carried_length (Some context) = kept_length context.tail
carried_length None = 0
