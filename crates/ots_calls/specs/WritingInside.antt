-- A request step by step, and the values of which a body is written.
use Rattle.std.specs.Prelude.{◌≡◌, ◌<◌, ◌^◌, ℕ, true, false, not, List, [], ◌∷◌, length, Option, Some, None, Result, Ok, if◌then◌else◌}
use Rattle.cdr_values.specs.Reading.{◌>>=◌}
use Rattle.giop_frames.specs.declared.message.Request.{Request}
use Rattle.ior_refs.specs.Key.{is_kind}
use Rattle.ots_calls.specs.Call.{operation_of}
use Rattle.ots_calls.specs.Table.{serves}
use Rattle.ots_calls.specs.Writing.{body_of, contexts_of, lacks_object, request_with}
use Rattle.ots_calls.specs.declared.call.Called.{Called}
use Rattle.ots_calls.specs.declared.fault.CallFault.{CallFault}
use Rattle.ots_calls.specs.declared.fault.CallFault.TheVariants.{BadKey, BadOperation, BadParam}
use Rattle.cdr_values.specs.Value.{Value, Boolean, ULong, ULongLong, Text}
use Rattle.ots_calls.specs.declared.body.Piece.{Piece}
use Rattle.ots_calls.specs.declared.body.Piece.TheVariants as pieces

-- why no request is written, whatever its body and its contexts
abbrev pub refusal : Called → Option CallFault
refusal c =
    if not (is_kind c.key.kind) then Some BadKey else
    if not (serves c.key.kind (operation_of c.call)) then Some BadOperation else
    if lacks_object c.call then Some BadParam else None

-- there is no such reason
pub record IsAllowed (c : Called) : Type 0 where
  pub kind : is_kind c.key.kind ≡ true
  pub served : serves c.key.kind (operation_of c.call) ≡ true
  pub object : lacks_object c.call ≡ false

-- the request of a call that is allowed
abbrev pub written_request : ℕ → Called → Result Request CallFault
written_request id c = contexts_of c >>= λ contexts. body_of c.call >>= λ body. Ok (request_with id c contexts body)

-- a value of CDR
abbrev pub value_of : Piece → Value
value_of (pieces.Flag flag) = Boolean flag
value_of (pieces.Number number) = ULong number
value_of (pieces.Long number) = ULongLong number
value_of (pieces.Text text) = Text text.now

abbrev pub values_of : List Piece → List Value
values_of [] = []
values_of (piece ∷ pieces) = value_of piece ∷ values_of pieces

-- a value that its type can have, with no text of 2^31 octets or more
abbrev pub IsPiece : Piece → Type 0
IsPiece (pieces.Flag flag) = Unit {0}
IsPiece (pieces.Number number) = number < 2 ^ 32
IsPiece (pieces.Long number) = number < 2 ^ 64
IsPiece (pieces.Text text) = length text.now < 2 ^ 31

abbrev pub ArePieces : List Piece → Type 0
ArePieces [] = Unit {0}
ArePieces (piece ∷ pieces) = IsPiece piece × ArePieces pieces
