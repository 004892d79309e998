-- What the table, calls and requests have to do with each other.
use Rattle.std.specs.Prelude.{◌≡◌, ◌↔◌, ℕ, List, Some, Ok, IsTrue}
use Rattle.giop_frames.specs.declared.message.Request.{Request}
use Rattle.ots_calls.specs.declared.operation.Operation.{Operation}
use Rattle.ots_calls.specs.Request.{IsCall, IsFor, called_with}
use Rattle.ots_calls.specs.declared.call.Called.{Called}
use Rattle.giop_frames.specs.declared.message.Reply.{Reply}
use Rattle.ots_calls.specs.Answer.{IsAnswer}
use Rattle.ots_calls.specs.Answering.{answer_with}
use Rattle.ots_calls.specs.declared.answer.Answer.{Answer}
use Rattle.ots_calls.specs.declared.call.Call.{Call}
use Rattle.ots_calls.specs.Table.{operation_named, serves, word_of}

-- a kind of keys and a name have an operation exactly where that is the operation's name, and objects of that kind have
-- it: so no two operations of one object have the same name
abbrev pub NamesTellOperations : Type 0
NamesTellOperations = (kind : ℕ) (word : List ℕ) (operation : Operation)
    → (operation_named kind word ≡ Some operation) ↔ (IsTrue (serves kind operation) × (word ≡ word_of operation))

-- a request for one of our keys is read as a call exactly where it is that call
abbrev pub RequestsAreReadExactly : Type 0
RequestsAreReadExactly = (c : Called) (r : Request) → IsFor c.key r.target
    → (called_with c.key r ≡ Ok c) ↔ IsCall c r

-- a request is one call at most
abbrev pub OneRequestOneCall : Type 0
OneRequestOneCall = (a b : Called) (r : Request) → IsCall a r → IsCall b r → a ≡ b

-- a reply is read as an answer to a call exactly where it is that answer
abbrev pub AnswersAreReadExactly : Type 0
AnswersAreReadExactly = (call : Call) (answer : Answer) (reply : Reply)
    → (answer_with call reply ≡ Ok answer) ↔ IsAnswer call answer reply
