-- The lines that a world tells (our profile). Those that agreement may speak of are the lines of `ots_model`; the others are here.
use Rattle.std.specs.Prelude.{ℕ, Bool, true, false, List, [], ◌∷◌, codes, Option, Some, None}
use Rattle.std.specs.List.{filter_map, flat_map}
use Rattle.hex.specs.Hex.{encode_lower}
use Rattle.ots_model.specs.Line.{parts}
use Rattle.ots_model.specs.Piece.{Part, Fixed, Named, Number, line_of}
use Rattle.ots_model.specs.Words.{vote_word}
use Rattle.ots_model.specs.declared.line.Line.{Line}
use Rattle.ots_model.specs.declared.line.Line.TheVariants as lines
use Rattle.ots_model.specs.declared.service.Status.{Status}
use Rattle.ots_model.specs.declared.service.Status.TheVariants as status
use Rattle.ots_model.specs.declared.tree.Word.{Word}
use Rattle.ots_model.specs.declared.tree.Word.TheVariants as words
use Rattle.coordinator.specs.declared.event.Act.{Act}
use Rattle.coordinator.specs.declared.event.Act.TheVariants as acts
use Rattle.coordinator.specs.declared.said.Said.{Said}
use Rattle.coordinator.specs.declared.said.Said.TheVariants as said

pub data Told : Type 0 where
  -- a line of ots_model
  Known : (line : Line) → Told
  -- a node or an end goes down
  Down : (server : List ℕ) → Told
  -- a resource was registered that is told of the end of a subtransaction alone
  Aware : (resource transaction end : List ℕ) → Told
  -- a client calls an operation of a transaction, in this message; and is answered
  Called : (message : ℕ) (operation transaction : List ℕ) → Told
  Answered : (message : ℕ) (answer : Said) → Told
  -- a word goes out to a registration that is none of the two phases
  Sent : (message : ℕ) (operation registration : List ℕ) → Told
  -- the reply to a request goes out
  Back : (message request : ℕ) (answer : Said) → Told
  -- a message has come to a receiver that is down
  Dropped : (message : ℕ) → Told
  -- a transaction is rolled back, for such a reason; or for one that speaks of a synchronization
  RolledBack : (transaction reason : List ℕ) → Told
  RolledBackBy : (transaction reason synchronization : List ℕ) → Told
  -- a transaction can only be rolled back
  Marked : (transaction : List ℕ) → Told
  -- nobody knows whether its decision record stands
  Doubted : (transaction : List ℕ) → Told
  -- a line with this first word was refused by a node or an end
  Refused : (word : List ℕ) (answer : Said) → Told
  -- the octets of a journal
  Journal : (server octets : List ℕ) → Told

-- ---- the words of a line

-- a status, by its name in module CosTransactions without the word Status
abbrev pub status_word : Status → List ℕ
status_word status.Active = codes "Active"
status_word status.MarkedRollback = codes "MarkedRollback"
status_word status.Prepared = codes "Prepared"
status_word status.Committed = codes "Committed"
status_word status.RolledBack = codes "RolledBack"
status_word status.Unknown = codes "Unknown"
status_word status.NoTransaction = codes "NoTransaction"
status_word status.Preparing = codes "Preparing"
status_word status.Committing = codes "Committing"
status_word status.RollingBack = codes "RollingBack"

abbrev pub flag_word : Bool → List ℕ
flag_word true = codes "true"
flag_word false = codes "false"

-- an answer: what is given, or the exception by its bare name. Later is no answer, and no line tells it.
abbrev pub answer_part : Said → Part
answer_part said.Plain = Fixed (codes "ok")
answer_part (said.Flag b) = Fixed (flag_word b)
answer_part (said.State s) = Fixed (status_word s)
answer_part (said.Number n) = Number n
answer_part (said.Name name) = Fixed name
answer_part (said.Made number) = Fixed (codes "ok")
answer_part (said.Voted vote) = Fixed (vote_word vote)
answer_part said.Later = Fixed (codes "later")
answer_part said.TransactionRolledBack = Fixed (codes "TRANSACTION_ROLLEDBACK")
answer_part said.HeuristicMixed = Fixed (codes "HeuristicMixed")
answer_part said.HeuristicHazard = Fixed (codes "HeuristicHazard")
answer_part said.HeuristicRollback = Fixed (codes "HeuristicRollback")
answer_part said.HeuristicCommit = Fixed (codes "HeuristicCommit")
answer_part said.CommFailure = Fixed (codes "COMM_FAILURE")
answer_part said.PersistStore = Fixed (codes "PERSIST_STORE")
answer_part said.NoMemory = Fixed (codes "NO_MEMORY")
answer_part said.InvalidTransaction = Fixed (codes "INVALID_TRANSACTION")
answer_part said.Inactive = Fixed (codes "Inactive")
answer_part said.NotPrepared = Fixed (codes "NotPrepared")
answer_part said.Transient = Fixed (codes "TRANSIENT")
answer_part said.Unavailable = Fixed (codes "Unavailable")
answer_part said.NotSubtransaction = Fixed (codes "NotSubtransaction")
answer_part said.SynchronizationUnavailable = Fixed (codes "SynchronizationUnavailable")
answer_part said.SubtransactionsUnavailable = Fixed (codes "SubtransactionsUnavailable")
answer_part said.NoResources = Fixed (codes "NO_RESOURCES")
answer_part said.ObjectNotExist = Fixed (codes "OBJECT_NOT_EXIST")
answer_part said.NoImplement = Fixed (codes "NO_IMPLEMENT")

-- the words of a line
unfoldable pub words_of : Told → List Part
words_of (Known line) = parts line
words_of (Down server) = Fixed (codes "down") ∷ Named server ∷ []
words_of (Aware resource transaction end) = Fixed (codes "awr") ∷ Named resource ∷ Named transaction ∷ Named end ∷ []
words_of (Called message operation transaction) = Fixed (codes "call") ∷ Number message ∷ Fixed operation ∷ Named transaction ∷ []
words_of (Answered message answer) = Fixed (codes "ans") ∷ Number message ∷ answer_part answer ∷ []
words_of (Sent message operation registration) = Fixed (codes "send") ∷ Number message ∷ Fixed operation ∷ Named registration ∷ []
words_of (Back message request answer) = Fixed (codes "back") ∷ Number message ∷ Number request ∷ answer_part answer ∷ []
words_of (Dropped message) = Fixed (codes "drop") ∷ Number message ∷ []
words_of (RolledBack transaction reason) =
    Fixed (codes "decide") ∷ Named transaction ∷ Fixed (codes "rollback") ∷ Fixed reason ∷ []
words_of (RolledBackBy transaction reason synchronization) =
    Fixed (codes "decide") ∷ Named transaction ∷ Fixed (codes "rollback") ∷ Fixed reason ∷ Named synchronization ∷ []
words_of (Marked transaction) = Fixed (codes "marked") ∷ Named transaction ∷ []
words_of (Doubted transaction) = Fixed (codes "doubt") ∷ Named transaction ∷ []
words_of (Refused word answer) = Fixed (codes "no") ∷ Fixed word ∷ answer_part answer ∷ []
words_of (Journal server octets) = Fixed (codes "journal") ∷ Named server ∷ Fixed (encode_lower octets) ∷ []

-- the octets of a line, and of some lines
unfoldable pub spelled : Told → List ℕ
spelled line = line_of (words_of line)

abbrev pub text : List Told → List ℕ
text some = flat_map spelled some

-- the lines of ots_model among these
abbrev pub known_in : Told → Option Line
known_in (Known line) = Some line
known_in _ = None

abbrev pub known : List Told → List Line
known some = filter_map known_in some

-- ---- operations

-- what a client calls, by the operation's name in the standard; what no client calls has none
abbrev pub operation_of : Act → Option (List ℕ)
operation_of acts.GetTerminator = Some (codes "get_terminator")
operation_of acts.GetCoordinator = Some (codes "get_coordinator")
operation_of (acts.Commit asked) = Some (codes "commit")
operation_of acts.Rollback = Some (codes "rollback")
operation_of acts.GetStatus = Some (codes "get_status")
operation_of acts.GetParentStatus = Some (codes "get_parent_status")
operation_of acts.GetTopLevelStatus = Some (codes "get_top_level_status")
operation_of (acts.IsSameTransaction other) = Some (codes "is_same_transaction")
operation_of (acts.IsRelatedTransaction other) = Some (codes "is_related_transaction")
operation_of (acts.IsAncestorTransaction other) = Some (codes "is_ancestor_transaction")
operation_of (acts.IsDescendantTransaction other) = Some (codes "is_descendant_transaction")
operation_of acts.IsTopLevelTransaction = Some (codes "is_top_level_transaction")
operation_of acts.HashTransaction = Some (codes "hash_transaction")
operation_of acts.HashTopLevelTran = Some (codes "hash_top_level_tran")
operation_of (acts.RegisterResource resource aware) = Some (codes "register_resource")
operation_of (acts.RegisterSynchronization synchronization) = Some (codes "register_synchronization")
operation_of (acts.RegisterSubtranAware resource) = Some (codes "register_subtran_aware")
operation_of acts.RollbackOnly = Some (codes "rollback_only")
operation_of acts.GetTransactionName = Some (codes "get_transaction_name")
operation_of acts.CreateSubtransaction = Some (codes "create_subtransaction")
operation_of acts.GetTxcontext = Some (codes "get_txcontext")
operation_of _ = None

-- a word goes out to a registration
abbrev pub sent : ℕ → Word → List ℕ → Told
sent message (words.Phase word) name = Known (lines.Send message word name)
sent message words.Forget name = Sent message (codes "forget") name
sent message words.BeforeCompletion name = Sent message (codes "before_completion") name
sent message (words.AfterCompletion s) name = Sent message (codes "after_completion") name
sent message (words.CommitSub above) name = Sent message (codes "commit_subtransaction") name
sent message words.RollbackSub name = Sent message (codes "rollback_subtransaction") name
sent message words.ReplayCompletion name = Sent message (codes "replay_completion") name
sent message words.RegisterResource name = Sent message (codes "register_resource") name
