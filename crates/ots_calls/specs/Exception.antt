-- The repository ids of exceptions (Transaction Service 1.4, module CosTransactions; CORBA, Standard System Exceptions).
use Rattle.std.specs.Prelude.{ℕ, List, [], ◌∷◌, Option, find, codes}
use Rattle.std.specs.Str.{bytes_eq}
use Rattle.ots_calls.specs.declared.exception.UserException.{UserException}
use Rattle.ots_calls.specs.declared.exception.UserException.TheVariants as users
use Rattle.ots_calls.specs.declared.system.SystemException.{SystemException}
use Rattle.ots_calls.specs.declared.system.SystemException.TheVariants as systems

-- that of a user exception
abbrev pub user_id : UserException → List ℕ
user_id users.HeuristicRollback = codes "IDL:omg.org/CosTransactions/HeuristicRollback:1.0"
user_id users.HeuristicCommit = codes "IDL:omg.org/CosTransactions/HeuristicCommit:1.0"
user_id users.HeuristicMixed = codes "IDL:omg.org/CosTransactions/HeuristicMixed:1.0"
user_id users.HeuristicHazard = codes "IDL:omg.org/CosTransactions/HeuristicHazard:1.0"
user_id users.Inactive = codes "IDL:omg.org/CosTransactions/Inactive:1.0"
user_id users.NotPrepared = codes "IDL:omg.org/CosTransactions/NotPrepared:1.0"
user_id users.NotSubtransaction = codes "IDL:omg.org/CosTransactions/NotSubtransaction:1.0"
user_id users.SubtransactionsUnavailable = codes "IDL:omg.org/CosTransactions/SubtransactionsUnavailable:1.0"
user_id users.SynchronizationUnavailable = codes "IDL:omg.org/CosTransactions/SynchronizationUnavailable:1.0"
user_id users.Unavailable = codes "IDL:omg.org/CosTransactions/Unavailable:1.0"

abbrev pub user_exceptions : List UserException
user_exceptions =
    users.HeuristicRollback ∷ users.HeuristicCommit ∷ users.HeuristicMixed ∷ users.HeuristicHazard
    ∷ users.Inactive ∷ users.NotPrepared ∷ users.NotSubtransaction ∷ users.SubtransactionsUnavailable
    ∷ users.SynchronizationUnavailable ∷ users.Unavailable ∷ []

-- the user exception of an id
unfoldable pub user_named : List ℕ → Option UserException
user_named id = find (λ exception. bytes_eq id (user_id exception)) user_exceptions

-- that of a system exception
abbrev pub system_id : SystemException → List ℕ
system_id systems.Unknown = codes "IDL:omg.org/CORBA/UNKNOWN:1.0"
system_id systems.BadParam = codes "IDL:omg.org/CORBA/BAD_PARAM:1.0"
system_id systems.NoMemory = codes "IDL:omg.org/CORBA/NO_MEMORY:1.0"
system_id systems.ImpLimit = codes "IDL:omg.org/CORBA/IMP_LIMIT:1.0"
system_id systems.CommFailure = codes "IDL:omg.org/CORBA/COMM_FAILURE:1.0"
system_id systems.InvObjref = codes "IDL:omg.org/CORBA/INV_OBJREF:1.0"
system_id systems.NoPermission = codes "IDL:omg.org/CORBA/NO_PERMISSION:1.0"
system_id systems.Internal = codes "IDL:omg.org/CORBA/INTERNAL:1.0"
system_id systems.Marshal = codes "IDL:omg.org/CORBA/MARSHAL:1.0"
system_id systems.Initialize = codes "IDL:omg.org/CORBA/INITIALIZE:1.0"
system_id systems.NoImplement = codes "IDL:omg.org/CORBA/NO_IMPLEMENT:1.0"
system_id systems.BadTypecode = codes "IDL:omg.org/CORBA/BAD_TYPECODE:1.0"
system_id systems.BadOperation = codes "IDL:omg.org/CORBA/BAD_OPERATION:1.0"
system_id systems.NoResources = codes "IDL:omg.org/CORBA/NO_RESOURCES:1.0"
system_id systems.NoResponse = codes "IDL:omg.org/CORBA/NO_RESPONSE:1.0"
system_id systems.PersistStore = codes "IDL:omg.org/CORBA/PERSIST_STORE:1.0"
system_id systems.BadInvOrder = codes "IDL:omg.org/CORBA/BAD_INV_ORDER:1.0"
system_id systems.Transient = codes "IDL:omg.org/CORBA/TRANSIENT:1.0"
system_id systems.FreeMem = codes "IDL:omg.org/CORBA/FREE_MEM:1.0"
system_id systems.InvIdent = codes "IDL:omg.org/CORBA/INV_IDENT:1.0"
system_id systems.InvFlag = codes "IDL:omg.org/CORBA/INV_FLAG:1.0"
system_id systems.IntfRepos = codes "IDL:omg.org/CORBA/INTF_REPOS:1.0"
system_id systems.BadContext = codes "IDL:omg.org/CORBA/BAD_CONTEXT:1.0"
system_id systems.ObjAdapter = codes "IDL:omg.org/CORBA/OBJ_ADAPTER:1.0"
system_id systems.DataConversion = codes "IDL:omg.org/CORBA/DATA_CONVERSION:1.0"
system_id systems.ObjectNotExist = codes "IDL:omg.org/CORBA/OBJECT_NOT_EXIST:1.0"
system_id systems.TransactionRequired = codes "IDL:omg.org/CORBA/TRANSACTION_REQUIRED:1.0"
system_id systems.TransactionRolledBack = codes "IDL:omg.org/CORBA/TRANSACTION_ROLLEDBACK:1.0"
system_id systems.InvalidTransaction = codes "IDL:omg.org/CORBA/INVALID_TRANSACTION:1.0"
system_id systems.InvPolicy = codes "IDL:omg.org/CORBA/INV_POLICY:1.0"
system_id systems.CodesetIncompatible = codes "IDL:omg.org/CORBA/CODESET_INCOMPATIBLE:1.0"
system_id systems.Rebind = codes "IDL:omg.org/CORBA/REBIND:1.0"
system_id systems.Timeout = codes "IDL:omg.org/CORBA/TIMEOUT:1.0"
system_id systems.TransactionUnavailable = codes "IDL:omg.org/CORBA/TRANSACTION_UNAVAILABLE:1.0"
system_id systems.TransactionMode = codes "IDL:omg.org/CORBA/TRANSACTION_MODE:1.0"
system_id systems.BadQos = codes "IDL:omg.org/CORBA/BAD_QOS:1.0"
system_id systems.InvalidActivity = codes "IDL:omg.org/CORBA/INVALID_ACTIVITY:1.0"
system_id systems.ActivityCompleted = codes "IDL:omg.org/CORBA/ACTIVITY_COMPLETED:1.0"
system_id systems.ActivityRequired = codes "IDL:omg.org/CORBA/ACTIVITY_REQUIRED:1.0"

abbrev pub system_exceptions : List SystemException
system_exceptions =
    systems.Unknown ∷ systems.BadParam ∷ systems.NoMemory ∷ systems.ImpLimit ∷ systems.CommFailure
    ∷ systems.InvObjref ∷ systems.NoPermission ∷ systems.Internal ∷ systems.Marshal ∷ systems.Initialize
    ∷ systems.NoImplement ∷ systems.BadTypecode ∷ systems.BadOperation ∷ systems.NoResources
    ∷ systems.NoResponse ∷ systems.PersistStore ∷ systems.BadInvOrder ∷ systems.Transient ∷ systems.FreeMem
    ∷ systems.InvIdent ∷ systems.InvFlag ∷ systems.IntfRepos ∷ systems.BadContext ∷ systems.ObjAdapter
    ∷ systems.DataConversion ∷ systems.ObjectNotExist ∷ systems.TransactionRequired
    ∷ systems.TransactionRolledBack ∷ systems.InvalidTransaction ∷ systems.InvPolicy
    ∷ systems.CodesetIncompatible ∷ systems.Rebind ∷ systems.Timeout ∷ systems.TransactionUnavailable
    ∷ systems.TransactionMode ∷ systems.BadQos ∷ systems.InvalidActivity ∷ systems.ActivityCompleted
    ∷ systems.ActivityRequired ∷ []

-- the system exception of an id
unfoldable pub system_named : List ℕ → Option SystemException
system_named id = find (λ exception. bytes_eq id (system_id exception)) system_exceptions
