-- Each exception is named by its repository id, and only by that.
use Rattle.std.proofs.Common.{◌≡◌, ℕ, List, Some, refl}
use Rattle.std.specs.Str.{bytes_eq}
use Rattle.std.proofs.lemmas.Slice.Eq.{bytes_eq-Decides}
use Rattle.ots_calls.specs.declared.exception.UserException.{UserException}
use Rattle.ots_calls.specs.declared.exception.UserException.TheVariants as users
use Rattle.ots_calls.specs.declared.system.SystemException.{SystemException}
use Rattle.ots_calls.specs.declared.system.SystemException.TheVariants as systems
use Rattle.ots_calls.specs.Exception.{system_exceptions, system_id, system_named, user_exceptions, user_id, user_named}
use Rattle.ots_calls.proofs.Steps.{found}

pub user_found : (id : List ℕ) (e : UserException) → user_named id ≡ Some e → id ≡ user_id e
unfolding user_named
user_found id e h = (bytes_eq-Decides id (user_id e)).0 (found (λ (one : UserException). bytes_eq id (user_id one)) user_exceptions e h)

pub user_only : (e : UserException) → user_named (user_id e) ≡ Some e
unfolding user_named
user_only users.HeuristicRollback = refl
user_only users.HeuristicCommit = refl
user_only users.HeuristicMixed = refl
user_only users.HeuristicHazard = refl
user_only users.Inactive = refl
user_only users.NotPrepared = refl
user_only users.NotSubtransaction = refl
user_only users.SubtransactionsUnavailable = refl
user_only users.SynchronizationUnavailable = refl
user_only users.Unavailable = refl

pub system_found : (id : List ℕ) (e : SystemException) → system_named id ≡ Some e → id ≡ system_id e
unfolding system_named
system_found id e h = (bytes_eq-Decides id (system_id e)).0 (found (λ (one : SystemException). bytes_eq id (system_id one)) system_exceptions e h)

pub system_only : (e : SystemException) → system_named (system_id e) ≡ Some e
unfolding system_named
system_only systems.Unknown = refl
system_only systems.BadParam = refl
system_only systems.NoMemory = refl
system_only systems.ImpLimit = refl
system_only systems.CommFailure = refl
system_only systems.InvObjref = refl
system_only systems.NoPermission = refl
system_only systems.Internal = refl
system_only systems.Marshal = refl
system_only systems.Initialize = refl
system_only systems.NoImplement = refl
system_only systems.BadTypecode = refl
system_only systems.BadOperation = refl
system_only systems.NoResources = refl
system_only systems.NoResponse = refl
system_only systems.PersistStore = refl
system_only systems.BadInvOrder = refl
system_only systems.Transient = refl
system_only systems.FreeMem = refl
system_only systems.InvIdent = refl
system_only systems.InvFlag = refl
system_only systems.IntfRepos = refl
system_only systems.BadContext = refl
system_only systems.ObjAdapter = refl
system_only systems.DataConversion = refl
system_only systems.ObjectNotExist = refl
system_only systems.TransactionRequired = refl
system_only systems.TransactionRolledBack = refl
system_only systems.InvalidTransaction = refl
system_only systems.InvPolicy = refl
system_only systems.CodesetIncompatible = refl
system_only systems.Rebind = refl
system_only systems.Timeout = refl
system_only systems.TransactionUnavailable = refl
system_only systems.TransactionMode = refl
system_only systems.BadQos = refl
system_only systems.InvalidActivity = refl
system_only systems.ActivityCompleted = refl
system_only systems.ActivityRequired = refl
