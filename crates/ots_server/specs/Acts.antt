-- What a call on an object of a transaction does to it (Transaction Service 1.4, module CosTransactions).
use Rattle.std.specs.Prelude.{◌≡◌, ℕ, Option, Some, None, Ok}
use Rattle.std.specs.Str.{bytes_eq}
use Rattle.ior_refs.specs.Iiop.{iiop_in}
use Rattle.ior_refs.specs.Key.{SpellsKey}
use Rattle.ior_refs.specs.Reference.{Reference, canonical_octets}
use Rattle.ior_refs.specs.declared.key.ObjectKey.{ObjectKey}
use Rattle.ior_refs.specs.declared.profile.Iiop.{Iiop}
use Rattle.ots_calls.specs.declared.call.Call.{Call}
use Rattle.ots_calls.specs.declared.call.Call.TheVariants as calls
use Rattle.ots_calls.specs.declared.operation.Bare.{Bare}
use Rattle.ots_calls.specs.declared.operation.Bare.TheVariants as bares
use Rattle.ots_calls.specs.declared.operation.Handing.{Handing}
use Rattle.ots_calls.specs.declared.operation.Handing.TheVariants as handings
use Rattle.ots_model.specs.declared.completion.Word.TheVariants as phases
use Rattle.ots_model.specs.declared.tree.Word.TheVariants as words
use Rattle.coordinator.specs.declared.event.Act.{Act}
use Rattle.coordinator.specs.declared.event.Act.TheVariants as acts
use Rattle.ots_sessions.specs.References.{aware_id}

-- the act of an operation that takes nothing; of some there is no object here
abbrev pub bare_act : Bare → Option Act
bare_act bares.GetTerminator = Some acts.GetTerminator
bare_act bares.GetCoordinator = Some acts.GetCoordinator
bare_act bares.RollbackTransaction = Some acts.Rollback
bare_act bares.GetStatus = Some acts.GetStatus
bare_act bares.GetParentStatus = Some acts.GetParentStatus
bare_act bares.GetTopLevelStatus = Some acts.GetTopLevelStatus
bare_act bares.IsTopLevelTransaction = Some acts.IsTopLevelTransaction
bare_act bares.HashTransaction = Some acts.HashTransaction
bare_act bares.HashTopLevelTran = Some acts.HashTopLevelTran
bare_act bares.RollbackOnly = Some acts.RollbackOnly
bare_act bares.GetTransactionName = Some acts.GetTransactionName
bare_act bares.CreateSubtransaction = Some acts.CreateSubtransaction
bare_act bares.GetTxcontext = Some acts.GetTxcontext
bare_act bares.Prepare = Some (acts.Superior (words.Phase phases.Prepare))
bare_act bares.Rollback = Some (acts.Superior (words.Phase phases.Rollback))
bare_act bares.Commit = Some (acts.Superior (words.Phase phases.Commit))
bare_act bares.CommitOnePhase = Some (acts.Superior (words.Phase phases.CommitOnePhase))
bare_act bares.Forget = Some (acts.Superior words.Forget)
bare_act bares.BeforeCompletion = None
bare_act bares.RollbackSubtransaction = None
bare_act bares.NonExistent = None

-- the key in a reference, where it is to an object of a service of this kind
abbrev pub IsKeyIn : Reference → Option ObjectKey → Type 0
IsKeyIn reference (Some key) = (place : Iiop) × (iiop_in reference ≡ Ok place) × SpellsKey place.key key
IsKeyIn reference None = (place : Iiop) → iiop_in reference ≡ Ok place → (key : ObjectKey) → ¬ SpellsKey place.key key

-- it is that of a relation of coordinators
abbrev pub IsRelation : (Option ObjectKey → Act) → Reference → Option Act → Type 0
IsRelation relation reference act = (key : Option ObjectKey) × IsKeyIn reference key × (act ≡ Some (relation key))

-- the act of an operation that takes a reference, on an object of this index. A reference is kept by its canonical octets; that a
-- resource learns of the end of its subtransaction is told by its type_id
abbrev pub IsHandingAct : ℕ → Handing → Reference → Option Act → Type 0
IsHandingAct index handings.IsSameTransaction reference act = IsRelation acts.IsSameTransaction reference act
IsHandingAct index handings.IsRelatedTransaction reference act = IsRelation acts.IsRelatedTransaction reference act
IsHandingAct index handings.IsAncestorTransaction reference act = IsRelation acts.IsAncestorTransaction reference act
IsHandingAct index handings.IsDescendantTransaction reference act = IsRelation acts.IsDescendantTransaction reference act
IsHandingAct index handings.RegisterResource reference act =
    act ≡ Some (acts.RegisterResource (canonical_octets reference) (bytes_eq reference.0 aware_id))
IsHandingAct index handings.RegisterSynchronization reference act =
    act ≡ Some (acts.RegisterSynchronization (canonical_octets reference))
IsHandingAct index handings.RegisterSubtranAware reference act =
    act ≡ Some (acts.RegisterSubtranAware (canonical_octets reference))
IsHandingAct index handings.ReplayCompletion reference act = act ≡ Some (acts.Replay index (canonical_octets reference))
IsHandingAct index handings.CommitSubtransaction reference act = act ≡ None

-- the act of a call on an object of this index
abbrev pub IsActOf : ℕ → Call → Option Act → Type 0
IsActOf index (calls.Bare bare) act = act ≡ bare_act bare
IsActOf index (calls.Handing handing reference) act = IsHandingAct index handing reference act
IsActOf index (calls.CommitTransaction asked) act = act ≡ Some (acts.Commit asked)
IsActOf index call act = act ≡ None
