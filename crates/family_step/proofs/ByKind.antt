-- What a call does, by its kind.
use Rattle.std.proofs.Common.{◌≡◌, refl, ℕ, List, Bool, Option}
use Rattle.ots_model.specs.declared.completion.CallNumber.{CallNumber}
use Rattle.ots_model.specs.declared.completion.Stood.{Stood}
use Rattle.ots_model.specs.declared.tree.Heard.{Heard}
use Rattle.ots_model.specs.declared.tree.Word.{Word}
use Rattle.coordinator.specs.Family.{Family}
use Rattle.coordinator.specs.Step.{acts_on}
use Rattle.coordinator.specs.Table.{gets_terminator, says}
use Rattle.coordinator.specs.declared.event.Act.{Act}
use Rattle.coordinator.specs.declared.event.Act.TheVariants as acts
use Rattle.family_step.specs.Acting.{called, carried_out, told}

-- what the service itself brings, a status, an ask and a superior's word are no calls on a transaction
pub as_called : (act : Act) → (act ≡ acts.GetStatus → ⊥) → (act ≡ acts.GetParentStatus → ⊥) → ((g : ℕ) (to : List ℕ) → act ≡ acts.Replay g to → ⊥)
    → ((word : Word) → act ≡ acts.Superior word → ⊥) → ((n : CallNumber) (h : Heard) → act ≡ acts.Answer n h → ⊥) → (act ≡ acts.Tick → ⊥)
    → ((stands : Bool) → act ≡ acts.Reread stands → ⊥) → ((deadline : Option ℕ) → act ≡ acts.Opened deadline → ⊥)
    → (b now : ℕ) (stood : Option Stood) (f : Family) → acts_on act b now stood f ≡ called act b f
unfolding gets_terminator
as_called acts.GetTerminator p q r s t u v w b now stood f = refl
as_called acts.GetCoordinator p q r s t u v w b now stood f = refl
as_called (acts.Commit asked) p q r s t u v w b now stood f = refl
as_called acts.Rollback p q r s t u v w b now stood f = refl
as_called acts.GetStatus p q r s t u v w b now stood f = absurd (p refl)
as_called acts.GetParentStatus p q r s t u v w b now stood f = absurd (q refl)
as_called acts.GetTopLevelStatus p q r s t u v w b now stood f = refl
as_called (acts.IsSameTransaction other) p q r s t u v w b now stood f = refl
as_called (acts.IsRelatedTransaction other) p q r s t u v w b now stood f = refl
as_called (acts.IsAncestorTransaction other) p q r s t u v w b now stood f = refl
as_called (acts.IsDescendantTransaction other) p q r s t u v w b now stood f = refl
as_called acts.IsTopLevelTransaction p q r s t u v w b now stood f = refl
as_called acts.HashTransaction p q r s t u v w b now stood f = refl
as_called acts.HashTopLevelTran p q r s t u v w b now stood f = refl
as_called (acts.RegisterResource to aware) p q r s t u v w b now stood f = refl
as_called (acts.RegisterSynchronization to) p q r s t u v w b now stood f = refl
as_called (acts.RegisterSubtranAware to) p q r s t u v w b now stood f = refl
as_called acts.RollbackOnly p q r s t u v w b now stood f = refl
as_called acts.GetTransactionName p q r s t u v w b now stood f = refl
as_called acts.CreateSubtransaction p q r s t u v w b now stood f = refl
as_called acts.GetTxcontext p q r s t u v w b now stood f = refl
as_called (acts.Replay g to) p q r s t u v w b now stood f = absurd (r g to refl)
as_called (acts.Superior word) p q r s t u v w b now stood f = absurd (s word refl)
as_called (acts.Answer n h) p q r s t u v w b now stood f = absurd (t n h refl)
as_called acts.Tick p q r s t u v w b now stood f = absurd (u refl)
as_called (acts.Reread stands) p q r s t u v w b now stood f = absurd (v stands refl)
as_called (acts.Opened deadline) p q r s t u v w b now stood f = absurd (w deadline refl)

-- all calls but these are answered and change nothing
pub as_told : (act : Act) → ((asked : Bool) → act ≡ acts.Commit asked → ⊥) → (act ≡ acts.Rollback → ⊥) → (act ≡ acts.RollbackOnly → ⊥)
    → ((to : List ℕ) (aware : Bool) → act ≡ acts.RegisterResource to aware → ⊥) → ((to : List ℕ) → act ≡ acts.RegisterSynchronization to → ⊥)
    → ((to : List ℕ) → act ≡ acts.RegisterSubtranAware to → ⊥) → (act ≡ acts.CreateSubtransaction → ⊥) → (act ≡ acts.GetTransactionName → ⊥)
    → (b : ℕ) (f : Family) → says (told act b f) f ≡ carried_out act b f
as_told acts.GetTerminator p q r s t u v w b f = refl
as_told acts.GetCoordinator p q r s t u v w b f = refl
as_told (acts.Commit asked) p q r s t u v w b f = absurd (p asked refl)
as_told acts.Rollback p q r s t u v w b f = absurd (q refl)
as_told acts.GetStatus p q r s t u v w b f = refl
as_told acts.GetParentStatus p q r s t u v w b f = refl
as_told acts.GetTopLevelStatus p q r s t u v w b f = refl
as_told (acts.IsSameTransaction other) p q r s t u v w b f = refl
as_told (acts.IsRelatedTransaction other) p q r s t u v w b f = refl
as_told (acts.IsAncestorTransaction other) p q r s t u v w b f = refl
as_told (acts.IsDescendantTransaction other) p q r s t u v w b f = refl
as_told acts.IsTopLevelTransaction p q r s t u v w b f = refl
as_told acts.HashTransaction p q r s t u v w b f = refl
as_told acts.HashTopLevelTran p q r s t u v w b f = refl
as_told (acts.RegisterResource to aware) p q r s t u v w b f = absurd (s to aware refl)
as_told (acts.RegisterSynchronization to) p q r s t u v w b f = absurd (t to refl)
as_told (acts.RegisterSubtranAware to) p q r s t u v w b f = absurd (u to refl)
as_told acts.RollbackOnly p q r s t u v w b f = absurd (r refl)
as_told acts.GetTransactionName p q r s t u v w b f = absurd (w refl)
as_told acts.CreateSubtransaction p q r s t u v w b f = absurd (v refl)
as_told acts.GetTxcontext p q r s t u v w b f = refl
as_told (acts.Replay g to) p q r s t u v w b f = refl
as_told (acts.Superior word) p q r s t u v w b f = refl
as_told (acts.Answer n h) p q r s t u v w b f = refl
as_told acts.Tick p q r s t u v w b f = refl
as_told (acts.Reread stands) p q r s t u v w b f = refl
as_told (acts.Opened deadline) p q r s t u v w b f = refl
