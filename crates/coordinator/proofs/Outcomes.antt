-- What a step of a family leaves: an outcome stays, what is appended is a draft of a family, and what changes nothing.
use Rattle.std.proofs.Common.{◌≡◌, ◌⊎◌, refl, sym, subst, ℕ, inl, inr, Bool, true, false, if◌then◌else◌, Option, Some, None, is_some, is_none}
use Rattle.std.specs.Option.{option_map}
use Rattle.ots_model.specs.declared.completion.CallNumber.{CallNumber}
use Rattle.ots_model.specs.declared.completion.Stood.{Stood}
use Rattle.ots_model.specs.declared.tree.Heard.{Heard}
use Rattle.decision_journal.specs.declared.record.JournalRecord.{JournalRecord}
use Rattle.two_phase.specs.LawsOfReached.{TreeOutcomeStays}
use Rattle.coordinator.specs.declared.event.Act.{Act}
use Rattle.coordinator.specs.declared.event.Act.TheVariants as acts
use Rattle.coordinator.specs.declared.event.Event.{Event}
use Rattle.coordinator.specs.declared.said.Said.{Said}
use Rattle.coordinator.specs.declared.said.Said.TheVariants as said
use Rattle.coordinator.specs.Family.{Family, waiting_for}
use Rattle.coordinator.specs.Hearing.{decision_record, record_place}
use Rattle.coordinator.specs.History.{kept_for, repeated}
use Rattle.coordinator.specs.Step.{quiet, is_silent_act, entered, acted, step_by, family_step, Appends, WritesDone, wanted, wanted_act, wanted_by, hears}
use Rattle.coordinator.specs.Laws.{entry_made, HistoriesGrowByEntries, RepeatsChangeNothing, FamilyOutcomesStay, ChangesNothing, StaleAnswersChangeNothing}
use Rattle.coordinator.proofs.Rightly.{steps_right, stays}

pub outcomes_stay : TreeOutcomeStays → FamilyOutcomesStay
outcomes_stay law f e stood fixed there is =
    (stays law fixed f.completion (family_step f e stood).family.completion (steps_right f e stood).proceeds there).same is

-- what is appended is the draft of a family
pub record IsDraft (item : JournalRecord) : Type 0 where
  pub heard : Family
  pub is_record : item ≡ decision_record heard

no_done : (o : Option ℕ) (item : JournalRecord) → option_map WritesDone o ≡ Some (Appends item) → ⊥
no_done None item e = absurd (cc (e))
no_done (Some place) item e = absurd (cc (e))

by_wanted : (f : Family) (wants closing : Bool) (item : JournalRecord)
    → (if wants then Some (Appends (decision_record f)) else if closing then option_map WritesDone (record_place f.completion) else None) ≡ Some (Appends item)
    → item ≡ decision_record f
by_wanted f true closing item e = cc (e)
by_wanted f false true item e = absurd (no_done (record_place f.completion) item e)
by_wanted f false false item e = absurd (cc (e))

-- an answer that nobody waits for
stale_by : (o : Option Said) (f : Family) (e : Event) (stood : Option Stood) (n : CallNumber) (h : Heard)
    → e.act ≡ acts.Answer n h → waiting_for f n ≡ None → ChangesNothing f (step_by o f e stood)
stale_by (Some answer) f e stood n h is none = record { family = refl; words = refl; finished = refl; effects = refl }
stale_by None f e stood n h is none =
    subst (λ b. ChangesNothing f (if b then quiet said.Plain f else entered f e stood (acted e stood f))) (sym silent) (record { family = refl; words = refl; finished = refl; effects = refl })
  where
    silent : is_silent_act e.act e.now f ≡ true
    silent = subst (λ a. is_silent_act a e.now f ≡ true) (sym is) (subst (λ o. is_none o ≡ true) (sym none) refl)

pub stale : StaleAnswersChangeNothing
unfolding family_step
stale f e stood n h is none = stale_by (kept_for f.entries e.key) f e stood n h is none

append_act : (act : Act) (f : Family) (item : JournalRecord) → wanted_act act f ≡ Some (Appends item) → IsDraft item
append_act acts.GetTerminator f item e = absurd (cc (e))
append_act acts.GetCoordinator f item e = absurd (cc (e))
append_act (acts.Commit asked) f item e = absurd (cc (e))
append_act acts.Rollback f item e = absurd (cc (e))
append_act acts.GetStatus f item e = absurd (cc (e))
append_act acts.GetParentStatus f item e = absurd (cc (e))
append_act acts.GetTopLevelStatus f item e = absurd (cc (e))
append_act (acts.IsSameTransaction other) f item e = absurd (cc (e))
append_act (acts.IsRelatedTransaction other) f item e = absurd (cc (e))
append_act (acts.IsAncestorTransaction other) f item e = absurd (cc (e))
append_act (acts.IsDescendantTransaction other) f item e = absurd (cc (e))
append_act acts.IsTopLevelTransaction f item e = absurd (cc (e))
append_act acts.HashTransaction f item e = absurd (cc (e))
append_act acts.HashTopLevelTran f item e = absurd (cc (e))
append_act (acts.RegisterResource to aware) f item e = absurd (cc (e))
append_act (acts.RegisterSynchronization to) f item e = absurd (cc (e))
append_act (acts.RegisterSubtranAware to) f item e = absurd (cc (e))
append_act acts.RollbackOnly f item e = absurd (cc (e))
append_act acts.GetTransactionName f item e = absurd (cc (e))
append_act acts.CreateSubtransaction f item e = absurd (cc (e))
append_act acts.GetTxcontext f item e = absurd (cc (e))
append_act (acts.Replay g resource) f item e = absurd (cc (e))
append_act (acts.Superior word) f item e = absurd (cc (e))
append_act acts.Tick f item e = absurd (cc (e))
append_act (acts.Reread stands) f item e = absurd (cc (e))
append_act (acts.Opened deadline) f item e = absurd (cc (e))
append_act (acts.Answer n h) f item e = by_waiting (is_some (waiting_for f n)) e
  where
    by_waiting : (b : Bool) → (if b then wanted_by (hears n h f).family else None) ≡ Some (Appends item) → IsDraft item
    by_waiting true e = record {
      heard = (hears n h f).family;
      is_record = by_wanted (hears n h f).family _ _ item e;
    }
    by_waiting false e = absurd (cc (e))

pub appended_draft : (f : Family) (e : Event) (item : JournalRecord) → wanted f e ≡ Some (Appends item) → IsDraft item
unfolding wanted
appended_draft f e item is = by_kept (is_some (kept_for f.entries e.key)) is
  where
    by_kept : (b : Bool) → (if b then None else wanted_act e.act f) ≡ Some (Appends item) → IsDraft item
    by_kept true e = absurd (cc (e))
    by_kept false is = append_act e.act f item is

-- what a step makes of the history
grows_by : (o : Option Said) (f : Family) (e : Event) (stood : Option Stood)
    → ((step_by o f e stood).family ≡ f) ⊎ ((step_by o f e stood).family.entries ≡ entry_made f e stood (step_by o f e stood))
unfolding entered
grows_by (Some answer) f e stood = inl refl
grows_by None f e stood = by_silence (is_silent_act e.act e.now f)
  where
    by_silence : (b : Bool) → ((if b then quiet said.Plain f else entered f e stood (acted e stood f)).family ≡ f)
        ⊎ ((if b then quiet said.Plain f else entered f e stood (acted e stood f)).family.entries
        ≡ entry_made f e stood (if b then quiet said.Plain f else entered f e stood (acted e stood f)))
    by_silence true = inl refl
    by_silence false = inr refl

pub histories_grow : HistoriesGrowByEntries
unfolding family_step
histories_grow f e stood = grows_by (kept_for f.entries e.key) f e stood

pub repeats : RepeatsChangeNothing
unfolding family_step
repeats f e stood answer is = subst (λ o. ChangesNothing f (step_by o f e stood) × ((step_by o f e stood).said ≡ repeated answer)) (sym is)
    (record { family = refl; words = refl; finished = refl; effects = refl }, refl)
