-- The cause of what the journal answered in a step.
use Rattle.std.proofs.Common.{◌≡◌, ◌∙◌, ◌⊎◌, inl, inr, refl, sym, ap, subst, ℕ, Bool, false, List, [], ◌∷◌, Option, None}
use Rattle.std.specs.Prelude.{IfSome}
use Rattle.std.proofs.lemmas.List.{append-nil, append_cancel_left}
use Rattle.ots_model.specs.declared.completion.Stood.{Stood}
use Rattle.ots_outside.specs.Disk.{DiskState}
use Rattle.decision_journal.specs.State.{IsAppendFault, IsReadFault}
use Rattle.decision_journal.specs.declared.journal.JournalFault.{JournalFault}
use Rattle.decision_journal.specs.declared.journal.JournalFault.TheVariants.{DiskFault, Full, BadHeader, BadRecord, LivesSpent, Memory}
use Rattle.coordinator.specs.Family.{Family}
use Rattle.coordinator.specs.Laws.{HistoriesGrowByEntries, entry_made}
use Rattle.coordinator.specs.Step.{family_step}
use Rattle.coordinator.specs.declared.event.Event.{Event}
use Rattle.coordinator.specs.declared.said.Entry.{Entry}
use Rattle.family_step.specs.Asking.{EntryIsCaused, HasCausedStep, IsCaused, is_full, stood_by}

module _ (wants : Bool) (told : Option DiskState) (before after : ℕ) where
  -- a refusal of the journal
  pub append_caused : (was later : ℕ) (fault : JournalFault) → IsAppendFault wants told before after fault
      → IsCaused wants told before after (stood_by fault was later)
  append_caused was later DiskFault cause = cause
  append_caused was later (Full used need) cause = tt
  append_caused was later (BadHeader place) cause = cause
  append_caused was later (BadRecord place) cause = cause
  append_caused was later LivesSpent cause = absurd cause
  append_caused was later Memory cause = cause

  pub done_caused : (was later : ℕ) (fault : JournalFault) → IsReadFault wants told before after fault
      → IsCaused wants told before after (stood_by fault was later)
  done_caused was later DiskFault cause = cause
  done_caused was later (Full used need) cause = absurd cause
  done_caused was later (BadHeader place) cause = cause
  done_caused was later (BadRecord place) cause = cause
  done_caused was later LivesSpent cause = absurd cause
  done_caused was later Memory cause = cause

  -- a Done has room
  pub done_roomy : (fault : JournalFault) → IsReadFault wants told before after fault → is_full fault ≡ false
  done_roomy DiskFault cause = refl
  done_roomy (Full used need) cause = absurd cause
  done_roomy (BadHeader place) cause = refl
  done_roomy (BadRecord place) cause = refl
  done_roomy LivesSpent cause = refl
  done_roomy Memory cause = refl

  -- what the entry says is what the journal answered
  stood_in_front : List Entry → Option Stood
  stood_in_front [] = None
  stood_in_front (x ∷ xs) = x.stood

  module _ (f : Family) (e : Event) (later : Family) (is : HasCausedStep wants told before after f e later) (grow : HistoriesGrowByEntries) where
    same_entries : later.entries ≡ (family_step f e is.stood).family.entries
    same_entries = ap (λ (g : Family). g.entries) is.family_is

    pub entry_caused : EntryIsCaused wants told before after f.entries later.entries
    unfolding stood_in_front
    entry_caused x grown = by_case (grow f e is.stood)
      where
        by_case : ((family_step f e is.stood).family ≡ f)
            ⊎ ((family_step f e is.stood).family.entries ≡ entry_made f e is.stood (family_step f e is.stood))
            → IfSome x.stood (IsCaused wants told before after)
        by_case (inl same) =
            absurd (cc (append_cancel_left f.entries [] (x ∷ [])
            (append-nil f.entries ∙ (sym (same_entries ∙ ap (λ (g : Family). g.entries) same) ∙ grown))))
        by_case (inr made) =
            subst (λ (o : Option Stood). IfSome o (IsCaused wants told before after))
            (ap stood_in_front (append_cancel_left f.entries _ (x ∷ []) (sym (same_entries ∙ made) ∙ grown))) is.caused
