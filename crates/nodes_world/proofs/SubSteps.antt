-- What a step of a family does that is to make a subtransaction: it makes one, or keeps what other steps keep.
use Rattle.std.proofs.Common.{◌≡◌, ◌⊎◌, inl, inr, ℕ, zero, suc, ◌<◌, Bool, true, false, nat_lt, if◌then◌else◌, List, [], ◌∷◌, ◌++◌, length, Option, Some, None, refl, sym, subst, arith}
use Rattle.std.proofs.lemmas.Bool.Decides.{nat_tests}
use Rattle.ots_model.specs.declared.service.RetryKey.{RetryKey}
use Rattle.txn_tree.specs.Calls.{creating}
use Rattle.txn_tree.specs.declared.row.TreeFault.{TreeFault}
use Rattle.txn_tree.specs.declared.row.TreeFault.TheVariants as tree_faults
use Rattle.coordinator.specs.declared.event.Act.TheVariants as acts
use Rattle.coordinator.specs.declared.event.Event.{Event}
use Rattle.coordinator.specs.declared.phase.Column.{Column}
use Rattle.coordinator.specs.declared.phase.Column.TheVariants as columns
use Rattle.coordinator.specs.declared.said.Entry.{Entry}
use Rattle.coordinator.specs.declared.said.Said.{Said}
use Rattle.coordinator.specs.declared.said.Said.TheVariants as said
use Rattle.coordinator.specs.Family.{Call, Family}
use Rattle.coordinator.specs.History.{kept_for}
use Rattle.coordinator.specs.Phases.{column}
use Rattle.coordinator.specs.Table.{creates_by, creates_in, creates_subtransaction, has_branch, says, tree_refusal, with_sub}
use Rattle.coordinator.specs.Step.{Stepped, acted, entered, family_step, step_by}
use Rattle.family_laws.specs.Sound.{called}
use Rattle.nodes_world.proofs.RulesKeep.{IsTidy, only_keeps}
use Rattle.nodes_world.proofs.StepsKeep.{StepKeeps, entered_keeps}

-- a call that is to make one
abbrev pub creating_event : Option RetryKey → ℕ → ℕ → Event
creating_event by b now = record { key = by; branch = b; now = now; act = acts.CreateSubtransaction }

-- the step that makes one
abbrev pub made_step : Family → ℕ → Entry → Stepped
made_step f b entry = record {
  family = record (with_sub b f) { entries = f.entries ++ entry ∷ [] };
  said = said.Made (length f.rows);
  words = [];
  finished = [];
  effects = [];
}

-- it makes none, or that one
abbrev pub Makes : Family → ℕ → Stepped → Type 0
Makes f b step = ((IsTidy f → StepKeeps f step) × ((x : ℕ) → step.said ≡ said.Made x → ⊥)) ⊎ ((b < length f.rows) × ((entry : Entry) × (step ≡ made_step f b entry)))

-- an answer that names no branch
abbrev NoBranch : Said → Type 0
NoBranch answer = (x : ℕ) → answer ≡ said.Made x → ⊥

refused : (f : Family) (by : Option RetryKey) (b now : ℕ) (answer : Said) → NoBranch answer → Makes f b (entered f (creating_event by b now) None (says answer f))
unfolding entered
refused f by b now answer none = inl (entered_keeps f (creating_event by b now) None (says answer f) (only_keeps f), none)

no_refusal : (fault : TreeFault) → NoBranch (tree_refusal fault)
no_refusal tree_faults.Inactive x is = cc
no_refusal tree_faults.MarkedAlready x is = cc
no_refusal tree_faults.SubtransactionsUnavailable x is = cc
no_refusal tree_faults.Memory x is = cc

made_or_refused : (f : Family) (by : Option RetryKey) (b now : ℕ) (o : Option TreeFault) → b < length f.rows
    → Makes f b (entered f (creating_event by b now) None (creates_by o b f))
unfolding entered
made_or_refused f by b now (Some fault) less = refused f by b now (tree_refusal fault) (no_refusal fault)
made_or_refused f by b now None less = inr (less, (_, refl))

in_column : (f : Family) (by : Option RetryKey) (b now : ℕ) (place : Column) → b < length f.rows
    → Makes f b (entered f (creating_event by b now) None (creates_in place b f))
in_column f by b now columns.Active less = made_or_refused f by b now (creating f.rows b) less
in_column f by b now columns.Marked less = refused f by b now said.TransactionRolledBack (λ x is. absurd cc)
in_column f by b now columns.Finishing less = refused f by b now said.Inactive (λ x is. absurd cc)
in_column f by b now columns.RolledBack less = refused f by b now said.Inactive (λ x is. absurd cc)
in_column f by b now columns.Past less = refused f by b now said.Inactive (λ x is. absurd cc)

is_less : (b n : ℕ) → nat_lt b n ≡ true → b < n
is_less b n is = grind (arith, nat_tests, is)

on_a_branch : (f : Family) (by : Option RetryKey) (b now : ℕ) (t : Bool) → has_branch f b ≡ t
    → Makes f b (entered f (creating_event by b now) None (if t then creates_subtransaction b f else says said.ObjectNotExist f))
unfolding creates_subtransaction
on_a_branch f by b now true is = in_column f by b now (column f b) (is_less b (length f.rows) is)
on_a_branch f by b now false is = refused f by b now said.ObjectNotExist (λ x e. absurd cc)

-- where the call is no repeat
pub creating_step : (f : Family) (by : Option RetryKey) (b now : ℕ) → kept_for f.entries by ≡ None → Makes f b (family_step f (creating_event by b now) None)
unfolding family_step acted
creating_step f by b now new =
    subst (λ (o : Option Said). Makes f b (step_by o f (creating_event by b now) None)) (sym new) (on_a_branch f by b now (has_branch f b) refl)

-- no call on the new one is under way
pub call_was : (calls : List (Option Call)) (b : ℕ) (c : Call) → called (calls ++ None ∷ []) b ≡ Some c → called calls b ≡ Some c
call_was [] zero c is = is
call_was [] (suc b) c is = is
call_was (x ∷ calls) zero c is = is
call_was (x ∷ calls) (suc b) c is = call_was calls b c is
