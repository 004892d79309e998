-- What a refused load of a journal is to a load of its node.
use Rattle.std.proofs.Common.{◌≡◌, inl, inr, sym, subst, ℕ, Bool, true, Option}
use Rattle.ots_outside.specs.Asked.{DiskCall}
use Rattle.ots_outside.specs.Disk.{DiskState, Tells}
use Rattle.decision_journal.specs.declared.journal.JournalFault.{JournalFault}
use Rattle.decision_journal.specs.declared.journal.JournalFault.TheVariants.{DiskFault, Full, BadHeader, BadRecord, LivesSpent, Memory}
use Rattle.decision_journal.specs.Asking.{AsksLoad, AsksLoadSome}
use Rattle.decision_journal.specs.Faults as journal_faults
use Rattle.decision_journal.specs.Loading.{LoadIsDone}
use Rattle.decision_journal.specs.Loading as loading
use Rattle.decision_journal.proofs.Ways.{tells_weaker}
use Rattle.service_node.specs.Faults.{AsksRefusedLoad, IsNoFault, IsRefusedLoad, load_fault}
use Rattle.coordinator.specs.declared.node.NodeFault.{NodeFault}
use Rattle.coordinator.specs.declared.node.NodeFault.TheVariants as faults

module _ (service : ℕ) (a b : Option DiskState) where
  pub refused_so : (fault : JournalFault) → Tells a b (loading.IsRefusedLoad service fault) → Tells a b (IsRefusedLoad service (load_fault fault))
  refused_so DiskFault left = left
  refused_so (Full used need) left = left
  refused_so (BadHeader place) left = left
  refused_so (BadRecord place) left = left
  refused_so LivesSpent left = left
  refused_so Memory left = tells_weaker a b (loading.IsRefusedLoad service Memory) (IsRefusedLoad service faults.Memory) (λ s t is. inl is) left

  -- memory was wanted behind a load that is done
  pub refused_done : Tells a b (LoadIsDone service) → Tells a b (IsRefusedLoad service faults.Memory)
  refused_done done = tells_weaker a b (LoadIsDone service) (IsRefusedLoad service faults.Memory) (λ s t is. inr is) done

pub calm_so : (fault : JournalFault) (before after : ℕ) → journal_faults.IsNoFault fault before after → IsNoFault (load_fault fault) before after
calm_so DiskFault before after calm = calm
calm_so (Full used need) before after calm = calm
calm_so (BadHeader place) before after calm = calm
calm_so (BadRecord place) before after calm = calm
calm_so LivesSpent before after calm = calm
calm_so Memory before after calm = calm

pub begun_so : {D : Type 0} (asked : D → DiskCall → Bool → D → Type 0) (told : D → Option DiskState) (service : ℕ) (before after : D) (fault : JournalFault)
    → AsksLoadSome asked told service before after → AsksRefusedLoad asked told service (load_fault fault) before after
begun_so asked told service before after DiskFault some = some
begun_so asked told service before after (Full used need) some = some
begun_so asked told service before after (BadHeader place) some = some
begun_so asked told service before after (BadRecord place) some = some
begun_so asked told service before after LivesSpent some = some
begun_so asked told service before after Memory some = inl some

-- where memory was wanted behind a load of the journal, all its calls were asked
pub starved_so : {D : Type 0} (asked : D → DiskCall → Bool → D → Type 0) (told : D → Option DiskState) (service : ℕ) (before mid after : D) (fault : NodeFault)
    → fault ≡ faults.Memory → after ≡ mid → AsksLoad asked told service true before mid → AsksRefusedLoad asked told service fault before after
starved_so {D = D} asked told service before mid after fault memory same all =
    let there : AsksLoad asked told service true before after = subst (AsksLoad asked told service true before) (sym same) all in
    subst (λ (f : NodeFault). AsksRefusedLoad asked told service f before after) (sym memory) (inr there)
