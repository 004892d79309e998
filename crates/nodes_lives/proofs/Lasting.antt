-- A node runs on as its families are made and time passes.
use Rattle.std.proofs.Common.{◌≡◌, ◌⊎◌, inl, inr, ℕ, Bool, true, false, cond, nat_lt, List, length, Contains, Option, Some, None, refl, sym, ap, subst, ◌∙◌}
use Rattle.std.specs.Prelude.{Ok}
use Rattle.ots_outside.specs.MemDisk.{MemDiskState}
use Rattle.decision_journal.specs.Journal.{Found}
use Rattle.decision_journal.specs.State.{JournalState}
use Rattle.recovery_coord.specs.declared.held.Held.{Held}
use Rattle.ior_refs.specs.declared.key.ObjectKey.{ObjectKey}
use Rattle.coordinator.specs.Family.{Family, new_family}
use Rattle.coordinator.specs.Limits.{generation_limit}
use Rattle.coordinator.specs.Node.{Node}
use Rattle.coordinator.specs.NodeSlots.{Created, creates, deadline_after, free_slot, makes, makes_in, makes_no_family, next_key, with_new}
use Rattle.coordinator.specs.NodeTick.{ticks}
use Rattle.family_laws.specs.HeldRecords.{HeldRecordsStood, IsOfStanding, WasHeld}
use Rattle.family_laws.specs.OwnDecisions.{KeepsDecisions, NodesKeepDecisions}
use Rattle.nodes_parts.specs.Striking.{closed_over}
use Rattle.service_node.specs.NodeState.{NodeState}
use Rattle.nodes_lives.specs.Running.{AreStanding, IsRunning}

-- what was held before, or stands, stands
pub still_standing : (found : Found) (before later : List Held) → AreStanding found before
    → ((h : Held) → Contains later h → WasHeld before h ⊎ IsOfStanding found.standing h) → AreStanding found later
still_standing found before later stand cases h c = elim (cases h c) [
  | inl was ↦ let old = stand was.before was.there in record {
    stood = old.stood;
    there = old.there;
    same_place = old.same_place ∙ was.same_place;
    numbers = was.numbers ∙ old.numbers;
    references = was.references ∙ old.references;
  }
  | inr new ↦ new
]

-- its journal stays
pub goes_on : (s t : NodeState MemDiskState) (loaded : List ℕ) (end : ℕ) → IsRunning s loaded end → t.journal ≡ s.journal → t.node.service ≡ s.node.service
    → t.node.found ≡ s.node.found → KeepsDecisions (length s.journal.octets) t.node
    → ((h : Held) → Contains t.node.recovered h → WasHeld s.node.recovered h ⊎ IsOfStanding s.node.found.standing h) → IsRunning t loaded end
goes_on s t loaded end r same service found keeps cases = record {
  service = service ∙ r.service ∙ sym (ap (λ (j : JournalState MemDiskState). j.service) same);
  found = found ∙ r.found ∙ sym (ap (λ (j : JournalState MemDiskState). j.found) same);
  area = ap (λ (j : JournalState MemDiskState). j.area) same ∙ r.area;
  failed = ap (λ (j : JournalState MemDiskState). j.failed) same ∙ r.failed;
  sure = ap (λ (j : JournalState MemDiskState). j.doubted) same ∙ r.sure;
  reads = subst (λ (j : JournalState MemDiskState). j.disk.disk.reads ≡ closed_over j.octets loaded) (sym same) r.reads;
  ends = r.ends ∙ sym (ap (λ (j : JournalState MemDiskState). length j.octets) same);
  keeps = subst (λ (j : JournalState MemDiskState). KeepsDecisions (length j.octets) t.node) (sym same) keeps;
  standing = subst (λ (f : Found). AreStanding f t.node.recovered) (sym found)
      (still_standing s.node.found s.node.recovered t.node.recovered r.standing cases);
}

-- a new family leaves the service and what was found
record IsOfSame (n later : Node) : Type 0 where
  service : later.service ≡ n.service
  found : later.found ≡ n.found

module _ (now seconds : ℕ) (n : Node) where
  abbrev make : ObjectKey → Family
  make key = new_family key (deadline_after now seconds)

  abbrev made : ℕ → Created
  made slot = record { node = with_new make slot n; answer = Ok (next_key n slot) }

  in_slot : (slot : ℕ) (b : Bool) → IsOfSame n (cond b (made slot) (makes_no_family n)).node
  in_slot slot true = record { service = refl; found = refl }
  in_slot slot false = record { service = refl; found = refl }

  by_slot : (o : Option ℕ) → IsOfSame n (makes_in o make n).node
  by_slot None = record { service = refl; found = refl }
  by_slot (Some slot) = in_slot slot (nat_lt n.generation generation_limit)

  made_same : IsOfSame n (creates now seconds n).node
  unfolding creates makes
  made_same = by_slot (free_slot n)

ticked_same : (now : ℕ) (n : Node) → IsOfSame n (ticks now n).node
unfolding ticks
ticked_same now n = record { service = refl; found = refl }

module _ (keep : NodesKeepDecisions) (stood : HeldRecordsStood) (s t : NodeState MemDiskState) (loaded : List ℕ) (end : ℕ) (r : IsRunning s loaded end) (same : t.journal ≡ s.journal) where
  pub made_runs : (now seconds : ℕ) → t.node ≡ (creates now seconds s.node).node → IsRunning t loaded end
  made_runs now seconds is =
      let of_same = made_same now seconds s.node in
      goes_on s t loaded end r same (ap (λ (n : Node). n.service) is ∙ of_same.service) (ap (λ (n : Node). n.found) is ∙ of_same.found)
      (subst (KeepsDecisions (length s.journal.octets)) (sym is) (keep.made (length s.journal.octets) now seconds s.node r.keeps))
      (λ h c. stood.made now seconds s.node h (subst (λ (n : Node). Contains n.recovered h) is c))

  pub ticked_runs : (now : ℕ) → t.node ≡ (ticks now s.node).node → IsRunning t loaded end
  ticked_runs now is =
      let of_same = ticked_same now s.node in
      goes_on s t loaded end r same (ap (λ (n : Node). n.service) is ∙ of_same.service) (ap (λ (n : Node). n.found) is ∙ of_same.found)
      (subst (KeepsDecisions (length s.journal.octets)) (sym is) (keep.ticked (length s.journal.octets) now s.node r.keeps))
      (λ h c. stood.ticked now s.node h (subst (λ (n : Node). Contains n.recovered h) is c))
