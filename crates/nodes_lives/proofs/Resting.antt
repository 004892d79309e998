-- A journal that works, and doubts nothing, has what its disk holds.
use Rattle.std.proofs.Common.{◌≡◌, ℕ, false, List, ◌∷◌, ◌++◌, Option, Some, None, refl, sym, ap, subst, ◌∙◌}
use Rattle.ots_outside.specs.MemDisk.{MemDiskState}
use Rattle.decision_journal.specs.Calls.{IsCurrent}
use Rattle.decision_journal.specs.Journal.{Found, StandsFor}
use Rattle.decision_journal.specs.State.{IsAtRest, IsKept, JournalState, MayFind, StaysWithinArea}
use Rattle.decision_journal.specs.declared.record.JournalRecord.{JournalRecord}
use Rattle.decision_journal.proofs.Kept.{at_rest}
use Rattle.service_node.specs.NodeState.{NodeState}
use Rattle.nodes_lives.specs.Loads.{StoresJournal}
use Rattle.nodes_lives.specs.Running.{IsRunning, told}

finds_own : (octets : List ℕ) (found : Found) (doubted : Option JournalRecord) → doubted ≡ None → MayFind octets found doubted octets found
finds_own octets found None sure = (refl, refl)
finds_own octets found (Some r) sure = absurd cc

current : (x : JournalState MemDiskState) → x.failed ≡ false → x.doubted ≡ None → IsKept x.failed x.octets x.doubted (told x.disk) → StaysWithinArea x → IsCurrent told x
current x working sure kept each = record {
  within = each x.octets x.found (finds_own x.octets x.found x.doubted sure);
  rest = at_rest x.failed x.octets x.doubted (told x.disk) working kept;
}

pub current_of : (j x : JournalState MemDiskState) → x ≡ j → j.failed ≡ false → j.doubted ≡ None → IsKept x.failed x.octets x.doubted (told x.disk) → StaysWithinArea x
    → IsCurrent told j
current_of j x is working sure kept each =
    subst (IsCurrent told) is
    (current x (ap (λ (y : JournalState MemDiskState). y.failed) is ∙ working) (ap (λ (y : JournalState MemDiskState). y.doubted) is ∙ sure) kept each)

-- so the disk of a node that is up holds a journal
pub holds_own : (s : NodeState MemDiskState) (loaded : List ℕ) (end : ℕ) → IsRunning s loaded end → IsCurrent told s.journal
    → StoresJournal s.node.service s.journal.disk.disk.reads
holds_own s loaded end r now =
    let rs = now.within.filled.0 in
    let are = now.within.filled.1 in
    let rest : IsAtRest s.journal.octets s.journal.disk.disk = now.rest in
    let stands : StandsFor s.journal.service s.journal.disk.disk.reads rs = record {
      gate = rest.stands.gate;
      behind = rest.stands.behind;
      octets_are = rest.stands.octets_are ∙ ap (λ (xs : List ℕ). xs ++ rest.stands.gate ∷ rest.stands.behind) are.octets_are;
      closed = rest.stands.closed;
      fit = are.fit;
      in_turn = are.in_turn;
      within = are.within;
    } in
    subst (λ (n : ℕ). StoresJournal n s.journal.disk.disk.reads) (sym r.service)
    (record { records = rs; stands = stands })
