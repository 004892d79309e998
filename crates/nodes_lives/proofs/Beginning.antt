-- What a load leaves of a node and its disk.
use Rattle.std.proofs.Common.{◌≡◌, inl, inr, ℕ, ◌+◌, ◌<◌, ◌≤◌, Bool, true, false, cond, nat_lt, bytes_eq, List, [], ◌∷◌, ◌++◌, length, take, drop, Contains, Some, None, refl, sym, ap, subst, ◌∙◌, arith, append_assoc, length-append}
use Rattle.std.proofs.lemmas.Bool.Decides.{nat_tests}
use Rattle.std.proofs.lemmas.List.Elements.{recursion_from_All}
use Rattle.ots_outside.specs.Disk.{DiskState, at_first, synced}
use Rattle.ots_outside.specs.MemDisk.{MemDiskState}
use Rattle.decision_journal.specs.Calls.{IsCurrent}
use Rattle.decision_journal.specs.Growing.{JournalsGrow}
use Rattle.decision_journal.specs.Journal.{AreRecords, Found, Holds, IsFilled, StandsFor, first_gate, found_in, front, header, nothing_found}
use Rattle.decision_journal.specs.Laws.{CreationsAreSafe, OctetsStandForOneList, behind_gate, cleared, created}
use Rattle.decision_journal.specs.Layout.{record_octets}
use Rattle.decision_journal.specs.Limits.{area_limit}
use Rattle.decision_journal.specs.Loading.{LoadIsDone, loaded, next_life, readied}
use Rattle.decision_journal.specs.State.{IsAtRest, decisions, used}
use Rattle.decision_journal.specs.declared.journal.Standing.{Standing}
use Rattle.decision_journal.specs.declared.record.JournalRecord.{JournalRecord}
use Rattle.decision_journal.proofs.Append.{front_more}
use Rattle.decision_journal.proofs.Below.{before_end}
use Rattle.decision_journal.proofs.Loads.{fresh_test, stands_test}
use Rattle.decision_journal.proofs.Scans.{length_front}
use Rattle.recovery_coord.specs.declared.held.Held.{Held}
use Rattle.coordinator.specs.Node.{Node, load, loaded_node}
use Rattle.family_laws.specs.HeldRecords.{HeldRecordsStood, IsOfStanding}
use Rattle.family_laws.specs.OwnDecisions.{KeepsDecisions, NodesKeepDecisions}
use Rattle.family_laws.specs.SoundNode.{AreBefore}
use Rattle.nodes_parts.specs.Gated.{IsEndGate, octets_of}
use Rattle.nodes_parts.specs.Striking.{closed_over}
use Rattle.nodes_world.specs.Journals.{records_from, records_in, records_on}
use Rattle.nodes_world.specs.Laws.{RecordsAreRead}
use Rattle.nodes_world.specs.Step.{lacks_life}
use Rattle.service_node.specs.NodeState.{NodeState}
use Rattle.decision_journal.specs.declared.journal.JournalFault.TheVariants.{DiskFault, Full, BadHeader, BadRecord, LivesSpent, Memory}
use Rattle.coordinator.specs.declared.node.NodeFault.{NodeFault}
use Rattle.coordinator.specs.declared.node.NodeFault.TheVariants as faults
use Rattle.service_node.specs.Faults.{IsLoadCause}
use Rattle.nodes_lives.specs.Loads.{HasNoLife, IsLoadRefusal, IsLoaded, refusal_of}
use Rattle.nodes_lives.specs.Running.{IsRunning, told}
use Rattle.nodes_lives.proofs.Closing.{appended_reads, closed_self}

-- the records that octets hold are those that are read in them
pub holds_read : RecordsAreRead → (service : ℕ) (octets : List ℕ) (rs : List JournalRecord) → Holds service octets rs → records_in service octets ≡ Some rs
unfolding records_in
holds_read read service octets rs (inl stands) = read service octets rs stands
holds_read read service octets rs (inr (fresh, none)) =
    ap (λ (b : Bool). cond b (Some []) (cond (bytes_eq (take first_gate octets) (header service)) (records_from (length octets) nothing_found first_gate (drop first_gate octets)) None))
    (fresh_test octets fresh)
    ∙ ap (λ (xs : List JournalRecord). Some xs) (sym none)

-- a disk that holds records stands for them once it was made ready
readied_stands : CreationsAreSafe → (service : ℕ) (disk : DiskState) (rs : List JournalRecord) → Holds service disk.reads rs
    → StandsFor service (readied service (synced disk)).reads rs
readied_stands safe service disk rs (inl stands) =
    subst (λ (b : Bool). StandsFor service (cond b (created service (cleared (synced disk))) (synced disk)).reads rs)
    (sym (stands_test service disk.reads rs stands)) stands
readied_stands safe service disk rs (inr (fresh, none)) =
    subst (λ (b : Bool). StandsFor service (cond b (created service (cleared (synced disk))) (synced disk)).reads rs) (sym (fresh_test disk.reads fresh))
    (subst (StandsFor service (created service (cleared (synced disk))).reads) (sym none) (safe service (synced disk) refl fresh).1)

module _ (one : OctetsStandForOneList) (safe : CreationsAreSafe) (grow : JournalsGrow) (read : RecordsAreRead) (keep : NodesKeepDecisions) (stood : HeldRecordsStood)
    (service : ℕ) (octets : List ℕ) (before : DiskState) (s : NodeState MemDiskState) (first : before ≡ at_first octets) (done : LoadIsDone service before s.journal.disk.disk)
    (service_is : s.journal.service ≡ service) (area_is : s.journal.area ≡ area_limit) (failed : s.journal.failed ≡ false) (sure : s.journal.doubted ≡ None)
    (current : IsCurrent told s.journal) (node_is : s.node ≡ loaded_node service s.journal.found) where
  abbrev rs : List JournalRecord
  rs = done.records

  abbrev all : List JournalRecord
  all = rs ++ next_life rs ∷ []

  filled : IsFilled service s.journal.octets s.journal.found
  filled = subst (λ (n : ℕ). IsFilled n s.journal.octets s.journal.found) service_is current.within.filled

  abbrev are : AreRecords service s.journal.octets s.journal.found filled.0
  are = filled.1

  rest : IsAtRest s.journal.octets s.journal.disk.disk
  rest = current.rest

  stands : StandsFor service s.journal.disk.disk.reads filled.0
  stands = record {
    gate = rest.stands.gate;
    behind = rest.stands.behind;
    octets_are = rest.stands.octets_are ∙ ap (λ (xs : List ℕ). xs ++ rest.stands.gate ∷ rest.stands.behind) are.octets_are;
    closed = rest.stands.closed;
    fit = are.fit;
    in_turn = are.in_turn;
    within = are.within;
  }

  same : filled.0 ≡ all
  same = one service s.journal.disk.disk.reads filled.0 all stands done.stands

  found_is : s.journal.found ≡ found_in all
  found_is = are.found_is ∙ ap found_in same

  octets_are : s.journal.octets ≡ front service rs ++ record_octets (next_life rs)
  octets_are = are.octets_are ∙ ap (front service) same ∙ front_more service rs (next_life rs)

  loaded_is : s.node ≡ load service rs
  loaded_is = node_is ∙ ap (loaded_node service) found_is

  held : records_on service (at_first octets) ≡ Some rs
  held = subst (λ (d : DiskState). records_on service d ≡ Some rs) first (holds_read read service before.reads rs done.held)

  roomy : lacks_life service rs ≡ false
  roomy =
      let room = current.within.room in
      let standing : decisions s.journal.found ≡ decisions (found_in rs) = ap decisions (found_is ∙ grow.added service rs (next_life rs)) in
      let long = ap length octets_are in
      let both = length-append (front service rs) (record_octets (next_life rs)) in
      at_most area_limit (used (front service rs) (found_in rs) + length (record_octets (next_life rs))) (omega (arith, room, standing, long, both, area_is))
    where
      at_most : (a b : ℕ) → b ≤ a → nat_lt a b ≡ false
      at_most a b is = grind (arith, nat_tests)

  pub begun : IsLoaded service octets (record { node = s.node; disk = s.journal.disk.disk })
  begun = record {
    records = rs;
    read = held;
    roomy = roomy;
    node = loaded_is;
    disk = done.disk ∙ ap (loaded service rs) first;
  }

  reads_are : s.journal.disk.disk.reads ≡ closed_over s.journal.octets s.journal.disk.disk.reads
  reads_are =
      let ready = readied_stands safe service before rs done.held in
      let is : s.journal.disk.disk.reads ≡ s.journal.octets ++ 0 ∷ drop (length (behind_gate (next_life rs))) ready.behind =
      ap (λ (d : DiskState). d.reads) done.disk
      ∙ appended_reads (front service rs) ready.gate ready.behind (next_life rs) (readied service (synced before)) ready.octets_are
      ∙ sym (append_assoc (front service rs) (record_octets (next_life rs)) (0 ∷ drop (length (behind_gate (next_life rs))) ready.behind))
      ∙ ap (λ (xs : List ℕ). xs ++ 0 ∷ drop (length (behind_gate (next_life rs))) ready.behind) (sym octets_are) in
      is ∙ sym (closed_self s.journal.octets (drop (length (behind_gate (next_life rs))) ready.behind)) ∙ ap (closed_over s.journal.octets) (sym is)

  before_gate : AreBefore (length s.journal.octets) (load service rs).found.standing
  before_gate =
      subst (λ (f : Found). AreBefore (length s.journal.octets) f.standing) found_is
      (recursion_from_All (λ (x : Standing). x.place < length s.journal.octets) s.journal.found.standing (before_end service s.journal.octets s.journal.found filled))

  -- the gate behind its records is at its end
  end_is : (end : ℕ) → IsEndGate s.journal.disk.disk.reads end → end ≡ length s.journal.octets
  unfolding rest stands
  end_is end ends =
      ends filled.0 (record {
        front = header service;
        gate = rest.stands.gate;
        behind = rest.stands.behind;
        first = omega arith;
        octets_are = stands.octets_are ∙ append_assoc (header service) (octets_of filled.0) (rest.stands.gate ∷ rest.stands.behind);
        closed = rest.stands.closed;
        within = let less = are.within in omega (arith, less, length_front service filled.0);
      })
      ∙ sym (ap length are.octets_are ∙ length_front service filled.0)

  pub runs : (read_now : List ℕ) → read_now ≡ s.journal.disk.disk.reads → (end : ℕ) → IsEndGate read_now end → IsRunning s read_now end
  runs read_now now end ends = record {
    service = ap (λ (n : Node). n.service) node_is ∙ sym service_is;
    found = ap (λ (n : Node). n.found) node_is;
    area = area_is;
    failed = failed;
    sure = sure;
    reads = reads_are ∙ ap (closed_over s.journal.octets) (sym now);
    ends = end_is end (subst (λ (xs : List ℕ). IsEndGate xs end) now ends);
    keeps = subst (KeepsDecisions (length s.journal.octets)) (sym loaded_is) (keep.loaded (length s.journal.octets) service rs before_gate);
    standing = subst (λ (n : Node). (h : Held) → Contains n.recovered h → IsOfStanding n.found.standing h) (sym loaded_is) (stood.loaded service rs);
  }

-- where there is no room for a life, so it is of what is read
pub no_life : RecordsAreRead → (service : ℕ) (octets : List ℕ) (before : DiskState) (rs : List JournalRecord) (u n : ℕ) → before ≡ at_first octets
    → Holds service before.reads rs → area_limit < u + n → n ≡ 10 → u ≡ used (front service rs) (found_in rs) → HasNoLife service octets area_limit
no_life read service octets before rs u n first holds less ten used_is = record {
  records = rs;
  read = subst (λ (d : DiskState). records_on service d ≡ Some rs) first (holds_read read service before.reads rs holds);
  full = above area_limit (used (front service rs) (found_in rs) + length (record_octets (next_life rs))) (omega (arith, less, ten, used_is, life_long ((found_in rs).life + 1)));
  limit_is = refl;
}
  where
    above : (a b : ℕ) → a < b → nat_lt a b ≡ true
    above a b is = grind (arith, nat_tests)

    life_long : (life : ℕ) → length (record_octets (next_life rs)) ≡ 10
    life_long life = refl

-- what a fault of the load is to the world has its cause
pub refused : RecordsAreRead → (service : ℕ) (octets : List ℕ) (before : DiskState) (a b : ℕ) (fault : NodeFault) → before ≡ at_first octets
    → IsLoadCause area_limit service (Some before) a b fault → IsLoadRefusal service octets (refusal_of fault)
refused read service octets before a b (faults.Journal (Full u n)) first cause =
    no_life read service octets before cause.2.0 u n first cause.2.1.0 cause.0 cause.1 cause.2.1.2
refused read service octets before a b (faults.Journal DiskFault) first cause = tt
refused read service octets before a b (faults.Journal (BadHeader place)) first cause = tt
refused read service octets before a b (faults.Journal (BadRecord place)) first cause = tt
refused read service octets before a b (faults.Journal LivesSpent) first cause = tt
refused read service octets before a b (faults.Journal Memory) first cause = tt
refused read service octets before a b faults.ObjectNotExist first cause = tt
refused read service octets before a b faults.NoResources first cause = tt
refused read service octets before a b faults.NoImplement first cause = tt
refused read service octets before a b faults.Memory first cause = tt
