-- A load behind a crash begins a greater life.
use Rattle.std.proofs.Common.{◌≡◌, inl, inr, ℕ, ◌+◌, ◌<◌, ◌≤◌, List, [], ◌∷◌, ◌++◌, length, Option, Some, None, IsTrue, ap, arith}
use Rattle.std.proofs.lemmas.Bool.Decides.{nat_tests}
use Rattle.ots_outside.specs.Disk.{DiskState, EachLeavesOnly, LeavesOnlySince, Moment}
use Rattle.decision_journal.specs.Growing.{JournalsGrow}
use Rattle.decision_journal.specs.Journal.{Found, StandsFor, StandsForEither, can_follow, found_in, front, with_record}
use Rattle.decision_journal.specs.Laws.{AppendsAreSafe, CanAppend, IsSettled, OctetsStandForOneList, appended, behind_gate}
use Rattle.decision_journal.specs.State.{MayFind}
use Rattle.decision_journal.specs.declared.record.JournalRecord.{JournalRecord}
use Rattle.decision_journal.specs.declared.record.JournalRecord.TheVariants.{Life, Decision, Done, Prepared, CellsPrepared, CellsOutcome, CellsOnePhase}
use Rattle.coordinator.specs.Node.{Node, life, loaded_node}
use Rattle.coordinator.specs.NodeLaws.{LivesRise}
use Rattle.node_laws.specs.Lives.{BeginsLater, BeginsNoLife, LivesRiseOverCrashes}

-- a record that can follow begins no earlier life
follows_later : (found : Found) (place : ℕ) (r : JournalRecord) → IsTrue (can_follow found r) → found.life ≤ (with_record found place r).life
follows_later found place (Life l) h = grind (arith, nat_tests, h)
follows_later found place (Decision l slot generation by asked named) h = omega arith
follows_later found place (Done named) h = omega arith
follows_later found place (Prepared l slot generation recovery named) h = omega arith
follows_later found place (CellsPrepared l number recovery puts) h = omega arith
follows_later found place (CellsOutcome named end) h = omega arith
follows_later found place (CellsOnePhase l number puts) h = omega arith

-- what holds of octets that a crash leaves holds of more of them
each_weaker : (P Q : List ℕ → Type 0) → ((c : List ℕ) → P c → Q c) → (ms : List Moment) → EachLeavesOnly P ms → EachLeavesOnly Q ms
each_weaker P Q on [] h = tt
each_weaker P Q on (m ∷ ms) h = (λ image is. on image (h.0 image is), each_weaker P Q on ms h.1)

since_weaker : (P Q : List ℕ → Type 0) (start end : DiskState) → ((c : List ℕ) → P c → Q c) → LeavesOnlySince P start end → LeavesOnlySince Q start end
since_weaker P Q start end on h = record {
  more = h.more;
  moments = h.moments;
  at_start = λ image is. on image (h.at_start image is);
  later = each_weaker P Q on h.more h.later;
}

module _ (safe : AppendsAreSafe) (one_list : OctetsStandForOneList) (grow : JournalsGrow) (rise : LivesRise) where
  same_later : (n : Node) (records : List JournalRecord) (octets : List ℕ) → n.found ≡ found_in records → StandsFor n.service octets records → BeginsLater n octets
  same_later n records octets is stands left found =
      let same : left ≡ records = one_list n.service octets left records found stands in
      let next = rise n.service left in
      let now = ap (λ (x : Found). x.life) is in
      let kept = ap (λ (rs : List JournalRecord). (found_in rs).life) same in
      omega (arith, next, now, kept)

  more_later : (n : Node) (records : List JournalRecord) (r : JournalRecord) (octets : List ℕ) → n.found ≡ found_in records → IsTrue (can_follow (found_in records) r)
      → StandsFor n.service octets (records ++ r ∷ []) → BeginsLater n octets
  more_later n records r octets is follows stands left found =
      let same : left ≡ records ++ r ∷ [] = one_list n.service octets left (records ++ r ∷ []) found stands in
      let next = rise n.service left in
      let now = ap (λ (x : Found). x.life) is in
      let kept = ap (λ (rs : List JournalRecord). (found_in rs).life) same in
      let grown = ap (λ (x : Found). x.life) (grow.added n.service records r) in
      let above = follows_later (found_in records) (length (front n.service records)) r follows in
      omega (arith, next, now, kept, grown, above)

  inside : (n : Node) (records : List JournalRecord) (r : JournalRecord) (disk : DiskState) → n.found ≡ found_in records
      → IsSettled disk → StandsFor n.service disk.reads records → CanAppend n.service records r
      → LeavesOnlySince (BeginsLater n) disk (appended (length (front n.service records)) (behind_gate r) disk)
  inside n records r disk is settled stands can =
      since_weaker (StandsForEither n.service records r) (BeginsLater n) disk (appended (length (front n.service records)) (behind_gate r) disk) either
      (safe n.service records r disk settled stands can).1
    where
      either : (c : List ℕ) → StandsForEither n.service records r c → BeginsLater n c
      either c (inl x) = same_later n records c is x
      either c (inr x) = more_later n records r c is can.follows x

  doubtful : (n : Node) (known octets : List ℕ) (doubted : Option JournalRecord) (found : Found) → BeginsNoLife n.found doubted
      → MayFind known n.found doubted octets found → life n < life (loaded_node n.service (record found { life = found.life + 1 }))
  doubtful n known octets None found none (a, b) = let is = ap (λ (x : Found). x.life) b in omega (arith, is)
  doubtful n known octets (Some r) found none (inl (a, b)) = let is = ap (λ (x : Found). x.life) b in omega (arith, is)
  doubtful n known octets (Some r) found none (inr (a, b)) = let is = ap (λ (x : Found). x.life) b in let same = none (length known) in omega (arith, is, same)

  pub lives_rise_over_crashes : LivesRiseOverCrashes
  lives_rise_over_crashes = record { between = same_later; inside = inside; doubtful = doubtful }
