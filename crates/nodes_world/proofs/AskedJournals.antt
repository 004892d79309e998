-- What asking a journal leaves on its disk: the records of before, or these and the one that was asked for.
use Rattle.std.proofs.Common.{◌≡◌, ℕ, ◌+◌, ◌≤◌, Bool, true, false, cond, nat_le, IsTrue, List, [], ◌∷◌, ◌++◌, length, Option, Some, None, ◌⊎◌, refl, sym, ap, subst, ◌∙◌, arith, inl, inr, append-nil}
use Rattle.std.specs.List.{list_any}
use Rattle.std.proofs.lemmas.Bool.Decides.{nat_tests}
use Rattle.ots_model.specs.declared.completion.Stood.{Stood}
use Rattle.ots_model.specs.declared.completion.Stood.TheVariants as answers
use Rattle.ots_outside.specs.Disk.{DiskState, at_first}
use Rattle.decision_journal.specs.declared.record.JournalRecord.{JournalRecord}
use Rattle.decision_journal.specs.declared.record.JournalRecord.TheVariants.{Life, Decision, Done, Prepared, CellsPrepared, CellsOutcome, CellsOnePhase}
use Rattle.decision_journal.specs.Growing.{JournalsGrow}
use Rattle.decision_journal.specs.Layout.{Fits}
use Rattle.decision_journal.specs.Journal.{Found, can_follow, found_in, front, is_decision, is_decision_at}
use Rattle.decision_journal.specs.Laws.{CanAppend, AppendsAreSafe}
use Rattle.decision_journal.specs.State.{need, used}
use Rattle.coordinator.specs.Step.{Wanted, Appends, WritesDone, Rereads}
use Rattle.coordinator.specs.NodeCalls.{journaled}
use Rattle.nodes_world.specs.Limits.{area_limit}
use Rattle.nodes_world.specs.Disks.{Stop, Struck, Whole, Broken}
use Rattle.nodes_world.specs.Journals.{Answers, Stops, answered_by, appends, asks, asks_by}
use Rattle.nodes_world.specs.Laws.{AppendsGoThrough, AskedJournalsKeep, AskedJournalsStop, AskingLeaves, CanAsk, CrashLeaves, IsInOrder, IsWanted, RecordsAreRead, StoppedAppendsAreSafe, struck_by}

-- a record that fits, follows and leaves what is used within the area can be appended
can_append : (service : ℕ) (rs : List JournalRecord) (r : JournalRecord) → Fits r → IsTrue (can_follow (found_in rs) r)
    → used (front service (rs ++ r ∷ [])) (found_in (rs ++ r ∷ [])) ≤ area_limit → CanAppend service rs r
can_append service rs r fits follows room = record { fits = fits; follows = follows; within = omega (arith, room) }

-- nothing is appended
leaves_as_before : (service : ℕ) (rs : List JournalRecord) (wanted : Option Wanted) (stood : Option Stood) (disk : DiskState)
    → IsInOrder service disk rs → journaled wanted stood (found_in rs) ≡ found_in rs → AskingLeaves service rs wanted stood disk
leaves_as_before service rs wanted stood disk order same =
    let none : rs ++ [] ≡ rs = append-nil rs in record {
      more = [];
      order = subst (IsInOrder service disk) (sym none) order;
      found = same ∙ ap found_in (sym none);
      asked = tt;
    }

-- a decision can follow whatever stands
decision_follows : (found : Found) (r : JournalRecord) → IsTrue (is_decision r) → IsTrue (can_follow found r)
decision_follows found (Life life) is = absurd cc
decision_follows found (Decision life slot generation by asked regs) is = refl
decision_follows found (Done place) is = absurd cc
decision_follows found (Prepared life slot generation recovery regs) is = refl
decision_follows found (CellsPrepared life number recovery puts) is = absurd cc
decision_follows found (CellsOutcome place end) is = absurd cc
decision_follows found (CellsOnePhase life number puts) is = absurd cc

-- what an answer tells, and that a crash is none
answer_of : {s t : Option Stood} {d e : DiskState} {u v : Option Stop} → Answers s d u ≡ Answers t e v → (t ≡ s) × (e ≡ d)
answer_of is = (cc, cc)

image_of : {x y : List ℕ} → Stops x ≡ Stops y → y ≡ x
image_of is = cc

no_answer : {x : List ℕ} {t : Option Stood} {e : DiskState} {v : Option Stop} → Stops x ≡ Answers t e v → ⊥
no_answer is = cc

no_crash : {x : List ℕ} {t : Option Stood} {e : DiskState} {v : Option Stop} → Answers t e v ≡ Stops x → ⊥
no_crash is = cc

module _ (grow : JournalsGrow) (safe : AppendsAreSafe) (through : AppendsGoThrough) (stopped : StoppedAppendsAreSafe)
    (service : ℕ) (rs : List JournalRecord) (disk : DiskState) (order : IsInOrder service disk rs) where
  -- an append of one more record, where it goes through and where it is stopped
  more_in_order : (r : JournalRecord) (stop : Option Stop) (later : DiskState) (next : Option Stop) → CanAppend service rs r
      → used (front service (rs ++ r ∷ [])) (found_in (rs ++ r ∷ [])) ≤ area_limit
      → struck_by (length (front service rs)) r disk stop ≡ Whole later next → IsInOrder service later (rs ++ r ∷ [])
  more_in_order r stop later next can room whole =
      let done = safe service rs r disk order.settled order.stands can in
      subst (λ d. IsInOrder service d (rs ++ r ∷ [])) (sym (through (length (front service rs)) r disk stop later next whole))
      (record { settled = done.3; stands = done.2; room = room })

  crashed : (r : JournalRecord) (stop : Option Stop) (image : List ℕ) → CanAppend service rs r
      → used (front service (rs ++ r ∷ [])) (found_in (rs ++ r ∷ [])) ≤ area_limit
      → struck_by (length (front service rs)) r disk stop ≡ Broken image
      → IsInOrder service (at_first image) rs ⊎ IsInOrder service (at_first image) (rs ++ r ∷ [])
  crashed r stop image can room broken =
      elim (stopped service rs r disk stop image order.settled order.stands can broken) [
        | inl old ↦ inl (record { settled = refl; stands = old; room = order.room })
        | inr new ↦ inr (record { settled = refl; stands = new; room = room })
      ]

  -- what stands once such an append was answered
  stands_more : (wanted : Wanted) (r : JournalRecord) (told : ℕ) (stop : Option Stop) (stood : Option Stood) (later : DiskState) (next : Option Stop)
      → IsWanted (Some wanted) r → journaled (Some wanted) (Some (answers.Stands told)) (found_in rs) ≡ found_in (rs ++ r ∷ []) → CanAppend service rs r
      → used (front service (rs ++ r ∷ [])) (found_in (rs ++ r ∷ [])) ≤ area_limit
      → answered_by (answers.Stands told) (struck_by (length (front service rs)) r disk stop) ≡ Answers stood later next
      → AskingLeaves service rs (Some wanted) stood later
  stands_more wanted r told stop stood later next is_wanted found can room is = by (struck_by (length (front service rs)) r disk stop) refl is
    where
      by : (struck : Struck) → struck_by (length (front service rs)) r disk stop ≡ struck → answered_by (answers.Stands told) struck ≡ Answers stood later next
          → AskingLeaves service rs (Some wanted) stood later
      by (Whole d s) whole is =
          let told_is = answer_of is in record {
            more = r ∷ [];
            order = subst (λ e. IsInOrder service e (rs ++ r ∷ [])) (sym told_is.1) (more_in_order r stop d s can room whole);
            found = ap (λ t. journaled (Some wanted) t (found_in rs)) told_is.0 ∙ found;
            asked = is_wanted;
          }
      by (Broken image) broken is = absurd (no_answer is)

  stops_more : (wanted : Wanted) (r : JournalRecord) (told : ℕ) (stop : Option Stop) (image : List ℕ) → IsWanted (Some wanted) r → CanAppend service rs r
      → used (front service (rs ++ r ∷ [])) (found_in (rs ++ r ∷ [])) ≤ area_limit
      → answered_by (answers.Stands told) (struck_by (length (front service rs)) r disk stop) ≡ Stops image → CrashLeaves service rs (Some wanted) image
  stops_more wanted r told stop image is_wanted can room is = by (struck_by (length (front service rs)) r disk stop) refl is
    where
      by : (struck : Struck) → struck_by (length (front service rs)) r disk stop ≡ struck → answered_by (answers.Stands told) struck ≡ Stops image
          → CrashLeaves service rs (Some wanted) image
      by (Whole d s) whole is = absurd (no_crash is)
      by (Broken octets) broken is =
          let same = image_of is in record {
            item = r;
            asked = is_wanted;
            leaves = subst (λ i. IsInOrder service (at_first i) rs ⊎ IsInOrder service (at_first i) (rs ++ r ∷ [])) (sym same) (crashed r stop octets can room broken);
          }

  -- a decision for which there is room
  has_room : (item : JournalRecord) → nat_le (used (front service rs) (found_in rs) + need area_limit (found_in rs) item) area_limit ≡ true
      → used (front service (rs ++ item ∷ [])) (found_in (rs ++ item ∷ [])) ≤ area_limit
  has_room item is = grow.room area_limit service rs item (within (used (front service rs) (found_in rs) + need area_limit (found_in rs) item) area_limit is)
    where
      within : (a b : ℕ) → nat_le a b ≡ true → a ≤ b
      within a b is = grind (arith, nat_tests)

  decision_kept : (item : JournalRecord) (stop : Option Stop) (stood : Option Stood) (later : DiskState) (next : Option Stop) → Fits item → IsTrue (is_decision item)
      → appends area_limit item (found_in rs) (front service rs) disk stop ≡ Answers stood later next
      → AskingLeaves service rs (Some (Appends item)) stood later
  decision_kept item stop stood later next fits decision is =
      by (nat_le (used (front service rs) (found_in rs) + need area_limit (found_in rs) item) area_limit) refl is
    where
      by : (b : Bool) → nat_le (used (front service rs) (found_in rs) + need area_limit (found_in rs) item) area_limit ≡ b
          → cond b (answered_by (answers.Stands (length (front service rs))) (struck_by (length (front service rs)) item disk stop))
          (Answers (Some (answers.Full (used (front service rs) (found_in rs)) (need area_limit (found_in rs) item))) disk stop)
          ≡ Answers stood later next
          → AskingLeaves service rs (Some (Appends item)) stood later
      by true room is =
          let more = has_room item room in
          stands_more (Appends item) item (length (front service rs)) stop stood later next refl (sym (grow.added service rs item))
          (can_append service rs item fits (decision_follows (found_in rs) item decision) more) more is
      by false room is =
          let told_is = answer_of is in
          subst (AskingLeaves service rs (Some (Appends item)) stood) (sym told_is.1)
          (leaves_as_before service rs (Some (Appends item)) stood disk order (ap (λ t. journaled (Some (Appends item)) t (found_in rs)) told_is.0))

  decision_stopped : (item : JournalRecord) (stop : Option Stop) (image : List ℕ) → Fits item → IsTrue (is_decision item)
      → appends area_limit item (found_in rs) (front service rs) disk stop ≡ Stops image → CrashLeaves service rs (Some (Appends item)) image
  decision_stopped item stop image fits decision is =
      by (nat_le (used (front service rs) (found_in rs) + need area_limit (found_in rs) item) area_limit) refl is
    where
      by : (b : Bool) → nat_le (used (front service rs) (found_in rs) + need area_limit (found_in rs) item) area_limit ≡ b
          → cond b (answered_by (answers.Stands (length (front service rs))) (struck_by (length (front service rs)) item disk stop))
          (Answers (Some (answers.Full (used (front service rs) (found_in rs)) (need area_limit (found_in rs) item))) disk stop)
          ≡ Stops image
          → CrashLeaves service rs (Some (Appends item)) image
      by true room is =
          let more = has_room item room in
          stops_more (Appends item) item (length (front service rs)) stop image refl
          (can_append service rs item fits (decision_follows (found_in rs) item decision) more) more is
      by false room is = absurd (no_crash is)

  -- the Done of a decision that stands
  done_room : (place : ℕ) → IsTrue (list_any (is_decision_at place) (found_in rs).standing)
      → used (front service (rs ++ Done place ∷ [])) (found_in (rs ++ Done place ∷ [])) ≤ area_limit
  done_room place stands = let less = grow.dones service place rs stands in omega (arith, less, order.room)

  keeps_by : (wanted : Option Wanted) (stop : Option Stop) (stood : Option Stood) (later : DiskState) (next : Option Stop) → CanAsk wanted (found_in rs)
      → asks_by wanted (Some rs) service (found_in rs) disk stop ≡ Answers stood later next → AskingLeaves service rs wanted stood later
  keeps_by None stop stood later next can is =
      let told_is = answer_of is in
      subst (AskingLeaves service rs None stood) (sym told_is.1) (leaves_as_before service rs None stood disk order refl)
  keeps_by (Some Rereads) stop stood later next can is =
      let told_is = answer_of is in
      subst (AskingLeaves service rs (Some Rereads) stood) (sym told_is.1) (leaves_as_before service rs (Some Rereads) stood disk order refl)
  keeps_by (Some (Appends item)) stop stood later next can is = decision_kept item stop stood later next can.0 can.1 is
  keeps_by (Some (WritesDone place)) stop stood later next can is =
      stands_more (WritesDone place) (Done place) place stop stood later next refl (sym (grow.added service rs (Done place)))
      (can_append service rs (Done place) can.0 can.1 (done_room place can.1)) (done_room place can.1) is

  stops_by : (wanted : Option Wanted) (stop : Option Stop) (image : List ℕ) → CanAsk wanted (found_in rs)
      → asks_by wanted (Some rs) service (found_in rs) disk stop ≡ Stops image → CrashLeaves service rs wanted image
  stops_by None stop image can is = absurd (no_crash is)
  stops_by (Some Rereads) stop image can is = absurd (no_crash is)
  stops_by (Some (Appends item)) stop image can is = decision_stopped item stop image can.0 can.1 is
  stops_by (Some (WritesDone place)) stop image can is =
      stops_more (WritesDone place) (Done place) place stop image refl (can_append service rs (Done place) can.0 can.1 (done_room place can.1)) (done_room place can.1) is

module _ (grow : JournalsGrow) (safe : AppendsAreSafe) (through : AppendsGoThrough) (stopped : StoppedAppendsAreSafe) (read : RecordsAreRead) where
  pub asked_journals_keep : AskedJournalsKeep
  unfolding asks
  asked_journals_keep wanted service rs disk stop stood later next order can is =
      let at = read service disk.reads rs order.stands in
      keeps_by grow safe through stopped service rs disk order wanted stop stood later next can
      (ap (λ held. asks_by wanted held service (found_in rs) disk stop) (sym at) ∙ is)

  pub asked_journals_stop : AskedJournalsStop
  unfolding asks
  asked_journals_stop wanted service rs disk stop image order can is =
      let at = read service disk.reads rs order.stands in
      stops_by grow safe through stopped service rs disk order wanted stop image can
      (ap (λ held. asks_by wanted held service (found_in rs) disk stop) (sym at) ∙ is)
