-- What comes of a call, by the stop that was to come.
use Rattle.std.proofs.Common.{◌≡◌, ◌≢◌, inl, inr, ℕ, suc, ◌+◌, ◌-◌, ◌<◌, ◌≤◌, Bool, true, false, cond, nat_le, List, [], ◌∷◌, ◌++◌, length, Option, Some, None, refl, sym, ap, subst, ◌∙◌, arith}
use Rattle.std.proofs.lemmas.Bool.Decides.{nat_tests}
use Rattle.ior_refs.specs.declared.key.ObjectKey.{ObjectKey}
use Rattle.ots_model.specs.declared.completion.Stood.{Stood}
use Rattle.ots_model.specs.declared.completion.Stood.TheVariants as answers
use Rattle.ots_outside.specs.Disk.{DiskState, written}
use Rattle.decision_journal.specs.Laws.{appended, behind_gate, filled_behind}
use Rattle.decision_journal.specs.Layout.{record_octets}
use Rattle.decision_journal.specs.declared.record.JournalRecord.{JournalRecord}
use Rattle.recovery_coord.specs.Laws.{CompletesOnce}
use Rattle.coordinator.specs.NodeCalls.{applies, call_wants, family_for}
use Rattle.coordinator.specs.Step.{Wanted, Appends, WritesDone, Rereads}
use Rattle.coordinator.specs.declared.event.Event.{Event}
use Rattle.family_laws.specs.LawsOfJournal.{FamiliesCloseLast}
use Rattle.decision_journal.proofs.Append.{body}
use Rattle.decision_journal.proofs.Scans.{length_front}
use Rattle.nodes_world.specs.Disks.{Broken, Stop, Struck, Whole, left_by, strikes}
use Rattle.nodes_world.specs.Journals.{Answers, Stops, answered_by, append_strokes}
use Rattle.nodes_world.specs.Laws.{IsWanted, StoppedAppendsAreSafe}
use Rattle.nodes_parts.specs.Gated.{place_behind}
use Rattle.nodes_parts.specs.Striking.{HasGone, in_first, in_second}
use Rattle.nodes_parts.specs.declared.disks.Appended.{Appended}
use Rattle.nodes_parts.specs.declared.disks.Stop.{Stop as KeptStop}
use Rattle.nodes_lives.specs.Calling.{stop_of}
use Rattle.service_node.specs.Given.{node_makes}
use Rattle.nodes_lives.specs.First.{heard_by, told_before}
use Rattle.nodes_lives.specs.Living.{Living}
use Rattle.nodes_lives.specs.Loads.{StoresJournal}
use Rattle.nodes_lives.specs.Striking.{left_in}
use Rattle.nodes_lives.specs.Writing.{HasWritten, Writes, asked_by, nothing, one}
use Rattle.nodes_lives.proofs.Firsts.{comes_before}
use Rattle.nodes_lives.proofs.Striking as striking

abbrev first_write : ℕ → JournalRecord → DiskState → DiskState
first_write gate r disk = written (gate + 1) (behind_gate r) disk

abbrev second_write : ℕ → JournalRecord → DiskState → DiskState
second_write gate r disk = written gate (1 ∷ []) (filled_behind gate (behind_gate r) disk)

-- an append, stroke by stroke
whole_struck : (gate : ℕ) (r : JournalRecord) (disk : DiskState) → strikes (append_strokes gate r) disk None ≡ Whole (appended gate (behind_gate r) disk) None
unfolding strikes
whole_struck gate r disk = refl

abbrev struck : ℕ → JournalRecord → DiskState → Stop → Bool → Bool → Struck
struck gate r disk s early late =
    cond early (Broken (left_by s.image (first_write gate r disk)))
    (cond late (Broken (left_by s.image (second_write gate r disk))) (Whole (appended gate (behind_gate r) disk) (Some (record s { write = s.write - 1 - 1 }))))

struck_is : (gate : ℕ) (r : JournalRecord) (disk : DiskState) (s : Stop) → strikes (append_strokes gate r) disk (Some s) ≡ struck gate r disk s (nat_le s.write 1) (nat_le (s.write - 1) 1)
unfolding strikes
struck_is gate r disk s = refl

broken_by : (answer : Stood) (x : Struck) (image : List ℕ) → answered_by answer x ≡ Stops image → x ≡ Broken image
broken_by answer (Whole disk stop) image is = absurd cc
broken_by answer (Broken left) image is = cc

wanted_some : (o : Option Wanted) (r : JournalRecord) → IsWanted o r → (w : Wanted) × (o ≡ Some w)
wanted_some (Some (Appends item)) r is = (Appends item, refl)
wanted_some (Some (WritesDone place)) r is = (WritesDone place, refl)
wanted_some (Some Rereads) r is = absurd is
wanted_some None r is = absurd is

module _ (k : ObjectKey) (e : Event) (loaded : List ℕ) (before : Living) (after : DiskState) (stood : Option Stood) (end now : ℕ) where
  -- no stop comes
  pub asked_none : Writes k e loaded before after stood end now → asked_by k e before None ≡ Answers stood after None
  asked_none (nothing same stays asks) = asks None ∙ ap (λ (d : DiskState). Answers stood d None) (sym same)
  asked_none (one rs r at wanted was is_now own can stands has asks) =
      asks None ∙ ap (answered_by (answers.Stands at)) (whole_struck (place_behind rs) r before.disk)
      ∙ ap (λ (x : Option Stood). Answers x (appended (place_behind rs) (behind_gate r) before.disk) None) (sym stands)
      ∙ ap (λ (d : DiskState). Answers stood d None) (sym has.disk)

  -- what a stop leaves holds a journal
  pub image_holds : StoppedAppendsAreSafe → Writes k e loaded before after stood end now → (s : Stop) (image : List ℕ) → asked_by k e before (Some s) ≡ Stops image
      → StoresJournal before.node.service image
  image_holds safe (nothing same stays asks) s image stops = absurd (no (sym (asks (Some s)) ∙ stops))
    where
      no : Answers stood before.disk (Some s) ≡ Stops image → ⊥
      no e = cc
  image_holds safe (one rs r at wanted was is_now own can stands has asks) s image stops =
      let broken = broken_by (answers.Stands at) (strikes (append_strokes (place_behind rs) r) before.disk (Some s)) image (sym (asks (Some s)) ∙ stops) in
      let left = safe before.node.service rs r before.disk (Some s) image has.settled own can
      (ap (λ (g : ℕ). strikes (append_strokes g r) before.disk (Some s)) (length_front before.node.service rs) ∙ broken) in
      elim left [
        | inl old ↦ record { records = rs; stands = old }
        | inr new ↦ record { records = rs ++ r ∷ []; stands = new }
      ]

  -- nothing was written
  pub asked_same : Writes k e loaded before after stood end now → now ≡ end → (stop : Option Stop) → asked_by k e before stop ≡ Answers stood after stop
  asked_same (nothing same stays asks) is stop = asks stop ∙ ap (λ (d : DiskState). Answers stood d stop) (sym same)
  asked_same (one rs r at wanted was is_now own can stands has asks) is stop =
      let long : length (record_octets r) ≡ suc (length (body r)) = refl in
      absurd (omega (arith, was, is_now, is, striking.one_further rs r, long))

  -- what the call was answered begins with what the family had heard
  pub has_heard : FamiliesCloseLast → CompletesOnce → node_makes e.act ≡ false → Writes k e loaded before after stood end now → now ≢ end
      → told_before (applies k e stood before.node).answer ≡ heard_by (family_for k e before.node) e.act
  has_heard closing once given (nothing same stays asks) other = absurd (other stays)
  has_heard closing once given (one rs r at wanted was is_now own can stands has asks) other =
      let w = wanted_some (call_wants k e before.node) r wanted in
      ap (λ (x : Option Stood). told_before (applies k e x before.node).answer) stands ∙ comes_before closing once k e before.node given at w.0 w.1

  -- a stop comes two writes nearer
  pub asked_nearer : Writes k e loaded before after stood end now → now ≢ end → (s : Stop) → 2 < s.write
      → asked_by k e before (Some s) ≡ Answers stood after (Some (record s { write = s.write - 2 }))
  asked_nearer (nothing same stays asks) other s later = absurd (other stays)
  asked_nearer (one rs r at wanted was is_now own can stands has asks) other s later =
      asks (Some s) ∙ ap (answered_by (answers.Stands at)) (struck_is (place_behind rs) r before.disk s
      ∙ ap (λ (b : Bool). struck (place_behind rs) r before.disk s b (nat_le (s.write - 1) 1)) (above s.write 1 (omega (arith, later)))
      ∙ ap (λ (b : Bool). struck (place_behind rs) r before.disk s false b) (above (s.write - 1) 1 (omega (arith, later))))
      ∙ ap (λ (x : Option Stood). Answers x (appended (place_behind rs) (behind_gate r) before.disk) (Some (record s { write = s.write - 1 - 1 }))) (sym stands)
      ∙ ap (λ (d : DiskState). Answers stood d (Some (record s { write = s.write - 1 - 1 }))) (sym has.disk)
      ∙ ap (λ (n : ℕ). Answers stood after (Some (record s { write = n }))) two
    where
      above : (a b : ℕ) → b < a → nat_le a b ≡ false
      above a b is = grind (arith, nat_tests)

      two : s.write - 1 - 1 ≡ s.write - 2
      two = omega arith

  module _ (a : Appended) (reads : a.reads.now ≡ after.reads) (base : a.loaded.now ≡ loaded) (last_is : a.gates.last ≡ end) (end_is : a.gates.end ≡ now) where
    for_base : (rs : List JournalRecord) (r : JournalRecord) → HasWritten loaded before.disk after rs r → HasWritten a.loaded.now before.disk after rs r
    for_base rs r h = subst (λ (xs : List ℕ). HasWritten xs before.disk after rs r) (sym base) h

    -- the append went through
    pub has_gone : Writes k e loaded before after stood end now → now ≢ end → HasGone a
    has_gone (nothing same stays asks) other = absurd (other stays)
    has_gone (one rs r at wanted was is_now own can stands has asks) other =
        striking.gone a before.disk after rs r (for_base rs r has) reads (last_is ∙ was) (end_is ∙ is_now)

    -- a stop strikes
    pub asked_stops : Writes k e loaded before after stood end now → now ≢ end → (s : KeptStop) → s.write ≤ 2
        → asked_by k e before (Some (stop_of s)) ≡ Stops (left_in a s)
    asked_stops (nothing same stays asks) other s soon = absurd (other stays)
    asked_stops (one rs r at wanted was is_now own can stands has asks) other s soon =
        asks (Some (stop_of s)) ∙ ap (answered_by (answers.Stands at)) (struck_is (place_behind rs) r before.disk (stop_of s)) ∙ by (nat_le s.write 1) refl
      where
        h : HasWritten a.loaded.now before.disk after rs r
        h = for_base rs r has

        last : a.gates.last ≡ place_behind rs
        last = last_is ∙ was

        end_now : a.gates.end ≡ place_behind (rs ++ r ∷ [])
        end_now = end_is ∙ is_now

        second : (m : ℕ) → m ≤ 2 → nat_le (m - 1) 1 ≡ true
        second m is = grind (arith, nat_tests)

        by : (b : Bool) → nat_le s.write 1 ≡ b → answered_by (answers.Stands at) (struck (place_behind rs) r before.disk (stop_of s) b (nat_le (s.write - 1) 1))
            ≡ Stops (cond b (left_by s.image (in_first a)) (left_by s.image (in_second a)))
        by true is = ap (λ (xs : List ℕ). Stops xs) (sym (striking.first_left a before.disk after rs r h reads last end_now s.image))
        by false is =
            ap (λ (b : Bool). answered_by (answers.Stands at) (struck (place_behind rs) r before.disk (stop_of s) false b)) (second s.write soon)
            ∙ ap (λ (xs : List ℕ). Stops xs) (sym (striking.second_left a before.disk after rs r h reads last end_now s.image))
