-- A crash inside a load, over the definitions alone.
use Rattle.std.proofs.Common.{◌≡◌, inl, inr, Bool, true, false, cond, ltb, ℕ, ◌<◌, List, [], ◌∷◌, ◌++◌, length, get_or, refl, sym, ap, subst, arith, length-append}
use Rattle.ots_outside.specs.Disk.{DiskState, IsImage, LeavesOnly, LeavesOnlySince, synced}
use Rattle.decision_journal.specs.declared.record.JournalRecord.{JournalRecord}
use Rattle.decision_journal.specs.Journal.{Holds, IsFresh, StandsFor, StandsForEither, first_letter, found_in, front, is_fresh}
use Rattle.decision_journal.specs.Laws.{CanAppend, IsSettled, appended, behind_gate, cleared, created}
use Rattle.decision_journal.specs.State.{IsOldOrMore}
use Rattle.decision_journal.specs.Loading.{IsHeld, IsHeldOrBegun, IsStarted, LoadIsSafe, loaded, next_life}
use Rattle.decision_journal.proofs.Append.{append_safe}
use Rattle.decision_journal.proofs.Creation.{creation_safe}
use Rattle.decision_journal.proofs.Scans.{length_front}
use Rattle.decision_journal.proofs.Since.{image_of, since_start, since_weaker}
use Rattle.decision_journal.proofs.Starts.{begun_at, safe_behind, safe_from, started_behind, to_begun}

-- octets that are not yet a journal, by the test
pub fresh_test : (o : List ℕ) → IsFresh o → is_fresh o ≡ true
fresh_test o (inl less) = rw (ltb_of less) refl
  where
    ltb_of : length o < 17 → ltb (length o) 17 ≡ true
    ltb_of lt = grind arith
fresh_test o (inr whole) = grind arith

-- and a journal
pub stands_test : (service : ℕ) (o : List ℕ) (rs : List JournalRecord) → StandsFor service o rs → is_fresh o ≡ false
stands_test service o rs stands =
    let long : 16 < length o = omega (arith, ap length stands.octets_are, length-append (front service rs) (stands.gate ∷ stands.behind), length_front service rs) in
    let first : get_or o 0 0 ≡ first_letter = ap (λ (o : List ℕ). get_or o 0 0) stands.octets_are in
    grind arith

module _ (service : ℕ) (rs : List JournalRecord) (s : DiskState) (image : IsImage s.present s.reads) (can : CanAppend service rs (next_life rs)) where
  abbrev Safe : DiskState → Type 0
  Safe u = LeavesOnlySince (IsHeldOrBegun service s) s u × StandsFor service u.reads (rs ++ next_life rs ∷ []) × IsSettled u

  -- a journal was made or found, and the next life is appended
  append_life : (t : DiskState) → LoadIsSafe service (synced s) t → IsStarted service (front service rs) (found_in rs) (synced s) t → IsSettled t → StandsFor service t.reads rs → LeavesOnly (IsHeld service) s.present → Safe (appended (length (front service rs)) (behind_gate (next_life rs)) t)
  append_life t safe started settled stands premise =
      let u = appended (length (front service rs)) (behind_gate (next_life rs)) t in
      let added = append_safe service rs (next_life rs) t settled stands can in
      let second : LeavesOnlySince (IsOldOrMore service t (next_life rs)) t u = since_weaker (StandsForEither service rs (next_life rs)) (IsOldOrMore service t (next_life rs)) t u
      (λ c either. (rs, (record { image = t.reads; is_image = image_of t settled; stands = stands }, either))) added.0 in
      let whole = started_behind service s image (front service rs) (found_in rs) t started in
      (safe_from service (front service rs) (found_in rs) _ refl s t whole u (safe_behind service s image t safe) second premise, added.1, added.2)

  found : StandsFor service s.reads rs → LeavesOnly (IsHeld service) s.present → Safe (appended (length (front service rs)) (behind_gate (next_life rs)) (synced s))
  found stands premise =
      append_life (synced s) (λ held. since_start (IsHeldOrBegun service (synced s)) (synced s) (begun_at service (synced s) (image_of (synced s) refl) held))
      (record {
        records = rs;
        held = inl stands;
        are = record { octets_are = refl; fit = stands.fit; in_turn = stands.in_turn; within = stands.within; found_is = refl };
        rest = record { settled = refl; stands = record { gate = stands.gate; behind = stands.behind; octets_are = stands.octets_are; closed = stands.closed } };
        image = image_of (synced s) refl;
      }) refl stands premise

  made : IsFresh s.reads → rs ≡ [] → LeavesOnly (IsHeld service) s.present → Safe (appended (length (front service rs)) (behind_gate (next_life rs)) (created service (cleared (synced s))))
  made fresh none premise =
      let t = created service (cleared (synced s)) in
      let safe = creation_safe service (synced s) refl fresh in
      let stands : StandsFor service t.reads rs = subst (StandsFor service t.reads) (sym none) safe.1 in
      append_life t
      (λ held. since_weaker (λ c. Holds service c []) (IsHeldOrBegun service (synced s)) (synced s) t (λ c holds. to_begun service (synced s) c refl fresh holds) safe.0)
      (record {
        records = rs;
        held = inr (fresh, none);
        are = record { octets_are = refl; fit = stands.fit; in_turn = stands.in_turn; within = stands.within; found_is = refl };
        rest = record { settled = safe.2; stands = record { gate = stands.gate; behind = stands.behind; octets_are = stands.octets_are; closed = stands.closed } };
        image = image_of (synced s) refl;
      }) safe.2 stands premise

  pub by_holds : Holds service s.reads rs → LeavesOnly (IsHeld service) s.present → Safe (loaded service rs s)
  by_holds (inl stands) premise =
      subst (λ (b : Bool). Safe (appended (length (front service rs)) (behind_gate (next_life rs)) (cond b (created service (cleared (synced s))) (synced s)))) (sym (stands_test service s.reads rs stands)) (found stands premise)
  by_holds (inr fresh) premise =
      subst (λ (b : Bool). Safe (appended (length (front service rs)) (behind_gate (next_life rs)) (cond b (created service (cleared (synced s))) (synced s)))) (sym (fresh_test s.reads fresh.0)) (made fresh.0 fresh.1 premise)

pub load_safe : (service : ℕ) (rs : List JournalRecord) (s : DiskState) → LeavesOnly (IsHeld service) s.present → IsImage s.present s.reads → Holds service s.reads rs → CanAppend service rs (next_life rs)
    → let after = loaded service rs s in LeavesOnlySince (IsHeldOrBegun service s) s after × StandsFor service after.reads (rs ++ next_life rs ∷ []) × IsSettled after
load_safe service rs s premise image holds can = by_holds service rs s image can holds premise
