-- Records, read one after another.
use Rattle.std.proofs.Common.{◌≡◌, ◌≢◌, ℕ, ◌+◌, ◌-◌, ◌<◌, ◌≤◌, List, [], ◌∷◌, ◌++◌, length, get_or, take, drop, sym, ap, subst, ◌∙◌, arith, append_assoc, length-append}
use Rattle.std.specs.Prelude.{IsTrue}
use Rattle.std.specs.List.{flat_map}
use Rattle.std.proofs.lemmas.List.{append-nil, take_all, take_at}
use Rattle.std.proofs.lemmas.List.Concat.{flat_map-cons}
use Rattle.decision_journal.specs.declared.record.JournalRecord.{JournalRecord}
use Rattle.decision_journal.specs.Limits.{area_limit}
use Rattle.decision_journal.specs.Layout.{record_octets, Fits}
use Rattle.decision_journal.specs.Journal.{AreRecords, Found, nothing_found, first_gate, with_record, with_records, found_in, can_follow, front, header, IsFilled, IsStep, HasNoStep, IsBroken, IsScanned, StandsAt}
use Rattle.decision_journal.proofs.Append.{fit_more, in_turn_more, front_more}

pub with_records-more : (found : Found) (place : ℕ) (rs : List JournalRecord) (r : JournalRecord) → with_records found place (rs ++ r ∷ []) ≡ with_record (with_records found place rs) (place + length (flat_map record_octets rs)) r
with_records-more found place [] r = let e : place ≡ place + 0 = omega arith in ap (λ (p : ℕ). with_record found p r) e
with_records-more found place (s ∷ rs) r =
    let e : place + length (record_octets s) + length (flat_map record_octets rs) ≡ place + length (flat_map record_octets (s ∷ rs)) =
    omega (arith, ap length (flat_map-cons record_octets s rs), length-append (record_octets s) (flat_map record_octets rs)) in
    with_records-more (with_record found place s) (place + length (record_octets s)) rs r
    ∙ ap (λ (p : ℕ). with_record (with_records (with_record found place s) (place + length (record_octets s)) rs) p r) e

pub length_front : (service : ℕ) (rs : List JournalRecord) → length (front service rs) ≡ 16 + length (flat_map record_octets rs)
length_front service rs = omega (arith, length-append (header service) (flat_map record_octets rs))

-- records, with one more behind them
pub more_are : (service gate : ℕ) (before : List ℕ) (found after : Found) (item : JournalRecord) (rs : List JournalRecord) → AreRecords service before found rs → gate ≡ length before → Fits item → IsTrue (can_follow found item)
    → gate + length (record_octets item) < area_limit → after ≡ with_record found gate item → AreRecords service (before ++ record_octets item) after (rs ++ item ∷ [])
more_are service gate before found after item rs a gate_is fits follows within after_is =
    let place : gate ≡ first_gate + length (flat_map record_octets rs) = omega (arith, gate_is, ap length a.octets_are, length_front service rs) in
    record {
      octets_are = ap (λ (l : List ℕ). l ++ record_octets item) a.octets_are ∙ sym (front_more service rs item);
      fit = fit_more rs item a.fit fits;
      in_turn = in_turn_more nothing_found first_gate rs item a.in_turn (subst (λ (f : Found). IsTrue (can_follow f item)) a.found_is follows);
      within = omega (arith, ap length (front_more service rs item), length-append (front service rs) (record_octets item), gate_is, ap length a.octets_are, within);
      found_is = after_is ∙ ap (λ (f : Found). with_record f gate item) a.found_is ∙ ap (λ (p : ℕ). with_record (found_in rs) p item) place ∙ sym (with_records-more nothing_found first_gate rs item);
    }

pub more_records : (service gate : ℕ) (before : List ℕ) (found after : Found) (item : JournalRecord) → IsFilled service before found → gate ≡ length before → Fits item → IsTrue (can_follow found item)
    → gate + length (record_octets item) < area_limit → after ≡ with_record found gate item → IsFilled service (before ++ record_octets item) after
more_records service gate before found after item filled gate_is fits follows within after_is =
    (filled.0 ++ item ∷ [], more_are service gate before found after item filled.0 filled.1 gate_is fits follows within after_is)

-- records, and a rest, of which there is some
pub record IsScanning (service : ℕ) (octets : List ℕ) (found : Found) (rest : List ℕ) : Type 0 where
  pub before : List ℕ
  pub octets_are : octets ≡ before ++ rest
  pub filled : IsFilled service before found
  pub more : 0 < length rest

module _ (service : ℕ) (octets : List ℕ) (found : Found) (rest : List ℕ) (scanning : IsScanning service octets found rest) where
  pub gate_at : length octets - length rest ≡ length scanning.before
  gate_at = omega (arith, ap length scanning.octets_are, length-append scanning.before rest)

  pub rest_short : length rest ≤ length octets
  rest_short = omega (arith, ap length scanning.octets_are, length-append scanning.before rest)

  pub gate_within : length octets - length rest < area_limit
  gate_within = omega (arith, gate_at, ap length scanning.filled.1.octets_are, scanning.filled.1.within)

  pub goes_on : (behind after : List ℕ) (found_after : Found) → rest ≡ 1 ∷ behind → IsStep (length octets - length rest) behind found found_after after → IsScanning service octets found_after after
  goes_on behind after found_after is step = record {
    before = scanning.before ++ record_octets step.item;
    octets_are = scanning.octets_are ∙ ap (λ (l : List ℕ). scanning.before ++ l) (is ∙ ap (λ (l : List ℕ). 1 ∷ l) step.octets_are) ∙ sym (append_assoc scanning.before (record_octets step.item) after);
    filled = more_records service (length octets - length rest) scanning.before found found_after step.item scanning.filled gate_at step.fits step.follows step.within step.after_is;
    more = step.more;
  }

  pub breaks : (behind : List ℕ) → rest ≡ 1 ∷ behind → HasNoStep (length octets - length rest) behind found → IsBroken service octets (length octets - length rest)
  breaks behind is none = record {
    before = scanning.before;
    found = found;
    behind = behind;
    octets_are = scanning.octets_are ∙ ap (λ (l : List ℕ). scanning.before ++ l) is;
    place_is = gate_at;
    filled = scanning.filled;
    none = none;
  }

  pub ends : (gate : ℕ) (behind : List ℕ) → rest ≡ gate ∷ behind → gate ≢ 1 → IsScanned service octets found rest
  ends gate behind is closed = record { before = scanning.before; octets_are = scanning.octets_are; filled = scanning.filled; gate = gate; behind = behind; rest_is = is; closed = closed }

pub starts : (service : ℕ) (octets rest : List ℕ) (found : Found) → octets ≡ header service ++ rest → 0 < length rest → found ≡ nothing_found → IsScanning service octets found rest
starts service octets rest found is more none = record {
  before = header service;
  octets_are = is;
  filled = ([], record { octets_are = sym (append-nil (header service)); fit = tt; in_turn = tt; within = omega (arith, length_front service []); found_is = none });
  more = more;
}

-- what stands behind the first octet
pub behind_first : (rest : List ℕ) (n : ℕ) → 0 < length rest → get_or rest 0 0 ≡ 1 → n ≡ length rest - 1 → rest ≡ 1 ∷ take n (drop 1 rest)
behind_first [] n some first is = absurd (omega arith)
behind_first (g ∷ rest) n some first is = ap (λ (h : ℕ). h ∷ rest) first ∙ ap (λ (l : List ℕ). 1 ∷ l) (sym (take_all n rest (omega arith)))

-- octets that were scanned, and what is left of them before the rest
module _ (service : ℕ) (octets read new : List ℕ) (found : Found) (rest : List ℕ) (n : ℕ) (read_is : read ≡ octets) (scanned : IsScanned service read found rest) (n_is : n ≡ length octets - length rest) (new_is : new ≡ take n octets) where
  are : octets ≡ scanned.before ++ rest
  are = sym read_is ∙ scanned.octets_are

  scanned_front : new ≡ scanned.before
  scanned_front = new_is ∙ ap (take n) are ∙ take_at scanned.before rest n (omega (arith, ap length are, length-append scanned.before rest, n_is))

  pub scanned_filled : (after : Found) → after ≡ found → IsFilled service new after
  scanned_filled after after_is = subst (λ (l : List ℕ). IsFilled service l after) (sym scanned_front) (subst (λ (f : Found). IsFilled service scanned.before f) (sym after_is) scanned.filled)

  pub scanned_stands : StandsAt new octets
  scanned_stands = record {
    gate = scanned.gate;
    behind = scanned.behind;
    octets_are = are ∙ ap (λ (l : List ℕ). scanned.before ++ l) scanned.rest_is ∙ ap (λ (l : List ℕ). l ++ scanned.gate ∷ scanned.behind) (sym scanned_front);
    closed = scanned.closed;
  }
