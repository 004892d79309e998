-- Octets mean something.
use Rattle.std.proofs.Common.{◌≡◌, inl, inr, Bool, true, false, ltb, ℕ, zero, suc, ◌+◌, ◌-◌, ◌<◌, ◌≤◌, ◌⊎◌, List, [], ◌∷◌, ◌++◌, length, get_or, drop, Option, Some, None, refl, sym, ap, subst, ◌∙◌, arith, length-append, length-drop}
use Rattle.std.proofs.lemmas.Bool.{cases_eq, ltb-false, ltb-true}
use Rattle.std.proofs.lemmas.List.{drop_at}
use Rattle.decision_journal.specs.declared.record.JournalRecord.{JournalRecord}
use Rattle.decision_journal.specs.Limits.{area_limit}
use Rattle.decision_journal.specs.Reading.{body_at}
use Rattle.decision_journal.specs.Journal.{Found, IsOtherHeader, IsScanned, Meaning, Means, Records, Broken, OtherHeader, can_follow, first_gate, header, nothing_found, with_record}
use Rattle.decision_journal.specs.Laws.{AreOctets}
use Rattle.decision_journal.proofs.Append.{body}
use Rattle.decision_journal.proofs.Codecs.{IsOctets, IsOctets-drop}
use Rattle.decision_journal.proofs.Images.{begins_with}
use Rattle.decision_journal.proofs.Kept.{stands_from}
use Rattle.decision_journal.proofs.Scans.{IsScanning, breaks, ends, goes_on, starts}
use Rattle.decision_journal.proofs.Steps.{body_takes, is_step, none_read, outside_read, unfit_read}

octets_at : (octets : List ℕ) → AreOctets octets → IsOctets octets
octets_at [] are i = omega arith
octets_at (o ∷ octets) are zero = are.0
octets_at (o ∷ octets) are (suc i) = octets_at octets are.1 i

less_or_not : (a b : ℕ) → (a < b) ⊎ (a < b → ⊥)
less_or_not a b = by_test (ltb a b) refl
  where
    by_test : (t : Bool) → ltb a b ≡ t → (a < b) ⊎ (a < b → ⊥)
    by_test true e = inl (ltb-true a b e)
    by_test false e = inr (λ less. omega (arith, ltb-false a b e, less))

module _ (service : ℕ) (octets : List ℕ) where
  abbrev pub Meant : Type 0
  Meant = (m : Meaning) × Means service octets m

  scanned : (found : Found) (rest : List ℕ) → IsScanned service octets found rest → Meant
  scanned found rest s = (
    Records s.filled.0,
    stands_from service s.before octets found s.filled.0 s.filled.1 (record { gate = s.gate; behind = s.behind; octets_are = s.octets_are ∙ ap (λ (l : List ℕ). s.before ++ l) s.rest_is; closed = s.closed }),
  )

  abbrev Next : ℕ → Type 0
  Next n = (rest : List ℕ) (found : Found) → length rest < n → IsOctets rest → IsScanning service octets found rest → Meant

  -- behind an open gate
  module _ (n : ℕ) (next : Next n) (behind : List ℕ) (found : Found) (less : length behind < n) (are : IsOctets behind) (scanning : IsScanning service octets found (1 ∷ behind)) where
    abbrev place : ℕ
    place = length octets - length (1 ∷ behind)

    read : (item : JournalRecord) (after : List ℕ) → body_at behind ≡ Some (item, after) → Meant
    read item after e = elim (less_or_not 0 (length after)) [
      | inr none ↦ (Broken place, breaks service octets found (1 ∷ behind) scanning behind refl (outside_read place behind found item after are e (λ w. none w.0)))
      | inl more ↦ elim (less_or_not (place + (1 + (length behind - length after))) area_limit) [
        | inr beyond ↦ (Broken place, breaks service octets found (1 ∷ behind) scanning behind refl (outside_read place behind found item after are e (λ w. beyond w.1)))
        | inl within ↦ by_follow (can_follow found item) refl more within
      ]
    ]
      where
        by_follow : (b : Bool) → can_follow found item ≡ b → 0 < length after → place + (1 + (length behind - length after)) < area_limit → Meant
        by_follow false f more within = (Broken place, breaks service octets found (1 ∷ behind) scanning behind refl (unfit_read place behind found item after e f))
        by_follow true f more within =
            let parts = (body_takes behind item after are e).0 in
            let shorter : length after < n = omega (arith, less, ap length parts, length-append (body item) after) in
            let rest_are : IsOctets after = subst IsOctets (ap (drop (length (body item))) parts ∙ drop_at (body item) after (length (body item)) refl) (IsOctets-drop (length (body item)) behind are) in
            next after (with_record found place item) shorter rest_are
            (goes_on service octets found (1 ∷ behind) scanning behind after (with_record found place item) refl (is_step behind item after are e place found (with_record found place item) more within f refl))

    opened : Meant
    opened = by_read (body_at behind) refl
      where
        by_read : (o : Option (JournalRecord × List ℕ)) → body_at behind ≡ o → Meant
        by_read None e = (Broken place, breaks service octets found (1 ∷ behind) scanning behind refl (none_read place behind found e))
        by_read (Some x) e = read x.0 x.1 e

  at_gate : (n : ℕ) → Next n → Next (suc n)
  at_gate n next [] found less are scanning = absurd (omega (arith, scanning.more))
  at_gate n next (g ∷ behind) found less are scanning = elim (cases_eq g 1) [
    | inl is ↦ opened n next behind found (omega (arith, less)) (λ i. are (suc i)) (subst (λ (g : ℕ). IsScanning service octets found (g ∷ behind)) is scanning)
    | inr closed ↦ scanned found (g ∷ behind) (ends service octets found (g ∷ behind) scanning g behind refl closed)
  ]

  each : (n : ℕ) → Next n
  each zero rest found less are scanning = absurd (omega (arith, less))
  each (suc n) rest found less are scanning = at_gate n (each n) rest found less are scanning

  -- the header, up to a place
  abbrev SameTo : ℕ → Type 0
  SameTo n = (k : ℕ) → k < n → get_or octets k 0 ≡ get_or (header service) k 0

  header_to : (n : ℕ) → n ≤ 16 → SameTo n ⊎ ((p : ℕ) × IsOtherHeader service octets p)
  header_to zero le = inl (λ k lt. absurd (omega (arith, lt)))
  header_to (suc n) le = elim (header_to n (omega (arith, le))) [
    | inr other ↦ inr other
    | inl same ↦ elim (cases_eq (get_or octets n 0) (get_or (header service) n 0)) [
      | inr differs ↦ inr (n, record { same = same; differs = differs; within = omega (arith, le) })
      | inl is ↦ inl (λ k lt. elim (cases_eq k n) [
        | inl at ↦ subst (λ (k : ℕ). get_or octets k 0 ≡ get_or (header service) k 0) (sym at) is
        | inr below ↦ same k (omega (arith, lt, below))
      ])
    ]
  ]

  pub meant : AreOctets octets → 16 < length octets → Meant
  meant are long = elim (header_to 16 (omega arith)) [
    | inr other ↦ (OtherHeader other.0, other.1)
    | inl same ↦
        let rest = drop 16 octets in
        let begins : octets ≡ header service ++ rest = begins_with (header service) octets (omega (arith, long)) (λ i lt. same i lt) in
        each (suc (length rest)) rest nothing_found (omega arith) (IsOctets-drop 16 octets (octets_at octets are)) (starts service octets rest nothing_found begins (omega (arith, long, length-drop 16 octets)) refl)
  ]

pub some_meaning : (service : ℕ) (octets : List ℕ) → AreOctets octets → first_gate < length octets → (m : Meaning) × Means service octets m
some_meaning service octets are long = meant service octets are long
