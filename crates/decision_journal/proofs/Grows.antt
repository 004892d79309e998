-- One more record: what is found then, and what is used.
use Rattle.std.proofs.Common.{◌≡◌, ℕ, ◌+◌, List, [], ◌∷◌, ◌++◌, length, sym, ap, ◌∙◌, arith, append_assoc, append-nil, length-append}
use Rattle.std.specs.List.{flat_map}
use Rattle.decision_journal.specs.declared.record.JournalRecord.{JournalRecord}
use Rattle.decision_journal.specs.declared.record.JournalRecord.TheVariants.{Done}
use Rattle.decision_journal.specs.Growing.{BodiesAreRead, JournalsGrow}
use Rattle.decision_journal.specs.Journal.{first_gate, found_in, front, header, nothing_found, with_record}
use Rattle.decision_journal.specs.Layout.{record_octets}
use Rattle.decision_journal.specs.State.{used}
use Rattle.decision_journal.proofs.Scans.{with_records-more}
use Rattle.decision_journal.proofs.Steps.{body_again}
use Rattle.decision_journal.proofs.Using.{room_done, room_more}

found_more : (service : ℕ) (rs : List JournalRecord) (r : JournalRecord)
    → found_in (rs ++ r ∷ []) ≡ with_record (found_in rs) (length (front service rs)) r
found_more service rs r =
    let place : first_gate + length (flat_map record_octets rs) ≡ length (front service rs) = omega (arith, length-append (header service) (flat_map record_octets rs)) in
    with_records-more nothing_found first_gate rs r ∙ ap (λ p. with_record (found_in rs) p r) place

flat_more : (rs : List JournalRecord) (r : JournalRecord) → flat_map record_octets (rs ++ r ∷ []) ≡ flat_map record_octets rs ++ record_octets r
flat_more [] r = append-nil (record_octets r)
flat_more (s ∷ rs) r =
    ap (λ octets. record_octets s ++ octets) (flat_more rs r) ∙ sym (append_assoc (record_octets s) (flat_map record_octets rs) (record_octets r))

front_more : (service : ℕ) (rs : List JournalRecord) (r : JournalRecord) → front service (rs ++ r ∷ []) ≡ front service rs ++ record_octets r
front_more service rs r =
    ap (λ octets. header service ++ octets) (flat_more rs r) ∙ sym (append_assoc (header service) (flat_map record_octets rs) (record_octets r))

used_more : (service : ℕ) (rs : List JournalRecord) (r : JournalRecord) → used (front service (rs ++ r ∷ [])) (found_in (rs ++ r ∷ []))
    ≡ used (front service rs ++ record_octets r) (with_record (found_in rs) (length (front service rs)) r)
used_more service rs r = ap (λ octets. used octets (found_in (rs ++ r ∷ []))) (front_more service rs r)
    ∙ ap (used (front service rs ++ record_octets r)) (found_more service rs r)

pub journals_grow : JournalsGrow
journals_grow = record {
  added = found_more;
  room = λ area service rs r room. omega (arith, used_more service rs r, room_more area (front service rs) (found_in rs) r room);
  dones = λ service place rs stands. omega (
    arith,
    used_more service rs (Done place),
    room_done (front service rs) (found_in rs) place stands,
  );
}

pub bodies_are_read : BodiesAreRead
bodies_are_read r rest fits small = body_again r rest fits small
