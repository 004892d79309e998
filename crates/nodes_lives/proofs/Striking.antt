-- What a stop inside an append leaves is worked out from the disk behind it.
use Rattle.std.proofs.Common.{◌≡◌, ℕ, suc, ◌+◌, ◌-◌, ◌||◌, nat_le, List, [], ◌∷◌, ◌++◌, length, take, drop, refl, sym, ap, ◌∙◌, arith, append_assoc, length-append}
use Rattle.std.proofs.Math.Seq.{drop-append-add, take-append_seam}
use Rattle.std.proofs.lemmas.List.{append-nil}
use Rattle.std.proofs.lemmas.List.Concat.{flat_map-append, flat_map-cons}
use Rattle.ots_outside.specs.Disk.{DiskState, Moment, overwritten, written}
use Rattle.ots_world.specs.declared.script.Image.{Image}
use Rattle.ots_world.specs.declared.script.Image.TheVariants as images
use Rattle.decision_journal.specs.Laws.{behind_gate, filled_behind}
use Rattle.decision_journal.specs.Layout.{record_octets}
use Rattle.decision_journal.specs.declared.record.JournalRecord.{JournalRecord}
use Rattle.decision_journal.proofs.Append.{body}
use Rattle.nodes_world.specs.Disks.{filled, is_written, left_by}
use Rattle.nodes_parts.specs.Gated.{octets_of, place_behind}
use Rattle.nodes_parts.specs.Striking.{HasGone, behind_last, closed_over, in_first, in_second, reads_before}
use Rattle.nodes_parts.specs.declared.disks.Appended.{Appended}
use Rattle.nodes_lives.specs.Writing.{HasWritten}

-- disks that read the same at the same moment leave the same
left_same : (i : Image) (d x : DiskState) → d.reads ≡ x.reads → d.present ≡ x.present → left_by i d ≡ left_by i x
unfolding left_by
left_same images.Old d x reads present = ap (λ (m : Moment). m.synced) present
left_same images.New d x reads present = reads
left_same (images.Octets octets) d x reads present =
    ap (λ (m : Moment). filled (λ (place : ℕ). is_written m.writes place || nat_le (length m.synced) place) octets [] 0 d.reads) present
    ∙ ap (λ (xs : List ℕ). filled (λ (place : ℕ). is_written x.present.writes place || nat_le (length x.present.synced) place) octets [] 0 xs) reads

pub one_further : (rs : List JournalRecord) (r : JournalRecord) → place_behind (rs ++ r ∷ []) ≡ place_behind rs + length (record_octets r)
one_further rs r =
    let all : length (octets_of (rs ++ r ∷ [])) ≡ length (octets_of rs ++ record_octets r) =
    ap length (flat_map-append record_octets rs (r ∷ []) ∙ ap (λ (xs : List ℕ). octets_of rs ++ xs) (flat_map-cons record_octets r [] ∙ append-nil (record_octets r))) in
    omega (arith, all, length-append (octets_of rs) (record_octets r))

module _ (a : Appended) (before after : DiskState) (rs : List JournalRecord) (r : JournalRecord) (h : HasWritten a.loaded.now before after rs r)
    (reads : a.reads.now ≡ after.reads) (last : a.gates.last ≡ place_behind rs) (end : a.gates.end ≡ place_behind (rs ++ r ∷ [])) where
  abbrev f : List ℕ
  f = h.front

  abbrev place : ℕ
  place = place_behind rs

  abbrev first : DiskState
  first = written (place + 1) (behind_gate r) before

  abbrev second : DiskState
  second = written place (1 ∷ []) (filled_behind place (behind_gate r) before)

  are : a.reads.now ≡ f ++ (record_octets r ++ 0 ∷ h.behind)
  are = reads ∙ h.are

  last_is : a.gates.last ≡ length f
  last_is = last ∙ sym h.place

  -- what was read before
  before_is : reads_before a ≡ before.reads
  before_is =
      ap (λ (n : ℕ). closed_over (take n a.reads.now) a.loaded.now) last_is
      ∙ ap (λ (xs : List ℕ). closed_over (take (length f) xs) a.loaded.now) are
      ∙ ap (λ (xs : List ℕ). closed_over xs a.loaded.now) (take-append_seam f (record_octets r ++ 0 ∷ h.behind))
      ∙ sym h.were

  long : length (record_octets r) ≡ suc (length (body r))
  long = refl

  -- what was written behind the gate
  behind_is : behind_last a ≡ behind_gate r
  behind_is =
      let size : a.gates.end + 1 - (a.gates.last + 1) ≡ length (behind_gate r) =
      omega (arith, last, end, one_further rs r, long, length-append (body r) (0 ∷ [])) in
      ap (λ (n : ℕ). take (a.gates.end + 1 - (a.gates.last + 1)) (drop (n + 1) a.reads.now)) last_is
      ∙ ap (λ (n : ℕ). take n (drop (length f + 1) a.reads.now)) size
      ∙ ap (λ (xs : List ℕ). take (length (behind_gate r)) (drop (length f + 1) xs)) are
      ∙ ap (take (length (behind_gate r))) (drop-append-add f (record_octets r ++ 0 ∷ h.behind) 1 ∙ sym (append_assoc (body r) (0 ∷ []) h.behind))
      ∙ take-append_seam (behind_gate r) h.behind

  first_reads : (in_first a).reads ≡ first.reads
  first_reads =
      ap (λ (xs : List ℕ). overwritten xs (a.gates.last + 1) (behind_last a)) before_is
      ∙ ap (λ (n : ℕ). overwritten before.reads (n + 1) (behind_last a)) last
      ∙ ap (λ (xs : List ℕ). overwritten before.reads (place + 1) xs) behind_is

  second_reads : (in_second a).reads ≡ second.reads
  second_reads =
      ap (λ (xs : List ℕ). overwritten xs a.gates.last (1 ∷ [])) first_reads ∙ ap (λ (n : ℕ). overwritten first.reads n (1 ∷ [])) last

  pub gone : HasGone a
  gone = record {
    gates = omega (arith, last, end, one_further rs r, long);
    within = omega (arith, last_is, end, one_further rs r, last, ap length are, length-append f (record_octets r ++ 0 ∷ h.behind), length-append (record_octets r) (0 ∷ h.behind));
    reads = reads ∙ ap (λ (d : DiskState). d.reads) h.disk ∙ sym second_reads;
  }

  first_present : (in_first a).present ≡ first.present
  first_present =
      ap (λ (xs : List ℕ). record { synced = xs; writes = record { place = a.gates.last + 1; octets = behind_last a } ∷ [] }) before_is
      ∙ ap (λ (n : ℕ). record { synced = before.reads; writes = record { place = n + 1; octets = behind_last a } ∷ [] }) last
      ∙ ap (λ (xs : List ℕ). record { synced = before.reads; writes = record { place = place + 1; octets = xs } ∷ [] }) behind_is
      ∙ ap (λ (m : Moment). record { synced = m.synced; writes = record { place = place + 1; octets = behind_gate r } ∷ m.writes }) (sym h.settled)

  second_present : (in_second a).present ≡ second.present
  second_present =
      ap (λ (xs : List ℕ). record { synced = xs; writes = record { place = a.gates.last; octets = 1 ∷ [] } ∷ [] }) first_reads
      ∙ ap (λ (n : ℕ). record { synced = first.reads; writes = record { place = n; octets = 1 ∷ [] } ∷ [] }) last

  pub first_left : (i : Image) → left_by i (in_first a) ≡ left_by i first
  first_left i = left_same i (in_first a) first first_reads first_present

  pub second_left : (i : Image) → left_by i (in_second a) ≡ left_by i second
  second_left i = left_same i (in_second a) second second_reads second_present
