-- What a crash leaves in each step of an append.
use Rattle.std.proofs.Common.{◌≡◌, ◌≢◌, inl, inr, ℕ, suc, ◌+◌, List, [], ◌∷◌, ◌++◌, length, get_or, drop, refl, sym, ap, subst, ◌∙◌, arith, append_assoc, length-append}
use Rattle.std.specs.Prelude.{IsTrue}
use Rattle.std.specs.List.{flat_map, AllByRecursion}
use Rattle.std.proofs.Math.Seq.{take-append-add, take-append_seam, drop-append-add}
use Rattle.std.proofs.lemmas.Bool.{cases_eq}
use Rattle.std.proofs.lemmas.List.{append-nil}
use Rattle.std.proofs.lemmas.List.Concat.{flat_map-append, flat_map-cons}
use Rattle.ots_outside.specs.Disk.{DiskState, Moment, IsImage, LeavesOnly, LeavesOnlySince, overwritten, synced, written}
use Rattle.decision_journal.specs.declared.record.JournalRecord.{JournalRecord}
use Rattle.decision_journal.specs.Layout.{four, payload, record_octets, Fits}
use Rattle.decision_journal.specs.Journal.{AreInTurn, StandsFor, StandsForEither, front, header, Found, nothing_found, first_gate, with_record, with_records, can_follow}
use Rattle.decision_journal.specs.Laws.{CanAppend, IsSettled, appended, behind_gate}
use Rattle.decision_journal.proofs.Images.{image_settled, image_behind, image_one}

-- ---- one record more

pub fit_more : (rs : List JournalRecord) (r : JournalRecord) → AllByRecursion Fits rs → Fits r → AllByRecursion Fits (rs ++ r ∷ [])
fit_more [] r fit one = (one, tt)
fit_more (s ∷ rs) r fit one = (fit.0, fit_more rs r fit.1 one)

pub in_turn_more : (found : Found) (place : ℕ) (rs : List JournalRecord) (r : JournalRecord) → AreInTurn found place rs → IsTrue (can_follow (with_records found place rs) r) → AreInTurn found place (rs ++ r ∷ [])
in_turn_more found place [] r turn follows = (follows, tt)
in_turn_more found place (s ∷ rs) r turn follows = (turn.0, in_turn_more (with_record found place s) (place + length (record_octets s)) rs r turn.1 follows)

pub front_more : (service : ℕ) (rs : List JournalRecord) (r : JournalRecord) → front service (rs ++ r ∷ []) ≡ front service rs ++ record_octets r
front_more service rs r =
    ap (λ (l : List ℕ). header service ++ l) (flat_map-append record_octets rs (r ∷ []) ∙ ap (λ (l : List ℕ). flat_map record_octets rs ++ l) (flat_map-cons record_octets r [] ∙ append-nil (record_octets r)))
    ∙ sym (append_assoc (header service) (flat_map record_octets rs) (record_octets r))

-- the length and the payload
abbrev pub body : JournalRecord → List ℕ
body r = four (length (payload r)) ++ payload r

module _ (service : ℕ) (rs : List JournalRecord) (octets : List ℕ) (stands : StandsFor service octets rs) where
  -- the same records, with another gate that isn't open and anything behind it
  pub stands_with : (gate : ℕ) (behind c : List ℕ) → c ≡ front service rs ++ gate ∷ behind → gate ≢ 1 → StandsFor service c rs
  stands_with gate behind c is closed = record { gate = gate; behind = behind; octets_are = is; closed = closed; fit = stands.fit; in_turn = stands.in_turn; within = stands.within }

  module _ (r : JournalRecord) (can : CanAppend service rs r) where
    -- the record with an open gate behind them
    pub stands_more : (behind c : List ℕ) → c ≡ front service rs ++ 1 ∷ (body r ++ 0 ∷ behind) → StandsFor service c (rs ++ r ∷ [])
    stands_more behind c is = record {
      gate = 0;
      behind = behind;
      octets_are = is ∙ sym (ap (λ (l : List ℕ). l ++ 0 ∷ behind) (front_more service rs r) ∙ append_assoc (front service rs) (record_octets r) (0 ∷ behind));
      closed = omega arith;
      fit = fit_more rs r stands.fit can.fits;
      in_turn = in_turn_more nothing_found first_gate rs r stands.in_turn can.follows;
      within = can.within;
    }

    -- whatever the gate is, before the record
    pub stands_either : (gate : ℕ) (behind c : List ℕ) → c ≡ front service rs ++ gate ∷ (body r ++ 0 ∷ behind) → StandsForEither service rs r c
    stands_either gate behind c is = elim (cases_eq gate 1) [
      | inl open_gate ↦ inr ((stands_more behind c (is ∙ ap (λ (g : ℕ). front service rs ++ g ∷ (body r ++ 0 ∷ behind)) open_gate)))
      | inr closed ↦ inl ((stands_with gate (body r ++ 0 ∷ behind) c is closed))
    ]

-- ---- the writes

-- what stands behind the gate, after a write there
pub over_behind : (f : List ℕ) (gate : ℕ) (behind tail : List ℕ) → overwritten (f ++ gate ∷ behind) (length f + 1) tail ≡ f ++ gate ∷ (tail ++ drop (length tail) behind)
over_behind f gate behind tail =
    let n : length f + 1 + length tail ≡ length f + suc (length tail) = omega arith in
    let back : drop (length f + 1 + length tail) (f ++ gate ∷ behind) ≡ drop (length tail) behind = ap (λ (k : ℕ). drop k (f ++ gate ∷ behind)) n ∙ drop-append-add f (gate ∷ behind) (suc (length tail)) in
    ap (λ (t : List ℕ). t ++ tail ++ drop (length f + 1 + length tail) (f ++ gate ∷ behind)) (take-append-add f (gate ∷ behind) 1)
    ∙ ap (λ (t : List ℕ). (f ++ gate ∷ []) ++ tail ++ t) back
    ∙ append_assoc (f ++ gate ∷ []) tail (drop (length tail) behind)
    ∙ append_assoc f (gate ∷ []) (tail ++ drop (length tail) behind)

-- the gate, after a write of it
pub over_gate : (f : List ℕ) (gate : ℕ) (behind : List ℕ) → overwritten (f ++ gate ∷ behind) (length f) (1 ∷ []) ≡ f ++ 1 ∷ behind
over_gate f gate behind =
    ap (λ (t : List ℕ). t ++ (1 ∷ []) ++ drop (length f + 1) (f ++ gate ∷ behind)) (take-append_seam f (gate ∷ behind))
    ∙ ap (λ (t : List ℕ). f ++ (1 ∷ []) ++ t) (drop-append-add f (gate ∷ behind) 1)
    ∙ append_assoc f (1 ∷ []) behind

-- a disk that is settled, after one write: what a crash goes by
pub one_write : (disk : DiskState) (place : ℕ) (octets s : List ℕ) → IsSettled disk → disk.reads ≡ s → (written place octets disk).present ≡ record { synced = s; writes = record { place = place; octets = octets } ∷ [] }
one_write disk place octets s settled is =
    ap (λ (m : Moment). record { synced = m.synced; writes = record { place = place; octets = octets } ∷ m.writes }) settled
    ∙ ap (λ (l : List ℕ). record { synced = l; writes = record { place = place; octets = octets } ∷ [] }) is

-- a crash that goes by a moment that is known
pub leaves_at : (P : List ℕ → Type 0) (m known : Moment) → m ≡ known → LeavesOnly P known → LeavesOnly P m
leaves_at P m known is h = λ c image. h c (subst (λ (m : Moment). IsImage m c) is image)

module _ (service : ℕ) (rs : List JournalRecord) (r : JournalRecord) (disk : DiskState) (settled : IsSettled disk) (stands : StandsFor service disk.reads rs) (can : CanAppend service rs r) where
  abbrev f : List ℕ
  f = front service rs

  abbrev g : ℕ
  g = length f

  abbrev P : List ℕ → Type 0
  P = StandsForEither service rs r

  abbrev behind : List ℕ
  behind = drop (length (behind_gate r)) stands.behind

  abbrev first : DiskState
  first = written (g + 1) (behind_gate r) disk

  abbrev second : DiskState
  second = written g (1 ∷ []) (synced first)

  -- what is read after the first write
  pub first_reads : first.reads ≡ f ++ stands.gate ∷ (body r ++ 0 ∷ behind)
  first_reads =
      ap (λ (l : List ℕ). overwritten l (g + 1) (behind_gate r)) stands.octets_are ∙ over_behind f stands.gate stands.behind (behind_gate r)
      ∙ ap (λ (l : List ℕ). f ++ stands.gate ∷ l) (append_assoc (body r) (0 ∷ []) behind)

  -- and after the gate was written
  pub second_reads : second.reads ≡ f ++ 1 ∷ (body r ++ 0 ∷ behind)
  second_reads = ap (λ (l : List ℕ). overwritten l g (1 ∷ [])) first_reads ∙ over_gate f stands.gate (body r ++ 0 ∷ behind)

  abbrev Old : List ℕ → Type 0
  Old = λ c. StandsFor service c rs

  -- at the start
  old_start : LeavesOnly Old disk.present
  old_start = leaves_at Old disk.present _ settled (λ c image. subst (λ l. StandsFor service l rs) (sym (image_settled disk.reads c image)) stands)

  -- behind the gate anything may stand, and the gate isn't open
  old_first : LeavesOnly Old first.present
  old_first =
      leaves_at Old first.present _ (one_write disk (g + 1) (behind_gate r) (f ++ stands.gate ∷ stands.behind) settled stands.octets_are) (λ c image.
      let regrouped : f ++ stands.gate ∷ stands.behind ≡ (f ++ stands.gate ∷ []) ++ stands.behind = sym (append_assoc f (stands.gate ∷ []) stands.behind) in
      let image2 = subst (λ (l : List ℕ). IsImage (record { synced = l; writes = record { place = g + 1; octets = behind_gate r } ∷ [] }) c) regrouped image in
      let is = image_behind (f ++ stands.gate ∷ []) stands.behind (behind_gate r) c (g + 1) (omega (arith, length-append f (stands.gate ∷ []))) image2 in
      stands_with service rs disk.reads stands stands.gate _ c (is ∙ append_assoc f (stands.gate ∷ []) _) stands.closed)

  -- the first write is whole
  old_synced : LeavesOnly Old (synced first).present
  old_synced = λ c image. stands_with service rs disk.reads stands stands.gate _ c (image_settled first.reads c image ∙ first_reads) stands.closed

  -- the records of before, up to the write of the gate
  append_old : LeavesOnlySince Old disk (synced first)
  append_old = record { more = (synced first).present ∷ first.present ∷ []; moments = refl; at_start = old_start; later = (old_synced, (old_first, tt)) }

  -- the gate is anything, before the whole record
  pub leaves_second : LeavesOnly P second.present
  leaves_second =
      leaves_at P second.present _ (one_write (synced first) g (1 ∷ []) (f ++ stands.gate ∷ (body r ++ 0 ∷ behind)) refl first_reads) (λ c image.
      stands_either service rs disk.reads stands r can (get_or c g 0) behind c (image_one f (body r ++ 0 ∷ behind) c stands.gate 1 image))

  pub stands_after : StandsFor service second.reads (rs ++ r ∷ [])
  stands_after = stands_more service rs disk.reads stands r can behind second.reads second_reads

  -- the new record is there
  pub leaves_after : LeavesOnly P (synced second).present
  leaves_after = λ c image. inr ((subst (λ l. StandsFor service l (rs ++ r ∷ [])) (sym (image_settled second.reads c image)) stands_after))

  pub append_safe : let after = appended g (behind_gate r) disk in LeavesOnlySince P disk after × StandsFor service after.reads (rs ++ r ∷ []) × IsSettled after
  append_safe = (
    record {
      more = (synced second).present ∷ second.present ∷ (synced first).present ∷ first.present ∷ [];
      moments = refl;
      at_start = λ c image. inl (old_start c image);
      later = (leaves_after, (leaves_second, ((λ c image. inl (old_synced c image)), ((λ c image. inl (old_first c image)), tt))));
    },
    stands_after,
    refl,
  )

  pub append_lawful : let after = appended g (behind_gate r) disk in LeavesOnlySince Old disk (synced first) × LeavesOnlySince P disk after × StandsFor service after.reads (rs ++ r ∷ []) × IsSettled after
  append_lawful = (append_old, append_safe.0, append_safe.1, append_safe.2)
