-- What a crash leaves in each step of the creation of a journal.
use Rattle.std.proofs.Common.{◌≡◌, ◌≢◌, inl, inr, ℕ, ◌<◌, ◌≤◌, Bool, true, false, cond, eqb, List, [], ◌∷◌, ◌++◌, length, get_or, drop, refl, sym, ap, subst, ◌∙◌, arith, append_assoc, length-drop}
use Rattle.std.proofs.lemmas.Bool.{cases_eq, eqb-true, eqb-false}
use Rattle.std.proofs.lemmas.List.{append-nil, drop_all}
use Rattle.ots_outside.specs.Disk.{DiskState, Moment, IsWritten, LeavesOnly, EachLeavesOnly, LeavesOnlySince, moments, overwritten, synced, written}
use Rattle.decision_journal.specs.Journal.{StandsFor, IsFresh, Holds, first_letter}
use Rattle.decision_journal.specs.Laws.{IsSettled, behind_letter, cleared, created, is_letter_due}
use Rattle.decision_journal.proofs.Images.{image_settled, image_one}
use Rattle.decision_journal.proofs.Append.{leaves_at, one_write}

module _ (service : ℕ) where
  abbrev P : List ℕ → Type 0
  P c = Holds service c []

  fresh : (c : List ℕ) → IsFresh c → P c
  fresh c f = inr (f, refl)

  -- the octets of an empty journal
  empty : (c : List ℕ) → c ≡ first_letter ∷ behind_letter service → StandsFor service c []
  empty c is = record { gate = 0; behind = []; octets_are = is; closed = omega arith; fit = tt; in_turn = tt; within = omega arith }

  -- seventeen octets behind which nothing stands, of which the first isn't the letter
  shut : (x : ℕ) (c : List ℕ) → c ≡ x ∷ behind_letter service → x ≢ first_letter → IsFresh c
  shut x c is other = inr (ap length is, λ e. other (sym (ap (λ (l : List ℕ). get_or l 0 0) is) ∙ e))

  -- behind the first octet, which isn't the letter
  module _ (disk : DiskState) (x : ℕ) (r : List ℕ) (settled : IsSettled disk) (reads : disk.reads ≡ x ∷ r) (short : length r ≤ 16) (other : x ≢ first_letter) where
    abbrev first : DiskState
    first = written 1 (behind_letter service) disk

    abbrev second : DiskState
    second = written 0 (first_letter ∷ []) (synced first)

    first_reads : first.reads ≡ x ∷ behind_letter service
    first_reads =
        ap (λ (l : List ℕ). overwritten l 1 (behind_letter service)) reads
        ∙ ap (λ (l : List ℕ). x ∷ (behind_letter service ++ l)) (drop_all 16 r short)
        ∙ ap (λ (l : List ℕ). x ∷ l) (append-nil (behind_letter service))

    leaves_first : LeavesOnly P first.present
    leaves_first = leaves_at P first.present _ (one_write disk 1 (behind_letter service) (x ∷ r) settled reads) (λ c image.
        let long : length c ≤ 17 = omega (arith, image.no_longer, short) in
        let head : get_or c 0 0 ≡ x = image.kept 0 (omega arith) before in
        fresh c (elim (cases_eq (length c) 17) [
          | inl whole ↦ inr (whole, λ e. other (sym head ∙ e))
          | inr less ↦ inl (omega (arith, long, less))
        ]))
      where
        before : IsWritten (record { place = 1; octets = behind_letter service } ∷ []) 0 → ⊥
        before (inl in_range) = absurd (omega (arith, in_range.0))
        before (inr none) = none

    leaves_synced : LeavesOnly P (synced first).present
    leaves_synced c image = fresh c (shut x c (image_settled first.reads c image ∙ first_reads) other)

    second_reads : second.reads ≡ first_letter ∷ behind_letter service
    second_reads = ap (λ (l : List ℕ). overwritten l 0 (first_letter ∷ [])) first_reads

    leaves_second : LeavesOnly P second.present
    leaves_second = leaves_at P second.present _ (one_write (synced first) 0 (first_letter ∷ []) (x ∷ behind_letter service) refl first_reads) (λ c image.
        let is : c ≡ get_or c 0 0 ∷ behind_letter service = image_one [] (behind_letter service) c x first_letter image in
        elim (cases_eq (get_or c 0 0) first_letter) [
          | inl letter ↦ inl (empty c (is ∙ ap (λ (o : ℕ). o ∷ behind_letter service) letter))
          | inr not_yet ↦ fresh c (shut (get_or c 0 0) c is not_yet)
        ])

    leaves_after : LeavesOnly P (synced second).present
    leaves_after c image = inl (empty c (image_settled second.reads c image ∙ second_reads))

    pub behind_other : LeavesOnly P disk.present → LeavesOnlySince P disk (created service disk) × StandsFor service (created service disk).reads [] × IsSettled (created service disk)
    behind_other here = (
      record {
        more = (synced second).present ∷ second.present ∷ (synced first).present ∷ first.present ∷ [];
        moments = refl;
        at_start = here;
        later = (leaves_after, (leaves_second, (leaves_synced, (leaves_first, tt))));
      },
      empty second.reads second_reads,
      refl,
    )

  -- a settled disk at its start
  starts : (disk : DiskState) → IsSettled disk → IsFresh disk.reads → LeavesOnly P disk.present
  starts disk settled f = leaves_at P disk.present _ settled (λ c image. fresh c (subst IsFresh (sym (image_settled disk.reads c image)) f))

  each_append : (xs ys : List Moment) → EachLeavesOnly P xs → EachLeavesOnly P ys → EachLeavesOnly P (xs ++ ys)
  each_append [] ys a b = b
  each_append (x ∷ xs) ys a b = (a.0, each_append xs ys a.1 b)

  abbrev Safe : DiskState → DiskState → Type 0
  Safe disk after = LeavesOnlySince P disk after × StandsFor service after.reads [] × IsSettled after

  -- where the letter stands there, or nothing does
  due : (disk : DiskState) → IsSettled disk → length disk.reads < 17 → Safe disk (created service (synced (written 0 (0 ∷ []) disk)))
  due disk settled less =
      let erased : DiskState = written 0 (0 ∷ []) disk in
      let kept : DiskState = synced erased in
      let short : length (drop 1 disk.reads) ≤ 16 = omega (arith, less, length-drop 1 disk.reads) in
      let leaves_erased : LeavesOnly P erased.present = leaves_at P erased.present _ (one_write disk 0 (0 ∷ []) disk.reads settled refl) (λ c image. fresh c (inl (omega (arith, image.no_longer, less)))) in
      let leaves_kept : LeavesOnly P kept.present = λ c image. fresh c (inl (omega (arith, ap length (image_settled erased.reads c image), less, length-drop 1 disk.reads))) in
      let behind = behind_other kept 0 (drop 1 disk.reads) refl refl short (omega arith) leaves_kept in (
        record {
          more = behind.0.more ++ kept.present ∷ erased.present ∷ [];
          moments = behind.0.moments ∙ sym (append_assoc behind.0.more (kept.present ∷ erased.present ∷ []) (moments disk));
          at_start = starts disk settled (inl less);
          later = each_append behind.0.more (kept.present ∷ erased.present ∷ []) behind.0.later (leaves_kept, (leaves_erased, tt));
        },
        behind.1,
        behind.2,
      )

  abbrev cleared_by : Bool → DiskState → DiskState
  cleared_by b disk = cond b (synced (written 0 (0 ∷ []) disk)) disk

  less_than : (x : ℕ) (r : List ℕ) → IsFresh (x ∷ r) → x ≡ first_letter → length (x ∷ r) < 17
  less_than x r (inl less) is = less
  less_than x r (inr whole) is = absurd (whole.1 is)

  short_rest : (x : ℕ) (r : List ℕ) → IsFresh (x ∷ r) → length r ≤ 16
  short_rest x r (inl less) = omega arith
  short_rest x r (inr whole) = omega (arith, whole.0)

  by_reads : (disk : DiskState) (o : List ℕ) → disk.reads ≡ o → IsSettled disk → IsFresh o → Safe disk (created service (cleared_by (is_letter_due o) disk))
  by_reads disk [] is settled f = due disk settled (omega (arith, ap length is))
  by_reads disk (x ∷ r) is settled f = by_test (eqb x first_letter) refl
    where
      by_test : (b : Bool) → eqb x first_letter ≡ b → Safe disk (created service (cleared_by b disk))
      by_test true e = due disk settled (omega (arith, ap length is, less_than x r f (eqb-true _ _ e)))
      by_test false e = behind_other disk x r settled is (short_rest x r f) (eqb-false _ _ e) (starts disk settled (subst IsFresh (sym is) f))

  pub creation_safe : (disk : DiskState) → IsSettled disk → IsFresh disk.reads → let after = created service (cleared disk) in Safe disk after
  creation_safe disk settled f = by_reads disk disk.reads refl settled f
