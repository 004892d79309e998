-- What an append leaves of a journal that is kept.
use Rattle.std.proofs.Common.{◌≡◌, inl, inr, ℕ, ◌+◌, ◌<◌, ◌≤◌, Bool, true, false, ◌-◌, List, [], ◌∷◌, ◌++◌, length, take, drop, Option, Some, None, refl, sym, ap, subst, ◌∙◌, arith, append_assoc, length-append, length-drop}
use Rattle.std.specs.Prelude.{IsTrue, IfSome}
use Rattle.std.specs.Option.{ForSome}
use Rattle.ots_outside.specs.Disk.{DiskState, LeavesOnly, LeavesOnlySince, Tells}
use Rattle.decision_journal.specs.declared.record.JournalRecord.{JournalRecord}
use Rattle.decision_journal.specs.Limits.{area_limit}
use Rattle.decision_journal.specs.Layout.{Fits, record_octets}
use Rattle.decision_journal.specs.Journal.{Found, can_follow, with_record, front, AreRecords, IsFilled, StandsAt, StandsFor, StandsForEither}
use Rattle.decision_journal.specs.Laws.{CanAppend, IsOnTheWay, IsSettled, appended, behind_gate}
use Rattle.std.proofs.lemmas.List.{drop_at, take_all, take_at}
use Rattle.decision_journal.specs.State.{LeavesFound, used, AppendIsDone, AppendIsSafe, BeginsWithEither, IsAtRest, IsKept, IsOldOrMore, IsSound, IsWithinArea, MayFind, MayHold}
use Rattle.decision_journal.proofs.Append.{append_safe, body, front_more}
use Rattle.decision_journal.proofs.Scans.{more_records}
use Rattle.decision_journal.proofs.Since.{image_of, leaves_now, since_weaker}
use Rattle.decision_journal.proofs.Ways.{none_some, on_the_way, some_same}

pub stands_from : (service : ℕ) (octets c : List ℕ) (found : Found) (rs : List JournalRecord) → AreRecords service octets found rs → StandsAt octets c → StandsFor service c rs
stands_from service octets c found rs a at = record {
  gate = at.gate;
  behind = at.behind;
  octets_are = at.octets_are ∙ ap (λ (l : List ℕ). l ++ at.gate ∷ at.behind) a.octets_are;
  closed = at.closed;
  fit = a.fit;
  in_turn = a.in_turn;
  within = a.within;
}

pub stands_back : (service : ℕ) (octets c : List ℕ) (rs : List JournalRecord) → octets ≡ front service rs → StandsFor service c rs → StandsAt octets c
stands_back service octets c rs is stands = record {
  gate = stands.gate;
  behind = stands.behind;
  octets_are = stands.octets_are ∙ ap (λ (l : List ℕ). l ++ stands.gate ∷ stands.behind) (sym is);
  closed = stands.closed;
}

can_from : (service : ℕ) (octets : List ℕ) (found : Found) (rs : List JournalRecord) (item : JournalRecord) → AreRecords service octets found rs → Fits item → IsTrue (can_follow found item)
    → length octets + length (record_octets item) < area_limit → CanAppend service rs item
can_from service octets found rs item a fits follows within = record {
  fits = fits;
  follows = subst (λ (f : Found). IsTrue (can_follow f item)) a.found_is follows;
  within = omega (arith, ap length (front_more service rs item), length-append (front service rs) (record_octets item), ap length a.octets_are, within);
}

module _ (service : ℕ) (octets : List ℕ) (found : Found) (item : JournalRecord) (filled : IsFilled service octets found) where
  abbrev rs : List JournalRecord
  rs = filled.0

  module _ (fits : Fits item) (follows : IsTrue (can_follow found item)) (within : length octets + length (record_octets item) < area_limit) where
    abbrev End : DiskState → DiskState
    End s = appended (length octets) (behind_gate item) s

    -- what the law says of the records that stand there
    whole : (s : DiskState) → IsAtRest octets s → LeavesOnlySince (StandsForEither service rs item) s (End s) × StandsFor service (End s).reads (rs ++ item ∷ []) × IsSettled (End s)
    whole s rest =
        subst (λ (g : ℕ). LeavesOnlySince (StandsForEither service rs item) s (appended g (behind_gate item) s) × StandsFor service (appended g (behind_gate item) s).reads (rs ++ item ∷ []) × IsSettled (appended g (behind_gate item) s))
        (sym (ap length filled.1.octets_are))
        (append_safe service rs item s rest.settled (stands_from service octets s.reads found rs filled.1 rest.stands) (can_from service octets found rs item filled.1 fits follows within))

    holds : (s : DiskState) → IsAtRest octets s → MayHold service s rs
    holds s rest = record { image = s.reads; is_image = image_of s rest.settled; stands = stands_from service octets s.reads found rs filled.1 rest.stands }

    on_way : (s t : DiskState) → IsAtRest octets s → IsOnTheWay s (End s) t → LeavesOnlySince (StandsForEither service rs item) s t
    on_way s t rest way = on_the_way (StandsForEither service rs item) s (End s) t (whole s rest).0 way

    safe : (s t : DiskState) → IsAtRest octets s → IsOnTheWay s (End s) t → AppendIsSafe service item s t
    safe s t rest way = since_weaker (StandsForEither service rs item) (IsOldOrMore service s item) s t (λ c either. (rs, (holds s rest, either))) (on_way s t rest way)

    pub way_safe : (told after : Option DiskState) → IfSome told (IsAtRest octets) → Tells told after (λ s t. IsOnTheWay s (End s) t) → Tells told after (AppendIsSafe service item)
    way_safe None None rest way = tt
    way_safe None (Some t) rest way = absurd way
    way_safe (Some s) None rest way = absurd way
    way_safe (Some s) (Some t) rest way = safe s t rest way

    is_done : (s t : DiskState) → IsAtRest octets s → t ≡ End s → AppendIsDone service item s t
    is_done s t rest is =
        let w = whole s rest in
        record {
          records = rs;
          held = holds s rest;
          stands = subst (λ (t : DiskState). StandsFor service t.reads (rs ++ item ∷ [])) (sym is) w.1;
          settled = subst IsSettled (sym is) w.2;
        }

    front_is : octets ++ record_octets item ≡ front service (rs ++ item ∷ [])
    front_is = ap (λ (l : List ℕ). l ++ record_octets item) filled.1.octets_are ∙ sym (front_more service rs item)

    begins : (c : List ℕ) → StandsForEither service rs item c → BeginsWithEither octets (Some item) c
    begins c (inl old) = inl (stands_back service octets c rs filled.1.octets_are old)
    begins c (inr more) = inr (stands_back service (octets ++ record_octets item) c (rs ++ item ∷ []) front_is more)

    -- and the record is in doubt, where a call was refused
    pub doubt_kept : (told after : Option DiskState) → IfSome told (IsAtRest octets) → Tells told after (λ s t. IsOnTheWay s (End s) t) → IfSome after (λ t. LeavesOnly (BeginsWithEither octets (Some item)) t.present)
    doubt_kept None None rest way = tt
    doubt_kept None (Some t) rest way = absurd way
    doubt_kept (Some s) None rest way = absurd way
    doubt_kept (Some s) (Some t) rest way = λ c image. begins c (leaves_now (StandsForEither service rs item) s t (on_way s t rest way) c image)

    pub end_done : (told after : Option DiskState) → IfSome told (IsAtRest octets) → Tells told after (λ s t. t ≡ End s) → Tells told after (AppendIsDone service item)
    end_done None None rest is = tt
    end_done None (Some t) rest is = absurd is
    end_done (Some s) None rest is = absurd is
    end_done (Some s) (Some t) rest is = is_done s t rest is

    pub end_kept : (told after : Option DiskState) → IfSome told (IsAtRest octets) → Tells told after (λ s t. t ≡ End s) → IfSome after (IsAtRest (octets ++ record_octets item))
    end_kept None None rest is = tt
    end_kept None (Some t) rest is = absurd is
    end_kept (Some s) None rest is = absurd is
    end_kept (Some s) (Some t) rest is =
        let w = whole s rest in
        subst (IsAtRest (octets ++ record_octets item)) (sym is) (record { settled = w.2; stands = stands_back service (octets ++ record_octets item) (End s).reads (rs ++ item ∷ []) front_is w.1 })

-- what is kept of a journal that needn't read its disk again
pub at_rest : (failed : Bool) (octets : List ℕ) (doubted : Option JournalRecord) (told : Option DiskState) → failed ≡ false → IsKept failed octets doubted told → IfSome told (IsAtRest octets)
at_rest true octets doubted told e kept = absurd cc
at_rest false octets None told e kept = kept
at_rest false octets (Some r) told e kept = absurd kept

-- a gate stands behind what is known
pub gate_within : (told : Option DiskState) (octets : List ℕ) → IfSome told (IsAtRest octets) → ForSome told (λ s. length octets + 1 ≤ length s.reads)
gate_within None octets rest = λ t e. absurd (none_some t e)
gate_within (Some s) octets rest = λ t e. subst (λ (t : DiskState). length octets + 1 ≤ length t.reads) (some_same s t e) (omega (arith, ap length rest.stands.octets_are, length-append octets (rest.stands.gate ∷ rest.stands.behind)))

pub no_doubt : (failed : Bool) (octets : List ℕ) (doubted : Option JournalRecord) (told : Option DiskState) → failed ≡ false → IsKept failed octets doubted told → doubted ≡ None
no_doubt true octets doubted told e kept = absurd cc
no_doubt false octets None told e kept = refl
no_doubt false octets (Some r) told e kept = absurd kept

-- what is known is what may be found
pub known : (octets : List ℕ) (found : Found) (doubted : Option JournalRecord) → MayFind octets found doubted octets found
known octets found None = (refl, refl)
known octets found (Some r) = inl ((refl, refl))

pub within_now : (told : Option DiskState) (area service : ℕ) (octets : List ℕ) (found : Found) (failed : Bool) (doubted : Option JournalRecord) → IsSound told area service octets found failed doubted → IsWithinArea area service octets found
within_now told area service octets found failed doubted sound = sound.each octets found (known octets found doubted)

-- with a record more, what may be found is within the area
pub each_doubted : (area service : ℕ) (octets : List ℕ) (found : Found) (item : JournalRecord) → IsWithinArea area service octets found → area < area_limit + 1 → Fits item → IsTrue (can_follow found item)
    → used (octets ++ record_octets item) (with_record found (length octets) item) ≤ area → IsWithinArea area service (octets ++ record_octets item) (with_record found (length octets) item)
each_doubted area service octets found item now small fits follows room = record {
  filled = more_records service (length octets) octets found (with_record found (length octets) item) item now.filled refl fits follows (omega (arith, room, small, length-append octets (record_octets item))) refl;
  room = room;
}

same_within : (area service : ℕ) (octets more : List ℕ) (found after : Found) → more ≡ octets → after ≡ found → IsWithinArea area service octets found → IsWithinArea area service more after
same_within area service octets more found after same_octets same_found now =
    subst (λ (l : List ℕ). IsWithinArea area service l after) (sym same_octets) (subst (λ (f : Found). IsWithinArea area service octets f) (sym same_found) now)

pub each_of : (area service : ℕ) (octets : List ℕ) (found : Found) (doubted : Option JournalRecord) → IsWithinArea area service octets found → IfSome doubted (λ r. IsWithinArea area service (octets ++ record_octets r) (with_record found (length octets) r))
    → (more : List ℕ) (after : Found) → MayFind octets found doubted more after → IsWithinArea area service more after
each_of area service octets found None now then more after may = same_within area service octets more found after may.0 may.1 now
each_of area service octets found (Some r) now then more after (inl may) = same_within area service octets more found after may.0 may.1 now
each_of area service octets found (Some r) now then more after (inr may) =
    same_within area service (octets ++ record_octets r) more (with_record found (length octets) r) after may.0 may.1 then

-- the same of a gate and of octets that are known
pub retold : (told after : Option DiskState) (R : ℕ → List ℕ → DiskState → DiskState → Type 0) (g h : ℕ) (b d : List ℕ) → g ≡ h → b ≡ d → Tells told after (R g b) → Tells told after (R h d)
retold told after R g h b d gate behind t =
    subst (λ (d : List ℕ). Tells told after (R h d)) behind (subst (λ (h : ℕ). Tells told after (R h b)) gate t)

-- octets behind which a record and a closed gate were put
module _ (octets new : List ℕ) (item : JournalRecord) (n : ℕ) (new_is : new ≡ octets ++ (record_octets item ++ 0 ∷ [])) (n_is : n ≡ length octets) where
  -- what is written behind the gate
  laid_behind : drop (n + 1) new ≡ behind_gate item
  laid_behind =
      ap (drop (n + 1)) (new_is ∙ sym (append_assoc octets (1 ∷ []) (body item ++ 0 ∷ [])))
      ∙ drop_at (octets ++ 1 ∷ []) (body item ++ 0 ∷ []) (n + 1) (omega (arith, n_is, length-append octets (1 ∷ [])))

  pub laid_slice : (d : List ℕ) → d ≡ new → take (length d - (n + 1)) (drop (n + 1) d) ≡ behind_gate item
  laid_slice d d_is = take_all (length d - (n + 1)) (drop (n + 1) d) (omega (arith, length-drop (n + 1) d)) ∙ ap (drop (n + 1)) d_is ∙ laid_behind

  -- without the closed gate, and without the record
  pub laid_record : (m : ℕ) → m ≡ length new - 1 → take m new ≡ octets ++ record_octets item
  laid_record m m_is =
      let size : length (octets ++ record_octets item) ≡ m = omega (arith, m_is, ap length new_is, length-append octets (record_octets item ++ 0 ∷ []), length-append (record_octets item) (0 ∷ []), length-append octets (record_octets item)) in
      ap (take m) (new_is ∙ sym (append_assoc octets (record_octets item) (0 ∷ []))) ∙ take_at (octets ++ record_octets item) (0 ∷ []) m size

  pub laid_front : take n new ≡ octets
  laid_front = ap (take n) new_is ∙ take_at octets (record_octets item ++ 0 ∷ []) n (sym n_is)

-- what is known, before a closed gate
pub leaves_found : (service : ℕ) (octets : List ℕ) (found : Found) → IsFilled service octets found → LeavesFound service (octets ++ 0 ∷ []) found
leaves_found service octets found filled = (
  filled.0,
  (stands_from service octets (octets ++ 0 ∷ []) found filled.0 filled.1 (record { gate = 0; behind = []; octets_are = refl; closed = omega arith }), filled.1.found_is),
)
