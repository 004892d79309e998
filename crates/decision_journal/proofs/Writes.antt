-- What a write of a record leaves of a journal.
use Rattle.std.proofs.Common.{◌≡◌, ℕ, ◌+◌, ◌<◌, ◌≤◌, ◌^◌, Bool, true, false, List, [], ◌∷◌, ◌++◌, length, Option, Some, None, refl, sym, subst, arith, length-append}
use Rattle.std.specs.Prelude.{IsTrue, IfSome}
use Rattle.std.specs.Option.{ForSome}
use Rattle.ots_outside.specs.Disk.{DiskState, Tells}
use Rattle.decision_journal.specs.declared.record.JournalRecord.{JournalRecord}
use Rattle.decision_journal.specs.Limits.{area_limit, standing_limit}
use Rattle.decision_journal.specs.Layout.{Fits, record_octets}
use Rattle.decision_journal.specs.Journal.{AreRecords, Found, can_follow, is_decision, with_record}
use Rattle.decision_journal.specs.Laws.{IsOnTheWay, appended, behind_gate}
use Rattle.decision_journal.specs.State.{AppendIsDone, AppendIsSafe, IsAtRest, IsSound, IsWithinArea, JournalState, cells_in, decisions, used}
use Rattle.decision_journal.proofs.Scans.{more_are}
use Rattle.decision_journal.proofs.Kept.{at_rest, gate_within, no_doubt, way_safe, end_done, end_kept, doubt_kept, within_now, each_doubted, each_of}

-- a journal that a record may be written to
pub record CanWrite {D : Type 0} (j : JournalState D) (item : JournalRecord) : Type 0 where
  pub kept : j.failed ≡ false
  pub follows : IsTrue (can_follow j.found item)
  pub within : used (j.octets ++ record_octets item) (with_record j.found (length j.octets) item) ≤ j.area
  pub few : IsTrue (is_decision item) → decisions j.found < standing_limit
  pub room : cells_in item ≤ j.room

module _ (told : Option DiskState) (area service : ℕ) (octets : List ℕ) (found : Found) (failed : Bool) (doubted : Option JournalRecord) (item : JournalRecord)
    (sound : IsSound told area service octets found failed doubted) (kept : failed ≡ false) (fits : Fits item) (follows : IsTrue (can_follow found item))
    (room : used (octets ++ record_octets item) (with_record found (length octets) item) ≤ area) where
  rest : IfSome told (IsAtRest octets)
  rest = at_rest failed octets doubted told kept sound.kept

  now : IsWithinArea area service octets found
  now = within_now told area service octets found failed doubted sound

  small : length octets + length (record_octets item) < area_limit
  small = omega (arith, room, sound.area_is, length-append octets (record_octets item))

  more : IsWithinArea area service (octets ++ record_octets item) (with_record found (length octets) item)
  more = each_doubted area service octets found item now sound.area_is fits follows room

  -- the gate that isn't open stands there, and the octets have their place
  pub write_within : ForSome told (λ s. length octets + 1 ≤ length s.reads)
  write_within = gate_within told octets rest

  pub write_small : length octets < 2 ^ 32
  write_small = omega (arith, small)

  -- the records of before, and these with the new one
  pub write_records : (l : List ℕ) (f : Found) → l ≡ octets ++ record_octets item → f ≡ with_record found (length octets) item → (rs : List JournalRecord) × (AreRecords service octets found rs × AreRecords service l f (rs ++ item ∷ []))
  write_records l f l_is f_is =
      let rs = now.filled.0 in
      let are = more_are service (length octets) octets found (with_record found (length octets) item) item rs now.filled.1 refl fits follows small refl in
      (rs, (now.filled.1, subst (λ (l : List ℕ). AreRecords service l f (rs ++ item ∷ [])) (sym l_is) (subst (λ (f : Found). AreRecords service (octets ++ record_octets item) f (rs ++ item ∷ [])) (sym f_is) are)))

  module _ (after : Option DiskState) where
    abbrev pub Way : Type 0
    Way = Tells told after (λ s t. IsOnTheWay s (appended (length octets) (behind_gate item) s) t)

    abbrev pub End : Type 0
    End = Tells told after (λ s t. t ≡ appended (length octets) (behind_gate item) s)

    -- at the place that is told
    pub write_disk : (place : ℕ) → place ≡ length octets → End → Tells told after (λ s t. t ≡ appended place (behind_gate item) s)
    write_disk place place_is end = subst (λ (p : ℕ). Tells told after (λ s t. t ≡ appended p (behind_gate item) s)) (sym place_is) end

    pub write_safe : Way → Tells told after (AppendIsSafe service item)
    write_safe way = way_safe service octets found item now.filled fits follows small told after rest way

    pub write_done : End → Tells told after (AppendIsDone service item)
    write_done end = end_done service octets found item now.filled fits follows small told after rest end

    pub write_unsure : (l : List ℕ) (f : Found) (d : Option JournalRecord) → l ≡ octets → f ≡ found → d ≡ Some item → Way → IsSound after area service l f true d
    write_unsure l f d l_is f_is d_is way =
        subst (λ (d : Option JournalRecord). IsSound after area service l f true d) (sym d_is)
        (subst (λ (f : Found). IsSound after area service l f true (Some item)) (sym f_is)
        (subst (λ (l : List ℕ). IsSound after area service l found true (Some item)) (sym l_is)
        (record {
          each = each_of area service octets found (Some item) now more;
          fits = fits;
          area_is = sound.area_is;
          kept = doubt_kept service octets found item now.filled fits follows small told after rest way;
        })))

    sound_at : (l : List ℕ) (f : Found) (d : Option JournalRecord) → l ≡ octets ++ record_octets item → f ≡ with_record found (length octets) item → d ≡ None → IfSome after (IsAtRest (octets ++ record_octets item)) → IsSound after area service l f false d
    sound_at l f d l_is f_is d_is here =
        subst (λ (d : Option JournalRecord). IsSound after area service l f false d) (sym d_is)
        (subst (λ (f : Found). IsSound after area service l f false None) (sym f_is)
        (subst (λ (l : List ℕ). IsSound after area service l (with_record found (length octets) item) false None) (sym l_is)
        (record { each = each_of area service (octets ++ record_octets item) (with_record found (length octets) item) None more tt; fits = tt; area_is = sound.area_is; kept = here })))

    pub write_sound : (l : List ℕ) (f : Found) → l ≡ octets ++ record_octets item → f ≡ with_record found (length octets) item → End → IsSound after area service l f false doubted
    write_sound l f l_is f_is end =
        sound_at l f doubted l_is f_is (no_doubt failed octets doubted told kept sound.kept) (end_kept service octets found item now.filled fits follows small told after rest end)
