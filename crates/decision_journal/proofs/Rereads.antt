-- What reading a disk again leaves of a journal.
use Rattle.std.proofs.Common.{◌≡◌, ◌⊎◌, inl, inr, ℕ, ◌+◌, ◌<◌, ◌≤◌, arith, length-append, Bool, true, false, List, [], ◌++◌, length, take, Option, Some, None, refl, sym, ap, subst, ◌∙◌}
use Rattle.std.specs.Prelude.{IfSome, IsTrue}
use Rattle.std.proofs.lemmas.List.{take_at}
use Rattle.ots_outside.specs.Disk.{DiskState, IsImage, IsAfterRefusal, LeavesOnly, ReadsImage, Tells, synced}
use Rattle.decision_journal.specs.declared.record.JournalRecord.{JournalRecord}
use Rattle.decision_journal.specs.declared.journal.JournalFault.{JournalFault}
use Rattle.decision_journal.specs.declared.journal.JournalFault.TheVariants.{DiskFault, Full, BadHeader, BadRecord, LivesSpent, Memory}
use Rattle.decision_journal.specs.Limits.{area_limit}
use Rattle.decision_journal.specs.Layout.{record_octets}
use Rattle.decision_journal.specs.Journal.{Found, IsAlong, IsFilled, IsOther, IsScanFault, StandsAt, with_record}
use Rattle.decision_journal.specs.State.{BeginsWithEither, IsAtRest, IsKept, IsOld, doubted_octets, IsReadFault, IsSound, IsWithinArea, MayFind, ReadIsDone, ReadIsSafe}
use Rattle.decision_journal.proofs.Along.{along_neither, along_stands}
use Rattle.decision_journal.proofs.Joined.{risen_later}
use Rattle.decision_journal.proofs.Kept.{at_rest, each_of, stands_from, within_now}
use Rattle.decision_journal.proofs.Since.{image_of, leaves_now, leaves_settled, since_refused, since_start}

leaves_known : (failed : Bool) (octets : List ℕ) (doubted : Option JournalRecord) (told : Option DiskState) → IsKept failed octets doubted told → IfSome told (λ s. LeavesOnly (BeginsWithEither octets doubted) s.present)
leaves_known true octets doubted told kept = kept
leaves_known false octets None None kept = tt
leaves_known false octets None (Some s) kept = leaves_settled (StandsAt octets) s kept.settled kept.stands
leaves_known false octets (Some r) told kept = absurd kept

old_at : (service : ℕ) (s : DiskState) (octets : List ℕ) (found : Found) (c : List ℕ) → IsImage s.present c → IsFilled service octets found → StandsAt octets c → IsOld service s c
old_at service s octets found c image filled at =
    let stands = stands_from service octets c found filled.0 filled.1 at in
    (filled.0, (record { image = c; is_image = image; stands = stands }, stands))

begins_old : (area service : ℕ) (octets : List ℕ) (found : Found) (doubted : Option JournalRecord) → ((more : List ℕ) (after : Found) → MayFind octets found doubted more after → IsWithinArea area service more after)
    → (s : DiskState) (c : List ℕ) → IsImage s.present c → BeginsWithEither octets doubted c → IsOld service s c
begins_old area service octets found None each s c image at = old_at service s octets found c image (each octets found (refl, refl)).filled at
begins_old area service octets found (Some r) each s c image (inl at) = old_at service s octets found c image (each octets found (inl ((refl, refl)))).filled at
begins_old area service octets found (Some r) each s c image (inr at) =
    old_at service s (octets ++ record_octets r) (with_record found (length octets) r) c image (each (octets ++ record_octets r) (with_record found (length octets) r) (inr ((refl, refl)))).filled at

module _ (service : ℕ) (known read : List ℕ) where
  -- octets that stand for nothing
  pub other_scan : (fault : JournalFault) → (16 < length read) × IsScanFault service read fault → IsOther service known read fault
  other_scan DiskFault f = absurd f.1
  other_scan (Full u n) f = absurd f.1
  other_scan (BadHeader place) f = inl f
  other_scan (BadRecord place) f = inl f.1
  other_scan LivesSpent f = absurd f.1
  other_scan Memory f = tt

module _ (told : Option DiskState) (area service : ℕ) (octets : List ℕ) (found : Found) (failed : Bool) (doubted : Option JournalRecord) (sound : IsSound told area service octets found failed doubted) (after : Option DiskState) (image : ReadsImage told) where
  held : IfSome told (λ s. LeavesOnly (BeginsWithEither octets doubted) s.present)
  held = leaves_known failed octets doubted told sound.kept

  now : IsWithinArea area service octets found
  now = within_now told area service octets found failed doubted sound

  abbrev pub Way : Type 0
  Way = Tells told after (λ s t. IsAfterRefusal s (synced s) t)

  abbrev pub End : Type 0
  End = Tells told after (λ s t. t ≡ synced s)

  pub read_safe : Way → Tells told after (ReadIsSafe service)
  read_safe way = by_told told after held image way
    where
      by_told : (a b : Option DiskState) → IfSome a (λ s. LeavesOnly (BeginsWithEither octets doubted) s.present) → ReadsImage a → Tells a b (λ s t. IsAfterRefusal s (synced s) t) → Tells a b (ReadIsSafe service)
      by_told None None here image way = tt
      by_told None (Some t) here image way = absurd way
      by_told (Some s) None here image way = absurd way
      by_told (Some s) (Some t) here image way = since_refused (IsOld service s) s t (λ c i. begins_old area service octets found doubted sound.each s c i (here c i)) image way

  pub read_done : End → Tells told after (ReadIsDone service)
  read_done end = by_told told after held image end
    where
      by_told : (a b : Option DiskState) → IfSome a (λ s. LeavesOnly (BeginsWithEither octets doubted) s.present) → ReadsImage a → Tells a b (λ s t. t ≡ synced s) → Tells a b (ReadIsDone service)
      by_told None None here image end = tt
      by_told None (Some t) here image end = absurd end
      by_told (Some s) None here image end = absurd end
      by_told (Some s) (Some t) here image end =
          subst (ReadIsDone service s) (sym end) (record { old = begins_old area service octets found doubted sound.each s s.reads image (here s.reads image); settled = refl })

  -- the disk was not read, or not found to be what is expected
  pub read_unread : Way → IsSound after area service octets found true doubted
  read_unread way = record { each = sound.each; fits = sound.fits; area_is = sound.area_is; kept = by_told told after held image way }
    where
      by_told : (a b : Option DiskState) → IfSome a (λ s. LeavesOnly (BeginsWithEither octets doubted) s.present) → ReadsImage a → Tells a b (λ s t. IsAfterRefusal s (synced s) t) → IfSome b (λ s. LeavesOnly (BeginsWithEither octets doubted) s.present)
      by_told None None here image way = tt
      by_told None (Some t) here image way = absurd way
      by_told (Some s) None here image way = absurd way
      by_told (Some s) (Some t) here image way = leaves_now (BeginsWithEither octets doubted) s t (since_refused (BeginsWithEither octets doubted) s t here image way)

  module _ (end : End) where
    rest_at : (o : List ℕ) → IfSome after (λ t. StandsAt o t.reads) → IfSome after (IsAtRest o)
    rest_at o at = by_told told after end at
      where
        by_told : (a b : Option DiskState) → Tells a b (λ s t. t ≡ synced s) → IfSome b (λ t. StandsAt o t.reads) → IfSome b (IsAtRest o)
        by_told None None end at = tt
        by_told None (Some t) end at = absurd end
        by_told (Some s) None end at = absurd end
        by_told (Some s) (Some t) end at =
            record { settled = subst (λ (t : DiskState). t.present ≡ record { synced = t.reads; writes = [] }) (sym end) refl; stands = at }

    module _ (same : ℕ) (closed : Bool) (along : IfSome after (λ t. IsAlong (octets ++ doubted_octets doubted) t.reads same closed)) where
      -- what was found
      pub read_found : (l : List ℕ) (f : Found) (d : Option JournalRecord) → MayFind octets found doubted l f → (rest : List ℕ) × (octets ++ doubted_octets doubted ≡ l ++ rest) → (same ≡ length l) × IsTrue closed → d ≡ None → IsSound after area service l f false d
      read_found l f d may front ends d_is =
          subst (λ (d : Option JournalRecord). IsSound after area service l f false d) (sym d_is)
          (record { each = each_of area service l f None (sound.each l f may) tt; fits = tt; area_is = sound.area_is; kept = rest_at l (by_told after along) })
        where
          by_told : (b : Option DiskState) → IfSome b (λ t. IsAlong (octets ++ doubted_octets doubted) t.reads same closed) → IfSome b (λ t. StandsAt l t.reads)
          by_told None a = tt
          by_told (Some u) a = along_stands l front.0 u.reads same closed (subst (λ (l : List ℕ). IsAlong l u.reads same closed) front.1 a) ends.0 ends.1

      -- a disk that tells its state reads one of these
      pub read_other : (IsTrue closed → ((same ≡ length octets) ⊎ (same ≡ length (octets ++ doubted_octets doubted))) → ⊥) → after ≡ None
      read_other none = by_told told after held image end along
        where
          by_told : (a b : Option DiskState) → IfSome a (λ s. LeavesOnly (BeginsWithEither octets doubted) s.present) → ReadsImage a → Tells a b (λ s t. t ≡ synced s)
              → IfSome b (λ t. IsAlong (octets ++ doubted_octets doubted) t.reads same closed) → b ≡ None
          by_told None None here image end a = refl
          by_told None (Some t) here image end a = absurd end
          by_told (Some s) None here image end a = absurd end
          by_told (Some s) (Some t) here image end a =
              absurd (along_neither octets t.reads doubted same closed a (λ e t. none t (inl e)) (λ e t. none t (inr e))
              (subst (BeginsWithEither octets doubted) (sym (ap (λ (t : DiskState). t.reads) end)) (here s.reads image)))

-- ---- the same, of the octets that the code compared

pub front_of : (octets behind new : List ℕ) (n : ℕ) → new ≡ octets ++ behind → n ≡ length octets → take n new ≡ octets
front_of octets behind new n new_is n_is = ap (take n) new_is ∙ take_at octets behind n (sym n_is)

pub whole_of : (octets behind new : List ℕ) (n : ℕ) → new ≡ octets ++ behind → n ≡ length octets → new ≡ take n new ++ behind
whole_of octets behind new n new_is n_is = new_is ∙ ap (λ (l : List ℕ). l ++ behind) (sym (front_of octets behind new n new_is n_is))

module _ (told : Option DiskState) (area service : ℕ) (octets : List ℕ) (found : Found) (failed : Bool) (doubted : Option JournalRecord) (sound : IsSound told area service octets found failed doubted) (after : Option DiskState) (image : ReadsImage told)
    (end : Tells told after (λ s t. t ≡ synced s)) (new known : List ℕ) (n : ℕ) (known_is : known ≡ new) (new_is : new ≡ octets ++ doubted_octets doubted) (n_is : n ≡ length octets) (same : ℕ) (closed : Bool)
    (along : IfSome after (λ t. IsAlong known t.reads same closed)) where
  whole : IfSome after (λ t. IsAlong (octets ++ doubted_octets doubted) t.reads same closed)
  whole = subst (λ (l : List ℕ). IfSome after (λ t. IsAlong l t.reads same closed)) (known_is ∙ new_is) along

  pub may_found : (l : List ℕ) (f : Found) → MayFind (take n new) found doubted l f → MayFind octets found doubted l f
  may_found l f may = subst (λ (o : List ℕ). MayFind o found doubted l f) (front_of octets (doubted_octets doubted) new n new_is n_is) may

  pub found_sound : (l : List ℕ) (f : Found) (d : Option JournalRecord) → MayFind (take n new) found doubted l f → (rest : List ℕ) × (new ≡ l ++ rest) → (same ≡ length l) × IsTrue closed → d ≡ None → IsSound after area service l f false d
  found_sound l f d may front ends d_is =
      read_found told area service octets found failed doubted sound after image end same closed whole l f d (may_found l f may) (front.0, sym new_is ∙ front.1) ends d_is

  pub other_none : (IsTrue closed → ((same ≡ n) ⊎ (same ≡ length new)) → ⊥) → after ≡ None
  other_none none =
      read_other told area service octets found failed doubted sound after image end same closed whole
      (λ t e. none t (elim e [ inl e ↦ inl (e ∙ sym n_is) | inr e ↦ inr (e ∙ ap length (sym new_is)) ]))

-- ---- a disk that tells nothing of its state

pub none_told : (a b c : Option DiskState) (R S : DiskState → DiskState → Type 0) → Tells a b R → b ≡ None → c ≡ None → Tells a c S
none_told None None None R S h e f = tt
none_told None None (Some t) R S h e f = absurd (no_state t f)
  where
    no_state : (t : DiskState) → Some t ≡ None → ⊥
    no_state t e = absurd cc
none_told None (Some t) c R S h e f = absurd h
none_told (Some s) None c R S h e f = absurd h
none_told (Some s) (Some t) c R S h e f = absurd (no_state t e)
  where
    no_state : (t : DiskState) → Some t ≡ None → ⊥
    no_state t e = absurd cc

pub misread_sound : (b c : Option DiskState) (area service : ℕ) (octets : List ℕ) (found : Found) (doubted : Option JournalRecord) → b ≡ None → c ≡ None → IsSound b area service octets found true doubted → IsSound c area service octets found true doubted
misread_sound b c area service octets found doubted b_is c_is sound = subst (λ (o : Option DiskState). IsSound o area service octets found true doubted) (b_is ∙ sym c_is) sound

pub misread_fault : (wants : Bool) (told : Option DiskState) (before mid after : ℕ) → before ≤ mid → told ≡ None → mid ≤ after → (fault : JournalFault) → IsReadFault false None mid after fault → IsReadFault wants told before after fault
misread_fault wants told before mid after x none y DiskFault f = risen_later before mid after x y f
misread_fault wants told before mid after x none y (Full u n) f = absurd f
misread_fault wants told before mid after x none y (BadHeader place) f = none
misread_fault wants told before mid after x none y (BadRecord place) f = none
misread_fault wants told before mid after x none y LivesSpent f = absurd f
misread_fault wants told before mid after x none y Memory f = absurd cc

-- the record in doubt has octets, and room
pub doubted_fits : (told : Option DiskState) (area service : ℕ) (octets : List ℕ) (found : Found) (failed : Bool) (doubted : Option JournalRecord) → IsSound told area service octets found failed doubted → length octets + length (doubted_octets doubted) + 1 ≤ area
doubted_fits told area service octets found failed None sound = let now = within_now told area service octets found failed None sound in omega (arith, now.room)
doubted_fits told area service octets found failed (Some r) sound =
    let more = sound.each (octets ++ record_octets r) (with_record found (length octets) r) (inr ((refl, refl))) in
    omega (arith, more.room, length-append octets (record_octets r))

pub known_small : (told : Option DiskState) (area service : ℕ) (octets : List ℕ) (found : Found) (failed : Bool) (doubted : Option JournalRecord) → IsSound told area service octets found failed doubted → length octets < area_limit
known_small told area service octets found failed doubted sound = let now = within_now told area service octets found failed doubted sound in omega (arith, now.room, sound.area_is)

pub sound_same : (told : Option DiskState) (area service : ℕ) (octets : List ℕ) (f found : Found) (d doubted : Option JournalRecord) → f ≡ found → d ≡ doubted → IsSound told area service octets found true doubted → IsSound told area service octets f true d
sound_same told area service octets f found d doubted f_is d_is sound =
    subst (λ (d : Option JournalRecord). IsSound told area service octets f true d) (sym d_is) (subst (λ (f : Found). IsSound told area service octets f true doubted) (sym f_is) sound)

-- a journal that needn't read its disk again
module _ (told : Option DiskState) (area service : ℕ) (octets : List ℕ) (found : Found) (failed : Bool) (doubted : Option JournalRecord) (sound : IsSound told area service octets found failed doubted) (fine : failed ≡ false) where
  rest : IfSome told (IsAtRest octets)
  rest = at_rest failed octets doubted told fine sound.kept

  filled : IsFilled service octets found
  filled = (within_now told area service octets found failed doubted sound).filled

  pub rest_safe : Tells told told (ReadIsSafe service)
  rest_safe = by_told told rest
    where
      by_told : (a : Option DiskState) → IfSome a (IsAtRest octets) → Tells a a (ReadIsSafe service)
      by_told None at = tt
      by_told (Some s) at = since_start (IsOld service s) s (leaves_settled (IsOld service s) s at.settled (old_at service s octets found s.reads (image_of s at.settled) filled at.stands))

  pub rest_done : Tells told told (ReadIsDone service)
  rest_done = by_told told rest
    where
      by_told : (a : Option DiskState) → IfSome a (IsAtRest octets) → Tells a a (ReadIsDone service)
      by_told None at = tt
      by_told (Some s) at = record { old = old_at service s octets found s.reads (image_of s at.settled) filled at.stands; settled = at.settled }
