-- What a load of a journal leaves.
use Rattle.std.proofs.Common.{◌≡◌, inl, inr, ℕ, ◌≤◌, ◌<◌, ◌+◌, Bool, true, false, cond, List, [], ◌∷◌, ◌++◌, length, Option, Some, None, refl, sym, ap, subst, ◌∙◌, arith}
use Rattle.std.specs.Prelude.{IfSome}
use Rattle.std.specs.Option.{ForSome}
use Rattle.std.proofs.lemmas.List.{append-nil}
use Rattle.ots_outside.specs.Disk.{DiskState, Moment, IsImage, IsAfterRefusal, LeavesOnly, ReadsImage, Tells, moments, synced, written}
use Rattle.decision_journal.specs.declared.record.JournalRecord.{JournalRecord}
use Rattle.decision_journal.specs.declared.record.JournalRecord.TheVariants.{Life}
use Rattle.decision_journal.specs.declared.journal.JournalFault.{JournalFault}
use Rattle.decision_journal.specs.declared.journal.JournalFault.TheVariants.{DiskFault, Full, BadHeader, BadRecord, LivesSpent, Memory}
use Rattle.decision_journal.specs.Journal.{Found, Holds, IsBroken, IsFilled, IsFresh, IsOtherHeader, IsScanFault, StandsAt, StandsFor, found_in, front, header, first_letter, is_fresh, nothing_found}
use Rattle.decision_journal.specs.Laws.{IsOnTheWay, IsSettled, appended, behind_gate, behind_letter, cleared, created}
use Rattle.decision_journal.specs.State.{AppendIsDone, AppendIsSafe, IsOldOrMore, MayHold, used}
use Rattle.decision_journal.specs.Loading.{HasBegunLoad, IsHeld, IsHeldOrBegun, IsStartFault, IsStarted, LoadIsDone, LoadIsSafe, last_life, loaded, next_life, readied}
use Rattle.decision_journal.proofs.Creation.{creation_safe}
use Rattle.decision_journal.proofs.Images.{image_settled}
use Rattle.decision_journal.proofs.Joined.{tells_both}
use Rattle.decision_journal.proofs.Kept.{stands_back, stands_from}
use Rattle.decision_journal.proofs.OneList.{one_list}
use Rattle.decision_journal.proofs.Since.{image_of, leaves_settled, since_refused, since_synced, since_then, since_weaker}
use Rattle.decision_journal.proofs.Ways.{cleared_longer, on_the_way, tells_then, tells_weaker, way_before, way_behind, wrote_synced}

-- ---- the calls of a creation
module _ (service : ℕ) where
  abbrev pub Made : DiskState → DiskState → Type 0
  Made s t = IsOnTheWay s (created service (cleared s)) t

  pub way_cleared : (a b : Option DiskState) → Tells a b (λ s t. IsOnTheWay s (cleared s) t) → Tells a b Made
  way_cleared a b h =
      tells_weaker a b (λ s t. IsOnTheWay s (cleared s) t) Made (λ s t h. way_before 0 (first_letter ∷ []) s (wrote_synced 1 (behind_letter service) (cleared s)) t (way_before 1 (behind_letter service) s (cleared s) t h)) h

  module _ (o : List ℕ) (o_is : o ≡ behind_letter service) (a b c : Option DiskState) (first : Tells a b (λ s t. t ≡ cleared s)) where
    pub way_rest : Tells b c (λ s t. IsOnTheWay s (synced (written 1 o s)) t) → Tells a c Made
    way_rest h =
        tells_weaker a c _ Made (λ s u h.
        let at : IsOnTheWay (cleared s) (wrote_synced 1 (behind_letter service) (cleared s)) u = subst (λ (m : DiskState). IsOnTheWay m (wrote_synced 1 (behind_letter service) m) u) h.1 (subst (λ (l : List ℕ). IsOnTheWay h.0 (wrote_synced 1 l h.0) u) o_is h.2) in
        way_before 0 (first_letter ∷ []) s (wrote_synced 1 (behind_letter service) (cleared s)) u (way_behind s (cleared s) (wrote_synced 1 (behind_letter service) (cleared s)) u (cleared_longer s) at))
        (tells_then a b c (λ s t. t ≡ cleared s) (λ s t. IsOnTheWay s (synced (written 1 o s)) t) first h)

    abbrev Filled : DiskState → DiskState
    Filled s = wrote_synced 1 (behind_letter service) (cleared s)

    second : Tells b c (λ s t. t ≡ synced (written 1 o s)) → Tells a c (λ s t. t ≡ Filled s)
    second h =
        tells_weaker a c _ (λ s t. t ≡ Filled s) (λ s t h. h.2 ∙ ap (λ (l : List ℕ). wrote_synced 1 l h.0) o_is ∙ ap (wrote_synced 1 (behind_letter service)) h.1)
        (tells_then a b c (λ s t. t ≡ cleared s) (λ s t. t ≡ synced (written 1 o s)) first h)

    pub way_letter : (d : Option DiskState) → Tells b c (λ s t. t ≡ synced (written 1 o s)) → Tells c d (λ s t. IsOnTheWay s (synced (written 0 (first_letter ∷ []) s)) t) → Tells a d Made
    way_letter d filled h =
        tells_weaker a d _ Made (λ s u h.
        let at : IsOnTheWay (Filled s) (created service (cleared s)) u = subst (λ (m : DiskState). IsOnTheWay m (wrote_synced 0 (first_letter ∷ []) m) u) h.1 h.2 in
        way_behind s (Filled s) (created service (cleared s)) u (omega (arith, cleared_longer s)) at)
        (tells_then a c d (λ s t. t ≡ Filled s) (λ s t. IsOnTheWay s (synced (written 0 (first_letter ∷ []) s)) t) (second filled) h)

-- ---- a creation, of a settled disk that is not yet a journal

module _ (service : ℕ) where
  pub to_begun : (s : DiskState) (c : List ℕ) → IsSettled s → IsFresh s.reads → Holds service c [] → IsHeldOrBegun service s c
  to_begun s c settled fresh holds = ([], (record { image = s.reads; is_image = image_of s settled; holds = inr (fresh, refl) }, inl holds))

  pub made_safe : (s t : DiskState) → IsSettled s → IsFresh s.reads → IsOnTheWay s (created service (cleared s)) t → LoadIsSafe service s t
  made_safe s t settled fresh way premise =
      since_weaker (λ c. Holds service c []) (IsHeldOrBegun service s) s t (λ c holds. to_begun s c settled fresh holds)
      (on_the_way (λ c. Holds service c []) s (created service (cleared s)) t (creation_safe service s settled fresh).0 way)

  pub made_started : (s t : DiskState) → IsSettled s → IsFresh s.reads → t ≡ created service (cleared s) → IsStarted service (header service) nothing_found s t
  made_started s t settled fresh is =
      let safe = creation_safe service s settled fresh in
      let stands : StandsFor service t.reads [] = subst (λ (t : DiskState). StandsFor service t.reads []) (sym is) safe.1 in
      let front_is : header service ≡ front service [] = sym (append-nil (header service)) in
      record {
        records = [];
        held = inr (fresh, refl);
        are = record { octets_are = front_is; fit = tt; in_turn = tt; within = stands.within; found_is = refl };
        rest = record { settled = subst IsSettled (sym is) safe.2; stands = stands_back service (header service) t.reads [] front_is stands };
        image = image_of s settled;
      }

-- ---- a reading, and then more

module _ (service : ℕ) (s : DiskState) (image : IsImage s.present s.reads) where
  pub begun_at : LeavesOnly (IsHeld service) s.present → LeavesOnly (IsHeldOrBegun service s) s.present
  begun_at premise c i = let held = premise c i in (held.0, (record { image = c; is_image = i; holds = held.1 }, inl held.1))

  pub unread_safe : (t : DiskState) → IsAfterRefusal s (synced s) t → LoadIsSafe service s t
  unread_safe t after premise = since_refused (IsHeldOrBegun service s) s t (begun_at premise) image after

  pub read_safe : LoadIsSafe service s (synced s)
  read_safe premise = since_synced (IsHeldOrBegun service s) s (begun_at premise) image

  back : (c : List ℕ) → IsHeldOrBegun service (synced s) c → IsHeldOrBegun service s c
  back c (rs, (can, holds)) =
      let is : can.image ≡ s.reads = image_settled s.reads can.image can.is_image in
      (rs, (record { image = can.image; is_image = subst (IsImage s.present) (sym is) image; holds = can.holds }, holds))

  pub safe_behind : (t : DiskState) → LoadIsSafe service (synced s) t → LoadIsSafe service s t
  safe_behind t safe premise =
      since_then (IsHeldOrBegun service s) s (synced s) t (read_safe premise)
      (since_weaker (IsHeldOrBegun service (synced s)) (IsHeldOrBegun service s) (synced s) t back (safe (leaves_settled (IsHeld service) (synced s) refl (premise s.reads image))))

  pub started_behind : (octets : List ℕ) (found : Found) (t : DiskState) → IsStarted service octets found (synced s) t → IsStarted service octets found s t
  started_behind octets found t started = record { records = started.records; held = started.held; are = started.are; rest = started.rest; image = image }

  pub started_read : (read octets : List ℕ) (found : Found) → read ≡ s.reads → IsFilled service octets found → StandsAt octets read → IsStarted service octets found s (synced s)
  started_read read octets found is filled at =
      let here = subst (StandsAt octets) is at in
      record {
        records = filled.0;
        held = inl (stands_from service octets s.reads found filled.0 filled.1 here);
        are = filled.1;
        rest = record { settled = refl; stands = here };
        image = image;
      }

-- ---- over what a disk tells
module _ (service : ℕ) (a b : Option DiskState) (image : ReadsImage a) where
  abbrev Synced : Type 0
  Synced = Tells a b (λ s t. t ≡ synced s)

  pub told_unread : Tells a b (λ s t. IsAfterRefusal s (synced s) t) → Tells a b (LoadIsSafe service)
  told_unread h = by_told a b image h
    where
      by_told : (a b : Option DiskState) → ReadsImage a → Tells a b (λ s t. IsAfterRefusal s (synced s) t) → Tells a b (LoadIsSafe service)
      by_told None None image h = tt
      by_told None (Some t) image h = absurd h
      by_told (Some s) None image h = absurd h
      by_told (Some s) (Some t) image h = unread_safe service s image t h

  pub told_read : Synced → Tells a b (LoadIsSafe service)
  told_read h = by_told a b image h
    where
      by_told : (a b : Option DiskState) → ReadsImage a → Tells a b (λ s t. t ≡ synced s) → Tells a b (LoadIsSafe service)
      by_told None None image h = tt
      by_told None (Some t) image h = absurd h
      by_told (Some s) None image h = absurd h
      by_told (Some s) (Some t) image h = subst (LoadIsSafe service s) (sym h) (read_safe service s image)

  pub told_behind : (c : Option DiskState) → Synced → Tells b c (LoadIsSafe service) → Tells a c (LoadIsSafe service)
  told_behind c h safe = by_told a b c image h safe
    where
      by_told : (a b c : Option DiskState) → ReadsImage a → Tells a b (λ s t. t ≡ synced s) → Tells b c (LoadIsSafe service) → Tells a c (LoadIsSafe service)
      by_told None None None image h safe = tt
      by_told None None (Some u) image h safe = absurd safe
      by_told None (Some t) c image h safe = absurd h
      by_told (Some s) None c image h safe = absurd h
      by_told (Some s) (Some t) None image h safe = absurd safe
      by_told (Some s) (Some t) (Some u) image h safe = safe_behind service s image u (subst (λ (t : DiskState). LoadIsSafe service t u) h safe)

  module _ (octets : List ℕ) (found : Found) where
    pub told_started : (c : Option DiskState) → Synced → Tells b c (IsStarted service octets found) → Tells a c (IsStarted service octets found)
    told_started c h started = by_told a b c image h started
      where
        by_told : (a b c : Option DiskState) → ReadsImage a → Tells a b (λ s t. t ≡ synced s) → Tells b c (IsStarted service octets found) → Tells a c (IsStarted service octets found)
        by_told None None None image h started = tt
        by_told None None (Some u) image h started = absurd started
        by_told None (Some t) c image h started = absurd h
        by_told (Some s) None c image h started = absurd h
        by_told (Some s) (Some t) None image h started = absurd started
        by_told (Some s) (Some t) (Some u) image h started = started_behind service s image octets found u (subst (λ (t : DiskState). IsStarted service octets found t u) h started)

    pub told_found : (read : List ℕ) → Synced → IfSome b (λ t. read ≡ t.reads) → IsFilled service octets found → StandsAt octets read → Tells a b (IsStarted service octets found)
    told_found read h is filled at = by_told a b image h is
      where
        by_told : (a b : Option DiskState) → ReadsImage a → Tells a b (λ s t. t ≡ synced s) → IfSome b (λ t. read ≡ t.reads) → Tells a b (IsStarted service octets found)
        by_told None None image h is = tt
        by_told None (Some t) image h is = absurd h
        by_told (Some s) None image h is = absurd h
        by_told (Some s) (Some t) image h is =
            subst (IsStarted service octets found s) (sym h) (started_read service s image read octets found (is ∙ ap (λ (t : DiskState). t.reads) h) filled at)

  -- what holds of the octets that were read holds of what the disk read before
  pub told_reads : (P : List ℕ → Type 0) (read : List ℕ) → Synced → IfSome b (λ t. read ≡ t.reads) → P read → IfSome a (λ s. P s.reads)
  told_reads P read h is p = by_told a b h is
    where
      by_told : (a b : Option DiskState) → Tells a b (λ s t. t ≡ synced s) → IfSome b (λ t. read ≡ t.reads) → IfSome a (λ s. P s.reads)
      by_told None b h is = tt
      by_told (Some s) None h is = absurd h
      by_told (Some s) (Some t) h is = subst P (is ∙ ap (λ (t : DiskState). t.reads) h) p

-- ---- faults

pub scan_fault : (service : ℕ) (a b : Option DiskState) (image : ReadsImage a) (read : List ℕ) (before after : ℕ) → Tells a b (λ s t. t ≡ synced s) → IfSome b (λ t. read ≡ t.reads) → (IsFresh read → ⊥)
    → (fault : JournalFault) → IsScanFault service read fault → IsStartFault service a before after fault
scan_fault service a b image read before after h is old DiskFault f = absurd f
scan_fault service a b image read before after h is old (Full u n) f = absurd f
scan_fault service a b image read before after h is old (BadHeader place) f = told_reads service a b image (λ o. (IsFresh o → ⊥) × IsOtherHeader service o place) read h is (old, f)
scan_fault service a b image read before after h is old (BadRecord place) f = told_reads service a b image (λ o. (IsFresh o → ⊥) × IsBroken service o place) read h is (old, f)
scan_fault service a b image read before after h is old LivesSpent f = absurd f
scan_fault service a b image read before after h is old Memory f = tt

-- ---- a creation, over what a disk tells

pub made_safe_told : (service : ℕ) (octets : List ℕ) (a b : Option DiskState) → ForSome a (λ s. octets ≡ s.reads) → ForSome a IsSettled → IsFresh octets → Tells a b (Made service) → Tells a b (LoadIsSafe service)
made_safe_told service octets None None is settled fresh way = tt
made_safe_told service octets None (Some t) is settled fresh way = absurd way
made_safe_told service octets (Some s) None is settled fresh way = absurd way
made_safe_told service octets (Some s) (Some t) is settled fresh way = made_safe service s t (settled s refl) (subst IsFresh (is s refl) fresh) way

pub made_started_told : (service : ℕ) (octets l : List ℕ) (f : Found) (a b : Option DiskState) → ForSome a (λ s. octets ≡ s.reads) → ForSome a IsSettled → IsFresh octets → l ≡ header service → f ≡ nothing_found
    → Tells a b (λ s t. t ≡ created service (cleared s)) → Tells a b (IsStarted service l f)
made_started_told service octets l f None None is settled fresh l_is f_is end = tt
made_started_told service octets l f None (Some t) is settled fresh l_is f_is end = absurd end
made_started_told service octets l f (Some s) None is settled fresh l_is f_is end = absurd end
made_started_told service octets l f (Some s) (Some t) is settled fresh l_is f_is end =
    subst (λ (l : List ℕ). IsStarted service l f s t) (sym l_is) (subst (λ (f : Found). IsStarted service (header service) f s t) (sym f_is) (made_started service s t (settled s refl) (subst IsFresh (is s refl) fresh) end))

-- ---- the life, and room for it

pub spent_told : (service : ℕ) (octets : List ℕ) (found : Found) (a b : Option DiskState) → Tells a b (IsStarted service octets found) → found.life ≡ last_life
    → IfSome a (λ disk. (rs : List JournalRecord) × (Holds service disk.reads rs × ((found_in rs).life ≡ last_life)))
spent_told service octets found None b started spent = tt
spent_told service octets found (Some s) None started spent = absurd started
spent_told service octets found (Some s) (Some t) started spent = (started.records, (started.held, sym (ap (λ (f : Found). f.life) started.are.found_is) ∙ spent))

pub full_told : (service u : ℕ) (octets : List ℕ) (found : Found) (a b : Option DiskState) → Tells a b (IsStarted service octets found) → found.life < last_life → u ≡ used octets found
    → IfSome a (λ disk. (rs : List JournalRecord) × (Holds service disk.reads rs × ((found_in rs).life < last_life) × (u ≡ used (front service rs) (found_in rs))))
full_told service u octets found None b started left is = tt
full_told service u octets found (Some s) None started left is = absurd started
full_told service u octets found (Some s) (Some t) started left is = (
  started.records,
  (
    started.held,
    subst (λ (f : Found). f.life < last_life) started.are.found_is left,
    is ∙ ap (λ (l : List ℕ). used l found) started.are.octets_are ∙ ap (λ (f : Found). used (front service started.records) f) started.are.found_is,
  ),
)

-- the same of other octets, and of what their records leave
pub at_same : (P : List ℕ → Found → Type 0) (l m : List ℕ) (f h : Found) → m ≡ l → h ≡ f → P l f → P m h
at_same P l m f h l_is f_is p = subst (λ (m : List ℕ). P m h) (sym l_is) (subst (λ (h : Found). P l h) (sym f_is) p)

-- ---- and the next life

readied_by_longer : (b : Bool) (service : ℕ) (s : DiskState) → length (moments s) ≤ length (moments (cond b (created service (cleared (synced s))) (synced s)))
readied_by_longer true service s = omega (arith, cleared_longer (synced s))
readied_by_longer false service s = omega arith

readied_longer : (service : ℕ) (s : DiskState) → length (moments s) ≤ length (moments (readied service (synced s)))
readied_longer service s = readied_by_longer (is_fresh s.reads) service s

module _ (service : ℕ) (octets : List ℕ) (found : Found) (l : ℕ) (l_is : l ≡ found.life + 1) where
  module _ (s t : DiskState) (started : IsStarted service octets found s t) where
    same_records : (rs : List JournalRecord) → MayHold service t rs → rs ≡ started.records
    same_records rs held =
        let image : held.image ≡ t.reads = image_settled t.reads held.image (subst (λ (m : Moment). IsImage m held.image) started.rest.settled held.is_image) in
        one_list service t.reads rs started.records (subst (λ (l : List ℕ). StandsFor service l rs) image held.stands) (stands_from service octets t.reads found started.records started.are started.rest.stands)

    life_is : Life l ≡ next_life started.records
    life_is = ap Life (l_is ∙ ap (λ (f : Found). f.life + 1) started.are.found_is)

    more_is : (rs : List JournalRecord) (c : List ℕ) → rs ≡ started.records → StandsFor service c (rs ++ Life l ∷ []) → StandsFor service c (started.records ++ next_life started.records ∷ [])
    more_is rs c same stands =
        subst (λ (r : JournalRecord). StandsFor service c (started.records ++ r ∷ [])) life_is (subst (λ (rs : List JournalRecord). StandsFor service c (rs ++ Life l ∷ [])) same stands)

    begun : (c : List ℕ) → IsOldOrMore service t (Life l) c → IsHeldOrBegun service s c
    begun c (rs, (held, inl stands)) =
        (started.records, (record { image = s.reads; is_image = started.image; holds = started.held }, inl (inl (subst (StandsFor service c) (same_records rs held) stands))))
    begun c (rs, (held, inr stands)) =
        (started.records, (record { image = s.reads; is_image = started.image; holds = started.held }, inr (more_is rs c (same_records rs held) stands)))

    pub safe_from : (u : DiskState) → LoadIsSafe service s t → AppendIsSafe service (Life l) t u → LoadIsSafe service s u
    safe_from u first second premise =
        since_then (IsHeldOrBegun service s) s t u (first premise) (since_weaker (IsOldOrMore service t (Life l)) (IsHeldOrBegun service s) t u begun second)

    -- the end of its calls, from those of the append
    module _ (g : ℕ) (g_is : g ≡ length octets) (readied_is : t ≡ readied service (synced s)) where
      end_is : appended g (behind_gate (Life l)) t ≡ loaded service started.records s
      end_is =
          ap (λ (g : ℕ). appended g (behind_gate (Life l)) t) (g_is ∙ ap length started.are.octets_are)
          ∙ ap (λ (r : JournalRecord). appended (length (front service started.records)) (behind_gate r) t) life_is
          ∙ ap (appended (length (front service started.records)) (behind_gate (next_life started.records))) readied_is

      done_from : (u : DiskState) → u ≡ appended g (behind_gate (Life l)) t → AppendIsDone service (Life l) t u → LoadIsDone service s u
      done_from u is done = record {
        records = started.records;
        held = started.held;
        disk = is ∙ end_is;
        stands = more_is done.records u.reads (same_records done.records done.held) done.stands;
        settled = done.settled;
      }

      begun_from : (u : DiskState) → IsOnTheWay t (appended g (behind_gate (Life l)) t) u → HasBegunLoad service s u
      begun_from u way =
          let end = loaded service started.records s in
          let at : IsOnTheWay t end u = subst (λ (e : DiskState). IsOnTheWay t e u) end_is way in
          let longer : length (moments s) ≤ length (moments t) = subst (λ (m : DiskState). length (moments s) ≤ length (moments m)) (sym readied_is) (readied_longer service s) in
          inr ((started.records, (started.held, way_behind s t end u longer at)))

  pub load_safe : (a b c : Option DiskState) → Tells a b (IsStarted service octets found) → Tells a b (LoadIsSafe service) → Tells b c (AppendIsSafe service (Life l)) → Tells a c (LoadIsSafe service)
  load_safe None None None started first second = tt
  load_safe None None (Some u) started first second = absurd second
  load_safe None (Some t) c started first second = absurd first
  load_safe (Some s) None c started first second = absurd first
  load_safe (Some s) (Some t) None started first second = absurd second
  load_safe (Some s) (Some t) (Some u) started first second = safe_from s t started u first second

  module _ (g : ℕ) (g_is : g ≡ length octets) (a b c : Option DiskState) (started : Tells a b (IsStarted service octets found)) (ready : Tells a b (λ s t. t ≡ readied service (synced s))) where
    abbrev Ready : DiskState → DiskState → Type 0
    Ready s t = IsStarted service octets found s t × (t ≡ readied service (synced s))

    both : Tells a b Ready
    both = tells_both a b (IsStarted service octets found) (λ s t. t ≡ readied service (synced s)) started ready

    pub load_done : Tells b c (λ s t. t ≡ appended g (behind_gate (Life l)) s) → Tells b c (AppendIsDone service (Life l)) → Tells a c (LoadIsDone service)
    load_done last done =
        tells_weaker a c _ (LoadIsDone service) (λ s u h. done_from s h.0 h.1.0 g g_is h.1.1 u h.2.0 h.2.1)
        (tells_then a b c Ready (λ s t. (t ≡ appended g (behind_gate (Life l)) s) × AppendIsDone service (Life l) s t) both
        (tells_both b c (λ s t. t ≡ appended g (behind_gate (Life l)) s) (AppendIsDone service (Life l)) last done))

    pub load_begun : Tells b c (λ s t. IsOnTheWay s (appended g (behind_gate (Life l)) s) t) → Tells a c (HasBegunLoad service)
    load_begun way =
        tells_weaker a c _ (HasBegunLoad service) (λ s u h. begun_from s h.0 h.1.0 g g_is h.1.1 u h.2)
        (tells_then a b c Ready (λ s t. IsOnTheWay s (appended g (behind_gate (Life l)) s) t) both way)
