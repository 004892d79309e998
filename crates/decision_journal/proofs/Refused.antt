-- What a refused load makes of its disk.
use Rattle.std.proofs.Common.{◌≡◌, inl, inr, ℕ, ◌+◌, ◌≤◌, Bool, true, false, cond, get_or, List, [], ◌∷◌, length, Option, Some, None, refl, sym, ap, subst, ◌∙◌, arith}
use Rattle.std.specs.Prelude.{IfSome}
use Rattle.std.proofs.lemmas.Bool.{cases_eq, cases_lt}
use Rattle.ots_outside.specs.Disk.{DiskState, ReadsImage, Tells, synced}
use Rattle.decision_journal.specs.declared.record.JournalRecord.{JournalRecord}
use Rattle.decision_journal.specs.declared.record.JournalRecord.TheVariants.{Life}
use Rattle.decision_journal.specs.declared.journal.JournalFault.{JournalFault}
use Rattle.decision_journal.specs.declared.journal.JournalFault.TheVariants.{DiskFault, Full, BadHeader, BadRecord, LivesSpent, Memory}
use Rattle.decision_journal.specs.Journal.{Found, Holds, IsBroken, IsFresh, IsOfDisk, IsOtherHeader, IsScanFault, first_letter, found_in, front, is_fresh}
use Rattle.decision_journal.specs.Laws.{IsOnTheWay, appended, behind_gate, cleared, created}
use Rattle.decision_journal.specs.State.{HasNoRoom, IsAppendFault, JournalState, used}
use Rattle.decision_journal.specs.Calls.{HasDoubt, IsReady, IsRefusedAppend, IsUnready, IsUnwritten}
use Rattle.decision_journal.specs.Loading.{HasBegunLoad, IsDiskFault, IsLoadFault, IsStartFault, IsRefusedLoad, IsStarted, last_life, loaded, next_life, readied}
use Rattle.decision_journal.proofs.Calls.{fine_then}
use Rattle.decision_journal.proofs.Joined.{known_now, risen_later}
use Rattle.decision_journal.proofs.Loads.{fresh_test, stands_test}
use Rattle.decision_journal.proofs.Starts.{load_begun, told_reads}
use Rattle.decision_journal.proofs.Using.{life_length}
use Rattle.decision_journal.proofs.Ways.{tells_then, tells_weaker, way_before, way_behind, wrote_synced}

-- a relation for another, where something holds of the first
tells_at : (a b : Option DiskState) (P : DiskState → Type 0) (R S : DiskState → DiskState → Type 0) → ((s t : DiskState) → P s → R s t → S s t) → IfSome a P → Tells a b R → Tells a b S
tells_at None None P R S f p h = tt
tells_at None (Some t) P R S f p h = absurd h
tells_at (Some s) None P R S f p h = absurd h
tells_at (Some s) (Some t) P R S f p h = f s t p h

way_appended : (g : ℕ) (b : List ℕ) (s m t : DiskState) → IsOnTheWay s m t → IsOnTheWay s (appended g b m) t
way_appended g b s m t way = way_before g (1 ∷ []) s (wrote_synced (g + 1) b m) t (way_before (g + 1) b s m t way)

-- octets that are a journal, by the test
pub old_test : (o : List ℕ) → (IsFresh o → ⊥) → is_fresh o ≡ false
old_test o old = elim (cases_lt (length o) 17) [
  | inl less ↦ absurd (old (inl less))
  | inr long ↦ elim (cases_eq (length o) 17) [
    | inl same ↦ elim (cases_eq (get_or o 0 0) first_letter) [ inl letter ↦ grind arith | inr other ↦ absurd (old (inr (same, other))) ]
    | inr more ↦ grind arith
  ]
]

pub is_old : (b : Bool) (P : Type 0) → (P → b ≡ true) → b ≡ false → P → ⊥
is_old true P test e p = absurd cc
is_old false P test e p = let t = test p in absurd cc

module _ (service : ℕ) where
  fresh_readied : (s : DiskState) → IsFresh s.reads → created service (cleared (synced s)) ≡ readied service (synced s)
  fresh_readied s fresh = sym (ap (λ (b : Bool). cond b (created service (cleared (synced s))) (synced s)) (fresh_test s.reads fresh))

  old_readied : (s : DiskState) → is_fresh s.reads ≡ false → synced s ≡ readied service (synced s)
  old_readied s old = sym (ap (λ (b : Bool). cond b (created service (cleared (synced s))) (synced s)) old)

  -- on the way to the creation is on the way to the load
  begun_made : (s u : DiskState) → IsFresh s.reads → IsOnTheWay (synced s) (created service (cleared (synced s))) u → HasBegunLoad service s u
  begun_made s u fresh way =
      let end = readied service (synced s) in
      let at : IsOnTheWay (synced s) end u = subst (λ (e : DiskState). IsOnTheWay (synced s) e u) (fresh_readied s fresh) way in
      let whole : IsOnTheWay (synced s) (loaded service [] s) u = way_appended (length (front service [])) (behind_gate (next_life [])) (synced s) end u at in
      inr (([], (inr (fresh, refl), way_behind s (synced s) (loaded service [] s) u (omega arith) whole)))

  module _ (a b : Option DiskState) (image : ReadsImage a) (octets : List ℕ) (first : Tells a b (λ s t. t ≡ synced s)) (read : IfSome b (λ t. octets ≡ t.reads)) where
    pub made_readied : (c : Option DiskState) → IsFresh octets → Tells b c (λ s t. t ≡ created service (cleared s)) → Tells a c (λ s t. t ≡ readied service (synced s))
    made_readied c fresh second =
        tells_at a c (λ s. IsFresh s.reads) _ (λ s t. t ≡ readied service (synced s)) (λ s u fresh h. h.2 ∙ ap (λ (m : DiskState). created service (cleared m)) h.1 ∙ fresh_readied s fresh)
        (told_reads service a b image IsFresh octets first read fresh) (tells_then a b c (λ s t. t ≡ synced s) (λ s t. t ≡ created service (cleared s)) first second)

    pub read_readied : (IsFresh octets → ⊥) → Tells a b (λ s t. t ≡ readied service (synced s))
    read_readied old =
        tells_at a b (λ s. IsFresh s.reads → ⊥) (λ s t. t ≡ synced s) (λ s t. t ≡ readied service (synced s)) (λ s t old h. h ∙ old_readied s (old_test s.reads old))
        (told_reads service a b image (λ o. IsFresh o → ⊥) octets first read old) first

    pub made_begun : (c : Option DiskState) → IsFresh octets → Tells b c (λ s t. IsOnTheWay s (created service (cleared s)) t) → Tells a c (HasBegunLoad service)
    made_begun c fresh way =
        tells_at a c (λ s. IsFresh s.reads) _ (HasBegunLoad service) (λ s u fresh h. begun_made s u fresh (subst (λ (m : DiskState). IsOnTheWay m (created service (cleared m)) u) h.1 h.2))
        (told_reads service a b image IsFresh octets first read fresh) (tells_then a b c (λ s t. t ≡ synced s) (λ s t. IsOnTheWay s (created service (cleared s)) t) first way)

-- ---- refusals of a reading

pub unwritten_begun : (service : ℕ) (a b : Option DiskState) → Tells a b IsUnwritten → Tells a b (HasBegunLoad service)
unwritten_begun service a b h = tells_weaker a b IsUnwritten (HasBegunLoad service) (λ s t h. inl h) h

pub refused_begun : (service : ℕ) (a b : Option DiskState) → Tells a b (HasBegunLoad service) → (fault : JournalFault) → IsOfDisk fault → Tells a b (IsRefusedLoad service fault)
refused_begun service a b h DiskFault f = h
refused_begun service a b h (Full u n) f = absurd f
refused_begun service a b h (BadHeader place) f = absurd f
refused_begun service a b h (BadRecord place) f = absurd f
refused_begun service a b h LivesSpent f = absurd f
refused_begun service a b h Memory f = h

pub of_disk : (wants : Bool) (n m : ℕ) (fault : JournalFault) → IsDiskFault wants n m fault → IsOfDisk fault
of_disk wants n m DiskFault f = tt
of_disk wants n m (Full u k) f = absurd f
of_disk wants n m (BadHeader place) f = absurd f
of_disk wants n m (BadRecord place) f = absurd f
of_disk wants n m LivesSpent f = absurd f
of_disk wants n m Memory f = tt

pub start_fault : (area service : ℕ) (told : Option DiskState) (n m : ℕ) (fault : JournalFault) → IsStartFault service told n m fault → IsLoadFault area service told n m fault
start_fault area service told n m DiskFault f = f
start_fault area service told n m (Full u k) f = absurd f
start_fault area service told n m (BadHeader place) f = f
start_fault area service told n m (BadRecord place) f = f
start_fault area service told n m LivesSpent f = absurd f
start_fault area service told n m Memory f = tt

-- what holds of the octets that were read, of a disk that told them before its sync
if_read : (octets : List ℕ) (a b : Option DiskState) (P : List ℕ → Type 0) → P octets → Tells a b (λ s t. t ≡ synced s) → IfSome b (λ t. octets ≡ t.reads) → IfSome a (λ s. P s.reads)
if_read octets None b P p read known = tt
if_read octets (Some s) None P p read known = absurd read
if_read octets (Some s) (Some t) P p read known = subst P (known ∙ ap (λ (d : DiskState). d.reads) read) p

pub scan_start : (service : ℕ) (octets : List ℕ) (a b : Option DiskState) (n m : ℕ) → Tells a b (λ s t. t ≡ synced s) → IfSome b (λ t. octets ≡ t.reads) → (IsFresh octets → ⊥)
    → (fault : JournalFault) → IsScanFault service octets fault → IsStartFault service a n m fault
scan_start service octets a b n m read known old DiskFault f = absurd f
scan_start service octets a b n m read known old (Full u k) f = absurd f
scan_start service octets a b n m read known old (BadHeader place) f = if_read octets a b (λ l. (IsFresh l → ⊥) × IsOtherHeader service l place) (old, f) read known
scan_start service octets a b n m read known old (BadRecord place) f = if_read octets a b (λ l. (IsFresh l → ⊥) × IsBroken service l place) (old, f) read known
scan_start service octets a b n m read known old LivesSpent f = absurd f
scan_start service octets a b n m read known old Memory f = tt

pub refused_scan : (service : ℕ) (a b : Option DiskState) (octets : List ℕ) → Tells a b (λ s t. t ≡ synced s) → Tells a b IsUnwritten → (fault : JournalFault) → IsScanFault service octets fault → Tells a b (IsRefusedLoad service fault)
refused_scan service a b octets read way DiskFault f = absurd f
refused_scan service a b octets read way (Full u n) f = absurd f
refused_scan service a b octets read way (BadHeader place) f = read
refused_scan service a b octets read way (BadRecord place) f = read
refused_scan service a b octets read way LivesSpent f = absurd f
refused_scan service a b octets read way Memory f = unwritten_begun service a b way

-- a journal whose last life is spent was one before
pub spent_unwritten : (service : ℕ) (octets : List ℕ) (found : Found) (a b : Option DiskState) → Tells a b (IsStarted service octets found) → Tells a b (λ s t. t ≡ readied service (synced s)) → found.life ≡ last_life → Tells a b (λ s t. t ≡ synced s)
spent_unwritten service octets found None None started ready spent = tt
spent_unwritten service octets found None (Some t) started ready spent = absurd ready
spent_unwritten service octets found (Some s) None started ready spent = absurd ready
spent_unwritten service octets found (Some s) (Some t) started ready spent = ready ∙ sym (old_readied service s (old started.held))
  where
    life : (found_in started.records).life ≡ last_life
    life = ap (λ (f : Found). f.life) (sym started.are.found_is) ∙ spent

    old : Holds service s.reads started.records → is_fresh s.reads ≡ false
    old (inl stands) = stands_test service s.reads started.records stands
    old (inr fresh) = let none = ap (λ (rs : List JournalRecord). (found_in rs).life) fresh.1 in absurd (omega (arith, none, life))

-- ---- refusals of the append of the next life

never_both : (b : Bool) → b ≡ false → b ≡ true → ⊥
never_both true e h = absurd cc
never_both false e h = absurd cc

tells_self : (a b : Option DiskState) (P R : DiskState → DiskState → Type 0) → Tells a b P → ((s : DiskState) → R s s) → Tells b b R
tells_self None None P R h f = tt
tells_self None (Some t) P R h f = absurd h
tells_self (Some s) None P R h f = absurd h
tells_self (Some s) (Some t) P R h f = f t

-- a journal that was read or made, to which nothing was written
pub idle_begun : (service : ℕ) (octets : List ℕ) (found : Found) (a b : Option DiskState) → Tells a b (IsStarted service octets found) → Tells a b (λ s t. t ≡ readied service (synced s)) → Tells a b (HasBegunLoad service)
idle_begun service octets found a b started made =
    load_begun service octets found (found.life + 1) refl (length octets) refl a b b started made
    (tells_self a b (IsStarted service octets found) _ started (λ s. record { left = 4; within = omega arith; moments_are = refl }))

module _ {D : Type 0} (told : D → Option DiskState) (journal after : JournalState D) (area service l : ℕ) (l_is : l ≡ journal.found.life + 1) (failed : journal.failed ≡ false) (doubted : journal.doubted ≡ None) where
  never : IsUnready told journal after → ⊥
  never unready = never_both journal.failed failed unready.was

  module _ (room : used journal.octets journal.found + 10 ≤ journal.area) where
    no_room : (u n : ℕ) → IsReady told journal after → HasNoRoom after.area after.octets after.found (Life l) u n → ⊥
    no_room u n ready full =
        let same = known_now after.octets journal.octets after.found journal.found journal.doubted doubted ready.journal.known in
        let u_is : u ≡ used journal.octets journal.found = full.0 ∙ ap (λ (o : List ℕ). used o after.found) same.0 ∙ ap (λ (f : Found). used journal.octets f) same.1 in
        omega (arith, room, u_is, full.1, full.2, ready.journal.area, life_length l)

    pub life_fault : (wants : Bool) (a : Option DiskState) (before mid end : ℕ) → before ≤ mid → mid ≤ end → (fault : JournalFault) → IsRefusedAppend told journal (Life l) after fault → IsAppendFault wants (told after.disk) mid end fault → IsLoadFault area service a before end fault
    life_fault wants a before mid end x y DiskFault h f = risen_later before mid end x y f
    life_fault wants a before mid end x y (Full u n) h f = absurd (no_room u n h.0 h.1)
    life_fault wants a before mid end x y (BadHeader place) h f = absurd (never h)
    life_fault wants a before mid end x y (BadRecord place) h f = absurd (never h)
    life_fault wants a before mid end x y LivesSpent h f = absurd f
    life_fault wants a before mid end x y Memory h f = tt

    module _ (a : Option DiskState) (started : Tells a (told journal.disk) (IsStarted service journal.octets journal.found)) (made : Tells a (told journal.disk) (λ s t. t ≡ readied service (synced s))) where
      doubt : HasDoubt told journal (Life l) after → Tells a (told after.disk) (HasBegunLoad service)
      doubt d =
          let same = known_now d.ready.octets journal.octets d.ready.found journal.found journal.doubted doubted d.is_ready.journal.known in
          load_begun service journal.octets journal.found l l_is (length d.ready.octets) (ap length same.0) a (told journal.disk) (told after.disk) started made
          (fine_then journal.failed failed (told journal.disk) (told d.ready.disk) (told after.disk) _ d.is_ready.disk d.doubt.disk)

      pub life_refused : (fault : JournalFault) → IsRefusedAppend told journal (Life l) after fault → Tells a (told after.disk) (IsRefusedLoad service fault)
      life_refused DiskFault (inl unready) = absurd (never unready)
      life_refused DiskFault (inr d) = doubt d
      life_refused (Full u n) h = absurd (no_room u n h.0 h.1)
      life_refused (BadHeader place) h = absurd (never h)
      life_refused (BadRecord place) h = absurd (never h)
      life_refused LivesSpent h = absurd h
      life_refused Memory (inl unready) = absurd (never unready)
      life_refused Memory (inr d) = doubt d
