-- A crash at any moment of a call leaves what a load before it might have made, or what one behind it might make.
use Rattle.std.proofs.Common.{◌≡◌, ◌∙◌, ◌⊎◌, inl, inr, ℕ, ◌+◌, ◌<◌, ◌^◌, Bool, true, false, List, [], ◌∷◌, ◌++◌, length, drop, Option, Some, None, Result, refl, sym, ap, subst, arith, append_assoc, length-append}
use Rattle.std.specs.Prelude.{IfSome, IsTrue}
use Rattle.std.specs.List.{AllByRecursion, flat_map}
use Rattle.std.proofs.lemmas.List.{append-nil, append_cancel_left}
use Rattle.std.proofs.lemmas.List.Concat.{flat_map-cons}
use Rattle.ots_outside.specs.Disk.{DiskState, LeavesOnly, LeavesOnlySince, Moment, Tells, moments, synced}
use Rattle.decision_journal.specs.Calls as journal_calls
use Rattle.decision_journal.specs.Calls.{HasAppended, HasDoubt, IsAfterDone, IsAppended, IsInDoubt, IsReady, IsRefusedAppend, IsUnready, IsUnwritten}
use Rattle.decision_journal.specs.Journal.{AreInTurn, AreRecords, Found, IsFilled, StandsAt, StandsFor, StandsForEither, can_follow, first_gate, found_in, front, header, nothing_found, with_record, with_records}
use Rattle.decision_journal.specs.Laws.{AppendsAreSafe, CanAppend, IsOnTheWay, appended, behind_gate}
use Rattle.decision_journal.specs.Layout.{Fits, four, payload, record_octets}
use Rattle.decision_journal.specs.Limits.{area_limit}
use Rattle.decision_journal.specs.Reading.{number_at}
use Rattle.decision_journal.specs.State.{BeginsWithEither, IsAtRest, IsKept, JournalState, MayFind, MayHave}
use Rattle.decision_journal.specs.declared.journal.JournalFault.{JournalFault}
use Rattle.decision_journal.specs.declared.journal.JournalFault.TheVariants.{DiskFault, Full, BadHeader, BadRecord, LivesSpent, Memory}
use Rattle.decision_journal.specs.declared.record.JournalRecord.{JournalRecord}
use Rattle.decision_journal.specs.declared.record.JournalRecord.TheVariants.{Done, Life}
use Rattle.decision_journal.proofs.Codecs.{four_codec, some_is}
use Rattle.decision_journal.proofs.Kept.{known, stands_from}
use Rattle.decision_journal.proofs.OneList.{record_first, unfolded}
use Rattle.decision_journal.proofs.Since.{leaves_settled, since_start, since_then, since_weaker}
use Rattle.decision_journal.proofs.Ways.{on_the_way, tells_then, tells_weaker}
use Rattle.ior_refs.specs.declared.key.ObjectKey.{ObjectKey}
use Rattle.ots_model.specs.declared.completion.Stood.{Stood}
use Rattle.ots_model.specs.declared.tree.Outward.{Outward}
use Rattle.coordinator.specs.declared.event.Event.{Event}
use Rattle.coordinator.specs.declared.node.NodeFault.{NodeFault}
use Rattle.coordinator.specs.declared.said.StepAnswer.{StepAnswer}
use Rattle.coordinator.specs.Node.{Node, load, loaded_node}
use Rattle.coordinator.specs.NodeCalls.{Applied, call_wants}
use Rattle.coordinator.specs.Step.{Wanted, Appends, WritesDone, Rereads}
use Rattle.family_step.specs.Asking.{IsAsked}
use Rattle.service_node.specs.Applying.{IsApplied, IsUnapplied}
use Rattle.service_node.specs.Crashes.{Gives, IsBeforeOrAfter, IsCrashSafe, IsKnown, restarted}
use Rattle.service_node.specs.Journaling.{IsAnsweredOrStarved, done_of}
use Rattle.service_node.specs.NodeState.{NodeState}

-- ---- runs of a disk

head_of : (m n : Moment) (ms ns : List Moment) → m ∷ ms ≡ n ∷ ns → m ≡ n
head_of m n ms ns e = cc

module _ (P : List ℕ → Type 0) where
  -- a crash now leaves octets that have P
  abbrev Now : Option DiskState → Type 0
  Now o = IfSome o (λ s. LeavesOnly P s.present)

  abbrev Run : Option DiskState → Option DiskState → Type 0
  Run a b = Tells a b (LeavesOnlySince P)

  run_none : (a : Option DiskState) → Now a → Run a a
  run_none None h = tt
  run_none (Some s) h = since_start P s h

  run_then : (a b c : Option DiskState) → Run a b → Run b c → Run a c
  run_then a b c x y =
      tells_weaker a c _ (LeavesOnlySince P) (λ s u h. since_then P s h.0 u h.1 h.2) (tells_then a b c (LeavesOnlySince P) (LeavesOnlySince P) x y)

  since_one : (s t : DiskState) → LeavesOnly P s.present → LeavesOnly P t.present → moments t ≡ moments (synced s) → LeavesOnlySince P s t
  since_one s t here now e = record {
    more = t.present ∷ [];
    moments = e ∙ ap (λ m. m ∷ moments s) (sym (head_of t.present (synced s).present t.earlier (moments s) e));
    at_start = here;
    later = (now, tt);
  }

  run_reread : (failed : Bool) (a b : Option DiskState) → Now a → Now b → Tells a b (λ s t. t ≡ journal_calls.reread failed s) → Run a b
  run_reread failed None None here now h = tt
  run_reread failed None (Some t) here now h = absurd h
  run_reread failed (Some s) None here now h = absurd h
  run_reread true (Some s) (Some t) here now is = since_one s t here now (ap moments is)
  run_reread false (Some s) (Some t) here now is = subst (LeavesOnlySince P s) (sym is) (since_start P s here)

  run_unwritten : (a b : Option DiskState) → Now a → Now b → Tells a b IsUnwritten → Run a b
  run_unwritten None None here now h = tt
  run_unwritten None (Some t) here now h = absurd h
  run_unwritten (Some s) None here now h = absurd h
  run_unwritten (Some s) (Some t) here now h = elim h.moments [
    | inl same ↦ record { more = []; moments = same; at_start = here; later = tt }
    | inr same ↦ since_one s t here now same
  ]

  module _ (appends : AppendsAreSafe) (service : ℕ) (rs : List JournalRecord) (r : JournalRecord) (octets : List ℕ) (found : Found)
      (are : AreRecords service octets found rs) (can : CanAppend service rs r) (has : (c : List ℕ) → StandsForEither service rs r c → P c) where
    abbrev end_of : DiskState → DiskState
    end_of s = appended (length (front service rs)) (behind_gate r) s

    since_append : (s t : DiskState) → IsAtRest octets s → IsOnTheWay s (end_of s) t → LeavesOnlySince P s t
    since_append s t rest way =
        on_the_way P s (end_of s) t
        (since_weaker (StandsForEither service rs r) P s (end_of s) has
        (appends service rs r s rest.settled (stands_from service octets s.reads found rs are rest.stands) can).1) way

    run_way : (a b : Option DiskState) → IfSome a (IsAtRest octets) → Tells a b (λ s t. IsOnTheWay s (end_of s) t) → Run a b
    run_way None None rest h = tt
    run_way None (Some t) rest h = absurd h
    run_way (Some s) None rest h = absurd h
    run_way (Some s) (Some t) rest h = since_append s t rest h

    run_append : (a b : Option DiskState) (place : ℕ) → place ≡ length octets → IfSome a (IsAtRest octets)
        → Tells a b (λ s t. IsOnTheWay s (appended place (behind_gate r) s) t) → Run a b
    run_append a b place is rest h =
        run_way a b rest
        (subst (λ g. Tells a b (λ s t. IsOnTheWay s (appended g (behind_gate r) s) t)) (is ∙ ap length are.octets_are) h)

-- the end of an append is on the way to it
at_end : (a b : Option DiskState) (place : ℕ) (r : JournalRecord) → Tells a b (λ s t. t ≡ appended place (behind_gate r) s)
    → Tells a b (λ s t. IsOnTheWay s (appended place (behind_gate r) s) t)
at_end a b place r h =
    tells_weaker a b (λ s t. t ≡ appended place (behind_gate r) s) (λ s t. IsOnTheWay s (appended place (behind_gate r) s) t)
    (λ s t e. record { left = 0; within = omega arith; moments_are = ap moments e }) h

-- ---- what octets begin with

either : (octets image : List ℕ) (found : Found) (doubted : Option JournalRecord) (Q : Type 0)
    → ((o : List ℕ) (f : Found) → MayFind octets found doubted o f → StandsAt o image → Q) → BeginsWithEither octets doubted image → Q
either octets image found None Q has at = has octets found (refl, refl) at
either octets image found (Some r) Q has (inl at) = has octets found (inl (refl, refl)) at
either octets image found (Some r) Q has (inr at) = has (octets ++ record_octets r) (with_record found (length octets) r) (inr (refl, refl)) at

rest_now : (P : List ℕ → Type 0) (o : Option DiskState) (octets : List ℕ) → ((image : List ℕ) → StandsAt octets image → P image) → IfSome o (IsAtRest octets) → Now P o
rest_now P None octets has rest = tt
rest_now P (Some s) octets has rest = leaves_settled P s rest.settled (has s.reads rest.stands)

kept_now : (P : List ℕ → Type 0) (failed : Bool) (octets : List ℕ) (doubted : Option JournalRecord) (o : Option DiskState)
    → ((image : List ℕ) → BeginsWithEither octets doubted image → P image) → IsKept failed octets doubted o → Now P o
kept_now P true octets doubted None has kept = tt
kept_now P true octets doubted (Some s) has kept = λ c image. has c (kept c image)
kept_now P false octets None o has kept = rest_now P o octets has kept
kept_now P false octets (Some r) o has kept = absurd kept

-- ---- the last record of some

fit_last : (rs : List JournalRecord) (r : JournalRecord) → AllByRecursion Fits (rs ++ r ∷ []) → Fits r
fit_last [] r fit = fit.0
fit_last (s ∷ rs) r fit = fit_last rs r fit.1

turn_last : (found : Found) (place : ℕ) (rs : List JournalRecord) (r : JournalRecord) → AreInTurn found place (rs ++ r ∷ []) → IsTrue (can_follow (with_records found place rs) r)
turn_last found place [] r turn = turn.0
turn_last found place (s ∷ rs) r turn = turn_last (with_record found place s) (place + length (record_octets s)) rs r turn.1

-- a length, and octets behind it
number_first : (n m : ℕ) (x y : List ℕ) → n < 2 ^ 32 → m < 2 ^ 32 → four n ++ x ≡ four m ++ y → (n ≡ m) × (x ≡ y)
number_first n m x y ln lm e =
    let same = some_is (n, x) (m, y) (sym (four_codec.again n x ln) ∙ ap (number_at 4) e ∙ four_codec.again m y lm) in
    (ap (λ (p : ℕ × List ℕ). p.0) same, ap (λ (p : ℕ × List ℕ). p.1) same)

abbrev octets_of : List JournalRecord → List ℕ
octets_of rs = flat_map record_octets rs

octets_cons : (r : JournalRecord) (rs : List JournalRecord) → length (octets_of (r ∷ rs)) ≡ length (record_octets r) + length (octets_of rs)
octets_cons r rs = ap length (flat_map-cons record_octets r rs) ∙ length-append (record_octets r) (octets_of rs)

payload_short : (r : JournalRecord) → length (payload r) < length (record_octets r)
payload_short r = omega (arith, length-append (four (length (payload r))) (payload r))

-- these records are those, and one more of the same octets as this
record Follows (r : JournalRecord) (rs ss : List JournalRecord) : Type 0 where
  item : JournalRecord
  ss_is : ss ≡ rs ++ item ∷ []
  same : record_octets item ≡ record_octets r

alone : (r s : JournalRecord) (ss : List JournalRecord) → length (record_octets r) < 2 ^ 32 → record_octets r ≡ octets_of (s ∷ ss) → Follows r [] (s ∷ ss)
alone r s [] short e = record { item = s; ss_is = refl; same = sym (e ∙ flat_map-cons record_octets s [] ∙ append-nil (record_octets s)) }
alone r s (x ∷ xs) short e =
    let all = ap length e ∙ octets_cons s (x ∷ xs) in
    let tails : four (length (payload r)) ++ payload r ≡ four (length (payload s)) ++ (payload s ++ octets_of (x ∷ xs)) =
    ap (drop 1) (e ∙ flat_map-cons record_octets s (x ∷ xs)) ∙ append_assoc (four (length (payload s))) (payload s) (octets_of (x ∷ xs)) in
    let parts = number_first (length (payload r)) (length (payload s)) (payload r) (payload s ++ octets_of (x ∷ xs))
    (omega (arith, short, payload_short r)) (omega (arith, short, all, payload_short s)) tails in
    absurd (omega (arith, parts.0, ap length parts.1, length-append (payload s) (octets_of (x ∷ xs)), octets_cons x xs, payload_short x))

one_more : (rs ss : List JournalRecord) (r : JournalRecord) → AllByRecursion Fits rs → AllByRecursion Fits ss → length (octets_of ss) < 2 ^ 32
    → octets_of rs ++ record_octets r ≡ octets_of ss → Follows r rs ss
one_more [] [] r fr fs short e = absurd (omega (arith, ap length e, payload_short r))
one_more [] (s ∷ ss) r fr fs short e = alone r s ss (omega (arith, short, ap length e)) e
one_more (x ∷ rs) [] r fr fs short e = absurd (omega (arith, ap length e, length-append (octets_of (x ∷ rs)) (record_octets r), payload_short r))
one_more (x ∷ rs) (s ∷ ss) r fr fs short e =
    let all = ap length e in
    let joined = length-append (octets_of (x ∷ rs)) (record_octets r) in
    let first = record_first x s (octets_of rs ++ record_octets r) (octets_of ss ++ []) fr.0 fs.0
    (omega (arith, short, all, joined, octets_cons x rs, payload_short x)) (omega (arith, short, octets_cons s ss, payload_short s))
    (sym (unfolded x rs (record_octets r)) ∙ e ∙ sym (append-nil (octets_of (s ∷ ss))) ∙ unfolded s ss []) in
    let rest = one_more rs ss r fr.1 fs.1 (omega (arith, short, octets_cons s ss)) (first.1 ∙ append-nil (octets_of ss)) in
    record {
      item = rest.item;
      ss_is = ap (λ (a : JournalRecord). a ∷ ss) (sym first.0) ∙ ap (λ (l : List JournalRecord). x ∷ l) rest.ss_is;
      same = rest.same;
    }

follows_front : (service : ℕ) (rs ss : List JournalRecord) (r : JournalRecord) → AllByRecursion Fits rs → AllByRecursion Fits ss → length (front service ss) < area_limit
    → front service rs ++ record_octets r ≡ front service ss → Follows r rs ss
follows_front service rs ss r fr fs within e =
    one_more rs ss r fr fs (omega (arith, within, length-append (header service) (octets_of ss)))
    (append_cancel_left (header service) (octets_of rs ++ record_octets r) (octets_of ss) (sym (append_assoc (header service) (octets_of rs) (record_octets r)) ∙ e))

-- ---- what a load makes

life_more : (found : Found) (place : ℕ) (rs : List JournalRecord) (life : ℕ)
    → with_records found place (rs ++ Life life ∷ []) ≡ record { life = life; standing = (with_records found place rs).standing }
life_more found place [] life = refl
life_more found place (r ∷ rs) life = life_more (with_record found place r) (place + length (record_octets r)) rs life

restarts : (service : ℕ) (records : List JournalRecord) → restarted service (found_in records) ≡ load service records
restarts service records = ap (loaded_node service) (sym (life_more nothing_found first_gate records ((found_in records).life + 1)))

-- ---- journals

module _ {D : Type 0} (told : D → Option DiskState) (before after : JournalState D) where
  abbrev P : List ℕ → Type 0
  P = IsBeforeOrAfter before after

  gives : (octets : List ℕ) (found : Found) (image : List ℕ) (rs : List JournalRecord) → AreRecords before.service octets found rs → StandsFor before.service image rs
      → Gives before.service image (restarted before.service found)
  gives octets found image rs are stand = record {
    records = rs;
    stand = stand;
    node = ap (restarted before.service) are.found_is ∙ restarts before.service rs;
  }

  was : (octets : List ℕ) (found : Found) → MayHave before octets found → IsFilled before.service octets found → (image : List ℕ) → StandsAt octets image → P image
  was octets found may filled image at = (
    restarted before.service found,
    (
      gives octets found image filled.0 filled.1 (stands_from before.service octets image found filled.0 filled.1 at),
      inl (record { octets = octets; found = found; known = may; node = refl }),
    ),
  )

  is : (octets : List ℕ) (found : Found) → MayHave after octets found → after.service ≡ before.service → IsFilled before.service octets found
      → (image : List ℕ) → StandsAt octets image → P image
  is octets found may service filled image at = (
    restarted before.service found,
    (
      gives octets found image filled.0 filled.1 (stands_from before.service octets image found filled.0 filled.1 at),
      inr (record { octets = octets; found = found; known = may; node = ap (λ n. restarted n found) (sym service) }),
    ),
  )

  -- a journal that is ready has what was known before
  record IsSteady (j : JournalState D) : Type 0 where
    may : MayHave before j.octets j.found
    service : j.service ≡ before.service
    filled : IsFilled before.service j.octets j.found
    rest : IfSome (told j.disk) (IsAtRest j.octets)

  steady_now : (j : JournalState D) → IsSteady j → Now P (told j.disk)
  steady_now j s = rest_now P (told j.disk) j.octets (was j.octets j.found s.may s.filled) s.rest

  steady_read : (j : JournalState D) → IsReady told before j → IsSteady j
  steady_read j h = record {
    may = h.journal.known;
    service = h.journal.service;
    filled = subst (λ n. IsFilled n j.octets j.found) h.journal.service h.current.within.filled;
    rest = h.current.rest;
  }

  module _ (appends : AppendsAreSafe) (kb : IsKnown told before) (ka : IsKnown told after) where
    here : Now P (told before.disk)
    here =
        kept_now P before.failed before.octets before.doubted (told before.disk)
        (λ image. either before.octets image before.found before.doubted (P image) (λ o f may. was o f may (kb.each o f may).filled image)) kb.kept

    now : after.service ≡ before.service → Now P (told after.disk)
    now service =
        kept_now P after.failed after.octets after.doubted (told after.disk)
        (λ image. either after.octets image after.found after.doubted (P image)
        (λ o f may. is o f may service (subst (λ n. IsFilled n o f) service (ka.each o f may).filled) image)) ka.kept

    run_ready : (j : JournalState D) → IsReady told before j → Run P (told before.disk) (told j.disk)
    run_ready j h = run_reread P before.failed (told before.disk) (told j.disk) here (steady_now j (steady_read j h)) h.disk

    run_unready : IsUnready told before after → Run P (told before.disk) (told after.disk)
    run_unready h = run_unwritten P (told before.disk) (told after.disk) here (now h.journal.service) h.disk

    -- a record was appended
    module _ (k : JournalState D) (r : JournalRecord) (place : ℕ) (s : IsSteady k) (h : IsAppended told k r after place) where
      has : (c : List ℕ) → StandsForEither k.service h.journal.records r c → P c
      has c (inl old) = (
        restarted before.service k.found,
        (
          record {
            records = h.journal.records;
            stand = subst (λ n. StandsFor n c h.journal.records) s.service old;
            node = ap (restarted before.service) h.journal.were.found_is ∙ restarts before.service h.journal.records;
          },
          inl (record { octets = k.octets; found = k.found; known = s.may; node = refl }),
        ),
      )
      has c (inr more) = (
        restarted before.service after.found,
        (
          record {
            records = h.journal.records ++ r ∷ [];
            stand = subst (λ n. StandsFor n c (h.journal.records ++ r ∷ [])) s.service more;
            node = ap (restarted before.service) h.journal.are.found_is ∙ restarts before.service (h.journal.records ++ r ∷ []);
          },
          inr (record {
            octets = after.octets;
            found = after.found;
            known = known after.octets after.found after.doubted;
            node = ap (λ n. restarted n after.found) (sym (h.journal.service ∙ s.service));
          }),
        ),
      )

      run_appended : Run P (told k.disk) (told after.disk)
      run_appended =
          let m = h.journal in
          run_append P appends k.service m.records r k.octets k.found m.were
          (record { fits = fit_last m.records r m.are.fit; follows = turn_last nothing_found first_gate m.records r m.are.in_turn; within = m.are.within })
          has (told k.disk) (told after.disk) place m.place_is s.rest (at_end (told k.disk) (told after.disk) place r h.disk)

    -- a record is in doubt
    module _ (k : JournalState D) (r : JournalRecord) (s : IsSteady k) (h : IsInDoubt told k r after) where
      abbrev with_it : Found
      with_it = with_record k.found (length k.octets) r

      abbrev more : List ℕ
      more = k.octets ++ record_octets r

      may_have : MayHave after more with_it
      may_have =
          subst (λ d. MayFind after.octets after.found d more with_it) (sym h.journal.doubted)
          (inr (ap (λ o. o ++ record_octets r) (sym h.journal.octets), (λ i. with_record (sym h.journal.found i) (length (sym h.journal.octets i)) r)))

      same_service : after.service ≡ before.service
      same_service = h.journal.service ∙ s.service

      filled : IsFilled before.service more with_it
      filled = subst (λ n. IsFilled n more with_it) same_service (ka.each more with_it may_have).filled

      abbrev rs : List JournalRecord
      rs = s.filled.0

      behind : Follows r rs filled.0
      behind =
          follows_front before.service rs filled.0 r s.filled.1.fit filled.1.fit filled.1.within
          (ap (λ (o : List ℕ). o ++ record_octets r) (sym s.filled.1.octets_are) ∙ filled.1.octets_are)

      are : AreRecords before.service more with_it (rs ++ behind.item ∷ [])
      are = subst (AreRecords before.service more with_it) behind.ss_is filled.1

      has_doubt : (c : List ℕ) → StandsForEither before.service rs behind.item c → P c
      has_doubt c (inl old) = (
        restarted before.service k.found,
        (gives k.octets k.found c rs s.filled.1 old, inl (record { octets = k.octets; found = k.found; known = s.may; node = refl })),
      )
      has_doubt c (inr new) = (
        restarted before.service with_it,
        (
          gives more with_it c (rs ++ behind.item ∷ []) are new,
          inr (record { octets = more; found = with_it; known = may_have; node = ap (λ n. restarted n with_it) (sym same_service) }),
        ),
      )

      run_doubt : Run P (told k.disk) (told after.disk)
      run_doubt =
          run_append P appends before.service rs behind.item k.octets k.found s.filled.1
          (record { fits = fit_last rs behind.item are.fit; follows = turn_last nothing_found first_gate rs behind.item are.in_turn; within = are.within })
          has_doubt (told k.disk) (told after.disk) (length k.octets) refl s.rest
          (subst (λ (b : List ℕ). Tells (told k.disk) (told after.disk) (λ s t. IsOnTheWay s (appended (length k.octets) b s) t))
          (ap (λ (o : List ℕ). drop 1 o ++ 0 ∷ []) (sym behind.same)) h.disk)

    -- ---- what was asked

    run_added : (r : JournalRecord) (place : ℕ) → HasAppended told before r after place → Run P (told before.disk) (told after.disk)
    run_added r place h =
        run_then P (told before.disk) (told h.ready.disk) (told after.disk) (run_ready h.ready h.is_ready)
        (run_appended h.ready r place (steady_read h.ready h.is_ready) h.appended)

    run_done : (place : ℕ) → IsAfterDone told before after place → Run P (told before.disk) (told after.disk)
    run_done place (inl h) =
        run_then P (told before.disk) (told h.ready.disk) (told after.disk) (run_ready h.ready h.is_ready)
        (run_appended h.ready (Done place) h.at (steady_read h.ready h.is_ready) h.appended)
    run_done place (inr none) = run_ready after none.ready

    run_doubted : (r : JournalRecord) → HasDoubt told before r after → Run P (told before.disk) (told after.disk)
    run_doubted r h =
        run_then P (told before.disk) (told h.ready.disk) (told after.disk) (run_ready h.ready h.is_ready)
        (run_doubt h.ready r (steady_read h.ready h.is_ready) h.doubt)

    run_refused : (r : JournalRecord) (fault : JournalFault) → IsRefusedAppend told before r after fault → Run P (told before.disk) (told after.disk)
    run_refused r DiskFault left = elim left [ inl un ↦ run_unready un | inr doubt ↦ run_doubted r doubt ]
    run_refused r (Full u n) left = run_ready after left.0
    run_refused r (BadHeader at) left = run_unready left
    run_refused r (BadRecord at) left = run_unready left
    run_refused r LivesSpent left = absurd left
    run_refused r Memory left = elim left [ inl un ↦ run_unready un | inr doubt ↦ run_doubted r doubt ]

    pub run_asked : (counts : D → ℕ) (o : Option Wanted) (stood : Option Stood) → IsAsked told counts o before after stood → Run P (told before.disk) (told after.disk)
    run_asked counts None stood a = subst (λ (j : JournalState D). Run P (told before.disk) (told j.disk)) (sym a.0) (run_none P (told before.disk) here)
    run_asked counts (Some w) None a = absurd a
    run_asked counts (Some (Appends item)) (Some stood) a = elim a [ inl h ↦ run_added item h.place h.appended | inr h ↦ run_refused item h.fault h.left ]
    run_asked counts (Some (WritesDone place)) (Some stood) a = elim a [ inl h ↦ run_done place h.done | inr h ↦ run_refused (Done place) h.fault h.left ]
    run_asked counts (Some Rereads) (Some stood) a = absurd a

    pub run_still : after ≡ before → Run P (told before.disk) (told after.disk)
    run_still same = subst (λ (j : JournalState D). Run P (told before.disk) (told j.disk)) (sym same) (run_none P (told before.disk) here)

-- ---- a call

module _ {D : Type 0} (appends : AppendsAreSafe) (told : D → Option DiskState) (counts : D → ℕ) (before after : NodeState D)
    (kb : IsKnown told before.journal) (ka : IsKnown told after.journal) where
  pub asked_safe : (asked : Option Wanted) (stood : Option Stood) → IsAsked told counts asked before.journal after.journal stood → IsCrashSafe told before after
  asked_safe asked stood a = run_asked told before.journal after.journal appends kb ka counts asked stood a

  pub same_safe : after ≡ before → IsCrashSafe told before after
  same_safe same = run_still told before.journal after.journal appends kb ka (ap (λ (s : NodeState D). s.journal) same)

  pub applied_safe : (wants : Bool) (k : ObjectKey) (e : Event) (said : Result StepAnswer NodeFault) (words heard : List Outward)
      → IsApplied wants told counts k e before after said words heard ⊎ IsUnapplied k e before after said words heard → IsCrashSafe told before after
  applied_safe wants k e said words heard (inl a) = asked_safe (call_wants k e before.node) a.stood a.asked
  applied_safe wants k e said words heard (inr u) = same_safe u.same

  pub answered_safe : (said : Result StepAnswer NodeFault) (wants takes : Bool) (complete : Option ℕ) (applied : Option Stood → Node → Applied)
      → IsAnsweredOrStarved wants told counts before after said takes complete applied → IsCrashSafe told before after
  answered_safe said wants takes complete applied (inl a) = asked_safe (done_of complete) a.stood a.asked
  answered_safe said wants takes complete applied (inr u) = same_safe u.same
