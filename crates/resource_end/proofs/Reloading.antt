-- What a load makes of an end: each record that is told makes of it what it makes of the end.
use Rattle.std.proofs.Common.{◌≡◌, ◌∙◌, inl, inr, ℕ, zero, suc, ◌+◌, ◌<◌, ◌≤◌, true, false, cond, List, [], ◌∷◌, ◌++◌, length, Option, Some, None, refl, sym, ap, subst, arith, append_assoc, length-append}
use Rattle.std.specs.Prelude.{◌==◌, find, IfSome, is_some}
use Rattle.std.specs.List.{AllByRecursion, flat_map, remove}
use Rattle.std.specs.Option.{option_and_then, option_map}
use Rattle.std.proofs.lemmas.Bool.Decides.{nat_tests}
use Rattle.std.proofs.lemmas.List.{append-nil}
use Rattle.std.proofs.lemmas.List.Concat.{flat_map-cons}
use Rattle.decision_journal.specs.Journal.{Found, IsFilled, first_gate, header, nothing_found, taken_away, with_record, with_records}
use Rattle.decision_journal.specs.Layout.{eight, four, record_octets}
use Rattle.decision_journal.specs.State.{cells_in}
use Rattle.decision_journal.specs.declared.journal.Standing.{Standing}
use Rattle.decision_journal.specs.declared.record.CellsEnd.{CellsEnd}
use Rattle.decision_journal.specs.declared.record.CellsEnd.TheVariants as ends
use Rattle.decision_journal.specs.declared.record.JournalRecord.{JournalRecord}
use Rattle.decision_journal.specs.declared.record.JournalRecord.TheVariants.{Life, Decision, Done, Prepared, CellsPrepared, CellsOutcome, CellsOnePhase}
use Rattle.resource_end.specs.declared.state.State.{State}
use Rattle.resource_end.specs.declared.state.State.TheVariants as states
use Rattle.resource_end.specs.Cells.{with_puts}
use Rattle.resource_end.specs.Crashes.{restarted}
use Rattle.resource_end.specs.End.{End, Resource, changes, kept, moved, with_place}
use Rattle.resource_end.specs.Inside.{numbered, prepared_at, prepared_id}
use Rattle.resource_end.specs.OnRecord.{AreInPlace, AreSorted, HasDrawn, IsLoadOf, IsOfDrawn, MayHavePlace, as_recorded, is_recorded, on_record}
use Rattle.resource_end.specs.Recall.{ends_as, is_recorded_at, letter_of, loaded, new_end, put_by, recalls, recalls_all, tells}
use Rattle.resource_end.specs.States.{state_of, stores}
use Rattle.resource_end.proofs.Counting.{told_same}
use Rattle.resource_end.proofs.Crashing.{restarts_tell_one_more}
use Rattle.resource_end.proofs.Recorded.{Stands, at_recorded, each_kept, each_on_record, each_weaker, found_passes, no_letter, one_found, placed_recorded, recorded_find, recorded_kept, sorted_kept}
use Rattle.resource_end.proofs.Writing.{cells_more, still_there}

-- ---- the places of records

same_place : (place : ℕ) → (place == place) ≡ true
same_place place = grind (arith, nat_tests)

lower_place : (place other : ℕ) → other < place → (other == place) ≡ false
lower_place place other lt = grind (arith, nat_tests, lt)

last_at : (n place : ℕ) (item : JournalRecord) (xs : List Standing) → AllByRecursion (λ s. s.place < n) xs → n ≤ place
    → prepared_at place (xs ++ record { place = place; item = item } ∷ []) ≡ prepared_id item
last_at n place item [] below le =
    ap (λ b. option_and_then (λ (s : Standing). prepared_id s.item) (cond b (Some (record { place = place; item = item })) None)) (same_place place)
last_at n place item (x ∷ xs) below le =
    ap (λ b. option_and_then (λ (s : Standing). prepared_id s.item) (cond b (Some x) (find (λ s. s.place == place) (xs ++ record { place = place; item = item } ∷ []))))
    (lower_place place x.place (omega (arith, below.0, le)))
    ∙ last_at n place item xs below.1 le

below_more : (n m place : ℕ) (item : JournalRecord) (xs : List Standing) → n ≤ place → place < m → AllByRecursion (λ s. s.place < n) xs
    → AllByRecursion (λ s. s.place < m) (xs ++ record { place = place; item = item } ∷ [])
below_more n m place item [] le lt below = (lt, tt)
below_more n m place item (x ∷ xs) le lt below = (omega (arith, below.0, le, lt), below_more n m place item xs le lt below.1)

pub below_later : (n m : ℕ) (xs : List Standing) → n ≤ m → AllByRecursion (λ s. s.place < n) xs → AllByRecursion (λ s. s.place < m) xs
below_later n m xs le below = each_weaker (λ (s : Standing). s.place < n) (λ s. s.place < m) xs (λ s lt. omega (arith, lt, le)) below

stands_more : (xs ys : List Standing) (r : Resource) → Stands xs r → Stands (xs ++ ys) r
stands_more xs ys r = at r.record_place
  where
    at : (o : Option ℕ) → IfSome o (λ p. prepared_at p xs ≡ Some (r.life, r.number)) → IfSome o (λ p. prepared_at p (xs ++ ys) ≡ Some (r.life, r.number))
    at None h = tt
    at (Some p) h = still_there xs ys p (r.life, r.number) h

-- ---- resources stay in place

pub kept_in_place : (xs : List Standing) (n : ℕ) (rs : List Resource) (r : Resource) → AreInPlace xs n rs → MayHavePlace r.state r.record_place → Stands xs r
    → AreInPlace xs n (kept r rs)
kept_in_place xs n rs r h may stands = record {
  sorted = sorted_kept r rs h.sorted;
  places = each_kept (λ r. MayHavePlace r.state r.record_place) r rs may h.places;
  records = each_kept (Stands xs) r rs stands h.records;
  below = h.below;
}

end_place : (how : CellsEnd) (o : Option ℕ) → is_some o ≡ true → MayHavePlace (state_of how) o
end_place ends.Applied o h = tt
end_place ends.Undone o h = tt
end_place ends.ChoseCommit o h = h
end_place ends.ChoseRollback o h = h
end_place ends.Forgotten o h = tt

module _ (xs : List Standing) (n m place : ℕ) (item : JournalRecord) (le : n ≤ place) (lt : place < m) (rs : List Resource) (h : AreInPlace xs n rs) where
  abbrev more : List Standing
  more = xs ++ record { place = place; item = item } ∷ []

  more_in_place : AreInPlace more m rs
  more_in_place = record {
    sorted = h.sorted;
    places = h.places;
    records = each_weaker (Stands xs) (Stands more) rs (stands_more xs (record { place = place; item = item } ∷ [])) h.records;
    below = below_more n m place item xs le lt h.below;
  }

module _ (xs : List Standing) (n m place : ℕ) (le : n ≤ place) (lt : place < m) (e : End) (h : AreInPlace xs n e.resources) where
  ended_in_place : (item : JournalRecord) (done : ℕ) (how : CellsEnd) (o : Option Resource) → IfSome o (λ r. is_recorded_at done r ≡ true) → IfSome o (Stands xs)
      → AreInPlace (xs ++ record { place = place; item = item } ∷ []) m (ends_as how o e).resources
  unfolding changes
  ended_in_place item done how None p q = more_in_place xs n m place item le lt e.resources h
  ended_in_place item done how (Some r) p q =
      kept_in_place (xs ++ record { place = place; item = item } ∷ []) m e.resources (moved (state_of how) r) (more_in_place xs n m place item le lt e.resources h)
      (end_place how r.record_place (at_recorded done r p)) (stands_more xs (record { place = place; item = item } ∷ []) r q)

  pub tells_in_place : (item : JournalRecord) → AreInPlace (xs ++ record { place = place; item = item } ∷ []) m (tells place item e).resources
  unfolding changes
  tells_in_place (Life life) = more_in_place xs n m place (Life life) le lt e.resources h
  tells_in_place (Decision life slot generation key asked regs) = more_in_place xs n m place (Decision life slot generation key asked regs) le lt e.resources h
  tells_in_place (Done done) = more_in_place xs n m place (Done done) le lt e.resources h
  tells_in_place (Prepared life slot generation recovery regs) = more_in_place xs n m place (Prepared life slot generation recovery regs) le lt e.resources h
  tells_in_place (CellsPrepared life number recovery puts) =
      kept_in_place (xs ++ record { place = place; item = CellsPrepared life number recovery puts } ∷ []) m e.resources
      (moved states.Prepared (with_place states.Prepared place (put_by life number recovery puts e)))
      (more_in_place xs n m place (CellsPrepared life number recovery puts) le lt e.resources h) refl
      (last_at n place (CellsPrepared life number recovery puts) xs h.below le)
  tells_in_place (CellsOutcome done how) =
      ended_in_place (CellsOutcome done how) done how (find (is_recorded_at done) e.resources)
      (found_passes (is_recorded_at done) e.resources) (one_found (Stands xs) (is_recorded_at done) e.resources h.records)
  tells_in_place (CellsOnePhase life number puts) =
      kept_in_place (xs ++ record { place = place; item = CellsOnePhase life number puts } ∷ []) m e.resources
      (moved states.Applied (put_by life number [] puts e))
      (more_in_place xs n m place (CellsOnePhase life number puts) le lt e.resources h) tt tt

-- ---- what a load has of an end

pub record Same (e l : End) : Type 0 where
  pub resources : l.resources ≡ on_record e.resources
  pub cells : l.cells ≡ e.cells

end_moves : (how : CellsEnd) (r : Resource) → moved (state_of how) (as_recorded r) ≡ as_recorded (moved (state_of how) r)
end_moves ends.Applied r = refl
end_moves ends.Undone r = refl
end_moves ends.ChoseCommit r = refl
end_moves ends.ChoseRollback r = refl
end_moves ends.Forgotten r = refl

module _ (e l : End) (same : Same e l) (sorted : AreSorted e.resources) where
  changed_same : (s : State) (r q : Resource) → is_recorded (moved s r) ≡ true → moved s q ≡ as_recorded (moved s r) → q.state ≡ r.state → q.puts ≡ r.puts
      → Same (changes s r e) (changes s q l)
  unfolding changes
  changed_same s r q is moves state puts = record {
    resources = (λ i. kept (moves i) (same.resources i)) ∙ sym (recorded_kept (moved s r) e.resources is sorted);
    cells = (λ i. cond (stores (state i) s) (with_puts (puts i) (same.cells i)) (same.cells i));
  }

  ended_same : (how : CellsEnd) (o : Option Resource) → IfSome o (λ r. is_some r.record_place ≡ true) → Same (ends_as how o e) (ends_as how (option_map as_recorded o) l)
  ended_same how None p = same
  ended_same how (Some r) p =
      changed_same (state_of how) r (as_recorded r) (placed_recorded (moved (state_of how) r) p) (end_moves how r) refl refl

  letter : (life number : ℕ) → letter_of life number l ≡ None
  letter life number =
      ap (λ rs. option_and_then (λ (r : Resource). r.kind) (numbered (life, number) rs)) same.resources ∙ no_letter (life, number) e.resources

  placed : (done : ℕ) → IfSome (find (is_recorded_at done) e.resources) (λ r. is_some r.record_place ≡ true)
  placed done = by (find (is_recorded_at done) e.resources) (found_passes (is_recorded_at done) e.resources)
    where
      by : (o : Option Resource) → IfSome o (λ r. is_recorded_at done r ≡ true) → IfSome o (λ r. is_some r.record_place ≡ true)
      by None h = tt
      by (Some r) h = at_recorded done r h

  pub tells_same : (place : ℕ) (item : JournalRecord) → Same (tells place item e) (tells place item l)
  tells_same place (Life life) = same
  tells_same place (Decision life slot generation key asked regs) = same
  tells_same place (Done done) = same
  tells_same place (Prepared life slot generation recovery regs) = same
  tells_same place (CellsPrepared life number recovery puts) =
      changed_same states.Prepared (with_place states.Prepared place (put_by life number recovery puts e))
      (with_place states.Prepared place (put_by life number recovery puts l)) refl
      (ap (λ k. record {
        life = life;
        number = number;
        kind = k;
        state = states.Prepared;
        recovery = recovery;
        puts = puts;
        record_place = Some place;
      }) (letter life number)) refl refl
  tells_same place (CellsOutcome done how) =
      subst (λ o. Same (ends_as how (find (is_recorded_at done) e.resources) e) (ends_as how o l))
      (sym (ap (find (is_recorded_at done)) same.resources ∙ recorded_find done e.resources))
      (ended_same how (find (is_recorded_at done) e.resources) (placed done))
  tells_same place (CellsOnePhase life number puts) =
      changed_same states.Applied (put_by life number [] puts e) (put_by life number [] puts l) refl
      (ap (λ k. record {
        life = life;
        number = number;
        kind = k;
        state = states.Applied;
        recovery = [];
        puts = [];
        record_place = None;
      }) (letter life number)) refl refl

-- ---- whose numbers were drawn

module _ (now drawn : ℕ) (e : End) (all : AllByRecursion (HasDrawn now drawn) e.resources) where
  ended_drawn : (how : CellsEnd) (o : Option Resource) → IfSome o (HasDrawn now drawn) → AllByRecursion (HasDrawn now drawn) (ends_as how o e).resources
  unfolding changes
  ended_drawn how None h = all
  ended_drawn how (Some r) h = each_kept (HasDrawn now drawn) (moved (state_of how) r) e.resources h all

  tells_drawn : (place : ℕ) (item : JournalRecord) → IsOfDrawn now drawn item → AllByRecursion (HasDrawn now drawn) (tells place item e).resources
  unfolding changes
  tells_drawn place (Life life) h = absurd h
  tells_drawn place (Decision life slot generation key asked regs) h = absurd h
  tells_drawn place (Done done) h = absurd h
  tells_drawn place (Prepared life slot generation recovery regs) h = absurd h
  tells_drawn place (CellsPrepared life number recovery puts) h =
      each_kept (HasDrawn now drawn) (moved states.Prepared (with_place states.Prepared place (put_by life number recovery puts e))) e.resources h all
  tells_drawn place (CellsOutcome done how) h =
      ended_drawn how (find (is_recorded_at done) e.resources) (one_found (HasDrawn now drawn) (is_recorded_at done) e.resources all)
  tells_drawn place (CellsOnePhase life number puts) h =
      each_kept (HasDrawn now drawn) (moved states.Applied (put_by life number [] puts e)) e.resources h all

pub drawn_cells : (now drawn : ℕ) (item : JournalRecord) → IsOfDrawn now drawn item → cells_in item ≡ 1
drawn_cells now drawn (Life life) h = absurd h
drawn_cells now drawn (Decision life slot generation key asked regs) h = absurd h
drawn_cells now drawn (Done done) h = absurd h
drawn_cells now drawn (Prepared life slot generation recovery regs) h = absurd h
drawn_cells now drawn (CellsPrepared life number recovery puts) h = refl
drawn_cells now drawn (CellsOutcome done how) h = refl
drawn_cells now drawn (CellsOnePhase life number puts) h = refl

-- ---- an end, and what the journal knows

pub record Stays (service : ℕ) (e : End) (found : Found) (n : ℕ) : Type 0 where
  pub same : Same e (restarted service found)
  pub in_place : AreInPlace found.standing n e.resources
  pub drawn : AllByRecursion (HasDrawn e.life e.drawn) e.resources
  pub life : e.life ≡ found.life

-- another record is told
pub stays_more : (service : ℕ) (e : End) (found : Found) (n m : ℕ) (item : JournalRecord) → Stays service e found n → IsOfDrawn e.life e.drawn item → n < m
    → Stays service (recalls (record { place = n; item = item }) e) (with_record found n item) m
unfolding recalls
stays_more service e found n m item h of_drawn lt =
    let cells = drawn_cells e.life e.drawn item of_drawn in
    let more = cells_more found n item cells in
    let k = told_same n item e in
    record {
      same = subst (Same (tells n item e)) (sym (restarts_tell_one_more service found n item cells))
          (tells_same e (restarted service found) h.same h.in_place.sorted n item);
      in_place = subst (λ (f : Found). AreInPlace f.standing m (tells n item e).resources) (sym more)
          (tells_in_place found.standing n m n (omega arith) lt e h.in_place item);
      drawn = subst (λ l. AllByRecursion (HasDrawn l (tells n item e).drawn) (tells n item e).resources) (sym k.life)
          (subst (λ d. AllByRecursion (HasDrawn e.life d) (tells n item e).resources) (sym k.drawn)
          (tells_drawn e.life e.drawn e h.drawn n item of_drawn));
      life = k.life ∙ h.life ∙ sym (ap (λ (f : Found). f.life) more);
    }

pub stays_at : (a b : ℕ) (e : End) (f g : Found) (n m : ℕ) → a ≡ b → f ≡ g → n ≤ m → Stays a e f n → Stays b e g m
stays_at a b e f g n m is_service is_found le h =
    subst (λ x. Stays x e g m) is_service (subst (λ x. Stays a e x m) is_found (record {
      same = h.same;
      in_place = record {
        sorted = h.in_place.sorted;
        places = h.in_place.places;
        records = h.in_place.records;
        below = below_later n m f.standing le h.in_place.below;
      };
      drawn = h.drawn;
      life = h.life;
    }))

all_life : (xs : List Standing) (e : End) → (recalls_all xs e).life ≡ e.life
unfolding recalls
all_life [] e = refl
all_life (s ∷ xs) e = all_life xs (recalls s e) ∙ (told_same s.place s.item e).life

earlier : (now drawn : ℕ) (r : Resource) → HasDrawn now drawn r → r.life < now + 1
earlier now drawn r (inl h) = omega (arith, h)
earlier now drawn r (inr h) = omega (arith, h.0)

pub is_load : (service : ℕ) (e : End) (found : Found) (n : ℕ) → Stays service e found n → IsLoadOf e (restarted service found)
is_load service e found n h = record {
  resources = h.same.resources;
  cells = h.same.cells;
  earlier =
      let life : (restarted service found).life ≡ e.life + 1 = all_life found.standing (new_end service (found.life + 1)) ∙ ap (λ l. l + 1) (sym h.life) in
      subst (λ l. AllByRecursion (λ (r : Resource). r.life < l) (restarted service found).resources) (sym life)
      (subst (AllByRecursion (λ (r : Resource). r.life < e.life + 1)) (sym h.same.resources)
      (each_on_record (λ r. r.life < e.life + 1) (λ r lt. lt) e.resources
      (each_weaker (HasDrawn e.life e.drawn) (λ r. r.life < e.life + 1) e.resources (earlier e.life e.drawn) h.drawn)));
}

-- ---- an end that was loaded

-- standing records have rising places, from the first number on and below the second
abbrev Rises : ℕ → List Standing → ℕ → Type 0
Rises a [] b = a ≤ b
Rises a (x ∷ xs) b = (a ≤ x.place) × Rises (suc x.place) xs b

rises_later : (a b c : ℕ) (xs : List Standing) → b ≤ c → Rises a xs b → Rises a xs c
rises_later a b c [] le h = omega (arith, le, h)
rises_later a b c (x ∷ xs) le h = (h.0, rises_later (suc x.place) b c xs le h.1)

rises_lower : (a b c : ℕ) (xs : List Standing) → a ≤ b → Rises b xs c → Rises a xs c
rises_lower a b c [] le h = omega (arith, le, h)
rises_lower a b c (x ∷ xs) le h = (omega (arith, le, h.0), h.1)

rises_more : (a b place c : ℕ) (item : JournalRecord) (xs : List Standing) → b ≤ place → place < c → Rises a xs b → Rises a (xs ++ record { place = place; item = item } ∷ []) c
rises_more a b place c item [] le lt h = (omega (arith, le, h), lt)
rises_more a b place c item (x ∷ xs) le lt h = (h.0, rises_more (suc x.place) b place c item xs le lt h.1)

rises_less : (a b i : ℕ) (xs : List Standing) → Rises a xs b → Rises a (remove xs i) b
rises_less a b zero [] h = h
rises_less a b (suc i) [] h = h
rises_less a b zero (x ∷ xs) h = rises_lower a (suc x.place) b xs (omega (arith, h.0)) h.1
rises_less a b (suc i) (x ∷ xs) h = (h.0, rises_less (suc x.place) b i xs h.1)

rises_taken : (a b : ℕ) (o : Option ℕ) (xs : List Standing) → Rises a xs b → Rises a (taken_away o xs) b
rises_taken a b None xs h = h
rises_taken a b (Some i) xs h = rises_less a b i xs h

rises_with : (a b c : ℕ) (found : Found) (r : JournalRecord) → b < c → Rises a found.standing b → Rises a (with_record found b r).standing c
rises_with a b c found (Life life) lt h = rises_later a b c found.standing (omega (arith, lt)) h
rises_with a b c found (Decision life slot generation key asked regs) lt h =
    rises_more a b b c (Decision life slot generation key asked regs) found.standing (omega arith) lt h
rises_with a b c found (Done done) lt h = rises_later a b c _ (omega (arith, lt)) (rises_taken a b _ found.standing h)
rises_with a b c found (Prepared life slot generation recovery regs) lt h =
    rises_more a b b c (Prepared life slot generation recovery regs) found.standing (omega arith) lt h
rises_with a b c found (CellsPrepared life number recovery puts) lt h =
    rises_more a b b c (CellsPrepared life number recovery puts) found.standing (omega arith) lt h
rises_with a b c found (CellsOutcome done how) lt h = rises_more a b b c (CellsOutcome done how) found.standing (omega arith) lt h
rises_with a b c found (CellsOnePhase life number puts) lt h = rises_more a b b c (CellsOnePhase life number puts) found.standing (omega arith) lt h

pub one_long : (r : JournalRecord) → 0 < length (record_octets r)
one_long r = omega arith

rises_all : (a b : ℕ) (found : Found) (rs : List JournalRecord) → Rises a found.standing b → Rises a (with_records found b rs).standing (b + length (flat_map record_octets rs))
rises_all a b found [] h = rises_later a b (b + 0) found.standing (omega arith) h
rises_all a b found (r ∷ rs) h =
    let next : ℕ = b + length (record_octets r) in
    rises_later a (next + length (flat_map record_octets rs)) (b + length (flat_map record_octets (r ∷ rs))) _
    (omega (arith, ap length (flat_map-cons record_octets r rs), length-append (record_octets r) (flat_map record_octets rs)))
    (rises_all a next (with_record found b r) rs (rises_with a b next found r (omega (arith, one_long r)) h))

long_header : (service : ℕ) → length (header service) ≡ 16
long_header service = omega (arith, length-append (four 1) (eight service))

rises_filled : (service : ℕ) (octets : List ℕ) (found : Found) → IsFilled service octets found → Rises 0 found.standing (length octets)
rises_filled service octets found filled =
    let a = filled.1 in
    rises_later 0 (16 + length (flat_map record_octets filled.0)) (length octets) found.standing
    (omega (arith, ap length a.octets_are, length-append (header service) (flat_map record_octets filled.0), long_header service))
    (subst (λ (f : Found). Rises 0 f.standing (16 + length (flat_map record_octets filled.0))) (sym a.found_is)
    (rises_all 0 first_gate nothing_found filled.0 (omega arith)))

record Loaded (done : List Standing) (n : ℕ) (e l : End) : Type 0 where
  same : Same e l
  in_place : AreInPlace done n e.resources

recalled : (done xs : List Standing) (n m : ℕ) (e l : End) → Rises n xs m → Loaded done n e l → Loaded (done ++ xs) m (recalls_all xs e) (recalls_all xs l)
unfolding recalls
recalled done [] n m e l rises h =
    subst (λ ys. Loaded ys m e l) (sym (append-nil done)) (record {
      same = h.same;
      in_place = record {
        sorted = h.in_place.sorted;
        places = h.in_place.places;
        records = h.in_place.records;
        below = below_later n m done rises h.in_place.below;
      };
    })
recalled done (s ∷ xs) n m e l rises h =
    subst (λ ys. Loaded ys m (recalls_all xs (recalls s e)) (recalls_all xs (recalls s l))) (append_assoc done (s ∷ []) xs)
    (recalled (done ++ s ∷ []) xs (suc s.place) m (recalls s e) (recalls s l) rises.1 (record {
      same = tells_same e l h.same h.in_place.sorted s.place s.item;
      in_place = tells_in_place done n (suc s.place) s.place rises.0 (omega arith) e h.in_place s.item;
    }))

pub stays_loaded : (service : ℕ) (octets : List ℕ) (found : Found) → IsFilled service octets found
    → AllByRecursion (λ r. r.life < (loaded service found).life) (loaded service found).resources → Stays service (loaded service found) found (length octets)
stays_loaded service octets found filled earlier =
    let h = recalled [] found.standing 0 (length octets) (new_end service found.life) (new_end service (found.life + 1)) (rises_filled service octets found filled)
    (record {
      same = record { resources = refl; cells = refl };
      in_place = record { sorted = tt; places = tt; records = tt; below = tt };
    }) in
    record {
      same = h.same;
      in_place = h.in_place;
      drawn = each_weaker (λ r. r.life < (loaded service found).life) (HasDrawn (loaded service found).life (loaded service found).drawn)
          (loaded service found).resources (λ r lt. inl lt) earlier;
      life = all_life found.standing (new_end service found.life);
    }
