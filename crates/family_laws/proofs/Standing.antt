-- What stands, in order, as records come and go; and what is held of it.
use Rattle.std.proofs.Common.{◌≡◌, ◌≢◌, ◌⊎◌, ◌==◌, ◌&&◌, ◌||◌, inl, inr, ℕ, ◌+◌, ◌<◌, ◌≤◌, zero, suc, List, [], ◌∷◌, ◌++◌, length, map, filter, cond, not, Bool, true, false, if◌then◌else◌, Option, Some, None, Contains, position, find, refl, ap, sym, subst, ◌∙◌, arith}
use Rattle.std.specs.Prelude.{nat_lt, get_or}
use Rattle.std.specs.List.{AllByRecursion, remove, filter_map, cons_option, position_or_len}
use Rattle.std.proofs.lemmas.Bool.Decides.{nat_tests}
use Rattle.std.proofs.lemmas.List.Elements.{Contains-append_cases}
use Rattle.std.proofs.lemmas.List.Quantifiers.{position-Some}
use Rattle.std.proofs.lemmas.List.Sums.{fails_before_first}
use Rattle.decision_journal.specs.Journal.{Found, nothing_found, first_gate, found_in, is_decision, is_decision_at, taken_away, with_record, with_records}
use Rattle.decision_journal.specs.Layout.{record_octets, payload, four}
use Rattle.decision_journal.specs.declared.journal.Standing.{Standing}
use Rattle.decision_journal.specs.declared.record.JournalRecord.{JournalRecord}
use Rattle.decision_journal.specs.declared.record.JournalRecord.TheVariants.{Life, Decision, Done, Prepared, CellsPrepared, CellsOutcome, CellsOnePhase}
use Rattle.ots_model.specs.declared.completion.CallNumber.{CallNumber}
use Rattle.ots_model.specs.declared.completion.Stood.{Stood}
use Rattle.ots_model.specs.declared.completion.Stood.TheVariants as answers
use Rattle.ots_model.specs.declared.tree.Heard.{Heard}
use Rattle.recovery_coord.specs.Held.{is_held, taken, before, behind, without, held_of, loaded, is_complete}
use Rattle.recovery_coord.specs.Hearing.{record_after, records_after, is_retold, held_after}
use Rattle.recovery_coord.specs.Telling.{retold, recalled}
use Rattle.recovery_coord.specs.declared.held.Held.{Held}
use Rattle.coordinator.specs.NodeCalls.{journaled}
use Rattle.coordinator.specs.Step.{Wanted, Appends, WritesDone, Rereads}
use Rattle.family_laws.specs.SoundNode.{AreBefore, AreInOrder, is_family_decision}
use Rattle.family_laws.proofs.Lists.{all_joined, all_map}

-- ---- in order

abbrev Behind : Standing → Standing → Type 0
Behind s t = s.place < t.place

pub before_more : (place more : ℕ) → place ≤ more → (xs : List Standing) → AreBefore place xs → AreBefore more xs
before_more place more l xs h = all_map (λ (s : Standing). s.place < place) (λ (s : Standing). s.place < more) (λ s k. omega (arith, k, l)) xs h

order_pushed : (xs : List Standing) (s : Standing) → AreInOrder xs → AreBefore s.place xs → AreInOrder (xs ++ s ∷ [])
order_pushed [] s h b = (tt, tt)
order_pushed (x ∷ xs) s h b = (all_joined (Behind x) xs (s ∷ []) h.0 (b.0, tt), order_pushed xs s h.1 b.1)

all_removed : (P : Standing → Type 0) (xs : List Standing) (i : ℕ) → AllByRecursion P xs → AllByRecursion P (remove xs i)
all_removed P [] i h = none i
  where
    none : (i : ℕ) → AllByRecursion P (remove [] i)
    none zero = tt
    none (suc i) = tt
all_removed P (x ∷ xs) zero h = h.1
all_removed P (x ∷ xs) (suc i) h = (h.0, all_removed P xs i h.1)

order_removed : (xs : List Standing) (i : ℕ) → AreInOrder xs → AreInOrder (remove xs i)
order_removed [] zero h = tt
order_removed [] (suc i) h = tt
order_removed (x ∷ xs) zero h = h.1
order_removed (x ∷ xs) (suc i) h = (all_removed (Behind x) xs i h.0, order_removed xs i h.1)

order_taken : (o : Option ℕ) (xs : List Standing) → AreInOrder xs → AreInOrder (taken_away o xs)
order_taken None xs h = h
order_taken (Some i) xs h = order_removed xs i h

before_taken : (place : ℕ) (o : Option ℕ) (xs : List Standing) → AreBefore place xs → AreBefore place (taken_away o xs)
before_taken place None xs h = h
before_taken place (Some i) xs h = all_removed (λ (s : Standing). s.place < place) xs i h

pub done_order : (found : Found) (place named : ℕ) → AreInOrder found.standing → AreInOrder (with_record found place (Done named)).standing
done_order found place named h = order_taken (position (is_decision_at named) found.standing) found.standing h

pub order_kept : (found : Found) (place : ℕ) (r : JournalRecord) → AreInOrder found.standing → AreBefore place found.standing → AreInOrder (with_record found place r).standing
order_kept found place (Life life) h b = h
order_kept found place (Decision life slot generation k asked regs) h b = order_pushed found.standing (record { place = place; item = Decision life slot generation k asked regs }) h b
order_kept found place (Done named) h b = order_taken (position (is_decision_at named) found.standing) found.standing h
order_kept found place (Prepared life slot generation recovery regs) h b = order_pushed found.standing (record { place = place; item = Prepared life slot generation recovery regs }) h b
order_kept found place (CellsPrepared life number recovery ps) h b = order_pushed found.standing (record { place = place; item = CellsPrepared life number recovery ps }) h b
order_kept found place (CellsOutcome named end) h b = order_pushed found.standing (record { place = place; item = CellsOutcome named end }) h b
order_kept found place (CellsOnePhase life number ps) h b = order_pushed found.standing (record { place = place; item = CellsOnePhase life number ps }) h b

pushed : (place more : ℕ) (item : JournalRecord) (xs : List Standing) → place < more → AreBefore place xs → AreBefore more (xs ++ record { place = place; item = item } ∷ [])
pushed place more item xs l h = all_joined (λ (s : Standing). s.place < more) xs (record { place = place; item = item } ∷ []) (before_more place more (omega (arith, l)) xs h) (l, tt)

before_kept : (found : Found) (place more : ℕ) (r : JournalRecord) → place < more → AreBefore place found.standing → AreBefore more (with_record found place r).standing
before_kept found place more (Life life) l h = before_more place more (omega (arith, l)) found.standing h
before_kept found place more (Decision life slot generation k asked regs) l h = pushed place more (Decision life slot generation k asked regs) found.standing l h
before_kept found place more (Done named) l h = before_more place more (omega (arith, l)) _ (before_taken place (position (is_decision_at named) found.standing) found.standing h)
before_kept found place more (Prepared life slot generation recovery regs) l h = pushed place more (Prepared life slot generation recovery regs) found.standing l h
before_kept found place more (CellsPrepared life number recovery ps) l h = pushed place more (CellsPrepared life number recovery ps) found.standing l h
before_kept found place more (CellsOutcome named end) l h = pushed place more (CellsOutcome named end) found.standing l h
before_kept found place more (CellsOnePhase life number ps) l h = pushed place more (CellsOnePhase life number ps) found.standing l h

longer : (place : ℕ) (r : JournalRecord) → place < place + length (record_octets r)
longer place r =
    let l : length (record_octets r) ≡ suc (length (four (length (payload r)) ++ payload r)) = refl in
    omega (arith, l)

order_all : (found : Found) (place : ℕ) (rs : List JournalRecord) → AreInOrder found.standing → AreBefore place found.standing → AreInOrder (with_records found place rs).standing
order_all found place [] h b = h
order_all found place (r ∷ rs) h b =
    order_all (with_record found place r) (place + length (record_octets r)) rs (order_kept found place r h b)
    (before_kept found place (place + length (record_octets r)) r (longer place r) b)

-- what a journal leaves
pub found_order : (rs : List JournalRecord) → AreInOrder (found_in rs).standing
found_order rs = order_all nothing_found first_gate rs tt tt

pub journaled_order : (w : Option Wanted) (stood : Option Stood) (found : Found)
    → ((item : JournalRecord) (place : ℕ) → w ≡ Some (Appends item) → stood ≡ Some (answers.Stands place) → AreBefore place found.standing)
    → AreInOrder found.standing → AreInOrder (journaled w stood found).standing
journaled_order (Some (Appends item)) (Some (answers.Stands place)) found b h = order_kept found place item h (b item place refl refl)
journaled_order (Some (WritesDone named)) (Some (answers.Stands place)) found b h = done_order found place named h
journaled_order None stood found b h = h
journaled_order (Some Rereads) stood found b h = h
journaled_order (Some (Appends item)) None found b h = h
journaled_order (Some (Appends item)) (Some (answers.Full used need)) found b h = h
journaled_order (Some (Appends item)) (Some (answers.Unsure why)) found b h = h
journaled_order (Some (WritesDone named)) None found b h = h
journaled_order (Some (WritesDone named)) (Some (answers.Full used need)) found b h = h
journaled_order (Some (WritesDone named)) (Some (answers.Unsure why)) found b h = h

-- ---- what stands then stood before, or is new

removed_there : (xs : List Standing) (i : ℕ) (s : Standing) → Contains (remove xs i) s → Contains xs s
removed_there xs i s h = go xs i h.0 h.1 h.2
  where
    none : (i k : ℕ) → k < length (remove {X = Standing} [] i) → ⊥
    none zero k l = omega (arith, l)
    none (suc i) k l = omega (arith, l)

    go : (xs : List Standing) (i k : ℕ) → k < length (remove xs i) → get_or (remove xs i) k s ≡ s → Contains xs s
    go [] i k l e = absurd (none i k l)
    go (x ∷ xs) zero k l e = (suc k, omega (arith, l), e)
    go (x ∷ xs) (suc i) zero l e = (zero, omega arith, e)
    go (x ∷ xs) (suc i) (suc k) l e = let c = go xs i k (omega (arith, l)) e in (suc c.0, omega (arith, c.1), c.2)

taken_there : (o : Option ℕ) (xs : List Standing) (s : Standing) → Contains (taken_away o xs) s → Contains xs s
taken_there None xs s h = h
taken_there (Some i) xs s h = removed_there xs i s h

last_one : (xs : List Standing) (t s : Standing) → Contains (xs ++ t ∷ []) s → Contains xs s ⊎ (s ≡ t)
last_one xs t s h = go (Contains-append_cases xs (t ∷ []) s h)
  where
    one : (k : ℕ) → k < 1 → get_or (t ∷ []) k s ≡ s → s ≡ t
    one zero l e = sym e
    one (suc k) l e = absurd (omega (arith, l))

    go : Contains xs s ⊎ Contains (t ∷ []) s → Contains xs s ⊎ (s ≡ t)
    go (inl c) = inl c
    go (inr c) = inr (one c.0 c.1 c.2)

pub new_or_stood : (found : Found) (place : ℕ) (r : JournalRecord) (s : Standing) → Contains (with_record found place r).standing s
    → Contains found.standing s ⊎ (s ≡ record { place = place; item = r })
new_or_stood found place (Life life) s h = inl h
new_or_stood found place (Decision life slot generation k asked regs) s h = last_one found.standing (record { place = place; item = Decision life slot generation k asked regs }) s h
new_or_stood found place (Done named) s h = inl (taken_there (position (is_decision_at named) found.standing) found.standing s h)
new_or_stood found place (Prepared life slot generation recovery regs) s h = last_one found.standing (record { place = place; item = Prepared life slot generation recovery regs }) s h
new_or_stood found place (CellsPrepared life number recovery ps) s h = last_one found.standing (record { place = place; item = CellsPrepared life number recovery ps }) s h
new_or_stood found place (CellsOutcome named end) s h = last_one found.standing (record { place = place; item = CellsOutcome named end }) s h
new_or_stood found place (CellsOnePhase life number ps) s h = last_one found.standing (record { place = place; item = CellsOnePhase life number ps }) s h

-- where it is new, it was appended
pub record IsNew (w : Option Wanted) (stood : Option Stood) (s : Standing) : Type 0 where
  pub place : ℕ
  pub item : JournalRecord
  pub wanted : w ≡ Some (Appends item)
  pub stands : stood ≡ Some (answers.Stands place)
  pub is : s ≡ record { place = place; item = item }

pub journaled_new : (w : Option Wanted) (stood : Option Stood) (found : Found) (s : Standing) → Contains (journaled w stood found).standing s → Contains found.standing s ⊎ IsNew w stood s
journaled_new (Some (Appends item)) (Some (answers.Stands place)) found s h = go (new_or_stood found place item s h)
  where
    go : Contains found.standing s ⊎ (s ≡ record { place = place; item = item }) → Contains found.standing s ⊎ IsNew (Some (Appends item)) (Some (answers.Stands place)) s
    go (inl c) = inl c
    go (inr e) = inr (record { place = place; item = item; wanted = refl; stands = refl; is = e })
journaled_new (Some (WritesDone named)) (Some (answers.Stands place)) found s h = inl (taken_there (position (is_decision_at named) found.standing) found.standing s h)
journaled_new None stood found s h = inl h
journaled_new (Some Rereads) stood found s h = inl h
journaled_new (Some (Appends item)) None found s h = inl h
journaled_new (Some (Appends item)) (Some (answers.Full used need)) found s h = inl h
journaled_new (Some (Appends item)) (Some (answers.Unsure why)) found s h = inl h
journaled_new (Some (WritesDone named)) None found s h = inl h
journaled_new (Some (WritesDone named)) (Some (answers.Full used need)) found s h = inl h
journaled_new (Some (WritesDone named)) (Some (answers.Unsure why)) found s h = inl h

-- ---- a decision that is named done stands no more

pub at_index : (xs : List Standing) (k : ℕ) (s : Standing) (P : Standing → Type 0) → AllByRecursion P xs → k < length xs → get_or xs k s ≡ s → P s
at_index [] k s P h l e = absurd (omega (arith, l))
at_index (x ∷ xs) zero s P h l e = subst P e h.0
at_index (x ∷ xs) (suc k) s P h l e = at_index xs k s P h.1 (omega (arith, l)) e

-- one that is left isn't at the place of the one that was removed
left_elsewhere : (xs : List Standing) (i : ℕ) (s d : Standing) → AreInOrder xs → i < length xs → Contains (remove xs i) s → (get_or xs i d).place ≢ s.place
left_elsewhere xs i s d h within c = go xs i c.0 h within c.1 c.2
  where
    first_after : (xs : List Standing) (x : Standing) (i : ℕ) → AllByRecursion (Behind x) xs → i < length xs → x.place < (get_or xs i d).place
    first_after [] x i h l = absurd (omega (arith, l))
    first_after (y ∷ xs) x zero h l = h.0
    first_after (y ∷ xs) x (suc i) h l = first_after xs x i h.1 (omega (arith, l))

    go : (xs : List Standing) (i k : ℕ) → AreInOrder xs → i < length xs → k < length (remove xs i) → get_or (remove xs i) k s ≡ s → (get_or xs i d).place ≢ s.place
    go [] i k h w l e = absurd (omega (arith, w))
    go (x ∷ xs) zero k h w l e = λ same. let b = at_index xs k s (Behind x) h.0 l e in absurd (omega (arith, b, same))
    go (x ∷ xs) (suc i) zero h w l e = λ same. let b = first_after xs x i h.0 (omega (arith, w)) in absurd (omega (arith, b, same, ap (λ (t : Standing). t.place) e))
    go (x ∷ xs) (suc i) (suc k) h w l e = go xs i k h.1 (omega (arith, w)) (omega (arith, l)) e

decides : (r : JournalRecord) → is_family_decision r ≡ true → is_decision r ≡ true
decides (Life life) h = absurd (cc h)
decides (Decision life slot generation k asked regs) h = refl
decides (Done named) h = absurd (cc h)
decides (Prepared life slot generation recovery regs) h = absurd (cc h)
decides (CellsPrepared life number recovery ps) h = absurd (cc h)
decides (CellsOutcome named end) h = absurd (cc h)
decides (CellsOnePhase life number ps) h = absurd (cc h)

pub decision_passes : (named : ℕ) (s : Standing) → s.place ≡ named → is_family_decision s.item ≡ true → is_decision_at named s ≡ true
decision_passes named s e h = both (s.place == named) (is_decision s.item) (grind (arith, e)) (decides s.item h)
  where
    both : (a b : Bool) → a ≡ true → b ≡ true → (a && b) ≡ true
    both a b e g = rw (e, g) refl

some_position : (test : Standing → Bool) (xs : List Standing) (s : Standing) → Contains xs s → test s ≡ true → position test xs ≡ None → ⊥
some_position test xs s c h e = go (nat_lt (position_or_len test xs) (length xs)) refl e
  where
    go : (t : Bool) → nat_lt (position_or_len test xs) (length xs) ≡ t → cond t (Some (position_or_len test xs)) None ≡ None → ⊥
    go true i x = absurd (cc x)
    go false i x =
        let most : length xs ≤ position_or_len test xs = grind (arith, nat_tests, i) in
        let k = c.1 in
        let f = fails_before_first test xs c.0 s (omega (arith, most, k)) in
        absurd (cc (sym f ∙ ap (λ (t : Standing). test t) c.2 ∙ h))

pub done_gone : (found : Found) (place named : ℕ) (s : Standing) → AreInOrder found.standing → Contains (with_record found place (Done named)).standing s → is_family_decision s.item ≡ true → s.place ≢ named
done_gone found place named s order c decided = go (position (is_decision_at named) found.standing) refl c
  where
    go : (o : Option ℕ) → position (is_decision_at named) found.standing ≡ o → Contains (taken_away o found.standing) s → s.place ≢ named
    go None e c = λ same. absurd (some_position (is_decision_at named) found.standing s c (decision_passes named s same decided) e)
    go (Some i) e c = λ same.
        let at = position-Some (is_decision_at named) found.standing i s e in
        left_elsewhere found.standing i s s order at.0 c (placed (get_or found.standing i s) at.1 ∙ sym same)
      where
        placed : (t : Standing) → is_decision_at named t ≡ true → t.place ≡ named
        placed t h = let l : (t.place == named) ≡ true = left (t.place == named) (is_decision t.item) h in grind (arith, l)
          where
            left : (a b : Bool) → (a && b) ≡ true → a ≡ true
            left true b h = refl
            left false b h = absurd (cc h)

-- ---- what is held

holds : ℕ → Held → Bool
holds place r = r.place == place

either_is : (a b : Bool) → (a || b) ≡ true → (a ≡ true) ⊎ (b ≡ true)
either_is true b h = inl refl
either_is false b h = inr h

or_left : (a b : Bool) → a ≡ true → (a || b) ≡ true
or_left a b e = rw e refl

or_right : (a b : Bool) → b ≡ true → (a || b) ≡ true
or_right true b e = refl
or_right false b e = e

held_first : (place : ℕ) (xs ys : List Held) → is_held place xs ≡ true → is_held place (xs ++ ys) ≡ true
held_first place [] ys h = absurd (cc h)
held_first place (x ∷ xs) ys h = go (either_is (x.place == place) (is_held place xs) h) (held_first place xs ys)
  where
    go : ((x.place == place) ≡ true) ⊎ (is_held place xs ≡ true) → (is_held place xs ≡ true → is_held place (xs ++ ys) ≡ true) → is_held place (x ∷ (xs ++ ys)) ≡ true
    go (inl e) r = or_left (x.place == place) (is_held place (xs ++ ys)) e
    go (inr e) r = or_right (x.place == place) (is_held place (xs ++ ys)) (r e)

held_last : (place : ℕ) (xs ys : List Held) → is_held place ys ≡ true → is_held place (xs ++ ys) ≡ true
held_last place [] ys h = h
held_last place (x ∷ xs) ys h = or_right (x.place == place) (is_held place (xs ++ ys)) (held_last place xs ys h)

-- one that passes a test stays where the others go
held_filtered : (test : Held → Bool) (place : ℕ) → ((r : Held) → r.place ≡ place → test r ≡ true) → (xs : List Held) → is_held place xs ≡ true → is_held place (filter test xs) ≡ true
held_filtered test place passes [] h = h
held_filtered test place passes (x ∷ xs) h = go (either_is (x.place == place) (is_held place xs) h) (held_filtered test place passes xs)
  where
    kept : (t : Bool) → (x.place == place) ≡ true → t ≡ true → is_held place (cond t (x ∷ filter test xs) (filter test xs)) ≡ true
    kept t e i = rw i (or_left (x.place == place) (is_held place (filter test xs)) e)

    others : (t : Bool) → is_held place (filter test xs) ≡ true → is_held place (cond t (x ∷ filter test xs) (filter test xs)) ≡ true
    others true e = or_right (x.place == place) (is_held place (filter test xs)) e
    others false e = e

    go : ((x.place == place) ≡ true) ⊎ (is_held place xs ≡ true) → (is_held place xs ≡ true → is_held place (filter test xs) ≡ true) → is_held place (filter test (x ∷ xs)) ≡ true
    go (inl e) r = kept (test x) e (passes x (grind (arith, e)))
    go (inr e) r = others (test x) (r e)

same_place : (p : ℕ) → (p == p) ≡ true
same_place p = grind arith

three : (p q : ℕ) → (p < q) ⊎ ((p ≡ q) ⊎ (q < p))
three p q = grind arith

less_is : (p q : ℕ) → p < q → nat_lt p q ≡ true
less_is p q l = grind (arith, nat_tests)

pub held_taken : (place : ℕ) (o : Option Held) (xs : List Held) → is_held place xs ≡ true → is_held place (taken o xs) ≡ true
held_taken place None xs h = h
held_taken place (Some r) xs h = go (is_held r.place xs) (three place r.place)
  where
    go : (t : Bool) → (place < r.place) ⊎ ((place ≡ r.place) ⊎ (r.place < place)) → is_held place (if t then xs else before r.place xs ++ r ∷ behind r.place xs) ≡ true
    go true w = h
    go false (inl l) = held_first place (before r.place xs) (r ∷ behind r.place xs) (held_filtered (λ (x : Held). nat_lt x.place r.place) place (λ x e. less_is x.place r.place (omega (arith, e, l))) xs h)
    go false (inr (inl e)) = held_last place (before r.place xs) (r ∷ behind r.place xs) (or_left (r.place == place) (is_held place (behind r.place xs)) (grind (arith, e)))
    go false (inr (inr l)) = held_last place (before r.place xs) (r ∷ behind r.place xs) (or_right (r.place == place) (is_held place (behind r.place xs))
        (held_filtered (λ (x : Held). nat_lt r.place x.place) place (λ x e. less_is r.place x.place (omega (arith, e, l))) xs h))

pub held_new : (r : Held) (xs : List Held) → is_held r.place (taken (Some r) xs) ≡ true
held_new r xs = go (is_held r.place xs) refl
  where
    go : (t : Bool) → is_held r.place xs ≡ t → is_held r.place (if t then xs else before r.place xs ++ r ∷ behind r.place xs) ≡ true
    go true e = e
    go false e = held_last r.place (before r.place xs) (r ∷ behind r.place xs) (or_left (r.place == r.place) (is_held r.place (behind r.place xs)) (same_place r.place))

pub held_without : (place gone : ℕ) → place ≢ gone → (xs : List Held) → is_held place xs ≡ true → is_held place (without gone xs) ≡ true
held_without place gone n xs h = held_filtered (λ (r : Held). not (r.place == gone)) place (λ r e. elsewhere r.place (λ i. n (sym e ∙ i))) xs h
  where
    elsewhere : (p : ℕ) → p ≢ gone → not (p == gone) ≡ true
    elsewhere p m = let f : (p == gone) ≡ false = grind arith in rw f refl

-- a change that leaves places
held_mapped : (g : Held → Held) → ((r : Held) → (g r).place ≡ r.place) → (place : ℕ) (xs : List Held) → is_held place (map g xs) ≡ is_held place xs
held_mapped g same place [] = refl
held_mapped g same place (x ∷ xs) =
    ap (λ (p : ℕ). (p == place) || is_held place (map g xs)) (same x) ∙ ap (λ (b : Bool). (x.place == place) || b) (held_mapped g same place xs)

pub held_retold : (place : ℕ) (xs : List Held) → is_held place (map retold xs) ≡ is_held place xs
held_retold place xs = held_mapped retold (λ r. still r (is_complete r)) place xs
  where
    still : (r : Held) (t : Bool) → (if t then record r { parties = map recalled r.parties } else r).place ≡ r.place
    still r true = refl
    still r false = refl

pub held_heard : (place life : ℕ) (n : CallNumber) (h : Heard) (xs : List Held) → is_held place (records_after life n h xs) ≡ is_held place xs
held_heard place life n h xs = go (is_retold life n)
  where
    still : (r : Held) (t : Bool) → (if t then held_after n.serial h r else r).place ≡ r.place
    still r true = refl
    still r false = refl

    go : (t : Bool) → is_held place (if t then map (record_after n h) xs else xs) ≡ is_held place xs
    go true = held_mapped (record_after n h) (λ r. still r (r.place == n.generation)) place xs
    go false = refl

-- a decision is held once its record is loaded, or taken over
decision_held : (place : ℕ) (r : JournalRecord) (commits forgets : List ℕ) → is_decision r ≡ true → (h : Held) × (held_of place r commits forgets ≡ Some h) × (h.place ≡ place)
decision_held place (Life life) commits forgets h = absurd (cc h)
decision_held place (Decision life slot generation k asked regs) commits forgets h = (_, refl, refl)
decision_held place (Done named) commits forgets h = absurd (cc h)
decision_held place (Prepared life slot generation recovery regs) commits forgets h = (_, refl, refl)
decision_held place (CellsPrepared life number recovery ps) commits forgets h = absurd (cc h)
decision_held place (CellsOutcome named end) commits forgets h = absurd (cc h)
decision_held place (CellsOnePhase life number ps) commits forgets h = absurd (cc h)

pub held_decision : (s : Standing) (commits forgets : List ℕ) (xs : List Held) → is_decision s.item ≡ true → is_held s.place (taken (held_of s.place s.item commits forgets) xs) ≡ true
held_decision s commits forgets xs h =
    let d = decision_held s.place s.item commits forgets h in
    rw d.1 (subst (λ (p : ℕ). is_held p (taken (Some d.0) xs) ≡ true) d.2 (held_new d.0 xs))

held_consed : (place : ℕ) (o : Option Held) (xs : List Held) → is_held place xs ≡ true → is_held place (cons_option o xs) ≡ true
held_consed place None xs h = h
held_consed place (Some r) xs h = or_right (r.place == place) (is_held place xs) h

pub held_loaded : (ss : List Standing) (s : Standing) → Contains ss s → is_family_decision s.item ≡ true → is_held s.place (filter_map loaded ss) ≡ true
held_loaded ss s c h = go ss c.0 c.1 c.2
  where
    first : (x : Standing) (xs : List Held) → x ≡ s → is_held s.place (cons_option (loaded x) xs) ≡ true
    first x xs e =
        let d = decision_held s.place s.item [] [] (decides s.item h) in
        rw (e, d.1) (or_left (d.0.place == s.place) (is_held s.place xs) (rw d.2 (same_place s.place)))

    go : (ss : List Standing) (k : ℕ) → k < length ss → get_or ss k s ≡ s → is_held s.place (filter_map loaded ss) ≡ true
    go [] k l e = absurd (omega (arith, l))
    go (x ∷ ss) zero l e = first x (filter_map loaded ss) e
    go (x ∷ ss) (suc k) l e = held_consed s.place (loaded x) (filter_map loaded ss) (go ss k (omega (arith, l)) e)

-- the decision at a place is found
pub found_at : (named : ℕ) (ss : List Standing) (s : Standing) → Contains ss s → is_decision_at named s ≡ true → (t : Standing) × (find (is_decision_at named) ss ≡ Some t) × (is_decision_at named t ≡ true) × Contains ss t
found_at named ss s c h = go ss c.0 c.1 c.2
  where
    more : (x : Standing) (ss : List Standing) → is_decision_at named x ≡ false → ((t : Standing) × (find (is_decision_at named) ss ≡ Some t) × (is_decision_at named t ≡ true) × Contains ss t)
        → (t : Standing) × (find (is_decision_at named) (x ∷ ss) ≡ Some t) × (is_decision_at named t ≡ true) × Contains (x ∷ ss) t
    more x ss f r = (r.0, ap (λ (b : Bool). cond b (Some x) (find (is_decision_at named) ss)) f ∙ r.1, r.2, (suc r.3.0, omega (arith, r.3.1), r.3.2))

    here : (x : Standing) (ss : List Standing) → is_decision_at named x ≡ true → (t : Standing) × (find (is_decision_at named) (x ∷ ss) ≡ Some t) × (is_decision_at named t ≡ true) × Contains (x ∷ ss) t
    here x ss e = (x, ap (λ (b : Bool). cond b (Some x) (find (is_decision_at named) ss)) e, e, (zero, omega arith, refl))

    by : (x : Standing) (ss : List Standing) (b : Bool) → is_decision_at named x ≡ b → ((t : Standing) × (find (is_decision_at named) ss ≡ Some t) × (is_decision_at named t ≡ true) × Contains ss t)
        → (t : Standing) × (find (is_decision_at named) (x ∷ ss) ≡ Some t) × (is_decision_at named t ≡ true) × Contains (x ∷ ss) t
    by x ss true i r = here x ss i
    by x ss false i r = more x ss i r

    go : (ss : List Standing) (k : ℕ) → k < length ss → get_or ss k s ≡ s → (t : Standing) × (find (is_decision_at named) ss ≡ Some t) × (is_decision_at named t ≡ true) × Contains ss t
    go [] k l e = absurd (omega (arith, l))
    go (x ∷ ss) zero l e = here x ss (subst (λ (t : Standing). is_decision_at named t ≡ true) (sym e) h)
    go (x ∷ ss) (suc k) l e = by x ss (is_decision_at named x) refl (go ss k (omega (arith, l)) e)
