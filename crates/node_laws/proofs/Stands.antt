-- What stands once a call was made, and of which kinds calls are.
use Rattle.std.proofs.Common.{◌≡◌, ◌⊎◌, ◌==◌, ◌&&◌, ◌||◌, cond, find, not, inl, inr, ℕ, ◌<◌, zero, suc, List, [], ◌∷◌, ◌++◌, length, Bool, true, false, if◌then◌else◌, Option, Some, None, is_some, Contains, position, refl, ap, sym, ◌∙◌, arith}
use Rattle.std.specs.Prelude.{get_or}
use Rattle.std.specs.List.{remove}
use Rattle.std.specs.Option.{option_map, option_and_then}
use Rattle.std.proofs.lemmas.List.Elements.{Contains-append_cases}
use Rattle.ior_refs.specs.declared.key.ObjectKey.{ObjectKey}
use Rattle.ots_model.specs.declared.completion.CallNumber.{CallNumber}
use Rattle.ots_model.specs.declared.completion.Stood.{Stood}
use Rattle.ots_model.specs.declared.completion.Stood.TheVariants as answers
use Rattle.ots_model.specs.declared.tree.Heard.{Heard}
use Rattle.ots_model.specs.declared.tree.Outward.{Outward}
use Rattle.decision_journal.specs.Journal.{Found, is_decision_at, taken_away, with_record}
use Rattle.decision_journal.specs.declared.journal.Standing.{Standing}
use Rattle.decision_journal.specs.declared.record.JournalRecord.{JournalRecord}
use Rattle.decision_journal.specs.declared.record.JournalRecord.TheVariants.{Life, Decision, Done, Prepared, CellsPrepared, CellsOutcome, CellsOnePhase}
use Rattle.recovery_coord.specs.Held.{is_complete, is_held}
use Rattle.recovery_coord.specs.declared.held.Held.{Held}
use Rattle.recovery_coord.specs.Hearing.{completed, completes, held_after, is_retold}
use Rattle.coordinator.specs.declared.event.Event.{Event}
use Rattle.coordinator.specs.declared.node.NodeFault.TheVariants as faults
use Rattle.coordinator.specs.declared.said.Said.{Said}
use Rattle.coordinator.specs.Family.{Family}
use Rattle.coordinator.specs.History.{has_room}
use Rattle.coordinator.specs.Node.{Node, family_in, life, family_of, is_of, only_of}
use Rattle.coordinator.specs.NodeCalls.{Applied, RetoldAnswer, retold_answer, journaled, done_wanted, steps_to, by_family, refuses, replies, records_hear, hears_record, by_records, answers_recovered, family_for, family_wants, records_want, applied_by, applies, wanted_by, call_wants}
use Rattle.coordinator.specs.NodeRecords.{record_of, record_says}
use Rattle.coordinator.specs.Step.{Wanted, Appends, WritesDone, Rereads, family_step, wanted}
use Rattle.family_laws.specs.SoundNode.{AreInOrder}
use Rattle.node_laws.proofs.Lists.{all_at}

-- ---- what stands then stood before, or is new

removed_there : (xs : List Standing) (i : ℕ) (s : Standing) → Contains (remove xs i) s → Contains xs s
removed_there xs i s h = go xs i h.0 h.1 h.2
  where
    none : (i k : ℕ) → k < length (remove {X = Standing} [] i) → ⊥
    none zero k l = omega (arith, l)
    none (suc i) k l = omega (arith, l)

    go : (xs : List Standing) (i k : ℕ) → k < length (remove xs i) → get_or (remove xs i) k s ≡ s → Contains xs s
    go [] i k l e = absurd (none i k l)
    go (x ∷ xs) zero k l e = (suc k, omega (arith, l), e)
    go (x ∷ xs) (suc i) zero l e = (zero, omega arith, e)
    go (x ∷ xs) (suc i) (suc k) l e = let c = go xs i k (omega (arith, l)) e in let m = c.1 in (suc c.0, omega (arith, m), c.2)

taken_there : (o : Option ℕ) (xs : List Standing) (s : Standing) → Contains (taken_away o xs) s → Contains xs s
taken_there None xs s h = h
taken_there (Some i) xs s h = removed_there xs i s h

last_one : (xs : List Standing) (t s : Standing) → Contains (xs ++ t ∷ []) s → Contains xs s ⊎ (s ≡ t)
last_one xs t s h = go (Contains-append_cases xs (t ∷ []) s h)
  where
    one : (k : ℕ) → k < 1 → get_or (t ∷ []) k s ≡ s → s ≡ t
    one zero l e = sym e
    one (suc k) l e = absurd (omega (arith, l))

    go : Contains xs s ⊎ Contains (t ∷ []) s → Contains xs s ⊎ (s ≡ t)
    go (inl c) = inl c
    go (inr c) = inr (one c.0 c.1 c.2)

new_or_stood : (found : Found) (place : ℕ) (r : JournalRecord) (s : Standing) → Contains (with_record found place r).standing s
    → Contains found.standing s ⊎ (s ≡ record { place = place; item = r })
new_or_stood found place (Life life) s h = inl h
new_or_stood found place (Decision life slot generation k asked regs) s h = last_one found.standing (record { place = place; item = Decision life slot generation k asked regs }) s h
new_or_stood found place (Done named) s h = inl (taken_there (position (is_decision_at named) found.standing) found.standing s h)
new_or_stood found place (Prepared life slot generation recovery regs) s h = last_one found.standing (record { place = place; item = Prepared life slot generation recovery regs }) s h
new_or_stood found place (CellsPrepared life number recovery ps) s h = last_one found.standing (record { place = place; item = CellsPrepared life number recovery ps }) s h
new_or_stood found place (CellsOutcome named end) s h = last_one found.standing (record { place = place; item = CellsOutcome named end }) s h
new_or_stood found place (CellsOnePhase life number ps) s h = last_one found.standing (record { place = place; item = CellsOnePhase life number ps }) s h

-- where it is new, it was appended
pub record IsNew (w : Option Wanted) (stood : Option Stood) (s : Standing) : Type 0 where
  pub place : ℕ
  pub item : JournalRecord
  pub wanted : w ≡ Some (Appends item)
  pub stands : stood ≡ Some (answers.Stands place)
  pub is : s ≡ record { place = place; item = item }

pub journaled_new : (w : Option Wanted) (stood : Option Stood) (found : Found) (s : Standing) → Contains (journaled w stood found).standing s → Contains found.standing s ⊎ IsNew w stood s
journaled_new (Some (Appends item)) (Some (answers.Stands place)) found s h = go (new_or_stood found place item s h)
  where
    go : Contains found.standing s ⊎ (s ≡ record { place = place; item = item }) → Contains found.standing s ⊎ IsNew (Some (Appends item)) (Some (answers.Stands place)) s
    go (inl c) = inl c
    go (inr e) = inr (record { place = place; item = item; wanted = refl; stands = refl; is = e })
journaled_new (Some (WritesDone named)) (Some (answers.Stands place)) found s h = inl (taken_there (position (is_decision_at named) found.standing) found.standing s h)
journaled_new None stood found s h = inl h
journaled_new (Some Rereads) stood found s h = inl h
journaled_new (Some (Appends item)) None found s h = inl h
journaled_new (Some (Appends item)) (Some (answers.Full used need)) found s h = inl h
journaled_new (Some (Appends item)) (Some (answers.Unsure why)) found s h = inl h
journaled_new (Some (WritesDone named)) None found s h = inl h
journaled_new (Some (WritesDone named)) (Some (answers.Full used need)) found s h = inl h
journaled_new (Some (WritesDone named)) (Some (answers.Unsure why)) found s h = inl h

-- two that stand at one place are the same
pub once : (xs : List Standing) (s t : Standing) → AreInOrder xs → Contains xs s → Contains xs t → s.place ≡ t.place → s ≡ t
once xs s t h c d p = go xs c.0 d.0 h c.1 c.2 d.1 d.2
  where
    go : (xs : List Standing) (i j : ℕ) → AreInOrder xs → i < length xs → get_or xs i s ≡ s → j < length xs → get_or xs j t ≡ t → s ≡ t
    go [] i j h l e m g = absurd (omega (arith, l))
    go (x ∷ xs) zero zero h l e m g = sym e ∙ g
    go (x ∷ xs) zero (suc j) h l e m g =
        let b = all_at (λ (y : Standing). x.place < y.place) xs t h.0 (j, omega (arith, m), g) in
        let is = ap (λ (y : Standing). y.place) e in
        absurd (omega (arith, b, p, is))
    go (x ∷ xs) (suc i) zero h l e m g =
        let b = all_at (λ (y : Standing). x.place < y.place) xs s h.0 (i, omega (arith, l), e) in
        let is = ap (λ (y : Standing). y.place) g in
        absurd (omega (arith, b, p, is))
    go (x ∷ xs) (suc i) (suc j) h l e m g = go xs i j h.1 (omega (arith, l)) e (omega (arith, m)) g

-- ---- a call is a step of a family in its slot, or a record hears an answer, or nothing changes

pub data Called (n : Node) (k : ObjectKey) (e : Event) (stood : Option Stood) : Option Wanted → Node → List Outward → Type 0 where
  by_step : (f : Family) → family_in n.families k.slot ≡ Some f → Called n k e stood (wanted f e) (steps_to n f e stood (family_step f e stood)).node (family_step f e stood).words
  by_answer : (number : CallNumber) (heard : Heard) → Called n k e stood (done_wanted number heard n) (records_hear number heard stood n).node []
  by_nothing : (w : Option Wanted) → w ≡ None → Called n k e stood w n []

pub never_appends : (o : Option ℕ) (item : JournalRecord) → option_map WritesDone o ≡ Some (Appends item) → ⊥
never_appends None item e = cc e
never_appends (Some place) item e = cc e

-- an answer for a record that isn't held completes none
either_false : (a b : Bool) → (a || b) ≡ false → (a ≡ false) × (b ≡ false)
either_false true b e = absurd (cc e)
either_false false b e = (refl, e)

none_completes : (number : CallNumber) (heard : Heard) (rs : List Held) → is_held number.generation rs ≡ false → find (completes number heard) rs ≡ None
none_completes number heard [] i = refl
none_completes number heard (r ∷ rs) i =
    let x = either_false (r.place == number.generation) (is_held number.generation rs) i in
    ap (λ (t : Bool). cond t (Some r) (find (completes number heard) rs)) (same x.0) ∙ none_completes number heard rs x.1
  where
    never : (a : Bool) → (not a && a) ≡ false
    never true = refl
    never false = refl

    same : (r.place == number.generation) ≡ false → completes number heard r ≡ false
    same e = ap (λ (t : Bool). not (is_complete r) && is_complete (if t then held_after number.serial heard r else r)) e ∙ never (is_complete r)

not_completed : (lives : ℕ) (number : CallNumber) (heard : Heard) (rs : List Held) → is_held number.generation rs ≡ false → completed lives number heard rs ≡ None
not_completed lives number heard rs i = go (is_retold lives number)
  where
    go : (t : Bool) → (if t then option_map (λ (r : Held). r.place) (find (completes number heard) rs) else None) ≡ None
    go true = ap (λ (o : Option Held). option_map (λ (r : Held). r.place) o) (none_completes number heard rs i)
    go false = refl

abbrev IsCalled : Node → ObjectKey → Event → Option Stood → Option Wanted → Applied → Type 0
IsCalled n k e stood w a = Called n k e stood w a.node a.words

of_key : (k : ObjectKey) (o : Option Family) (f : Family) → option_and_then (only_of k) o ≡ Some f → o ≡ Some f
of_key k None f e = absurd (cc e)
of_key k (Some g) f e = go (is_of k g) e
  where
    go : (t : Bool) → (if t then Some g else None) ≡ Some f → Some g ≡ Some f
    go true x = x
    go false x = absurd (cc x)

called_family : (k : ObjectKey) (e : Event) (n : Node) (f : Family) → family_for k e n ≡ Some f → family_in n.families k.slot ≡ Some f
unfolding family_of
called_family k e n f h = go (is_some (retold_answer e.act)) h
  where
    go : (t : Bool) → (if t then None else option_and_then (only_of k) (family_in n.families k.slot)) ≡ Some f → family_in n.families k.slot ≡ Some f
    go true x = absurd (cc x)
    go false x = of_key k (family_in n.families k.slot) f x

by_family_called : (n : Node) (k : ObjectKey) (e : Event) (stood : Option Stood) (f : Family) → family_in n.families k.slot ≡ Some f → IsCalled n k e stood (family_wants f e) (by_family f e stood n)
by_family_called n k e stood f there = go (has_room f.entries e)
  where
    go : (t : Bool) → IsCalled n k e stood (if t then wanted f e else None) (if t then steps_to n f e stood (family_step f e stood) else refuses faults.NoResources n)
    go true = by_step f there
    go false = by_nothing None refl

hears_called : (n : Node) (k : ObjectKey) (e : Event) (stood : Option Stood) (number : CallNumber) (heard : Heard) → IsCalled n k e stood (done_wanted number heard n) (hears_record number heard stood n)
unfolding hears_record
hears_called n k e stood number heard = go (is_held number.generation n.recovered) refl
  where
    go : (t : Bool) → is_held number.generation n.recovered ≡ t → IsCalled n k e stood (done_wanted number heard n) (if t then records_hear number heard stood n else refuses faults.ObjectNotExist n)
    go true i = by_answer number heard
    go false i = by_nothing (done_wanted number heard n) (ap (λ (o : Option ℕ). option_map WritesDone o) (not_completed (life n) number heard n.recovered i))

by_records_called : (n : Node) (k : ObjectKey) (e : Event) (stood : Option Stood) (o : Option RetoldAnswer) → IsCalled n k e stood (records_want o n) (by_records o k e stood n)
by_records_called n k e stood (Some a) = hears_called n k e stood a.number a.heard
by_records_called n k e stood None = go (option_and_then (record_says k e.key e.act) (record_of k n))
  where
    go : (o : Option Said) → IsCalled n k e stood None (replies o n)
    go (Some answer) = by_nothing None refl
    go None = by_nothing None refl

by_call : (n : Node) (k : ObjectKey) (e : Event) (stood : Option Stood) (o : Option Family) → family_for k e n ≡ o → IsCalled n k e stood (wanted_by o e n) (applied_by o k e stood n)
unfolding answers_recovered
by_call n k e stood (Some f) is = by_family_called n k e stood f (called_family k e n f is)
by_call n k e stood None is = by_records_called n k e stood (retold_answer e.act)

pub called_is : (n : Node) (k : ObjectKey) (e : Event) (stood : Option Stood) → IsCalled n k e stood (call_wants k e n) (applies k e stood n)
unfolding applies call_wants
called_is n k e stood = by_call n k e stood (family_for k e n) refl
