-- What a node holds comes of records of its journal.
use Rattle.std.proofs.Common.{◌≡◌, ◌⊎◌, ◌==◌, inl, inr, ℕ, ◌<◌, zero, suc, List, [], ◌∷◌, ◌++◌, length, map, find, cond, Bool, true, false, if◌then◌else◌, Option, Some, None, Ok, Contains, refl, ap, sym, subst, ◌∙◌, arith}
use Rattle.std.proofs.lemmas.List.Elements.{Contains-append_cases}
use Rattle.std.specs.Prelude.{get_or, nat_lt}
use Rattle.std.specs.List.{filter_map, cons_option}
use Rattle.std.specs.Option.{option_and_then}
use Rattle.ior_refs.specs.declared.key.ObjectKey.{ObjectKey}
use Rattle.ots_model.specs.declared.completion.CallNumber.{CallNumber}
use Rattle.ots_model.specs.declared.completion.Stood.{Stood}
use Rattle.ots_model.specs.declared.tree.Heard.{Heard}
use Rattle.decision_journal.specs.Journal.{Found, found_in, is_decision_at}
use Rattle.decision_journal.specs.declared.journal.Standing.{Standing}
use Rattle.decision_journal.specs.declared.record.JournalRecord.{JournalRecord}
use Rattle.decision_journal.specs.declared.record.JournalRecord.TheVariants.{Life, Decision, Done, Prepared, CellsPrepared, CellsOutcome, CellsOnePhase}
use Rattle.decision_journal.specs.declared.record.Registration.{Registration}
use Rattle.recovery_coord.specs.Held.{is_held, taken, before, behind, held_of, loaded, party_of, is_complete}
use Rattle.recovery_coord.specs.Hearing.{due_after, party_after, held_after, record_after, is_retold, records_after, completed}
use Rattle.recovery_coord.specs.Laws.{registrations_of}
use Rattle.recovery_coord.specs.Telling.{recalled, retold}
use Rattle.recovery_coord.specs.declared.held.Due.{Due}
use Rattle.recovery_coord.specs.declared.held.Due.TheVariants as due
use Rattle.recovery_coord.specs.declared.held.Held.{Held}
use Rattle.recovery_coord.specs.declared.held.Party.{Party}
use Rattle.two_phase.specs.Stages as stages
use Rattle.coordinator.specs.declared.event.Event.{Event}
use Rattle.coordinator.specs.declared.node.NodeFault.TheVariants as faults
use Rattle.coordinator.specs.declared.said.Said.{Said}
use Rattle.coordinator.specs.Family.{Family, new_family}
use Rattle.coordinator.specs.Hearing.{record_place}
use Rattle.coordinator.specs.History.{has_room}
use Rattle.coordinator.specs.Limits.{generation_limit}
use Rattle.coordinator.specs.Node.{Node, life, in_next_life, family_in}
use Rattle.coordinator.specs.NodeCalls.{RetoldAnswer, retold_answer, steps_to, by_family, refuses, replies, records_hear, hears_record, by_records, answers_recovered, family_for, applied_by, applies}
use Rattle.coordinator.specs.NodeRecords.{record_of, record_says}
use Rattle.coordinator.specs.NodeSlots.{free_slot, left_record, held_for, takes_over, next_key, with_new, makes_no_family, makes_in, makes, creates, deadline_after}
use Rattle.coordinator.specs.NodeTick.{ticked, takes_all_over, ticks}
use Rattle.coordinator.specs.Step.{family_step, is_finished}
use Rattle.family_laws.specs.HeldRecords.{IsOfStanding, WasHeld, HeldRecordsStood}
use Rattle.family_laws.proofs.Dues.{IsFrom, of_map, of_filter, kept_by}

-- ---- parties by their numbers and references

same_by : {B : Type 0} (f : Party → B) (g : Party → Party) → ((p : Party) → f (g p) ≡ f p) → (ps : List Party) → map f (map g ps) ≡ map f ps
same_by f g same [] = refl
same_by f g same (p ∷ ps) = ap (λ x. x ∷ map f (map g ps)) (same p) ∙ ap (λ xs. f p ∷ xs) (same_by f g same ps)

named_by : {B : Type 0} (f : Party → B) (k : Registration → B) (d : Due) (commits forgets : List ℕ) → ((r : Registration) → f (party_of d commits forgets r) ≡ k r) → (rs : List Registration)
    → map f (map (party_of d commits forgets) rs) ≡ map k rs
named_by f k d commits forgets same [] = refl
named_by f k d commits forgets same (r ∷ rs) =
    ap (λ x. x ∷ map f (map (party_of d commits forgets) rs)) (same r) ∙ ap (λ xs. k r ∷ xs) (named_by f k d commits forgets same rs)

-- ---- a record that stands is held to all whom it names

of_record : (standing : List Standing) (s : Standing) (commits forgets : List ℕ) (item : JournalRecord) (h : Held) → Contains standing s → s.item ≡ item → held_of s.place item commits forgets ≡ Some h → IsOfStanding standing h
of_record standing s commits forgets (Life l) h c i e = absurd (cc e)
of_record standing s commits forgets (Done named) h c i e = absurd (cc e)
of_record standing s commits forgets (CellsPrepared l number recovery puts) h c i e = absurd (cc e)
of_record standing s commits forgets (CellsOutcome place end) h c i e = absurd (cc e)
of_record standing s commits forgets (CellsOnePhase l number puts) h c i e = absurd (cc e)
of_record standing s commits forgets (Decision l slot generation by asked regs) h c i e =
    let ps : map (party_of due.Commit commits forgets) regs ≡ h.parties = cc e in
    record {
      stood = s;
      there = c;
      same_place = cc e;
      numbers = ap (λ (xs : List Party). map (λ (p : Party). p.index) xs) (sym ps)
          ∙ named_by (λ (p : Party). p.index) (λ (r : Registration). r.index) due.Commit commits forgets (λ r. refl) regs
          ∙ ap (λ (x : JournalRecord). map (λ (r : Registration). r.index) (registrations_of x)) (sym i);
      references = ap (λ (xs : List Party). map (λ (p : Party). p.to) xs) (sym ps)
          ∙ named_by (λ (p : Party). p.to) (λ (r : Registration). r.reference) due.Commit commits forgets (λ r. refl) regs
          ∙ ap (λ (x : JournalRecord). map (λ (r : Registration). r.reference) (registrations_of x)) (sym i);
    }
of_record standing s commits forgets (Prepared l slot generation recovery regs) h c i e =
    let ps : map (party_of due.Nothing commits forgets) regs ≡ h.parties = cc e in
    record {
      stood = s;
      there = c;
      same_place = cc e;
      numbers = ap (λ (xs : List Party). map (λ (p : Party). p.index) xs) (sym ps)
          ∙ named_by (λ (p : Party). p.index) (λ (r : Registration). r.index) due.Nothing commits forgets (λ r. refl) regs
          ∙ ap (λ (x : JournalRecord). map (λ (r : Registration). r.index) (registrations_of x)) (sym i);
      references = ap (λ (xs : List Party). map (λ (p : Party). p.to) xs) (sym ps)
          ∙ named_by (λ (p : Party). p.to) (λ (r : Registration). r.reference) due.Nothing commits forgets (λ r. refl) regs
          ∙ ap (λ (x : JournalRecord). map (λ (r : Registration). r.reference) (registrations_of x)) (sym i);
    }

-- one of those that are loaded
loaded_from : (all ss : List Standing) (h : Held) → ((s : Standing) → Contains ss s → Contains all s) → Contains (filter_map loaded ss) h → IsOfStanding all h
loaded_from all [] h more c = let l = c.1 in absurd (omega (arith, l))
loaded_from all (s ∷ ss) h more c = go (loaded s) refl c (loaded_from all ss h (λ t d. more t (suc d.0, (let l = d.1 in omega (arith, l)), d.2)))
  where
    here : Contains all s
    here = more s (zero, omega arith, refl)

    first : (r : Held) → loaded s ≡ Some r → (k : ℕ) → k < suc (length (filter_map loaded ss)) → get_or (r ∷ filter_map loaded ss) k h ≡ h → (Contains (filter_map loaded ss) h → IsOfStanding all h) → IsOfStanding all h
    first r i zero l e rest = of_record all s [] [] s.item h here refl (i ∙ ap (λ (x : Held). Some x) e)
    first r i (suc k) l e rest = rest (k, omega (arith, l), e)

    go : (o : Option Held) → loaded s ≡ o → Contains (cons_option o (filter_map loaded ss)) h → (Contains (filter_map loaded ss) h → IsOfStanding all h) → IsOfStanding all h
    go None i d rest = rest d
    go (Some r) i d rest = first r i d.0 d.1 d.2 rest

-- ---- it was held, or is taken over

abbrev Comes : List Held → List Standing → Held → Type 0
Comes records standing h = WasHeld records h ⊎ IsOfStanding standing h

was_itself : (records : List Held) (h : Held) → Contains records h → WasHeld records h
was_itself records h c = record { before = h; there = c; same_place = refl; numbers = refl; references = refl }

pub taken_from : (o : Option Held) (xs : List Held) (h : Held) → Contains (taken o xs) h → Contains xs h ⊎ (o ≡ Some h)
taken_from None xs h c = inl c
taken_from (Some r) xs h c = go (is_held r.place xs) c
  where
    one : (k : ℕ) → k < suc (length (behind r.place xs)) → get_or (r ∷ behind r.place xs) k h ≡ h → Contains xs h ⊎ (Some r ≡ Some h)
    one zero l e = inr (ap (λ (x : Held). Some x) e)
    one (suc k) l e = inl (of_filter (λ (x : Held). nat_lt r.place x.place) xs h (k, omega (arith, l), e))

    sort : Contains (before r.place xs) h ⊎ Contains (r ∷ behind r.place xs) h → Contains xs h ⊎ (Some r ≡ Some h)
    sort (inl d) = inl (of_filter (λ (x : Held). nat_lt x.place r.place) xs h d)
    sort (inr d) = one d.0 d.1 d.2

    go : (t : Bool) → Contains (if t then xs else before r.place xs ++ r ∷ behind r.place xs) h → Contains xs h ⊎ (Some r ≡ Some h)
    go true d = inl d
    go false d = sort (Contains-append_cases (before r.place xs) (r ∷ behind r.place xs) h d)

pub found_there : (test : Standing → Bool) (ss : List Standing) (s : Standing) → find test ss ≡ Some s → Contains ss s
found_there test [] s e = absurd (cc e)
found_there test (x ∷ ss) s e = go (test x) e (found_there test ss s)
  where
    go : (t : Bool) → cond t (Some x) (find test ss) ≡ Some s → (find test ss ≡ Some s → Contains ss s) → Contains (x ∷ ss) s
    go true i rest = (zero, omega arith, (let j : x ≡ s = cc i in j))
    go false i rest = let c = rest i in (suc c.0, (let l = c.1 in omega (arith, l)), c.2)

pub over_from : (found : Found) (o : Option Family) (xs : List Held) (h : Held) → Contains (takes_over found o xs) h → Contains xs h ⊎ IsOfStanding found.standing h
over_from found None xs h c = inl c
over_from found (Some f) xs h c = go (taken_from (option_and_then (held_for f) (left_record found f)) xs h c)
  where
    stands : (s : Standing) → left_record found f ≡ Some s → Contains found.standing s
    stands s e = by (is_finished f) (record_place f.completion) e
      where
        by : (t : Bool) (o : Option ℕ) → (if t then option_and_then (λ place. find (is_decision_at place) found.standing) o else None) ≡ Some s → Contains found.standing s
        by true (Some place) i = found_there (is_decision_at place) found.standing s i
        by true None i = absurd (cc i)
        by false o i = absurd (cc i)

    new : (o : Option Standing) → left_record found f ≡ o → option_and_then (held_for f) o ≡ Some h → IsOfStanding found.standing h
    new None i e = absurd (cc e)
    new (Some s) i e = of_record found.standing s (stages.pending_commits f.completion) (stages.pending_forgets f.completion) s.item h (stands s i) refl e

    go : Contains xs h ⊎ (option_and_then (held_for f) (left_record found f) ≡ Some h) → Contains xs h ⊎ IsOfStanding found.standing h
    go (inl d) = inl d
    go (inr e) = inr (new (left_record found f) refl e)

all_over_from : (found : Found) (fs : List (Option Family)) (xs : List Held) (h : Held) → Contains (takes_all_over found fs xs) h → Contains xs h ⊎ IsOfStanding found.standing h
all_over_from found [] xs h c = inl c
all_over_from found (o ∷ fs) xs h c = go (all_over_from found fs (takes_over found o xs) h c)
  where
    go : Contains (takes_over found o xs) h ⊎ IsOfStanding found.standing h → Contains xs h ⊎ IsOfStanding found.standing h
    go (inl d) = over_from found o xs h d
    go (inr s) = inr s

-- ---- it is told again, or hears an answer

-- the same record with other dues
record IsAlike (h g : Held) : Type 0 where
  place : h.place ≡ g.place
  numbers : map (λ (p : Party). p.index) g.parties ≡ map (λ (p : Party). p.index) h.parties
  references : map (λ (p : Party). p.to) g.parties ≡ map (λ (p : Party). p.to) h.parties

alike_itself : (h : Held) → IsAlike h h
alike_itself h = record { place = refl; numbers = refl; references = refl }

retold_alike : (h : Held) → IsAlike h (retold h)
retold_alike h = go (is_complete h)
  where
    go : (t : Bool) → IsAlike h (if t then record h { parties = map recalled h.parties } else h)
    go true = record { place = refl; numbers = same_by (λ (p : Party). p.index) recalled (λ p. refl) h.parties; references = same_by (λ (p : Party). p.to) recalled (λ p. refl) h.parties }
    go false = alike_itself h

heard_alike : (n : CallNumber) (heard : Heard) (h : Held) → IsAlike h (record_after n heard h)
heard_alike n heard h = go (h.place == n.generation)
  where
    index : (p : Party) → (party_after n.serial heard p).index ≡ p.index
    index p = by (p.index == n.serial)
      where
        by : (t : Bool) → (if t then record p { due = due_after p.due heard } else p).index ≡ p.index
        by true = refl
        by false = refl

    to : (p : Party) → (party_after n.serial heard p).to ≡ p.to
    to p = by (p.index == n.serial)
      where
        by : (t : Bool) → (if t then record p { due = due_after p.due heard } else p).to ≡ p.to
        by true = refl
        by false = refl

    go : (t : Bool) → IsAlike h (if t then held_after n.serial heard h else h)
    go true = record { place = refl; numbers = same_by (λ (p : Party). p.index) (party_after n.serial heard) index h.parties; references = same_by (λ (p : Party). p.to) (party_after n.serial heard) to h.parties }
    go false = alike_itself h

alike_held : (records : List Held) (h g : Held) → Contains records h → IsAlike h g → WasHeld records g
alike_held records h g c a = record { before = h; there = c; same_place = a.place; numbers = a.numbers; references = a.references }

alike_stands : (standing : List Standing) (h g : Held) → IsOfStanding standing h → IsAlike h g → IsOfStanding standing g
alike_stands standing h g s a = record {
  stood = s.stood;
  there = s.there;
  same_place = s.same_place ∙ a.place;
  numbers = a.numbers ∙ s.numbers;
  references = a.references ∙ s.references;
}

pub heard_from : (lives : ℕ) (n : CallNumber) (heard : Heard) (records : List Held) (h : Held) → Contains (records_after lives n heard records) h → WasHeld records h
heard_from lives n heard records h c = go (is_retold lives n) c
  where
    go : (t : Bool) → Contains (if t then map (record_after n heard) records else records) h → WasHeld records h
    go true d = let f = of_map (record_after n heard) records h d in alike_held records f.x h f.there (subst (λ (y : Held). IsAlike f.x y) f.is (heard_alike n heard f.x))
    go false d = was_itself records h d

-- ---- the node

made_from : (now seconds : ℕ) (n : Node) (h : Held) → Contains (creates now seconds n).node.recovered h → Comes n.recovered n.found.standing h
unfolding creates makes
made_from now seconds n h c = by_slot (free_slot n) c
  where
    make : ObjectKey → Family
    make key = new_family key (deadline_after now seconds)

    over : (slot : ℕ) → Contains n.recovered h ⊎ IsOfStanding n.found.standing h → Comes n.recovered n.found.standing h
    over slot (inl d) = inl (was_itself n.recovered h d)
    over slot (inr s) = inr s

    by_number : (slot : ℕ) (t : Bool) → Contains (if t then record { node = with_new make slot n; answer = Ok (next_key n slot) } else makes_no_family n).node.recovered h → Comes n.recovered n.found.standing h
    by_number slot true d = over slot (over_from n.found (family_in n.families slot) n.recovered h d)
    by_number slot false d = inl (was_itself n.recovered h d)

    by_slot : (o : Option ℕ) → Contains (makes_in o make n).node.recovered h → Comes n.recovered n.found.standing h
    by_slot None d = inl (was_itself n.recovered h d)
    by_slot (Some slot) d = by_number slot (nat_lt n.generation generation_limit) d

ticked_from : (now : ℕ) (n : Node) (h : Held) → Contains (ticks now n).node.recovered h → Comes n.recovered n.found.standing h
unfolding ticks
ticked_from now n h c = go (all_over_from n.found (map (ticked now) n.families) n.recovered f.x f.there)
  where
    f : IsFrom retold (takes_all_over n.found (map (ticked now) n.families) n.recovered) h
    f = of_map retold (takes_all_over n.found (map (ticked now) n.families) n.recovered) h c

    alike : IsAlike f.x h
    alike = subst (λ (y : Held). IsAlike f.x y) f.is (retold_alike f.x)

    go : Contains n.recovered f.x ⊎ IsOfStanding n.found.standing f.x → Comes n.recovered n.found.standing h
    go (inl d) = inl (alike_held n.recovered f.x h d alike)
    go (inr s) = inr (alike_stands n.found.standing f.x h s alike)

abbrev HeldBy : Node → Node → Type 0
HeldBy n later = (h : Held) → Contains later.recovered h → WasHeld n.recovered h

by_records_from : (o : Option RetoldAnswer) (k : ObjectKey) (e : Event) (stood : Option Stood) (n : Node) → HeldBy n (by_records o k e stood n).node
unfolding hears_record
by_records_from (Some a) k e stood n = go (is_held a.number.generation n.recovered)
  where
    go : (t : Bool) → HeldBy n (if t then records_hear a.number a.heard stood n else refuses faults.ObjectNotExist n).node
    go true h c = heard_from (life n) a.number a.heard n.recovered h (kept_by (completed (life n) a.number a.heard n.recovered) stood (records_after (life n) a.number a.heard n.recovered) h c)
    go false h c = was_itself n.recovered h c
by_records_from None k e stood n = go (option_and_then (record_says k e.key e.act) (record_of k n))
  where
    go : (o : Option Said) → HeldBy n (replies o n).node
    go (Some answer) h c = was_itself n.recovered h c
    go None h c = was_itself n.recovered h c

by_family_from : (f : Family) (e : Event) (stood : Option Stood) (n : Node) → HeldBy n (by_family f e stood n).node
by_family_from f e stood n = go (has_room f.entries e)
  where
    go : (t : Bool) → HeldBy n (if t then steps_to n f e stood (family_step f e stood) else refuses faults.NoResources n).node
    go true h c = was_itself n.recovered h c
    go false h c = was_itself n.recovered h c

applied_from : (o : Option Family) (k : ObjectKey) (e : Event) (stood : Option Stood) (n : Node) → HeldBy n (applied_by o k e stood n).node
unfolding answers_recovered
applied_from (Some f) k e stood n = by_family_from f e stood n
applied_from None k e stood n = by_records_from (retold_answer e.act) k e stood n

called_from : (k : ObjectKey) (e : Event) (stood : Option Stood) (n : Node) (h : Held) → Contains (applies k e stood n).node.recovered h → WasHeld n.recovered h
unfolding applies
called_from k e stood n h c = applied_from (family_for k e n) k e stood n h c

pub held_records_stood : HeldRecordsStood
held_records_stood = record {
  loaded = λ service records h c. loaded_from (found_in (in_next_life records)).standing (found_in (in_next_life records)).standing h (λ s d. d) c;
  made = made_from;
  called = called_from;
  ticked = ticked_from;
}
