-- What is told again of a record that stands stays so: as it is loaded or taken over, as it hears an answer, and as it is told once more.
use Rattle.std.proofs.Common.{◌≡◌, ◌⊎◌, ◌==◌, ◌&&◌, inl, inr, ℕ, ◌<◌, zero, suc, List, [], ◌∷◌, ◌++◌, length, map, find, cond, not, Bool, true, false, if◌then◌else◌, Option, Some, None, Contains, refl, ap, sym, subst, ◌∙◌, arith}
use Rattle.std.specs.Prelude.{get_or, nat_lt}
use Rattle.std.specs.List.{AllByRecursion, filter_map, cons_option}
use Rattle.std.specs.Option.{option_and_then}
use Rattle.std.proofs.lemmas.Bool.Decides.{nat_tests}
use Rattle.std.proofs.lemmas.List.Elements.{Contains-append_cases}
use Rattle.ots_model.specs.declared.completion.CallNumber.{CallNumber}
use Rattle.ots_model.specs.declared.completion.Stood.{Stood}
use Rattle.ots_model.specs.declared.completion.Stood.TheVariants as answers
use Rattle.ots_model.specs.declared.service.Status.TheVariants as status
use Rattle.ots_model.specs.declared.tree.Heard.{Heard}
use Rattle.decision_journal.specs.Journal.{Found, is_decision, is_decision_at}
use Rattle.decision_journal.specs.declared.journal.Standing.{Standing}
use Rattle.decision_journal.specs.declared.record.JournalRecord.{JournalRecord}
use Rattle.decision_journal.specs.declared.record.JournalRecord.TheVariants.{Life, Decision, Done, Prepared, CellsPrepared, CellsOutcome, CellsOnePhase}
use Rattle.decision_journal.specs.declared.record.Registration.{Registration}
use Rattle.recovery_coord.specs.Held.{is_held, taken, before, behind, held_of, loaded, party_of, is_complete, is_decided, are_done}
use Rattle.recovery_coord.specs.Hearing.{due_after, party_after, held_after, record_after, is_retold, records_after}
use Rattle.recovery_coord.specs.Telling.{recalled, retold}
use Rattle.recovery_coord.specs.declared.held.Due.{Due}
use Rattle.recovery_coord.specs.declared.held.Due.TheVariants as due
use Rattle.recovery_coord.specs.declared.held.Held.{Held}
use Rattle.recovery_coord.specs.declared.held.Kind.TheVariants as kind
use Rattle.recovery_coord.specs.declared.held.Party.{Party}
use Rattle.two_phase.specs.Stages as stages
use Rattle.coordinator.specs.Family.{Family}
use Rattle.coordinator.specs.Hearing.{record_place}
use Rattle.coordinator.specs.Node.{family_in}
use Rattle.coordinator.specs.NodeCalls.{records_with}
use Rattle.coordinator.specs.NodeSlots.{left_record, held_for, takes_over}
use Rattle.coordinator.specs.NodeTick.{takes_all_over}
use Rattle.coordinator.specs.Step.{is_finished}
use Rattle.family_laws.specs.SoundNode.{IsDecisionOf}
use Rattle.node_laws.specs.Rules.{IsOfRecord, IsToldOf, named_as}
use Rattle.node_laws.proofs.Lists.{all_each, all_map, all_on, behind_one, inner, of_filter, of_map}

-- ---- a record that is loaded or taken over

abbrev IsNamedIn : List Registration → Party → Type 0
IsNamedIn named p = Contains named (named_as p.index p.to)

each_named : (first : Due) (commits forgets : List ℕ) (named : List Registration) → AllByRecursion (IsNamedIn named) (map (party_of first commits forgets) named)
each_named first commits forgets named =
    all_map (IsNamedIn named) (party_of first commits forgets) named (all_each (λ (r : Registration). IsNamedIn named (party_of first commits forgets r)) named (λ r c. c))

each_nothing : (named : List Registration) → AllByRecursion (λ (p : Party). p.due ≡ due.Nothing) (map (party_of due.Nothing [] []) named)
each_nothing named = all_map (λ (p : Party). p.due ≡ due.Nothing) (party_of due.Nothing [] []) named (all_each (λ (r : Registration). (party_of due.Nothing [] [] r).due ≡ due.Nothing) named (λ r c. refl))

same_held : {a b : Held} → Some a ≡ Some b → a ≡ b
same_held e = cc e

-- a decision
of_decision : (standing : List Standing) (s : Standing) (commits forgets : List ℕ) (f : Family) (h : Held) (item : JournalRecord) → Contains standing s → s.item ≡ item → IsDecisionOf f item
    → held_of s.place item commits forgets ≡ Some h → IsOfRecord standing h
of_decision standing s commits forgets f h (Decision l slot generation by asked named) c i own e =
    let is = same_held e in
    subst (λ (x : Held). IsOfRecord standing x) is (record {
      stood = s;
      there = c;
      same_place = refl;
      told = subst (λ (r : JournalRecord). IsToldOf r (record {
        place = s.place;
        life = l;
        slot = slot;
        generation = generation;
        kind = kind.Decision by asked;
        status = status.Committing;
        parties = map (party_of due.Commit commits forgets) named;
      })) (sym i) (each_named due.Commit commits forgets named);
    })
of_decision standing s commits forgets f h (Life l) c i own e = absurd own
of_decision standing s commits forgets f h (Done named) c i own e = absurd own
of_decision standing s commits forgets f h (Prepared l slot generation recovery named) c i own e = absurd own
of_decision standing s commits forgets f h (CellsPrepared l number recovery puts) c i own e = absurd own
of_decision standing s commits forgets f h (CellsOutcome named end) c i own e = absurd own
of_decision standing s commits forgets f h (CellsOnePhase l number puts) c i own e = absurd own

-- any record, as a load leaves it
of_loaded : (standing : List Standing) (s : Standing) (h : Held) (item : JournalRecord) → Contains standing s → s.item ≡ item → held_of s.place item [] [] ≡ Some h → IsOfRecord standing h
of_loaded standing s h (Decision l slot generation by asked named) c i e =
    subst (λ (x : Held). IsOfRecord standing x) (same_held e) (record {
      stood = s;
      there = c;
      same_place = refl;
      told = subst (λ (r : JournalRecord). IsToldOf r (record {
        place = s.place;
        life = l;
        slot = slot;
        generation = generation;
        kind = kind.Decision by asked;
        status = status.Committing;
        parties = map (party_of due.Commit [] []) named;
      })) (sym i) (each_named due.Commit [] [] named);
    })
of_loaded standing s h (Prepared l slot generation recovery named) c i e =
    subst (λ (x : Held). IsOfRecord standing x) (same_held e) (record {
      stood = s;
      there = c;
      same_place = refl;
      told = subst (λ (r : JournalRecord). IsToldOf r (record {
        place = s.place;
        life = l;
        slot = slot;
        generation = generation;
        kind = kind.Prepared recovery;
        status = status.Prepared;
        parties = map (party_of due.Nothing [] []) named;
      })) (sym i) (refl, each_nothing named);
    })
of_loaded standing s h (Life l) c i e = absurd (cc e)
of_loaded standing s h (Done named) c i e = absurd (cc e)
of_loaded standing s h (CellsPrepared l number recovery puts) c i e = absurd (cc e)
of_loaded standing s h (CellsOutcome named end) c i e = absurd (cc e)
of_loaded standing s h (CellsOnePhase l number puts) c i e = absurd (cc e)

pub loaded_of : (all ss : List Standing) (h : Held) → ((s : Standing) → Contains ss s → Contains all s) → Contains (filter_map loaded ss) h → IsOfRecord all h
loaded_of all [] h more c = let l = c.1 in absurd (omega (arith, l))
loaded_of all (s ∷ ss) h more c = go (loaded s) refl c (loaded_of all ss h (λ t d. more t (behind_one s ss t d)))
  where
    here : Contains all s
    here = more s (zero, omega arith, refl)

    first : (r : Held) → loaded s ≡ Some r → (k : ℕ) → k < suc (length (filter_map loaded ss)) → get_or (r ∷ filter_map loaded ss) k h ≡ h → (Contains (filter_map loaded ss) h → IsOfRecord all h) → IsOfRecord all h
    first r i zero l e rest = of_loaded all s h s.item here refl (i ∙ ap (λ (x : Held). Some x) e)
    first r i (suc k) l e rest = rest (k, omega (arith, l), e)

    go : (o : Option Held) → loaded s ≡ o → Contains (cons_option o (filter_map loaded ss)) h → (Contains (filter_map loaded ss) h → IsOfRecord all h) → IsOfRecord all h
    go None i d rest = rest d
    go (Some r) i d rest = first r i d.0 d.1 d.2 rest

-- ---- a record that is taken over

taken_from : (o : Option Held) (xs : List Held) (h : Held) → Contains (taken o xs) h → Contains xs h ⊎ (o ≡ Some h)
taken_from None xs h c = inl c
taken_from (Some r) xs h c = go (is_held r.place xs) c
  where
    one : (k : ℕ) → k < suc (length (behind r.place xs)) → get_or (r ∷ behind r.place xs) k h ≡ h → Contains xs h ⊎ (Some r ≡ Some h)
    one zero l e = inr (ap (λ (x : Held). Some x) e)
    one (suc k) l e = inl (of_filter (λ (x : Held). nat_lt r.place x.place) xs h (k, omega (arith, l), e))

    sort : Contains (before r.place xs) h ⊎ Contains (r ∷ behind r.place xs) h → Contains xs h ⊎ (Some r ≡ Some h)
    sort (inl d) = inl (of_filter (λ (x : Held). nat_lt x.place r.place) xs h d)
    sort (inr d) = one d.0 d.1 d.2

    go : (t : Bool) → Contains (if t then xs else before r.place xs ++ r ∷ behind r.place xs) h → Contains xs h ⊎ (Some r ≡ Some h)
    go true d = inl d
    go false d = sort (Contains-append_cases (before r.place xs) (r ∷ behind r.place xs) h d)

-- the record of a finished family stands where it was decided
record IsLeft (found : Found) (f : Family) (s : Standing) : Type 0 where
  there : Contains found.standing s
  decided : stages.record_place f.completion ≡ Some s.place

first_at : (place : ℕ) (ss : List Standing) (s : Standing) → find (is_decision_at place) ss ≡ Some s → Contains ss s × (place ≡ s.place)
first_at place [] s e = absurd (cc e)
first_at place (x ∷ ss) s e = go (is_decision_at place x) refl e (first_at place ss s)
  where
    at : (a b : ℕ) (t : Bool) → (a == b && t) ≡ true → b ≡ a
    at a b t i = grind (arith, nat_tests)

    go : (t : Bool) → is_decision_at place x ≡ t → cond t (Some x) (find (is_decision_at place) ss) ≡ Some s
        → (find (is_decision_at place) ss ≡ Some s → Contains ss s × (place ≡ s.place)) → Contains (x ∷ ss) s × (place ≡ s.place)
    go true i j others = ((zero, omega arith, inner j), at x.place place (is_decision x.item) i ∙ ap (λ (y : Standing). y.place) (inner j))
    go false i j others = let o = others j in (behind_one x ss s o.0, o.1)

is_left : (found : Found) (f : Family) (s : Standing) → left_record found f ≡ Some s → IsLeft found f s
is_left found f s e = go (is_finished f) (record_place f.completion) refl e
  where
    go : (t : Bool) (o : Option ℕ) → record_place f.completion ≡ o → (if t then option_and_then (λ place. find (is_decision_at place) found.standing) o else None) ≡ Some s → IsLeft found f s
    go true (Some place) i x = let a = first_at place found.standing s x in record { there = a.0; decided = i ∙ ap (λ (p : ℕ). Some p) a.1 }
    go true None i x = absurd (cc x)
    go false o i x = absurd (cc x)

-- each family that is decided by a record that stands is so by its own
abbrev pub OwnEach : Found → List (Option Family) → Type 0
OwnEach found fs = (slot : ℕ) (f : Family) (s : Standing) → family_in fs slot ≡ Some f → Contains found.standing s → stages.record_place f.completion ≡ Some s.place → IsDecisionOf f s.item

abbrev OwnOne : Found → Family → Type 0
OwnOne found f = (s : Standing) → Contains found.standing s → stages.record_place f.completion ≡ Some s.place → IsDecisionOf f s.item

pub over_of : (found : Found) (o : Option Family) (xs : List Held) (h : Held) → ((f : Family) → o ≡ Some f → OwnOne found f) → Contains (takes_over found o xs) h
    → Contains xs h ⊎ IsOfRecord found.standing h
over_of found None xs h own c = inl c
over_of found (Some f) xs h own c = go (taken_from (option_and_then (held_for f) (left_record found f)) xs h c)
  where
    new : (o : Option Standing) → left_record found f ≡ o → option_and_then (held_for f) o ≡ Some h → IsOfRecord found.standing h
    new None i e = absurd (cc e)
    new (Some s) i e =
        let l = is_left found f s i in
        of_decision found.standing s (stages.pending_commits f.completion) (stages.pending_forgets f.completion) f h s.item l.there refl (own f refl s l.there l.decided) e

    go : Contains xs h ⊎ (option_and_then (held_for f) (left_record found f) ≡ Some h) → Contains xs h ⊎ IsOfRecord found.standing h
    go (inl d) = inl d
    go (inr e) = inr (new (left_record found f) refl e)

pub all_over_of : (found : Found) (fs : List (Option Family)) (xs : List Held) (h : Held) → OwnEach found fs → Contains (takes_all_over found fs xs) h
    → Contains xs h ⊎ IsOfRecord found.standing h
all_over_of found [] xs h own c = inl c
all_over_of found (o ∷ fs) xs h own c = go (all_over_of found fs (takes_over found o xs) h (λ slot f s there. own (suc slot) f s there) c)
  where
    go : Contains (takes_over found o xs) h ⊎ IsOfRecord found.standing h → Contains xs h ⊎ IsOfRecord found.standing h
    go (inl d) = over_of found o xs h (λ f i s. own 0 f s i) d
    go (inr s) = inr s

-- ---- it is told again, or hears an answer

told_as : (r : JournalRecord) (h g : Held) → is_decided g.kind ≡ is_decided h.kind
    → ((named : List Registration) → AllByRecursion (IsNamedIn named) h.parties → AllByRecursion (IsNamedIn named) g.parties)
    → (is_decided h.kind ≡ false → AllByRecursion (λ (p : Party). p.due ≡ due.Nothing) h.parties → AllByRecursion (λ (p : Party). p.due ≡ due.Nothing) g.parties)
    → IsToldOf r h → IsToldOf r g
told_as (Decision l slot generation by asked named) h g kinds names nothing t = names named t
told_as (Prepared l slot generation recovery named) h g kinds names nothing t = (kinds ∙ t.0, nothing t.0 t.1)
told_as (Life l) h g kinds names nothing t = absurd t
told_as (Done named) h g kinds names nothing t = absurd t
told_as (CellsPrepared l number recovery puts) h g kinds names nothing t = absurd t
told_as (CellsOutcome named end) h g kinds names nothing t = absurd t
told_as (CellsOnePhase l number puts) h g kinds names nothing t = absurd t

retold_of : (standing : List Standing) (h : Held) → IsOfRecord standing h → IsOfRecord standing (retold h)
retold_of standing h x = go (is_complete h) refl
  where
    undecided : (a b : Bool) → (a && b) ≡ true → a ≡ false → ⊥
    undecided true b i e = absurd (cc e)
    undecided false b i e = absurd (cc i)

    go : (t : Bool) → is_complete h ≡ t → IsOfRecord standing (if t then record h { parties = map recalled h.parties } else h)
    go true i = record {
      stood = x.stood;
      there = x.there;
      same_place = x.same_place;
      told = told_as x.stood.item h (record h { parties = map recalled h.parties }) refl
          (λ named all. all_map (IsNamedIn named) recalled h.parties all)
          (λ kinds all. absurd (undecided (is_decided h.kind) (are_done h.parties) i kinds)) x.told;
    }
    go false i = x

pub all_retold_of : (standing : List Standing) (xs : List Held) → ((h : Held) → Contains xs h → IsOfRecord standing h) → (h : Held) → Contains (map retold xs) h → IsOfRecord standing h
all_retold_of standing xs each h c =
    let f = of_map retold xs h c in subst (λ (y : Held). IsOfRecord standing y) f.is (retold_of standing f.x (each f.x f.there))

party_named : (named : List Registration) (serial : ℕ) (heard : Heard) (p : Party) → IsNamedIn named p → IsNamedIn named (party_after serial heard p)
party_named named serial heard p h = go (p.index == serial)
  where
    go : (t : Bool) → IsNamedIn named (if t then record p { due = due_after p.due heard } else p)
    go true = h
    go false = h

party_nothing : (serial : ℕ) (heard : Heard) (p : Party) → p.due ≡ due.Nothing → (party_after serial heard p).due ≡ due.Nothing
party_nothing serial heard p h = go (p.index == serial)
  where
    go : (t : Bool) → (if t then record p { due = due_after p.due heard } else p).due ≡ due.Nothing
    go true = ap (λ (d : Due). due_after d heard) h
    go false = h

after_of : (standing : List Standing) (n : CallNumber) (heard : Heard) (h : Held) → IsOfRecord standing h → IsOfRecord standing (record_after n heard h)
after_of standing n heard h x = go (h.place == n.generation)
  where
    go : (t : Bool) → IsOfRecord standing (if t then held_after n.serial heard h else h)
    go true = record {
      stood = x.stood;
      there = x.there;
      same_place = x.same_place;
      told = told_as x.stood.item h (held_after n.serial heard h) refl
          (λ named all. all_map (IsNamedIn named) (party_after n.serial heard) h.parties (all_on (IsNamedIn named) (λ (p : Party). IsNamedIn named (party_after n.serial heard p)) (party_named named n.serial heard) h.parties all))
          (λ kinds all. all_map (λ (p : Party). p.due ≡ due.Nothing) (party_after n.serial heard) h.parties
          (all_on (λ (p : Party). p.due ≡ due.Nothing) (λ (p : Party). (party_after n.serial heard p).due ≡ due.Nothing) (party_nothing n.serial heard) h.parties all)) x.told;
    }
    go false = x

kept_by : (o : Option ℕ) (stood : Option Stood) (records : List Held) (h : Held) → Contains (records_with o stood records) h → Contains records h
kept_by (Some place) (Some (answers.Stands done)) records h c = of_filter (λ (r : Held). not (r.place == place)) records h c
kept_by (Some place) (Some (answers.Full used need)) records h c = c
kept_by (Some place) (Some (answers.Unsure why)) records h c = c
kept_by (Some place) None records h c = c
kept_by None stood records h c = c

pub heard_of : (standing : List Standing) (lives : ℕ) (n : CallNumber) (heard : Heard) (o : Option ℕ) (stood : Option Stood) (records : List Held)
    → ((h : Held) → Contains records h → IsOfRecord standing h) → (h : Held) → Contains (records_with o stood (records_after lives n heard records)) h → IsOfRecord standing h
heard_of standing lives n heard o stood records each h c = go (is_retold lives n) (kept_by o stood (records_after lives n heard records) h c)
  where
    go : (t : Bool) → Contains (if t then map (record_after n heard) records else records) h → IsOfRecord standing h
    go true d = let f = of_map (record_after n heard) records h d in subst (λ (y : Held). IsOfRecord standing y) f.is (after_of standing n heard f.x (each f.x f.there))
    go false d = each h d

-- ---- the same of other records that stand

pub stands_as : (standing later : List Standing) (h : Held) (s : Standing) → (x : IsOfRecord standing h) → Contains later s → x.stood ≡ s → IsOfRecord later h
stands_as standing later h s x c e = record {
  stood = s;
  there = c;
  same_place = ap (λ (t : Standing). t.place) (sym e) ∙ x.same_place;
  told = subst (λ (t : Standing). IsToldOf t.item h) e x.told;
}
