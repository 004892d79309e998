-- A due of what a node holds ends by an answer alone.
use Rattle.std.proofs.Common.{◌≡◌, ◌⊎◌, ◌==◌, inl, inr, ℕ, ◌<◌, zero, suc, List, [], ◌∷◌, length, map, filter, cond, not, Bool, true, false, if◌then◌else◌, Option, Some, None, Contains, refl, ap, sym, subst, ◌∙◌, arith}
use Rattle.std.specs.Prelude.{get_or}
use Rattle.std.specs.Option.{option_and_then}
use Rattle.std.proofs.lemmas.Bool.Decides.{nat_tests}
use Rattle.ior_refs.specs.declared.key.ObjectKey.{ObjectKey}
use Rattle.ots_model.specs.declared.completion.CallNumber.{CallNumber}
use Rattle.ots_model.specs.declared.completion.Stood.{Stood}
use Rattle.ots_model.specs.declared.completion.Stood.TheVariants as answers
use Rattle.ots_model.specs.declared.tree.Heard.{Heard}
use Rattle.ots_model.specs.declared.completion.Heard.TheVariants as phase_hears
use Rattle.ots_model.specs.declared.tree.Heard.TheVariants as hears
use Rattle.recovery_coord.specs.Held.{is_held}
use Rattle.recovery_coord.specs.Limits.{retold_slot}
use Rattle.recovery_coord.specs.Hearing.{due_after, party_after, held_after, record_after, is_retold, records_after, completed}
use Rattle.recovery_coord.specs.declared.held.Due.{Due}
use Rattle.recovery_coord.specs.declared.held.Due.TheVariants as due
use Rattle.recovery_coord.specs.declared.held.Held.{Held}
use Rattle.recovery_coord.specs.declared.held.Party.{Party}
use Rattle.coordinator.specs.declared.event.Act.{Act}
use Rattle.coordinator.specs.declared.event.Act.TheVariants as acts
use Rattle.coordinator.specs.declared.event.Event.{Event}
use Rattle.coordinator.specs.declared.node.NodeFault.TheVariants as faults
use Rattle.coordinator.specs.declared.said.Said.{Said}
use Rattle.coordinator.specs.Family.{Family}
use Rattle.coordinator.specs.History.{has_room}
use Rattle.coordinator.specs.Node.{Node, life}
use Rattle.coordinator.specs.NodeCalls.{RetoldAnswer, retold_answer, steps_to, by_family, refuses, replies, records_with, records_hear, hears_record, by_records, answers_recovered, family_for, applied_by, applies}
use Rattle.coordinator.specs.NodeRecords.{record_of, record_says}
use Rattle.coordinator.specs.Step.{family_step}
use Rattle.family_laws.specs.HeldDues.{WasDone, IsAnsweredBy, HeldDuesEndByAnswers}

-- ---- one of a list that was changed

pub record IsFrom {A B : Type 0} (g : A → B) (xs : List A) (y : B) : Type 0 where
  pub x : A
  pub there : Contains xs x
  pub is : g x ≡ y

pub of_map : {A B : Type 0} (g : A → B) (xs : List A) (y : B) → Contains (map g xs) y → IsFrom g xs y
of_map {A = A} g xs y c = go xs c.0 c.1 c.2
  where
    later : (x : A) (xs : List A) → IsFrom g xs y → IsFrom g (x ∷ xs) y
    later x xs f = record { x = f.x; there = (suc f.there.0, (let l = f.there.1 in omega (arith, l)), f.there.2); is = f.is }

    go : (xs : List A) (k : ℕ) → k < length (map g xs) → get_or (map g xs) k y ≡ y → IsFrom g xs y
    go [] k l e = absurd (omega (arith, l))
    go (x ∷ xs) zero l e = record { x = x; there = (zero, omega arith, refl); is = e }
    go (x ∷ xs) (suc k) l e = later x xs (go xs k (omega (arith, l)) e)

pub of_filter : (test : Held → Bool) (xs : List Held) (y : Held) → Contains (filter test xs) y → Contains xs y
of_filter test [] y c = let l = c.1 in absurd (omega (arith, l))
of_filter test (x ∷ xs) y c = go (test x) c (of_filter test xs y)
  where
    later : Contains xs y → Contains (x ∷ xs) y
    later d = (suc d.0, (let l = d.1 in omega (arith, l)), d.2)

    first : (k : ℕ) → k < suc (length (filter test xs)) → get_or (x ∷ filter test xs) k y ≡ y → (Contains (filter test xs) y → Contains xs y) → Contains (x ∷ xs) y
    first zero l e r = (zero, omega arith, e)
    first (suc k) l e r = later (r (k, omega (arith, l), e))

    go : (t : Bool) → Contains (cond t (x ∷ filter test xs) (filter test xs)) y → (Contains (filter test xs) y → Contains xs y) → Contains (x ∷ xs) y
    go true d r = first d.0 d.1 d.2 r
    go false d r = later (r d)

-- ---- a due that ends

ended_by : (d : Due) (h : Heard) → due_after d h ≡ due.Nothing → (d ≡ due.Nothing) ⊎ ((h ≡ hears.Phase phase_hears.Done) ⊎ (h ≡ hears.Phase phase_hears.NoObject))
ended_by due.Nothing h e = inl refl
ended_by due.Commit (hears.Phase phase_hears.Done) e = inr (inl refl)
ended_by due.Commit (hears.Phase phase_hears.NoObject) e = inr (inr refl)
ended_by due.Commit (hears.Phase (phase_hears.Voted vote)) e = absurd (cc e)
ended_by due.Commit (hears.Phase (phase_hears.Heuristic d)) e = absurd (cc e)
ended_by due.Commit (hears.Phase phase_hears.RolledBack) e = absurd (cc e)
ended_by due.Commit (hears.Phase phase_hears.NotPrepared) e = absurd (cc e)
ended_by due.Commit (hears.Told status) e = absurd (cc e)
ended_by due.Commit (hears.Enlisted reference) e = absurd (cc e)
ended_by due.Commit (hears.Phase phase_hears.Other) e = absurd (cc e)
ended_by due.Commit (hears.Phase phase_hears.Lost) e = absurd (cc e)
ended_by due.Commit (hears.Phase phase_hears.Starved) e = absurd (cc e)
ended_by due.Forget (hears.Phase phase_hears.Done) e = inr (inl refl)
ended_by due.Forget (hears.Phase phase_hears.NoObject) e = inr (inr refl)
ended_by due.Forget (hears.Phase (phase_hears.Voted vote)) e = absurd (cc e)
ended_by due.Forget (hears.Phase (phase_hears.Heuristic d)) e = absurd (cc e)
ended_by due.Forget (hears.Phase phase_hears.RolledBack) e = absurd (cc e)
ended_by due.Forget (hears.Phase phase_hears.NotPrepared) e = absurd (cc e)
ended_by due.Forget (hears.Told status) e = absurd (cc e)
ended_by due.Forget (hears.Enlisted reference) e = absurd (cc e)
ended_by due.Forget (hears.Phase phase_hears.Other) e = absurd (cc e)
ended_by due.Forget (hears.Phase phase_hears.Lost) e = absurd (cc e)
ended_by due.Forget (hears.Phase phase_hears.Starved) e = absurd (cc e)

pub was_itself : (records : List Held) (h : Held) (p : Party) → Contains records h → Contains h.parties p → p.due ≡ due.Nothing → WasDone records h.place p
was_itself records h p c d e = record { held = h; there = c; same_place = refl; party = p; among = d; number = refl; reference = refl; done = e }

-- what was heard of one record
heard_one : (lives : ℕ) (number : CallNumber) (heard : Heard) (e : Event) → e.act ≡ acts.Answer number heard → is_retold lives number ≡ true → (records : List Held) (r : Held) → Contains records r → r.place ≡ number.generation
    → (p : Party) → Contains (map (party_after number.serial heard) r.parties) p → p.due ≡ due.Nothing → WasDone records r.place p ⊎ IsAnsweredBy lives e r.place p
heard_one lives number heard e is again records r c at p d done = by_number (f.x.index == number.serial) refl f.is
  where
    f : IsFrom (party_after number.serial heard) r.parties p
    f = of_map (party_after number.serial heard) r.parties p d

    settle : (f.x.index == number.serial) ≡ true → record f.x { due = due_after f.x.due heard } ≡ p → (f.x.due ≡ due.Nothing) ⊎ ((heard ≡ hears.Phase phase_hears.Done) ⊎ (heard ≡ hears.Phase phase_hears.NoObject)) → WasDone records r.place p ⊎ IsAnsweredBy lives e r.place p
    settle t j (inl n) = inl (record {
      held = r;
      there = c;
      same_place = refl;
      party = f.x;
      among = f.there;
      number = ap (λ (q : Party). q.index) j;
      reference = ap (λ (q : Party). q.to) j;
      done = n;
    })
    settle t j (inr a) = inr (record {
      number = number;
      heard = heard;
      answer = is;
      told_again = (let s : number.slot ≡ retold_slot = grind (arith, nat_tests, again) in s);
      same_life = (let s : number.life ≡ lives = grind (arith, nat_tests, again) in s);
      of_record = sym at;
      of_party = (let s : f.x.index ≡ number.serial = grind (arith, t) in sym s ∙ ap (λ (q : Party). q.index) j);
      done = a;
    })

    by_number : (t : Bool) → (f.x.index == number.serial) ≡ t → (if t then record f.x { due = due_after f.x.due heard } else f.x) ≡ p → WasDone records r.place p ⊎ IsAnsweredBy lives e r.place p
    by_number true t j = settle t j (ended_by f.x.due heard (ap (λ (q : Party). q.due) j ∙ done))
    by_number false t j = inl (record {
      held = r;
      there = c;
      same_place = refl;
      party = f.x;
      among = f.there;
      number = ap (λ (q : Party). q.index) j;
      reference = ap (λ (q : Party). q.to) j;
      done = ap (λ (q : Party). q.due) j ∙ done;
    })

heard_all : (number : CallNumber) (heard : Heard) (e : Event) → e.act ≡ acts.Answer number heard → (lives : ℕ) (records : List Held) (h : Held) (p : Party)
    → Contains (records_after lives number heard records) h → Contains h.parties p → p.due ≡ due.Nothing → WasDone records h.place p ⊎ IsAnsweredBy lives e h.place p
heard_all number heard e is lives records h p c d done = go (is_retold lives number) refl c
  where
    by_place : is_retold lives number ≡ true → (r : Held) → Contains records r → (t : Bool) → (r.place == number.generation) ≡ t → (if t then held_after number.serial heard r else r) ≡ h → WasDone records h.place p ⊎ IsAnsweredBy lives e h.place p
    by_place again r x true t i =
        subst (λ (q : ℕ). WasDone records q p ⊎ IsAnsweredBy lives e q p) (ap (λ (y : Held). y.place) i)
        (heard_one lives number heard e is again records r x (grind (arith, t)) p (subst (λ (ps : List Party). Contains ps p) (sym (ap (λ (y : Held). y.parties) i)) d) done)
    by_place again r x false t i = inl (was_itself records h p (subst (λ (y : Held). Contains records y) i x) d done)

    go : (t : Bool) → is_retold lives number ≡ t → Contains (if t then map (record_after number heard) records else records) h → WasDone records h.place p ⊎ IsAnsweredBy lives e h.place p
    go true again x = let f = of_map (record_after number heard) records h x in by_place again f.x f.there (f.x.place == number.generation) refl f.is
    go false again x = inl (was_itself records h p x d done)

pub kept_by : (o : Option ℕ) (stood : Option Stood) (records : List Held) (h : Held) → Contains (records_with o stood records) h → Contains records h
kept_by (Some place) (Some (answers.Stands done)) records h c = of_filter (λ (r : Held). not (r.place == place)) records h c
kept_by (Some place) (Some (answers.Full used need)) records h c = c
kept_by (Some place) (Some (answers.Unsure why)) records h c = c
kept_by (Some place) None records h c = c
kept_by None stood records h c = c

-- ---- a call

abbrev Ends : Event → Node → Node → Type 0
Ends e n later = (h : Held) (p : Party) → Contains later.recovered h → Contains h.parties p → p.due ≡ due.Nothing → WasDone n.recovered h.place p ⊎ IsAnsweredBy (life n) e h.place p

same_ends : (e : Event) (n later : Node) → later.recovered ≡ n.recovered → Ends e n later
same_ends e n later same h p c d done = inl (was_itself n.recovered h p (subst (λ (xs : List Held). Contains xs h) same c) d done)

answer_is : (n : CallNumber) (h : Heard) (a : RetoldAnswer) → Some (record { number = n; heard = h }) ≡ Some a → record { number = n; heard = h } ≡ a
answer_is n h a e = cc e

retold_is : (act : Act) (a : RetoldAnswer) → retold_answer act ≡ Some a → act ≡ acts.Answer a.number a.heard
retold_is (acts.Answer n h) a e = go (n.slot == retold_slot) e
  where
    go : (t : Bool) → (if t then Some (record { number = n; heard = h }) else None) ≡ Some a → acts.Answer n h ≡ acts.Answer a.number a.heard
    go true x = ap (λ (y : RetoldAnswer). acts.Answer y.number y.heard) (answer_is n h a x)
    go false x = absurd (cc x)
retold_is act a e = absurd (cc e)

by_records_ends : (o : Option RetoldAnswer) (k : ObjectKey) (e : Event) (stood : Option Stood) (n : Node) → retold_answer e.act ≡ o → Ends e n (by_records o k e stood n).node
unfolding hears_record
by_records_ends (Some a) k e stood n is = go (is_held a.number.generation n.recovered)
  where
    heard : Ends e n (records_hear a.number a.heard stood n).node
    heard h p c d done = heard_all a.number a.heard e (retold_is e.act a is) (life n) n.recovered h p
        (kept_by (completed (life n) a.number a.heard n.recovered) stood (records_after (life n) a.number a.heard n.recovered) h c) d done

    go : (t : Bool) → Ends e n (if t then records_hear a.number a.heard stood n else refuses faults.ObjectNotExist n).node
    go true = heard
    go false = same_ends e n n refl
by_records_ends None k e stood n is = go (option_and_then (record_says k e.key e.act) (record_of k n))
  where
    go : (o : Option Said) → Ends e n (replies o n).node
    go (Some answer) = same_ends e n n refl
    go None = same_ends e n n refl

by_family_ends : (f : Family) (e : Event) (stood : Option Stood) (n : Node) → Ends e n (by_family f e stood n).node
by_family_ends f e stood n = go (has_room f.entries e)
  where
    go : (t : Bool) → Ends e n (if t then steps_to n f e stood (family_step f e stood) else refuses faults.NoResources n).node
    go true = same_ends e n (steps_to n f e stood (family_step f e stood)).node refl
    go false = same_ends e n n refl

applied_ends : (o : Option Family) (k : ObjectKey) (e : Event) (stood : Option Stood) (n : Node) → Ends e n (applied_by o k e stood n).node
unfolding answers_recovered
applied_ends (Some f) k e stood n = by_family_ends f e stood n
applied_ends None k e stood n = by_records_ends (retold_answer e.act) k e stood n refl

pub held_dues_end_by_answers : HeldDuesEndByAnswers
unfolding applies
held_dues_end_by_answers k e stood n h p c d done = applied_ends (family_for k e n) k e stood n h p c d done
