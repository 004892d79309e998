-- What a record that is taken over is through with, its family was through with.
use Rattle.std.proofs.Common.{◌≡◌, ◌⊎◌, ◌==◌, ◌&&◌, ◌||◌, not, inl, inr, ℕ, zero, suc, List, [], ◌∷◌, map, filter, find, cond, Bool, true, false, if◌then◌else◌, Option, Some, None, Ok, Contains, refl, ap, sym, subst, ◌∙◌, arith}
use Rattle.std.specs.Prelude.{nat_lt}
use Rattle.std.specs.List.{AllByRecursion, list_any}
use Rattle.std.specs.Option.{option_and_then, option_map_or}
use Rattle.std.proofs.lemmas.Bool.Decides.{nat_tests}
use Rattle.ior_refs.specs.declared.key.ObjectKey.{ObjectKey}
use Rattle.ots_model.specs.declared.completion.Ground.TheVariants.{Record}
use Rattle.ots_model.specs.declared.completion.Heard.TheVariants.{Voted}
use Rattle.ots_model.specs.declared.completion.Vote.TheVariants.{VoteCommit}
use Rattle.ots_model.specs.Numbered.{Outcome}
use Rattle.ots_model.specs.declared.completion.Outcome.TheVariants as outcomes
use Rattle.decision_journal.specs.Journal.{Found, is_decision, is_decision_at}
use Rattle.decision_journal.specs.declared.journal.Standing.{Standing}
use Rattle.decision_journal.specs.declared.record.JournalRecord.{JournalRecord}
use Rattle.decision_journal.specs.declared.record.JournalRecord.TheVariants.{Life, Decision, Done, Prepared, CellsPrepared, CellsOutcome, CellsOnePhase}
use Rattle.recovery_coord.specs.Held.{none_listed, listed, due_to, party_of, held_of, is_decided, is_complete}
use Rattle.recovery_coord.specs.Telling.{recalled, retold}
use Rattle.recovery_coord.specs.declared.held.Due.{Due}
use Rattle.recovery_coord.specs.declared.held.Due.TheVariants as due
use Rattle.recovery_coord.specs.declared.held.Held.{Held}
use Rattle.recovery_coord.specs.declared.held.Party.{Party}
use Rattle.two_phase.specs.Course as course
use Rattle.two_phase.specs.Course.{Course}
use Rattle.two_phase.specs.Parties.{has_voted_commit, has_completed, is_owed}
use Rattle.two_phase.specs.Parties.{is_commit_vote}
use Rattle.two_phase.specs.Reports as reports
use Rattle.two_phase.specs.Stages as stages
use Rattle.two_phase.specs.Stages.{Standing as Completion, Waiting, Going as UnderWay}
use Rattle.two_phase.specs.declared.party.Party.{Party as Participant}
use Rattle.two_phase.specs.declared.party.Stage.TheVariants as asks
use Rattle.coordinator.specs.Family.{Family, new_family}
use Rattle.coordinator.specs.Hearing.{record_place}
use Rattle.coordinator.specs.Limits.{generation_limit}
use Rattle.coordinator.specs.Node.{Node, family_in}
use Rattle.coordinator.specs.NodeSlots.{free_slot, left_record, held_for, takes_over, next_key, with_new, makes_no_family, makes_in, makes, creates, deadline_after}
use Rattle.coordinator.specs.NodeTick.{ticked, takes_all_over, ticks}
use Rattle.coordinator.specs.Step.{is_finished}
use Rattle.family_laws.specs.HeldDues.{WasDone, IsThrough, IsOverFor, HeldDuesEndWithFamilies}
use Rattle.family_laws.proofs.Dues.{IsFrom, of_map, was_itself}
use Rattle.family_laws.proofs.Held.{taken_from}

-- ---- a due that is nothing at once

nobody : (d : Due) (commits forgets : List ℕ) (index : ℕ) → due_to due.Commit commits forgets index ≡ due.Nothing → list_any (λ k. k == index) commits ≡ false
nobody d commits forgets index e = by_none (none_listed commits forgets) e
  where
    by_lists : (a b : Bool) → list_any (λ k. k == index) commits ≡ a → (if a then due.Commit else (if b then due.Forget else due.Nothing)) ≡ due.Nothing → list_any (λ k. k == index) commits ≡ false
    by_lists true b i x = absurd (cc x)
    by_lists false b i x = i

    by_none : (t : Bool) → (if t then due.Commit else listed commits forgets index) ≡ due.Nothing → list_any (λ k. k == index) commits ≡ false
    by_none true x = absurd (cc x)
    by_none false x = by_lists (list_any (λ k. k == index) commits) (list_any (λ k. k == index) forgets) refl x

-- those that are not among the owed ones
not_owed : (ps : List Participant) (index : ℕ) → list_any (λ k. k == index) (map (λ (q : Participant). q.index) (filter (is_owed asks.Telling) ps)) ≡ false
    → AllByRecursion (λ (q : Participant). q.index ≡ index → q.ballot ≡ Some (Voted VoteCommit) → has_completed q ≡ true) ps
not_owed [] index h = tt
not_owed (q ∷ ps) index h = go (is_owed asks.Telling q) refl h (not_owed ps index)
  where
    rest : List ℕ
    rest = map (λ (q : Participant). q.index) (filter (is_owed asks.Telling) ps)

    Done_for : Participant → Type 0
    Done_for r = r.index ≡ index → r.ballot ≡ Some (Voted VoteCommit) → has_completed r ≡ true

    right : (a b : Bool) → (a || b) ≡ false → b ≡ false
    right true b x = absurd (cc x)
    right false b x = x

    left : (a b : Bool) → (a || b) ≡ false → a ≡ false
    left true b x = absurd (cc x)
    left false b x = refl

    other : (q.index == index) ≡ false → q.index ≡ index → ⊥
    other f e = let t : (q.index == index) ≡ true = grind (arith, e) in absurd (cc (sym f ∙ t))

    completed : (v c : Bool) → v ≡ true → (v && not c) ≡ false → c ≡ true
    completed true true e x = refl
    completed true false e x = absurd (cc x)
    completed false c e x = absurd (cc e)

    go : (t : Bool) → is_owed asks.Telling q ≡ t → list_any (λ k. k == index) (map (λ (r : Participant). r.index) (cond t (q ∷ filter (is_owed asks.Telling) ps) (filter (is_owed asks.Telling) ps))) ≡ false
        → (list_any (λ k. k == index) rest ≡ false → AllByRecursion Done_for ps) → Done_for q × AllByRecursion Done_for ps
    go true o x more = ((λ e v. absurd (other (left (q.index == index) (list_any (λ k. k == index) rest) x) e)), more (right (q.index == index) (list_any (λ k. k == index) rest) x))
    go false o x more = ((λ e v. completed (has_voted_commit q) (has_completed q) (ap (λ b. option_map_or is_commit_vote b false) v) o), more x)

owed_none : (c : Course) (index : ℕ) → course.outcome c ≡ Some (outcomes.Commit Record) → list_any (λ k. k == index) (reports.pending_commits c) ≡ false → IsThrough (UnderWay c) index
unfolding reports.owed_numbers
owed_none c index o h =
    not_owed c.parties index (ap (λ (t : Bool). list_any (λ k. k == index) (if t then reports.owed_numbers asks.Telling c.parties else [])) (sym (ap (λ (x : Option Outcome). reports.is_commit x) o)) ∙ h)

through : (s : Completion) (index : ℕ) → list_any (λ k. k == index) (stages.pending_commits s) ≡ false → stages.outcome s ≡ Some (outcomes.Commit Record) → IsThrough s index
through (Waiting room) index h o = absurd (cc o)
through (UnderWay c) index h o = owed_none c index o h

-- ---- a record is taken over

taken_done : (place : ℕ) (item : JournalRecord) (commits forgets : List ℕ) (h : Held) (p : Party) → held_of place item commits forgets ≡ Some h → is_decided h.kind ≡ true → Contains h.parties p → p.due ≡ due.Nothing
    → list_any (λ k. k == p.index) commits ≡ false
taken_done place (Life l) commits forgets h p e d c n = absurd (cc e)
taken_done place (Done named) commits forgets h p e d c n = absurd (cc e)
taken_done place (CellsPrepared l number recovery puts) commits forgets h p e d c n = absurd (cc e)
taken_done place (CellsOutcome named end) commits forgets h p e d c n = absurd (cc e)
taken_done place (CellsOnePhase l number puts) commits forgets h p e d c n = absurd (cc e)
taken_done place (Prepared l slot generation recovery regs) commits forgets h p e d c n = absurd (cc (e, d))
taken_done place (Decision l slot generation by asked regs) commits forgets h p e d c n =
    let ps : map (party_of due.Commit commits forgets) regs ≡ h.parties = cc e in
    let f = of_map (party_of due.Commit commits forgets) regs p (subst (λ (xs : List Party). Contains xs p) (sym ps) c) in
    subst (λ (k : ℕ). list_any (λ j. j == k) commits ≡ false) (ap (λ (q : Party). q.index) f.is)
    (nobody due.Commit commits forgets f.x.index (ap (λ (q : Party). q.due) f.is ∙ n))

pub record IsTaken (found : Found) (f : Family) (h : Held) : Type 0 where
  pub stood : Standing
  pub left : left_record found f ≡ Some stood
  pub held : held_for f stood ≡ Some h

pub one_taken : (found : Found) (f : Family) (xs : List Held) (h : Held) → Contains (takes_over found (Some f) xs) h → Contains xs h ⊎ IsTaken found f h
one_taken found f xs h c = go (taken_from (option_and_then (held_for f) (left_record found f)) xs h c)
  where
    new : (o : Option Standing) → left_record found f ≡ o → option_and_then (held_for f) o ≡ Some h → IsTaken found f h
    new None i e = absurd (cc e)
    new (Some s) i e = record { stood = s; left = i; held = e }

    go : Contains xs h ⊎ (option_and_then (held_for f) (left_record found f) ≡ Some h) → Contains xs h ⊎ IsTaken found f h
    go (inl d) = inl d
    go (inr e) = inr (new (left_record found f) refl e)

pub record IsTakenFrom (found : Found) (fs : List (Option Family)) (h : Held) : Type 0 where
  pub slot : ℕ
  pub family : Family
  pub there : family_in fs slot ≡ Some family
  pub taken_over : IsTaken found family h

pub some_taken : (found : Found) (fs : List (Option Family)) (xs : List Held) (h : Held) → Contains (takes_all_over found fs xs) h → Contains xs h ⊎ IsTakenFrom found fs h
some_taken found [] xs h c = inl c
some_taken found (o ∷ fs) xs h c = go (some_taken found fs (takes_over found o xs) h c)
  where
    by : (o : Option Family) → Contains (takes_over found o xs) h → Contains xs h ⊎ IsTakenFrom found (o ∷ fs) h
    by None d = inl d
    by (Some f) d = this (one_taken found f xs h d)
      where
        this : Contains xs h ⊎ IsTaken found f h → Contains xs h ⊎ IsTakenFrom found (Some f ∷ fs) h
        this (inl x) = inl x
        this (inr x) = inr (record { slot = zero; family = f; there = refl; taken_over = x })

    go : Contains (takes_over found o xs) h ⊎ IsTakenFrom found fs h → Contains xs h ⊎ IsTakenFrom found (o ∷ fs) h
    go (inl d) = by o d
    go (inr x) = inr (record { slot = suc x.slot; family = x.family; there = x.there; taken_over = x.taken_over })

pub taken_finished : (found : Found) (f : Family) (s : Standing) → left_record found f ≡ Some s → is_finished f ≡ true
taken_finished found f s e = go (is_finished f) refl e
  where
    go : (t : Bool) → is_finished f ≡ t → (if t then option_and_then (λ place. find (is_decision_at place) found.standing) (record_place f.completion) else None) ≡ Some s → is_finished f ≡ true
    go true i x = i
    go false i x = absurd (cc x)

-- the record stands where the family was decided
first_so : (place : ℕ) (ss : List Standing) (s : Standing) → find (is_decision_at place) ss ≡ Some s → place ≡ s.place
first_so place [] s e = absurd (cc e)
first_so place (x ∷ ss) s e = go (is_decision_at place x) refl e (first_so place ss s)
  where
    at : (a b : ℕ) (t : Bool) → (a == b && t) ≡ true → b ≡ a
    at a b t i = grind (arith, nat_tests)

    go : (t : Bool) → is_decision_at place x ≡ t → cond t (Some x) (find (is_decision_at place) ss) ≡ Some s → (find (is_decision_at place) ss ≡ Some s → place ≡ s.place) → place ≡ s.place
    go true i j others = at x.place place (is_decision x.item) i ∙ ap (λ (y : Standing). y.place) (same j)
      where
        same : {a b : Standing} → Some a ≡ Some b → a ≡ b
        same e = cc e
    go false i j others = others j

pub left_at : (found : Found) (f : Family) (s : Standing) → left_record found f ≡ Some s → record_place f.completion ≡ Some s.place
left_at found f s e = go (is_finished f) e
  where
    by : (o : Option ℕ) → option_and_then (λ place. find (is_decision_at place) found.standing) o ≡ Some s → o ≡ Some s.place
    by (Some place) x = ap (λ (i : ℕ). Some i) (first_so place found.standing s x)
    by None x = absurd (cc x)

    go : (t : Bool) → (if t then option_and_then (λ place. find (is_decision_at place) found.standing) (record_place f.completion) else None) ≡ Some s → record_place f.completion ≡ Some s.place
    go true x = by (record_place f.completion) x
    go false x = absurd (cc x)

pub held_at : (place : ℕ) (item : JournalRecord) (commits forgets : List ℕ) (h : Held) → held_of place item commits forgets ≡ Some h → h.place ≡ place
held_at place (Life l) commits forgets h e = absurd (cc e)
held_at place (Decision l slot generation by asked regs) commits forgets h e = cc e
held_at place (Done named) commits forgets h e = absurd (cc e)
held_at place (Prepared l slot generation recovery regs) commits forgets h e = cc e
held_at place (CellsPrepared l number recovery puts) commits forgets h e = absurd (cc e)
held_at place (CellsOutcome named end) commits forgets h e = absurd (cc e)
held_at place (CellsOnePhase l number puts) commits forgets h e = absurd (cc e)

over_for : (found : Found) (fs : List (Option Family)) (slot : ℕ) (f : Family) (h : Held) (p : Party) → family_in fs slot ≡ Some f → IsTaken found f h → is_decided h.kind ≡ true → Contains h.parties p → p.due ≡ due.Nothing → IsOverFor fs h.place p.index
over_for found fs slot f h p there x d c n = record {
  slot = slot;
  family = f;
  there = there;
  finished = taken_finished found f x.stood x.left;
  decided = left_at found f x.stood x.left ∙ ap (λ (i : ℕ). Some i) (sym (held_at x.stood.place x.stood.item (stages.pending_commits f.completion) (stages.pending_forgets f.completion) h x.held));
  through = λ o. through f.completion p.index (taken_done x.stood.place x.stood.item (stages.pending_commits f.completion) (stages.pending_forgets f.completion) h p x.held d c n) o;
}

-- ---- a family is made, or time passes

made_over : (now seconds : ℕ) (n : Node) (h : Held) (p : Party) → Contains (creates now seconds n).node.recovered h → is_decided h.kind ≡ true → Contains h.parties p → p.due ≡ due.Nothing
    → WasDone n.recovered h.place p ⊎ IsOverFor n.families h.place p.index
unfolding creates makes
made_over now seconds n h p c d q e = by_slot (free_slot n) c
  where
    make : ObjectKey → Family
    make key = new_family key (deadline_after now seconds)

    same : Contains n.recovered h → WasDone n.recovered h.place p ⊎ IsOverFor n.families h.place p.index
    same x = inl (was_itself n.recovered h p x q e)

    by_family : (slot : ℕ) (o : Option Family) → family_in n.families slot ≡ o → Contains (takes_over n.found o n.recovered) h → WasDone n.recovered h.place p ⊎ IsOverFor n.families h.place p.index
    by_family slot None i x = same x
    by_family slot (Some f) i x = sort (one_taken n.found f n.recovered h x)
      where
        sort : Contains n.recovered h ⊎ IsTaken n.found f h → WasDone n.recovered h.place p ⊎ IsOverFor n.families h.place p.index
        sort (inl y) = same y
        sort (inr y) = inr (over_for n.found n.families slot f h p i y d q e)

    by_number : (slot : ℕ) (t : Bool) → Contains (if t then record { node = with_new make slot n; answer = Ok (next_key n slot) } else makes_no_family n).node.recovered h → WasDone n.recovered h.place p ⊎ IsOverFor n.families h.place p.index
    by_number slot true x = by_family slot (family_in n.families slot) refl x
    by_number slot false x = same x

    by_slot : (o : Option ℕ) → Contains (makes_in o make n).node.recovered h → WasDone n.recovered h.place p ⊎ IsOverFor n.families h.place p.index
    by_slot None x = same x
    by_slot (Some slot) x = by_number slot (nat_lt n.generation generation_limit) x

-- what is told again waits for commit
recalled_due : (ps : List Party) (p : Party) → Contains (map recalled ps) p → p.due ≡ due.Nothing → ⊥
recalled_due ps p c e = let f = of_map recalled ps p c in absurd (cc (ap (λ (q : Party). q.due) f.is ∙ e))

retold_same : (r h : Held) (p : Party) → retold r ≡ h → Contains h.parties p → p.due ≡ due.Nothing → r ≡ h
retold_same r h p i c e = go (is_complete r) i
  where
    go : (t : Bool) → (if t then record r { parties = map recalled r.parties } else r) ≡ h → r ≡ h
    go true j = absurd (recalled_due r.parties p (subst (λ (ps : List Party). Contains ps p) (sym (ap (λ (y : Held). y.parties) j)) c) e)
    go false j = j

ticked_over : (now : ℕ) (n : Node) (h : Held) (p : Party) → Contains (ticks now n).node.recovered h → is_decided h.kind ≡ true → Contains h.parties p → p.due ≡ due.Nothing
    → WasDone n.recovered h.place p ⊎ IsOverFor (ticks now n).node.families h.place p.index
unfolding ticks
ticked_over now n h p c d q e = go (some_taken n.found (map (ticked now) n.families) n.recovered h there)
  where
    f : IsFrom retold (takes_all_over n.found (map (ticked now) n.families) n.recovered) h
    f = of_map retold (takes_all_over n.found (map (ticked now) n.families) n.recovered) h c

    there : Contains (takes_all_over n.found (map (ticked now) n.families) n.recovered) h
    there = subst (λ (y : Held). Contains (takes_all_over n.found (map (ticked now) n.families) n.recovered) y) (retold_same f.x h p f.is q e) f.there

    go : Contains n.recovered h ⊎ IsTakenFrom n.found (map (ticked now) n.families) h → WasDone n.recovered h.place p ⊎ IsOverFor (map (ticked now) n.families) h.place p.index
    go (inl x) = inl (was_itself n.recovered h p x q e)
    go (inr x) = inr (over_for n.found (map (ticked now) n.families) x.slot x.family h p x.there x.taken_over d q e)

pub held_dues_end_with_families : HeldDuesEndWithFamilies
held_dues_end_with_families = record { made = made_over; ticked = ticked_over }
