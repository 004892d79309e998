-- A decision whose Done stands is over: it stands no more, and what is appended later stands behind it.
use Rattle.std.proofs.Common.{◌≡◌, ◌≢◌, ◌⊎◌, ◌==◌, ◌&&◌, inl, inr, ℕ, ◌<◌, ◌≤◌, zero, suc, List, [], ◌∷◌, length, find, cond, not, Bool, true, false, if◌then◌else◌, Option, Some, None, Ok, Contains, position, refl, ap, sym, subst, ◌∙◌, arith}
use Rattle.std.specs.Prelude.{get_or, nat_lt}
use Rattle.std.specs.List.{AllByRecursion, position_or_len, remove}
use Rattle.std.specs.Option.{option_map}
use Rattle.std.proofs.lemmas.Bool.Decides.{nat_tests}
use Rattle.std.proofs.lemmas.List.Quantifiers.{position-Some}
use Rattle.std.proofs.lemmas.List.Sums.{fails_before_first}
use Rattle.ior_refs.specs.declared.key.ObjectKey.{ObjectKey}
use Rattle.ots_model.specs.declared.completion.CallNumber.{CallNumber}
use Rattle.ots_model.specs.declared.completion.Stood.{Stood}
use Rattle.ots_model.specs.declared.completion.Stood.TheVariants as answers
use Rattle.ots_model.specs.declared.tree.Heard.{Heard}
use Rattle.ots_model.specs.declared.tree.Outward.{Outward}
use Rattle.decision_journal.specs.Journal.{Found, is_decision, is_decision_at, taken_away}
use Rattle.decision_journal.specs.declared.journal.Standing.{Standing}
use Rattle.decision_journal.specs.declared.record.JournalRecord.{JournalRecord}
use Rattle.decision_journal.specs.declared.record.JournalRecord.TheVariants.{Life, Decision, Done, Prepared, CellsPrepared, CellsOutcome, CellsOnePhase}
use Rattle.recovery_coord.specs.Hearing.{completed, completes, is_retold}
use Rattle.recovery_coord.specs.Held.{is_decided, without}
use Rattle.recovery_coord.specs.Telling as telling
use Rattle.recovery_coord.specs.declared.held.Due.{Due}
use Rattle.recovery_coord.specs.declared.held.Due.TheVariants as due
use Rattle.recovery_coord.specs.declared.held.Held.{Held}
use Rattle.recovery_coord.specs.declared.held.Party.{Party}
use Rattle.coordinator.specs.declared.event.Event.{Event}
use Rattle.coordinator.specs.Family.{Family, new_family}
use Rattle.coordinator.specs.Node.{Node, life, load}
use Rattle.coordinator.specs.NodeCalls.{applies, call_wants, done_wanted, journaled}
use Rattle.coordinator.specs.Limits.{generation_limit}
use Rattle.coordinator.specs.NodeSlots.{creates, deadline_after, free_slot, makes, makes_in, makes_no_family, next_key, with_new}
use Rattle.coordinator.specs.NodeTick.{passes_time, tells_again, ticks}
use Rattle.coordinator.specs.Step.{Wanted, WritesDone, wanted}
use Rattle.family_laws.specs.OwnDecisions.{HasDecision, NodesKeepDecisions}
use Rattle.family_laws.specs.SoundNode.{AreInOrder}
use Rattle.node_laws.specs.Dones.{DonesAreFinal, IsOver}
use Rattle.node_laws.specs.Rules.{GoesOn, IsToldOf, KeepsRules, NodesKeepRules}
use Rattle.node_laws.specs.Rules.GoesOn.{still, made, called, ticked as passes, loaded as begins}
use Rattle.node_laws.proofs.Lists.{all_at, behind_one, inner}
use Rattle.node_laws.proofs.Rests.{told_all, words_all}
use Rattle.node_laws.proofs.Rules.{loaded_so}
use Rattle.node_laws.proofs.Stands.{Called, IsNew, called_is, journaled_new}
use Rattle.node_laws.proofs.Stands.Called.{by_answer, by_nothing, by_step}

-- ---- a Done takes away what it names

-- one that is left isn't at the place of the one that was removed
left_elsewhere : (xs : List Standing) (i : ℕ) (s d : Standing) → AreInOrder xs → i < length xs → Contains (remove xs i) s → (get_or xs i d).place ≢ s.place
left_elsewhere xs i s d h within c = go xs i c.0 h within c.1 c.2
  where
    first_after : (xs : List Standing) (x : Standing) (i : ℕ) → AllByRecursion (λ (t : Standing). x.place < t.place) xs → i < length xs → x.place < (get_or xs i d).place
    first_after [] x i h l = absurd (omega (arith, l))
    first_after (y ∷ xs) x zero h l = h.0
    first_after (y ∷ xs) x (suc i) h l = first_after xs x i h.1 (omega (arith, l))

    go : (xs : List Standing) (i k : ℕ) → AreInOrder xs → i < length xs → k < length (remove xs i) → get_or (remove xs i) k s ≡ s → (get_or xs i d).place ≢ s.place
    go [] i k h w l e = absurd (omega (arith, w))
    go (x ∷ xs) zero k h w l e = λ same. let b = all_at (λ (t : Standing). x.place < t.place) xs s h.0 (k, l, e) in absurd (omega (arith, b, same))
    go (x ∷ xs) (suc i) zero h w l e = λ same. let b = first_after xs x i h.0 (omega (arith, w)) in let is = ap (λ (t : Standing). t.place) e in absurd (omega (arith, b, same, is))
    go (x ∷ xs) (suc i) (suc k) h w l e = go xs i k h.1 (omega (arith, w)) (omega (arith, l)) e

some_position : (test : Standing → Bool) (xs : List Standing) (s : Standing) → Contains xs s → test s ≡ true → position test xs ≡ None → ⊥
some_position test xs s c h e = go (nat_lt (position_or_len test xs) (length xs)) refl e
  where
    go : (t : Bool) → nat_lt (position_or_len test xs) (length xs) ≡ t → cond t (Some (position_or_len test xs)) None ≡ None → ⊥
    go true i x = absurd (cc x)
    go false i x =
        let most : length xs ≤ position_or_len test xs = grind (arith, nat_tests, i) in
        let k = c.1 in
        let f = fails_before_first test xs c.0 s (omega (arith, most, k)) in
        absurd (cc (sym f ∙ ap (λ (t : Standing). test t) c.2 ∙ h))

passes_test : (named : ℕ) (s : Standing) → s.place ≡ named → is_decision s.item ≡ true → is_decision_at named s ≡ true
passes_test named s e h = both (s.place == named) (is_decision s.item) (grind (arith, e)) h
  where
    both : (a b : Bool) → a ≡ true → b ≡ true → (a && b) ≡ true
    both a b e g = rw (e, g) refl

done_gone : (xs : List Standing) (named : ℕ) (s : Standing) → AreInOrder xs → Contains (taken_away (position (is_decision_at named) xs) xs) s → is_decision s.item ≡ true → s.place ≢ named
done_gone xs named s order c decided = go (position (is_decision_at named) xs) refl c
  where
    placed : (t : Standing) → is_decision_at named t ≡ true → t.place ≡ named
    placed t h = let l : (t.place == named) ≡ true = left (t.place == named) (is_decision t.item) h in grind (arith, l)
      where
        left : (a b : Bool) → (a && b) ≡ true → a ≡ true
        left true b h = refl
        left false b h = absurd (cc h)

    go : (o : Option ℕ) → position (is_decision_at named) xs ≡ o → Contains (taken_away o xs) s → s.place ≢ named
    go None e c = λ same. absurd (some_position (is_decision_at named) xs s c (passes_test named s same decided) e)
    go (Some i) e c = λ same.
        let at = position-Some (is_decision_at named) xs i s e in
        left_elsewhere xs i s s order at.0 c (placed (get_or xs i s) at.1 ∙ sym same)

-- ---- the record of a Done that is wanted stands before the edge

completed_there : (lives : ℕ) (number : CallNumber) (heard : Heard) (records : List Held) (place : ℕ) → completed lives number heard records ≡ Some place
    → (r : Held) × Contains records r × (r.place ≡ place)
completed_there lives number heard records place e = by_life (is_retold lives number) e
  where
    found : (rs : List Held) (r : Held) → find (completes number heard) rs ≡ Some r → Contains rs r
    found [] r i = absurd (cc i)
    found (x ∷ rs) r i = go (completes number heard x) i (found rs r)
      where
        go : (t : Bool) → cond t (Some x) (find (completes number heard) rs) ≡ Some r → (find (completes number heard) rs ≡ Some r → Contains rs r) → Contains (x ∷ rs) r
        go true j rest = (zero, omega arith, inner j)
        go false j rest = behind_one x rs r (rest j)

    by_found : (o : Option Held) → find (completes number heard) records ≡ o → option_map (λ (r : Held). r.place) o ≡ Some place → (r : Held) × Contains records r × (r.place ≡ place)
    by_found None i j = absurd (cc j)
    by_found (Some r) i j = (r, found records r i, inner j)

    by_life : (t : Bool) → (if t then option_map (λ (r : Held). r.place) (find (completes number heard) records) else None) ≡ Some place → (r : Held) × Contains records r × (r.place ≡ place)
    by_life true i = by_found (find (completes number heard) records) refl i
    by_life false i = absurd (cc i)

done_of : (o : Option ℕ) (named : ℕ) → option_map WritesDone o ≡ Some (WritesDone named) → o ≡ Some named
done_of None named i = absurd (cc i)
done_of (Some place) named i = cc i

-- no decision stands at the place, and it is before the edge
record IsGone (edge : ℕ) (n : Node) (place : ℕ) : Type 0 where
  low : place < edge
  stands : (s : Standing) → Contains n.found.standing s → is_decision s.item ≡ true → s.place ≢ place

module _ (decisions : NodesKeepDecisions) where
  low_of : (edge : ℕ) (n : Node) (k : ObjectKey) (e : Event) (stood : Option Stood) (place : ℕ) (w : Option Wanted) (later : Node) (some : List Outward) → Called n k e stood w later some
      → KeepsRules edge n → w ≡ Some (WritesDone place) → place < edge
  low_of edge n k e stood place _ _ _ (by_step f there) h w =
      let d : HasDecision n f place = decisions.closes edge k.slot place f e n h.decisions there w in
      let b = all_at (λ (s : Standing). s.place < edge) n.found.standing d.stood h.decisions.before d.there in
      let at = d.at in
      omega (arith, b, at)
  low_of edge n k e stood place _ _ _ (by_answer number heard) h w =
      let r = completed_there (life n) number heard n.recovered place (done_of (completed (life n) number heard n.recovered) place w) in
      let x = h.held r.0 r.1 in
      let b = all_at (λ (s : Standing). s.place < edge) n.found.standing x.stood h.decisions.before x.there in
      let at = x.same_place in
      let is = r.2 in
      omega (arith, b, at, is)
  low_of edge n k e stood place _ _ _ (by_nothing w none) h wants = absurd (nothing (sym none ∙ wants))
    where
      nothing : ◌≡◌ {A = Option Wanted} None (Some (WritesDone place)) → ⊥
      nothing i = cc i

gone_by : (found : Found) (w : Option Wanted) (stood : Option Stood) (place at : ℕ) (s : Standing) → AreInOrder found.standing → w ≡ Some (WritesDone place) → stood ≡ Some (answers.Stands at)
    → Contains (journaled w stood found).standing s → is_decision s.item ≡ true → s.place ≢ place
gone_by found w stood place at s order i j c decided =
    done_gone found.standing place s order
    (subst (λ (o : Option Stood). Contains (journaled (Some (WritesDone place)) o found).standing s) j (subst (λ (o : Option Wanted). Contains (journaled o stood found).standing s) i c)) decided

gone_called : (n : Node) (k : ObjectKey) (e : Event) (stood : Option Stood) (place at : ℕ) (w : Option Wanted) (later : Node) (some : List Outward) → Called n k e stood w later some
    → AreInOrder n.found.standing → w ≡ Some (WritesDone place) → stood ≡ Some (answers.Stands at) → (s : Standing) → Contains later.found.standing s → is_decision s.item ≡ true → s.place ≢ place
gone_called n k e stood place at _ _ _ (by_step f there) order w j s c decided = gone_by n.found (wanted f e) stood place at s order w j c decided
gone_called n k e stood place at _ _ _ (by_answer number heard) order w j s c decided = gone_by n.found (done_wanted number heard n) stood place at s order w j c decided
gone_called n k e stood place at _ _ _ (by_nothing w none) order wants j s c decided = absurd (nothing (sym none ∙ wants))
  where
    nothing : ◌≡◌ {A = Option Wanted} None (Some (WritesDone place)) → ⊥
    nothing i = cc i

-- ---- it stays so

-- what stands behind a call stood before, or was appended
pub stood_or_new : (n : Node) (k : ObjectKey) (e : Event) (stood : Option Stood) (w : Option Wanted) (later : Node) (some : List Outward) → Called n k e stood w later some
    → (s : Standing) → Contains later.found.standing s → Contains n.found.standing s ⊎ IsNew w stood s
stood_or_new n k e stood _ _ _ (by_step f there) s c = journaled_new (wanted f e) stood n.found s c
stood_or_new n k e stood _ _ _ (by_answer number heard) s c = journaled_new (done_wanted number heard n) stood n.found s c
stood_or_new n k e stood _ _ _ (by_nothing w none) s c = inl c

pub made_found : (now seconds : ℕ) (n : Node) → (creates now seconds n).node.found ≡ n.found
unfolding creates makes
made_found now seconds n = by_slot (free_slot n)
  where
    make : ObjectKey → Family
    make key = new_family key (deadline_after now seconds)

    by_number : (slot : ℕ) (t : Bool) → (if t then record { node = with_new make slot n; answer = Ok (next_key n slot) } else makes_no_family n).node.found ≡ n.found
    by_number slot true = refl
    by_number slot false = refl

    by_slot : (o : Option ℕ) → (makes_in o make n).node.found ≡ n.found
    by_slot None = refl
    by_slot (Some slot) = by_number slot (nat_lt n.generation generation_limit)

pub ticked_found : (now : ℕ) (n : Node) → (ticks now n).node.found ≡ n.found
unfolding ticks
ticked_found now n = refl

same_gone : (edge end : ℕ) (n later : Node) (place : ℕ) → edge ≤ end → later.found.standing ≡ n.found.standing → IsGone edge n place → IsGone end later place
same_gone edge end n later place grows same h = record {
  low = let l = h.low in omega (arith, l, grows);
  stands = λ s c decided. h.stands s (subst (λ (xs : List Standing). Contains xs s) same c) decided;
}

gone_on : (edge : ℕ) (n : Node) (place : ℕ) → IsGone edge n place → (reached : ℕ) (later : Node) → GoesOn edge n reached later → IsGone reached later place
gone_on edge n place h _ _ still = h
gone_on edge n place h _ _ (made now seconds reached later on) =
    same_gone reached reached later (creates now seconds later).node place (omega arith) (ap (λ (x : Found). x.standing) (made_found now seconds later)) (gone_on edge n place h reached later on)
gone_on edge n place h _ _ (called k e stood reached end later on grows appends finds) =
    let x = gone_on edge n place h reached later on in
    record {
      low = let l = x.low in omega (arith, l, grows);
      stands = λ s c decided. elim (stood_or_new later k e stood (call_wants k e later) (applies k e stood later).node (applies k e stood later).words (called_is later k e stood) s c) [
        | inl old ↦ x.stands s old decided
        | inr new ↦ λ same.
            let l = x.low in
            let b = (appends new.item new.place new.wanted new.stands).0 in
            let is = ap (λ (t : Standing). t.place) new.is in
            absurd (omega (arith, l, b, is, same))
      ];
    }
gone_on edge n place h _ _ (passes now reached later on) =
    same_gone reached reached later (ticks now later).node place (omega arith) (ap (λ (x : Found). x.standing) (ticked_found now later)) (gone_on edge n place h reached later on)
gone_on edge n place h _ _ (begins records reached end later on grows is standing) =
    same_gone reached end later (load later.service records) place grows (ap (λ (x : Found). x.standing) (loaded_so records) ∙ sym (ap (λ (x : Found). x.standing) is)) (gone_on edge n place h reached later on)

-- ---- and nobody is told

told_decides : (r : JournalRecord) (h : Held) → IsToldOf r h → is_decision r ≡ true
told_decides (Decision l slot generation by asked named) h t = refl
told_decides (Prepared l slot generation recovery named) h t = refl
told_decides (Life l) h t = absurd t
told_decides (Done named) h t = absurd t
told_decides (CellsPrepared l number recovery puts) h t = absurd t
told_decides (CellsOutcome named end) h t = absurd t
told_decides (CellsOnePhase l number puts) h t = absurd t

held_elsewhere : (edge : ℕ) (n : Node) (place : ℕ) → KeepsRules edge n → IsGone edge n place → (h : Held) → Contains n.recovered h → h.place ≢ place
held_elsewhere edge n place r g h c = λ same. let x = r.held h c in g.stands x.stood x.there (told_decides x.stood.item h x.told) (x.same_place ∙ same)

without_same : (place : ℕ) (xs : List Held) → ((h : Held) → Contains xs h → h.place ≢ place) → without place xs ≡ xs
without_same place [] each = refl
without_same place (x ∷ xs) each =
    ap (λ (t : Bool). cond t (x ∷ without place xs) (without place xs)) (other x.place (each x (zero, omega arith, refl)))
    ∙ ap (λ (ys : List Held). x ∷ ys) (without_same place xs (λ h c. each h (behind_one x xs h c)))
  where
    other : (a : ℕ) → a ≢ place → not (a == place) ≡ true
    other a n = grind (arith, nat_tests)

word_elsewhere : (lives place at : ℕ) (decided : Bool) (p : Party) (d : Due) (o : Outward) → at ≢ place → telling.word_by lives at decided p d ≡ Some o → o.number.generation ≢ place
word_elsewhere lives place at decided p due.Commit o other e = subst (λ (x : Outward). x.number.generation ≢ place) (inner e) other
word_elsewhere lives place at true p due.Forget o other e = subst (λ (x : Outward). x.number.generation ≢ place) (inner e) other
word_elsewhere lives place at false p due.Forget o other e = absurd (cc e)
word_elsewhere lives place at decided p due.Nothing o other e = absurd (cc e)

words_elsewhere : (lives place : ℕ) (records : List Held) → ((h : Held) → Contains records h → h.place ≢ place) → AllByRecursion (λ (o : Outward). o.number.generation ≢ place) (telling.words lives records)
words_elsewhere lives place records each =
    words_all (λ (o : Outward). o.number.generation ≢ place) lives records (λ h c.
    told_all (λ (o : Outward). o.number.generation ≢ place) lives h.place (is_decided h.kind) h.parties (λ p d o e. word_elsewhere lives place h.place (is_decided h.kind) p p.due o (each h c) e))

ticks_elsewhere : (edge now : ℕ) (n : Node) (place : ℕ) → KeepsRules edge (ticks now n).node → IsGone edge (ticks now n).node place → AllByRecursion (λ (o : Outward). o.number.generation ≢ place) (ticks now n).words
unfolding ticks
ticks_elsewhere edge now n place r g =
    let later : Node = tells_again (passes_time now n) in
    words_elsewhere (life later) place later.recovered (held_elsewhere edge later place r g)

is_over : NodesKeepRules → (edge : ℕ) (n : Node) (place : ℕ) → KeepsRules edge n → IsGone edge n place → IsOver n place
is_over nodes edge n place r g = record {
  stands = g.stands;
  held = held_elsewhere edge n place r g;
  let_go = without_same place n.recovered (held_elsewhere edge n place r g);
  silent = λ now. ticks_elsewhere edge now n place (nodes.ticked edge now n r)
      (same_gone edge edge n (ticks now n).node place (omega arith) (ap (λ (x : Found). x.standing) (ticked_found now n)) g);
}

pub dones_are_final : NodesKeepRules → NodesKeepDecisions → DonesAreFinal
dones_are_final nodes decisions edge later k e stood n place at grows appends finds h wants stands reached m on =
    let then_node : Node = (applies k e stood n).node in
    let call : Called n k e stood (call_wants k e n) then_node (applies k e stood n).words = called_is n k e stood in
    let rules = nodes.called edge later k e stood n grows appends finds h in
    let gone : IsGone later then_node place = record {
      low = let l = low_of decisions edge n k e stood place (call_wants k e n) then_node (applies k e stood n).words call h wants in omega (arith, l, grows);
      stands = gone_called n k e stood place at (call_wants k e n) then_node (applies k e stood n).words call h.decisions.sound.order wants stands;
    } in
    is_over nodes reached m place (nodes.goes_on later reached then_node m rules on) (gone_on later then_node place gone reached m on)
