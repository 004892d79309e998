-- What a node's families are decided by, and what it tells again: a family goes on with a decision of its own that stands, and that
-- nobody tells again.
use Rattle.std.proofs.Common.{◌≡◌, ◌≢◌, ◌⊎◌, ◌==◌, ◌&&◌, not, inl, inr, ℕ, ◌<◌, ◌≤◌, zero, suc, List, [], ◌∷◌, length, map, cond, find, get_or, Bool, true, false, if◌then◌else◌, Option, Some, None, Ok, Contains, position, refl, ap, sym, subst, ◌∙◌, arith}
use Rattle.std.specs.Prelude.{nat_lt}
use Rattle.std.specs.List.{AllByRecursion, remove}
use Rattle.std.specs.Option.{option_map, option_and_then}
use Rattle.std.proofs.lemmas.Bool.Decides.{nat_tests}
use Rattle.std.proofs.lemmas.List.Elements.{Contains-append_left, Contains-append_right}
use Rattle.std.proofs.lemmas.List.Quantifiers.{position-Some}
use Rattle.ior_refs.specs.declared.key.ObjectKey.{ObjectKey}
use Rattle.ots_model.specs.declared.completion.CallNumber.{CallNumber}
use Rattle.ots_model.specs.declared.completion.Stood.{Stood}
use Rattle.ots_model.specs.declared.completion.Stood.TheVariants as answers
use Rattle.ots_model.specs.declared.tree.Heard.{Heard}
use Rattle.decision_journal.specs.Journal.{Found, is_decision, is_decision_at, taken_away, with_record}
use Rattle.decision_journal.specs.declared.journal.Standing.{Standing}
use Rattle.decision_journal.specs.declared.record.JournalRecord.{JournalRecord}
use Rattle.recovery_coord.specs.Held.{is_complete, is_held, without}
use Rattle.recovery_coord.specs.Hearing.{records_after, completes, completed, is_retold}
use Rattle.recovery_coord.specs.Telling.{recalled, retold}
use Rattle.recovery_coord.specs.declared.held.Held.{Held}
use Rattle.two_phase.specs.LawsOfReached.{TreeOutcomeStays}
use Rattle.two_phase.specs.Stages as stages
use Rattle.coordinator.specs.declared.event.Event.{Event}
use Rattle.coordinator.specs.declared.node.NodeFault.TheVariants as faults
use Rattle.coordinator.specs.declared.said.Said.{Said}
use Rattle.coordinator.specs.declared.said.Said.TheVariants as said
use Rattle.coordinator.specs.Family.{Family, new_family}
use Rattle.coordinator.specs.Hearing.{decision_record}
use Rattle.coordinator.specs.History.{has_room}
use Rattle.coordinator.specs.Limits.{slot_limit, generation_limit}
use Rattle.coordinator.specs.Node.{Node, life, load, family_in, with_family}
use Rattle.coordinator.specs.NodeCalls.{RetoldAnswer, retold_answer, journaled, steps_to, refuses, replies, records_with, records_hear, hears_record, by_records, answers_recovered, family_for, applied_by, applies, wanted_by, call_wants}
use Rattle.coordinator.specs.NodeRecords.{record_of, record_says}
use Rattle.coordinator.specs.NodeSlots.{free_slot, takes_over, next_key, with_new, makes_no_family, makes_in, makes, creates, deadline_after}
use Rattle.coordinator.specs.NodeTick.{tick_at, tick_of, ticked, takes_all_over, passes_time, tells_again, ticks}
use Rattle.coordinator.specs.Step.{quiet, family_step, Wanted, Appends, WritesDone, Rereads, wanted, is_finished, hears}
use Rattle.family_laws.specs.HeldRecords.{IsOfStanding, WasHeld}
use Rattle.family_laws.specs.LawsOfJournal.{AppendsOwn}
use Rattle.family_laws.specs.Sound.{IsSoundFamily}
use Rattle.family_laws.specs.OwnDecisions.{AppendsBetween, FindsOwn, HasDecision, IsUnclosed, KeepsDecisions, NodesKeepDecisions, StandsAt}
use Rattle.family_laws.specs.SoundNode.{AreBefore, AreInOrder, IsDecisionOf, NodesStaySound}
use Rattle.family_laws.specs.LawsBelow.{Laws}
use Rattle.family_laws.proofs.Appended.{appended_own}
use Rattle.family_laws.proofs.Answered.{Answers, step_answers, Comes}
use Rattle.family_laws.proofs.Answered.Comes.{before as stood_before, appended, again}
use Rattle.family_laws.proofs.Dues.{IsFrom, of_map, kept_by}
use Rattle.family_laws.proofs.Ending.{all_at}
use Rattle.family_laws.proofs.Finished.{was_open, done_open}
use Rattle.family_laws.proofs.Held.{heard_from, held_records_stood, over_from, found_there}
use Rattle.family_laws.proofs.Journal.{families_append_own}
use Rattle.family_laws.proofs.Nodes.{called_family, none_in}
use Rattle.family_laws.proofs.Slots.{family_other, family_same, family_ticked, own_kept, same_slot}
use Rattle.family_laws.proofs.Standing.{IsNew, at_index, before_more, journaled_new}
use Rattle.family_laws.proofs.StepsTell.{families_number_words}
use Rattle.family_laws.proofs.TakenOver.{IsTaken, IsTakenFrom, one_taken, some_taken, taken_finished, left_at, held_at}
use Rattle.family_laws.proofs.Trees.{same_or_not}

-- ---- what stands

-- two that stand at one place are the same
once : (xs : List Standing) (i j : ℕ) (s t : Standing) → AreInOrder xs → i < length xs → get_or xs i s ≡ s → j < length xs → get_or xs j t ≡ t → s.place ≡ t.place → s ≡ t
once [] i j s t h l e m g p = absurd (omega (arith, l))
once (x ∷ xs) zero zero s t h l e m g p = sym e ∙ g
once (x ∷ xs) zero (suc j) s t h l e m g p =
    let b = at_index xs j t (λ (y : Standing). x.place < y.place) h.0 (omega (arith, m)) g in
    let is = ap (λ (y : Standing). y.place) e in
    absurd (omega (arith, b, p, is))
once (x ∷ xs) (suc i) zero s t h l e m g p =
    let b = at_index xs i s (λ (y : Standing). x.place < y.place) h.0 (omega (arith, l)) e in
    let is = ap (λ (y : Standing). y.place) g in
    absurd (omega (arith, b, p, is))
once (x ∷ xs) (suc i) (suc j) s t h l e m g p = once xs i j s t h.1 (omega (arith, l)) e (omega (arith, m)) g p

still_in : (xs : List Standing) (i j : ℕ) (s : Standing) → j < length xs → get_or xs j s ≡ s → j ≢ i → Contains (remove xs i) s
still_in [] i j s less is other = absurd (omega (arith, less))
still_in (y ∷ xs) zero zero s less is other = absurd (other refl)
still_in (y ∷ xs) zero (suc j) s less is other = (j, omega (arith, less), is)
still_in (y ∷ xs) (suc i) zero s less is other = (0, omega arith, is)
still_in (y ∷ xs) (suc i) (suc j) s less is other =
    let at = still_in xs i j s (omega (arith, less)) is (λ e. other (ap (λ (k : ℕ). suc k) e)) in
    let l = at.1 in
    (suc at.0, omega (arith, l), at.2)

-- a Done leaves what stands at another place
stands_still : (named : ℕ) (xs : List Standing) (s : Standing) → Contains xs s → s.place ≢ named → Contains (taken_away (position (is_decision_at named) xs) xs) s
stands_still named xs s c other = by (position (is_decision_at named) xs) refl
  where
    place_of : (t : Standing) → is_decision_at named t ≡ true → t.place ≡ named
    place_of t e = let l : (t.place == named) ≡ true = first (t.place == named) (is_decision t.item) e in grind (arith, l)
      where
        first : (a b : Bool) → (a && b) ≡ true → a ≡ true
        first true b h = refl
        first false b h = absurd (cc h)

    by : (o : Option ℕ) → position (is_decision_at named) xs ≡ o → Contains (taken_away o xs) s
    by None e = c
    by (Some i) e =
        let at = position-Some (is_decision_at named) xs i s e in
        still_in xs i c.0 s c.1 c.2 (λ same. other (ap (λ (t : Standing). t.place) (sym c.2 ∙ ap (λ (k : ℕ). get_or xs k s) same) ∙ place_of (get_or xs i s) at.1))

-- so does a decision that is appended
pushed_still : (found : Found) (place : ℕ) (g : Family) (s : Standing) → Contains found.standing s → Contains (with_record found place (decision_record g)).standing s
unfolding decision_record
pushed_still found place g s c = Contains-append_left found.standing _ s c

pushed_there : (found : Found) (place : ℕ) (g : Family) → Contains (with_record found place (decision_record g)).standing (record { place = place; item = decision_record g })
unfolding decision_record
pushed_there found place g = Contains-append_right found.standing (record { place = place; item = decision_record g } ∷ []) _ (zero, omega arith, refl)

-- what is appended is a decision, and what is named done is another one
still_stands : (w : Option Wanted) (stood : Option Stood) (found : Found) (s : Standing) → ((item : JournalRecord) → w ≡ Some (Appends item) → (g : Family) × (item ≡ decision_record g))
    → ((named at : ℕ) → w ≡ Some (WritesDone named) → stood ≡ Some (answers.Stands at) → s.place ≢ named) → Contains found.standing s → Contains (journaled w stood found).standing s
still_stands (Some (Appends item)) (Some (answers.Stands place)) found s own other c =
    let g = own item refl in subst (λ (r : JournalRecord). Contains (with_record found place r).standing s) (sym g.1) (pushed_still found place g.0 s c)
still_stands (Some (WritesDone named)) (Some (answers.Stands place)) found s own other c = stands_still named found.standing s c (other named place refl refl)
still_stands None stood found s own other c = c
still_stands (Some Rereads) stood found s own other c = c
still_stands (Some (Appends item)) None found s own other c = c
still_stands (Some (Appends item)) (Some (answers.Full used need)) found s own other c = c
still_stands (Some (Appends item)) (Some (answers.Unsure why)) found s own other c = c
still_stands (Some (WritesDone named)) None found s own other c = c
still_stands (Some (WritesDone named)) (Some (answers.Full used need)) found s own other c = c
still_stands (Some (WritesDone named)) (Some (answers.Unsure why)) found s own other c = c

all_of : (P : Standing → Type 0) (xs : List Standing) → ((s : Standing) → Contains xs s → P s) → AllByRecursion P xs
all_of P [] each = tt
all_of P (x ∷ xs) each = (each x (zero, omega arith, refl), all_of P xs (λ s c. each s (suc c.0, (let l = c.1 in omega (arith, l)), c.2)))

inner : {A : Type 0} {a b : A} → Some a ≡ Some b → a ≡ b
inner e = cc e

-- ---- a family goes on by an event

-- what a node's families are decided by then, and what it tells again
record HasOwners (edge : ℕ) (n : Node) : Type 0 where
  before : AreBefore edge n.found.standing
  decided : (slot place : ℕ) (f : Family) → family_in n.families slot ≡ Some f → stages.record_place f.completion ≡ Some place → place < edge
  own : (slot : ℕ) (f : Family) (s : Standing) → family_in n.families slot ≡ Some f → Contains n.found.standing s → stages.record_place f.completion ≡ Some s.place → IsDecisionOf f s.item
  held : (h : Held) → Contains n.recovered h → StandsAt n.found.standing h.place
  unclosed : (slot place : ℕ) (f : Family) → family_in n.families slot ≡ Some f → IsUnclosed f place → HasDecision n f place

module _ (law : Laws) (stays : TreeOutcomeStays) (f : Family) (e : Event) (stood : Option Stood) (n : Node) (slot : ℕ) (there : family_in n.families slot ≡ Some f)
    (edge more : ℕ) (grows : edge ≤ more) (appends : AppendsBetween edge more (wanted f e) stood)
    (finds : (place : ℕ) → wanted f e ≡ Some Rereads → stood ≡ Some (answers.Stands place) → HasDecision n f place) (h : KeepsDecisions edge n) where
  abbrev g : Family
  g = (family_step f e stood).family

  abbrev w : Option Wanted
  w = wanted f e

  abbrev later : Node
  later = with_family g (record n { found = journaled w stood n.found })

  sound : IsSoundFamily f
  sound = (h.sound.families slot f there).1

  key : g.key ≡ f.key
  key = families_number_words.key f e stood

  own_slot : g.key.slot ≡ slot
  own_slot = ap (λ (k : ObjectKey). k.slot) key ∙ (h.sound.families slot f there).0.own_slot

  so : Answers f w stood g
  so = step_answers stays f e stood sound.completion.there

  appends_own : (item : JournalRecord) → w ≡ Some (Appends item) → (x : Family) × (item ≡ decision_record x)
  appends_own item i = let a : AppendsOwn f e item = families_append_own law stays f e item i in ((hears a.number a.heard f).family, a.is_record)

  behind : (item : JournalRecord) (place : ℕ) → w ≡ Some (Appends item) → stood ≡ Some (answers.Stands place) → AreBefore place n.found.standing
  behind item place i j = before_more edge place (appends item place i j).0 n.found.standing h.before

  before_now : AreBefore more later.found.standing
  before_now = all_of (λ (s : Standing). s.place < more) later.found.standing (λ s c. go s (journaled_new w stood n.found s c))
    where
      go : (s : Standing) → Contains n.found.standing s ⊎ IsNew w stood s → s.place < more
      go s (inl c) = let b = all_at (λ (t : Standing). t.place < edge) n.found.standing s h.before c in omega (arith, b, grows)
      go s (inr new) =
          let b = (appends new.item new.place new.wanted new.stands).1 in
          let is = ap (λ (t : Standing). t.place) new.is in
          omega (arith, b, is)

  -- the Done that is asked for is that of the family's own decision
  done_at : (named : ℕ) → w ≡ Some (WritesDone named) → HasDecision n f named
  done_at named i = h.unclosed slot named f there (done_open f e named i)

  not_here : (other : ℕ) (x : Family) → other ≢ slot → family_in later.families other ≡ Some x → family_in n.families other ≡ Some x
  not_here other x apart i = sym (family_other n.families g.key.slot other (Some g) (λ j. apart (j ∙ own_slot))) ∙ i

  is_here : (other : ℕ) (x : Family) → other ≡ slot → family_in later.families other ≡ Some x → g ≡ x
  is_here other x same i = inner (family_same n.families g.key.slot (Some g) x (subst (λ (k : ℕ). family_in later.families k ≡ Some x) (same ∙ sym own_slot) i))

  held_now : (x : Held) → Contains later.recovered x → StandsAt later.found.standing x.place
  held_now x c =
      let old = h.held x c in
      record {
        stood = old.stood;
        there = still_stands w stood n.found old.stood appends_own (λ named at i j same. (done_at named i).untold x c (sym old.at ∙ same)) old.there;
        at = old.at;
      }

  own_step : (s : Standing) → Contains n.found.standing s → Comes (stages.record_place f.completion) w stood s.place → IsDecisionOf f s.item
  own_step s c (stood_before at) = h.own slot f s there c at
  own_step s c (appended item i j) =
      let b = all_at (λ (t : Standing). t.place < s.place) n.found.standing s (behind item s.place i j) c in absurd (omega (arith, b))
  own_step s c (again i j) =
      let d = finds s.place i j in
      subst (λ (t : Standing). IsDecisionOf f t.item) (once n.found.standing d.there.0 c.0 d.stood s h.sound.order d.there.1 d.there.2 c.1 c.2 d.at) d.own

  own_now : (other : ℕ) (x : Family) (s : Standing) → family_in later.families other ≡ Some x → Contains later.found.standing s → stages.record_place x.completion ≡ Some s.place → IsDecisionOf x s.item
  own_now other x s i c at = by (same_or_not other slot) (journaled_new w stood n.found s c)
    where
      by : (other ≡ slot) ⊎ (other ≢ slot) → Contains n.found.standing s ⊎ IsNew w stood s → IsDecisionOf x s.item
      by (inl same) (inl old) =
          let is = is_here other x same i in
          subst (λ (y : Family). IsDecisionOf y s.item) is
          (own_kept f g key s.item (own_step s old (so.place s.place (ap (λ (y : Family). stages.record_place y.completion) is ∙ at))))
      by (inl same) (inr new) = subst (λ (y : Family). IsDecisionOf y s.item) (is_here other x same i) (appended_own law stays f e stood s new).0
      by (inr apart) (inl old) = h.own other x s (not_here other x apart i) old at
      by (inr apart) (inr new) =
          let b = h.decided other new.place x (not_here other x apart i) (at ∙ ap (λ (t : Standing). Some t.place) new.is) in
          let a = (appends new.item new.place new.wanted new.stands).0 in
          absurd (omega (arith, a, b))

  decided_now : (other place : ℕ) (x : Family) → family_in later.families other ≡ Some x → stages.record_place x.completion ≡ Some place → place < more
  decided_now other place x i at = by (same_or_not other slot)
    where
      here : Comes (stages.record_place f.completion) w stood place → place < more
      here (stood_before was) = let b = h.decided slot place f there was in omega (arith, b, grows)
      here (appended item i j) = (appends item place i j).1
      here (again i j) =
          let d = finds place i j in
          let b = all_at (λ (t : Standing). t.place < edge) n.found.standing d.stood h.before d.there in
          let is = d.at in
          omega (arith, b, is, grows)

      by : (other ≡ slot) ⊎ (other ≢ slot) → place < more
      by (inl same) = here (so.place place (ap (λ (y : Family). stages.record_place y.completion) (is_here other x same i) ∙ at))
      by (inr apart) = let b = h.decided other place x (not_here other x apart i) at in omega (arith, b, grows)

  -- the Done of another family isn't at its place
  apart_still : (other place : ℕ) (x : Family) → other ≢ slot → family_in n.families other ≡ Some x → stages.record_place x.completion ≡ Some place → (d : HasDecision n x place)
      → (named at : ℕ) → w ≡ Some (WritesDone named) → stood ≡ Some (answers.Stands at) → d.stood.place ≢ named
  apart_still other place x apart there_x at d named k i j same =
      let own = done_at named i in
      let of_x : IsDecisionOf x own.stood.item = h.own other x own.stood there_x own.there (at ∙ ap (λ (p : ℕ). Some p) (sym d.at ∙ same ∙ sym own.at)) in
      apart (sym (h.sound.families other x there_x).0.own_slot ∙ sym (same_slot f x own.stood.item own.own of_x) ∙ (h.sound.families slot f there).0.own_slot)

  unclosed_here : (place : ℕ) → IsUnclosed g place → Comes (stages.record_place f.completion) w stood place → HasDecision later g place
  unclosed_here place u (stood_before at) =
      let old = h.unclosed slot place f there (record { decided = at; unasked = so.unasked u.unasked; going = was_open f e stood place sound at u.going }) in
      record {
        stood = old.stood;
        there = still_stands w stood n.found old.stood appends_own (λ named k i j same. no_answer (sym u.unasked ∙ so.done named (answers.Stands k) i j)) old.there;
        at = old.at;
        own = own_kept f g key old.stood.item old.own;
        untold = old.untold;
      }
    where
      no_answer : {x : Stood} → None ≡ Some x → ⊥
      no_answer i = cc i
  unclosed_here place u (appended item i j) =
      let t : Standing = record { place = place; item = item } in
      record {
        stood = t;
        there = placed item i j;
        at = refl;
        own = (appended_own law stays f e stood t (record { place = place; item = item; wanted = i; stands = j; is = refl })).0;
        untold = λ x c same.
            let old = h.held x c in
            let b = all_at (λ (y : Standing). y.place < place) n.found.standing old.stood (behind item place i j) old.there in
            let at = old.at in
            omega (arith, b, at, same);
      }
    where
      placed : (item : JournalRecord) → w ≡ Some (Appends item) → stood ≡ Some (answers.Stands place) → Contains later.found.standing (record { place = place; item = item })
      placed item i j =
          let own = appends_own item i in
          subst (λ (o : Option Wanted). Contains (journaled o stood n.found).standing (record { place = place; item = item })) (sym i)
          (subst (λ (o : Option Stood). Contains (journaled (Some (Appends item)) o n.found).standing (record { place = place; item = item })) (sym j)
          (subst (λ (r : JournalRecord). Contains (with_record n.found place r).standing (record { place = place; item = r })) (sym own.1) (pushed_there n.found place own.0)))
  unclosed_here place u (again i j) =
      let d = finds place i j in
      record {
        stood = d.stood;
        there = still_stands w stood n.found d.stood appends_own (λ named at k l. absurd (cc (sym i ∙ k))) d.there;
        at = d.at;
        own = own_kept f g key d.stood.item d.own;
        untold = d.untold;
      }

  unclosed_now : (other place : ℕ) (x : Family) → family_in later.families other ≡ Some x → IsUnclosed x place → HasDecision later x place
  unclosed_now other place x i u = by (same_or_not other slot)
    where
      by : (other ≡ slot) ⊎ (other ≢ slot) → HasDecision later x place
      by (inl same) =
          let is = is_here other x same i in
          let v : IsUnclosed g place = subst (λ (y : Family). IsUnclosed y place) (sym is) u in
          subst (λ (y : Family). HasDecision later y place) is (unclosed_here place v (so.place place v.decided))
      by (inr apart) =
          let there_x = not_here other x apart i in
          let old = h.unclosed other place x there_x u in
          record {
            stood = old.stood;
            there = still_stands w stood n.found old.stood appends_own (apart_still other place x apart there_x u.decided old) old.there;
            at = old.at;
            own = old.own;
            untold = old.untold;
          }

  stepped_owners : HasOwners more later
  stepped_owners = record { before = before_now; decided = decided_now; own = own_now; held = held_now; unclosed = unclosed_now }

-- ---- a record hears an answer

completed_there : (lives : ℕ) (number : CallNumber) (heard : Heard) (records : List Held) (place : ℕ) → completed lives number heard records ≡ Some place
    → (r : Held) × Contains records r × (r.place ≡ place)
completed_there lives number heard records place e = by_life (is_retold lives number) e
  where
    found : (rs : List Held) (r : Held) → find (completes number heard) rs ≡ Some r → Contains rs r
    found [] r i = absurd (cc i)
    found (x ∷ rs) r i = go (completes number heard x) i (found rs r)
      where
        go : (t : Bool) → cond t (Some x) (find (completes number heard) rs) ≡ Some r → (find (completes number heard) rs ≡ Some r → Contains rs r) → Contains (x ∷ rs) r
        go true j rest = (zero, omega arith, inner j)
        go false j rest = let c = rest j in (suc c.0, (let l = c.1 in omega (arith, l)), c.2)

    by_found : (o : Option Held) → find (completes number heard) records ≡ o → option_map (λ (r : Held). r.place) o ≡ Some place → (r : Held) × Contains records r × (r.place ≡ place)
    by_found None i j = absurd (cc j)
    by_found (Some r) i j = (r, found records r i, inner j)

    by_life : (t : Bool) → (if t then option_map (λ (r : Held). r.place) (find (completes number heard) records) else None) ≡ Some place → (r : Held) × Contains records r × (r.place ≡ place)
    by_life true i = by_found (find (completes number heard) records) refl i
    by_life false i = absurd (cc i)

-- what is left of records isn't at the place of the one that went
not_left : (place : ℕ) (xs : List Held) (y : Held) → Contains (without place xs) y → y.place ≢ place
not_left place [] y c = let l = c.1 in absurd (omega (arith, l))
not_left place (x ∷ xs) y c = go (not (x.place == place)) refl c (not_left place xs y)
  where
    other : (a b : ℕ) → not (a == b) ≡ true → a ≢ b
    other a b is = grind (arith, nat_tests)

    first : not (x.place == place) ≡ true → (i : ℕ) → i < suc (length (without place xs)) → get_or (x ∷ without place xs) i y ≡ y
        → (Contains (without place xs) y → y.place ≢ place) → y.place ≢ place
    first is zero l e rest = subst (λ (z : Held). z.place ≢ place) e (other x.place place is)
    first is (suc i) l e rest = rest (i, omega (arith, l), e)

    go : (t : Bool) → not (x.place == place) ≡ t → Contains (cond t (x ∷ without place xs) (without place xs)) y
        → (Contains (without place xs) y → y.place ≢ place) → y.place ≢ place
    go true is d rest = first is d.0 d.1 d.2 rest
    go false is d rest = rest d

module _ (number : CallNumber) (heard : Heard) (stood : Option Stood) (n : Node) (edge more : ℕ) (grows : edge ≤ more) (h : KeepsDecisions edge n) where
  abbrev complete : Option ℕ
  complete = completed (life n) number heard n.recovered

  abbrev records : List Held
  records = records_after (life n) number heard n.recovered

  abbrev after : Node
  after = (records_hear number heard stood n).node

  done_of : (o : Option ℕ) (named : ℕ) → option_map WritesDone o ≡ Some (WritesDone named) → o ≡ Some named
  done_of None named i = absurd (cc i)
  done_of (Some place) named i = cc i

  never_appends : (o : Option ℕ) (item : JournalRecord) → option_map WritesDone o ≡ Some (Appends item) → (g : Family) × (item ≡ decision_record g)
  never_appends None item i = absurd (cc i)
  never_appends (Some place) item i = absurd (cc i)

  stays_there : (s : Standing) → ((named at : ℕ) → complete ≡ Some named → stood ≡ Some (answers.Stands at) → s.place ≢ named) → Contains n.found.standing s → Contains after.found.standing s
  stays_there s other c = still_stands (option_map WritesDone complete) stood n.found s (never_appends complete) (λ named at i j. other named at (done_of complete named i) j) c

  was_there : (s : Standing) → Contains after.found.standing s → Contains n.found.standing s
  was_there s c = go (journaled_new (option_map WritesDone complete) stood n.found s c)
    where
      nothing : (o : Option ℕ) (item : JournalRecord) → option_map WritesDone o ≡ Some (Appends item) → ⊥
      nothing None item i = cc i
      nothing (Some place) item i = cc i

      go : Contains n.found.standing s ⊎ IsNew (option_map WritesDone complete) stood s → Contains n.found.standing s
      go (inl x) = x
      go (inr x) = absurd (nothing complete x.item x.wanted)

  was_held : (x : Held) → Contains after.recovered x → WasHeld n.recovered x
  was_held x c = heard_from (life n) number heard n.recovered x (kept_by complete stood records x c)

  left : (o : Option ℕ) (t : Option Stood) (x : Held) → Contains (records_with o t records) x → (named at : ℕ) → o ≡ Some named → t ≡ Some (answers.Stands at) → x.place ≢ named
  left (Some place) (Some (answers.Stands done)) x c named at i j = subst (λ (p : ℕ). x.place ≢ p) (inner i) (not_left place records x c)
  left (Some place) (Some (answers.Full used need)) x c named at i j = absurd (cc j)
  left (Some place) (Some (answers.Unsure why)) x c named at i j = absurd (cc j)
  left (Some place) None x c named at i j = absurd (cc j)
  left None t x c named at i j = absurd (cc i)

  heard_owners : HasOwners more after
  heard_owners = record {
    before = all_of (λ (s : Standing). s.place < more) after.found.standing
        (λ s c. let b = all_at (λ (t : Standing). t.place < edge) n.found.standing s h.before (was_there s c) in omega (arith, b, grows));
    decided = λ slot place f there at. let b = h.decided slot place f there at in omega (arith, b, grows);
    own = λ slot f s there c at. h.own slot f s there (was_there s c) at;
    held = λ x c.
        let was = was_held x c in
        let old = h.held was.before was.there in
        record {
          stood = old.stood;
          there = stays_there old.stood (λ named at i j same. left complete stood x c named at i j (sym was.same_place ∙ sym old.at ∙ same)) old.there;
          at = old.at ∙ was.same_place;
        };
    unclosed = λ slot place f there u.
        let old = h.unclosed slot place f there u in
        record {
          stood = old.stood;
          there = stays_there old.stood
              (λ named at i j same. let r = completed_there (life n) number heard n.recovered named i in old.untold r.0 r.1 (r.2 ∙ sym same ∙ old.at)) old.there;
          at = old.at;
          own = old.own;
          untold = λ x c same. let was = was_held x c in old.untold was.before was.there (was.same_place ∙ same);
        };
  }

-- ---- a record is taken over

-- a record that a finished family leaves is one at which it is decided
record IsLeft (found : Found) (f : Family) (place : ℕ) : Type 0 where
  stood : Standing
  there : Contains found.standing stood
  at : stood.place ≡ place
  decided : stages.record_place f.completion ≡ Some stood.place
  finished : is_finished f ≡ true

is_left : (found : Found) (f : Family) (x : Held) → IsTaken found f x → IsLeft found f x.place
is_left found f x t = record {
  stood = t.stood;
  there = by (is_finished f) (stages.record_place f.completion) t.left;
  at = sym (held_at t.stood.place t.stood.item (stages.pending_commits f.completion) (stages.pending_forgets f.completion) x t.held);
  decided = left_at found f t.stood t.left;
  finished = taken_finished found f t.stood t.left;
}
  where
    by : (b : Bool) (o : Option ℕ) → (if b then option_and_then (λ place. find (is_decision_at place) found.standing) o else None) ≡ Some t.stood → Contains found.standing t.stood
    by true (Some place) i = found_there (is_decision_at place) found.standing t.stood i
    by true None i = absurd (cc i)
    by false o i = absurd (cc i)

stands_of : (standing : List Standing) (x : Held) → IsOfStanding standing x → StandsAt standing x.place
stands_of standing x s = record { stood = s.stood; there = s.there; at = s.same_place }

-- ---- a family is made

made_owners : (make : ObjectKey → Family) → ((key : ObjectKey) → stages.record_place (make key).completion ≡ None) → (slot edge : ℕ) (n : Node) → KeepsDecisions edge n → HasOwners edge (with_new make slot n)
made_owners make undecided slot edge n h = record {
  before = h.before;
  decided = λ other place f i at. by_place other f place at i (same_or_not other slot);
  own = λ other f s i c at. by_own other f s c at i (same_or_not other slot);
  held = λ x c. by_held x (over_from n.found (family_in n.families slot) n.recovered x c);
  unclosed = λ other place f i u. by_open other place f i u (same_or_not other slot);
}
  where
    later : Node
    later = with_new make slot n

    no_place : (f : Family) (place : ℕ) → family_in later.families slot ≡ Some f → stages.record_place f.completion ≡ Some place → ⊥
    no_place f place i at =
        let is : make (next_key n slot) ≡ f = inner (family_same n.families slot (Some (make (next_key n slot))) f i) in
        none (sym (subst (λ (x : Family). stages.record_place x.completion ≡ None) is (undecided (next_key n slot))) ∙ at)
      where
        none : ◌≡◌ {A = Option ℕ} None (Some place) → ⊥
        none j = cc j

    before : (other : ℕ) (f : Family) → other ≢ slot → family_in later.families other ≡ Some f → family_in n.families other ≡ Some f
    before other f apart i = sym (family_other n.families slot other (Some (make (next_key n slot))) apart) ∙ i

    by_place : (other : ℕ) (f : Family) (place : ℕ) → stages.record_place f.completion ≡ Some place → family_in later.families other ≡ Some f → (other ≡ slot) ⊎ (other ≢ slot) → place < edge
    by_place other f place at i (inl same) = absurd (no_place f place (subst (λ (k : ℕ). family_in later.families k ≡ Some f) same i) at)
    by_place other f place at i (inr apart) = h.decided other place f (before other f apart i) at

    by_own : (other : ℕ) (f : Family) (s : Standing) → Contains n.found.standing s → stages.record_place f.completion ≡ Some s.place → family_in later.families other ≡ Some f
        → (other ≡ slot) ⊎ (other ≢ slot) → IsDecisionOf f s.item
    by_own other f s c at i (inl same) = absurd (no_place f s.place (subst (λ (k : ℕ). family_in later.families k ≡ Some f) same i) at)
    by_own other f s c at i (inr apart) = h.own other f s (before other f apart i) c at

    by_held : (x : Held) → Contains n.recovered x ⊎ IsOfStanding n.found.standing x → StandsAt n.found.standing x.place
    by_held x (inl c) = h.held x c
    by_held x (inr s) = stands_of n.found.standing x s

    -- the record that is taken over is another one
    untold : (other place : ℕ) (f : Family) → other ≢ slot → family_in n.families other ≡ Some f → stages.record_place f.completion ≡ Some place → HasDecision n f place
        → (o : Option Family) → family_in n.families slot ≡ o → (x : Held) → Contains (takes_over n.found o n.recovered) x → x.place ≢ place
    untold other place f apart there at old None i x c = old.untold x c
    untold other place f apart there at old (Some y) i x c = go (one_taken n.found y n.recovered x c)
      where
        go : Contains n.recovered x ⊎ IsTaken n.found y x → x.place ≢ place
        go (inl d) = old.untold x d
        go (inr t) = λ same.
            let l = is_left n.found y x t in
            let of_y : IsDecisionOf y l.stood.item = h.own slot y l.stood i l.there l.decided in
            let of_f : IsDecisionOf f l.stood.item = h.own other f l.stood there l.there (at ∙ ap (λ (p : ℕ). Some p) (sym (l.at ∙ same))) in
            apart (sym (h.sound.families other f there).0.own_slot ∙ same_slot f y l.stood.item of_f of_y ∙ (h.sound.families slot y i).0.own_slot)

    by_open : (other place : ℕ) (f : Family) → family_in later.families other ≡ Some f → IsUnclosed f place → (other ≡ slot) ⊎ (other ≢ slot) → HasDecision later f place
    by_open other place f i u (inl same) = absurd (no_place f place (subst (λ (k : ℕ). family_in later.families k ≡ Some f) same i) u.decided)
    by_open other place f i u (inr apart) =
        let there = before other f apart i in
        let old = h.unclosed other place f there u in
        record {
          stood = old.stood;
          there = old.there;
          at = old.at;
          own = old.own;
          untold = λ x c. untold other place f apart there u.decided old (family_in n.families slot) refl x c;
        }

-- ---- time passes

-- what a tick leaves of a family
record IsTicked (f g : Family) : Type 0 where
  key : g.key ≡ f.key
  decided : (p : ℕ) → stages.record_place g.completion ≡ Some p → stages.record_place f.completion ≡ Some p
  unclosed : (p : ℕ) → IsSoundFamily f → IsUnclosed g p → IsUnclosed f p

is_ticked : TreeOutcomeStays → (now : ℕ) (f : Family) → IsSoundFamily f → IsTicked f (tick_of now f).family
is_ticked stays now f sound = go (has_room f.entries (tick_at now))
  where
    nothing : {x : Stood} → None ≡ Some x → ⊥
    nothing i = cc i

    stepped : IsTicked f (family_step f (tick_at now) None).family
    stepped = record {
      key = families_number_words.key f (tick_at now) None;
      decided = λ p at. back p (so.place p at);
      unclosed = λ p s u.
          let at = back p (so.place p u.decided) in
          record { decided = at; unasked = so.unasked u.unasked; going = was_open f (tick_at now) None p s at u.going };
    }
      where
        so : Answers f (wanted f (tick_at now)) None (family_step f (tick_at now) None).family
        so = step_answers stays f (tick_at now) None sound.completion.there

        back : (p : ℕ) → Comes (stages.record_place f.completion) (wanted f (tick_at now)) None p → stages.record_place f.completion ≡ Some p
        back p (stood_before at) = at
        back p (appended item i j) = absurd (nothing j)
        back p (again i j) = absurd (nothing j)

    go : (t : Bool) → IsTicked f (if t then family_step f (tick_at now) None else quiet said.Plain f).family
    go true = stepped
    go false = record { key = refl; decided = λ p at. at; unclosed = λ p s u. u }

module _ (stays : TreeOutcomeStays) (edge now : ℕ) (n : Node) (h : KeepsDecisions edge n) where
  abbrev families : List (Option Family)
  families = map (ticked now) n.families

  abbrev then_node : Node
  then_node = tells_again (passes_time now n)

  record WasThere (slot : ℕ) (g : Family) : Type 0 where
    family : Family
    there : family_in n.families slot ≡ Some family
    kept : IsTicked family g
    sound : IsSoundFamily family

  was_in : (slot : ℕ) (g : Family) → family_in families slot ≡ Some g → WasThere slot g
  was_in slot g i = go (family_in n.families slot) refl (sym (family_ticked now n.families slot) ∙ i)
    where
      go : (o : Option Family) → family_in n.families slot ≡ o → ticked now o ≡ Some g → WasThere slot g
      go None j k = absurd (cc k)
      go (Some f) j k =
          let sound = (h.sound.families slot f j).1 in
          record { family = f; there = j; kept = subst (λ (y : Family). IsTicked f y) (inner k) (is_ticked stays now f sound); sound = sound }

  own_then : (slot : ℕ) (g : Family) (s : Standing) → family_in families slot ≡ Some g → Contains n.found.standing s → stages.record_place g.completion ≡ Some s.place → IsDecisionOf g s.item
  own_then slot g s i c at =
      let was = was_in slot g i in own_kept was.family g was.kept.key s.item (h.own slot was.family s was.there c (was.kept.decided s.place at))

  slot_of : (slot : ℕ) (g : Family) → family_in families slot ≡ Some g → g.key.slot ≡ slot
  slot_of slot g i = let was = was_in slot g i in ap (λ (k : ObjectKey). k.slot) was.kept.key ∙ (h.sound.families slot was.family was.there).0.own_slot

  same_retold : (r : Held) → (retold r).place ≡ r.place
  same_retold r = go (is_complete r)
    where
      go : (t : Bool) → (if t then record r { parties = map recalled r.parties } else r).place ≡ r.place
      go true = refl
      go false = refl

  taken_so : (x : Held) → Contains then_node.recovered x → (y : Held) × (y.place ≡ x.place) × (Contains n.recovered y ⊎ IsTakenFrom n.found families y)
  taken_so x c =
      let from : IsFrom retold (takes_all_over n.found families n.recovered) x = of_map retold (takes_all_over n.found families n.recovered) x c in
      (from.x, sym (same_retold from.x) ∙ ap (λ (y : Held). y.place) from.is, some_taken n.found families n.recovered from.x from.there)

  untold_then : (slot place : ℕ) (g : Family) → family_in families slot ≡ Some g → IsUnclosed g place → (f : Family) → HasDecision n f place → (y : Held)
      → Contains n.recovered y ⊎ IsTakenFrom n.found families y → y.place ≢ place
  untold_then slot place g i u f old y (inl c) = old.untold y c
  untold_then slot place g i u f old y (inr t) = λ same.
      let l = is_left n.found t.family y t.taken_over in
      let of_t : IsDecisionOf t.family l.stood.item = own_then t.slot t.family l.stood t.there l.there l.decided in
      let of_g : IsDecisionOf g l.stood.item = own_then slot g l.stood i l.there (u.decided ∙ ap (λ (p : ℕ). Some p) (sym (l.at ∙ same))) in
      let slots : t.slot ≡ slot = sym (slot_of t.slot t.family t.there) ∙ same_slot t.family g l.stood.item of_t of_g ∙ slot_of slot g i in
      let is : t.family ≡ g = inner (sym t.there ∙ ap (λ (k : ℕ). family_in families k) slots ∙ i) in
      absurd (cc (sym l.finished ∙ ap (λ (x : Family). is_finished x) is ∙ u.going))

  ticked_owners : HasOwners edge then_node
  ticked_owners = record {
    before = h.before;
    decided = λ slot place g i at. let was = was_in slot g i in h.decided slot place was.family was.there (was.kept.decided place at);
    own = own_then;
    held = λ x c. let from = taken_so x c in let s = stands from.0 from.2 in record { stood = s.stood; there = s.there; at = s.at ∙ from.1 };
    unclosed = λ slot place g i u.
        let was = was_in slot g i in
        let old = h.unclosed slot place was.family was.there (was.kept.unclosed place was.sound u) in
        record {
          stood = old.stood;
          there = old.there;
          at = old.at;
          own = own_kept was.family g was.kept.key old.stood.item old.own;
          untold = λ x c same. let from = taken_so x c in untold_then slot place g i u was.family old from.0 from.2 (from.1 ∙ same);
        };
  }
    where
      stands : (y : Held) → Contains n.recovered y ⊎ IsTakenFrom n.found families y → StandsAt n.found.standing y.place
      stands y (inl c) = h.held y c
      stands y (inr t) = let l = is_left n.found t.family y t.taken_over in record { stood = l.stood; there = l.there; at = l.at }

-- ---- the node

loaded_keeps : NodesStaySound → (edge service : ℕ) (records : List JournalRecord) → AreBefore edge (load service records).found.standing → KeepsDecisions edge (load service records)
loaded_keeps nodes edge service records before = record {
  sound = nodes.loaded service records;
  before = before;
  decided = λ slot place f there at. absurd (none_in slot_limit slot f there);
  own = λ slot f s there c at. absurd (none_in slot_limit slot f there);
  held = λ x c. stands_of (load service records).found.standing x (held_records_stood.loaded service records x c);
  unclosed = λ slot place f there u. absurd (none_in slot_limit slot f there);
}

same_owners : (edge more : ℕ) (n : Node) → edge ≤ more → KeepsDecisions edge n → HasOwners more n
same_owners edge more n grows h = record {
  before = before_more edge more grows n.found.standing h.before;
  decided = λ slot place f there at. let b = h.decided slot place f there at in omega (arith, b, grows);
  own = h.own;
  held = h.held;
  unclosed = h.unclosed;
}

creates_owners : (edge now seconds : ℕ) (n : Node) → KeepsDecisions edge n → HasOwners edge (creates now seconds n).node
unfolding creates makes
creates_owners edge now seconds n h = by_slot (free_slot n)
  where
    make : ObjectKey → Family
    make key = new_family key (deadline_after now seconds)

    same : HasOwners edge n
    same = same_owners edge edge n (omega arith) h

    by_number : (slot : ℕ) (t : Bool) → HasOwners edge (if t then record { node = with_new make slot n; answer = Ok (next_key n slot) } else makes_no_family n).node
    by_number slot true = made_owners make (λ key. refl) slot edge n h
    by_number slot false = same

    by_slot : (o : Option ℕ) → HasOwners edge (makes_in o make n).node
    by_slot None = same
    by_slot (Some slot) = by_number slot (nat_lt n.generation generation_limit)

made_keeps : NodesStaySound → (edge now seconds : ℕ) (n : Node) → KeepsDecisions edge n → KeepsDecisions edge (creates now seconds n).node
made_keeps nodes edge now seconds n h =
    let x = creates_owners edge now seconds n h in
    record { sound = nodes.made now seconds n h.sound; before = x.before; decided = x.decided; own = x.own; held = x.held; unclosed = x.unclosed }

ticks_owners : TreeOutcomeStays → (edge now : ℕ) (n : Node) → KeepsDecisions edge n → HasOwners edge (ticks now n).node
unfolding ticks
ticks_owners stays edge now n h = ticked_owners stays edge now n h

ticked_keeps : TreeOutcomeStays → NodesStaySound → (edge now : ℕ) (n : Node) → KeepsDecisions edge n → KeepsDecisions edge (ticks now n).node
ticked_keeps stays nodes edge now n h =
    let x = ticks_owners stays edge now n h in
    record { sound = nodes.ticked now n h.sound; before = x.before; decided = x.decided; own = x.own; held = x.held; unclosed = x.unclosed }

module _ (edge more : ℕ) (grows : edge ≤ more) (n : Node) (h : KeepsDecisions edge n) where
  same : HasOwners more n
  same = same_owners edge more n grows h

  records_owners : (o : Option RetoldAnswer) (k : ObjectKey) (e : Event) (stood : Option Stood) → HasOwners more (by_records o k e stood n).node
  unfolding hears_record
  records_owners (Some a) k e stood = go (is_held a.number.generation n.recovered)
    where
      go : (t : Bool) → HasOwners more (if t then records_hear a.number a.heard stood n else refuses faults.ObjectNotExist n).node
      go true = heard_owners a.number a.heard stood n edge more grows h
      go false = same
  records_owners None k e stood = go (option_and_then (record_says k e.key e.act) (record_of k n))
    where
      go : (o : Option Said) → HasOwners more (replies o n).node
      go (Some answer) = same
      go None = same

  module _ (law : Laws) (stays : TreeOutcomeStays) (k : ObjectKey) (e : Event) (stood : Option Stood) where
    applied_owners : (o : Option Family) → family_for k e n ≡ o → AppendsBetween edge more (wanted_by o e n) stood → FindsOwn o (wanted_by o e n) stood n
        → HasOwners more (applied_by o k e stood n).node
    unfolding answers_recovered
    applied_owners (Some f) is appends finds = go (has_room f.entries e) appends (λ place i j. finds f place refl i j)
      where
        go : (t : Bool) → AppendsBetween edge more (if t then wanted f e else None) stood
            → ((place : ℕ) → (if t then wanted f e else None) ≡ Some Rereads → stood ≡ Some (answers.Stands place) → HasDecision n f place)
            → HasOwners more (if t then steps_to n f e stood (family_step f e stood) else refuses faults.NoResources n).node
        go true a x = stepped_owners law stays f e stood n k.slot (called_family k e n f is) edge more grows a x h
        go false a x = same
    applied_owners None is appends finds = records_owners (retold_answer e.act) k e stood

    called_owners : AppendsBetween edge more (call_wants k e n) stood → FindsOwn (family_for k e n) (call_wants k e n) stood n → HasOwners more (applies k e stood n).node
    unfolding applies call_wants
    called_owners appends finds = applied_owners (family_for k e n) refl appends finds

    called_keeps : NodesStaySound → AppendsBetween edge more (call_wants k e n) stood → FindsOwn (family_for k e n) (call_wants k e n) stood n
        → KeepsDecisions more (applies k e stood n).node
    called_keeps nodes appends finds =
        let x = called_owners appends finds in
        record {
          sound = nodes.called k e stood n (λ item place i j. before_more edge place (appends item place i j).0 n.found.standing h.before) h.sound;
          before = x.before;
          decided = x.decided;
          own = x.own;
          held = x.held;
          unclosed = x.unclosed;
        }

pub nodes_keep_decisions : Laws → TreeOutcomeStays → NodesStaySound → NodesKeepDecisions
nodes_keep_decisions law stays nodes = record {
  loaded = loaded_keeps nodes;
  made = made_keeps nodes;
  called = λ edge later k e stood n grows appends finds h. called_keeps edge later grows n h law stays k e stood nodes appends finds;
  ticked = ticked_keeps stays nodes;
  closes = λ edge slot place f e n h there asks. h.unclosed slot place f there (done_open f e place asks);
}
