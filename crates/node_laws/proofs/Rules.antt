-- A node keeps its rules: as it is loaded, as a family is made, as a call comes, and as time passes.
use Rattle.std.proofs.Common.{◌≡◌, ◌≢◌, ◌⊎◌, inl, inr, ℕ, ◌+◌, ◌<◌, ◌≤◌, List, [], ◌∷◌, ◌++◌, length, Bool, true, false, if◌then◌else◌, Option, Some, None, Ok, Contains, refl, ap, sym, subst, ◌∙◌, arith}
use Rattle.std.specs.Prelude.{nat_lt, slice_set}
use Rattle.std.specs.Option.{option_map}
use Rattle.ior_refs.specs.declared.key.ObjectKey.{ObjectKey}
use Rattle.ots_model.specs.declared.completion.CallNumber.{CallNumber}
use Rattle.ots_model.specs.declared.completion.Ground.TheVariants.{Record}
use Rattle.ots_model.specs.declared.completion.Stood.{Stood}
use Rattle.ots_model.specs.declared.tree.Heard.{Heard}
use Rattle.ots_model.specs.declared.completion.Outcome.TheVariants.{Commit}
use Rattle.ots_model.specs.declared.tree.Outward.{Outward}
use Rattle.two_phase.specs.Stages as stages
use Rattle.decision_journal.specs.Journal.{Found, found_in, nothing_found, first_gate, with_record, with_records}
use Rattle.decision_journal.specs.Layout.{record_octets}
use Rattle.decision_journal.specs.declared.journal.Standing.{Standing}
use Rattle.decision_journal.specs.declared.record.JournalRecord.{JournalRecord}
use Rattle.decision_journal.specs.declared.record.JournalRecord.TheVariants.{Life, Decision, Done, Prepared, CellsPrepared, CellsOutcome, CellsOnePhase}
use Rattle.recovery_coord.specs.Hearing.{completed}
use Rattle.recovery_coord.specs.declared.held.Held.{Held}
use Rattle.coordinator.specs.declared.event.Event.{Event}
use Rattle.coordinator.specs.Family.{Family, new_family}
use Rattle.coordinator.specs.Limits.{generation_limit, slot_limit}
use Rattle.coordinator.specs.Node.{Node, family_in, in_next_life, life, load}
use Rattle.coordinator.specs.NodeCalls.{applies, call_wants, done_wanted, family_for, records_hear, steps_to}
use Rattle.coordinator.specs.NodeLaws.{NodesKeepNumbers, by_call, still, further}
use Rattle.coordinator.specs.NodeParts.{IsInSlot}
use Rattle.coordinator.specs.NodeSlots.{creates, deadline_after, free_slot, makes, makes_in, makes_no_family, next_key, with_new}
use Rattle.coordinator.specs.NodeTick.{passes_time, takes_all_over, tells_again, tick_of, ticked, ticks}
use Rattle.coordinator.specs.Step.{Appends, Wanted, WritesDone, family_step, wanted}
use Rattle.family_laws.specs.LawsOfJournal.{AppendsOwn}
use Rattle.family_laws.specs.LawsOfTelling.{FamiliesNumberWords}
use Rattle.family_laws.specs.OwnDecisions.{AppendsBetween, FindsOwn, KeepsDecisions, NodesKeepDecisions}
use Rattle.family_laws.specs.Sound.{IsSoundFamily}
use Rattle.family_laws.specs.SoundNode.{AreBefore, IsDecisionOf}
use Rattle.node_laws.specs.Rules.{AreOfPast, GoesOn, IsOfGiven, IsOfPast, IsOfRecord, KeepsRules, HasToldAll, NamesVotersOf, NodesKeepRules}
use Rattle.node_laws.specs.Rules.GoesOn.{still as still_there, made, called, ticked as passes, loaded as begins}
use Rattle.node_laws.proofs.Families.{Facts, Goes, newly_named, step_goes, step_told, still_named, tick_goes, tick_told}
use Rattle.node_laws.proofs.Held.{all_over_of, all_retold_of, heard_of, loaded_of, over_of, stands_as}
use Rattle.node_laws.proofs.Lists.{all_at, inner, same_or_not}
use Rattle.node_laws.proofs.Slots.{are_alike, family_other, family_put, family_same, family_within, family_ticked, none_in, own_kept}
use Rattle.node_laws.proofs.Stands.{Called, IsNew, called_is, journaled_new, once}
use Rattle.node_laws.proofs.Stands.Called.{by_answer, by_nothing, by_step}

-- ---- of which life and number a decision is

-- what stands behind a load, and its life
pub loaded_found : (found : Found) (place : ℕ) (rs : List JournalRecord) (l : ℕ)
    → with_records found place (rs ++ Life l ∷ []) ≡ record { life = l; standing = (with_records found place rs).standing }
loaded_found found place [] l = refl
loaded_found found place (r ∷ rs) l = loaded_found (with_record found place r) (place + length (record_octets r)) rs l

pub loaded_so : (records : List JournalRecord) → found_in (in_next_life records) ≡ record { life = (found_in records).life + 1; standing = (found_in records).standing }
loaded_so records = loaded_found nothing_found first_gate records ((found_in records).life + 1)

past_given : (n : Node) (lives : ℕ) (r : JournalRecord) → lives < life n → IsOfPast lives r → IsOfGiven n r
past_given n lives (Decision l slot generation by asked named) less h = inl (omega (arith, less, h))
past_given n lives (Life l) less h = tt
past_given n lives (Done named) less h = tt
past_given n lives (Prepared l slot generation recovery named) less h = tt
past_given n lives (CellsPrepared l number recovery puts) less h = tt
past_given n lives (CellsOutcome named end) less h = tt
past_given n lives (CellsOnePhase l number puts) less h = tt

given_past : (n : Node) (r : JournalRecord) → IsOfGiven n r → IsOfPast (life n) r
given_past n (Decision l slot generation by asked named) (inl h) = omega (arith, h)
given_past n (Decision l slot generation by asked named) (inr (h, k)) = omega (arith, h)
given_past n (Life l) h = tt
given_past n (Done named) h = tt
given_past n (Prepared l slot generation recovery named) h = tt
given_past n (CellsPrepared l number recovery puts) h = tt
given_past n (CellsOutcome named end) h = tt
given_past n (CellsOnePhase l number puts) h = tt

given_on : (n later : Node) (r : JournalRecord) → life later ≡ life n → n.generation ≤ later.generation → IsOfGiven n r → IsOfGiven later r
given_on n later (Decision l slot generation by asked named) same more (inl h) = inl (omega (arith, same, h))
given_on n later (Decision l slot generation by asked named) same more (inr (h, k)) = inr (h ∙ sym same, omega (arith, k, more))
given_on n later (Life l) same more h = tt
given_on n later (Done named) same more h = tt
given_on n later (Prepared l slot generation recovery named) same more h = tt
given_on n later (CellsPrepared l number recovery puts) same more h = tt
given_on n later (CellsOutcome named end) same more h = tt
given_on n later (CellsOnePhase l number puts) same more h = tt

-- the decision of a family in its slot
own_given : (n : Node) (slot : ℕ) (f : Family) (r : JournalRecord) → IsInSlot n slot f → IsDecisionOf f r → IsOfGiven n r
own_given n slot f (Decision l s generation by asked named) i own =
    let is = own.2 in let most = i.given in inr (sym own.0 ∙ i.of_life, omega (arith, is, most))
own_given n slot f (Life l) i own = tt
own_given n slot f (Done named) i own = tt
own_given n slot f (Prepared l s generation recovery named) i own = tt
own_given n slot f (CellsPrepared l number recovery puts) i own = tt
own_given n slot f (CellsOutcome named end) i own = tt
own_given n slot f (CellsOnePhase l number puts) i own = tt

-- that of a family which is made now doesn't stand yet
not_given : (n : Node) (f : Family) (r : JournalRecord) → f.key.life ≡ life n → f.key.generation ≡ n.generation + 1 → IsOfGiven n r → IsDecisionOf f r → ⊥
not_given n f (Decision l s generation by asked named) lives number (inl h) own = let a = own.0 in omega (arith, lives, h, a)
not_given n f (Decision l s generation by asked named) lives number (inr (h, k)) own = let a = own.2 in omega (arith, number, k, a)
not_given n f (Life l) lives number h own = own
not_given n f (Done named) lives number h own = own
not_given n f (Prepared l s generation recovery named) lives number h own = own
not_given n f (CellsPrepared l number recovery puts) lives number_is h own = own
not_given n f (CellsOutcome named end) lives number h own = own
not_given n f (CellsOnePhase l number puts) lives number_is h own = own

none : {p : ℕ} → ◌≡◌ {A = Option ℕ} None (Some p) → ⊥
none e = cc e

-- ---- a load

loaded_rules : NodesKeepDecisions → (edge service : ℕ) (records : List JournalRecord) → AreBefore edge (load service records).found.standing → AreOfPast records
    → KeepsRules edge (load service records)
loaded_rules nodes edge service records before past = record {
  decisions = nodes.loaded edge service records before;
  given = λ s c. past_given (load service records) (found_in records).life s.item
      (let l = ap (λ (x : Found). x.life) is in omega (arith, l))
      (past s (subst (λ (x : Found). Contains x.standing s) is c));
  committed = λ slot f s there. absurd (none_in slot_limit slot f there);
  named = λ slot f s there. absurd (none_in slot_limit slot f there);
  through = λ slot f there. absurd (none_in slot_limit slot f there);
  held = λ h c. loaded_of (load service records).found.standing (load service records).found.standing h (λ s d. d) c;
}
  where
    is : found_in (in_next_life records) ≡ record { life = (found_in records).life + 1; standing = (found_in records).standing }
    is = loaded_found nothing_found first_gate records ((found_in records).life + 1)

-- ---- a family is made

-- the rules beside the decisions
record HasRules (n : Node) : Type 0 where
  given : (s : Standing) → Contains n.found.standing s → IsOfGiven n s.item
  committed : (slot : ℕ) (f : Family) (s : Standing) → family_in n.families slot ≡ Some f → Contains n.found.standing s
      → IsDecisionOf f s.item → stages.outcome f.completion ≡ Some (Commit Record)
  named : (slot : ℕ) (f : Family) (s : Standing) → family_in n.families slot ≡ Some f → Contains n.found.standing s
      → stages.record_place f.completion ≡ Some s.place → NamesVotersOf s.item f.completion
  through : (slot : ℕ) (f : Family) → family_in n.families slot ≡ Some f → f.closed ≢ None → HasToldAll f.completion
  held : (h : Held) → Contains n.recovered h → IsOfRecord n.found.standing h

with_rules : (edge : ℕ) (n : Node) → KeepsDecisions edge n → HasRules n → KeepsRules edge n
with_rules edge n d h = record { decisions = d; given = h.given; committed = h.committed; named = h.named; through = h.through; held = h.held }

rules_of : (edge : ℕ) (n : Node) → KeepsRules edge n → HasRules n
rules_of edge n h = record { given = h.given; committed = h.committed; named = h.named; through = h.through; held = h.held }

module _ (edge slot : ℕ) (n : Node) (deadline : Option ℕ) (h : KeepsRules edge n) where
  abbrev make : ObjectKey → Family
  make key = new_family key deadline

  abbrev fresh : Family
  fresh = make (next_key n slot)

  before_it : (other : ℕ) (f : Family) → other ≢ slot → family_in (with_new make slot n).families other ≡ Some f → family_in n.families other ≡ Some f
  before_it other f apart i = sym (family_other n.families slot other (Some fresh) apart) ∙ i

  it : (other : ℕ) (f : Family) → other ≡ slot → family_in (with_new make slot n).families other ≡ Some f → fresh ≡ f
  it other f same i = inner (family_same n.families slot (Some fresh) f (subst (λ (k : ℕ). family_in (with_new make slot n).families k ≡ Some f) same i))

  new_rules : HasRules (with_new make slot n)
  new_rules = record {
    given = λ s c. given_on n (with_new make slot n) s.item refl (omega arith) (h.given s c);
    committed = λ other f s i c own. commits other f s c own i (same_or_not other slot);
    named = λ other f s i c at. names other f s c at i (same_or_not other slot);
    through = λ other f i asked. passes other f asked i (same_or_not other slot);
    held = λ x c. elim (over_of n.found (family_in n.families slot) n.recovered x (λ f i s. h.decisions.own slot f s i) c) [
      | inl d ↦ h.held x d
      | inr r ↦ r
    ];
  }
    where
      commits : (other : ℕ) (f : Family) (s : Standing) → Contains n.found.standing s → IsDecisionOf f s.item → family_in (with_new make slot n).families other ≡ Some f
          → (other ≡ slot) ⊎ (other ≢ slot) → stages.outcome f.completion ≡ Some (Commit Record)
      commits other f s c own i (inl same) =
          absurd (not_given n fresh s.item refl refl (h.given s c) (subst (λ (x : Family). IsDecisionOf x s.item) (sym (it other f same i)) own))
      commits other f s c own i (inr apart) = h.committed other f s (before_it other f apart i) c own

      names : (other : ℕ) (f : Family) (s : Standing) → Contains n.found.standing s → stages.record_place f.completion ≡ Some s.place
          → family_in (with_new make slot n).families other ≡ Some f → (other ≡ slot) ⊎ (other ≢ slot) → NamesVotersOf s.item f.completion
      names other f s c at i (inl same) = absurd (none (subst (λ (x : Family). stages.record_place x.completion ≡ Some s.place) (sym (it other f same i)) at))
      names other f s c at i (inr apart) = h.named other f s (before_it other f apart i) c at

      passes : (other : ℕ) (f : Family) → f.closed ≢ None → family_in (with_new make slot n).families other ≡ Some f → (other ≡ slot) ⊎ (other ≢ slot) → HasToldAll f.completion
      passes other f asked i (inl same) = absurd (asked (ap (λ (x : Family). x.closed) (sym (it other f same i))))
      passes other f asked i (inr apart) = h.through other f (before_it other f apart i) asked

creates_rules : (edge now seconds : ℕ) (n : Node) → KeepsRules edge n → HasRules (creates now seconds n).node
unfolding creates makes
creates_rules edge now seconds n h = by_slot (free_slot n)
  where
    make_so : ObjectKey → Family
    make_so key = new_family key (deadline_after now seconds)

    by_number : (slot : ℕ) (t : Bool) → HasRules (if t then record { node = with_new make_so slot n; answer = Ok (next_key n slot) } else makes_no_family n).node
    by_number slot true = new_rules edge slot n (deadline_after now seconds) h
    by_number slot false = rules_of edge n h

    by_slot : (o : Option ℕ) → HasRules (makes_in o make_so n).node
    by_slot None = rules_of edge n h
    by_slot (Some slot) = by_number slot (nat_lt n.generation generation_limit)

made_rules : NodesKeepDecisions → (edge now seconds : ℕ) (n : Node) → KeepsRules edge n → KeepsRules edge (creates now seconds n).node
made_rules nodes edge now seconds n h = with_rules edge (creates now seconds n).node (nodes.made edge now seconds n h.decisions) (creates_rules edge now seconds n h)

-- ---- time passes

module _ (law : Facts) (edge now : ℕ) (n : Node) (h : KeepsRules edge n) (d : KeepsDecisions edge (tells_again (passes_time now n))) where
  abbrev then_node : Node
  then_node = tells_again (passes_time now n)

  record WasThere (slot : ℕ) (g : Family) : Type 0 where
    family : Family
    there : family_in n.families slot ≡ Some family
    is : (tick_of now family).family ≡ g
    sound : IsSoundFamily family

  was_in : (slot : ℕ) (g : Family) → family_in then_node.families slot ≡ Some g → WasThere slot g
  was_in slot g i = go (family_in n.families slot) refl (sym (family_ticked now n.families slot) ∙ i)
    where
      go : (o : Option Family) → family_in n.families slot ≡ o → ticked now o ≡ Some g → WasThere slot g
      go None j k = absurd (cc k)
      go (Some f) j k = record { family = f; there = j; is = inner k; sound = (h.decisions.sound.families slot f j).1 }

  goes_of : (slot : ℕ) (g : Family) (was : WasThere slot g) → Goes was.family g
  goes_of slot g was = subst (λ (x : Family). Goes was.family x) was.is (tick_goes law now was.family was.sound.completion.there)

  ticked_rules : HasRules then_node
  ticked_rules = record {
    given = λ s c. given_on n then_node s.item refl (omega arith) (h.given s c);
    committed = λ slot g s i c own.
        let was = was_in slot g i in
        let goes = goes_of slot g was in
        goes.outcome (Commit Record) (h.committed slot was.family s was.there c (own_kept g was.family (sym goes.key) s.item own));
    named = λ slot g s i c at.
        let was = was_in slot g i in
        let goes = goes_of slot g was in
        let own = own_kept g was.family (sym goes.key) s.item (d.own slot g s i c at) in
        still_named law was.family g s goes was.sound.completion.there (h.committed slot was.family s was.there c own) (h.named slot was.family s was.there c) at;
    through = λ slot g i asked.
        let was = was_in slot g i in
        subst (λ (x : Family). HasToldAll x.completion) was.is
        (tick_told law now was.family was.sound (h.through slot was.family was.there) (λ e. asked (ap (λ (x : Family). x.closed) (sym was.is) ∙ e)));
    held = all_retold_of n.found.standing (takes_all_over n.found then_node.families n.recovered) (λ x c. elim (all_over_of n.found then_node.families n.recovered x d.own c) [
      | inl k ↦ h.held x k
      | inr r ↦ r
    ]);
  }

ticks_rules : NodesKeepDecisions → Facts → (edge now : ℕ) (n : Node) → KeepsRules edge n → KeepsDecisions edge (ticks now n).node → HasRules (ticks now n).node
unfolding ticks
ticks_rules nodes law edge now n h d = ticked_rules law edge now n h d

then_rules : NodesKeepDecisions → Facts → (edge now : ℕ) (n : Node) → KeepsRules edge n → KeepsRules edge (ticks now n).node
then_rules nodes law edge now n h =
    let d = nodes.ticked edge now n h.decisions in with_rules edge (ticks now n).node d (ticks_rules nodes law edge now n h d)

-- ---- a call comes

-- what is told again stands still
held_on : (edge more : ℕ) (n later : Node) (h : KeepsRules edge n) → KeepsDecisions more later
    → ((s : Standing) → Contains later.found.standing s → s.place < edge → Contains n.found.standing s)
    → (x : Held) → Contains later.recovered x → IsOfRecord n.found.standing x → IsOfRecord later.found.standing x
held_on edge more n later h d old x c was =
    let at = d.held x c in
    let low = all_at (λ (s : Standing). s.place < edge) n.found.standing was.stood h.decisions.before was.there in
    let same_place = was.same_place in
    let now = at.at in
    let there = old at.stood at.there (omega (arith, low, same_place, now)) in
    stands_as n.found.standing later.found.standing x at.stood was at.there (once n.found.standing was.stood at.stood h.decisions.sound.order was.there there (was.same_place ∙ sym at.at))

module _ (law : Facts) (edge more : ℕ) (n : Node) (h : KeepsRules edge n) where
  -- a record hears an answer
  module _ (number : CallNumber) (heard : Heard) (stood : Option Stood) (same_life : life (records_hear number heard stood n).node ≡ life n)
      (d : KeepsDecisions more (records_hear number heard stood n).node) where
    abbrev after : Node
    after = (records_hear number heard stood n).node

    stood_before : (s : Standing) → Contains after.found.standing s → Contains n.found.standing s
    stood_before s c = go (journaled_new (done_wanted number heard n) stood n.found s c)
      where
        nothing : (o : Option ℕ) (item : JournalRecord) → option_map WritesDone o ≡ Some (Appends item) → ⊥
        nothing None item i = cc i
        nothing (Some place) item i = cc i

        go : Contains n.found.standing s ⊎ IsNew (done_wanted number heard n) stood s → Contains n.found.standing s
        go (inl x) = x
        go (inr x) = absurd (nothing (completed (life n) number heard n.recovered) x.item x.wanted)

    heard_rules : HasRules after
    heard_rules = record {
      given = λ s c. given_on n after s.item same_life (omega arith) (h.given s (stood_before s c));
      committed = λ slot f s i c. h.committed slot f s i (stood_before s c);
      named = λ slot f s i c. h.named slot f s i (stood_before s c);
      through = h.through;
      held = λ x c. held_on edge more n after h d (λ s k low. stood_before s k) x c
          (heard_of n.found.standing (life n) number heard (completed (life n) number heard n.recovered) stood n.recovered h.held x c);
    }

  -- a family makes a step
  module _ (f : Family) (e : Event) (stood : Option Stood) (slot : ℕ) (there : family_in n.families slot ≡ Some f) (appends : AppendsBetween edge more (wanted f e) stood)
      (same_life : life (steps_to n f e stood (family_step f e stood)).node ≡ life n) (d : KeepsDecisions more (steps_to n f e stood (family_step f e stood)).node) where
    abbrev g : Family
    g = (family_step f e stood).family

    abbrev later : Node
    later = (steps_to n f e stood (family_step f e stood)).node

    sound : IsSoundFamily f
    sound = (h.decisions.sound.families slot f there).1

    goes : Goes f g
    goes = step_goes law f e stood sound.completion.there

    own_slot : g.key.slot ≡ slot
    own_slot = ap (λ (k : ObjectKey). k.slot) goes.key ∙ (h.decisions.sound.families slot f there).0.own_slot

    not_here : (other : ℕ) (x : Family) → other ≢ slot → family_in later.families other ≡ Some x → family_in n.families other ≡ Some x
    not_here other x apart i = sym (family_other n.families g.key.slot other (Some g) (λ j. apart (j ∙ own_slot))) ∙ i

    here : (other : ℕ) (x : Family) → other ≡ slot → family_in later.families other ≡ Some x → g ≡ x
    here other x same i = inner (family_same n.families g.key.slot (Some g) x (subst (λ (k : ℕ). family_in later.families k ≡ Some x) (same ∙ sym own_slot) i))

    -- a record that is appended is behind the edge, and decides the family
    module _ (s : Standing) (new : IsNew (wanted f e) stood s) where
      own : AppendsOwn f e new.item
      own = law.append f e new.item new.wanted

      behind : edge ≤ s.place
      behind =
          let l = (appends new.item new.place new.wanted new.stands).0 in
          let is = ap (λ (t : Standing). t.place) new.is in
          omega (arith, l, is)

      decided : stages.record_place g.completion ≡ Some s.place
      decided = subst (λ (o : Option Stood). stages.record_place (family_step f e o).family.completion ≡ Some new.place) (sym new.stands) (own.stands new.place)
          ∙ ap (λ (t : Standing). Some t.place) (sym new.is)

      commits : stages.outcome g.completion ≡ Some (Commit Record)
      commits = subst (λ (o : Option Stood). stages.outcome (family_step f e o).family.completion ≡ Some (Commit Record)) (sym new.stands) (own.decides sound.completion.there new.place)

      named_now : NamesVotersOf s.item g.completion
      named_now = subst (λ (t : Standing). NamesVotersOf t.item g.completion) (sym new.is) (newly_named law.append f e stood new.item new.wanted)

    old_there : (s : Standing) → Contains later.found.standing s → s.place < edge → Contains n.found.standing s
    old_there s c low = go (journaled_new (wanted f e) stood n.found s c)
      where
        go : Contains n.found.standing s ⊎ IsNew (wanted f e) stood s → Contains n.found.standing s
        go (inl x) = x
        go (inr x) = let b = behind s x in absurd (omega (arith, b, low))

    -- the family, once it has made its step
    module _ (now_there : family_in later.families slot ≡ Some g) where
      own_now : (s : Standing) → Contains later.found.standing s → stages.record_place g.completion ≡ Some s.place → IsDecisionOf g s.item
      own_now s c at = d.own slot g s now_there c at

      given_now : (s : Standing) → Contains later.found.standing s → IsOfGiven later s.item
      given_now s c = go (journaled_new (wanted f e) stood n.found s c)
        where
          go : Contains n.found.standing s ⊎ IsNew (wanted f e) stood s → IsOfGiven later s.item
          go (inl x) = given_on n later s.item same_life (omega arith) (h.given s x)
          go (inr x) = own_given later slot g s.item (d.sound.families slot g now_there).0 (own_now s c (decided s x))

      committed_now : (other : ℕ) (x : Family) (s : Standing) → family_in later.families other ≡ Some x → Contains later.found.standing s → IsDecisionOf x s.item
          → stages.outcome x.completion ≡ Some (Commit Record)
      committed_now other x s i c own_x = by (same_or_not other slot) (journaled_new (wanted f e) stood n.found s c)
        where
          of_g : g ≡ x → IsDecisionOf g s.item
          of_g is = subst (λ (y : Family). IsDecisionOf y s.item) (sym is) own_x

          by : (other ≡ slot) ⊎ (other ≢ slot) → Contains n.found.standing s ⊎ IsNew (wanted f e) stood s → stages.outcome x.completion ≡ Some (Commit Record)
          by (inl same) (inl old) =
              let is = here other x same i in
              subst (λ (y : Family). stages.outcome y.completion ≡ Some (Commit Record)) is
              (goes.outcome (Commit Record) (h.committed slot f s there old (own_kept g f (sym goes.key) s.item (of_g is))))
          by (inl same) (inr new) = subst (λ (y : Family). stages.outcome y.completion ≡ Some (Commit Record)) (here other x same i) (commits s new)
          by (inr apart) (inl old) = h.committed other x s (not_here other x apart i) old own_x
          by (inr apart) (inr new) =
              let alike = are_alike x g s.item own_x (own_now s c (decided s new)) in
              absurd (apart (sym (h.decisions.sound.families other x (not_here other x apart i)).0.own_slot ∙ alike.same_slot ∙ own_slot))

      named_so : (other : ℕ) (x : Family) (s : Standing) → family_in later.families other ≡ Some x → Contains later.found.standing s → stages.record_place x.completion ≡ Some s.place
          → NamesVotersOf s.item x.completion
      named_so other x s i c at = by (same_or_not other slot) (journaled_new (wanted f e) stood n.found s c)
        where
          by : (other ≡ slot) ⊎ (other ≢ slot) → Contains n.found.standing s ⊎ IsNew (wanted f e) stood s → NamesVotersOf s.item x.completion
          by (inl same) (inl old) =
              let is = here other x same i in
              let at_g : stages.record_place g.completion ≡ Some s.place = subst (λ (y : Family). stages.record_place y.completion ≡ Some s.place) (sym is) at in
              let of_f = own_kept g f (sym goes.key) s.item (own_now s c at_g) in
              subst (λ (y : Family). NamesVotersOf s.item y.completion) is
              (still_named law f g s goes sound.completion.there (h.committed slot f s there old of_f) (h.named slot f s there old) at_g)
          by (inl same) (inr new) = subst (λ (y : Family). NamesVotersOf s.item y.completion) (here other x same i) (named_now s new)
          by (inr apart) (inl old) = h.named other x s (not_here other x apart i) old at
          by (inr apart) (inr new) =
              let b = behind s new in
              let low = h.decisions.decided other s.place x (not_here other x apart i) at in
              absurd (omega (arith, b, low))

      through_now : (other : ℕ) (x : Family) → family_in later.families other ≡ Some x → x.closed ≢ None → HasToldAll x.completion
      through_now other x i asked = by (same_or_not other slot)
        where
          by : (other ≡ slot) ⊎ (other ≢ slot) → HasToldAll x.completion
          by (inl same) =
              let is = here other x same i in
              subst (λ (y : Family). HasToldAll y.completion) is
              (step_told law f e stood sound (h.through slot f there) (λ n. asked (ap (λ (y : Family). y.closed) (sym is) ∙ n)))
          by (inr apart) = h.through other x (not_here other x apart i) asked

      stepped_rules : HasRules later
      stepped_rules = record {
        given = given_now;
        committed = committed_now;
        named = named_so;
        through = through_now;
        held = λ x c. held_on edge more n later h d old_there x c (h.held x c);
      }

pub now_there : (words : FamiliesNumberWords) (edge : ℕ) (n : Node) (h : KeepsDecisions edge n) (f : Family) (e : Event) (stood : Option Stood) (slot : ℕ) → family_in n.families slot ≡ Some f
    → family_in (steps_to n f e stood (family_step f e stood)).node.families slot ≡ Some (family_step f e stood).family
now_there words edge n h f e stood slot there =
    let g : Family = (family_step f e stood).family in
    let own : g.key.slot ≡ slot = ap (λ (k : ObjectKey). k.slot) (words.key f e stood) ∙ (h.sound.families slot f there).0.own_slot in
    subst (λ (k : ℕ). family_in (slice_set n.families k (Some g)) slot ≡ Some g) (sym own) (family_put n.families slot g (family_within n.families slot f there))

pub called_life : NodesKeepNumbers → (k : ObjectKey) (e : Event) (stood : Option Stood) (n : Node) → life (applies k e stood n).node ≡ life n
called_life keep k e stood n = (keep n (applies k e stood n).node (further n (applies k e stood n).node still (by_call k e stood n))).same_life

by_called : Facts → (edge more : ℕ) (n : Node) (k : ObjectKey) (e : Event) (stood : Option Stood) (w : Option Wanted) (later : Node) (some : List Outward) → Called n k e stood w later some
    → AppendsBetween edge more w stood → KeepsRules edge n → life later ≡ life n → KeepsDecisions more later → HasRules later
by_called law edge more n k e stood _ _ _ (by_step f there) appends h same_life d =
    stepped_rules law edge more n h f e stood k.slot there appends same_life d (now_there law.words edge n h.decisions f e stood k.slot there)
by_called law edge more n k e stood _ _ _ (by_answer number heard) appends h same_life d = heard_rules law edge more n h number heard stood same_life d
by_called law edge more n k e stood _ _ _ (by_nothing w other) appends h same_life d = rules_of edge n h

called_rules : NodesKeepDecisions → NodesKeepNumbers → Facts → (edge more : ℕ) (k : ObjectKey) (e : Event) (stood : Option Stood) (n : Node) → edge ≤ more
    → AppendsBetween edge more (call_wants k e n) stood → FindsOwn (family_for k e n) (call_wants k e n) stood n → KeepsRules edge n → KeepsRules more (applies k e stood n).node
called_rules nodes keep law edge more k e stood n grows appends finds h =
    let d = nodes.called edge more k e stood n grows appends finds h.decisions in
    with_rules more (applies k e stood n).node d
    (by_called law edge more n k e stood (call_wants k e n) (applies k e stood n).node (applies k e stood n).words (called_is n k e stood) appends h (called_life keep k e stood n) d)

-- ---- the node

leaves : (edge : ℕ) (n : Node) (records : List JournalRecord) → KeepsRules edge n → n.found ≡ found_in records → AreOfPast records
leaves edge n records h is s c =
    subst (λ (x : Found). IsOfPast x.life s.item) is (given_past n s.item (h.given s (subst (λ (x : Found). Contains x.standing s) (sym is) c)))

module _ (nodes : NodesKeepDecisions) (keep : NodesKeepNumbers) (law : Facts) where
  on : (edge : ℕ) (n : Node) → KeepsRules edge n → (reached : ℕ) (later : Node) → GoesOn edge n reached later → KeepsRules reached later
  on edge n h _ _ still_there = h
  on edge n h _ _ (made now seconds reached later before) = made_rules nodes reached now seconds later (on edge n h reached later before)
  on edge n h _ _ (called k e stood reached end later before grows appends finds) =
      called_rules nodes keep law reached end k e stood later grows appends finds (on edge n h reached later before)
  on edge n h _ _ (passes now reached later before) = then_rules nodes law reached now later (on edge n h reached later before)
  on edge n h _ _ (begins records reached end later before grows is standing) =
      loaded_rules nodes end later.service records standing (leaves reached later records (on edge n h reached later before) is)

  pub nodes_keep_rules : NodesKeepRules
  nodes_keep_rules = record {
    loaded = loaded_rules nodes;
    made = made_rules nodes;
    called = called_rules nodes keep law;
    ticked = then_rules nodes law;
    leaves = leaves;
    goes_on = λ edge reached n later h. on edge n h reached later;
  }
