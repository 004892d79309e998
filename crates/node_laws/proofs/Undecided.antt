-- A family that is rolled back is never decided: no record of it stands, and none is asked for, over crashes too.
use Rattle.std.proofs.Common.{◌≡◌, ◌≢◌, ◌⊎◌, inl, inr, ℕ, ◌+◌, ◌<◌, ◌≤◌, zero, List, [], ◌∷◌, Bool, true, false, if◌then◌else◌, Option, Some, None, Ok, Contains, refl, ap, sym, subst, ◌∙◌, arith}
use Rattle.std.specs.Prelude.{nat_lt}
use Rattle.std.specs.List.{AllByRecursion}
use Rattle.std.proofs.lemmas.List.Elements.{Contains-append_right}
use Rattle.ior_refs.specs.declared.key.ObjectKey.{ObjectKey}
use Rattle.ots_model.specs.declared.completion.Ground.TheVariants.{Record}
use Rattle.ots_model.specs.declared.completion.Stood.{Stood}
use Rattle.ots_model.specs.declared.completion.Stood.TheVariants as answers
use Rattle.ots_model.specs.Numbered.{Outcome}
use Rattle.ots_model.specs.declared.completion.Outcome.TheVariants as outcomes
use Rattle.ots_model.specs.declared.tree.Outward.{Outward}
use Rattle.ots_model.specs.declared.completion.Word.TheVariants as phase_words
use Rattle.ots_model.specs.declared.tree.Word.TheVariants as words
use Rattle.resource_votes.specs.Ballots.{participants}
use Rattle.resource_votes.specs.declared.registration.Registration.{Registration}
use Rattle.two_phase.specs.Stages as stages
use Rattle.decision_journal.specs.Journal.{Found, first_gate, found_in, nothing_found, with_record}
use Rattle.decision_journal.specs.declared.journal.Standing.{Standing}
use Rattle.decision_journal.specs.declared.record.JournalRecord.{JournalRecord}
use Rattle.decision_journal.specs.declared.record.JournalRecord.TheVariants.{Life, Decision, Done, Prepared, CellsPrepared, CellsOutcome, CellsOnePhase}
use Rattle.recovery_coord.specs.Hearing.{completed}
use Rattle.coordinator.specs.declared.event.Event.{Event}
use Rattle.coordinator.specs.declared.said.Said.TheVariants as said
use Rattle.coordinator.specs.Family.{Family, new_family}
use Rattle.coordinator.specs.History.{has_room}
use Rattle.coordinator.specs.Laws.{FamilyOutcomesStay}
use Rattle.coordinator.specs.Limits.{generation_limit, slot_limit}
use Rattle.coordinator.specs.Node.{Node, family_in, in_next_life, life, load}
use Rattle.coordinator.specs.NodeCalls.{applies, call_wants, done_wanted, family_for, journaled, records_hear, steps_to}
use Rattle.coordinator.specs.NodeLaws.{NodesKeepNumbers}
use Rattle.coordinator.specs.NodeSlots.{creates, deadline_after, free_slot, makes, makes_in, makes_no_family, next_key, with_new}
use Rattle.coordinator.specs.NodeTick.{Happening, passes_time, tells_again, tick_at, tick_of, ticked, ticks}
use Rattle.coordinator.specs.Step.{Appends, Rereads, Wanted, family_step, quiet, wanted}
use Rattle.family_laws.specs.LawsOfJournal.{AppendsOwn, FamiliesAppendOwn}
use Rattle.family_laws.specs.LawsOfSteps.{FamiliesWordsRest, GoesBack, IsNotAlone, IsRolledBack, Rests}
use Rattle.family_laws.specs.LawsOfTelling.{FamiliesNumberWords}
use Rattle.family_laws.specs.OwnDecisions.{AppendsBetween, FindsOwn, KeepsDecisions}
use Rattle.family_laws.specs.Sound.{IsSoundFamily}
use Rattle.family_laws.specs.SoundNode.{IsDecisionOf}
use Rattle.family_laws.specs.Trees.{IsCutOff}
use Rattle.node_laws.specs.Rollbacks.{IsNeverDecided, IsOfUndecided, RollbackRests, RollbacksAreUndecided}
use Rattle.node_laws.specs.Rules.{GoesOn, KeepsRules, NodesKeepRules}
use Rattle.node_laws.specs.Rules.GoesOn.{still as still_there, made, called, ticked as passes, loaded as begins}
use Rattle.node_laws.proofs.Lists.{all_at, all_each, inner, same_or_not}
use Rattle.node_laws.proofs.Rests.{IsKeyed, happened_all, keyed_all}
use Rattle.node_laws.proofs.Rules.{called_life, loaded_found, now_there}
use Rattle.node_laws.proofs.Slots.{AreAlike, are_alike, family_other, family_same, family_ticked, none_in}
use Rattle.node_laws.proofs.Stands.{Called, IsNew, called_is, journaled_new, never_appends}
use Rattle.node_laws.proofs.Stands.Called.{by_answer, by_nothing, by_step}

pub record Laws : Type 0 where
  pub nodes : NodesKeepRules
  pub numbers : NodesKeepNumbers
  pub append : FamiliesAppendOwn
  pub words : FamiliesNumberWords
  pub rest : FamiliesWordsRest
  pub outcomes : FamilyOutcomesStay

-- a family of this life or an earlier one: where it is there, it is rolled back, and no decision of it stands
record IsShut (n : Node) (f : Family) : Type 0 where
  given : (f.key.life < life n) ⊎ ((f.key.life ≡ life n) × (f.key.generation ≤ n.generation))
  over : (x : Family) → family_in n.families f.key.slot ≡ Some x → x.key.life ≡ f.key.life → x.key.generation ≡ f.key.generation → IsRolledBack (stages.outcome x.completion)
  none : (s : Standing) → Contains n.found.standing s → IsDecisionOf f s.item → ⊥

not_commit : (o : Option Outcome) → IsRolledBack o → o ≡ Some (outcomes.Commit Record) → ⊥
not_commit o back e = subst IsRolledBack e back

not_open : (o : Option Outcome) → IsRolledBack o → o ≡ None → ⊥
not_open o back e = subst IsRolledBack e back

stays_back : (a b : Option Outcome) → ((fixed : Outcome) → a ≡ Some fixed → b ≡ Some fixed) → IsRolledBack a → IsRolledBack b
stays_back (Some (outcomes.Rollback reason)) b on back = subst IsRolledBack (sym (on (outcomes.Rollback reason) refl)) tt
stays_back (Some (outcomes.Commit basis)) b on back = absurd back
stays_back (Some outcomes.Unknown) b on back = absurd back
stays_back None b on back = absurd back

given_on : (n later : Node) (f : Family) → life later ≡ life n → n.generation ≤ later.generation → (f.key.life < life n) ⊎ ((f.key.life ≡ life n) × (f.key.generation ≤ n.generation))
    → (f.key.life < life later) ⊎ ((f.key.life ≡ life later) × (f.key.generation ≤ later.generation))
given_on n later f same more (inl l) = inl (omega (arith, same, l))
given_on n later f same more (inr (l, m)) = inr (l ∙ sym same, omega (arith, m, more))

-- ---- at first

shut_first : (edge slot : ℕ) (n : Node) (f : Family) → KeepsRules edge n → family_in n.families slot ≡ Some f → IsRolledBack (stages.outcome f.completion) → IsShut n f
shut_first edge slot n f h there back =
    let i = (h.decisions.sound.families slot f there).0 in
    record {
      given = inr (i.of_life, i.given);
      over = λ x at lives same.
          let is : f ≡ x = inner (sym there ∙ ap (λ (k : ℕ). family_in n.families k) (sym i.own_slot) ∙ at) in
          subst (λ (y : Family). IsRolledBack (stages.outcome y.completion)) is back;
      none = λ s c own. not_commit (stages.outcome f.completion) back (h.committed slot f s there c own);
    }

-- ---- a family is made

shut_new : (make : ObjectKey → Family) → ((key : ObjectKey) → (make key).key ≡ key) → (slot : ℕ) (n : Node) (f : Family) → IsShut n f → IsShut (with_new make slot n) f
shut_new make keyed slot n f h = record {
  given = given_on n (with_new make slot n) f refl (omega arith) h.given;
  over = λ x at lives same. by x at lives same (same_or_not f.key.slot slot);
  none = h.none;
}
  where
    not_new : (x : Family) → x.key.life ≡ life n → x.key.generation ≡ n.generation + 1 → x.key.life ≡ f.key.life → x.key.generation ≡ f.key.generation
        → (f.key.life < life n) ⊎ ((f.key.life ≡ life n) × (f.key.generation ≤ n.generation)) → ⊥
    not_new x of_life number lives same (inl l) = omega (arith, of_life, lives, l)
    not_new x of_life number lives same (inr (l, m)) = omega (arith, number, same, m)

    by : (x : Family) → family_in (with_new make slot n).families f.key.slot ≡ Some x → x.key.life ≡ f.key.life → x.key.generation ≡ f.key.generation → (f.key.slot ≡ slot) ⊎ (f.key.slot ≢ slot)
        → IsRolledBack (stages.outcome x.completion)
    by x at lives same (inl here) =
        let is : make (next_key n slot) ≡ x = inner (family_same n.families slot (Some (make (next_key n slot))) x (subst (λ (k : ℕ). family_in (with_new make slot n).families k ≡ Some x) here at)) in
        let key : x.key ≡ next_key n slot = ap (λ (y : Family). y.key) (sym is) ∙ keyed (next_key n slot) in
        absurd (not_new x (ap (λ (k : ObjectKey). k.life) key) (ap (λ (k : ObjectKey). k.generation) key) lives same h.given)
    by x at lives same (inr apart) = h.over x (sym (family_other n.families slot f.key.slot (Some (make (next_key n slot))) apart) ∙ at) lives same

shut_made : (now seconds : ℕ) (n : Node) (f : Family) → IsShut n f → IsShut (creates now seconds n).node f
unfolding creates makes
shut_made now seconds n f h = by_slot (free_slot n)
  where
    make : ObjectKey → Family
    make key = new_family key (deadline_after now seconds)

    by_number : (slot : ℕ) (t : Bool) → IsShut (if t then record { node = with_new make slot n; answer = Ok (next_key n slot) } else makes_no_family n).node f
    by_number slot true = shut_new make (λ key. refl) slot n f h
    by_number slot false = h

    by_slot : (o : Option ℕ) → IsShut (makes_in o make n).node f
    by_slot None = h
    by_slot (Some slot) = by_number slot (nat_lt n.generation generation_limit)

-- ---- time passes

-- what a step, or none, leaves of a family
record IsBehind (f g : Family) : Type 0 where
  key : g.key ≡ f.key
  stays : IsRolledBack (stages.outcome f.completion) → IsRolledBack (stages.outcome g.completion)

step_behind : Laws → (f : Family) (e : Event) (stood : Option Stood) → IsSoundFamily f → IsBehind f (family_step f e stood).family
step_behind law f e stood sound = record {
  key = law.words.key f e stood;
  stays = stays_back (stages.outcome f.completion) (stages.outcome (family_step f e stood).family.completion) (λ fixed is. law.outcomes f e stood fixed sound.completion.there is);
}

tick_behind : Laws → (now : ℕ) (f : Family) → IsSoundFamily f → IsBehind f (tick_of now f).family
tick_behind law now f sound = go (has_room f.entries (tick_at now))
  where
    go : (t : Bool) → IsBehind f (if t then family_step f (tick_at now) None else quiet said.Plain f).family
    go true = step_behind law f (tick_at now) None sound
    go false = record { key = refl; stays = λ b. b }

shut_then : Laws → (edge now : ℕ) (n : Node) (f : Family) → KeepsRules edge n → IsShut n f → IsShut (ticks now n).node f
unfolding ticks
shut_then law edge now n f r h = record {
  given = h.given;
  over = λ x at lives same. go x lives same (family_in n.families f.key.slot) refl (sym (family_ticked now n.families f.key.slot) ∙ at);
  none = h.none;
}
  where
    go : (x : Family) → x.key.life ≡ f.key.life → x.key.generation ≡ f.key.generation → (o : Option Family) → family_in n.families f.key.slot ≡ o → ticked now o ≡ Some x → IsRolledBack (stages.outcome x.completion)
    go x lives same None i e = absurd (cc e)
    go x lives same (Some y) i e =
        let b = tick_behind law now y (r.decisions.sound.families f.key.slot y i).1 in
        let is : (tick_of now y).family ≡ x = inner e in
        let of_life : y.key.life ≡ f.key.life = sym (ap (λ (k : ObjectKey). k.life) b.key) ∙ ap (λ (z : Family). z.key.life) is ∙ lives in
        let number : y.key.generation ≡ f.key.generation = sym (ap (λ (k : ObjectKey). k.generation) b.key) ∙ ap (λ (z : Family). z.key.generation) is ∙ same in
        subst (λ (z : Family). IsRolledBack (stages.outcome z.completion)) is (b.stays (h.over y i of_life number))

-- ---- a call comes

-- a family that appends a decision isn't the one that is rolled back
module _ (law : Laws) (edge more : ℕ) (n : Node) (f : Family) (r : KeepsRules edge n) (h : IsShut n f) (x : Family) (e : Event) (stood : Option Stood) (slot : ℕ)
    (there : family_in n.families slot ≡ Some x) where
  abbrev g : Family
  g = (family_step x e stood).family

  abbrev later : Node
  later = (steps_to n x e stood (family_step x e stood)).node

  sound : IsSoundFamily x
  sound = (r.decisions.sound.families slot x there).1

  behind : IsBehind x g
  behind = step_behind law x e stood sound

  at_slot : g.key.slot ≡ slot
  at_slot = ap (λ (k : ObjectKey). k.slot) behind.key ∙ (r.decisions.sound.families slot x there).0.own_slot

  -- where it is in that one's slot, under that one's number
  is_over : f.key.slot ≡ slot → x.key.life ≡ f.key.life → x.key.generation ≡ f.key.generation → IsRolledBack (stages.outcome x.completion)
  is_over same lives number = h.over x (ap (λ (k : ℕ). family_in n.families k) same ∙ there) lives number

  new_apart : KeepsDecisions more later → family_in later.families slot ≡ Some g → (s : Standing) → Contains later.found.standing s → IsNew (wanted x e) stood s → IsDecisionOf f s.item → ⊥
  new_apart d now s c new own_f =
      let own : AppendsOwn x e new.item = law.append x e new.item new.wanted in
      let at : stages.record_place g.completion ≡ Some s.place =
      subst (λ (o : Option Stood). stages.record_place (family_step x e o).family.completion ≡ Some new.place) (sym new.stands) (own.stands new.place) ∙ ap (λ (t : Standing). Some t.place) (sym new.is) in
      let alike : AreAlike f g = are_alike f g s.item own_f (d.own slot g s now c at) in
      not_open (stages.outcome x.completion)
      (is_over (alike.same_slot ∙ at_slot) (sym (ap (λ (k : ObjectKey). k.life) behind.key) ∙ sym alike.same_life) (sym (ap (λ (k : ObjectKey). k.generation) behind.key) ∙ sym alike.same_number)) (own.undecided sound.completion.there)

  shut_stepped : KeepsDecisions more later → life later ≡ life n → family_in later.families slot ≡ Some g → IsShut later f
  shut_stepped d same_life now = record {
    given = given_on n later f same_life (omega arith) h.given;
    over = λ y at lives number. by y at lives number (same_or_not f.key.slot slot);
    none = λ s c own. elim (journaled_new (wanted x e) stood n.found s c) [
      | inl old ↦ h.none s old own
      | inr new ↦ new_apart d now s c new own
    ];
  }
    where
      by : (y : Family) → family_in later.families f.key.slot ≡ Some y → y.key.life ≡ f.key.life → y.key.generation ≡ f.key.generation → (f.key.slot ≡ slot) ⊎ (f.key.slot ≢ slot)
          → IsRolledBack (stages.outcome y.completion)
      by y at lives number (inl same) =
          let is : g ≡ y = inner (sym now ∙ ap (λ (k : ℕ). family_in later.families k) (sym same) ∙ at) in
          let of_life : x.key.life ≡ f.key.life = sym (ap (λ (k : ObjectKey). k.life) behind.key) ∙ ap (λ (z : Family). z.key.life) is ∙ lives in
          let of_x : x.key.generation ≡ f.key.generation = sym (ap (λ (k : ObjectKey). k.generation) behind.key) ∙ ap (λ (z : Family). z.key.generation) is ∙ number in
          subst (λ (z : Family). IsRolledBack (stages.outcome z.completion)) is (behind.stays (is_over same of_life of_x))
      by y at lives number (inr apart) = h.over y (sym (family_other n.families g.key.slot f.key.slot (Some g) (λ j. apart (j ∙ at_slot))) ∙ at) lives number

shut_called : Laws → (edge more : ℕ) (n : Node) (f : Family) (k : ObjectKey) (e : Event) (stood : Option Stood) (w : Option Wanted) (later : Node) (some : List Outward) → Called n k e stood w later some
    → KeepsRules edge n → KeepsDecisions more later → life later ≡ life n → IsShut n f → IsShut later f
shut_called law edge more n f k e stood _ _ _ (by_step x there) r d same_life h =
    shut_stepped law edge more n f r h x e stood k.slot there d same_life (now_there law.words edge n r.decisions x e stood k.slot there)
shut_called law edge more n f k e stood _ _ _ (by_answer number heard) r d same_life h = record {
  given = given_on n (records_hear number heard stood n).node f same_life (omega arith) h.given;
  over = h.over;
  none = λ s c own. elim (journaled_new (done_wanted number heard n) stood n.found s c) [
    | inl old ↦ h.none s old own
    | inr new ↦ absurd (never_appends (completed (life n) number heard n.recovered) new.item new.wanted)
  ];
}
shut_called law edge more n f k e stood _ _ _ (by_nothing w other) r d same_life h = h

-- ---- a load

shut_loaded : (service : ℕ) (records : List JournalRecord) (n : Node) (f : Family) → n.found ≡ found_in records → IsShut n f → IsShut (load service records) f
shut_loaded service records n f is h = record {
  given = inl (lives h.given);
  over = λ x at of_life same. absurd (none_in slot_limit f.key.slot x at);
  none = λ s c own. h.none s (subst (λ (x : Found). Contains x.standing s) (sym is) (subst (λ (x : Found). Contains x.standing s) found c)) own;
}
  where
    found : found_in (in_next_life records) ≡ record { life = (found_in records).life + 1; standing = (found_in records).standing }
    found = loaded_found nothing_found first_gate records ((found_in records).life + 1)

    lives : (f.key.life < life n) ⊎ ((f.key.life ≡ life n) × (f.key.generation ≤ n.generation)) → f.key.life < life (load service records)
    lives (inl l) = let a = ap (λ (x : Found). x.life) is in let b = ap (λ (x : Found). x.life) found in omega (arith, l, a, b)
    lives (inr (l, m)) = let a = ap (λ (x : Found). x.life) is in let b = ap (λ (x : Found). x.life) found in omega (arith, l, a, b)

-- ---- whatever a node does, over crashes too

record AreShut (edge : ℕ) (n : Node) (f : Family) : Type 0 where
  rules : KeepsRules edge n
  shut : IsShut n f

shut_on : Laws → (edge : ℕ) (n : Node) (f : Family) → KeepsRules edge n → IsShut n f → (reached : ℕ) (later : Node) → GoesOn edge n reached later → AreShut reached later f
shut_on law edge n f r h _ _ still_there = record { rules = r; shut = h }
shut_on law edge n f r h _ _ (made now seconds reached later on) =
    let x = shut_on law edge n f r h reached later on in
    record { rules = law.nodes.made reached now seconds later x.rules; shut = shut_made now seconds later f x.shut }
shut_on law edge n f r h _ _ (called k e stood reached end later on grows appends finds) =
    let x = shut_on law edge n f r h reached later on in
    let rules = law.nodes.called reached end k e stood later grows appends finds x.rules in
    record {
      rules = rules;
      shut = shut_called law reached end later f k e stood (call_wants k e later) (applies k e stood later).node (applies k e stood later).words (called_is later k e stood) x.rules rules.decisions
          (called_life law.numbers k e stood later) x.shut;
    }
shut_on law edge n f r h _ _ (passes now reached later on) =
    let x = shut_on law edge n f r h reached later on in
    record { rules = law.nodes.ticked reached now later x.rules; shut = shut_then law reached now later f x.rules x.shut }
shut_on law edge n f r h _ _ (begins records reached end later on grows is standing) =
    let x = shut_on law edge n f r h reached later on in
    record {
      rules = law.nodes.loaded end later.service records standing (law.nodes.leaves reached later records x.rules is);
      shut = shut_loaded later.service records later f is x.shut;
    }

-- ---- no decision of it is asked for

-- a decision that is appended stands
appended_there : (found : Found) (place : ℕ) (f : Family) (item : JournalRecord) → IsDecisionOf f item → Contains (with_record found place item).standing (record { place = place; item = item })
appended_there found place f (Decision l slot generation by asked named) own =
    Contains-append_right found.standing (record { place = place; item = Decision l slot generation by asked named } ∷ []) _ (zero, omega arith, refl)
appended_there found place f (Life l) own = absurd own
appended_there found place f (Done named) own = absurd own
appended_there found place f (Prepared l slot generation recovery named) own = absurd own
appended_there found place f (CellsPrepared l number recovery puts) own = absurd own
appended_there found place f (CellsOutcome named end) own = absurd own
appended_there found place f (CellsOnePhase l number puts) own = absurd own

asked_there : (n : Node) (k : ObjectKey) (e : Event) (place : ℕ) (f : Family) (item : JournalRecord) (w : Option Wanted) (later : Node) (some : List Outward) → Called n k e (Some (answers.Stands place)) w later some
    → w ≡ Some (Appends item) → IsDecisionOf f item → Contains later.found.standing (record { place = place; item = item })
asked_there n k e place f item _ _ _ (by_step x there) is own =
    subst (λ (o : Option Wanted). Contains (journaled o (Some (answers.Stands place)) n.found).standing (record { place = place; item = item })) (sym is) (appended_there n.found place f item own)
asked_there n k e place f item _ _ _ (by_answer number heard) is own = absurd (never_appends (completed (life n) number heard n.recovered) item is)
asked_there n k e place f item _ _ _ (by_nothing w other) is own = absurd (none_wanted (sym other ∙ is))
  where
    none_wanted : ◌≡◌ {A = Option Wanted} None (Some (Appends item)) → ⊥
    none_wanted i = cc i

not_asked : Laws → (edge : ℕ) (n : Node) (f : Family) (k : ObjectKey) (e : Event) (item : JournalRecord) → KeepsRules edge n → IsShut n f → call_wants k e n ≡ Some (Appends item) → IsDecisionOf f item → ⊥
not_asked law edge n f k e item r h wants own =
    let stood : Option Stood = Some (answers.Stands edge) in
    let later : Node = (applies k e stood n).node in
    let called : Called n k e stood (call_wants k e n) later (applies k e stood n).words = called_is n k e stood in
    let rules = law.nodes.called edge (edge + 1) k e stood n (omega arith) appends finds r in
    let shut = shut_called law edge (edge + 1) n f k e stood (call_wants k e n) later (applies k e stood n).words called r rules.decisions (called_life law.numbers k e stood n) h in
    shut.none (record { place = edge; item = item }) (asked_there n k e edge f item (call_wants k e n) later (applies k e stood n).words called wants own) own
  where
    same_place : {a b : ℕ} → Some (answers.Stands a) ≡ Some (answers.Stands b) → a ≡ b
    same_place e = cc e

    appends : AppendsBetween edge (edge + 1) (call_wants k e n) (Some (answers.Stands edge))
    appends other place i j = let is : edge ≡ place = same_place j in (omega (arith, is), omega (arith, is))

    not_both : Some (Appends item) ≡ Some Rereads → ⊥
    not_both i = cc i

    finds : FindsOwn (family_for k e n) (call_wants k e n) (Some (answers.Stands edge)) n
    finds x place i j l = absurd (not_both (sym wants ∙ j))

-- ---- the laws

never_decided : Laws → (edge slot : ℕ) (n : Node) (f : Family) → KeepsRules edge n → family_in n.families slot ≡ Some f → IsRolledBack (stages.outcome f.completion) → IsNeverDecided edge n f
never_decided law edge slot n f r there back = record {
  none = λ reached later s on c own. (shut_on law edge n f r (shut_first edge slot n f r there back) reached later on).shut.none s c own;
  unasked = λ reached later k e item on wants own.
      let x = shut_on law edge n f r (shut_first edge slot n f r there back) reached later on in not_asked law reached later f k e item x.rules x.shut wants own;
}

-- a rollback word of a family that a node has after the step which hands it out
rests_one : Laws → (edge : ℕ) (n : Node) (slot : ℕ) (g : Family) (o : Outward) → KeepsRules edge n → family_in n.families slot ≡ Some g → g.key.slot ≡ slot → IsKeyed g.key o
    → Rests g.completion g.ballots g.rows o → o.word ≡ words.Phase phase_words.Rollback → IsOfUndecided edge n o
rests_one law edge n slot g o r there own key rest back =
    let b : GoesBack g.completion g.ballots g.rows o = rest.back back in
    record {
      family = g;
      there = ap (λ (k : ℕ). family_in n.families k) (sym key.same_slot ∙ own) ∙ there;
      same_life = key.same_life;
      same_number = key.same_number;
      r = b.r;
      registration = b.number;
      reference = b.reference;
      rests = by b.r b.over;
    }
  where
    by : (x : Registration) → (IsRolledBack (stages.outcome g.completion) × IsNotAlone g.completion × Contains (participants 0 g.ballots) x) ⊎ IsCutOff g.rows x.branch → IsCutOff g.rows x.branch ⊎ IsNeverDecided edge n g
    by x (inl (over, alone, takes_part)) = inr (never_decided law edge slot n g r there over)
    by x (inr cut) = inl cut

step_rests : Laws → (edge : ℕ) (n : Node) (slot : ℕ) (f : Family) (e : Event) (stood : Option Stood) → KeepsRules edge n → IsSoundFamily f → f.key.slot ≡ slot
    → family_in n.families slot ≡ Some (family_step f e stood).family → AllByRecursion (RollbackRests edge n) (family_step f e stood).words
step_rests law edge n slot f e stood r sound own there =
    let g : Family = (family_step f e stood).family in
    let some : List Outward = (family_step f e stood).words in
    all_each (RollbackRests edge n) some (λ o c back.
    rests_one law edge n slot g o r there (ap (λ (k : ObjectKey). k.slot) (law.words.key f e stood) ∙ own)
    (subst (λ (k : ObjectKey). IsKeyed k o) (sym (law.words.key f e stood)) (all_at (IsKeyed f.key) some o (keyed_all f.key f.serial some (law.words.numbers f e stood)) c))
    (all_at (Rests g.completion g.ballots g.rows) some o (law.rest f e stood sound) c) back)

called_rest : Laws → (edge more : ℕ) (n : Node) (k : ObjectKey) (e : Event) (stood : Option Stood) (w : Option Wanted) (later : Node) (some : List Outward) → Called n k e stood w later some
    → KeepsRules edge n → KeepsRules more later → AllByRecursion (RollbackRests more later) some
called_rest law edge more n k e stood _ _ _ (by_step f there) h r =
    let old = h.decisions.sound.families k.slot f there in
    step_rests law more (steps_to n f e stood (family_step f e stood)).node k.slot f e stood r old.1 old.0.own_slot (now_there law.words edge n h.decisions f e stood k.slot there)
called_rest law edge more n k e stood _ _ _ (by_answer number heard) h r = tt
called_rest law edge more n k e stood _ _ _ (by_nothing w other) h r = tt

tick_rests : Laws → (edge now : ℕ) (n : Node) (slot : ℕ) (f : Family) → KeepsRules edge n → IsSoundFamily f → f.key.slot ≡ slot → family_in n.families slot ≡ Some (tick_of now f).family
    → AllByRecursion (RollbackRests edge n) (tick_of now f).words
tick_rests law edge now n slot f r sound own there = go (has_room f.entries (tick_at now)) there
  where
    go : (t : Bool) → family_in n.families slot ≡ Some (if t then family_step f (tick_at now) None else quiet said.Plain f).family
        → AllByRecursion (RollbackRests edge n) (if t then family_step f (tick_at now) None else quiet said.Plain f).words
    go true i = step_rests law edge n slot f (tick_at now) None r sound own i
    go false i = tt

ticked_rest : Laws → (edge now : ℕ) (n : Node) → KeepsRules edge n → KeepsRules edge (ticks now n).node
    → AllByRecursion (λ (h : Happening). AllByRecursion (RollbackRests edge (ticks now n).node) h.words) (ticks now n).happened
unfolding ticks
ticked_rest law edge now n h r =
    happened_all (λ (x : Happening). AllByRecursion (RollbackRests edge (tells_again (passes_time now n))) x.words) now n.families (λ slot f i.
    let old = h.decisions.sound.families slot f i in
    tick_rests law edge now (tells_again (passes_time now n)) slot f r old.1 old.0.own_slot (family_ticked now n.families slot ∙ ap (λ (o : Option Family). ticked now o) i))

pub rollbacks_are_undecided : Laws → RollbacksAreUndecided
rollbacks_are_undecided law = record {
  rolled_back = never_decided law;
  called = λ edge later k e stood n grows appends finds h.
      called_rest law edge later n k e stood (call_wants k e n) (applies k e stood n).node (applies k e stood n).words (called_is n k e stood) h
      (law.nodes.called edge later k e stood n grows appends finds h);
  ticked = λ edge now n h. ticked_rest law edge now n h (law.nodes.ticked edge now n h);
}
