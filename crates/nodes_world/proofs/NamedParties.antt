-- A decision record of a family that is there names participants of it alone, each under its number.
use Rattle.std.proofs.Common.{◌≡◌, ◌⊎◌, inl, inr, ℕ, ◌==◌, ◌&&◌, Bool, true, false, if◌then◌else◌, IsTrue, List, [], ◌∷◌, Contains, Option, Some, None, refl, sym, ap, subst, ◌∙◌, arith}
use Rattle.std.specs.List.{list_any}
use Rattle.std.specs.Option.{option_map, option_map_or}
use Rattle.std.proofs.lemmas.Bool.Decides.{nat_tests}
use Rattle.std.proofs.lemmas.List.Elements.{Contains-append_cases, Contains-push_cases}
use Rattle.std.proofs.lemmas.List.Folds.{list_any-from_Any}
use Rattle.ior_refs.specs.declared.key.ObjectKey.{ObjectKey}
use Rattle.ots_model.specs.Heard.{of_participant}
use Rattle.ots_model.specs.declared.completion.Ground.TheVariants.{Record}
use Rattle.ots_model.specs.declared.completion.Stood.{Stood}
use Rattle.ots_model.specs.Numbered.{Outcome}
use Rattle.ots_model.specs.declared.completion.Outcome.TheVariants as outcomes
use Rattle.ots_model.specs.declared.tree.Outward.{Outward}
use Rattle.two_phase.specs.Course as course
use Rattle.two_phase.specs.Course.{Course}
use Rattle.two_phase.specs.LawsOfReached.TreeBecomes.{by_answer}
use Rattle.two_phase.specs.Stages as stages
use Rattle.two_phase.specs.Stages.{Standing, Waiting, Going as UnderWay, no_room}
use Rattle.two_phase.specs.declared.party.Party.{Party}
use Rattle.decision_journal.specs.declared.record.JournalRecord.{JournalRecord}
use Rattle.decision_journal.specs.declared.record.JournalRecord.TheVariants.{Life, Done}
use Rattle.decision_journal.specs.declared.record.Registration.{Registration as Named}
use Rattle.recovery_coord.specs.Laws.{registrations_of}
use Rattle.coordinator.specs.Family.{Family}
use Rattle.coordinator.specs.Hearing.{decision_record, inner_number, named, record_place, wants_done}
use Rattle.coordinator.specs.Laws.{FamiliesStepRightly}
use Rattle.coordinator.specs.Limits.{slot_limit}
use Rattle.coordinator.specs.Node.{Node, family_in, is_of}
use Rattle.coordinator.specs.NodeTick.{tick_at}
use Rattle.coordinator.specs.Step.{Wanted, Appends, Rereads, WritesDone, family_step, hears}
use Rattle.coordinator.specs.declared.event.Event.{Event}
use Rattle.coordinator.specs.declared.said.Said.{Said}
use Rattle.family_laws.specs.LawsOfTelling.{FamiliesNumberWords}
use Rattle.nodes_world.specs.Agreement.{has_record, is_decision_of, records_at}
use Rattle.nodes_world.specs.AgreementInside.{FamilyIsKnown, Known}
use Rattle.nodes_world.specs.Deliveries.{answer_event, heard_in}
use Rattle.nodes_world.specs.Journals.{records_in}
use Rattle.nodes_world.specs.Laws.{AreWanted, IsWanted}
use Rattle.nodes_world.specs.Objects.{family_key, service_at}
use Rattle.nodes_world.specs.Told.{Told}
use Rattle.nodes_world.specs.World.{World, node_at}
use Rattle.nodes_world.proofs.AskedFor.{Asks, asks_of, heard_same_key, nothing, of_family, of_record, wanted_heard}
use Rattle.nodes_world.proofs.CallKnown.{key_slot}
use Rattle.nodes_world.proofs.ClosesStored.{HeardAs, heard_as}
use Rattle.nodes_world.proofs.DecisionRests.{named_from}
use Rattle.nodes_world.proofs.KnownLines.{lines_of}
use Rattle.nodes_world.proofs.NodesGo.{Becomes, NodesGo, called, heard_so, loaded_so, made, ticked}
use Rattle.nodes_world.proofs.RecordsGo.{RecordsCome, RecordsGo, as_before, on_new, with_asked, with_life}
use Rattle.nodes_world.proofs.ToldParties.{SameParties, becomes_same, proceeds_same, same_at}
use Rattle.nodes_world.proofs.ToldReplied.{came_by, came_by_tick, in_slot, made_in, none_in, slot_known, slot_place}

inner : {A : Type 0} {x y : A} → Some x ≡ Some y → x ≡ y
inner e = cc

-- a completion has a participant with this number and this reference
abbrev pub HasParty : Standing → ℕ → List ℕ → Type 0
HasParty (Waiting room) index to = ⊥
HasParty (UnderWay c) index to = (p : Party) × Contains c.parties p × (p.index ≡ index) × (p.to ≡ to)

abbrev pub RecordsNameParties : World → Type 0
RecordsNameParties w = (place : ℕ) (n : Node) (slot : ℕ) (f : Family) (rs : List JournalRecord) (item : JournalRecord) (r : Named) → node_at w place ≡ Some n
    → family_in n.families slot ≡ Some f → records_at w place ≡ Some rs → Contains rs item → is_decision_of f.key item ≡ true
    → Contains (registrations_of item) r → HasParty f.completion r.index r.reference

-- ---- who takes part stays so

party_on : (s t : Standing) → SameParties s t → (index : ℕ) (to : List ℕ) → HasParty s index to → HasParty t index to
party_on (Waiting room) t same index to has = absurd has
party_on (UnderWay c) (Waiting room) same index to has = absurd same
party_on (UnderWay c) (UnderWay d) same index to (p, among, number, reference) =
    let at = same_at c.parties d.parties (sym same.0) (sym same.1) p among in
    (at.0, at.1, at.2 ∙ number, at.3 ∙ reference)

party_back : (c : Course) (t : Standing) → SameParties (UnderWay c) t → (index : ℕ) (to : List ℕ) → HasParty t index to → HasParty (UnderWay c) index to
party_back c (Waiting room) same index to has = absurd has
party_back c (UnderWay d) same index to (p, among, number, reference) =
    let at = same_at d.parties c.parties same.0 same.1 p among in
    (at.0, at.1, at.2 ∙ number, at.3 ∙ reference)

-- the record names participants
named_party : (s : Standing) (r : Named) → Contains (named s) r → HasParty s r.index r.reference
named_party (Waiting room) r (i, less, is) = absurd (omega (arith, less))
named_party (UnderWay c) r among =
    let one = named_from c.parties r among in
    (one.p, one.there, ap (λ (x : Named). x.index) one.same, ap (λ (x : Named). x.reference) one.same)

module _ (rightly : FamiliesStepRightly) where
  step_party : (f : Family) (e : Event) (stood : Option Stood) (index : ℕ) (to : List ℕ) → HasParty f.completion index to
      → HasParty (family_step f e stood).family.completion index to
  step_party f e stood =
      party_on f.completion (family_step f e stood).family.completion
      (proceeds_same f.completion (family_step f e stood).family.completion (rightly f e stood).proceeds)

-- one that an answer leaves took part before
heard_party : (f : Family) (o : Outward) (answer : Said) (b index : ℕ) (to : List ℕ) → (s : Standing) → f.completion ≡ s
    → HeardAs f o.number (heard_in answer) b (hears o.number (heard_in answer) f).family.completion
    → HasParty (hears o.number (heard_in answer) f).family.completion index to → HasParty s index to
heard_party f o answer b index to s was (inl same) has = subst (λ (t : Standing). HasParty t index to) (same ∙ was) has
heard_party f o answer b index to (Waiting room) was (inr (c, at, deciding, is)) has =
    absurd (subst (λ (t : Standing). HasParty t index to)
    (is ∙ ap (λ (t : Standing). stages.after_answer (inner_number f t o.number) (of_participant (heard_in answer)) t) was) has)
heard_party f o answer b index to (UnderWay k) was (inr (c, at, deciding, is)) has =
    party_back k (stages.after_answer (inner_number f (UnderWay k) o.number) (of_participant (heard_in answer)) (UnderWay k))
    (becomes_same k (course.after_answer (inner_number f (UnderWay k) o.number) (of_participant (heard_in answer)) k) (by_answer k _ _)) index to
    (subst (λ (t : Standing). HasParty t index to)
    (is ∙ ap (λ (t : Standing). stages.after_answer (inner_number f t o.number) (of_participant (heard_in answer)) t) was) has)

-- ---- what is asked for

none_named : (r : Named) → Contains [] r → ⊥
none_named r (i, less, is) = omega (arith, less)

-- a decision that is wanted is that of the family as it is then
wanted_decision : (g : Family) (t u : Bool) (x : Option ℕ) (y : Wanted) (item : JournalRecord) (r : Named)
    → (if t then Some (Appends (decision_record g)) else if u then option_map WritesDone x else None) ≡ Some y → IsWanted (Some y) item
    → Contains (registrations_of item) r → item ≡ decision_record g
wanted_decision g true u x y item r is wants among = appends y is wants
  where
    appends : (y : Wanted) → Some (Appends (decision_record g)) ≡ Some y → IsWanted (Some y) item → item ≡ decision_record g
    appends (Appends other) is wants = wants ∙ same is
      where
        same : {a b : JournalRecord} → Some (Appends a) ≡ Some (Appends b) → b ≡ a
        same e = cc
    appends (WritesDone done) is wants = absurd cc
    appends Rereads is wants = absurd cc
wanted_decision g false true (Some done) y item r is wants among = absurd (none_named r (subst (λ (x : JournalRecord). Contains (registrations_of x) r) (names y is wants) among))
  where
    names : (y : Wanted) → Some (WritesDone done) ≡ Some y → IsWanted (Some y) item → item ≡ Done done
    names (Appends other) is wants = absurd cc
    names (WritesDone other) is wants = wants ∙ same is
      where
        same : {a b : ℕ} → Some (WritesDone a) ≡ Some (WritesDone b) → Done b ≡ Done a
        same e = cc
    names Rereads is wants = absurd cc
wanted_decision g false true None y item r is wants among = absurd cc
wanted_decision g false false x y item r is wants among = absurd cc

-- a record that is the decision of a key has its slot
decision_slot : (key : ObjectKey) (g : Family) → is_decision_of key (decision_record g) ≡ true → g.key.slot ≡ key.slot
unfolding decision_record
decision_slot key g is = three g.key.life g.key.slot g.key.generation key.life key.slot key.generation is
  where
    three : (a b c p q r : ℕ) → (a == p && b == q && c == r) ≡ true → b ≡ q
    three a b c p q r is = grind (arith, nat_tests)

registrations_are : (g : Family) → registrations_of (decision_record g) ≡ named g.completion
unfolding decision_record
registrations_are g = refl

-- one of what was wanted
one_wanted : (x : Option Wanted) (behind : List JournalRecord) (item : JournalRecord) → AreWanted x behind → Contains behind item → IsWanted x item
one_wanted x [] item are (i, less, is) = absurd (omega (arith, less))
one_wanted x (y ∷ []) item are among = elim (Contains-push_cases [] y item among) [
  | inl none ↦ let l = none.1 in absurd (omega (arith, l))
  | inr is ↦ subst (IsWanted x) is are
]
one_wanted x (y ∷ z ∷ others) item are among = absurd are

-- ---- where a family comes from

record CameFrom (w : World) (place slot : ℕ) (g : Family) : Type 0 where
  n : Node
  f : Family
  up : node_at w place ≡ Some n
  there : family_in n.families slot ≡ Some f
  key : g.key ≡ f.key
  party : (index : ℕ) (to : List ℕ) → HasParty f.completion index to → HasParty g.completion index to

module _ (rightly : FamiliesStepRightly) (numbers : FamiliesNumberWords) (w : World) (told : List Told) (k : Known w told) (are : RecordsNameParties w) where
  as_it_was : (place slot : ℕ) (g : Family) (n : Node) → node_at w place ≡ Some n → family_in n.families slot ≡ Some g → CameFrom w place slot g
  as_it_was place slot g n up there = record { n = n; f = g; up = up; there = there; key = refl; party = λ index to has. has }

  stepped : (place slot : ℕ) (g : Family) (n : Node) (f : Family) (e : Event) (stood : Option Stood) → node_at w place ≡ Some n → family_in n.families slot ≡ Some f
      → g ≡ (family_step f e stood).family → CameFrom w place slot g
  stepped place slot g n f e stood up there is = record {
    n = n;
    f = f;
    up = up;
    there = there;
    key = ap (λ (x : Family). x.key) is ∙ numbers.key f e stood;
    party = λ index to has. subst (λ (x : Family). HasParty x.completion index to) (sym is) (step_party rightly f e stood index to has);
  }

  -- it was there, or is a new one
  came_from : (place : ℕ) (m : Node) → Becomes w place m → (slot : ℕ) (g : Family) → family_in m.families slot ≡ Some g
      → CameFrom w place slot g ⊎ (g.completion ≡ Waiting no_room)
  came_from place _ (loaded_so service rs) slot g there = absurd (none_in slot_limit slot g there)
  came_from place _ (made now seconds n up) slot g there = elim (made_in now seconds n slot g there) [
    | inl old ↦ inl (as_it_was place slot g n up old)
    | inr new ↦ inr new
  ]
  came_from place _ (called key e stood n up never) slot g there = elim (came_by numbers key e stood n slot g there) [
    | inl old ↦ inl (as_it_was place slot g n up old)
    | inr (f, of, was, same) ↦ inl (stepped place slot g n f e stood up was same)
  ]
  came_from place _ (heard_so nth reply now o answer stood n up word replied) slot g there =
      elim (came_by numbers (family_key place o.number) (answer_event o answer now) stood n slot g there) [
        | inl old ↦ inl (as_it_was place slot g n up old)
        | inr (f, of, was, same) ↦ inl (stepped place slot g n f (answer_event o answer now) stood up was same)
      ]
  came_from place _ (ticked now n up) slot g there = elim (came_by_tick now n slot g there) [
    | inl old ↦ inl (as_it_was place slot g n up old)
    | inr (f, was, same) ↦ inl (stepped place slot g n f (tick_at now) None up was same)
  ]

  -- ---- a record that was asked for

  asked_party : (place : ℕ) (n : Node) (slot : ℕ) (f : Family) (now : ℕ) (o : Outward) (answer : Said) (x : Option Wanted) (item : JournalRecord) (r : Named)
      → node_at w place ≡ Some n → family_in n.families slot ≡ Some f → Asks place now o answer n x → IsWanted x item → is_decision_of f.key item ≡ true
      → Contains (registrations_of item) r → HasParty f.completion r.index r.reference
  asked_party place n slot f now o answer _ item r up there nothing wants decides among = absurd wants
  asked_party place n slot f now o answer _ item r up there (of_record done again is) wants decides among =
      absurd (none_named r (subst (λ (x : JournalRecord). Contains (registrations_of x) r) wants among))
  asked_party place n slot f now o answer _ item r up there (of_family g b y of waits is) wants decides among =
      subst (λ (x : Family). HasParty x.completion r.index r.reference) (inner (sym at.0 ∙ ap (family_in n.families) same_slot ∙ there))
      (heard_party g o answer b r.index r.reference g.completion refl (heard_as g o.number (heard_in answer) b waits (known_g.legs b))
      (named_party h.completion r (subst (λ (rs : List Named). Contains rs r) (ap registrations_of item_is ∙ registrations_are h) among)))
    where
      h : Family
      h = (hears o.number (heard_in answer) g).family

      at : (family_in n.families o.number.slot ≡ Some g) × IsTrue (is_of (family_key place o.number) g)
      at = key_slot (family_key place o.number) n g of

      known_g : FamilyIsKnown w (lines_of told) g
      known_g = slot_known w told k place n up o.number.slot g at.0

      item_is : item ≡ decision_record h
      item_is = wanted_decision h (stages.wants_decision h.completion) (wants_done h) (record_place h.completion) y item r (sym (wanted_heard g b now o answer waits) ∙ is) wants among

      -- it is in the slot of that one
      same_slot : o.number.slot ≡ slot
      same_slot =
          sym (in_slot w told k place n up o.number.slot g at.0).own_slot
          ∙ ap (λ (x : ObjectKey). x.slot) (sym (heard_same_key g o.number (heard_in answer) b waits (known_g.legs b)))
          ∙ decision_slot f.key h (subst (λ (x : JournalRecord). is_decision_of f.key x ≡ true) item_is decides)
          ∙ (in_slot w told k place n up slot f there).own_slot

  by_records : (place : ℕ) (n : Node) (slot : ℕ) (f : Family) (rs : List JournalRecord) (item : JournalRecord) (r : Named) → node_at w place ≡ Some n
      → family_in n.families slot ≡ Some f → RecordsCome w place rs → Contains rs item → is_decision_of f.key item ≡ true
      → Contains (registrations_of item) r → HasParty f.completion r.index r.reference
  unfolding records_in
  by_records place n slot f rs item r up there (as_before held) among decides named_so = are place n slot f rs item r up there held among decides named_so
  by_records place n slot f rs item r up there (on_new empty) among decides named_so = absurd (no_records rs empty item among)
    where
      no_records : (rs : List JournalRecord) → records_in (service_at place) [] ≡ Some rs → (item : JournalRecord) → Contains rs item → ⊥
      no_records [] is item (i, less, at) = omega (arith, less)
      no_records (x ∷ rs) is item among = absurd cc
  by_records place n slot f rs item r up there (with_life was life held is) among decides named_so =
      elim (Contains-push_cases was (Life life) item (subst (λ (xs : List JournalRecord). Contains xs item) is among)) [
        | inl old ↦ are place n slot f was item r up there held old decides named_so
        | inr new ↦ absurd (none_named r (subst (λ (x : JournalRecord). Contains (registrations_of x) r) (sym new) named_so))
      ]
  by_records place n slot f rs item r up there (with_asked was behind n_then nth reply now o answer held up_then word replied asked is) among decides named_so =
      elim (Contains-append_cases was behind item (subst (λ (xs : List JournalRecord). Contains xs item) is among)) [
        | inl old ↦ are place n slot f was item r up there held old decides named_so
        | inr new ↦ asked_party place n_then slot f now o answer _ item r up_then
            (subst (λ (x : Node). family_in x.families slot ≡ Some f) (inner (sym up ∙ up_then)) there) (asks_of place now o answer n_then)
            (one_wanted _ behind item asked new) decides named_so
      ]

  -- ---- a step

  pub named_step : (v : World) (later : List Told) → Known v later → NodesGo w v → RecordsGo w v → RecordsNameParties v
  named_step v later known_then nodes records place m slot g rs item r up there held among decides named_so = by (nodes place m up)
    where
      -- a new one has no record
      recorded : g.completion ≡ Waiting no_room → ⊥
      recorded new =
          no (sym (ap stages.outcome new) ∙ (slot_known v later known_then place m up slot g there).recorded.0
          (ap (λ (i : ℕ). has_record v i (is_decision_of g.key)) (slot_place v later known_then place m up slot g there)
          ∙ ap (λ (o : Option (List JournalRecord)). option_map_or (λ (xs : List JournalRecord). list_any (is_decision_of g.key) xs) o false) held
          ∙ list_any-from_Any (is_decision_of g.key) rs (among.0, item, among.1, among.2, decides)))
        where
          no : ◌≡◌ {A = Option Outcome} None (Some (outcomes.Commit Record)) → ⊥
          no e = cc

      came : CameFrom w place slot g → HasParty g.completion r.index r.reference
      came from =
          from.party r.index r.reference (by_records place from.n slot from.f rs item r from.up from.there (records place rs held) among
          (subst (λ (x : ObjectKey). is_decision_of x item ≡ true) from.key decides) named_so)

      by : (node_at w place ≡ Some m) ⊎ Becomes w place m → HasParty g.completion r.index r.reference
      by (inl old) = came (as_it_was place slot g m old there)
      by (inr new) = elim (came_from place m new slot g there) [ inl from ↦ came from | inr first ↦ absurd (recorded first) ]
