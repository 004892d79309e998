-- The dues of the records that a node holds: each party waits for commit still, or something is so of its object.
use Rattle.std.proofs.Common.{◌≡◌, ◌⊎◌, inl, inr, ℕ, suc, ◌==◌, ◌&&◌, not, nat_lt, Bool, true, false, cond, if◌then◌else◌, List, [], ◌∷◌, ◌++◌, map, filter, filter_map, find, Contains, Option, Some, None, refl, sym, ap, subst, ◌∙◌, arith}
use Rattle.std.specs.Prelude.{Ok}
use Rattle.std.specs.List.{AllByRecursion, cons_option, list_any}
use Rattle.std.specs.Option.{option_and_then}
use Rattle.std.proofs.lemmas.Bool.Decides.{nat_tests}
use Rattle.std.proofs.lemmas.List.Elements.{Contains-append_right}
use Rattle.ior_refs.specs.declared.key.ObjectKey.{ObjectKey}
use Rattle.ots_model.specs.declared.completion.CallNumber.{CallNumber}
use Rattle.ots_model.specs.declared.completion.Stood.{Stood}
use Rattle.ots_model.specs.declared.completion.Stood.TheVariants as answers
use Rattle.ots_model.specs.declared.tree.Heard.{Heard}
use Rattle.two_phase.specs.Stages as stages
use Rattle.decision_journal.specs.Journal.{Found, is_decision_at}
use Rattle.decision_journal.specs.declared.journal.Standing.{Standing}
use Rattle.decision_journal.specs.declared.record.JournalRecord.{JournalRecord}
use Rattle.decision_journal.specs.declared.record.JournalRecord.TheVariants.{Life, Decision, Done, Prepared, CellsPrepared, CellsOutcome, CellsOnePhase}
use Rattle.decision_journal.specs.declared.record.Registration.{Registration as Named}
use Rattle.recovery_coord.specs.Held.{before, behind, held_of, is_complete, is_held, listed, loaded, none_listed, party_of, taken}
use Rattle.recovery_coord.specs.Hearing.{completed, due_after, held_after, is_retold, party_after, record_after, records_after}
use Rattle.recovery_coord.specs.Laws.{registrations_of}
use Rattle.recovery_coord.specs.Limits.{retold_slot}
use Rattle.recovery_coord.specs.Telling.{recalled, retold}
use Rattle.recovery_coord.specs.declared.held.Due.TheVariants as due
use Rattle.recovery_coord.specs.declared.held.Held.{Held}
use Rattle.recovery_coord.specs.declared.held.Party.{Party}
use Rattle.coordinator.specs.declared.event.Act.{Act}
use Rattle.coordinator.specs.declared.event.Act.TheVariants as acts
use Rattle.coordinator.specs.declared.event.Event.{Event}
use Rattle.coordinator.specs.declared.node.NodeFault.TheVariants as faults
use Rattle.coordinator.specs.declared.said.Said.{Said}
use Rattle.coordinator.specs.Family.{Family, new_family}
use Rattle.coordinator.specs.Hearing.{record_place}
use Rattle.coordinator.specs.History.{has_room}
use Rattle.coordinator.specs.Node.{Node, family_in, life, load}
use Rattle.coordinator.specs.NodeCalls.{RetoldAnswer, answers_recovered, applied_by, applies, by_records, family_for, hears_record, records_hear, records_with, refuses, replies, retold_answer, steps_to}
use Rattle.coordinator.specs.NodeRecords.{record_of, record_says}
use Rattle.coordinator.specs.NodeSlots.{creates, deadline_after, free_slot, held_for, left_record, makes, makes_in, makes_no_family, next_key, takes_over, with_new}
use Rattle.coordinator.specs.NodeTick.{takes_all_over, ticked, ticks}
use Rattle.coordinator.specs.Step.{family_step, is_finished}
use Rattle.nodes_world.specs.AgreementInside.{is_prepared}
use Rattle.nodes_world.proofs.LoadedLines.{all_both}
use Rattle.nodes_world.proofs.NodesGo.{IsNoAnswer}

-- ---- lists

all_filter : {A : Type 0} (P : A → Type 0) (t : A → Bool) (xs : List A) → AllByRecursion P xs → AllByRecursion P (filter t xs)
all_filter P t [] all = tt
all_filter P t (x ∷ xs) (one, all) = by (t x) (all_filter P t xs all)
  where
    by : (b : Bool) → AllByRecursion P (filter t xs) → AllByRecursion P (cond b (x ∷ filter t xs) (filter t xs))
    by true rest = (one, rest)
    by false rest = rest

-- what holds of each becomes so
pub all_turned : {A : Type 0} (P Q : A → Type 0) (g : A → A) (xs : List A) → ((x : A) → Contains xs x → P x → Q (g x)) → AllByRecursion P xs → AllByRecursion Q (map g xs)
all_turned P Q g [] turns all = tt
all_turned P Q g (x ∷ xs) turns (one, all) =
    (turns x (0, omega arith, refl) one, all_turned P Q g xs (λ y c. turns y (Contains-append_right (x ∷ []) xs y c)) all)

pub all_each : {A : Type 0} (P Q : A → Type 0) (xs : List A) → ((x : A) → P x → Q x) → AllByRecursion P xs → AllByRecursion Q xs
all_each P Q [] each all = tt
all_each P Q (x ∷ xs) each (one, all) = (each x one, all_each P Q xs each all)

-- ---- dues

-- it waits for commit still, or this is so of its object
abbrev pub IsDueOr : (List ℕ → Type 0) → Party → Type 0
IsDueOr P p = (p.due ≡ due.Commit) ⊎ P p.to

abbrev pub AreDueOr : (List ℕ → Type 0) → Held → Type 0
AreDueOr P h = AllByRecursion (IsDueOr P) h.parties

-- those that a record of a finished family leaves
abbrev pub AreLeft : (List ℕ → Type 0) → Family → Standing → Type 0
AreLeft P f s = (is_prepared s.item ≡ false)
    × ((r : Named) → Contains (registrations_of s.item) r → list_any (λ k. k == r.index) (stages.pending_commits f.completion) ≡ false → P r.reference)

module _ (P : List ℕ → Type 0) where
  -- ---- a record is held

  one_party : (commits forgets : List ℕ) (r : Named) → (none_listed commits forgets ≡ false → list_any (λ k. k == r.index) commits ≡ false → P r.reference)
      → IsDueOr P (party_of due.Commit commits forgets r)
  one_party commits forgets r so = by (none_listed commits forgets) refl
    where
      by_lists : none_listed commits forgets ≡ false → (a b : Bool) → list_any (λ k. k == r.index) commits ≡ a
          → ((if a then due.Commit else if b then due.Forget else due.Nothing) ≡ due.Commit) ⊎ P r.reference
      by_lists some true b is = inl refl
      by_lists some false b is = inr (so some is)

      by : (t : Bool) → none_listed commits forgets ≡ t → ((if t then due.Commit else listed commits forgets r.index) ≡ due.Commit) ⊎ P r.reference
      by true is = inl refl
      by false is = by_lists is (list_any (λ k. k == r.index) commits) (list_any (λ k. k == r.index) forgets) refl

  all_parties : (commits forgets : List ℕ) (regs : List Named)
      → ((r : Named) → Contains regs r → none_listed commits forgets ≡ false → list_any (λ k. k == r.index) commits ≡ false → P r.reference)
      → AllByRecursion (IsDueOr P) (map (party_of due.Commit commits forgets) regs)
  all_parties commits forgets [] so = tt
  all_parties commits forgets (r ∷ regs) so =
      (one_party commits forgets r (so r (0, omega arith, refl)), all_parties commits forgets regs (λ q c. so q (Contains-append_right (r ∷ []) regs q c)))

  held_due : (place : ℕ) (item : JournalRecord) (commits forgets : List ℕ) (h : Held) → is_prepared item ≡ false
      → ((r : Named) → Contains (registrations_of item) r → none_listed commits forgets ≡ false → list_any (λ k. k == r.index) commits ≡ false → P r.reference)
      → held_of place item commits forgets ≡ Some h → AreDueOr P h
  held_due place (Life in_life) commits forgets h bare so is = absurd cc
  held_due place (Decision in_life slot generation retry asked regs) commits forgets h bare so is =
      subst (AreDueOr P) (inner is) (all_parties commits forgets regs so)
    where
      inner : {a b : Held} → Some a ≡ Some b → a ≡ b
      inner e = cc
  held_due place (Done named) commits forgets h bare so is = absurd cc
  held_due place (Prepared in_life slot generation recovery regs) commits forgets h bare so is = absurd cc
  held_due place (CellsPrepared in_life number recovery puts) commits forgets h bare so is = absurd cc
  held_due place (CellsOutcome named how) commits forgets h bare so is = absurd cc
  held_due place (CellsOnePhase in_life number puts) commits forgets h bare so is = absurd cc

  -- ---- a load

  loaded_due : (xs : List Standing) → AllByRecursion (λ (s : Standing). is_prepared s.item ≡ false) xs → AllByRecursion (AreDueOr P) (filter_map loaded xs)
  loaded_due [] all = tt
  loaded_due (s ∷ xs) (one, all) = by (loaded s) refl (loaded_due xs all)
    where
      no : true ≡ false → ⊥
      no e = cc

      by : (o : Option Held) → loaded s ≡ o → AllByRecursion (AreDueOr P) (filter_map loaded xs) → AllByRecursion (AreDueOr P) (cons_option o (filter_map loaded xs))
      by (Some h) is rest = (held_due s.place s.item [] [] h one (λ r c some none. absurd (no some)) is, rest)
      by None is rest = rest

  pub load_due : (service : ℕ) (rs : List JournalRecord) → AllByRecursion (λ (s : Standing). is_prepared s.item ≡ false) (load service rs).found.standing
      → AllByRecursion (AreDueOr P) (load service rs).recovered
  load_due service rs all = loaded_due (load service rs).found.standing all

  -- ---- a record is taken over

  all_taken : (o : Option Held) (xs : List Held) → ((h : Held) → o ≡ Some h → AreDueOr P h) → AllByRecursion (AreDueOr P) xs → AllByRecursion (AreDueOr P) (taken o xs)
  all_taken None xs new all = all
  all_taken (Some h) xs new all = by (is_held h.place xs)
    where
      by : (t : Bool) → AllByRecursion (AreDueOr P) (if t then xs else before h.place xs ++ h ∷ behind h.place xs)
      by true = all
      by false =
          all_both (AreDueOr P) (before h.place xs) (h ∷ behind h.place xs) (all_filter (AreDueOr P) (λ (r : Held). nat_lt r.place h.place) xs all)
          (new h refl, all_filter (AreDueOr P) (λ (r : Held). nat_lt h.place r.place) xs all)

  -- the record of one family
  one_over : (found : Found) (o : Option Family) (xs : List Held) → ((f : Family) (s : Standing) → o ≡ Some f → left_record found f ≡ Some s → AreLeft P f s)
      → AllByRecursion (AreDueOr P) xs → AllByRecursion (AreDueOr P) (takes_over found o xs)
  one_over found None xs left all = all
  one_over found (Some f) xs left all = all_taken (option_and_then (held_for f) (left_record found f)) xs (λ h. by (left_record found f) refl h) all
    where
      by : (o : Option Standing) → left_record found f ≡ o → (h : Held) → option_and_then (held_for f) o ≡ Some h → AreDueOr P h
      by (Some s) is h held =
          let so = left f s refl is in
          held_due s.place s.item (stages.pending_commits f.completion) (stages.pending_forgets f.completion) h so.0 (λ r c some none. so.1 r c none) held
      by None is h held = absurd cc

  all_over : (found : Found) (fs : List (Option Family)) (xs : List Held)
      → ((slot : ℕ) (f : Family) (s : Standing) → family_in fs slot ≡ Some f → left_record found f ≡ Some s → AreLeft P f s)
      → AllByRecursion (AreDueOr P) xs → AllByRecursion (AreDueOr P) (takes_all_over found fs xs)
  all_over found [] xs left all = all
  all_over found (o ∷ fs) xs left all =
      all_over found fs (takes_over found o xs) (λ slot f s is. left (suc slot) f s is) (one_over found o xs (λ f s is. left 0 f s is) all)

  -- ---- a family is made, or time passes

  pub made_due : (now seconds : ℕ) (n : Node) → ((slot : ℕ) (f : Family) (s : Standing) → family_in n.families slot ≡ Some f → left_record n.found f ≡ Some s → AreLeft P f s)
      → AllByRecursion (AreDueOr P) n.recovered → AllByRecursion (AreDueOr P) (creates now seconds n).node.recovered
  unfolding creates makes
  made_due now seconds n left all = by (free_slot n)
    where
      make : ObjectKey → Family
      make key = new_family key (deadline_after now seconds)

      by_number : (slot : ℕ) (t : Bool)
          → AllByRecursion (AreDueOr P) (if t then record { node = with_new make slot n; answer = Ok (next_key n slot) } else makes_no_family n).node.recovered
      by_number slot true = one_over n.found (family_in n.families slot) n.recovered (λ f s is. left slot f s is) all
      by_number slot false = all

      by : (o : Option ℕ) → AllByRecursion (AreDueOr P) (makes_in o make n).node.recovered
      by (Some slot) = by_number slot _
      by None = all

  recalled_due : (ps : List Party) → AllByRecursion (IsDueOr P) (map recalled ps)
  recalled_due [] = tt
  recalled_due (p ∷ ps) = (inl refl, recalled_due ps)

  retold_due : (h : Held) → AreDueOr P h → AreDueOr P (retold h)
  retold_due h all = by (is_complete h)
    where
      by : (t : Bool) → AreDueOr P (if t then record h { parties = map recalled h.parties } else h)
      by true = recalled_due h.parties
      by false = all

  pub ticked_due : (now : ℕ) (n : Node)
      → ((slot : ℕ) (f : Family) (s : Standing) → family_in (ticks now n).node.families slot ≡ Some f → left_record n.found f ≡ Some s → AreLeft P f s)
      → AllByRecursion (AreDueOr P) n.recovered → AllByRecursion (AreDueOr P) (ticks now n).node.recovered
  unfolding ticks
  ticked_due now n left all =
      all_turned (AreDueOr P) (AreDueOr P) retold (takes_all_over n.found (map (ticked now) n.families) n.recovered) (λ h c. retold_due h)
      (all_over n.found (map (ticked now) n.families) n.recovered left all)

  -- ---- an answer is heard

  party_due : (serial : ℕ) (h : Heard) (p : Party) → (p.index ≡ serial → P p.to) → IsDueOr P p → IsDueOr P (party_after serial h p)
  party_due serial h p so was = by (p.index == serial) refl
    where
      equal : p.index == serial ≡ true → p.index ≡ serial
      equal is = grind (arith, nat_tests, is)

      by : (t : Bool) → p.index == serial ≡ t → IsDueOr P (if t then record p { due = due_after p.due h } else p)
      by true is = inr (so (equal is))
      by false is = was

  -- where the answer to such a number makes it so
  pub record_due : (n : CallNumber) (h : Heard) (r : Held) → (r.place ≡ n.generation → (p : Party) → Contains r.parties p → p.index ≡ n.serial → P p.to)
      → AreDueOr P r → AreDueOr P (record_after n h r)
  record_due n h r so all = by (r.place == n.generation) refl
    where
      equal : r.place == n.generation ≡ true → r.place ≡ n.generation
      equal is = grind (arith, nat_tests, is)

      by : (t : Bool) → r.place == n.generation ≡ t → AreDueOr P (if t then held_after n.serial h r else r)
      by true is = all_turned (IsDueOr P) (IsDueOr P) (party_after n.serial h) r.parties (λ p c. party_due n.serial h p (so (equal is) p c)) all
      by false is = all

  heard_due : (in_life : ℕ) (n : CallNumber) (h : Heard) (xs : List Held)
      → ((r : Held) → Contains xs r → r.place ≡ n.generation → (p : Party) → Contains r.parties p → p.index ≡ n.serial → P p.to)
      → AllByRecursion (AreDueOr P) xs → AllByRecursion (AreDueOr P) (records_after in_life n h xs)
  heard_due in_life n h xs so all = by (is_retold in_life n)
    where
      by : (t : Bool) → AllByRecursion (AreDueOr P) (if t then map (record_after n h) xs else xs)
      by true = all_turned (AreDueOr P) (AreDueOr P) (record_after n h) xs (λ r c. record_due n h r (so r c)) all
      by false = all

  without_due : (c : Option ℕ) (stood : Option Stood) (xs : List Held) → AllByRecursion (AreDueOr P) xs → AllByRecursion (AreDueOr P) (records_with c stood xs)
  without_due (Some place) (Some (answers.Stands done)) xs all = all_filter (AreDueOr P) (λ (r : Held). not (r.place == place)) xs all
  without_due (Some place) (Some (answers.Full used need)) xs all = all
  without_due (Some place) (Some (answers.Unsure why)) xs all = all
  without_due (Some place) None xs all = all
  without_due None stood xs all = all

  -- ---- a call

  abbrev HeardIn : Node → RetoldAnswer → Type 0
  HeardIn n a = (r : Held) → Contains n.recovered r → r.place ≡ a.number.generation → (p : Party) → Contains r.parties p → p.index ≡ a.number.serial → P p.to

  record_heard : (a : RetoldAnswer) (stood : Option Stood) (n : Node) → HeardIn n a → AllByRecursion (AreDueOr P) n.recovered
      → AllByRecursion (AreDueOr P) (hears_record a.number a.heard stood n).node.recovered
  unfolding hears_record
  record_heard a stood n so all = by (is_held a.number.generation n.recovered)
    where
      by : (t : Bool) → AllByRecursion (AreDueOr P) (if t then records_hear a.number a.heard stood n else refuses faults.ObjectNotExist n).node.recovered
      by true =
          without_due (completed (life n) a.number a.heard n.recovered) stood (records_after (life n) a.number a.heard n.recovered)
          (heard_due (life n) a.number a.heard n.recovered so all)
      by false = all

  recovered_due : (k : ObjectKey) (e : Event) (stood : Option Stood) (n : Node) → ((a : RetoldAnswer) → retold_answer e.act ≡ Some a → HeardIn n a)
      → AllByRecursion (AreDueOr P) n.recovered → AllByRecursion (AreDueOr P) (answers_recovered k e stood n).node.recovered
  unfolding answers_recovered
  recovered_due k e stood n so all = by (retold_answer e.act) refl
    where
      says : (o : Option Said) → AllByRecursion (AreDueOr P) (replies o n).node.recovered
      says (Some answer) = all
      says None = all

      by : (a : Option RetoldAnswer) → retold_answer e.act ≡ a → AllByRecursion (AreDueOr P) (by_records a k e stood n).node.recovered
      by (Some a) is = record_heard a stood n (so a is) all
      by None is = says (option_and_then (record_says k e.key e.act) (record_of k n))

  pub applied_due : (k : ObjectKey) (e : Event) (stood : Option Stood) (n : Node) → ((a : RetoldAnswer) → retold_answer e.act ≡ Some a → HeardIn n a)
      → AllByRecursion (AreDueOr P) n.recovered → AllByRecursion (AreDueOr P) (applies k e stood n).node.recovered
  unfolding applies
  applied_due k e stood n so all = by (family_for k e n)
    where
      by_family : (f : Family) (t : Bool)
          → AllByRecursion (AreDueOr P) (if t then steps_to n f e stood (family_step f e stood) else refuses faults.NoResources n).node.recovered
      by_family f true = all
      by_family f false = all

      by : (o : Option Family) → AllByRecursion (AreDueOr P) (applied_by o k e stood n).node.recovered
      by (Some f) = by_family f (has_room f.entries e)
      by None = recovered_due k e stood n so all

-- an answer that was told again is one
pub retold_is : (act : Act) (a : RetoldAnswer) → retold_answer act ≡ Some a → (act ≡ acts.Answer a.number a.heard) × (a.number.slot ≡ retold_slot)
retold_is (acts.Answer n h) a is = by (n.slot == retold_slot) refl is
  where
    equal : n.slot == retold_slot ≡ true → n.slot ≡ retold_slot
    equal same = grind (arith, nat_tests, same)

    by : (t : Bool) → n.slot == retold_slot ≡ t → (if t then Some (record { number = n; heard = h }) else None) ≡ Some a
        → (acts.Answer n h ≡ acts.Answer a.number a.heard) × (a.number.slot ≡ retold_slot)
    by true own same =
        let parts : ◌≡◌ {A = RetoldAnswer} (record { number = n; heard = h }) a = inner same in
        (ap (λ (x : RetoldAnswer). acts.Answer x.number x.heard) parts, ap (λ (x : RetoldAnswer). x.number.slot) (sym parts) ∙ equal own)
      where
        inner : {x y : RetoldAnswer} → Some x ≡ Some y → x ≡ y
        inner e = cc
    by false own same = absurd cc
retold_is _ a is = absurd cc

pub none_retold : (act : Act) → IsNoAnswer act → (a : RetoldAnswer) → retold_answer act ≡ Some a → ⊥
none_retold act never a is = never a.number a.heard (retold_is act a is).0

-- ---- the record that a family leaves

-- it stands, where the family was decided
pub left_stands : (found : Found) (f : Family) (s : Standing) → left_record found f ≡ Some s → Contains found.standing s × (record_place f.completion ≡ Some s.place)
left_stands found f s is = by_end (is_finished f) is
  where
    first_at : (place : ℕ) (ss : List Standing) → find (is_decision_at place) ss ≡ Some s → Contains ss s × (place ≡ s.place)
    first_at place [] e = absurd cc
    first_at place (x ∷ ss) e = by (is_decision_at place x) refl e (first_at place ss)
      where
        at : (a b : ℕ) (t : Bool) → (a == b && t) ≡ true → b ≡ a
        at a b t i = grind (arith, nat_tests)

        inner : {a b : Standing} → Some a ≡ Some b → a ≡ b
        inner i = cc

        by : (t : Bool) → is_decision_at place x ≡ t → cond t (Some x) (find (is_decision_at place) ss) ≡ Some s
            → (find (is_decision_at place) ss ≡ Some s → Contains ss s × (place ≡ s.place)) → Contains (x ∷ ss) s × (place ≡ s.place)
        by true here same others = ((0, omega arith, inner same), at x.place place _ here ∙ ap (λ (y : Standing). y.place) (inner same))
        by false here same others = let later = others same in (Contains-append_right (x ∷ []) ss s later.0, later.1)

    by_place : (o : Option ℕ) → option_and_then (λ place. find (is_decision_at place) found.standing) o ≡ Some s → Contains found.standing s × (o ≡ Some s.place)
    by_place (Some place) e = let at = first_at place found.standing e in (at.0, ap (λ (i : ℕ). Some i) at.1)
    by_place None e = absurd cc

    by_end : (t : Bool) → (if t then option_and_then (λ place. find (is_decision_at place) found.standing) (record_place f.completion) else None) ≡ Some s
        → Contains found.standing s × (record_place f.completion ≡ Some s.place)
    by_end true e = by_place (record_place f.completion) e
    by_end false e = absurd cc
