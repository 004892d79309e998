-- What a node holds of records is of those that stand.
use Rattle.std.proofs.Common.{◌≡◌, ◌∙◌, ℕ, zero, suc, ◌+◌, ◌<◌, Bool, true, false, cond, List, [], ◌∷◌, ◌++◌, length, get_or, map, take, Option, Some, None, refl, sym, ap, subst, arith}
use Rattle.std.specs.Prelude.{find, ◌==◌, ◌&&◌}
use Rattle.std.specs.List.{AllByRecursion, Any, cons_option, filter, filter_map}
use Rattle.std.specs.Option.{option_and_then}
use Rattle.std.proofs.lemmas.List.{get_or_default, map_more}
use Rattle.std.proofs.lemmas.Bool.Decides.{nat_tests}
use Rattle.decision_journal.specs.Journal.{Found, is_decision, is_decision_at}
use Rattle.decision_journal.specs.declared.record.JournalRecord.{JournalRecord}
use Rattle.decision_journal.specs.declared.record.JournalRecord.TheVariants.{Life, Decision, Done, Prepared, CellsPrepared, CellsOutcome, CellsOnePhase}
use Rattle.decision_journal.specs.declared.journal.Standing.{Standing}
use Rattle.recovery_coord.specs.declared.held.Held.{Held}
use Rattle.recovery_coord.specs.Held.{before, behind, held_of, is_complete, is_held, loaded, taken}
use Rattle.recovery_coord.specs.Telling.{recalled, retold}
use Rattle.coordinator.specs.Family.{Family}
use Rattle.coordinator.specs.Hearing.{record_place}
use Rattle.coordinator.specs.NodeSlots.{held_for, left_record, takes_over}
use Rattle.coordinator.specs.NodeTick.{takes_all_over, ticked}
use Rattle.coordinator.specs.Step.{is_finished}
use Rattle.service_node.specs.Ticking.{AreTaken}

-- a record stands at this place
abbrev pub IsThere : List Standing → ℕ → Type 0
IsThere standing place = Any (λ s. s.place ≡ place) standing

abbrev pub AllStand : List Standing → List Held → Type 0
AllStand standing records = AllByRecursion (λ r. Any (λ s. s.place ≡ r.place) standing) records

pub shifted : (s : Standing) (ss : List Standing) (place : ℕ) → IsThere ss place → IsThere (s ∷ ss) place
shifted s ss place any = (suc any.0, any.1, omega (arith, any.2), any.3, any.4)

pub found_there : (p : Standing → Bool) (ss : List Standing) (s : Standing) → find p ss ≡ Some s → IsThere ss s.place
found_there p [] s e = absurd cc
found_there p (x ∷ ss) s e = by_test (p x) e (found_there p ss s)
  where
    by_test : (b : Bool) → cond b (Some x) (find p ss) ≡ Some s → (find p ss ≡ Some s → IsThere ss s.place) → IsThere (x ∷ ss) s.place
    by_test true e rest = (zero, x, omega arith, refl, let same : x ≡ s = cc in ap (λ (t : Standing). t.place) same)
    by_test false e rest = shifted x ss s.place (rest e)

-- ---- after a load

module _ (all : List Standing) where
  loaded_in : (ss : List Standing) → ((k : ℕ) (d : Standing) → k < length ss → IsThere all (get_or ss k d).place) → AllStand all (filter_map loaded ss)
  loaded_in [] there = tt
  loaded_in (s ∷ ss) there = by_item s.item (loaded_in ss (λ k d lt. there (suc k) d (omega (arith, lt))))
    where
      here : IsThere all s.place
      here = there zero s (omega arith)

      by_item : (item : JournalRecord) → AllStand all (filter_map loaded ss) → AllStand all (cons_option (held_of s.place item [] []) (filter_map loaded ss))
      by_item (Life life) rest = rest
      by_item (Decision life slot generation k asked regs) rest = (here, rest)
      by_item (Done named) rest = rest
      by_item (Prepared life slot generation recovery regs) rest = (here, rest)
      by_item (CellsPrepared life number recovery ps) rest = rest
      by_item (CellsOutcome named ending) rest = rest
      by_item (CellsOnePhase life number ps) rest = rest

pub loaded_stand : (ss : List Standing) → AllStand ss (filter_map loaded ss)
loaded_stand ss = loaded_in ss ss (λ k d lt. (k, get_or ss k d, lt, get_or_default ss k (get_or ss k d) d lt, refl))

-- ---- records that are taken over

module _ (standing : List Standing) where
  pub filtered_stand : (p : Held → Bool) (rs : List Held) → AllStand standing rs → AllStand standing (filter p rs)
  filtered_stand p [] all = tt
  filtered_stand p (r ∷ rs) all = by_test (p r) (filtered_stand p rs all.1)
    where
      by_test : (b : Bool) → AllStand standing (filter p rs) → AllStand standing (cond b (r ∷ filter p rs) (filter p rs))
      by_test true rest = (all.0, rest)
      by_test false rest = rest

  joined_stand : (rs more : List Held) → AllStand standing rs → AllStand standing more → AllStand standing (rs ++ more)
  joined_stand [] more all others = others
  joined_stand (r ∷ rs) more all others = (all.0, joined_stand rs more all.1 others)

  taken_stand : (o : Option Held) (rs : List Held) → ((r : Held) → o ≡ Some r → IsThere standing r.place) → AllStand standing rs → AllStand standing (taken o rs)
  taken_stand None rs there all = all
  taken_stand (Some r) rs there all = by_held (is_held r.place rs)
    where
      by_held : (b : Bool) → AllStand standing (cond b rs (before r.place rs ++ r ∷ behind r.place rs))
      by_held true = all
      by_held false = joined_stand (before r.place rs) (r ∷ behind r.place rs) (filtered_stand _ rs all) (there r refl, filtered_stand _ rs all)

  pub retold_stand : (rs : List Held) → AllStand standing rs → AllStand standing (map retold rs)
  retold_stand [] all = tt
  retold_stand (r ∷ rs) all = (subst (IsThere standing) (sym (same_place (is_complete r))) all.0, retold_stand rs all.1)
    where
      same_place : (b : Bool) → (cond b (record r { parties = map recalled r.parties }) r).place ≡ r.place
      same_place true = refl
      same_place false = refl

held_place : (place : ℕ) (item : JournalRecord) (commits forgets : List ℕ) (r : Held) → held_of place item commits forgets ≡ Some r → r.place ≡ place
held_place place (Life life) commits forgets r e = absurd cc
held_place place (Decision life slot generation k asked regs) commits forgets r e = cc
held_place place (Done named) commits forgets r e = absurd cc
held_place place (Prepared life slot generation recovery regs) commits forgets r e = cc
held_place place (CellsPrepared life number recovery ps) commits forgets r e = absurd cc
held_place place (CellsOutcome named ending) commits forgets r e = absurd cc
held_place place (CellsOnePhase life number ps) commits forgets r e = absurd cc

decided_place : (place : ℕ) (x : Standing) → is_decision_at place x ≡ true → x.place ≡ place
decided_place place x e = by_place (x.place == place) refl e
  where
    by_place : (b : Bool) → (x.place == place) ≡ b → (b && is_decision x.item) ≡ true → x.place ≡ place
    by_place true is e = grind (arith, nat_tests, is)
    by_place false is e = absurd cc

decision_place : (place : ℕ) (ss : List Standing) (s : Standing) → find (is_decision_at place) ss ≡ Some s → s.place ≡ place
decision_place place [] s e = absurd cc
decision_place place (x ∷ ss) s e = by_test (is_decision_at place x) refl e (decision_place place ss s)
  where
    by_test : (b : Bool) → is_decision_at place x ≡ b → cond b (Some x) (find (is_decision_at place) ss) ≡ Some s → (find (is_decision_at place) ss ≡ Some s → s.place ≡ place) → s.place ≡ place
    by_test true at e rest = let same : x ≡ s = cc in ap (λ (t : Standing). t.place) (sym same) ∙ decided_place place x at
    by_test false at e rest = rest e

left_there : (found : Found) (f : Family) (s : Standing) → left_record found f ≡ Some s → IsThere found.standing s.place
left_there found f s e = by_end (is_finished f) e
  where
    by_place : (o : Option ℕ) → option_and_then (λ (place : ℕ). find (is_decision_at place) found.standing) o ≡ Some s → IsThere found.standing s.place
    by_place None e = absurd cc
    by_place (Some place) e = found_there (is_decision_at place) found.standing s e

    by_end : (b : Bool) → cond b (option_and_then (λ (place : ℕ). find (is_decision_at place) found.standing) (record_place f.completion)) None ≡ Some s → IsThere found.standing s.place
    by_end true e = by_place (record_place f.completion) e
    by_end false e = absurd cc

pub over_stand : (found : Found) (place : Option Family) (rs : List Held) → AllStand found.standing rs → AllStand found.standing (takes_over found place rs)
over_stand found None rs all = all
over_stand found (Some f) rs all = taken_stand found.standing (option_and_then (held_for f) (left_record found f)) rs (λ r e. by_left (left_record found f) refl r e) all
  where
    by_left : (o : Option Standing) → left_record found f ≡ o → (r : Held) → option_and_then (held_for f) o ≡ Some r → IsThere found.standing r.place
    by_left None is r e = absurd cc
    by_left (Some s) is r e = subst (IsThere found.standing) (sym (held_place s.place s.item _ _ r e)) (left_there found f s is)

pub all_over_stand : (found : Found) (places : List (Option Family)) (rs : List Held) → AllStand found.standing rs → AllStand found.standing (takes_all_over found places rs)
all_over_stand found [] rs all = all
all_over_stand found (place ∷ places) rs all = all_over_stand found places (takes_over found place rs) (over_stand found place rs all)

-- ---- one family more

pub over_joined : (found : Found) (some more : List (Option Family)) (rs : List Held) → takes_all_over found (some ++ more) rs ≡ takes_all_over found more (takes_all_over found some rs)
over_joined found [] more rs = refl
over_joined found (place ∷ some) more rs = over_joined found some more (takes_over found place rs)

-- time has passed for one family more
pub over_ticked : (found : Found) (now : ℕ) (zs : List (Option Family)) (i : ℕ) (z : Option Family) (rs : List Held) → i < length zs → z ≡ get_or zs i z
    → takes_all_over found (map (ticked now) (take (i + 1) zs)) rs ≡ takes_over found (ticked now z) (takes_all_over found (map (ticked now) (take i zs)) rs)
over_ticked found now zs i z rs lt is =
    ap (λ (ys : List (Option Family)). takes_all_over found ys rs) (map_more (ticked now) zs i z lt)
    ∙ over_joined found (map (ticked now) (take i zs)) (ticked now (get_or zs i z) ∷ []) rs
    ∙ ap (λ (y : Option Family). takes_over found (ticked now y) (takes_all_over found (map (ticked now) (take i zs)) rs)) (sym is)

pub taken_stands : (found : Found) (now count : ℕ) (families : List (Option Family)) (before after : List Held) → AreTaken found now count families before after
    → AllStand found.standing before → AllStand found.standing after
taken_stands found now count families before after taken all =
    subst (AllStand found.standing) (sym taken) (all_over_stand found (map (ticked now) (take count families)) before all)

-- ---- a record that is held already

module _ (found : Found) (f : Family) (rs : List Held) where
  taken_held : (place : ℕ) → is_held place rs ≡ true → (s : Standing) → s.place ≡ place → taken (held_for f s) rs ≡ rs
  taken_held place held s same = by_item (held_for f s) refl
    where
      by_item : (o : Option Held) → held_for f s ≡ o → taken o rs ≡ rs
      by_item None is = refl
      by_item (Some r) is =
          let at : is_held r.place rs ≡ true = ap (λ (k : ℕ). is_held k rs) (held_place s.place s.item _ _ r is ∙ same) ∙ held in
          ap (λ (b : Bool). cond b rs (before r.place rs ++ r ∷ behind r.place rs)) at

  found_taken : (place : ℕ) → is_held place rs ≡ true → (o : Option Standing) → ((s : Standing) → o ≡ Some s → s.place ≡ place) → taken (option_and_then (held_for f) o) rs ≡ rs
  found_taken place held None at = refl
  found_taken place held (Some s) at = taken_held place held s (at s refl)

  -- nothing is taken over
  pub over_held : (place : ℕ) → cond (is_finished f) (record_place f.completion) None ≡ Some place → is_held place rs ≡ true → takes_over found (Some f) rs ≡ rs
  over_held place is held = by_end (is_finished f) is
    where
      by_place : (o : Option ℕ) → o ≡ Some place → taken (option_and_then (held_for f) (option_and_then (λ (k : ℕ). find (is_decision_at k) found.standing) o)) rs ≡ rs
      by_place None e = absurd cc
      by_place (Some k) e = found_taken k (let same : k ≡ place = cc in ap (λ (n : ℕ). is_held n rs) same ∙ held) (find (is_decision_at k) found.standing) (decision_place k found.standing)

      by_end : (b : Bool) → cond b (record_place f.completion) None ≡ Some place
          → taken (option_and_then (held_for f) (cond b (option_and_then (λ (k : ℕ). find (is_decision_at k) found.standing) (record_place f.completion)) None)) rs ≡ rs
      by_end true e = by_place (record_place f.completion) e
      by_end false e = absurd cc

  pub over_none : cond (is_finished f) (record_place f.completion) None ≡ None → takes_over found (Some f) rs ≡ rs
  over_none is = ap (λ (o : Option Standing). taken (option_and_then (held_for f) o) rs) (by_end (is_finished f) is)
    where
      by_place : (o : Option ℕ) → o ≡ None → option_and_then (λ (k : ℕ). find (is_decision_at k) found.standing) o ≡ None
      by_place None e = refl
      by_place (Some k) e = absurd cc

      by_end : (b : Bool) → cond b (record_place f.completion) None ≡ None → cond b (option_and_then (λ (k : ℕ). find (is_decision_at k) found.standing) (record_place f.completion)) None ≡ None
      by_end true e = by_place (record_place f.completion) e
      by_end false e = refl

  -- the record that is left is that at its place
  pub left_at : (place : ℕ) → cond (is_finished f) (record_place f.completion) None ≡ Some place → left_record found f ≡ find (is_decision_at place) found.standing
  left_at place is = by_end (is_finished f) is
    where
      by_place : (o : Option ℕ) → o ≡ Some place → option_and_then (λ (k : ℕ). find (is_decision_at k) found.standing) o ≡ find (is_decision_at place) found.standing
      by_place None e = absurd cc
      by_place (Some k) e = let same : k ≡ place = cc in ap (λ (n : ℕ). find (is_decision_at n) found.standing) same

      by_end : (b : Bool) → cond b (record_place f.completion) None ≡ Some place → cond b (option_and_then (λ (k : ℕ). find (is_decision_at k) found.standing) (record_place f.completion)) None ≡ find (is_decision_at place) found.standing
      by_end true e = by_place (record_place f.completion) e
      by_end false e = absurd cc
