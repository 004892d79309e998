-- What records tell of resources: which record stands at a place, which resource it is of, and what it becomes.
use Rattle.std.proofs.Common.{◌≡◌, ◌∙◌, inl, inr, ℕ, zero, suc, ◌<◌, ◌≤◌, Bool, true, false, cond, ltb, ltb-true, ◌&&◌, List, [], ◌∷◌, length, get_or, take, Option, Some, None, refl, sym, ap, subst, arith}
use Rattle.std.specs.Prelude.{◌==◌, find, IfSome, is_some}
use Rattle.std.specs.Map.{keys_of}
use Rattle.std.specs.List.{Contains}
use Rattle.std.specs.List.Sorted.{IsNonDecreasingBy, IsPartitionPoint, IsStrictlySortedBy}
use Rattle.std.specs.Option.{option_and_then, unwrap_or}
use Rattle.std.proofs.lemmas.Bool.{both_ways, cases_lt, eqb-true, ltb-false, ne_eqb, eq-eqb}
use Rattle.std.proofs.lemmas.List.{get_or_default}
use Rattle.decision_journal.specs.Index.{AreInOrder}
use Rattle.decision_journal.specs.declared.journal.Standing.{Standing}
use Rattle.decision_journal.specs.declared.record.CellsEnd.{CellsEnd}
use Rattle.decision_journal.specs.declared.record.CellsEnd.TheVariants as ends
use Rattle.decision_journal.specs.declared.record.JournalRecord.{JournalRecord}
use Rattle.decision_journal.specs.declared.record.JournalRecord.TheVariants.{Life, Decision, Done, Prepared, CellsPrepared, CellsOutcome, CellsOnePhase}
use Rattle.decision_journal.specs.declared.record.Put.{Put}
use Rattle.resource_end.specs.declared.state.State.{State}
use Rattle.resource_end.specs.declared.state.State.TheVariants as states
use Rattle.resource_end.specs.declared.kept.Kept.{Kept}
use Rattle.resource_end.specs.States.{is_forgotten, state_of, stores}
use Rattle.resource_end.specs.Cells.{with_puts}
use Rattle.resource_end.specs.End.{End, Resource, changes, is_numbered, kept, moved, with_resource}
use Rattle.resource_end.specs.Recall.{ends_as, has_place, is_recorded_at, recalls, recalls_all, tells}
use Rattle.resource_end.specs.Inside.{AreRecorded, AreWritable, ContentsState, Id, IsWritable, PassesAlone, RecordedAlone, ended, id_cmp, if_passes, numbered, prepared_at, prepared_id, put_by_record, puts_stored, resources_of, with_contents, without}
use Rattle.resource_end.proofs.Claims.{if_cond, if_none, itself}
use Rattle.resource_end.proofs.Finding.{found_with, found_without}
use Rattle.resource_end.proofs.Named.{one_number}
use Rattle.resource_end.proofs.Numbered.{only_now}

-- ---- a resource is found by the place of its record

pub alone_of : (place : ℕ) (own : Option Id) (id : Id) (rs : List Resource) → own ≡ Some id → RecordedAlone place own rs → PassesAlone (is_recorded_at place) id rs
alone_of place own id rs is alone other = by (numbered other rs) (alone other)
  where
    by : (o : Option Resource) → IfSome o (λ r. is_recorded_at place r ≡ true → own ≡ Some other) → IfSome o (λ r. is_recorded_at place r ≡ true → other ≡ id)
    by None h = tt
    by (Some r) h = λ t. ap (λ o. unwrap_or o other) (sym (h t) ∙ is)

-- none has its record there
pub alone_none : (place : ℕ) (own : Option Id) (id : Id) (rs : List Resource) → own ≡ None → RecordedAlone place own rs → PassesAlone (is_recorded_at place) id rs
alone_none place own id rs is alone other = by (numbered other rs) (alone other)
  where
    by : (o : Option Resource) → IfSome o (λ r. is_recorded_at place r ≡ true → own ≡ Some other) → IfSome o (λ r. is_recorded_at place r ≡ true → other ≡ id)
    by None h = tt
    by (Some r) h = λ t. absurd (both_ways _ refl (ap is_some (sym is ∙ h t)))

none_passes : (place : ℕ) (own : Option Id) (id : Id) (rs : List Resource) → own ≡ None → RecordedAlone place own rs → if_passes (is_recorded_at place) (numbered id rs) ≡ None
none_passes place own id rs is alone = by (numbered id rs) (alone id)
  where
    at : (r : Resource) (b : Bool) → is_recorded_at place r ≡ b → (is_recorded_at place r ≡ true → own ≡ Some id) → cond b (Some r) None ≡ None
    at r true t h = absurd (both_ways _ refl (ap is_some (sym is ∙ h t)))
    at r false t h = refl

    by : (o : Option Resource) → IfSome o (λ r. is_recorded_at place r ≡ true → own ≡ Some id) → if_passes (is_recorded_at place) o ≡ None
    by None h = refl
    by (Some r) h = at r (is_recorded_at place r) refl h

pub never_found : (place : ℕ) (own : Option Id) (es : List (Id × Kept)) (now : List Resource) → resources_of es ≡ now → IsStrictlySortedBy id_cmp (keys_of es)
    → own ≡ None → RecordedAlone place own now → find (is_recorded_at place) now ≡ None
never_found place own es now is sorted none alone =
    only_now (is_recorded_at place) (0, 0) es now is sorted (alone_none place own (0, 0) now none alone) ∙ none_passes place own (0, 0) now none alone

-- what is recorded alone is so by the records that stand
pub recorded_alone : (standing : List Standing) (place : ℕ) (rs : List Resource) → AreRecorded standing rs → RecordedAlone place (prepared_at place standing) rs
recorded_alone standing place rs recorded id = by (numbered id rs) (recorded id)
  where
    at : (o : Option ℕ) → IfSome o (λ p. prepared_at p standing ≡ Some id) → has_place place o ≡ true → prepared_at place standing ≡ Some id
    at None h t = absurd (both_ways _ refl t)
    at (Some own) h t = ap (λ p. prepared_at p standing) (sym (eqb-true own place t)) ∙ h

    by : (o : Option Resource) → IfSome o (λ r. IfSome r.record_place (λ p. prepared_at p standing ≡ Some id)) → IfSome o (λ r. is_recorded_at place r ≡ true → prepared_at place standing ≡ Some id)
    by None h = tt
    by (Some r) h = at r.record_place h

-- ---- the record at a place

pub find_never_at : (test : Standing → Bool) (xs : List Standing) → ((k : ℕ) (d : Standing) → k < length xs → test (get_or xs k d) ≡ false) → find test xs ≡ None
find_never_at test [] never = refl
find_never_at test (x ∷ xs) never =
    ap (λ b. cond b (Some x) (find test xs)) (never zero x (omega arith)) ∙ find_never_at test xs (λ k d lt. never (suc k) d (omega arith))

pub find_first_at : (test : Standing → Bool) (xs : List Standing) (i : ℕ) (d : Standing) → i < length xs → ((k : ℕ) (d : Standing) → k < i → test (get_or xs k d) ≡ false)
    → test (get_or xs i d) ≡ true → find test xs ≡ Some (get_or xs i d)
find_first_at test [] i d lt before at = absurd (omega arith)
find_first_at test (x ∷ xs) zero d lt before at = ap (λ b. cond b (Some x) (find test xs)) at
find_first_at test (x ∷ xs) (suc i) d lt before at =
    ap (λ b. cond b (Some x) (find test xs)) (before zero x (omega arith)) ∙ find_first_at test xs i d (omega arith) (λ k e less. before (suc k) e (omega arith)) at

-- a place is found by halving
module _ (standing : List Standing) (order : AreInOrder standing) (place i : ℕ) (point : IsPartitionPoint (λ (s : Standing). ltb s.place place ≡ true) (λ s. ltb s.place place ≡ false) standing i) where
  below : (k : ℕ) (d : Standing) → k < i → (get_or standing k d).place < place
  below k d less = ltb-true _ _ (point.0 k d (omega arith) less)

  not_below : (k : ℕ) (d : Standing) → i ≤ k → k < length standing → place ≤ (get_or standing k d).place
  not_below k d le lt = ltb-false _ _ (point.1 k d le lt)

  other_place : ((d : Standing) → i < length standing → (get_or standing i d).place ≡ place → ⊥) → (k : ℕ) (d : Standing) → k < length standing → (get_or standing k d).place ≡ place → ⊥
  other_place differs k d lt e = elim (cases_lt k i) [
    | inl less ↦ omega (arith, below k d less, e)
    | inr le ↦ elim (cases_lt i k) [
      | inl more ↦ omega (arith, order i k d more lt, not_below i d (omega arith) (omega (arith, more, lt)), e)
      | inr same ↦
          let is : i ≡ k = omega (arith, le, same) in
          differs d (omega (arith, is, lt)) (ap (λ j. (get_or standing j d).place) is ∙ e)
    ]
  ]

  pub none_stands : ((d : Standing) → i < length standing → (get_or standing i d).place ≡ place → ⊥) → prepared_at place standing ≡ None
  none_stands differs =
      ap (option_and_then (λ (s : Standing). prepared_id s.item))
      (find_never_at (λ s. s.place == place) standing (λ k d lt. ne_eqb (get_or standing k d).place place (other_place differs k d lt)))

  pub it_stands : (s : Standing) → i < length standing → get_or standing i s ≡ s → s.place ≡ place → prepared_at place standing ≡ prepared_id s.item
  it_stands s lt is same =
      ap (option_and_then (λ (s : Standing). prepared_id s.item))
      (find_first_at (λ s. s.place == place) standing i s lt
      (λ k d less. ne_eqb (get_or standing k d).place place (λ e. omega (arith, below k d less, e)))
      (eq-eqb (get_or standing i s).place place (ap (λ (x : Standing). x.place) is ∙ same)))
      ∙ ap (λ (x : Standing). prepared_id x.item) is

pub not_falling : (standing : List Standing) → AreInOrder standing → IsNonDecreasingBy (λ (s : Standing). s.place) standing
not_falling standing order i j d le within = elim (cases_lt i j) [
  | inl less ↦ omega (arith, order i j d less within)
  | inr more ↦ let same : i ≡ j = omega arith in omega (arith, ap (λ (k : ℕ). (get_or standing k d).place) same)
]

-- one that stands at its place
pub at_its_place : (standing : List Standing) → AreInOrder standing → (s : Standing) → Contains standing s → prepared_at s.place standing ≡ prepared_id s.item
at_its_place standing order s there =
    ap (option_and_then (λ (x : Standing). prepared_id x.item))
    (find_first_at (λ x. x.place == s.place) standing there.0 s there.1
    (λ k d less. ne_eqb (get_or standing k d).place s.place (λ e.
    let at : (get_or standing there.0 d).place ≡ s.place = ap (λ (x : Standing). x.place) (get_or_default standing there.0 d s there.1 ∙ there.2) in
    omega (arith, order k there.0 d less there.1, e, at)))
    (eq-eqb (get_or standing there.0 s).place s.place (ap (λ (x : Standing). x.place) there.2)))
    ∙ ap (λ (x : Standing). prepared_id x.item) there.2

-- ---- what holds of each resource

pub all_with : (P : Id → Resource → Type 0) (rs : List Resource) (r : Resource) → ((id : Id) → IfSome (numbered id rs) (P id)) → P (r.life, r.number) r
    → (id : Id) → IfSome (numbered id (with_resource r rs)) (P id)
all_with P rs r all more id =
    subst (λ o. IfSome o (P id)) (sym (found_with id r rs))
    (if_cond (is_numbered id.0 id.1 r) r (numbered id rs) (P id) (λ h. subst (λ k. P k r) (one_number (r.life, r.number) id r (itself r) h) more) (all id))

pub all_without : (P : Id → Resource → Type 0) (rs : List Resource) (k : Id) → ((id : Id) → IfSome (numbered id rs) (P id)) → (id : Id) → IfSome (numbered id (without k rs)) (P id)
all_without P rs k all id = subst (λ o. IfSome o (P id)) (sym (found_without id k rs)) (if_none (id.0 == k.0 && id.1 == k.1) (numbered id rs) (P id) (all id))

pub all_kept : (P : Id → Resource → Type 0) (rs : List Resource) (r : Resource) → ((id : Id) → IfSome (numbered id rs) (P id)) → P (r.life, r.number) r
    → (id : Id) → IfSome (numbered id (kept r rs)) (P id)
all_kept P rs r all more = by (is_forgotten r.state)
  where
    by : (b : Bool) → (id : Id) → IfSome (numbered id (cond b (without (r.life, r.number) rs) (with_resource r rs))) (P id)
    by true = all_without P rs (r.life, r.number) all
    by false = all_with P rs r all more

-- ---- what a record makes of resources and cells

pub not_prepared : (item : JournalRecord) → ((life number : ℕ) (recovery : List ℕ) (puts : List Put) → item ≡ CellsPrepared life number recovery puts → ⊥) → prepared_id item ≡ None
not_prepared (Life life) other = refl
not_prepared (Decision life slot generation key asked regs) other = refl
not_prepared (Done done) other = refl
not_prepared (Prepared life slot generation superior regs) other = refl
not_prepared (CellsPrepared life number recovery puts) other = absurd (other life number recovery puts refl)
not_prepared (CellsOutcome done how) other = refl
not_prepared (CellsOnePhase life number puts) other = refl

stored_so : (b : Bool) (puts cells : List Put) → with_puts (cond b puts []) cells ≡ cond b (with_puts puts cells) cells
stored_so true puts cells = refl
stored_so false puts cells = refl

pub ended_is : (s : State) (r : Resource) (rs new : List Resource) (cells stored : List Put) (o : Option Resource) → o ≡ Some r → new ≡ kept (moved s r) rs
    → stored ≡ with_puts (puts_stored s r) cells → (record { resources = new; cells = stored }) ≡ ended s o (record { resources = rs; cells = cells })
ended_is s r rs new cells stored o is p q =
    let t = q ∙ stored_so (stores r.state s) r.puts cells in
    (λ i. record { resources = p i; cells = t i }) ∙ ap (λ x. ended s x (record { resources = rs; cells = cells })) (sym is)

pub prepares_told : (s : Standing) (life number : ℕ) (recovery : List ℕ) (puts : List Put) → s.item ≡ CellsPrepared life number recovery puts
    → (rs new : List Resource) (cells stored : List Put) → new ≡ with_resource (put_by_record states.Prepared (life, number) recovery puts (Some s.place) rs) rs → stored ≡ cells
    → (e : End) → recalls s (with_contents (record { resources = rs; cells = cells }) e) ≡ with_contents (record { resources = new; cells = stored }) e
unfolding recalls changes
prepares_told s life number recovery puts is rs new cells stored p q e =
    ap (λ item. tells s.place item (with_contents (record { resources = rs; cells = cells }) e)) is
    ∙ (λ i. with_contents (record { resources = sym p i; cells = sym q i }) e)

pub applies_told : (s : Standing) (life number : ℕ) (puts : List Put) → s.item ≡ CellsOnePhase life number puts
    → (rs new : List Resource) (cells stored : List Put) → new ≡ with_resource (put_by_record states.Applied (life, number) [] [] None rs) rs → stored ≡ with_puts puts cells
    → (e : End) → recalls s (with_contents (record { resources = rs; cells = cells }) e) ≡ with_contents (record { resources = new; cells = stored }) e
unfolding recalls changes
applies_told s life number puts is rs new cells stored p q e =
    ap (λ item. tells s.place item (with_contents (record { resources = rs; cells = cells }) e)) is
    ∙ (λ i. with_contents (record { resources = sym p i; cells = sym q i }) e)

ends_so : (how : CellsEnd) (o : Option Resource) (c : ContentsState) (e : End) → ends_as how o (with_contents c e) ≡ with_contents (ended (state_of how) o c) e
unfolding changes
ends_so how None c e = refl
ends_so how (Some r) c e = refl

pub ends_told : (s : Standing) (done : ℕ) (how : CellsEnd) → s.item ≡ CellsOutcome done how → (old new : ContentsState)
    → new ≡ ended (state_of how) (find (is_recorded_at done) old.resources) old → (e : End) → recalls s (with_contents old e) ≡ with_contents new e
unfolding recalls
ends_told s done how is old new after e =
    ap (λ item. tells s.place item (with_contents old e)) is
    ∙ ends_so how (find (is_recorded_at done) old.resources) old e ∙ ap (λ c. with_contents c e) (sym after)

-- a record of another kind
pub others_told : (s : Standing) → ((life number : ℕ) (recovery : List ℕ) (puts : List Put) → s.item ≡ CellsPrepared life number recovery puts → ⊥)
    → ((done : ℕ) (how : CellsEnd) → s.item ≡ CellsOutcome done how → ⊥) → ((life number : ℕ) (puts : List Put) → s.item ≡ CellsOnePhase life number puts → ⊥)
    → (e : End) → recalls s e ≡ e
unfolding recalls
others_told s a b c e = by s.item a b c
  where
    by : (item : JournalRecord) → ((life number : ℕ) (recovery : List ℕ) (puts : List Put) → item ≡ CellsPrepared life number recovery puts → ⊥)
        → ((done : ℕ) (how : CellsEnd) → item ≡ CellsOutcome done how → ⊥) → ((life number : ℕ) (puts : List Put) → item ≡ CellsOnePhase life number puts → ⊥)
        → tells s.place item e ≡ e
    by (Life life) a b c = refl
    by (Decision life slot generation key asked regs) a b c = refl
    by (Done done) a b c = refl
    by (Prepared life slot generation superior regs) a b c = refl
    by (CellsPrepared life number recovery puts) a b c = absurd (a life number recovery puts refl)
    by (CellsOutcome done how) a b c = absurd (b done how refl)
    by (CellsOnePhase life number puts) a b c = absurd (c life number puts refl)

-- ---- one record more

pub recalls_more : (xs : List Standing) (i : ℕ) (d : Standing) → i < length xs → (e : End) → recalls_all (take (suc i) xs) e ≡ recalls (get_or xs i d) (recalls_all (take i xs) e)
recalls_more [] i d lt e = absurd (omega arith)
recalls_more (x ∷ xs) zero d lt e = refl
recalls_more (x ∷ xs) (suc i) d lt e = recalls_more xs i d (omega arith) (recalls x e)

pub recalls_whole : (xs : List Standing) (i : ℕ) → length xs ≤ i → take i xs ≡ xs
recalls_whole [] zero le = refl
recalls_whole [] (suc i) le = refl
recalls_whole (x ∷ xs) zero le = absurd (omega arith)
recalls_whole (x ∷ xs) (suc i) le = ap (λ ys. x ∷ ys) (recalls_whole xs i (omega arith))

-- ---- what a record leaves is no resource that has put something

outcome_writable : (drawn : ℕ) (how : CellsEnd) (r : Resource) → IsWritable drawn (state_of how) r
outcome_writable drawn ends.Applied r = tt
outcome_writable drawn ends.Undone r = tt
outcome_writable drawn ends.ChoseCommit r = tt
outcome_writable drawn ends.ChoseRollback r = tt
outcome_writable drawn ends.Forgotten r = tt

pub ended_writable : (drawn : ℕ) (how : CellsEnd) (o : Option Resource) (c : ContentsState) → AreWritable drawn c.resources
    → AreWritable drawn (ended (state_of how) o c).resources
ended_writable drawn how None c all = all
ended_writable drawn how (Some r) c all =
    all_kept (λ id s. IsWritable drawn s.state s) c.resources (moved (state_of how) r) all (outcome_writable drawn how (moved (state_of how) r))
