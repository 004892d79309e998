-- Records in the order of their places: what a change of one of them, of each, or of their number leaves.
use Rattle.std.proofs.Common.{◌≡◌, ◌∙◌, inl, inr, ℕ, zero, suc, ◌+◌, ◌<◌, ◌≤◌, Bool, true, false, cond, not, ltb, ltb-true, ◌&&◌, List, [], ◌∷◌, ◌++◌, length, get_or, set, map, Option, Some, None, refl, sym, ap, subst, arith}
use Rattle.std.specs.Prelude.{◌==◌, find, Result, Ok, Err, IfOk, IfErr, is_ok}
use Rattle.std.specs.List.{insert, remove}
use Rattle.std.specs.Option.{option_map}
use Rattle.std.specs.List.Sorted.{IsNonDecreasingBy, IsPartitionPoint}
use Rattle.std.proofs.lemmas.Bool.{cases_lt, le-ltb, ltb-false, lt-ltb}
use Rattle.std.proofs.lemmas.Bool.Decides.{nat_tests}
use Rattle.std.proofs.lemmas.List.{get_or_default}
use Rattle.std.proofs.lemmas.List.Folds.{list_any_none, list_any_at}
use Rattle.ots_model.specs.declared.completion.CallNumber.{CallNumber}
use Rattle.ots_model.specs.declared.tree.Heard.{Heard}
use Rattle.recovery_coord.specs.declared.held.Held.{Held}
use Rattle.recovery_coord.specs.Held.{before, behind, is_complete, is_held, taken, without}
use Rattle.recovery_coord.specs.Hearing.{completes, held_after, record_after}
use Rattle.recovery_coord.specs.Telling.{recalled, retold}
use Rattle.recovery_coord.specs.Order.{IsAt, IsGap, RiseFrom}

not_equal : (a b : ℕ) → (a ≡ b → ⊥) → (a == b) ≡ false
not_equal a b differs = grind (arith, nat_tests, differs)

equal : (a b : ℕ) → a ≡ b → (a == b) ≡ true
equal a b same = grind (arith, nat_tests, same)

-- ---- rising places

pub later : (m n : ℕ) (rs : List Held) → m ≤ n → RiseFrom n rs → RiseFrom m rs
later m n [] le rise = tt
later m n (r ∷ rs) le rise = (omega (arith, rise.0), rise.1)

pub at_least : (n : ℕ) (rs : List Held) → RiseFrom n rs → (k : ℕ) (d : Held) → k < length rs → n ≤ (get_or rs k d).place
at_least n [] rise k d within = absurd (omega arith)
at_least n (r ∷ rs) rise zero d within = rise.0
at_least n (r ∷ rs) rise (suc k) d within =
    let rest : r.place + 1 ≤ (get_or rs k d).place = at_least (r.place + 1) rs rise.1 k d (omega arith) in
    omega (arith, rise.0, rest)

pub rising : (n : ℕ) (rs : List Held) → RiseFrom n rs → (i j : ℕ) (d : Held) → i < j → j < length rs → (get_or rs i d).place < (get_or rs j d).place
rising n [] rise i j d lt within = absurd (omega arith)
rising n (r ∷ rs) rise zero zero d lt within = absurd (omega arith)
rising n (r ∷ rs) rise zero (suc j) d lt within =
    let rest : r.place + 1 ≤ (get_or rs j d).place = at_least (r.place + 1) rs rise.1 j d (omega arith) in
    omega (arith, rest)
rising n (r ∷ rs) rise (suc i) zero d lt within = absurd (omega arith)
rising n (r ∷ rs) rise (suc i) (suc j) d lt within = rising (r.place + 1) rs rise.1 i j d (omega arith) (omega arith)

pub not_falling : (n : ℕ) (rs : List Held) → RiseFrom n rs → IsNonDecreasingBy (λ r. r.place) rs
not_falling n rs rise i j d le within = elim (cases_lt i j) [
  | inl less ↦ omega (arith, rising n rs rise i j d less within)
  | inr more ↦ let same : i ≡ j = omega arith in omega (arith, ap (λ (k : ℕ). (get_or rs k d).place) same)
]

module _ (n : ℕ) (rs : List Held) (rise : RiseFrom n rs) (place i : ℕ) (point : IsPartitionPoint (λ (r : Held). ltb r.place place ≡ true) (λ r. ltb r.place place ≡ false) rs i) where
  below : (k : ℕ) (d : Held) → k < i → (get_or rs k d).place < place
  below k d lt = ltb-true _ _ (point.0 k d (omega arith) lt)

  not_below : (k : ℕ) (d : Held) → i ≤ k → k < length rs → place ≤ (get_or rs k d).place
  not_below k d le within = ltb-false _ _ (point.1 k d le within)

  above : ((d : Held) → i < length rs → (get_or rs i d).place ≡ place → ⊥) → (k : ℕ) (d : Held) → i ≤ k → k < length rs → place < (get_or rs k d).place
  above differs k d le within = elim (cases_lt i k) [
    | inl more ↦ omega (arith, not_below i d (omega arith) (omega arith), rising n rs rise i k d more within)
    | inr le_too ↦
        let same : i ≡ k = omega arith in
        let other : (get_or rs k d).place ≡ place → ⊥ = λ e. differs d (omega arith) (ap (λ (m : ℕ). (get_or rs m d).place) same ∙ e) in
        omega (arith, not_below k d le within, other)
  ]

  pub gap : i ≤ length rs → ((d : Held) → i < length rs → (get_or rs i d).place ≡ place → ⊥) → IsGap place i rs
  gap le differs = record { within = le; below = below; above = above differs }

pub there : (rs : List Held) (place i : ℕ) (r : Held) → i < length rs → get_or rs i r ≡ r → r.place ≡ place → IsAt place i rs
there rs place i r lt is same = record {
  within = lt;
  same = λ d. ap (λ (x : Held). x.place) (get_or_default rs i d r lt ∙ is) ∙ same;
}

-- no record is at the place of a gap
pub none_at : (place i : ℕ) (rs : List Held) → IsGap place i rs → (k : ℕ) (d : Held) → k < length rs → (get_or rs k d).place ≡ place → ⊥
none_at place i rs gap k d within e = elim (cases_lt k i) [
  | inl less ↦ omega (arith, gap.below k d less, e)
  | inr le ↦ omega (arith, gap.above k d le within, e)
]

-- ---- an answer is heard

module _ (n : CallNumber) (h : Heard) where
  pub same_place : (r : Held) → (record_after n h r).place ≡ r.place
  same_place r = by_test (r.place == n.generation)
    where
      by_test : (b : Bool) → (cond b (held_after n.serial h r) r).place ≡ r.place
      by_test true = refl
      by_test false = refl

  pub unchanged : (rs : List Held) → ((k : ℕ) (d : Held) → k < length rs → (get_or rs k d).place ≡ n.generation → ⊥) → map (record_after n h) rs ≡ rs
  unchanged [] none = refl
  unchanged (r ∷ rs) none =
      let no : (r.place == n.generation) ≡ false = not_equal r.place n.generation (none zero r (omega arith)) in
      ap (λ (b : Bool). cond b (held_after n.serial h r) r ∷ map (record_after n h) rs) no
      ∙ ap (λ (xs : List Held). r ∷ xs) (unchanged rs (λ k d lt. none (suc k) d (omega arith)))

  pub changed_at : (from : ℕ) (rs : List Held) → RiseFrom from rs → (i : ℕ) (d : Held) → i < length rs → (get_or rs i d).place ≡ n.generation → map (record_after n h) rs ≡ set rs i (held_after n.serial h (get_or rs i d))
  changed_at from [] rise i d within same = absurd (omega arith)
  changed_at from (r ∷ rs) rise zero d within same =
      ap (λ (b : Bool). cond b (held_after n.serial h r) r ∷ map (record_after n h) rs) (equal r.place n.generation same)
      ∙ ap (λ (xs : List Held). held_after n.serial h r ∷ xs) (unchanged rs (λ k d lt e. omega (arith, at_least (r.place + 1) rs rise.1 k d lt, e, same)))
  changed_at from (r ∷ rs) rise (suc i) d within same =
      let lt : r.place + 1 ≤ (get_or rs i d).place = at_least (r.place + 1) rs rise.1 i d (omega arith) in
      let no : (r.place == n.generation) ≡ false = not_equal r.place n.generation (λ e. omega (arith, lt, e, same)) in
      ap (λ (b : Bool). cond b (held_after n.serial h r) r ∷ map (record_after n h) rs) no
      ∙ ap (λ (xs : List Held). r ∷ xs) (changed_at (r.place + 1) rs rise.1 i d (omega arith) same)

  never_both : (c : Bool) → (not c && c) ≡ false
  never_both true = refl
  never_both false = refl

  other_stays : (r : Held) → (r.place ≡ n.generation → ⊥) → completes n h r ≡ false
  other_stays r differs =
      ap (λ (b : Bool). not (is_complete r) && is_complete (cond b (held_after n.serial h r) r)) (not_equal r.place n.generation differs)
      ∙ never_both (is_complete r)

  pub none_completes : (rs : List Held) → ((k : ℕ) (d : Held) → k < length rs → (get_or rs k d).place ≡ n.generation → ⊥) → find (completes n h) rs ≡ None
  none_completes [] none = refl
  none_completes (r ∷ rs) none =
      ap (λ (b : Bool). cond b (Some r) (find (completes n h) rs)) (other_stays r (none zero r (omega arith)))
      ∙ none_completes rs (λ k d lt. none (suc k) d (omega arith))

  -- whether the record there is complete once it has heard the answer, and wasn't
  abbrev pub turns : Held → Bool
  turns r = not (is_complete r) && is_complete (held_after n.serial h r)

  pub found_at : (from : ℕ) (rs : List Held) → RiseFrom from rs → (i : ℕ) (d : Held) → i < length rs → (get_or rs i d).place ≡ n.generation → find (completes n h) rs ≡ cond (turns (get_or rs i d)) (Some (get_or rs i d)) None
  found_at from [] rise i d within same = absurd (omega arith)
  found_at from (r ∷ rs) rise zero d within same =
      ap (λ (b : Bool). cond (not (is_complete r) && is_complete (cond b (held_after n.serial h r) r)) (Some r) (find (completes n h) rs)) (equal r.place n.generation same)
      ∙ ap (λ (o : Option Held). cond (turns r) (Some r) o) (none_completes rs (λ k d lt e. omega (arith, at_least (r.place + 1) rs rise.1 k d lt, e, same)))
  found_at from (r ∷ rs) rise (suc i) d within same =
      let lt : r.place + 1 ≤ (get_or rs i d).place = at_least (r.place + 1) rs rise.1 i d (omega arith) in
      ap (λ (b : Bool). cond b (Some r) (find (completes n h) rs)) (other_stays r (λ e. omega (arith, lt, e, same)))
      ∙ found_at (r.place + 1) rs rise.1 i d (omega arith) same

  pub rise_after : (from : ℕ) (rs : List Held) → RiseFrom from rs → RiseFrom from (map (record_after n h) rs)
  rise_after from [] rise = tt
  rise_after from (r ∷ rs) rise =
      (omega (arith, rise.0, same_place r), later ((record_after n h r).place + 1) (r.place + 1) (map (record_after n h) rs) (omega (arith, same_place r)) (rise_after (r.place + 1) rs rise.1))

-- the record at an index has heard an answer to its number
module _ (n : CallNumber) (h : Heard) (rs : List Held) (rise : RiseFrom 0 rs) (i : ℕ) (d new : Held) (at : IsAt n.generation i rs) (after : new ≡ held_after n.serial h (get_or rs i d)) where
  pub heard_list : set rs i new ≡ map (record_after n h) rs
  heard_list = ap (λ (y : Held). set rs i y) after ∙ sym (changed_at n h 0 rs rise i d at.within (at.same d))

  pub heard_rise : RiseFrom 0 (set rs i new)
  heard_rise = subst (λ (xs : List Held). RiseFrom 0 xs) (sym heard_list) (rise_after n h 0 rs rise)

  pub heard_place : (result : Option ℕ) → result ≡ cond (not (is_complete (get_or rs i d)) && is_complete new) (Some (get_or rs i d).place) None
      → result ≡ option_map (λ (r : Held). r.place) (find (completes n h) rs)
  heard_place result e =
      e
      ∙ ap (λ (y : Held). cond (not (is_complete (get_or rs i d)) && is_complete y) (Some (get_or rs i d).place) None) after
      ∙ by_test (get_or rs i d) (turns n h (get_or rs i d))
      ∙ sym (ap (option_map (λ (r : Held). r.place)) (found_at n h 0 rs rise i d at.within (at.same d)))
    where
      by_test : (x : Held) (b : Bool) → cond b (Some x.place) None ≡ option_map (λ (r : Held). r.place) (cond b (Some x) None)
      by_test x true = refl
      by_test x false = refl

-- ---- complete records are told again

pub retold_place : (r : Held) → (retold r).place ≡ r.place
retold_place r = by_test (is_complete r)
  where
    by_test : (b : Bool) → (cond b (record r { parties = map recalled r.parties }) r).place ≡ r.place
    by_test true = refl
    by_test false = refl

pub rise_retold : (from : ℕ) (rs : List Held) → RiseFrom from rs → RiseFrom from (map retold rs)
rise_retold from [] rise = tt
rise_retold from (r ∷ rs) rise =
    (omega (arith, rise.0, retold_place r), later ((retold r).place + 1) (r.place + 1) (map retold rs) (omega (arith, retold_place r)) (rise_retold (r.place + 1) rs rise.1))

-- ---- whether a record is held

not_held : (place i : ℕ) (rs : List Held) → IsGap place i rs → is_held place rs ≡ false
not_held place i rs gap = list_any_none (λ (r : Held). r.place == place) rs (λ k d within. not_equal (get_or rs k d).place place (none_at place i rs gap k d within))

pub held_at : (place i : ℕ) (rs : List Held) → IsAt place i rs → is_held place rs ≡ true
held_at place i [] at = absurd (omega (arith, at.within))
held_at place i (r ∷ rs) at = list_any_at (λ (x : Held). x.place == place) (r ∷ rs) i r at.within (equal (get_or (r ∷ rs) i r).place place (at.same r))

pub held_by : (place : ℕ) (rs : List Held) (found : Result ℕ ℕ) → IfOk found (λ i. IsAt place i rs) → IfErr found (λ i. IsGap place i rs) → is_ok found ≡ is_held place rs
held_by place rs (Ok i) at gap = sym (held_at place i rs at)
held_by place rs (Err i) at gap = sym (not_held place i rs gap)

-- ---- the record at a place

pub place_found : (place from : ℕ) (rs : List Held) → RiseFrom from rs → (i : ℕ) (d : Held) → IsAt place i rs
    → find (λ (r : Held). r.place == place) rs ≡ Some (get_or rs i d)
place_found place from [] rise i d at = absurd (omega (arith, at.within))
place_found place from (r ∷ rs) rise zero d at =
    ap (λ (b : Bool). cond b (Some r) (find (λ (x : Held). x.place == place) rs)) (equal r.place place (at.same d))
place_found place from (r ∷ rs) rise (suc i) d at =
    let lt : r.place + 1 ≤ (get_or rs i d).place = at_least (r.place + 1) rs rise.1 i d (omega (arith, at.within)) in
    let no : (r.place == place) ≡ false = not_equal r.place place (λ e. omega (arith, lt, e, at.same d)) in
    ap (λ (b : Bool). cond b (Some r) (find (λ (x : Held). x.place == place) rs)) no
    ∙ place_found place (r.place + 1) rs rise.1 i d (record { within = omega (arith, at.within); same = at.same })

none_placed : (place : ℕ) (rs : List Held) → ((k : ℕ) (d : Held) → k < length rs → (get_or rs k d).place ≡ place → ⊥)
    → find (λ (r : Held). r.place == place) rs ≡ None
none_placed place [] none = refl
none_placed place (r ∷ rs) none =
    ap (λ (b : Bool). cond b (Some r) (find (λ (x : Held). x.place == place) rs)) (not_equal r.place place (none zero r (omega arith)))
    ∙ none_placed place rs (λ k d lt. none (suc k) d (omega arith))

pub place_free : (place i : ℕ) (rs : List Held) → IsGap place i rs → find (λ (r : Held). r.place == place) rs ≡ None
place_free place i rs gap = none_placed place rs (none_at place i rs gap)

-- ---- one more record

not_ltb : (a b : ℕ) → b ≤ a → ltb a b ≡ false
not_ltb a b le = le-ltb a b le

none_before : (place from : ℕ) (rs : List Held) → place ≤ from → RiseFrom from rs → before place rs ≡ []
none_before place from [] le rise = refl
none_before place from (r ∷ rs) le rise =
    ap (λ (b : Bool). cond b (r ∷ before place rs) (before place rs)) (not_ltb r.place place (omega (arith, le, rise.0)))
    ∙ none_before place (r.place + 1) rs (omega (arith, le, rise.0)) rise.1

all_behind : (place from : ℕ) (rs : List Held) → place < from → RiseFrom from rs → behind place rs ≡ rs
all_behind place from [] lt rise = refl
all_behind place from (r ∷ rs) lt rise =
    ap (λ (b : Bool). cond b (r ∷ behind place rs) (behind place rs)) (lt-ltb place r.place (omega (arith, lt, rise.0)))
    ∙ ap (λ (xs : List Held). r ∷ xs) (all_behind place (r.place + 1) rs (omega (arith, lt, rise.0)) rise.1)

module _ (x : Held) where
  pub tail_gap : (i : ℕ) (r : Held) (rs : List Held) → IsGap x.place (suc i) (r ∷ rs) → IsGap x.place i rs
  tail_gap i r rs gap = record {
    within = omega (arith, gap.within);
    below = λ k d lt. gap.below (suc k) d (omega arith);
    above = λ k d le within. gap.above (suc k) d (omega arith) (omega arith);
  }

  pub inserted : (from : ℕ) (rs : List Held) → RiseFrom from rs → (i : ℕ) → IsGap x.place i rs → before x.place rs ++ x ∷ behind x.place rs ≡ insert rs i x
  inserted from [] rise zero gap = refl
  inserted from [] rise (suc i) gap = absurd (omega (arith, gap.within))
  inserted from (r ∷ rs) rise zero gap =
      let lt : x.place < r.place = gap.above zero r (omega arith) (omega arith) in
      ap (λ (xs : List Held). xs ++ x ∷ behind x.place (r ∷ rs)) (none_before x.place r.place (r ∷ rs) (omega (arith, lt)) (omega arith, rise.1))
      ∙ ap (λ (xs : List Held). x ∷ xs) (all_behind x.place r.place (r ∷ rs) lt (omega arith, rise.1))
  inserted from (r ∷ rs) rise (suc i) gap =
      let lt : r.place < x.place = gap.below zero r (omega arith) in
      ap (λ (b : Bool). cond b (r ∷ before x.place rs) (before x.place rs) ++ x ∷ behind x.place (r ∷ rs)) (lt-ltb r.place x.place lt)
      ∙ ap (λ (b : Bool). (r ∷ before x.place rs) ++ x ∷ cond b (r ∷ behind x.place rs) (behind x.place rs)) (not_ltb x.place r.place (omega (arith, lt)))
      ∙ ap (λ (xs : List Held). r ∷ xs) (inserted (r.place + 1) rs rise.1 i (tail_gap i r rs gap))

  pub rise_inserted : (from : ℕ) (rs : List Held) → RiseFrom from rs → from ≤ x.place → (i : ℕ) → IsGap x.place i rs → RiseFrom from (insert rs i x)
  rise_inserted from [] rise le zero gap = (le, tt)
  rise_inserted from [] rise le (suc i) gap = absurd (omega (arith, gap.within))
  rise_inserted from (r ∷ rs) rise le zero gap =
      let lt : x.place < r.place = gap.above zero r (omega arith) (omega arith) in
      (le, (omega (arith, lt), rise.1))
  rise_inserted from (r ∷ rs) rise le (suc i) gap =
      let lt : r.place < x.place = gap.below zero r (omega arith) in
      (rise.0, rise_inserted (r.place + 1) rs rise.1 (omega (arith, lt)) i (tail_gap i r rs gap))

  pub taken_there : (i : ℕ) (rs : List Held) → IsAt x.place i rs → taken (Some x) rs ≡ rs
  taken_there i rs at = ap (λ (b : Bool). cond b rs (before x.place rs ++ x ∷ behind x.place rs)) (held_at x.place i rs at)

  pub taken_in : (rs : List Held) → RiseFrom 0 rs → (i : ℕ) → IsGap x.place i rs → taken (Some x) rs ≡ insert rs i x
  taken_in rs rise i gap =
      ap (λ (b : Bool). cond b rs (before x.place rs ++ x ∷ behind x.place rs)) (not_held x.place i rs gap) ∙ inserted 0 rs rise i gap

-- ---- one record less

pub without_none : (place : ℕ) (rs : List Held) → ((k : ℕ) (d : Held) → k < length rs → (get_or rs k d).place ≡ place → ⊥) → without place rs ≡ rs
without_none place [] none = refl
without_none place (r ∷ rs) none =
    ap (λ (b : Bool). cond (not b) (r ∷ without place rs) (without place rs)) (not_equal r.place place (none zero r (omega arith)))
    ∙ ap (λ (xs : List Held). r ∷ xs) (without_none place rs (λ k d lt. none (suc k) d (omega arith)))

pub without_at : (place from : ℕ) (rs : List Held) → RiseFrom from rs → (i : ℕ) (d : Held) → i < length rs → (get_or rs i d).place ≡ place → without place rs ≡ remove rs i
without_at place from [] rise i d within same = absurd (omega arith)
without_at place from (r ∷ rs) rise zero d within same =
    ap (λ (b : Bool). cond (not b) (r ∷ without place rs) (without place rs)) (equal r.place place same)
    ∙ without_none place rs (λ k d lt e. omega (arith, at_least (r.place + 1) rs rise.1 k d lt, e, same))
without_at place from (r ∷ rs) rise (suc i) d within same =
    let lt : r.place + 1 ≤ (get_or rs i d).place = at_least (r.place + 1) rs rise.1 i d (omega arith) in
    ap (λ (b : Bool). cond (not b) (r ∷ without place rs) (without place rs)) (not_equal r.place place (λ e. omega (arith, lt, e, same)))
    ∙ ap (λ (xs : List Held). r ∷ xs) (without_at place (r.place + 1) rs rise.1 i d (omega arith) same)

pub rise_without : (place from : ℕ) (rs : List Held) → RiseFrom from rs → RiseFrom from (without place rs)
rise_without place from [] rise = tt
rise_without place from (r ∷ rs) rise = by_test (rise_without place (r.place + 1) rs rise.1) (r.place == place)
  where
    by_test : RiseFrom (r.place + 1) (without place rs) → (b : Bool) → RiseFrom from (cond (not b) (r ∷ without place rs) (without place rs))
    by_test rest true = later from (r.place + 1) (without place rs) (omega (arith, rise.0)) rest
    by_test rest false = (rise.0, rest)
