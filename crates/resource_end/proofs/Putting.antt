-- What a resource that puts one more cell would write fits a record still.
use Rattle.std.proofs.Common.{◌≡◌, ◌∙◌, inl, inr, ℕ, suc, ◌+◌, ◌<◌, ◌≤◌, Bool, true, false, cond, List, [], ◌∷◌, length, Some, None, refl, sym, ap, subst, arith}
use Rattle.std.specs.Prelude.{◌==◌, IfSome, is_some, nat_le, nat_lt}
use Rattle.std.specs.List.{AllByRecursion}
use Rattle.std.proofs.lemmas.Bool.{and_from, and_parts, both_ways, eqb-true}
use Rattle.std.proofs.lemmas.Bool.Decides.{nat_tests}
use Rattle.decision_journal.specs.Layout.{FitsPut, FitsPuts, is_rising, rises_from}
use Rattle.decision_journal.specs.State.{JournalState}
use Rattle.decision_journal.specs.declared.record.Put.{Put}
use Rattle.resource_end.specs.declared.state.State.{State}
use Rattle.resource_end.specs.declared.state.State.TheVariants as states
use Rattle.resource_end.specs.States.{holds}
use Rattle.resource_end.specs.Cells.{value_at, with_put}
use Rattle.resource_end.specs.Calls.{has_room, is_open, with_cell}
use Rattle.resource_end.specs.End.{Resource, with_resource}
use Rattle.resource_end.specs.Inside.{CanPrepare, HasOwnPuts, Id, IsRecallable, IsRecorded, IsWhole, IsWritable, numbered}
use Rattle.resource_end.proofs.Again.{own_recorded}
use Rattle.resource_end.proofs.Claims.{at_known}
use Rattle.resource_end.proofs.Told.{all_with}

module _ (p : Put) where
  -- ---- each fits

  all_by : (q : Put) (qs : List Put) → FitsPut p → FitsPut q × AllByRecursion FitsPut qs → AllByRecursion FitsPut (with_put p qs)
      → (b c : Bool) → AllByRecursion FitsPut (cond b (p ∷ qs) (cond c (p ∷ q ∷ qs) (q ∷ with_put p qs)))
  all_by q qs fits all rest true c = (fits, all.1)
  all_by q qs fits all rest false true = (fits, all)
  all_by q qs fits all rest false false = (all.0, rest)

  all_put : (ps : List Put) → FitsPut p → AllByRecursion FitsPut ps → AllByRecursion FitsPut (with_put p ps)
  all_put [] fits all = (fits, tt)
  all_put (q ∷ qs) fits all = all_by q qs fits all (all_put qs fits all.1) (p.cell == q.cell) (nat_lt p.cell q.cell)

  -- ---- they rise

  behind : (q : Put) → (p.cell == q.cell) ≡ false → nat_lt p.cell q.cell ≡ false → nat_lt q.cell p.cell ≡ true
  behind q e l = grind (arith, nat_tests, e, l)

  rises_by : (cell : ℕ) (q : Put) (qs : List Put) → nat_lt cell p.cell ≡ true → nat_lt cell q.cell ≡ true → rises_from q.cell qs ≡ true
      → (nat_lt q.cell p.cell ≡ true → rises_from q.cell (with_put p qs) ≡ true) → (b c : Bool) → (p.cell == q.cell) ≡ b → nat_lt p.cell q.cell ≡ c
      → rises_from cell (cond b (p ∷ qs) (cond c (p ∷ q ∷ qs) (q ∷ with_put p qs))) ≡ true
  rises_by cell q qs lt lq h rest true c e l = and_from _ _ lt (subst (λ n. rises_from n qs ≡ true) (sym (eqb-true p.cell q.cell e)) h)
  rises_by cell q qs lt lq h rest false true e l = and_from _ _ lt (and_from _ _ l h)
  rises_by cell q qs lt lq h rest false false e l = and_from _ _ lq (rest (behind q e l))

  rises_put : (cell : ℕ) (ps : List Put) → nat_lt cell p.cell ≡ true → rises_from cell ps ≡ true → rises_from cell (with_put p ps) ≡ true
  rises_put cell [] lt h = and_from _ _ lt refl
  rises_put cell (q ∷ qs) lt h =
      let k = and_parts (nat_lt cell q.cell) (rises_from q.cell qs) h in
      rises_by cell q qs lt k.0 k.1 (λ l. rises_put q.cell qs l k.1) (p.cell == q.cell) (nat_lt p.cell q.cell) refl refl

  rising_by : (q : Put) (qs : List Put) → rises_from q.cell qs ≡ true → (b c : Bool) → (p.cell == q.cell) ≡ b → nat_lt p.cell q.cell ≡ c
      → is_rising (cond b (p ∷ qs) (cond c (p ∷ q ∷ qs) (q ∷ with_put p qs))) ≡ true
  rising_by q qs h true c e l = subst (λ n. rises_from n qs ≡ true) (sym (eqb-true p.cell q.cell e)) h
  rising_by q qs h false true e l = and_from _ _ l h
  rising_by q qs h false false e l = rises_put q.cell qs (behind q e l) h

  pub rising_put : (ps : List Put) → is_rising ps ≡ true → is_rising (with_put p ps) ≡ true
  rising_put [] h = refl
  rising_put (q ∷ qs) h = rising_by q qs h (p.cell == q.cell) (nat_lt p.cell q.cell) refl refl

  -- ---- how many they are

  length_by : (q : Put) (qs : List Put) → length (with_put p qs) ≤ length qs + 1
      → (b c : Bool) → length (cond b (p ∷ qs) (cond c (p ∷ q ∷ qs) (q ∷ with_put p qs))) ≤ length (q ∷ qs) + 1
  length_by q qs le true c = omega arith
  length_by q qs le false true = omega arith
  length_by q qs le false false = omega (arith, le)

  length_put : (ps : List Put) → length (with_put p ps) ≤ length ps + 1
  length_put [] = omega arith
  length_put (q ∷ qs) = length_by q qs (length_put qs) (p.cell == q.cell) (nat_lt p.cell q.cell)

  -- a cell below those that rise isn't among them
  absent : (cell : ℕ) (ps : List Put) → p.cell ≤ cell → rises_from cell ps ≡ true → value_at p.cell ps ≡ None
  absent cell [] le h = refl
  absent cell (q ∷ qs) le h =
      let k = and_parts (nat_lt cell q.cell) (rises_from q.cell qs) h in
      let above : p.cell < q.cell = grind (arith, nat_tests, le, k.0) in
      let differs : (q.cell == p.cell) ≡ false = grind (arith, nat_tests, above) in
      ap (λ b. cond b (Some q.value) (value_at p.cell qs)) differs ∙ absent q.cell qs (omega (arith, above)) k.1

  same_by : (q : Put) (qs : List Put) → rises_from q.cell qs ≡ true → is_some (value_at p.cell (q ∷ qs)) ≡ true
      → (is_some (value_at p.cell qs) ≡ true → length (with_put p qs) ≡ length qs) → (b c : Bool) → (p.cell == q.cell) ≡ b → nat_lt p.cell q.cell ≡ c
      → length (cond b (p ∷ qs) (cond c (p ∷ q ∷ qs) (q ∷ with_put p qs))) ≡ length (q ∷ qs)
  same_by q qs h there rest true c e l = refl
  same_by q qs h there rest false c e l =
      let other : (q.cell == p.cell) ≡ false = grind (arith, nat_tests, e) in
      let below : is_some (value_at p.cell qs) ≡ true = sym (ap (λ b. is_some (cond b (Some q.value) (value_at p.cell qs))) other) ∙ there in
      of c l below
    where
      of : (c : Bool) → nat_lt p.cell q.cell ≡ c → is_some (value_at p.cell qs) ≡ true → length (cond c (p ∷ q ∷ qs) (q ∷ with_put p qs)) ≡ length (q ∷ qs)
      of true l below = absurd (both_ways _ (ap is_some (absent q.cell qs (le l) h)) below)
        where
          le : nat_lt p.cell q.cell ≡ true → p.cell ≤ q.cell
          le l = grind (arith, nat_tests, l)
      of false l below = ap suc (rest below)

  same_length : (q : Put) (qs : List Put) → rises_from q.cell qs ≡ true → is_some (value_at p.cell (q ∷ qs)) ≡ true
      → length (with_put p (q ∷ qs)) ≡ length (q ∷ qs)
  same_length q [] h there = same_by q [] h there (λ t. absurd (both_ways _ refl t)) (p.cell == q.cell) (nat_lt p.cell q.cell) refl refl
  same_length q (y ∷ ys) h there =
      same_by q (y ∷ ys) h there (same_length y ys (and_parts (nat_lt q.cell y.cell) (rises_from y.cell ys) h).1) (p.cell == q.cell) (nat_lt p.cell q.cell) refl refl

  same_count : (ps : List Put) → is_rising ps ≡ true → is_some (value_at p.cell ps) ≡ true → length (with_put p ps) ≡ length ps
  same_count [] h there = absurd (both_ways _ refl there)
  same_count (q ∷ qs) h there = same_length q qs h there

  few : (puts : List Put) → FitsPuts puts → (b : Bool) → is_some (value_at p.cell puts) ≡ b → cond b true (nat_le (length puts + 1) 1024) ≡ true
      → length (with_put p puts) < 65536
  few puts fits true there room = omega (arith, fits.0, same_count puts fits.2 there)
  few puts fits false there room =
      let le : length puts + 1 ≤ 1024 = grind (arith, nat_tests, room) in
      omega (arith, le, length_put puts)

  pub fits_put : (r : Resource) → FitsPuts r.puts → FitsPut p → has_room p.cell r ≡ true → FitsPuts (with_put p r.puts)
  fits_put r fits one room = (
    few r.puts fits (is_some (value_at p.cell r.puts)) refl room,
    all_put r.puts one fits.1,
    rising_put r.puts fits.2,
  )

-- ---- one that can put

pub open_prepares : (drawn : ℕ) (s : State) (r : Resource) → is_open s ≡ true → IsWritable drawn s r → CanPrepare drawn r
open_prepares drawn states.Fresh r o h = h.0
open_prepares drawn states.Working r o h = h
open_prepares drawn states.Refused r o h = absurd (both_ways _ refl o)
open_prepares drawn states.Prepared r o h = absurd (both_ways _ refl o)
open_prepares drawn states.Applied r o h = absurd (both_ways _ refl o)
open_prepares drawn states.Undone r o h = absurd (both_ways _ refl o)
open_prepares drawn states.ChoseCommit r o h = absurd (both_ways _ refl o)
open_prepares drawn states.ChoseRollback r o h = absurd (both_ways _ refl o)
open_prepares drawn states.Forgotten r o h = absurd (both_ways _ refl o)

owns_by : (drawn : ℕ) (s : State) (r : Resource) → r.state ≡ s → is_open s ≡ true → IsWritable drawn s r → HasOwnPuts r
owns_by drawn states.Fresh r is o h = inr h.1
owns_by drawn states.Working r is o h = inl (ap holds is)
owns_by drawn states.Refused r is o h = absurd (both_ways _ refl o)
owns_by drawn states.Prepared r is o h = absurd (both_ways _ refl o)
owns_by drawn states.Applied r is o h = absurd (both_ways _ refl o)
owns_by drawn states.Undone r is o h = absurd (both_ways _ refl o)
owns_by drawn states.ChoseCommit r is o h = absurd (both_ways _ refl o)
owns_by drawn states.ChoseRollback r is o h = absurd (both_ways _ refl o)
owns_by drawn states.Forgotten r is o h = absurd (both_ways _ refl o)

pub owns : (drawn : ℕ) (r : Resource) → is_open r.state ≡ true → IsWritable drawn r.state r → HasOwnPuts r
owns drawn r o h = owns_by drawn r.state r refl o h

pub whole_put : {D : Type 0} (journal : JournalState D) (drawn : ℕ) (recovery : List ℕ) (rs : List Resource) → IsWhole journal drawn recovery rs
    → (id : Id) (r : Resource) (p : Put) → numbered id rs ≡ Some r → is_open r.state ≡ true → FitsPut p → has_room p.cell r ≡ true → journal.doubted ≡ None
    → IsWhole journal drawn recovery (with_resource (with_cell p.cell p.value r) rs)
whole_put journal drawn recovery rs whole id r p there o fits room none =
    let can = open_prepares drawn r.state r o (at_known (numbered id rs) r (λ s. IsWritable drawn s.state s) there (whole.writable id)) in
    record {
      recorded = all_with (IsRecorded journal.found.standing) rs (with_cell p.cell p.value r) whole.recorded (own_recorded journal.found.standing id rs r there whole.recorded);
      writable = all_with (λ id s. IsWritable drawn s.state s) rs (with_cell p.cell p.value r) whole.writable
          (record { fits = (can.fits.0, can.fits.1, can.fits.2, fits_put p r can.fits.3 fits room); number = can.number });
      recallable = subst (λ d. IfSome d (λ item. IsRecallable item recovery (with_resource (with_cell p.cell p.value r) rs))) (sym none) tt;
      failed = whole.failed;
    }
