-- The laws of records that are told again.
use Rattle.std.proofs.Common.{◌≡◌, ◌∙◌, ℕ, zero, suc, Bool, true, false, cond, not, ◌&&◌, ◌||◌, List, [], ◌∷◌, map, Some, None, refl, sym, ap, arith}
use Rattle.std.specs.Prelude.{◌==◌, find}
use Rattle.std.specs.List.{Any, list_any}
use Rattle.std.specs.Option.{option_map}
use Rattle.ots_model.specs.declared.completion.CallNumber.{CallNumber}
use Rattle.ots_model.specs.declared.tree.Heard.{Heard}
use Rattle.recovery_coord.specs.declared.held.Due.{Due}
use Rattle.recovery_coord.specs.declared.held.Due.TheVariants as due
use Rattle.recovery_coord.specs.declared.held.Party.{Party}
use Rattle.recovery_coord.specs.declared.held.Held.{Held}
use Rattle.recovery_coord.specs.Held.{is_complete, is_nothing}
use Rattle.recovery_coord.specs.Hearing.{completes, due_after, held_after, is_retold, party_after, record_after}
use Rattle.recovery_coord.specs.Laws.{CompletesOnce, OtherAnswersChangeNothing, waits}

-- ---- answers that aren't outstanding

left_false : (a b : Bool) → (a || b) ≡ false → a ≡ false
left_false false b e = refl
left_false true b e = absurd cc

right_false : (a b : Bool) → (a || b) ≡ false → b ≡ false
right_false false b e = e
right_false true b e = absurd cc

module _ (serial : ℕ) (h : Heard) where
  deaf : (p : Party) → (p.index == serial && not (is_nothing p.due)) ≡ false → party_after serial h p ≡ p
  deaf p e = by_index (p.index == serial) p.due e refl
    where
      by_index : (b : Bool) (w : Due) → (b && not (is_nothing w)) ≡ false → p.due ≡ w → cond b (record p { due = due_after p.due h }) p ≡ p
      by_index false w e is = refl
      by_index true due.Commit e is = absurd cc
      by_index true due.Forget e is = absurd cc
      by_index true due.Nothing e is =
          ap (λ (w : Due). record p { due = due_after w h }) is ∙ ap (λ (w : Due). record p { due = w }) (sym is)

  all_deaf : (ps : List Party) → waits serial ps ≡ false → map (party_after serial h) ps ≡ ps
  all_deaf [] e = refl
  all_deaf (p ∷ ps) e =
      ap (λ (q : Party). q ∷ map (party_after serial h) ps) (deaf p (left_false (p.index == serial && not (is_nothing p.due)) (waits serial ps) e))
      ∙ ap (λ (qs : List Party). p ∷ qs) (all_deaf ps (right_false (p.index == serial && not (is_nothing p.due)) (waits serial ps) e))

module _ (n : CallNumber) (h : Heard) where
  record_deaf : (r : Held) → (r.place == n.generation && waits n.serial r.parties) ≡ false → record_after n h r ≡ r
  record_deaf r e = by_place (r.place == n.generation) e
    where
      by_place : (b : Bool) → (b && waits n.serial r.parties) ≡ false → cond b (held_after n.serial h r) r ≡ r
      by_place false e = refl
      by_place true e = ap (λ (ps : List Party). record r { parties = ps }) (all_deaf n.serial h r.parties e)

  abbrev hit : Held → Bool
  hit r = r.place == n.generation && waits n.serial r.parties

  records_deaf : (rs : List Held) → list_any hit rs ≡ false → map (record_after n h) rs ≡ rs
  records_deaf [] e = refl
  records_deaf (r ∷ rs) e =
      ap (λ (x : Held). x ∷ map (record_after n h) rs) (record_deaf r (left_false (hit r) (list_any hit rs) e))
      ∙ ap (λ (xs : List Held). r ∷ xs) (records_deaf rs (right_false (hit r) (list_any hit rs) e))

  never_both : (c : Bool) → (not c && c) ≡ false
  never_both true = refl
  never_both false = refl

  none_completed : (rs : List Held) → list_any hit rs ≡ false → find (completes n h) rs ≡ None
  none_completed [] e = refl
  none_completed (r ∷ rs) e =
      ap (λ (x : Held). cond (not (is_complete r) && is_complete x) (Some r) (find (completes n h) rs)) (record_deaf r (left_false (hit r) (list_any hit rs) e))
      ∙ ap (λ (b : Bool). cond b (Some r) (find (completes n h) rs)) (never_both (is_complete r))
      ∙ none_completed rs (right_false (hit r) (list_any hit rs) e)

pub other_answers_change_nothing : OtherAnswersChangeNothing
other_answers_change_nothing life n h records e = by_number (is_retold life n) e
  where
    by_number : (b : Bool) → (b && list_any (hit n h) records) ≡ false
        → (cond b (map (record_after n h) records) records ≡ records) × (cond b (option_map (λ (r : Held). r.place) (find (completes n h) records)) None ≡ None)
    by_number false e = (refl, refl)
    by_number true e = (records_deaf n h records e, ap (option_map (λ (r : Held). r.place)) (none_completed n h records e))

-- ---- a record is complete once

module _ (n : CallNumber) (h : Heard) (place : ℕ) where
  abbrev Turns : Held → Type 0
  Turns r = (r.place ≡ place) × (is_complete r ≡ false) × (is_complete (record_after n h r) ≡ true)

  further : (r : Held) (rs : List Held) → Any Turns rs → Any Turns (r ∷ rs)
  further r rs any = (suc any.0, any.1, omega (arith, any.2), any.3, any.4)

  both : (a b : Bool) → (not a && b) ≡ true → (a ≡ false) × (b ≡ true)
  both false b e = (refl, e)
  both true b e = absurd cc

  found : (rs : List Held) → option_map (λ (r : Held). r.place) (find (completes n h) rs) ≡ Some place → Any Turns rs
  found [] e = absurd cc
  found (r ∷ rs) e = by_test (found rs) (completes n h r) refl e
    where
      by_test : (option_map (λ (x : Held). x.place) (find (completes n h) rs) ≡ Some place → Any Turns rs) → (b : Bool) → completes n h r ≡ b → option_map (λ (x : Held). x.place) (cond b (Some r) (find (completes n h) rs)) ≡ Some place → Any Turns (r ∷ rs)
      by_test rest true turns e =
          let parts = both (is_complete r) (is_complete (record_after n h r)) turns in
          let same : r.place ≡ place = cc in
          (zero, r, omega arith, refl, (same, parts.0, parts.1))
      by_test rest false turns e = further r rs (rest e)

pub completes_once : CompletesOnce
completes_once life n h records place e = by_number (is_retold life n) e
  where
    by_number : (b : Bool) → cond b (option_map (λ (r : Held). r.place) (find (completes n h) records)) None ≡ Some place → Any (Turns n h place) records
    by_number true e = found n h place records e
    by_number false e = absurd cc
