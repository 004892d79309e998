-- An answer that came later is found by the place of the first entry that has one.
use Rattle.std.proofs.Common.{◌≡◌, ◌∙◌, refl, sym, ap, ℕ, suc, cond, ◌||◌, Bool, true, false, List, [], ◌∷◌, Option, Some, None, is_some}
use Rattle.std.specs.List.{find, flat_map, list_any, position, slice_get}
use Rattle.std.specs.Option.{option_and_then, option_map, option_or}
use Rattle.std.proofs.lemmas.List.Folds.{find-append}
use Rattle.coordinator.specs.History.{is_for, later_answer}
use Rattle.coordinator.specs.declared.said.Entry.{Entry}
use Rattle.coordinator.specs.declared.said.Finished.{Finished}
use Rattle.coordinator.specs.declared.said.Said.{Said}
use Rattle.family_step.specs.Callers.{answer_in, answered_later, answers_at, places_at}
use Rattle.family_step.proofs.Positions.{position_next}

either : (b : Bool) (x : Finished) (c : Bool) (o : Option Finished) → c ≡ is_some o → (b || c) ≡ is_some (cond b (Some x) o)
either true x c o e = refl
either false x c o e = e

abbrev said_by : Option Finished → Option Said
said_by o = option_map (λ (a : Finished). a.said) o

module _ (at : ℕ) where
  any_is : (xs : List Finished) → list_any (is_for at) xs ≡ is_some (find (is_for at) xs)
  any_is [] = refl
  any_is (x ∷ xs) = either (is_for at x) x _ _ (any_is xs)

  -- what the entry at a place answers
  abbrev by_entry : List Entry → ℕ → Option Said
  by_entry entries place = answer_in at (slice_get entries place)

  further : (x : Entry) (xs : List Entry) (o : Option ℕ) → option_and_then (by_entry (x ∷ xs)) (option_map suc o) ≡ option_and_then (by_entry xs) o
  further x xs None = refl
  further x xs (Some i) = refl

  -- where the first entry has it, and where it hasn't
  at_first : (x : Entry) (xs : List Entry) (b : Bool) → answers_at at x ≡ b
      → option_and_then (by_entry (x ∷ xs)) (position (answers_at at) (x ∷ xs))
      ≡ option_and_then (by_entry (x ∷ xs)) (cond b (Some 0) (option_map suc (position (answers_at at) xs)))
  at_first x xs b e =
      ap (option_and_then (by_entry (x ∷ xs))) (position_next (answers_at at) x xs)
      ∙ ap (λ (c : Bool). option_and_then (by_entry (x ∷ xs)) (cond c (Some 0) (option_map suc (position (answers_at at) xs)))) e

  pub later_is : (entries : List Entry) → later_answer entries at ≡ answered_later entries (places_at entries at)
  later_is [] = refl
  later_is (x ∷ xs) = by_found (later_is xs) (find (is_for at) x.finished) refl
    where
      others : List Finished
      others = flat_map (λ (e : Entry). e.finished) xs

      split : (o : Option Finished) → find (is_for at) x.finished ≡ o → later_answer (x ∷ xs) at ≡ said_by (option_or o (find (is_for at) others))
      split o e = ap said_by (find-append (is_for at) x.finished others) ∙ ap (λ (p : Option Finished). said_by (option_or p (find (is_for at) others))) e

      by_found : later_answer xs at ≡ answered_later xs (places_at xs at) → (o : Option Finished) → find (is_for at) x.finished ≡ o
          → later_answer (x ∷ xs) at ≡ answered_later (x ∷ xs) (places_at (x ∷ xs) at)
      by_found rest None e =
          split None e ∙ rest ∙ sym (further x xs (position (answers_at at) xs))
          ∙ sym (at_first x xs false (any_is x.finished ∙ ap (λ (o : Option Finished). is_some o) e))
      by_found rest (Some a) e =
          split (Some a) e ∙ sym (ap said_by e)
          ∙ sym (at_first x xs true (any_is x.finished ∙ ap (λ (o : Option Finished). is_some o) e))
