-- Words that wait to go out, by slot (our profile).
use Rattle.std.specs.Prelude.{◌≡◌, ◌≢◌, ℕ, ◌==◌, ◌++◌, Bool, false, List, [], ◌∷◌, Option, Some, None}
use Rattle.std.specs.Option.{option_to_list}
use Rattle.ots_model.specs.declared.tree.Outward.{Outward}
use Rattle.nodes_seats.specs.declared.waiting.Waiting.{Waiting}

-- the words that wait, in order
abbrev pub waiting_words : Waiting → List Outward
waiting_words w = option_to_list w.next ++ w.others.words

-- where there is no next one, none waits
abbrev pub IsPrimed : Waiting → Type 0
IsPrimed w = w.next ≡ None → w.others.words ≡ []

-- the next one is of a family in a slot
abbrev pub is_of : ℕ → Option Outward → Bool
is_of slot (Some o) = o.number.slot == slot
is_of slot None = false

-- all are of a family in a slot
abbrev pub AreOf : ℕ → List Outward → Type 0
AreOf slot [] = Unit {0}
AreOf slot (o ∷ others) = (o.number.slot ≡ slot) × AreOf slot others

-- there are none, or the first is of another slot
abbrev pub BeginsOther : ℕ → List Outward → Type 0
BeginsOther slot [] = Unit {0}
BeginsOther slot (o ∷ others) = o.number.slot ≢ slot

-- these wait: first a family's own, then others
pub record IsSplit (slot : ℕ) (own rest : List Outward) (w : Waiting) : Type 0 where
  pub words : waiting_words w ≡ own ++ rest
  pub all_own : AreOf slot own
  pub others : BeginsOther slot rest
