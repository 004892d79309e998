-- The answer to a call among those of several entries.
use Rattle.std.proofs.Common.{◌≡◌, refl, ℕ, Bool, true, false, cond, List, [], ◌∷◌, ◌++◌, Option, Some, None}
use Rattle.std.specs.List.{flat_map}
use Rattle.std.specs.Option.{option_map}
use Rattle.coordinator.specs.History.{is_for, answer_among, later_answer}
use Rattle.coordinator.specs.declared.said.Entry.{Entry}
use Rattle.coordinator.specs.declared.said.Finished.{Finished}
use Rattle.coordinator.specs.declared.said.Said.{Said}

abbrev said_by : Option Finished → Option Said
said_by o = option_map (λ (a : Finished). a.said) o

step_none : (b : Bool) (x : Finished) (r s : Option Finished) (t : Option Said) → (said_by r ≡ None → said_by s ≡ t)
    → said_by (cond b (Some x) r) ≡ None → said_by (cond b (Some x) s) ≡ t
step_none true x r s t k h = absurd (cc h)
step_none false x r s t k h = k h

-- where it isn't among the first, it is among the others
among_none : (at : ℕ) (xs ys : List Finished) → answer_among at xs ≡ None → answer_among at (xs ++ ys) ≡ answer_among at ys
among_none at [] ys h = refl
among_none at (x ∷ xs) ys h = step_none (is_for at x) x _ _ _ (among_none at xs ys) h

step_some : (b : Bool) (x : Finished) (r s : Option Finished) (t : Said) → (said_by r ≡ Some t → said_by s ≡ Some t)
    → said_by (cond b (Some x) r) ≡ Some t → said_by (cond b (Some x) s) ≡ Some t
step_some true x r s t k h = h
step_some false x r s t k h = k h

among_some : (at : ℕ) (xs ys : List Finished) (t : Said) → answer_among at xs ≡ Some t → answer_among at (xs ++ ys) ≡ Some t
among_some at [] ys t h = absurd (cc h)
among_some at (x ∷ xs) ys t h = step_some (is_for at x) x _ _ t (among_some at xs ys t) h

pub not_here : (at : ℕ) (e : Entry) (es : List Entry) → answer_among at e.finished ≡ None → later_answer (e ∷ es) at ≡ later_answer es at
not_here at e es h = among_none at e.finished (flat_map (λ (x : Entry). x.finished) es) h

pub here : (at : ℕ) (e : Entry) (es : List Entry) (t : Said) → answer_among at e.finished ≡ Some t → later_answer (e ∷ es) at ≡ Some t
here at e es t h = among_some at e.finished (flat_map (λ (x : Entry). x.finished) es) t h
