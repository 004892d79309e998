-- A cell that a resource holds is held from each other one.
use Rattle.std.proofs.Common.{refl, arith, ap, ◌∙◌}
use Rattle.std.specs.Prelude.{◌≡◌, ℕ, zero, suc, ◌<◌, ◌&&◌, not, Bool, true, false, cond, List, [], ◌∷◌, length, find, is_some, slice_index_or, Some}
use Rattle.resource_end.specs.States.{holds}
use Rattle.resource_end.specs.Cells.{value_at}
use Rattle.resource_end.specs.End.{is_numbered, is_other_holder}
use Rattle.resource_end.specs.Laws.{HeldCellsAreHeld}

-- a test that one of a list passes finds one
finds : {A : Type 0} (test : A → Bool) (b : Bool) (x : A) (xs : List A) → test x ≡ b → (b ≡ false → is_some (find test xs) ≡ true)
    → is_some (cond b (Some x) (find test xs)) ≡ true
finds test true x xs e rest = refl
finds test false x xs e rest = rest refl

found : {A : Type 0} (test : A → Bool) (xs : List A) (k : ℕ) (d : A) → k < length xs → test (slice_index_or xs k d) ≡ true
    → is_some (find test xs) ≡ true
found test [] k d h t = absurd (omega (arith, h))
found test (x ∷ xs) zero d h t = ap (λ b. is_some (cond b (Some x) (find test xs))) t
found test (x ∷ xs) (suc k) d h t = finds test (test x) x xs refl (λ _. found test xs k d (omega (arith, h)) t)

passes : (a b c : Bool) → a ≡ false → b ≡ true → c ≡ true → (not a && b && c) ≡ true
passes a b c p q r = ap (λ x. not x && b && c) p ∙ ap (λ x. x && c) q ∙ r

pub held_cells_are_held : HeldCellsAreHeld
held_cells_are_held e r holder cell here other holding put =
    found (is_other_holder r cell) e.resources here.0 holder here.1
    (ap (is_other_holder r cell) here.2 ∙ passes (is_numbered r.life r.number holder) (holds holder.state) (is_some (value_at cell holder.puts)) other holding put)
