-- Looking for the first member of a list that passes a test, one after another.
use Rattle.std.proofs.Common.{◌≡◌, ℕ, ◌+◌, ◌<◌, Bool, false, List, ◌∷◌, length, find, get_or, drop, refl, sym, ◌∙◌}
use Rattle.std.specs.List.{list_any}
use Rattle.std.proofs.lemmas.List.{at_drop_more}

-- it isn't that one
pub passed_by : {A : Type 0} (p : A → Bool) (xs : List A) (i : ℕ) (d : A) → find p (drop i xs) ≡ find p xs → i < length xs → p (get_or xs i d) ≡ false → find p (drop (i + 1) xs) ≡ find p xs
passed_by p xs i d so_far within fails =
    let next : find p (get_or xs i d ∷ drop (i + 1) xs) ≡ find p (drop (i + 1) xs) = rw fails refl in
    sym next ∙ sym (at_drop_more (find p) xs i d within) ∙ so_far

-- nor is it one of those that pass
pub none_so_far : {A : Type 0} (p : A → Bool) (xs : List A) (i : ℕ) (d : A) → list_any p (drop i xs) ≡ list_any p xs → i < length xs → p (get_or xs i d) ≡ false → list_any p (drop (i + 1) xs) ≡ list_any p xs
none_so_far p xs i d so_far within fails =
    let next : list_any p (get_or xs i d ∷ drop (i + 1) xs) ≡ list_any p (drop (i + 1) xs) = rw fails refl in
    sym next ∙ sym (at_drop_more (list_any p) xs i d within) ∙ so_far
