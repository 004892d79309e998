-- The answers of a step, by the place of its entry.
use Rattle.std.proofs.Common.{◌≡◌, ◌==◌, ◌∙◌, ◌<◌, ◌+◌, ◌++◌, refl, ap, sym, ℕ, suc, length, drop, get_or, drop-cons, add-one, append_assoc, not, Bool, true, false, cond, List, [], ◌∷◌, map, Option, Some}
use Rattle.std.specs.List.{find}
use Rattle.std.specs.Option.{option_map_or}
use Rattle.coordinator.specs.Step.{said_later, said_now}
use Rattle.coordinator.specs.declared.said.Finished.{Finished}
use Rattle.coordinator.specs.declared.said.Said.{Said}
use Rattle.family_rules.specs.Calls.{said_of}
use Rattle.family_rules.specs.Changes.{finished_of}
use Rattle.family_rules.specs.declared.draft.Told.{Told}

said_if : (b : Bool) (x : Told) (o : Option Told) (p : Option Finished) (otherwise : Said)
    → option_map_or (λ (a : Finished). a.said) p otherwise ≡ option_map_or (λ (t : Told). said_of t.reply) o otherwise
    → option_map_or (λ (a : Finished). a.said) (cond b (Some (finished_of x)) p) otherwise ≡ option_map_or (λ (t : Told). said_of t.reply) (cond b (Some x) o) otherwise
said_if true x o p otherwise h = refl
said_if false x o p otherwise h = h

-- what is said at once is the answer of the step's own call
pub said_by : (at : ℕ) (xs : List Told) (otherwise : Said)
    → said_now at (map finished_of xs) otherwise ≡ option_map_or (λ (t : Told). said_of t.reply) (find (λ (t : Told). t.position == at) xs) otherwise
said_by at [] otherwise = refl
said_by at (x ∷ xs) otherwise = said_if (x.position == at) x _ _ otherwise (said_by at xs otherwise)

-- what is left of a list begins with the element
split_at : (xs : List Told) (i : ℕ) (x : Told) → i < length xs → x ≡ get_or xs i x → drop i xs ≡ x ∷ drop (i + 1) xs
split_at xs i x within is =
    drop-cons xs i x within ∙ (ap (λ (y : Told). y ∷ drop (suc i) xs) (sym is) ∙ ap (λ (n : ℕ). x ∷ drop n xs) (sym (add-one i)))

later_of : (at : ℕ) (xs : List Told) (i : ℕ) (x : Told) (b : Bool) → i < length xs → x ≡ get_or xs i x → (x.position == at) ≡ b
    → said_later at (map finished_of (drop i xs))
    ≡ cond (not b) (finished_of x ∷ said_later at (map finished_of (drop (i + 1) xs))) (said_later at (map finished_of (drop (i + 1) xs)))
later_of at xs i x b within is test =
    ap (λ (ys : List Told). said_later at (map finished_of ys)) (split_at xs i x within is)
    ∙ ap (λ (t : Bool). cond (not t) (finished_of x ∷ said_later at (map finished_of (drop (i + 1) xs))) (said_later at (map finished_of (drop (i + 1) xs)))) test

-- the step's own answer isn't put
pub passed : (at : ℕ) (xs : List Told) (i : ℕ) (x : Told) (before : List Finished) → i < length xs → x ≡ get_or xs i x → (x.position == at) ≡ true
    → before ++ said_later at (map finished_of (drop (i + 1) xs)) ≡ before ++ said_later at (map finished_of (drop i xs))
passed at xs i x before within is test = ap (λ (ys : List Finished). before ++ ys) (sym (later_of at xs i x true within is test))

-- another one is
pub put : (at : ℕ) (xs : List Told) (i : ℕ) (x : Told) (before : List Finished) → i < length xs → x ≡ get_or xs i x → (x.position == at) ≡ false
    → (before ++ finished_of x ∷ []) ++ said_later at (map finished_of (drop (i + 1) xs)) ≡ before ++ said_later at (map finished_of (drop i xs))
put at xs i x before within is test =
    let joined : (before ++ finished_of x ∷ []) ++ said_later at (map finished_of (drop (i + 1) xs))
    ≡ before ++ finished_of x ∷ said_later at (map finished_of (drop (i + 1) xs)) = simp append_assoc in
    joined ∙ ap (λ (ys : List Finished). before ++ ys) (sym (later_of at xs i x false within is test))
