-- Who was to be told an outcome has completed, the last one first.
use Rattle.std.proofs.Common.{◌≡◌, ◌∙◌, ap, refl, Bool, true, false, ◌&&◌, List, [], ◌∷◌, ◌++◌, length, arith}
use Rattle.std.specs.List.{list_all}
use Rattle.std.proofs.lemmas.List.Folds.{list_all-append}
use Rattle.ots_model.specs.Numbered.{Outcome}
use Rattle.two_phase.specs.Parties.{is_through}
use Rattle.two_phase.specs.Reports.{all_through}
use Rattle.two_phase.specs.declared.party.Party.{Party}

and_one : (a b : Bool) → (a && (b && true)) ≡ (b && a)
and_one true true = refl
and_one true false = refl
and_one false true = refl
and_one false false = refl

by_last : (alone : Bool) (fixed : Outcome) (ps others : List Party) (last : Party) → ps ≡ others ++ last ∷ []
    → all_through alone fixed ps ≡ (is_through alone fixed last && all_through alone fixed others)
unfolding all_through
by_last alone fixed ps others last is =
    ap (λ qs. list_all (is_through alone fixed) qs) is
    ∙ list_all-append (is_through alone fixed) others (last ∷ [])
    ∙ and_one (list_all (is_through alone fixed) others) (is_through alone fixed last)

pub not_through : (alone : Bool) (fixed : Outcome) (ps others : List Party) (last : Party) → ps ≡ others ++ last ∷ []
    → is_through alone fixed last ≡ false → all_through alone fixed ps ≡ false
not_through alone fixed ps others last is misses = by_last alone fixed ps others last is ∙ ap (λ b. b && all_through alone fixed others) misses

pub others_through : (alone : Bool) (fixed : Outcome) (ps others : List Party) (last : Party) → ps ≡ others ++ last ∷ []
    → is_through alone fixed last ≡ true → all_through alone fixed ps ≡ all_through alone fixed others
others_through alone fixed ps others last is passes = by_last alone fixed ps others last is ∙ ap (λ b. b && all_through alone fixed others) passes

pub none_there : (alone : Bool) (fixed : Outcome) (ps : List Party) → length ps ≡ 0 → all_through alone fixed ps ≡ true
unfolding all_through
none_there alone fixed [] is = refl
none_there alone fixed (p ∷ ps) is = absurd (omega (arith, is))
