-- The first so many were told the outcome, so a look begins behind them.
use Rattle.std.proofs.Common.{◌≡◌, refl, ℕ, suc, ◌+◌, ◌<◌, List, length, take, drop, slice_set, position, Option, Some, None, sym, subst, ◌&&◌, is_none, is_some, Bool, true, false, if◌then◌else◌, arith}
use Rattle.std.specs.Prelude.{◌==◌}
use Rattle.std.specs.List.{slice_get, list_all}
use Rattle.std.specs.Option.{option_map}
use Rattle.std.proofs.lemmas.Bool.Decides.{nat_tests}
use Rattle.ots_model.specs.declared.completion.Heard.{Heard}
use Rattle.ots_model.specs.Numbered.{Outcome}
use Rattle.two_phase.specs.Course.{heard_at}
use Rattle.two_phase.specs.CourseInside.{told_past}
use Rattle.two_phase.specs.Parties.{has_been_told, is_told, is_untold}
use Rattle.two_phase.specs.declared.party.Party.{Party}
use Rattle.two_phase.specs.declared.party.Stage.{Stage}
use Rattle.two_phase.specs.declared.party.Stage.TheVariants as stages
use Rattle.two_phase.specs.declared.party.Errand.{Errand}
use Rattle.two_phase.proofs.Behind.{found_behind, found_within, set_all, set_more}

-- one that was told is not told again
told_once : (o : Option Heard) (b : Bool) → is_some o ≡ true → (is_none o && b) ≡ false
told_once None b e = absurd (cc (e))
told_once (Some h) b e = refl

pub untold_behind : (alone : Bool) (fixed : Outcome) (n : ℕ) (ps : List Party) → list_all has_been_told (take n ps) ≡ true
    → position (is_untold alone fixed) ps ≡ option_map (λ i. n + i) (position (is_untold alone fixed) (drop n ps))
untold_behind alone fixed n ps all = found_behind has_been_told (is_untold alone fixed) (λ p e. told_once p.told (is_told alone fixed p) e) n ps all

pub untold_within : (alone : Bool) (fixed : Outcome) (n : ℕ) (ps : List Party) (i : ℕ) (d : Party) → position (is_untold alone fixed) (drop n ps) ≡ Some i
    → n + i < length ps
untold_within alone fixed n ps i d is = found_within (is_untold alone fixed) n ps i d is

-- an answer leaves them so
stays_told : (stage : Stage) (h : Heard) (x : Party) → has_been_told x ≡ true → has_been_told (heard_at stage h x) ≡ true
stays_told stages.Asking h x so = so
stays_told stages.Telling h x so = refl
stays_told stages.Forgetting h x so = so

kept : (n : ℕ) (ps : List Party) (stage : Stage) (place : ℕ) (h : Heard) (x : Party) → slice_get ps place ≡ Some x
    → list_all has_been_told (take n ps) ≡ true → list_all has_been_told (take n (slice_set ps place (heard_at stage h x))) ≡ true
kept n ps stage place h x at all = set_all has_been_told n ps place x (heard_at stage h x) at (stays_told stage h x) all

-- the first behind them, once it has answered, is one of them
by_place : (b : Bool) (n : ℕ) (ps : List Party) (place : ℕ) (h : Heard) (x : Party) → (place == n) ≡ b → slice_get ps place ≡ Some x
    → list_all has_been_told (take n ps) ≡ true
    → list_all has_been_told (take (if b then suc n else n) (slice_set ps place (heard_at stages.Telling h x))) ≡ true
by_place true n ps place h x is at all =
    let same : n ≡ place = grind (arith, nat_tests, is) in
    subst (λ m. list_all has_been_told (take (suc m) (slice_set ps place (heard_at stages.Telling h x))) ≡ true) (sym same)
    (set_more has_been_told place ps x (heard_at stages.Telling h x) at refl (subst (λ m. list_all has_been_told (take m ps) ≡ true) same all))
by_place false n ps place h x is at all = kept n ps stages.Telling place h x at all

by_stage : (n : ℕ) (ps : List Party) (stage : Stage) (place : ℕ) (h : Heard) (x : Party) → slice_get ps place ≡ Some x
    → list_all has_been_told (take n ps) ≡ true
    → list_all has_been_told (take (told_past stage place n) (slice_set ps place (heard_at stage h x))) ≡ true
by_stage n ps stages.Asking place h x at all = kept n ps stages.Asking place h x at all
by_stage n ps stages.Telling place h x at all = by_place (place == n) n ps place h x refl at all
by_stage n ps stages.Forgetting place h x at all = kept n ps stages.Forgetting place h x at all

pub heard_told : (n : ℕ) (ps : List Party) (e : Errand) (h : Heard) (x : Party) → slice_get ps e.place ≡ Some x → list_all has_been_told (take n ps) ≡ true
    → list_all has_been_told (take (told_past e.stage e.place n) (slice_set ps e.place (heard_at e.stage h x))) ≡ true
heard_told n ps e h x at all = by_stage n ps e.stage e.place h x at all
