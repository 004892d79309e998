-- How many answers the participants have given.
use Rattle.std.proofs.Common.{◌≡◌, refl, ℕ, ◌+◌, ◌*◌, ◌^◌, ◌<◌, ◌≤◌, suc, List, [], ◌∷◌, length, sum_by, slice_set, Option, Some, None, ap, arith}
use Rattle.std.specs.List.{slice_get}
use Rattle.std.proofs.lemmas.Option.{get_or_from_slice_get, slice_get_within}
use Rattle.std.proofs.lemmas.List.{length-set}
use Rattle.std.proofs.lemmas.List.Sums.{sum_by-set, sum_by-cons}
use Rattle.ots_model.specs.declared.completion.Heard.{Heard}
use Rattle.ots_model.specs.declared.completion.Heard.TheVariants as hears
use Rattle.ots_model.specs.declared.tree.Reason.{Reason}
use Rattle.ots_model.specs.Limits.{registration_limit}
use Rattle.two_phase.specs.Course.{heard_at, heard_by}
use Rattle.two_phase.specs.CourseInside.{answer_at, OpenAt, IsOpen, if_overtaken, done}
use Rattle.two_phase.specs.Parties.{one_where, answers}
use Rattle.two_phase.specs.declared.party.Party.{Party}
use Rattle.two_phase.specs.declared.party.Stage.{Stage}
use Rattle.two_phase.specs.declared.party.Stage.TheVariants as stages
use Rattle.two_phase.specs.declared.party.Errand.{Errand}

one_few : (o : Option Heard) → one_where o ≤ 1
one_few None = omega arith
one_few (Some h) = omega arith

-- each gives at most three
answers_few : (p : Party) → answers p ≤ 3
answers_few p =
    let a = one_few p.ballot in
    let b = one_few p.told in
    let c = one_few p.forgot in
    omega (arith, a, b, c)

pub answered_few : (ps : List Party) → sum_by answers ps ≤ 3 * length ps
answered_few [] = omega arith
answered_few (p ∷ ps) =
    let r = answered_few ps in
    let a = answers_few p in
    let s = sum_by-cons answers p ps in
    omega (arith, r, a, s)

-- one that answers gives one answer more
one_more : (stage : Stage) (h : Heard) (p : Party) → answer_at stage p ≡ None → answers (heard_at stage h p) ≡ suc (answers p)
one_more stages.Asking h p e = let z : one_where p.ballot ≡ 0 = ap one_where e in omega (arith, z)
one_more stages.Telling h p e = let z : one_where p.told ≡ 0 = ap one_where e in omega (arith, z)
one_more stages.Forgetting h p e = let z : one_where p.forgot ≡ 0 = ap one_where e in omega (arith, z)

pub answered_more : (ps : List Party) (e : Errand) (h : Heard) (x : Party) → slice_get ps e.place ≡ Some x → answer_at e.stage x ≡ None
    → sum_by answers (slice_set ps e.place (heard_at e.stage h x)) ≡ suc (sum_by answers ps)
answered_more ps e h x at none =
    let s = sum_by-set answers ps e.place (heard_at e.stage h x) x (slice_get_within ps e.place x at) in
    let g = ap answers (get_or_from_slice_get ps e.place x x at) in
    let m = one_more e.stage h x none in
    omega (arith, s, g, m)

-- a participant that hasn't answered a word is there
pub opened : (ps : List Party) (e : Errand) (o : Option Party) → slice_get ps e.place ≡ o → OpenAt e.stage o
    → (x : Party) × (slice_get ps e.place ≡ Some x) × (answer_at e.stage x ≡ None)
opened ps e None is h = absurd h
opened ps e (Some x) is h = (x, is, h)

-- while one hasn't answered, not all answers were given
pub answered_less : (ps : List Party) (e : Errand) → IsOpen ps (Some e) → suc (sum_by answers ps) ≤ 3 * length ps
answered_less ps e h =
    let o = opened ps e (slice_get ps e.place) refl h in
    let m = answered_more ps e hears.Done o.0 o.1 o.2 in
    let f = answered_few (slice_set ps e.place (heard_at e.stage hears.Done o.0)) in
    let l = length-set ps e.place (heard_at e.stage hears.Done o.0) in
    omega (arith, m, f, l)

-- one word at most is overtaken
pub overtaken_few : (o : Option Reason) → if_overtaken o ≤ 1
overtaken_few None = omega arith
overtaken_few (Some reason) = omega arith

-- the numbers don't end
pub serial_fits : (serial : ℕ) (ps : List Party) (o : Option Reason) → length ps ≤ registration_limit → serial ≤ 2 ^ 31 + done ps o → serial + 1 < 2 ^ 32
serial_fits serial ps o few bound =
    let f = answered_few ps in
    let v = overtaken_few o in
    omega (arith, few, bound, f, v)

pub heard_is : (ps : List Party) (e : Errand) (h : Heard) (x : Party) → slice_get ps e.place ≡ Some x → heard_by ps e h ≡ slice_set ps e.place (heard_at e.stage h x)
heard_is ps e h x at = rw (heard_by, at) refl
