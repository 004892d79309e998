-- How long references are, and how much room buffers have for them.
use Rattle.std.proofs.Common.{◌≡◌, refl, sym, ap, ℕ, zero, suc, ◌≤◌, List, [], ◌∷◌, ◌++◌, length, map, slice_set, Some, arith, subst, ◌∙◌}
use Rattle.std.specs.Prelude.{max, min}
use Rattle.std.specs.List.{slice_get}
use Rattle.std.proofs.lemmas.Option.{same_Some}
use Rattle.ots_model.specs.Limits.{reference_limit}
use Rattle.ots_model.specs.declared.completion.Heard.{Heard}
use Rattle.resource_votes.specs.declared.registration.Registration.{Registration}
use Rattle.two_phase.specs.Course.{heard_at}
use Rattle.two_phase.specs.CourseInside.{longest, reach}
use Rattle.two_phase.specs.Parties.{party_of}
use Rattle.two_phase.specs.Stages as stages
use Rattle.two_phase.specs.Stages.{Room}
use Rattle.two_phase.specs.StockInside.{AreRoomy}
use Rattle.two_phase.specs.declared.party.Party.{Party}
use Rattle.two_phase.specs.declared.party.Stage.{Stage}
use Rattle.two_phase.specs.declared.party.Stage.TheVariants as kinds

-- ---- buffers

pub more_roomy : (n x : ℕ) (bs : List ℕ) → AreRoomy n bs → n ≤ x → AreRoomy n (bs ++ x ∷ [])
more_roomy n x [] all one = (one, tt)
more_roomy n x (b ∷ bs) all one = (all.0, more_roomy n x bs all.1 one)

pub less_roomy : (m n : ℕ) (bs : List ℕ) → m ≤ n → AreRoomy n bs → AreRoomy m bs
less_roomy m n [] less all = tt
less_roomy m n (b ∷ bs) less all = (omega (arith, less, all.0), less_roomy m n bs less all.1)

pub last_roomy : (n x : ℕ) (bs : List ℕ) → AreRoomy n (bs ++ x ∷ []) → n ≤ x
last_roomy n x [] all = all.0
last_roomy n x (b ∷ bs) all = last_roomy n x bs all.1

pub rest_roomy : (n : ℕ) (bs more : List ℕ) → AreRoomy n (bs ++ more) → AreRoomy n bs
rest_roomy n [] more all = tt
rest_roomy n (b ∷ bs) more all = (all.0, rest_roomy n bs more all.1)

-- ---- references

pub longest_at : (ps : List Party) (i : ℕ) (p : Party) → slice_get ps i ≡ Some p → length p.to ≤ longest ps
longest_at [] i p at = absurd (cc at)
longest_at (x ∷ ps) zero p at = let e : length x.to ≡ length p.to = ap (λ (q : Party). length q.to) (same_Some x p at) in omega (arith, e)
longest_at (x ∷ ps) (suc i) p at = let r = longest_at ps i p at in omega (arith, r)

pub longest_set : (ps : List Party) (i : ℕ) (x y : Party) → slice_get ps i ≡ Some x → length y.to ≡ length x.to → longest (slice_set ps i y) ≡ longest ps
longest_set [] i x y at same = refl
longest_set (z ∷ ps) zero x y at same = let e : length z.to ≡ length x.to = ap (λ (q : Party). length q.to) (same_Some z x at) in omega (arith, e, same)
longest_set (z ∷ ps) (suc i) x y at same = let r = longest_set ps i x y at same in omega (arith, r)

pub heard_to : (stage : Stage) (h : Heard) (x : Party) → length (heard_at stage h x).to ≡ length x.to
heard_to kinds.Asking h x = refl
heard_to kinds.Telling h x = refl
heard_to kinds.Forgetting h x = refl

pub longest_entered : (rs : List Registration) → longest (map party_of rs) ≡ stages.longest rs
longest_entered [] = refl
longest_entered (r ∷ rs) = let e = longest_entered rs in omega (arith, e)

pub reach_of : (ps qs : List Party) → longest ps ≡ longest qs → reach ps ≡ reach qs
reach_of ps qs e = ap (λ n. min n reference_limit) e

-- buffers that had room for those that are registered have it for those that take part
pub entered_roomy : (rs : List Registration) (before now : List Party) (bs : List ℕ) → now ≡ before ++ map party_of rs → before ≡ []
    → AreRoomy (min (stages.longest rs) reference_limit) bs → AreRoomy (reach now) bs
entered_roomy rs before now bs is none all =
    let e : longest now ≡ stages.longest rs = ap (λ ps. longest ps) (is ∙ ap (λ ps. ps ++ map party_of rs) none) ∙ longest_entered rs in
    subst (λ n. AreRoomy (min n reference_limit) bs) (sym e) all

-- ---- rooms

-- there is as much room as was asked for
pub wide_enough : (participants octets : ℕ) (room : Room) → participants ≤ room.places → octets ≤ room.octets → room ≡ stages.widened participants octets room
wide_enough participants octets room many long =
    let places : room.places ≡ max room.places participants = omega (arith, many) in
    let octets_in : room.octets ≡ max room.octets octets = omega (arith, long) in
    ap (λ (n : ℕ). record room { places = n }) places ∙ ap (λ (n : ℕ). record room { places = max room.places participants; octets = n }) octets_in
