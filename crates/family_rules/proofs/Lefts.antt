-- No call has more left to tell of a rollback below it than its seat keeps.
use Rattle.std.proofs.Common.{◌≡◌, ◌≤◌, ◌∙◌, ap, ℕ, zero, suc, Bool, true, false, List, [], ◌∷◌, length, Option, None, Some, arith, if◌then◌else◌}
use Rattle.std.specs.List.{slice_get}
use Rattle.std.specs.Option.{option_and_then, option_map}
use Rattle.resource_votes.specs.declared.registration.Registration.{Registration}
use Rattle.coordinator.specs.Family.{Family, Call, call_at}
use Rattle.coordinator.specs.declared.call.Leg.{Leg}
use Rattle.coordinator.specs.declared.call.Leg.TheVariants.{Below, Own, Before, Deciding, After}
use Rattle.coordinator.specs.Running.{left_below, left_by}
use Rattle.family_rules.specs.Calls.{AllLeft, all_seated, call_in, duties_in, duty_in, seated}
use Rattle.family_rules.specs.declared.call.Call.{Call as KeptCall}
use Rattle.family_rules.specs.declared.call.Seat.{Seat}
use Rattle.family_rules.specs.declared.call.Task.{Task}
use Rattle.family_rules.proofs.Kept.{found_few}
use Rattle.family_rules.proofs.Seated.{call_seated}

few_owed : (rs : List Registration) (left : List Task) (b : Bool) → length (if b then duties_in rs left else []) ≤ length left
few_owed rs left true = found_few (duty_in rs) left
few_owed rs left false = omega arith

few_below : (leg : Leg) (c : Call) (n : ℕ) → length c.left ≤ n → length (left_below leg c) ≤ n
few_below Below c n h = h
few_below Own c n h = omega arith
few_below (Before called) c n h = omega arith
few_below Deciding c n h = omega arith
few_below (After called) c n h = omega arith

few_by : (rs : List Registration) (left : List Task) (o : Option KeptCall) → length (left_by (option_map (call_in rs left) o)) ≤ length left
few_by rs left None = omega arith
few_by rs left (Some k) = few_below k.leg (call_in rs left k) (length left) (few_owed rs left k.owes)

few_at : (rs : List Registration) (seats : List Seat) (b most : ℕ) → AllLeft seats most → length (left_by (option_and_then (seated rs) (slice_get seats b))) ≤ most
few_at rs [] b most all = omega arith
few_at rs (s ∷ seats) zero most all = let few = few_by rs s.left.items s.call in let h = all.0 in omega (arith, few, h)
few_at rs (s ∷ seats) (suc b) most all = few_at rs seats b most all.1

pub most_is : (f : Family) (rs : List Registration) (seats : List Seat) (b most : ℕ) → f.calls ≡ all_seated rs seats → AllLeft seats most
    → length (left_by (call_at f b)) ≤ most
most_is f rs seats b most is all =
    let at : call_at f b ≡ option_and_then (seated rs) (slice_get seats b) =
    ap (λ (cs : List (Option Call)). call_at (record f { calls = cs }) b) is ∙ call_seated rs seats b in
    let same : length (left_by (call_at f b)) ≡ length (left_by (option_and_then (seated rs) (slice_get seats b))) = ap (λ (o : Option Call). length (left_by o)) at in
    let few = few_at rs seats b most all in
    omega (arith, same, few)
