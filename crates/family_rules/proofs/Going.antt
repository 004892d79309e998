-- What may go on still may.
use Rattle.std.proofs.Common.{refl, subst, sym, Some, ◌≡◌, ap, ◌∙◌, ℕ, ◌+◌, ◌≤◌, List, [], ◌∷◌, zero, suc, length, slice_set, Option, None, arith}
use Rattle.std.specs.List.{slice_get}
use Rattle.std.specs.Option.{option_and_then}
use Rattle.family_rules.specs.Changes.{DraftParts}
use Rattle.family_rules.specs.Calls.{deciding_in}
use Rattle.coordinator.specs.Family.{Family, Call, Duty, call_at, with_call}
use Rattle.coordinator.specs.declared.call.Leg.{Leg}
use Rattle.coordinator.specs.declared.call.Leg.TheVariants.{Below, Own, Before, Deciding, After}
use Rattle.family_rules.specs.Going.{CanGo, TasksFit}
use Rattle.coordinator.specs.Running.{left_by, left_below}

tasks_fit : (f g : Family) (room more : ℕ) → g.calls ≡ f.calls → room ≤ more → TasksFit f room → TasksFit g more
tasks_fit f g room more same rises fit b =
    let is : call_at g b ≡ call_at f b = ap (λ (cs : List (Option Call)). call_at (record f { calls = cs }) b) same in
    let few : length (left_by (call_at g b)) ≡ length (left_by (call_at f b)) = ap (λ (o : Option Call). length (left_by o)) is in
    let h = fit b in
    omega (arith, few, h, rises)

-- where no call changed, and nothing went out
pub still_can : (m n : ℕ) (f g : Family) (d e : DraftParts) → length g.rows ≡ length f.rows → g.serial ≡ f.serial → length g.entries ≡ length f.entries → g.calls ≡ f.calls
    → e.changes.words ≡ d.changes.words → e.changes.tasks ≡ d.changes.tasks → d.room + n ≤ e.room + m → d.tasks_room ≤ e.tasks_room → CanGo m f d → CanGo n g e
still_can m n f g d e rows serial entries calls words tasks room more can = record {
  some = omega (arith, rows, can.some);
  serial = omega (arith, serial, entries, can.serial);
  quiet = words ∙ can.quiet;
  empty = tasks ∙ can.empty;
  room = omega (arith, room, can.room);
  tasks = tasks_fit f g d.tasks_room e.tasks_room calls more can.tasks;
}

-- ---- where a call is over

no_call_at : (cs : List (Option Call)) (b at : ℕ) → length (left_by (option_and_then (λ (c : Option Call). c) (slice_get (slice_set cs b None) at)))
    ≤ length (left_by (option_and_then (λ (c : Option Call). c) (slice_get cs at)))
no_call_at [] b at = omega arith
no_call_at (x ∷ cs) zero zero = omega arith
no_call_at (x ∷ cs) zero (suc at) = omega arith
no_call_at (x ∷ cs) (suc b) zero = omega arith
no_call_at (x ∷ cs) (suc b) (suc at) = no_call_at cs b at

fits_without : (f g : Family) (b room more : ℕ) → g.calls ≡ slice_set f.calls b None → room ≤ more → TasksFit f room → TasksFit g more
fits_without f g b room more same rises fit at =
    let is : call_at g at ≡ call_at (record f { calls = slice_set f.calls b None }) at = ap (λ (cs : List (Option Call)). call_at (record f { calls = cs }) at) same in
    let few : length (left_by (call_at g at)) ≡ length (left_by (call_at (record f { calls = slice_set f.calls b None }) at)) = ap (λ (o : Option Call). length (left_by o)) is in
    omega (arith, few, no_call_at f.calls b at, fit at, rises)

pub can_without : (m n b : ℕ) (f g : Family) (d e : DraftParts) → length g.rows ≡ length f.rows → g.serial ≡ f.serial → length g.entries ≡ length f.entries
    → g.calls ≡ slice_set f.calls b None → e.changes.words ≡ d.changes.words → e.changes.tasks ≡ [] → d.room + n ≤ e.room + m → d.tasks_room ≤ e.tasks_room
    → CanGo m f d → CanGo n g e
can_without m n b f g d e rows serial entries calls words tasks room more can = record {
  some = omega (arith, rows, can.some);
  serial = omega (arith, serial, entries, can.serial);
  quiet = words ∙ can.quiet;
  empty = tasks;
  room = omega (arith, room, can.room);
  tasks = fits_without f g b d.tasks_room e.tasks_room calls more can.tasks;
}

-- ---- where a call has no more left to tell than it had

pub can_less : (m n : ℕ) (f : Family) (d : DraftParts) → n ≤ m → CanGo m f d → CanGo n f d
can_less m n f d less can = still_can m n f f d d refl refl refl refl refl refl (omega (arith, less)) (omega arith) can

put_fits : (cs : List (Option Call)) (b at : ℕ) (x : Option Call)
    → length (left_by x) ≤ length (left_by (option_and_then (λ (c : Option Call). c) (slice_get cs b)))
    → length (left_by (option_and_then (λ (c : Option Call). c) (slice_get (slice_set cs b x) at)))
    ≤ length (left_by (option_and_then (λ (c : Option Call). c) (slice_get cs at)))
put_fits [] b at x h = omega arith
put_fits (y ∷ cs) zero zero x h = h
put_fits (y ∷ cs) zero (suc at) x h = omega arith
put_fits (y ∷ cs) (suc b) zero x h = omega arith
put_fits (y ∷ cs) (suc b) (suc at) x h = put_fits cs b at x h

put_fit : (f g : Family) (b room : ℕ) (x : Option Call) → g.calls ≡ slice_set f.calls b x → length (left_by x) ≤ length (left_by (call_at f b))
    → TasksFit f room → TasksFit g room
put_fit f g b room x same less fit at =
    let is : call_at g at ≡ call_at (record f { calls = slice_set f.calls b x }) at = ap (λ (cs : List (Option Call)). call_at (record f { calls = cs }) at) same in
    let few : length (left_by (call_at g at)) ≡ length (left_by (call_at (record f { calls = slice_set f.calls b x }) at)) = ap (λ (o : Option Call). length (left_by o)) is in
    omega (arith, few, put_fits f.calls b at x less, fit at)

can_put : (m b : ℕ) (f g : Family) (d : DraftParts) (x : Option Call) → g ≡ record f { calls = slice_set f.calls b x }
    → length (left_by x) ≤ length (left_by (call_at f b)) → CanGo m f d → CanGo m g d
can_put m b f g d x is less can =
    let rows = ap (λ (y : Family). length y.rows) is in
    let serial = ap (λ (y : Family). y.serial) is in
    let entries = ap (λ (y : Family). length y.entries) is in
    record {
      some = omega (arith, rows, can.some);
      serial = omega (arith, serial, entries, can.serial);
      quiet = can.quiet;
      empty = can.empty;
      room = can.room;
      tasks = put_fit f g b d.tasks_room x (ap (λ (y : Family). y.calls) is) less can.tasks;
    }

left_same : (leg : Leg) (k : Call) → left_below leg (record k { out = None }) ≡ left_below leg k
left_same Below k = refl
left_same Own k = refl
left_same (Before n) k = refl
left_same Deciding k = refl
left_same (After n) k = refl

-- a word is out no more
pub can_hear : (m b : ℕ) (f g : Family) (d : DraftParts) (k : Call) → call_at f b ≡ Some k → g ≡ with_call b (record k { out = None }) f → CanGo m f d → CanGo m g d
can_hear m b f g d k at is can =
    let had : length (left_by (call_at f b)) ≡ length (left_below k.leg k) = ap (λ (o : Option Call). length (left_by o)) at in
    let same : length (left_below k.leg (record k { out = None })) ≡ length (left_below k.leg k) = ap (λ (ds : List Duty). length ds) (left_same k.leg k) in
    can_put m b f g d (Some (record k { out = None })) is (omega (arith, had, same)) can

-- a call goes on with the completion
pub can_decide : (m b : ℕ) (f g : Family) (d : DraftParts) (o : Option Call) → call_at f b ≡ o → g ≡ deciding_in o b f → CanGo m f d → CanGo m g d
can_decide m b f g d None at is can = subst (λ (x : Family). CanGo m x d) (sym is) can
can_decide m b f g d (Some k) at is can = can_put m b f g d (Some (record k { leg = Deciding })) is (omega arith) can
