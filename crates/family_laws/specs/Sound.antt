-- What holds of each family that can be: of its lists, its completion and its calls under way (Transaction Service, nested
-- transactions; that the calls of one family go on beside each other is our profile).
use Rattle.std.specs.Prelude.{◌≡◌, ◌↔◌, ◌<◌, ℕ, Bool, List, length, map, Option, Some, None, is_some, Contains, IsTrue, ◌≤◌}
use Rattle.std.specs.List.{AllByRecursion, slice_get}
use Rattle.std.specs.Option.{option_and_then}
use Rattle.resource_votes.specs.Ballots.{Ballots, participants}
use Rattle.resource_votes.specs.Limits.{list_count}
use Rattle.resource_votes.specs.Lists.{AreNumbers, list_at}
use Rattle.resource_votes.specs.declared.registration.Registration.{Registration}
use Rattle.txn_tree.specs.Rows.{IsTree, is_live_branch}
use Rattle.txn_tree.specs.declared.row.Row.{Row}
use Rattle.two_phase.specs.Stages.{Standing, Waiting, Going as UnderWay}
use Rattle.two_phase.specs.declared.party.Party.{Party}
use Rattle.coordinator.specs.declared.said.Said.{Said}
use Rattle.coordinator.specs.Family.{Family, Aim, Call, Duty, Commits, RollsBack}
use Rattle.coordinator.specs.declared.call.Ending.TheVariants.{RollsBackUpdates}
use Rattle.coordinator.specs.declared.call.Leg.{Leg}
use Rattle.coordinator.specs.declared.call.Leg.TheVariants.{Below, Own, Before, Deciding, After}
use Rattle.coordinator.specs.declared.call.Stage.{Stage}
use Rattle.coordinator.specs.declared.call.Stage.TheVariants.{Finishing, Completing}
use Rattle.coordinator.specs.Laws.{IsThere}
use Rattle.coordinator.specs.Phases.{is_before}
use Rattle.family_laws.specs.Trees.{IsUpTo, IsCutOff}

-- no subtransaction is live
abbrev pub NoneLive : List Row → Type 0
NoneLive rs = (b : ℕ) → 0 < b → IsTrue (is_live_branch rs b) → ⊥

-- A list has what was committed up to its branch, and the list of the highest such branch has it.
pub record IsSoundLists (rs : List Row) (some : Ballots) : Type 0 where
  pub tree : IsTree rs
  -- the top-level transaction ends by its completion: its row stays live
  pub top : IsTrue (is_live_branch rs 0)
  pub listed : (b : ℕ) → AllByRecursion (λ (r : Registration). IsUpTo rs b r.branch) (participants b some)
  pub highest : (b : ℕ) → AllByRecursion (λ (r : Registration). (c : ℕ) → IsUpTo rs c r.branch → IsUpTo rs b c) (participants b some)
  pub numbers : (b : ℕ) → AreNumbers (length some.registrations) (list_at some.lists b)
  -- each branch has its list
  pub room : length some.lists ≡ list_count
  pub few : length rs ≤ list_count

-- a completion under way has these participants, in order
abbrev pub HasParties : Standing → List Registration → Type 0
HasParties (Waiting room) some = Unit {0}
HasParties (UnderWay c) some =
    (map (λ (p : Party). p.index) c.parties ≡ map (λ (r : Registration). r.index) some)
    × (map (λ (p : Party). p.to) c.parties ≡ map (λ (r : Registration). r.to) some)

-- it asks, or has asked: no rollback from outside came first
abbrev pub IsAsking : Standing → Type 0
IsAsking (Waiting room) = ⊥
IsAsking (UnderWay c) = c.overtaken ≡ None

abbrev pub IsWaiting : Standing → Type 0
IsWaiting (Waiting room) = Unit {0}
IsWaiting (UnderWay c) = ⊥

-- the completion of a family in a stage: it has begun exactly where the top-level transaction is past its commit's beginning, it
-- goes by the list of the top, and where it asks no subtransaction is live
pub record IsSoundCompletion (stage : Stage) (rs : List Row) (some : Ballots) (s : Standing) : Type 0 where
  pub begun : IsTrue (is_before stage) ↔ IsWaiting s
  pub there : IsThere s
  pub parties : HasParties s (participants 0 some)
  pub asking : IsAsking s → NoneLive rs

-- a commit of the top-level transaction is Finishing up to its last before_completion; all else is Completing
abbrev pub IsInStage : Stage → Aim → Leg → Type 0
IsInStage stage (Commits asked) Below = stage ≡ Finishing
IsInStage stage (RollsBack says) Below = stage ≡ Completing
IsInStage stage aim Own = ⊥
IsInStage stage (Commits asked) (Before called) = stage ≡ Finishing
IsInStage stage (RollsBack says) (Before called) = ⊥
IsInStage stage aim Deciding = stage ≡ Completing
IsInStage stage aim (After called) = stage ≡ Completing

-- the legs behind the first one of the top-level transaction's call
abbrev pub IsPastBelow : Leg → Type 0
IsPastBelow Below = ⊥
IsPastBelow Own = ⊥
IsPastBelow (Before called) = Unit {0}
IsPastBelow Deciding = Unit {0}
IsPastBelow (After called) = Unit {0}

-- the legs of a subtransaction's call
abbrev pub IsOfSub : Leg → Type 0
IsOfSub Below = Unit {0}
IsOfSub Own = Unit {0}
IsOfSub _ = ⊥

-- a call of the top-level transaction is in its stage; behind its first leg no subtransaction is live
pub record IsTopCall (stage : Stage) (rs : List Row) (aim : Aim) (leg : Leg) : Type 0 where
  pub in_stage : IsInStage stage aim leg
  pub alone : IsPastBelow leg → NoneLive rs

-- a call of a subtransaction: one that commits is of a live one, and one that rolls back is of one that is cut off
pub record IsSubCall (rs : List Row) (b : ℕ) (aim : Aim) (leg : Leg) : Type 0 where
  pub of_sub : IsOfSub leg
  pub commits : (asked : Bool) → aim ≡ Commits asked → IsTrue (is_live_branch rs b)
  pub undoes : (says : Said) → aim ≡ RollsBack says → IsCutOff rs b

-- a registration is in the list of some branch
pub record IsListed (some : Ballots) (r : Registration) : Type 0 where
  pub branch : ℕ
  pub there : Contains (participants branch some) r

-- a rollback that is still to be told is to a registration in some list, and that is cut off
abbrev pub IsDue : List Row → Ballots → Duty → Type 0
IsDue rs some d = d.ending ≡ RollsBackUpdates → IsListed some d.resource × IsCutOff rs d.resource.branch

pub record IsSoundCall (stage : Stage) (rs : List Row) (some : Ballots) (b : ℕ) (aim : Aim) (leg : Leg) (left : List Duty) : Type 0 where
  pub top : b ≡ 0 → IsTopCall stage rs aim leg
  pub sub : 0 < b → IsSubCall rs b aim leg
  pub dues : AllByRecursion (IsDue rs some) left

-- the call of a branch among these
abbrev pub called : List (Option Call) → ℕ → Option Call
called calls b = option_and_then (λ (c : Option Call). c) (slice_get calls b)

pub record IsSound (stage : Stage) (rs : List Row) (some : Ballots) (s : Standing) (calls : List (Option Call)) : Type 0 where
  pub lists : IsSoundLists rs some
  pub completion : IsSoundCompletion stage rs some s
  pub as_many : length calls ≡ length rs
  pub under_way : (b : ℕ) (c : Call) → called calls b ≡ Some c → IsSoundCall stage rs some b c.aim c.leg c.left
  pub finishing : stage ≡ Finishing → IsTrue (is_some (called calls 0))

abbrev pub IsSoundFamily : Family → Type 0
IsSoundFamily f = IsSound f.stage f.rows f.ballots f.completion f.calls
