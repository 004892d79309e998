-- What a step of a family does that is to register a resource: it registers it, or keeps what other steps keep.
use Rattle.std.proofs.Common.{◌≡◌, ◌⊎◌, inl, inr, ℕ, ◌+◌, ◌<◌, ◌==◌, Bool, true, false, nat_le, nat_lt, if◌then◌else◌, IsTrue, List, [], ◌∷◌, ◌++◌, length, Contains, Option, Some, None, refl, sym, subst, arith}
use Rattle.std.proofs.lemmas.Bool.Decides.{nat_tests}
use Rattle.std.specs.Option.{option_or}
use Rattle.ots_model.specs.declared.service.RetryKey.{RetryKey}
use Rattle.resource_votes.specs.Ballots.{Ballots, participants, registered, registered_aware, registering as registering_refusal, by_count, registering_aware}
use Rattle.resource_votes.specs.declared.registration.Registration.{Registration}
use Rattle.resource_votes.specs.declared.registration.VoteFault.{VoteFault}
use Rattle.resource_votes.specs.declared.registration.VoteFault.TheVariants as vote_faults
use Rattle.coordinator.specs.declared.event.Event.{Event}
use Rattle.coordinator.specs.declared.said.Entry.{Entry}
use Rattle.coordinator.specs.declared.said.Said.{Said}
use Rattle.coordinator.specs.declared.said.Said.TheVariants as said
use Rattle.coordinator.specs.Family.{Family}
use Rattle.coordinator.specs.History.{kept_for}
use Rattle.coordinator.specs.NodeCalls.{retold_answer}
use Rattle.coordinator.specs.Phases.{column, is_open}
use Rattle.coordinator.specs.Table.{aware_refusal, has_branch, registers, registers_aware, registers_resource, says, unless_past, vote_refusal}
use Rattle.coordinator.specs.Step.{Stepped, acted, entered, family_step, step_by}
use Rattle.family_laws.proofs.Lists.{AllNumbers, new_one}
use Rattle.nodes_world.specs.declared.deed.Manner.{Manner}
use Rattle.nodes_world.specs.declared.deed.Manner.TheVariants as manners
use Rattle.nodes_world.specs.Clients.{is_registered, registered_line, registering}
use Rattle.nodes_world.proofs.RegisteredLists.{aware_back, aware_on, lists_cases, lists_new, lists_on}
use Rattle.nodes_world.proofs.ResourceRegistered.{line_of}
use Rattle.nodes_world.proofs.RulesKeep.{IsTidy, only_keeps}
use Rattle.nodes_world.proofs.StepsKeep.{StepKeeps, entered_keeps}
use Rattle.nodes_world.proofs.StepsAsk.{is_called}
use Rattle.ots_model.specs.Limits.{registration_limit}
use Rattle.nodes_world.specs.AgreementInside.{AreFew}
use Rattle.nodes_world.proofs.ListedFew.{aware_few, entered_few}

-- a call that is to register one
abbrev pub registering_event : Option RetryKey → Manner → List ℕ → ℕ → ℕ → Event
registering_event by m to b now = record { key = by; branch = b; now = now; act = registering m to }

-- it takes part, and it is told of the end of a subtransaction
abbrev pub is_listed : Manner → Bool
is_listed manners.Aware = false
is_listed _ = true

abbrev pub is_aware : Manner → Bool
is_aware manners.Resource = false
is_aware _ = true

abbrev pub later_ballots : Manner → ℕ → List ℕ → Ballots → Ballots
later_ballots manners.Resource b to some = registered b to false some
later_ballots manners.Aware b to some = registered_aware b to some
later_ballots manners.Double b to some = registered b to true some

abbrev pub answer_to : Manner → Family → Said
answer_to manners.Aware f = said.Plain
answer_to _ f = said.Made (length f.ballots.registrations + 1)

pub was_registered : (m : Manner) (f : Family) → is_registered m (answer_to m f) ≡ true
was_registered manners.Resource f = refl
was_registered manners.Aware f = refl
was_registered manners.Double f = refl

pub line_is : (m : Manner) (name t end : List ℕ) → line_of (is_listed m) name t end ≡ registered_line m name end t
line_is manners.Resource name t end = refl
line_is manners.Aware name t end = refl
line_is manners.Double name t end = refl

pub none_retold : (m : Manner) (to : List ℕ) → retold_answer (registering m to) ≡ None
none_retold manners.Resource to = refl
none_retold manners.Aware to = refl
none_retold manners.Double to = refl

pub registering_called : (m : Manner) (to : List ℕ) → is_called (registering m to) ≡ true
registering_called manners.Resource to = refl
registering_called manners.Aware to = refl
registering_called manners.Double to = refl

-- ---- the ballots then

pub registrations_then : (m : Manner) (b : ℕ) (to : List ℕ) (some : Ballots)
    → (later_ballots m b to some).registrations ≡ some.registrations ++ new_one b to (is_aware m) some ∷ []
registrations_then manners.Resource b to some = refl
registrations_then manners.Aware b to some = refl
registrations_then manners.Double b to some = refl

pub synchronizations_then : (m : Manner) (b : ℕ) (to : List ℕ) (some : Ballots) → (later_ballots m b to some).synchronizations ≡ some.synchronizations
synchronizations_then manners.Resource b to some = refl
synchronizations_then manners.Aware b to some = refl
synchronizations_then manners.Double b to some = refl

pub listed_then : (m : Manner) (b : ℕ) (to : List ℕ) (some : Ballots) → b < length some.lists → AllNumbers some → (d : ℕ) (r : Registration)
    → Contains (participants d some) r → Contains (participants d (later_ballots m b to some)) r
listed_then manners.Resource b to some there all d r among = lists_on some b to false there all d r among
listed_then manners.Aware b to some there all d r among = aware_on some b to all d r among
listed_then manners.Double b to some there all d r among = lists_on some b to true there all d r among

new_cases : {A B C : Type 0} → C → A ⊎ B → A ⊎ (B × C)
new_cases c (inl a) = inl a
new_cases c (inr b) = inr (b, c)

pub listed_before : (m : Manner) (b : ℕ) (to : List ℕ) (some : Ballots) → b < length some.lists → AllNumbers some → (d : ℕ) (r : Registration)
    → Contains (participants d (later_ballots m b to some)) r
    → Contains (participants d some) r ⊎ ((r ≡ new_one b to (is_aware m) some) × (is_listed m ≡ true))
listed_before manners.Resource b to some there all d r among = new_cases refl (lists_cases some b to false there all d r among)
listed_before manners.Aware b to some there all d r among = inl (aware_back some b to all d r among)
listed_before manners.Double b to some there all d r among = new_cases refl (lists_cases some b to true there all d r among)

pub listed_new : (m : Manner) (b : ℕ) (to : List ℕ) (some : Ballots) → b < length some.lists → AllNumbers some → is_listed m ≡ true
    → Contains (participants b (later_ballots m b to some)) (new_one b to (is_aware m) some)
listed_new manners.Resource b to some there all is = lists_new some b to false there all
listed_new manners.Aware b to some there all is = absurd cc
listed_new manners.Double b to some there all is = lists_new some b to true there all

-- ---- the step

-- the step that registers it
abbrev pub registered_step : Family → Manner → ℕ → List ℕ → Entry → Stepped
registered_step f m b to entry = record {
  family = record f { ballots = later_ballots m b to f.ballots; entries = f.entries ++ entry ∷ [] };
  said = answer_to m f;
  words = [];
  finished = [];
  effects = [];
}

-- one more may be registered
abbrev pub HasPlace : Family → Type 0
HasPlace f = length f.ballots.registrations < registration_limit

pub registered_few : (m : Manner) (b : ℕ) (to : List ℕ) (some : Ballots) → length some.registrations < registration_limit → AreFew some
    → AreFew (later_ballots m b to some)
registered_few manners.Resource b to some left few = entered_few some b to false left few
registered_few manners.Aware b to some left few = aware_few some b to left few
registered_few manners.Double b to some left few = entered_few some b to true left few

-- it registers nothing, or that
abbrev pub Registers : Family → Manner → ℕ → List ℕ → Stepped → Type 0
Registers f m b to step =
    ((IsTidy f → StepKeeps f step) × (is_registered m step.said ≡ false))
    ⊎ ((b < length f.rows) × IsTrue (is_open (column f b)) × HasPlace f × ((entry : Entry) × (step ≡ registered_step f m b to entry)))

refused : (f : Family) (m : Manner) (b : ℕ) (to : List ℕ) (e : Event) (answer : Said) → is_registered m answer ≡ false
    → Registers f m b to (entered f e None (says answer f))
unfolding entered
refused f m b to e answer none = inl (entered_keeps f e None (says answer f) (only_keeps f), none)

no_refusal : (m : Manner) (fault : VoteFault) → is_registered m (vote_refusal fault) ≡ false
no_refusal manners.Resource vote_faults.Inactive = refl
no_refusal manners.Resource vote_faults.MarkedAlready = refl
no_refusal manners.Resource vote_faults.NotSubtransaction = refl
no_refusal manners.Resource vote_faults.SynchronizationUnavailable = refl
no_refusal manners.Resource vote_faults.NoResources = refl
no_refusal manners.Resource vote_faults.Memory = refl
no_refusal manners.Aware vote_faults.Inactive = refl
no_refusal manners.Aware vote_faults.MarkedAlready = refl
no_refusal manners.Aware vote_faults.NotSubtransaction = refl
no_refusal manners.Aware vote_faults.SynchronizationUnavailable = refl
no_refusal manners.Aware vote_faults.NoResources = refl
no_refusal manners.Aware vote_faults.Memory = refl
no_refusal manners.Double vote_faults.Inactive = refl
no_refusal manners.Double vote_faults.MarkedAlready = refl
no_refusal manners.Double vote_faults.NotSubtransaction = refl
no_refusal manners.Double vote_faults.SynchronizationUnavailable = refl
no_refusal manners.Double vote_faults.NoResources = refl
no_refusal manners.Double vote_faults.Memory = refl

no_object : (m : Manner) → is_registered m said.ObjectNotExist ≡ false
no_object manners.Resource = refl
no_object manners.Aware = refl
no_object manners.Double = refl

by_fault : (f : Family) (m : Manner) (b : ℕ) (to : List ℕ) (e : Event) (o : Option VoteFault) → b < length f.rows
    → (o ≡ None → IsTrue (is_open (column f b)) × HasPlace f)
    → Registers f m b to (entered f e None (registers o (answer_to m f) (later_ballots m b to f.ballots) f))
unfolding entered
by_fault f m b to e (Some fault) less open_now = refused f m b to e (vote_refusal fault) (no_refusal m fault)
by_fault f m b to e None less open_now = inr (less, (open_now refl).0, (open_now refl).1, (_, refl))

is_less : (b n : ℕ) → nat_lt b n ≡ true → b < n
is_less b n is = grind (arith, nat_tests, is)

on_a_branch : (f : Family) (m : Manner) (b : ℕ) (to : List ℕ) (e : Event) (o : Option VoteFault) → (o ≡ None → IsTrue (is_open (column f b)) × HasPlace f)
    → (t : Bool) → has_branch f b ≡ t
    → Registers f m b to (entered f e None (if t then registers o (answer_to m f) (later_ballots m b to f.ballots) f else says said.ObjectNotExist f))
on_a_branch f m b to e o open_now true is = by_fault f m b to e o (is_less b (length f.rows) is) open_now
on_a_branch f m b to e o open_now false is = refused f m b to e said.ObjectNotExist (no_object m)

-- where nothing refuses it, the transaction is open, and there is place
none_of : (o other : Option VoteFault) → option_or o other ≡ None → other ≡ None
none_of (Some fault) other is = absurd cc
none_of None other is = is

place_left : (count : ℕ) → by_count registration_limit count ≡ None → count < registration_limit
place_left count is = by (nat_le registration_limit count) refl is
  where
    by : (t : Bool) → nat_le registration_limit count ≡ t → (if t then Some vote_faults.NoResources else None) ≡ None → count < registration_limit
    by true most is = absurd cc
    by false less is = grind (arith, nat_tests, less)

open_place : (f : Family) (b : ℕ) (t : Bool) (o : Option VoteFault) → (o ≡ None → registering_refusal f.rows b f.ballots ≡ None)
    → (if t then o else Some vote_faults.Inactive) ≡ None → IsTrue t × HasPlace f
open_place f b true o none is = (refl, place_left (length f.ballots.registrations) (none_of _ _ (none is)))
open_place f b false o none is = absurd cc

open_below : (f : Family) (b : ℕ) (top t : Bool) (o : Option VoteFault) → (o ≡ None → registering_refusal f.rows b f.ballots ≡ None)
    → (if top then Some vote_faults.NotSubtransaction else (if t then o else Some vote_faults.Inactive)) ≡ None → IsTrue t × HasPlace f
open_below f b true t o none is = absurd cc
open_below f b false t o none is = open_place f b t o none is

aware_none : (f : Family) (b : ℕ) → registering_aware f.rows b f.ballots ≡ None → registering_refusal f.rows b f.ballots ≡ None
aware_none f b is = by (b == 0) is
  where
    by : (t : Bool) → (if t then Some vote_faults.NotSubtransaction else registering_refusal f.rows b f.ballots) ≡ None → registering_refusal f.rows b f.ballots ≡ None
    by true is = absurd cc
    by false is = is

-- where the call is no repeat
pub registering_step : (f : Family) (m : Manner) (to : List ℕ) (by : Option RetryKey) (b now : ℕ) → kept_for f.entries by ≡ None
    → Registers f m b to (family_step f (registering_event by m to b now) None)
unfolding family_step acted registers_resource registers_aware
registering_step f manners.Resource to by b now new =
    subst (λ (o : Option Said). Registers f manners.Resource b to (step_by o f (registering_event by manners.Resource to b now) None)) (sym new)
    (on_a_branch f manners.Resource b to (registering_event by manners.Resource to b now) (unless_past (column f b) (registering_refusal f.rows b f.ballots))
    (open_place f b (is_open (column f b)) (registering_refusal f.rows b f.ballots) (λ none. none)) (has_branch f b) refl)
registering_step f manners.Aware to by b now new =
    subst (λ (o : Option Said). Registers f manners.Aware b to (step_by o f (registering_event by manners.Aware to b now) None)) (sym new)
    (on_a_branch f manners.Aware b to (registering_event by manners.Aware to b now) (aware_refusal f b)
    (open_below f b (b == 0) (is_open (column f b)) (registering_aware f.rows b f.ballots) (aware_none f b)) (has_branch f b) refl)
registering_step f manners.Double to by b now new =
    subst (λ (o : Option Said). Registers f manners.Double b to (step_by o f (registering_event by manners.Double to b now) None)) (sym new)
    (on_a_branch f manners.Double b to (registering_event by manners.Double to b now) (unless_past (column f b) (registering_refusal f.rows b f.ballots))
    (open_place f b (is_open (column f b)) (registering_refusal f.rows b f.ballots) (λ none. none)) (has_branch f b) refl)
