-- A decision record that a family asks for fits into the journal.
use Rattle.std.proofs.Common.{◌≡◌, ℕ, zero, suc, ◌+◌, ◌<◌, ◌≤◌, ◌^◌, Bool, true, false, if◌then◌else◌, List, [], ◌∷◌, length, map, filter, slice_get, slice_set, Contains, Option, Some, refl, sym, ap, subst, ◌∙◌, arith}
use Rattle.std.proofs.lemmas.Option.{slice_get-get_or}
use Rattle.std.specs.List.{AllByRecursion}
use Rattle.std.specs.Option.{option_and_then}
use Rattle.ots_model.specs.Heard.{of_participant}
use Rattle.ots_model.specs.declared.completion.CallNumber.{CallNumber}
use Rattle.ots_model.specs.declared.completion.Heard.{Heard as ParticipantHeard}
use Rattle.ots_model.specs.declared.tree.Heard.{Heard}
use Rattle.ior_refs.specs.declared.key.ObjectKey.{ObjectKey}
use Rattle.resource_votes.specs.Ballots.{participants}
use Rattle.resource_votes.specs.declared.registration.Registration.{Registration}
use Rattle.two_phase.specs.Course as course
use Rattle.two_phase.specs.Course.{Course}
use Rattle.two_phase.specs.Parties.{has_voted_commit}
use Rattle.two_phase.specs.Stages as stages
use Rattle.two_phase.specs.Stages.{Standing, Waiting, Going as UnderWay}
use Rattle.two_phase.specs.declared.party.Party.{Party}
use Rattle.two_phase.specs.declared.party.Stage.{Stage as Round}
use Rattle.two_phase.specs.declared.party.Stage.TheVariants as rounds
use Rattle.decision_journal.specs.Journal.{Found, first_gate, found_in, nothing_found, with_record, with_records}
use Rattle.decision_journal.specs.Layout.{Fits, FitsKey, FitsReference, FitsRegistration, FitsRegistrations, record_octets}
use Rattle.decision_journal.specs.declared.record.JournalRecord.{JournalRecord}
use Rattle.decision_journal.specs.declared.record.JournalRecord.TheVariants.{Life, Decision, Done, Prepared, CellsPrepared, CellsOutcome, CellsOnePhase}
use Rattle.coordinator.specs.declared.call.Leg.TheVariants.{Deciding}
use Rattle.coordinator.specs.declared.said.Entry.{Entry}
use Rattle.coordinator.specs.Family.{Family, Call, call_at, waiting_for}
use Rattle.coordinator.specs.Laws.{IsThere}
use Rattle.coordinator.specs.Moves.{completes_as}
use Rattle.coordinator.specs.Hearing.{commit_key, decision_record, named, recorded, told_participant}
use Rattle.coordinator.specs.Node.{Node, family_in}
use Rattle.coordinator.specs.NodeParts.{IsInSlot, IsWhole}
use Rattle.coordinator.specs.Step.{Appends, hears}
use Rattle.family_laws.specs.Sound.{HasParties, called}
use Rattle.nodes_world.specs.CompletionLaws.{CompletionLaws}
use Rattle.nodes_world.specs.AgreementInside.{Known, FamilyIsKnown, is_asking}
use Rattle.nodes_world.specs.Laws.{CanAsk}
use Rattle.nodes_world.specs.Told.{Told}
use Rattle.nodes_world.specs.World.{World, Seat, OfNode, family_at}
use Rattle.nodes_world.specs.Journals.{records_on}
use Rattle.nodes_world.specs.Objects.{service_at}
use Rattle.nodes_world.specs.Agreement.{FollowsDisk}
use Rattle.nodes_world.proofs.AskedCalls.{asked_of}
use Rattle.nodes_world.proofs.AskedCounts.{IsRegisteredAs}
use Rattle.nodes_world.proofs.AskedKeeps.{after_is, answered_party, completion_then, heard_by, parties_then, same_to, without_out}
use Rattle.nodes_world.proofs.KnownLines.{lines_of}
use Rattle.nodes_world.proofs.KnownWorlds.{node_there}
use Rattle.nodes_world.proofs.RetryFits.{commit_key_fits}
use Rattle.nodes_world.proofs.ListedFew.{participants_few}
use Rattle.nodes_world.proofs.ReferenceShort.{registration_few}
use Rattle.nodes_world.proofs.RulesKeep.{registered_of}

-- ---- the life of a journal

one_life : (found : Found) (place : ℕ) (r : JournalRecord) → found.life < 2 ^ 32 → Fits r → (with_record found place r).life < 2 ^ 32
one_life found place (Life life) low fits = fits
one_life found place (Decision life slot generation by asked regs) low fits = low
one_life found place (Done named) low fits = low
one_life found place (Prepared life slot generation recovery regs) low fits = low
one_life found place (CellsPrepared life number recovery puts) low fits = low
one_life found place (CellsOutcome named how) low fits = low
one_life found place (CellsOnePhase life number puts) low fits = low

lives_fit : (found : Found) (place : ℕ) (rs : List JournalRecord) → found.life < 2 ^ 32 → AllByRecursion Fits rs → (with_records found place rs).life < 2 ^ 32
lives_fit found place [] low all = low
lives_fit found place (r ∷ rs) low (one, all) = lives_fit (with_record found place r) (place + length (record_octets r)) rs (one_life found place r low one) all

-- ---- who is named

-- each participant is one of these registrations
pub all_registered : (all : List Registration) (ps : List Party) (rs : List Registration) → map (λ (p : Party). p.index) ps ≡ map (λ (r : Registration). r.index) rs
    → map (λ (p : Party). p.to) ps ≡ map (λ (r : Registration). r.to) rs → AllByRecursion (Contains all) rs → AllByRecursion (IsRegisteredAs all) ps
all_registered all [] rs numbers references there = tt
all_registered all (p ∷ ps) [] numbers references there = absurd cc
all_registered all (p ∷ ps) (r ∷ rs) numbers references (one, there) = (
  record { r = r; there = one; index = sym (head_number numbers); reference = sym (head_to references) },
  all_registered all ps rs (tail_number numbers) (tail_to references) there,
)
  where
    head_number : {a b : ℕ} {xs ys : List ℕ} → a ∷ xs ≡ b ∷ ys → a ≡ b
    head_number e = cc

    head_to : {a b : List ℕ} {xs ys : List (List ℕ)} → a ∷ xs ≡ b ∷ ys → a ≡ b
    head_to e = cc

    tail_number : {a b : ℕ} {xs ys : List ℕ} → a ∷ xs ≡ b ∷ ys → xs ≡ ys
    tail_number e = cc

    tail_to : {a b : List ℕ} {xs ys : List (List ℕ)} → a ∷ xs ≡ b ∷ ys → xs ≡ ys
    tail_to e = cc

as_many_parties : (ps : List Party) (rs : List Registration) → map (λ (p : Party). p.index) ps ≡ map (λ (r : Registration). r.index) rs → length ps ≡ length rs
as_many_parties [] [] numbers = refl
as_many_parties [] (r ∷ rs) numbers = absurd cc
as_many_parties (p ∷ ps) [] numbers = absurd cc
as_many_parties (p ∷ ps) (r ∷ rs) numbers = ap (λ (k : ℕ). suc k) (as_many_parties ps rs (tail_of numbers))
  where
    tail_of : {a b : ℕ} {xs ys : List ℕ} → a ∷ xs ≡ b ∷ ys → xs ≡ ys
    tail_of e = cc

named_fewer : (ps : List Party) → length (map recorded (filter has_voted_commit ps)) ≤ length ps
named_fewer [] = omega arith
named_fewer (p ∷ ps) = by (has_voted_commit p) (named_fewer ps)
  where
    by : (t : Bool) → length (map recorded (filter has_voted_commit ps)) ≤ length ps
        → length (map recorded (if t then p ∷ filter has_voted_commit ps else filter has_voted_commit ps)) ≤ suc (length ps)
    by true rest = omega (arith, rest)
    by false rest = omega (arith, rest)

named_fit : (ps : List Party) → AllByRecursion (λ (p : Party). FitsRegistration (recorded p)) ps → AllByRecursion FitsRegistration (map recorded (filter has_voted_commit ps))
named_fit [] all = tt
named_fit (p ∷ ps) (one, all) = by (has_voted_commit p) (named_fit ps all)
  where
    by : (t : Bool) → AllByRecursion FitsRegistration (map recorded (filter has_voted_commit ps))
        → AllByRecursion FitsRegistration (map recorded (if t then p ∷ filter has_voted_commit ps else filter has_voted_commit ps))
    by true rest = (one, rest)
    by false rest = rest

family_within : (fs : List (Option Family)) (slot : ℕ) (f : Family) → family_in fs slot ≡ Some f → slot < length fs
family_within [] slot f is = absurd cc
family_within (x ∷ fs) zero f is = omega arith
family_within (x ∷ fs) (suc slot) f is = let less = family_within fs slot f is in omega (arith, less)

module _ (w : World) (told : List Told) (k : Known w told) (key : ObjectKey) (f : Family) (found : family_at w key ≡ Some f) where
  known : FamilyIsKnown w (lines_of told) f
  known = k.families key f found

  -- a participant has a small number and a short reference
  one_fits : (p : Party) → IsRegisteredAs f.ballots.registrations p → FitsRegistration (recorded p)
  one_fits p as_one = (number, reference)
    where
      number : p.index < 2 ^ 32
      number =
          let at = slice_get-get_or f.ballots.registrations as_one.there.0 as_one.r as_one.there.1 ∙ ap (λ (x : Registration). Some x) as_one.there.2 in
          let first = known.numbered as_one.there.0 as_one.r at in
          let less = as_one.there.1 in
          let few : length f.ballots.registrations ≤ 64 = known.few.registered in
          let same = as_one.index in
          omega (arith, first, less, few, same)

      reference : FitsReference p.to
      reference = subst FitsReference as_one.reference (registration_few w told k key f found as_one.r as_one.there)

  all_fit : (ps : List Party) → AllByRecursion (IsRegisteredAs f.ballots.registrations) ps → AllByRecursion (λ (p : Party). FitsRegistration (recorded p)) ps
  all_fit [] all = tt
  all_fit (p ∷ ps) (one, all) = (one_fits p one, all_fit ps all)

  -- those that the record names
  pub named_fits : (s : Standing) → HasParties s (participants 0 f.ballots) → FitsRegistrations (named s)
  named_fits (Waiting room) parties = (omega arith, tt)
  named_fits (UnderWay c) parties = (
    few_named,
    named_fit c.parties (all_fit c.parties (all_registered f.ballots.registrations c.parties (participants 0 f.ballots) parties.0 parties.1 (registered_of f 0))),
  )
    where
      few_named : length (map recorded (filter has_voted_commit c.parties)) < 2 ^ 16
      few_named =
          let fewer = named_fewer c.parties in
          let many = as_many_parties c.parties (participants 0 f.ballots) parties.0 in
          let few : length (participants 0 f.ballots) ≤ 64 = participants_few f.ballots 0 known.few in
          omega (arith, fewer, many, few)

  -- the record of a family with its key, whose commit was called as this one's
  pub decision_fits : (place : ℕ) (s : Seat) (n : Node) → slice_get w.seats place ≡ Some s → s.server ≡ OfNode (Some n) → family_in n.families f.key.slot ≡ Some f
      → (g : Family) → g.key ≡ f.key → commit_key g ≡ commit_key f → HasParties g.completion (participants 0 f.ballots) → CanAsk (Some (Appends (decision_record g))) n.found
  unfolding decision_record
  decision_fits place s n there up slotted g same by parties = (
    (life, slot, generation, subst FitsKey (sym by) (commit_key_fits w (lines_of told) f known), named_fits g.completion parties),
    refl,
  )
    where
      whole : IsWhole n
      whole = k.disks.whole place s n there up

      in_slot : IsInSlot n f.key.slot f
      in_slot = whole.families f.key.slot f slotted

      follows : FollowsDisk place s n
      follows = k.disks.follows place s n there up

      life : g.key.life < 2 ^ 32
      life =
          let order = (k.nodes place n (node_there w place s n there up)).order s follows.records there
          (ap (λ (x : Option Seat). option_and_then (λ (y : Seat). records_on (service_at place) y.disk) x) there ∙ follows.held) in
          let low = lives_fit nothing_found first_gate follows.records (omega arith) order.stands.fit in
          let is : g.key.life ≡ (found_in follows.records).life = ap (λ (x : ObjectKey). x.life) same ∙ in_slot.of_life ∙ ap (λ (x : Found). x.life) follows.found in
          omega (arith, low, is)

      slot : g.key.slot < 2 ^ 32
      slot =
          let within = family_within n.families f.key.slot f slotted in
          let many = whole.slots in
          let is = ap (λ (x : ObjectKey). x.slot) same in
          omega (arith, within, many, is)

      generation : g.key.generation < 2 ^ 64
      generation =
          let given = in_slot.given in
          let most = whole.numbers in
          let is = ap (λ (x : ObjectKey). x.generation) same in
          omega (arith, given, most, is)

-- ---- the record that is asked for where the last vote is heard

pub same_index : (round : Round) (h : ParticipantHeard) (p : Party) → (course.heard_at round h p).index ≡ p.index
same_index rounds.Asking h p = refl
same_index rounds.Telling h p = refl
same_index rounds.Forgetting h p = refl

pub map_set : {B : Type 0} (g : Party → B) (ps : List Party) (i : ℕ) (p q : Party) → slice_get ps i ≡ Some p → g q ≡ g p → map g (slice_set ps i q) ≡ map g ps
map_set g [] i p q there same = refl
map_set g (x ∷ ps) zero p q there same = ap (λ u. u ∷ map g ps) (same ∙ sym (ap g (inner there)))
  where
    inner : {a b : Party} → Some a ≡ Some b → a ≡ b
    inner e = cc
map_set g (x ∷ ps) (suc i) p q there same = ap (λ us. g x ∷ us) (map_set g ps i p q there same)

pub heard_parties : CompletionLaws → (some : List Registration) (s : Standing) → IsThere s → is_asking s ≡ true → (n : CallNumber) (h : ParticipantHeard) → HasParties s some
    → HasParties (stages.after_answer n h s) some
heard_parties completions some (Waiting room) there asks n h parties = tt
heard_parties completions some (UnderWay k) there asks n h parties =
    let asked = asked_of completions k there asks in
    let q = answered_party k asked n h in
    after_is k asked n h (λ (x : Course). HasParties (UnderWay x) some) parties (
      ap (map (λ (p : Party). p.index)) (parties_then k asked n h completions)
          ∙ map_set (λ (p : Party). p.index) k.parties asked.errand.place asked.party q asked.there (same_index asked.errand.stage h asked.party) ∙ parties.0,
      ap (map (λ (p : Party). p.to)) (parties_then k asked n h completions)
          ∙ map_set (λ (p : Party). p.to) k.parties asked.errand.place asked.party q asked.there (same_to k asked n h asked.errand.stage) ∙ parties.1,
    )

module _ (completions : CompletionLaws) (f : Family) (n : CallNumber) (h : Heard) (c : Call) (waits : waiting_for f n ≡ Some 0) (at : call_at f 0 ≡ Some c)
    (decides : c.leg ≡ Deciding) (there : IsThere f.completion) (asks : is_asking f.completion ≡ true) where
  same_caller : (calls : List (Option Call)) → called calls 0 ≡ Some c
      → option_and_then (λ (x : Call). x.caller) (called (slice_set calls 0 (Some (without_out c))) 0) ≡ option_and_then (λ (x : Call). x.caller) (called calls 0)
  same_caller [] is = absurd cc
  same_caller (x ∷ calls) is = ap (option_and_then (λ (y : Call). y.caller)) (sym is)

  pub heard_key : (hears n h f).family.key ≡ f.key
  unfolding told_participant completes_as
  heard_key = heard_by completions f n h c waits at decides there asks (λ (g : Family). g.key ≡ f.key) refl

  heard_commit : commit_key (hears n h f).family ≡ commit_key f
  unfolding told_participant completes_as
  heard_commit =
      heard_by completions f n h c waits at decides there asks (λ (g : Family). commit_key g ≡ commit_key f)
      (ap (λ (o : Option ℕ). option_and_then (λ (e : Entry). e.event.key) (option_and_then (slice_get f.entries) o)) (same_caller f.calls at))

  -- it fits
  pub heard_fits : (w : World) (told : List Told) (k : Known w told) (key : ObjectKey) → family_at w key ≡ Some f → HasParties f.completion (participants 0 f.ballots)
      → (place : ℕ) (s : Seat) (m : Node) → slice_get w.seats place ≡ Some s → s.server ≡ OfNode (Some m) → family_in m.families f.key.slot ≡ Some f
      → CanAsk (Some (Appends (decision_record (hears n h f).family))) m.found
  heard_fits w told k key found parties place s m seated up slotted =
      decision_fits w told k key f found place s m seated up slotted (hears n h f).family heard_key heard_commit
      (subst (λ (x : Standing). HasParties x (participants 0 f.ballots)) (sym (completion_then completions f n h c waits at decides there asks))
      (heard_parties completions (participants 0 f.ballots) f.completion there asks _ (of_participant h) parties))
