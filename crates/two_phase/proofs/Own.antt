-- Each participant of a top-level transaction has a number of its own.
use Rattle.std.proofs.Common.{◌≡◌, refl, ap, ◌∙◌, ℕ, ◌≤◌, Bool, true, false, List, [], ◌∷◌, map, Option, Some, None, if◌then◌else◌, arith}
use Rattle.std.specs.Option.{option_map_or}
use Rattle.txn_tree.specs.declared.row.Row.{Row}
use Rattle.txn_tree.specs.Rows.{is_committed_up}
use Rattle.resource_votes.specs.Ballots.{participants}
use Rattle.resource_votes.specs.History.{ParticipantsAreCommittedUp, times, joined, share}
use Rattle.resource_votes.specs.declared.registration.Registration.{Registration}
use Rattle.two_phase.specs.Course.{Course}
use Rattle.two_phase.specs.Parties.{party_of}
use Rattle.two_phase.specs.LawsOfReached.{IsReached, numbers}
use Rattle.two_phase.specs.LawsOfReached.IsReached.{begins as begins_so, rolls_back as begins_back, goes_on as further_on}
use Rattle.two_phase.specs.LawsOfParticipants.{IsWith, ParticipantsHaveNumbers, NoParticipantHearsTwice}
use Rattle.two_phase.specs.LawsOfParticipants.IsWith.{begins, rolls_back, goes_on}
use Rattle.two_phase.specs.LawsOfParticipants.IsOfTop.{of}
use Rattle.two_phase.specs.declared.party.Party.{Party}
use Rattle.two_phase.proofs.Once.{numbers_by, no_word_twice}

party_numbers : (rs : List Registration) → map (λ (p : Party). p.index) (map party_of rs) ≡ map (λ (r : Registration). r.index) rs
party_numbers [] = refl
party_numbers (r ∷ rs) = ap (λ is. r.index ∷ is) (party_numbers rs)

reached : (rs : List Registration) (c : Course) → IsWith rs c → IsReached c
reached rs _ (begins asked first one_phase) = begins_so rs asked first one_phase
reached rs _ (rolls_back asked first one_phase reason) = begins_back rs asked first one_phase reason
reached rs _ (goes_on c later w step) = further_on c later (reached rs c w) step

with_numbers : (rs : List Registration) (c : Course) → IsWith rs c → numbers c ≡ map (λ (r : Registration). r.index) rs
with_numbers rs _ (begins asked first one_phase) = party_numbers rs
with_numbers rs _ (rolls_back asked first one_phase reason) = party_numbers rs
with_numbers rs _ (goes_on c later w step) = numbers_by c later step ∙ with_numbers rs c w

-- a registration takes part once at most
at_most_once : (rows : List Row) (e : List (Option ℕ)) (i : ℕ) → share rows 0 e i ≤ 1
at_most_once rows e i = by_joined (joined e i)
  where
    by_up : (up : Bool) → (if up then 1 else 0) ≤ 1
    by_up true = omega arith
    by_up false = omega arith

    by_joined : (t : Option ℕ) → option_map_or (λ (t : ℕ). if is_committed_up rows 0 t then 1 else 0) t 0 ≤ 1
    by_joined None = omega arith
    by_joined (Some t) = by_up (is_committed_up rows 0 t)

pub own_numbers : ParticipantsAreCommittedUp → ParticipantsHaveNumbers
own_numbers law c (of rows b e left w) i =
    let same = ap (times i) (with_numbers (participants 0 b) c w) ∙ law rows b e left i in
    let few = at_most_once rows e i in
    omega (arith, same, few)

pub hears_once : ParticipantsAreCommittedUp → NoParticipantHearsTwice
hears_once law c later first second (of rows b e left w) out on out_later word registration =
    no_word_twice c later first second (reached (participants 0 b) c w) (own_numbers law c (of rows b e left w)) out on out_later word registration
