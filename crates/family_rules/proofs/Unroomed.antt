-- A completion that hasn't started says the same whatever its room.
use Rattle.std.proofs.Common.{◌≡◌, ◌<◌, ◌≤◌, ℕ, true, Option, None, is_some, refl, arith}
use Rattle.ots_model.specs.Limits.{reference_limit}
use Rattle.ots_model.specs.declared.completion.CallNumber.{CallNumber}
use Rattle.ots_model.specs.declared.completion.Heard.{Heard}
use Rattle.ots_model.specs.declared.completion.Stood.{Stood}
use Rattle.two_phase.specs.Course.{Course}
use Rattle.two_phase.specs.Stages as stages
use Rattle.two_phase.specs.Stages.{Standing, Waiting, Going as UnderWay}
use Rattle.coordinator.specs.Closing.{begun}
use Rattle.family_rules.specs.Room.{spare, reach}
use Rattle.family_rules.specs.StateInside.{unroomed}

pub unroomed_outcome : (s : Standing) → stages.outcome (unroomed s) ≡ stages.outcome s
unroomed_outcome (Waiting room) = refl
unroomed_outcome (UnderWay c) = refl

pub unroomed_doubt : (s : Standing) → stages.is_doubtful (unroomed s) ≡ stages.is_doubtful s
unroomed_doubt (Waiting room) = refl
unroomed_doubt (UnderWay c) = refl

pub unroomed_alone : (s : Standing) → stages.decides_alone (unroomed s) ≡ stages.decides_alone s
unroomed_alone (Waiting room) = refl
unroomed_alone (UnderWay c) = refl

pub unroomed_reserved : (n octets : ℕ) (s : Standing) → unroomed (stages.after_reserve n octets s) ≡ unroomed s
unroomed_reserved n octets (Waiting room) = refl
unroomed_reserved n octets (UnderWay c) = refl

-- there is room where it was taken
pub spare_reserved : (n octets count : ℕ) (s : Standing) → count < n → 0 < spare (stages.after_reserve n octets s) count
spare_reserved n octets count (Waiting room) h = omega arith
spare_reserved n octets count (UnderWay c) h = omega arith

pub reach_reserved : (n octets : ℕ) (s : Standing) → octets ≤ reference_limit → octets ≤ reach (stages.after_reserve n octets s)
reach_reserved n octets (Waiting room) h = omega arith
reach_reserved n octets (UnderWay c) h = h

-- and no less than there was
pub spare_kept : (n octets count : ℕ) (s : Standing) → spare s count ≤ spare (stages.after_reserve n octets s) count
spare_kept n octets count (Waiting room) = omega (arith)
spare_kept n octets count (UnderWay c) = omega arith

pub reach_kept : (n octets : ℕ) (s : Standing) → reach s ≤ reach (stages.after_reserve n octets s)
reach_kept n octets (Waiting room) = omega arith
reach_kept n octets (UnderWay c) = omega arith

pub unroomed_next_word : (s : Standing) → stages.next_word (unroomed s) ≡ stages.next_word s
unroomed_next_word (Waiting room) = refl
unroomed_next_word (UnderWay c) = refl

pub unroomed_voter : (s : Standing) → stages.voter (unroomed s) ≡ stages.voter s
unroomed_voter (Waiting room) = refl
unroomed_voter (UnderWay c) = refl

pub unroomed_was_doubtful : (s : Standing) → stages.was_doubtful (unroomed s) ≡ stages.was_doubtful s
unroomed_was_doubtful (Waiting room) = refl
unroomed_was_doubtful (UnderWay c) = refl

pub unroomed_record_place : (s : Standing) → stages.record_place (unroomed s) ≡ stages.record_place s
unroomed_record_place (Waiting room) = refl
unroomed_record_place (UnderWay c) = refl

pub unroomed_pending_commits : (s : Standing) → stages.pending_commits (unroomed s) ≡ stages.pending_commits s
unroomed_pending_commits (Waiting room) = refl
unroomed_pending_commits (UnderWay c) = refl

pub unroomed_pending_forgets : (s : Standing) → stages.pending_forgets (unroomed s) ≡ stages.pending_forgets s
unroomed_pending_forgets (Waiting room) = refl
unroomed_pending_forgets (UnderWay c) = refl

pub unroomed_asked : (s : Standing) → stages.asked (unroomed s) ≡ stages.asked s
unroomed_asked (Waiting room) = refl
unroomed_asked (UnderWay c) = refl

pub unroomed_root_join : (s : Standing) → stages.root_join (unroomed s) ≡ stages.root_join s
unroomed_root_join (Waiting room) = refl
unroomed_root_join (UnderWay c) = refl

pub unroomed_is_settled : (s : Standing) → stages.is_settled (unroomed s) ≡ stages.is_settled s
unroomed_is_settled (Waiting room) = refl
unroomed_is_settled (UnderWay c) = refl

pub unroomed_wants_decision : (s : Standing) → stages.wants_decision (unroomed s) ≡ stages.wants_decision s
unroomed_wants_decision (Waiting room) = refl
unroomed_wants_decision (UnderWay c) = refl

pub unroomed_last_asked : (s : Standing) → stages.is_last_asked (unroomed s) ≡ stages.is_last_asked s
unroomed_last_asked (Waiting room) = refl
unroomed_last_asked (UnderWay c) = refl

pub unroomed_is_named : (s : Standing) (g : ℕ) → stages.is_named (unroomed s) g ≡ stages.is_named s g
unroomed_is_named (Waiting room) g = refl
unroomed_is_named (UnderWay c) g = refl

pub unroomed_number : (s : Standing) → stages.number (unroomed s) ≡ stages.number s
unroomed_number (Waiting room) = refl
unroomed_number (UnderWay c) = refl

pub unroomed_next : (s : Standing) → unroomed (stages.after_next s) ≡ stages.after_next (unroomed s)
unroomed_next (Waiting room) = refl
unroomed_next (UnderWay c) = refl

pub unroomed_answer : (n : CallNumber) (h : Heard) (s : Standing) → unroomed (stages.after_answer n h s) ≡ stages.after_answer n h (unroomed s)
unroomed_answer n h (Waiting room) = refl
unroomed_answer n h (UnderWay c) = refl

pub unroomed_decided : (stood : Stood) (s : Standing) → unroomed (stages.after_decided stood s) ≡ stages.after_decided stood (unroomed s)
unroomed_decided stood (Waiting room) = refl
unroomed_decided stood (UnderWay c) = refl

pub unroomed_reread : (found : Option ℕ) (s : Standing) → unroomed (stages.after_reread found s) ≡ stages.after_reread found (unroomed s)
unroomed_reread found (Waiting room) = refl
unroomed_reread found (UnderWay c) = refl

-- a completion begins once, whatever its room
pub unroomed_begun : (s : Standing) (c : Course) → stages.number s ≡ None → begun (unroomed s) (UnderWay c) ≡ UnderWay c
unroomed_begun (Waiting room) c h = refl
unroomed_begun (UnderWay d) c h = absurd (cc h)

pub begun_stays : (s first : Standing) → is_some (stages.number s) ≡ true → begun (unroomed s) first ≡ unroomed s
begun_stays (Waiting room) first h = absurd (cc h)
begun_stays (UnderWay c) first h = refl
