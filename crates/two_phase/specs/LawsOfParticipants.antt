-- In the completion of a top-level transaction each participant has a number of its own, and hears no word twice (Transaction
-- Service, the operations of interface Resource).
use Rattle.std.specs.Prelude.{◌≡◌, ℕ, Bool, List, Option, Some}
use Rattle.ots_model.specs.declared.completion.CallNumber.{CallNumber}
use Rattle.ots_model.specs.declared.tree.Reason.{Reason}
use Rattle.ots_model.specs.declared.tree.Outward.{Outward}
use Rattle.txn_tree.specs.declared.row.Row.{Row}
use Rattle.resource_votes.specs.Ballots.{Ballots, participants}
use Rattle.resource_votes.specs.History.{Leave}
use Rattle.resource_votes.specs.declared.registration.Registration.{Registration}
use Rattle.two_phase.specs.Course.{Course, begun, begun_rollback, next_word, after_next}
use Rattle.two_phase.specs.LawsOfReached.{TreeBecomes, TreeGoesOn, HaveOwnNumbers}

-- the completions with these participants: one that begins, by asking or by rolling back, and what it becomes
pub data IsWith (asked_ones : List Registration) : Course → Type 0 where
  begins : (asked : Bool) (first : CallNumber) (one_phase : Bool) → IsWith asked_ones (begun asked_ones asked first one_phase)
  rolls_back : (asked : Bool) (first : CallNumber) (one_phase : Bool) (reason : Reason) → IsWith asked_ones (begun_rollback asked_ones asked first one_phase reason)
  goes_on : (c later : Course) → IsWith asked_ones c → TreeBecomes c later → IsWith asked_ones later

-- accepted calls left these ballots, and this is a completion of the top that they belong to
pub data IsOfTop (c : Course) : Type 0 where
  of : (rows : List Row) (b : Ballots) (e : List (Option ℕ)) → Leave rows b e → IsWith (participants 0 b) c → IsOfTop c

abbrev pub ParticipantsHaveNumbers : Type 0
ParticipantsHaveNumbers = (c : Course) → IsOfTop c → HaveOwnNumbers c

abbrev pub NoParticipantHearsTwice : Type 0
NoParticipantHearsTwice = (c later : Course) (first second : Outward) → IsOfTop c → next_word c ≡ Some first
    → TreeGoesOn (after_next c) later → next_word later ≡ Some second → second.word ≡ first.word → second.registration ≡ first.registration → ⊥
