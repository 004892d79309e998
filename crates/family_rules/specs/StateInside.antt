use Rattle.std.specs.Prelude.{◌≡◌, ℕ, ◌+◌, ◌-◌, ◌≤◌, List, length, min, nat_le, sum_by, vec_len, vec_capacity, IsTrue, if◌then◌else◌}
use Rattle.resource_votes.specs.History.{times}
use Rattle.resource_votes.specs.Limits.{synchronization_limit}
use Rattle.resource_votes.specs.declared.registration.Registration.{Registration}
use Rattle.two_phase.specs.Stages.{Standing, Waiting, Going as UnderWay, Holds, no_room}
use Rattle.txn_tree.specs.Rows.{is_live_branch}
use Rattle.family_rules.specs.Calls.{all_seated, AllTasks}
use Rattle.family_rules.specs.Order.{AreInOrder}
use Rattle.coordinator.specs.Limits.{history_limit}
use Rattle.family_rules.specs.Room.{StateParts, spare, reach}
use Rattle.family_rules.specs.Outs.{AreOut}
use Rattle.family_rules.specs.Tallies.{IsTallied}
use Rattle.family_rules.specs.declared.state.State.TheInside.{Inside}

-- a completion that hasn't started, without its room
abbrev pub unroomed : Standing → Standing
unroomed (Waiting room) = Waiting no_room
unroomed (UnderWay c) = UnderWay c

abbrev pub shown : Inside → StateParts
shown s = record {
  family = record {
    key = s.key;
    deadline = s.deadline;
    superior = s.superior;
    stage = s.stage;
    rows = s.tree.rows;
    ballots = s.votes.ballots;
    calls = all_seated s.votes.ballots.registrations s.seats.items;
    completion = unroomed s.completion;
    closed = s.closed;
    serial = s.serial;
    entries = s.entries.items;
  };
  room = min (min (vec_capacity s.seats - vec_len s.seats) (s.outs.capacity - vec_len s.seats))
      (min (min s.tree.room s.votes.room) (spare s.completion (length s.votes.ballots.registrations)));
  reach = reach s.completion;
  history_room = vec_capacity s.entries - vec_len s.entries;
}

-- the lists together have at most so many numbers
abbrev pub AreFew : List (List ℕ) → ℕ → Type 0
AreFew lists count = sum_by (λ (xs : List ℕ). length xs) lists ≤ count

-- each number up to a count is in one of the lists at most, and once; no greater one is
abbrev pub share : ℕ → ℕ → ℕ
share count i = if nat_le i count then 1 else 0

abbrev pub AreOnce : List (List ℕ) → ℕ → Type 0
AreOnce lists count = (i : ℕ) → sum_by (times i) lists ≤ share count i

-- a completion that hasn't started has room for these participants
abbrev pub HasPlaces : Standing → List Registration → Type 0
HasPlaces (Waiting room) some = Holds room some
HasPlaces (UnderWay c) some = Unit {0}

-- the history and the synchronizations keep to their limits; each entry has sent one word at most, and so has the step that
-- goes on; each transaction has a seat, and what it has left to tell is of registrations that there are; each registration and each
-- synchronization has the number of its place; each registration is in one list at most; all who are registered can take part;
-- what is counted over the seats is so; the words are listed that are out, with room for one of each seat; and the top has not
-- ended in its tree, since it ends by its completion
pub record IsSound (s : Inside) : Type 0 where
  pub few : vec_len s.entries ≤ history_limit
  pub serial : s.serial ≤ vec_len s.entries + 1
  pub seats : vec_len s.seats ≡ length s.tree.rows
  pub synchronizations : length s.votes.ballots.synchronizations ≤ synchronization_limit
  pub order : AreInOrder s.votes.ballots.registrations
  pub synchronization_order : AreInOrder s.votes.ballots.synchronizations
  pub lists : AreFew s.votes.ballots.lists (length s.votes.ballots.registrations)
  pub once : AreOnce s.votes.ballots.lists (length s.votes.ballots.registrations)
  pub tasks : AllTasks s.votes.ballots.registrations s.seats.items
  pub places : HasPlaces s.completion s.votes.ballots.registrations
  pub tally : IsTallied s.tally s.seats.items
  pub outs : AreOut s.outs.words s.seats.items
  pub outs_room : vec_len s.seats ≤ s.outs.capacity
  pub top : IsTrue (is_live_branch s.tree.rows 0)
