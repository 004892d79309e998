use Rattle.std.specs.Prelude.{◌≡◌, ℕ, ◌+◌, ◌-◌, ◌≤◌, List, [], ◌∷◌, length, min, vec_len, vec_capacity}
use Rattle.resource_votes.specs.Limits.{registration_limit, synchronization_limit}
use Rattle.resource_votes.specs.Ballots.{VotesParts}
use Rattle.resource_votes.specs.Numbers.{AreFew, AreOnce}
use Rattle.resource_votes.specs.declared.registration.Registration.{Registration}
use Rattle.resource_votes.specs.declared.votes.Votes.TheInside.{Inside}

abbrev pub shown : Inside → VotesParts
shown v = record {
  ballots = record {
    registrations = v.registrations.items;
    votes = v.votes.items;
    synchronizations = v.synchronizations.items;
    lists = v.links.lists;
  };
  room = min (min (vec_capacity v.registrations - vec_len v.registrations) (vec_capacity v.votes - vec_len v.votes))
      (min (vec_capacity v.synchronizations - vec_len v.synchronizations) v.links.room);
}

-- they have the numbers from this one up
abbrev pub AreNumbered : ℕ → List Registration → Type 0
AreNumbered n [] = Unit {0}
AreNumbered n (r ∷ rs) = (r.index ≡ n) × AreNumbered (n + 1) rs

-- each registration has a vote or none yet, the number of its place, and a number that may be in one list, once; each
-- synchronization has the number of its place
pub record IsSound (v : Inside) : Type 0 where
  pub votes : length v.votes.items ≡ length v.registrations.items
  pub numbers : v.links.count ≡ length v.registrations.items
  pub few : length v.registrations.items ≤ registration_limit
  pub few_synchronizations : length v.synchronizations.items ≤ synchronization_limit
  pub in_order : AreNumbered 1 v.registrations.items
  pub synchronizations_in_order : AreNumbered 1 v.synchronizations.items
  pub once : AreOnce v.links.lists v.links.count
  pub few_numbers : AreFew v.links.lists v.links.count
