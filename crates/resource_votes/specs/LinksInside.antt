-- Lists of numbers, linked. Each number leads to the one behind it; 0 is no number.
use Rattle.std.specs.Prelude.{◌≡◌, ◌≢◌, ℕ, ◌+◌, ◌-◌, ◌<◌, ◌≤◌, ◌==◌, ◌||◌, List, length, map, sum_by, slice_index_or, slice_set, vec_len, vec_capacity, if◌then◌else◌}
use Rattle.resource_votes.specs.Limits.{list_count}
use Rattle.resource_votes.specs.ChainsInside.{walk, IsChain, last_of}
use Rattle.resource_votes.specs.declared.links.Ends.{Ends}
use Rattle.resource_votes.specs.declared.links.Links.TheInside.{Inside}

-- lists of the numbers up to a count, and for how many more numbers memory is taken
pub record NumberLists : Type 0 where
  pub count : ℕ
  pub lists : List (List ℕ)
  pub room : ℕ

-- the ends of a list without numbers
abbrev pub no_ends : Ends
no_ends = record { first = 0; last = 0 }

abbrev pub ends_at : List Ends → ℕ → Ends
ends_at ends b = slice_index_or ends b no_ends

-- the list between two ends
unfoldable pub linked : List ℕ → Ends → List ℕ
linked next e = walk (length next) next e.first

abbrev pub all_linked : List ℕ → List Ends → List (List ℕ)
all_linked next ends = map (linked next) ends

-- each list is a chain and ends at its last number, which no other list has, and they have no more numbers than there are
pub record AreLinked (next : List ℕ) (ends : List Ends) : Type 0 where
  pub chains : (b : ℕ) → b < length ends → IsChain next (ends_at ends b).first (linked next (ends_at ends b))
  pub lasts : (b : ℕ) → b < length ends → (ends_at ends b).last ≡ last_of (linked next (ends_at ends b))
  pub apart : (a b : ℕ) → a < length ends → b < length ends → a ≢ b → (ends_at ends a).last ≡ (ends_at ends b).last → (ends_at ends a).last ≡ 0
  pub few : sum_by (λ (xs : List ℕ). length xs) (all_linked next ends) ≤ length next

-- a further list, which is none of these, fits beside them
pub record IsBeside (next : List ℕ) (ends : List Ends) (e : Ends) (ys : List ℕ) : Type 0 where
  pub chain : IsChain next e.first ys
  pub last : e.last ≡ last_of ys
  pub apart : (b : ℕ) → b < length ends → (ends_at ends b).last ≡ e.last → e.last ≡ 0
  pub few : sum_by (λ (xs : List ℕ). length xs) (all_linked next ends) + length ys ≤ length next

-- where two lists are joined: the last number of the first one leads to the second one
abbrev pub joined_next : List ℕ → Ends → Ends → List ℕ
joined_next next front back =
    if front.last == 0 || back.first == 0 then next else slice_set next (front.last - 1) back.first

abbrev pub joined_ends : Ends → Ends → Ends
joined_ends front back =
    if front.last == 0 then back
    else if back.first == 0 then front
    else record { first = front.first; last = back.last }

abbrev pub joined_at : List Ends → ℕ → Ends → List Ends
joined_at ends b back = slice_set ends b (joined_ends (ends_at ends b) back)

-- one list without its numbers
abbrev pub emptied : List Ends → ℕ → List Ends
emptied ends b = slice_set ends b no_ends

abbrev pub shown_lists : Inside → NumberLists
shown_lists l = record {
  count = length l.next.items;
  lists = all_linked l.next.items l.ends.items;
  room = vec_capacity l.next - vec_len l.next;
}

pub record IsSound (l : Inside) : Type 0 where
  pub size : length l.ends.items ≡ list_count
  pub are_linked : AreLinked l.next.items l.ends.items
