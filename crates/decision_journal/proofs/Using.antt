-- What records use of an area.
use Rattle.std.proofs.Common.{◌≡◌, ℕ, suc, ◌+◌, ◌*◌, ◌<◌, ◌≤◌, Bool, true, false, cond, not, ltb, ◌&&◌, ◌||◌, List, [], ◌∷◌, ◌++◌, length, get_or, Option, Some, None, refl, ap, ◌∙◌, arith, length-append}
use Rattle.std.specs.Prelude.{position, nat_lt, ◌==◌}
use Rattle.std.specs.List.{count_by, position_or_len, remove, list_any}
use Rattle.std.proofs.lemmas.Bool.{lt-ltb}
use Rattle.std.proofs.lemmas.Grind.{common_steps}
use Rattle.std.proofs.lemmas.List.Sums.{sum_by-append, sum_by-remove}
use Rattle.decision_journal.specs.declared.journal.Standing.{Standing}
use Rattle.decision_journal.specs.declared.record.JournalRecord.{JournalRecord}
use Rattle.decision_journal.specs.declared.record.JournalRecord.TheVariants.{Life, Decision, Done, Prepared, CellsPrepared, CellsOutcome, CellsOnePhase}
use Rattle.decision_journal.specs.Limits.{standing_limit}
use Rattle.decision_journal.specs.Layout.{record_octets}
use Rattle.decision_journal.specs.Journal.{Found, with_record, taken_away, is_decision, is_decision_at}
use Rattle.decision_journal.specs.State.{decisions, need, used}

abbrev pub stands_decided : Standing → Bool
stands_decided s = is_decision s.item

count_more : (xs : List Standing) (x : Standing) → count_by stands_decided (xs ++ x ∷ []) ≡ count_by stands_decided xs + cond (stands_decided x) 1 0
count_more xs x = omega (arith, sum_by-append (λ (y : Standing). cond (stands_decided y) 1 0) xs (x ∷ []))

-- the first that passes
abbrev First : (p : Standing → Bool) (xs : List Standing) (d : Standing) → Type 0
First p xs d = list_any p xs ≡ true → (position_or_len p xs < length xs) × (p (get_or xs (position_or_len p xs) d) ≡ true)

at_first : (p : Standing → Bool) (xs : List Standing) (d : Standing) → First p xs d
at_first p [] d any = absurd cc
at_first p (x ∷ xs) d any = by_test (p x) refl (at_first p xs d) any
  where
    by_test : (b : Bool) → p x ≡ b → First p xs d → (b || list_any p xs) ≡ true → (cond (not b) (1 + position_or_len p xs) 0 < length (x ∷ xs)) × (p (get_or (x ∷ xs) (cond (not b) (1 + position_or_len p xs) 0) d) ≡ true)
    by_test true e first any = (omega arith, e)
    by_test false e first any =
        let rest = first any in
        let one : 1 + position_or_len p xs ≡ suc (position_or_len p xs) = omega arith in
        (omega (arith, rest.0), ap (λ (k : ℕ). p (get_or (x ∷ xs) k d)) one ∙ rest.1)

both_left : (a b : Bool) → (a && b) ≡ true → b ≡ true
both_left true b e = e
both_left false b e = absurd cc

one_of : (b : Bool) → b ≡ true → cond b 1 0 ≡ suc 0
one_of true e = refl
one_of false e = absurd cc

-- a Done takes one decision away
count_done : (place : ℕ) (xs : List Standing) (d : Standing) → list_any (is_decision_at place) xs ≡ true
    → count_by stands_decided (taken_away (position (is_decision_at place) xs) xs) + 1 ≡ count_by stands_decided xs
count_done place xs d any =
    let first = at_first (is_decision_at place) xs d any in
    let i : ℕ = position_or_len (is_decision_at place) xs in
    let test : ltb i (length xs) ≡ true = lt-ltb i (length xs) first.0 in
    let decided : stands_decided (get_or xs i d) ≡ true = both_left ((get_or xs i d).place == place) (stands_decided (get_or xs i d)) first.1 in
    let one = one_of (stands_decided (get_or xs i d)) decided in
    let gone = sum_by-remove (λ (y : Standing). cond (stands_decided y) 1 0) xs i d first.0 in
    let same : count_by stands_decided (taken_away (position (is_decision_at place) xs) xs) ≡ count_by stands_decided (remove xs i) = ap (λ (b : Bool). count_by stands_decided (taken_away (cond b (Some i) None) xs)) test in
    omega (arith, same, gone, one)

count_taken : (o : Option ℕ) (xs : List Standing) → ((i : ℕ) → o ≡ Some i → i < length xs) → count_by stands_decided (taken_away o xs) ≤ count_by stands_decided xs
count_taken None xs within = omega arith
count_taken (Some i) [] within = absurd (omega (arith, within i refl))
count_taken (Some i) (x ∷ xs) within = omega (arith, sum_by-remove (λ (y : Standing). cond (stands_decided y) 1 0) (x ∷ xs) i x (within i refl))

within_position : (p : Standing → Bool) (xs : List Standing) (i : ℕ) → position p xs ≡ Some i → i < length xs
within_position p xs i e = by_test (ltb (position_or_len p xs) (length xs)) refl e
  where
    by_test : (b : Bool) → ltb (position_or_len p xs) (length xs) ≡ b → cond b (Some (position_or_len p xs)) None ≡ Some i → i < length xs
    by_test true t e = let same : position_or_len p xs ≡ i = cc in grind (arith, common_steps, t, same)
    by_test false t e = absurd cc

room_decision : (area n l d : ℕ) (b : Bool) → n + 1 + 10 * d + cond b (l + 10) (area + 1) ≤ area → n + l + 1 + 10 * (d + 1) ≤ area
room_decision area n l d true room = omega arith
room_decision area n l d false room = absurd (omega arith)

module _ (area : ℕ) (octets : List ℕ) (found : Found) where
  others : (r : JournalRecord) (after : ℕ) → after ≤ decisions found → length octets + 1 + 10 * decisions found + length (record_octets r) ≤ area → length (octets ++ record_octets r) + 1 + 10 * after ≤ area
  others r after less room = omega (arith, room, less, length-append octets (record_octets r))

  decided : (r : JournalRecord) (after : ℕ) → after ≡ decisions found + 1 → length octets + 1 + 10 * decisions found + cond (nat_lt (decisions found) standing_limit) (length (record_octets r) + 10) (area + 1) ≤ area
      → length (octets ++ record_octets r) + 1 + 10 * after ≤ area
  decided r after one room =
      let enough = room_decision area (length octets) (length (record_octets r)) (decisions found) (nat_lt (decisions found) standing_limit) room in
      omega (arith, enough, one, length-append octets (record_octets r))

  abbrev Room : JournalRecord → Type 0
  Room r = used octets found + need area found r ≤ area → used (octets ++ record_octets r) (with_record found (length octets) r) ≤ area

  -- a record for which there is room leaves what is used within the area
  pub room_more : (r : JournalRecord) → Room r
  room_more (Life life) room = others (Life life) (decisions found) (omega arith) room
  room_more (Decision life slot generation k asked regs) room =
      let r : JournalRecord = Decision life slot generation k asked regs in
      decided r _ (count_more found.standing (record { place = length octets; item = r })) room
  room_more (Done place) room = others (Done place) _ (count_taken (position (is_decision_at place) found.standing) found.standing (within_position (is_decision_at place) found.standing)) room
  room_more (Prepared life slot generation recovery regs) room =
      let r : JournalRecord = Prepared life slot generation recovery regs in
      decided r _ (count_more found.standing (record { place = length octets; item = r })) room
  room_more (CellsPrepared life number recovery ps) room =
      let r : JournalRecord = CellsPrepared life number recovery ps in
      others r _ (omega (arith, count_more found.standing (record { place = length octets; item = r }))) room
  room_more (CellsOutcome place end) room =
      let r : JournalRecord = CellsOutcome place end in
      others r _ (omega (arith, count_more found.standing (record { place = length octets; item = r }))) room
  room_more (CellsOnePhase life number ps) room =
      let r : JournalRecord = CellsOnePhase life number ps in
      others r _ (omega (arith, count_more found.standing (record { place = length octets; item = r }))) room

pub done_length : (place : ℕ) → length (record_octets (Done place)) ≡ 10
done_length place = refl

pub life_length : (life : ℕ) → length (record_octets (Life life)) ≡ 10
life_length life = refl

first_of_list : (place : ℕ) (xs : List Standing) → list_any (is_decision_at place) xs ≡ true
    → count_by stands_decided (taken_away (position (is_decision_at place) xs) xs) + 1 ≡ count_by stands_decided xs
first_of_list place [] any = absurd cc
first_of_list place (x ∷ xs) any = count_done place (x ∷ xs) x any

-- a Done takes what its decision left for it
pub room_done : (octets : List ℕ) (found : Found) (place : ℕ) → list_any (is_decision_at place) found.standing ≡ true → used (octets ++ record_octets (Done place)) (with_record found (length octets) (Done place)) ≤ used octets found
room_done octets found place any =
    omega (arith, first_of_list place found.standing any, length-append octets (record_octets (Done place)), done_length place)
