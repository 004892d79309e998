-- Which message comes next.
use Rattle.std.proofs.Common.{◌≡◌, ℕ, ◌+◌, ◌-◌, ◌<◌, ◌≤◌, zero, suc, true, false, cond, nat_lt, List, [], ◌∷◌, length, drop, Some, None, ◌⊎◌, inl, inr, refl, ap, ◌∙◌, arith, length-drop}
use Rattle.std.specs.List.{slice_get, position, position_or_len}
use Rattle.nodes_world.specs.declared.message.Message.{Message}
use Rattle.nodes_parts.specs.Sending.{ArePassed, CountsPassed, is_waiting}

pub get_behind : {A : Type 0} (xs : List A) (k j : ℕ) → slice_get (drop k xs) j ≡ slice_get xs (k + j)
get_behind xs zero j = let e : j ≡ zero + j = omega arith in ap (slice_get xs) e
get_behind [] (suc k) j = refl
get_behind (x ∷ xs) (suc k) j = let e : suc (k + j) ≡ suc k + j = omega arith in get_behind xs k j ∙ ap (slice_get (x ∷ xs)) e

-- the first that waits is at this place, where none before it does
first_at : (xs : List Message) (n : ℕ) → n ≤ length xs
    → ((i : ℕ) (m : Message) → i < n → slice_get xs i ≡ Some m → is_waiting m ≡ false)
    → ((m : Message) → slice_get xs n ≡ Some m → is_waiting m ≡ true)
    → position_or_len is_waiting xs ≡ n
first_at [] n l none some = omega arith
first_at (x ∷ xs) zero l none some = rw (some x refl) refl
first_at (x ∷ xs) (suc n) l none some =
    let rest = first_at xs n (omega arith) (λ i m at got. none (suc i) m (omega arith) got) some in
    let e : 1 + n ≡ suc n = omega arith in
    rw (none zero x (omega arith) refl) (ap (λ m. 1 + m) rest ∙ e)

le_or_lt : (a b : ℕ) → (a ≤ b) ⊎ (b < a)
le_or_lt zero b = inl (omega arith)
le_or_lt (suc a) zero = inr (omega arith)
le_or_lt (suc a) (suc b) = elim (le_or_lt a b) [
  | inl l ↦ inl (omega arith)
  | inr l ↦ inr (omega arith)
]

passed_by : (xs : List Message) (passed count : ℕ) → ArePassed xs passed → CountsPassed count (drop passed xs) → (i : ℕ) (m : Message) → i < passed + count
    → slice_get xs i ≡ Some m → (passed ≤ i) ⊎ (i < passed) → is_waiting m ≡ false
passed_by xs passed count a c i m at got (inr before) = a.each i m before got
passed_by xs passed count a c i m at got (inl behind) =
    let e : passed + (i - passed) ≡ i = omega arith in
    c.each (i - passed) m (omega arith) (get_behind xs passed (i - passed) ∙ ap (slice_get xs) e ∙ got)

-- more were passed
pub more_passed : (xs : List Message) (passed count : ℕ) → ArePassed xs passed → CountsPassed count (drop passed xs) → ArePassed xs (passed + count)
more_passed xs passed count a c = record {
  within = omega (arith, length-drop passed xs, a.within, c.within);
  few = a.few;
  each = λ i m at got. passed_by xs passed count a c i m at got (le_or_lt passed i);
}

pub next_is : (xs : List Message) (passed count : ℕ) → ArePassed xs passed → CountsPassed count (drop passed xs)
    → position is_waiting xs ≡ cond (nat_lt (passed + count) (length xs)) (Some (passed + count)) None
next_is xs passed count a c =
    let all = more_passed xs passed count a c in
    let at = first_at xs (passed + count) all.within all.each (λ m got. c.next m (get_behind xs passed count ∙ got)) in
    ap (λ n. cond (nat_lt n (length xs)) (Some n) None) at
