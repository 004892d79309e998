-- Octets that are put together before they are written.
use Rattle.std.specs.Prelude.{◌≡◌, ℕ, ◌+◌, ◌/◌, ◌%◌, List, [], ◌∷◌, ◌++◌, length, take}

-- octets were put behind those of a row, some of which may have been written
pub record Puts (lines row octets lines_after row_after : List ℕ) : Type 0 where
  pub whole : lines_after ++ row_after ≡ (lines ++ row) ++ octets
  pub front : take (length lines) lines_after ≡ lines

-- the last decimal digit of a number
abbrev pub digit_of : ℕ → ℕ
digit_of n = 48 + n % 10

-- the last two
abbrev pub last_two : ℕ → List ℕ
last_two n = digit_of (n / 10) ∷ digit_of n ∷ []

-- the last three
abbrev pub last_three : ℕ → List ℕ
last_three n = digit_of (n / 100) ∷ last_two n
