-- The words that are out, each with the branch whose call waits for its answer.
use Rattle.std.specs.Prelude.{◌≡◌, ℕ, ◌+◌, ◌<◌, ◌==◌, ◌&&◌, ◌||◌, Bool, false, nat_lt, List, length, AllPairs, Option, Some, None, sum_by, if◌then◌else◌}
use Rattle.std.specs.Option.{option_and_then}
use Rattle.family_rules.specs.declared.call.Call.{Call as KeptCall}
use Rattle.family_rules.specs.declared.call.Seat.{Seat}
use Rattle.family_rules.specs.declared.outs.Posted.{Posted}
use Rattle.family_rules.specs.Calls.{call_kept}

-- these, and for how many memory is taken together
pub record OutsParts : Type 0 where
  pub words : List Posted
  pub capacity : ℕ

-- a word comes before those with a greater serial number, and before those with the same one and a greater branch
abbrev pub comes_before : Posted → Posted → Bool
comes_before p q = nat_lt p.serial q.serial || p.serial == q.serial && nat_lt p.branch q.branch

-- none comes before one that stands in front of it
abbrev pub StandInOrder : List Posted → Type 0
StandInOrder words = AllPairs (λ (p q : Posted). comes_before q p ≡ false) words

-- once, where a word has this number and is that of this branch
abbrev pub one_at : ℕ → ℕ → Posted → ℕ
one_at serial branch p = if p.serial == serial && p.branch == branch then 1 else 0

-- how often a word is among these
abbrev pub times : ℕ → ℕ → List Posted → ℕ
times serial branch words = sum_by (one_at serial branch) words

-- how often it is the word that a branch has out, where it has one
abbrev pub one_of : ℕ → ℕ → ℕ → Option ℕ → ℕ
one_of serial branch at (Some out) = one_at serial branch (record { serial = out; branch = at })
one_of serial branch at None = 0

-- how many words that is
abbrev pub some_of : Option ℕ → ℕ
some_of (Some out) = 1
some_of None = 0

-- the first branch that has a word out with this number
abbrev pub IsFirstOf : ℕ → List Posted → Option ℕ → Type 0
IsFirstOf serial words (Some b) = (0 < times serial b words) × ((c : ℕ) → c < b → times serial c words ≡ 0)
IsFirstOf serial words None = (c : ℕ) → times serial c words ≡ 0

-- the branch of a word that may be there, where it has this number
abbrev pub branch_in : ℕ → Option Posted → Option ℕ
branch_in serial (Some p) = if p.serial == serial then Some p.branch else None
branch_in serial None = None

-- the number of a call's word that is out
abbrev pub out_of : Option KeptCall → Option ℕ
out_of c = option_and_then (λ (k : KeptCall). k.out) c

-- the same of the call at a place
abbrev pub out_at : List Seat → ℕ → Option ℕ
out_at seats b = out_of (call_kept seats b)

-- these are the words of the calls that are out, each once
pub record AreOut (words : List Posted) (seats : List Seat) : Type 0 where
  pub each : (serial b : ℕ) → times serial b words ≡ one_of serial b b (out_at seats b)
  pub count : length words ≡ sum_by (λ (s : Seat). some_of (out_of s.call)) seats
