-- How the branches of a tree of transactions hang together (Transaction Service, nested transactions).
use Rattle.std.specs.Prelude.{◌≡◌, ◌↔◌, ◌<◌, ℕ, true, List, length, Some}
use Rattle.txn_tree.specs.Rows.{parent, state, IsTree, is_committed_up}
use Rattle.txn_tree.specs.declared.row.Row.{Row}
use Rattle.txn_tree.specs.declared.row.State.TheVariants.{Committed, RolledBack}

-- a branch was committed up to another one, or is that one
pub data IsUpTo (rs : List Row) (b : ℕ) : ℕ → Type 0 where
  same : IsUpTo rs b b
  further : (c p : ℕ) → state rs c ≡ Some Committed → parent rs c ≡ Some p → IsUpTo rs b p → IsUpTo rs b c

-- in a tree this is the relation that the definition of trees has
abbrev pub UpToIsCommittedUp : Type 0
UpToIsCommittedUp = (rs : List Row) → IsTree rs → (b c : ℕ) → c < length rs → IsUpTo rs b c ↔ (is_committed_up rs b c ≡ true)

-- a branch was rolled back, or one above it was
pub data IsCutOff (rs : List Row) : ℕ → Type 0 where
  itself : (b : ℕ) → state rs b ≡ Some RolledBack → IsCutOff rs b
  above : (b p : ℕ) → parent rs b ≡ Some p → IsCutOff rs p → IsCutOff rs b
