-- The numbers of what is told again (our profile).
use Rattle.std.specs.Prelude.{ℕ}

-- the slot in the number of a call that tells the word of a record again: that of no tree
abbrev pub retold_slot : ℕ
retold_slot = 4294967295

-- the letter of a recovery coordinator's key: V
abbrev pub recovery_kind : ℕ
recovery_kind = 86
