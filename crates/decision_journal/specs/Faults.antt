-- When the count of a journal's disk's faults stands as it was (our profile).
use Rattle.std.specs.Prelude.{◌≡◌, ℕ, Result, MatchResult}
use Rattle.decision_journal.specs.declared.journal.JournalFault.{JournalFault}
use Rattle.decision_journal.specs.declared.journal.JournalFault.TheVariants.{DiskFault, Full, BadHeader, BadRecord, LivesSpent, Memory}

-- a refusal for another cause than the disk left this count of faults
abbrev pub IsNoFault : JournalFault → ℕ → ℕ → Type 0
IsNoFault DiskFault before after = Unit {0}
IsNoFault (Full used need) before after = after ≡ before
IsNoFault (BadHeader place) before after = after ≡ before
IsNoFault (BadRecord place) before after = after ≡ before
IsNoFault LivesSpent before after = after ≡ before
IsNoFault Memory before after = after ≡ before

-- a call that the disk didn't fail left this count of faults
abbrev pub LeavesFaults : {T : Type 0} → Result T JournalFault → ℕ → ℕ → Type 0
LeavesFaults result before after = MatchResult result (λ _. after ≡ before) (λ fault. IsNoFault fault before after)
