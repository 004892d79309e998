-- When a disk's count of faults stands as it was (our profile).
use Rattle.std.specs.Prelude.{◌≡◌, ℕ, Result, MatchResult}
use Rattle.ots_outside.specs.declared.disk.DiskRefusal.{DiskRefusal}
use Rattle.ots_outside.specs.declared.disk.DiskRefusal.TheVariants.{Failed, Memory}

-- a refusal for want of memory left this count of faults
abbrev pub IsNoFault : DiskRefusal → ℕ → ℕ → Type 0
IsNoFault Failed before after = Unit {0}
IsNoFault Memory before after = after ≡ before

-- a call that the disk didn't fail left this count of faults
abbrev pub LeavesFaults : {T : Type 0} → Result T DiskRefusal → ℕ → ℕ → Type 0
LeavesFaults result before after = MatchResult result (λ _. after ≡ before) (λ refusal. IsNoFault refusal before after)
