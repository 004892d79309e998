-- When no word goes out: what every completion of a tree waits for then, so that no word is left out (Transaction Service, the
-- operations of interface Resource).
use Rattle.std.specs.Prelude.{◌≡◌, ℕ, ◌⊎◌, true, Some, None, is_some}
use Rattle.std.specs.List.{slice_get}
use Rattle.ots_model.specs.Numbered.{Outcome}
use Rattle.ots_model.specs.declared.completion.Outcome.TheVariants as outcomes
use Rattle.two_phase.specs.Course.{Course, decides_alone, outcome, wants_decision, is_doubtful, waits_for_superior, some_incomplete, next_word}
use Rattle.two_phase.specs.Parties.{is_told, has_raised}
use Rattle.two_phase.specs.declared.party.Party.{Party}

-- each participant that is told this outcome has answered the word that tells it
abbrev pub AllTold : Outcome → Course → Type 0
AllTold fixed c = (place : ℕ) (p : Party) → slice_get c.parties place ≡ Some p → is_told (decides_alone c) fixed p ≡ true → is_some p.told ≡ true

-- each one that has raised a heuristic exception has answered forget
abbrev pub AllForgot : Course → Type 0
AllForgot c = (place : ℕ) (p : Party) → slice_get c.parties place ≡ Some p → has_raised p ≡ true → is_some p.forgot ≡ true

-- forget waits for the superior's, or after a commit for one that was told of it and has not completed
abbrev pub ForgetWaits : Outcome → Course → Type 0
ForgetWaits (outcomes.Commit basis) c = (waits_for_superior c ≡ true) ⊎ (some_incomplete c ≡ true)
ForgetWaits _ c = waits_for_superior c ≡ true

-- why no word goes out: one is out; the journal is to be asked; nobody knows whether the record stands; or all were told the
-- outcome, and forget waits, or all were told that too
pub data IsSilent (c : Course) : Type 0 where
  is_out : is_some c.out ≡ true → IsSilent c
  wants_record : wants_decision c ≡ true → IsSilent c
  doubts : is_doubtful c ≡ true → IsSilent c
  forget_waits : (fixed : Outcome) → outcome c ≡ Some fixed → AllTold fixed c → ForgetWaits fixed c → IsSilent c
  all_told : (fixed : Outcome) → outcome c ≡ Some fixed → AllTold fixed c → AllForgot c → IsSilent c

-- nothing else keeps a word back
abbrev pub NoWordIsLeftOut : Type 0
NoWordIsLeftOut = (c : Course) → next_word c ≡ None → IsSilent c
