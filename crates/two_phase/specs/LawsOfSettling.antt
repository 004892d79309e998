-- When a completion of a tree is settled, so that its decision record may be named done (our profile).
use Rattle.std.specs.Prelude.{◌≡◌, ◌↔◌, ℕ, true, false, [], Some, None}
use Rattle.std.specs.List.{slice_get}
use Rattle.std.specs.Option.{option_map_or}
use Rattle.ots_model.specs.declared.completion.Ground.{Ground}
use Rattle.ots_model.specs.Numbered.{Outcome}
use Rattle.ots_model.specs.declared.completion.Outcome.TheVariants as outcomes
use Rattle.two_phase.specs.Course.{Course, decides_alone, next_word, outcome}
use Rattle.two_phase.specs.Parties.{is_told, has_completed, has_raised, lets_go}
use Rattle.two_phase.specs.Reports.{is_settled, pending_commits, pending_forgets}
use Rattle.two_phase.specs.declared.party.Party.{Party}

-- each participant that is told this outcome has completed
abbrev pub AllComplete : Outcome → Course → Type 0
AllComplete fixed c = (place : ℕ) (p : Party) → slice_get c.parties place ≡ Some p → is_told (decides_alone c) fixed p ≡ true → has_completed p ≡ true

-- each one that has raised a heuristic exception has answered forget plainly or by OBJECT_NOT_EXIST
abbrev pub AllLetGo : Course → Type 0
AllLetGo c = (place : ℕ) (p : Party) → slice_get c.parties place ≡ Some p → has_raised p ≡ true → option_map_or lets_go p.forgot false ≡ true

-- the outcome is fixed, each that is told it has completed, and nobody keeps a heuristic outcome
abbrev pub IsThrough : Course → Type 0
IsThrough c = (fixed : Outcome) × (outcome c ≡ Some fixed) × AllComplete fixed c × AllLetGo c

-- that, and nothing else, is a settled one
abbrev pub SettledIsThrough : Type 0
SettledIsThrough = (c : Course) → (is_settled c ≡ true) ↔ IsThrough c

-- after a commit it is settled exactly where nobody is still to be told commit or forget
abbrev pub SettledIsNothingPending : Type 0
SettledIsNothingPending = (c : Course) (basis : Ground) → outcome c ≡ Some (outcomes.Commit basis)
    → (is_settled c ≡ true) ↔ ((pending_commits c ≡ []) × (pending_forgets c ≡ []))

-- a settled one has no word to send
abbrev pub SettledIsSilent : Type 0
SettledIsSilent = (c : Course) → is_settled c ≡ true → next_word c ≡ None
