-- The lines that tell what happened (our profile), each said once: by its words. From these follow how it is spelled,
-- and that its names are names.
use Rattle.std.specs.Prelude.{ℕ, List, [], ◌∷◌, codes}
use Rattle.std.specs.List.{flat_map}
use Rattle.ots_model.specs.Piece.{Part, Fixed, Named, Number, line_of}
use Rattle.ots_model.specs.Words.{vote_word, told_word, state_word, decision_word, ground_word, ending_word}
use Rattle.ots_model.specs.declared.completion.Reason.{Reason}
use Rattle.ots_model.specs.declared.completion.Reason.TheVariants as reasons
use Rattle.ots_model.specs.Numbered.{LineOutcome}
use Rattle.ots_model.specs.declared.completion.Outcome.TheVariants as outcomes
use Rattle.ots_model.specs.declared.line.Line.{Line}
use Rattle.ots_model.specs.declared.line.Line.TheVariants as lines

-- a reason, and then what it speaks of
abbrev pub reason_parts : Reason (List ℕ) → List Part
reason_parts (reasons.Vote g) = Fixed (codes "Vote") ∷ Named g ∷ []
reason_parts (reasons.PrepareLost g) = Fixed (codes "PrepareLost") ∷ Named g ∷ []
reason_parts (reasons.PrepareStarved g) = Fixed (codes "PrepareStarved") ∷ Named g ∷ []
reason_parts (reasons.PrepareFault g) = Fixed (codes "PrepareFault") ∷ Named g ∷ []
reason_parts (reasons.JournalFull used need) = Fixed (codes "JournalFull") ∷ Number used ∷ Number need ∷ []

-- an outcome
abbrev pub outcome_parts : LineOutcome → List Part
outcome_parts (outcomes.Commit basis) = Fixed (codes "commit") ∷ Fixed (ground_word basis) ∷ []
outcome_parts (outcomes.Rollback reason) = Fixed (codes "rollback") ∷ reason_parts reason
outcome_parts outcomes.Unknown = Fixed (codes "unknown") ∷ []

-- the words of a line
unfoldable pub parts : Line → List Part
parts (lines.Up server life) = Fixed (codes "up") ∷ Named server ∷ Number life ∷ []
parts (lines.Top transaction node) = Fixed (codes "top") ∷ Named transaction ∷ Named node ∷ []
parts (lines.Sub transaction parent) = Fixed (codes "sub") ∷ Named transaction ∷ Named parent ∷ []
parts (lines.Imp subordinate superior node) = Fixed (codes "imp") ∷ Named subordinate ∷ Named superior ∷ Named node ∷ []
parts (lines.Reg resource transaction end) = Fixed (codes "reg") ∷ Named resource ∷ Named transaction ∷ Named end ∷ []
parts (lines.Send message word registration) = Fixed (codes "send") ∷ Number message ∷ Fixed (told_word word) ∷ Named registration ∷ []
parts (lines.Recv message) = Fixed (codes "recv") ∷ Number message ∷ []
parts (lines.Voted registration vote) = Fixed (codes "vote") ∷ Named registration ∷ Fixed (vote_word vote) ∷ []
parts (lines.Decide transaction outcome) = Fixed (codes "decide") ∷ Named transaction ∷ outcome_parts outcome
parts (lines.SubDone transaction committed) = Fixed (codes "subdone") ∷ Named transaction ∷ Fixed (ending_word committed) ∷ []
parts (lines.State resource state) = Fixed (codes "state") ∷ Named resource ∷ Fixed (state_word state) ∷ []
parts (lines.Learn registration decision) = Fixed (codes "learn") ∷ Named registration ∷ Fixed (decision_word decision) ∷ []
parts (lines.Done transaction) = Fixed (codes "done") ∷ Named transaction ∷ []

-- the octets of a line
unfoldable pub spelling : Line → List ℕ
spelling line = line_of (parts line)

-- the octets of some lines
abbrev pub text_of : List Line → List ℕ
text_of some = flat_map spelling some
