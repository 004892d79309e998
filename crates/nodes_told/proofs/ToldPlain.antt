-- The words of told lines are plain, so a line can be made of them.
use Rattle.std.proofs.Common.{◌≡◌, ℕ, zero, suc, ◌<◌, ◌/◌, ◌%◌, inl, inr, Bool, true, false, List, [], ◌∷◌, length, map, Option, Some, None, refl, sym, subst, arith}
use Rattle.std.specs.Prelude.{◌&&◌, slice_index, codes}
use Rattle.std.specs.List.{list_all, AllByRecursion}
use Rattle.hex.specs.Hex.{encode_lower, encode_with, lower_digits}
use Rattle.ots_model.specs.Line.{parts, outcome_parts, reason_parts}
use Rattle.ots_model.specs.Piece.{Part, Fixed, Named, Number, word_of}
use Rattle.ots_model.specs.Words.{vote_word, told_word, state_word, decision_word, ground_word, ending_word}
use Rattle.ots_model.specs.declared.completion.Ground.{Ground}
use Rattle.ots_model.specs.declared.completion.Ground.TheVariants as grounds
use Rattle.ots_model.specs.Numbered.{LineOutcome as Outcome}
use Rattle.ots_model.specs.declared.completion.Outcome.TheVariants as outcomes
use Rattle.ots_model.specs.declared.completion.Reason.{Reason}
use Rattle.ots_model.specs.declared.completion.Reason.TheVariants as phase_reasons
use Rattle.ots_model.specs.declared.completion.Vote.{Vote}
use Rattle.ots_model.specs.declared.completion.Vote.TheVariants as votes
use Rattle.ots_model.specs.declared.completion.Word.{Word}
use Rattle.ots_model.specs.declared.completion.Word.TheVariants as phase_words
use Rattle.ots_model.specs.declared.line.Decision.{Decision}
use Rattle.ots_model.specs.declared.line.Decision.TheVariants as decisions
use Rattle.ots_model.specs.declared.line.Line.{Line}
use Rattle.ots_model.specs.declared.line.Line.TheVariants as lines
use Rattle.ots_model.specs.declared.line.ResourceState.{ResourceState}
use Rattle.ots_model.specs.declared.line.ResourceState.TheVariants as states
use Rattle.ots_model.specs.declared.service.Status.{Status}
use Rattle.ots_model.specs.declared.service.Status.TheVariants as status
use Rattle.coordinator.specs.declared.event.Act.{Act}
use Rattle.coordinator.specs.declared.event.Act.TheVariants as acts
use Rattle.coordinator.specs.declared.said.Said.{Said}
use Rattle.coordinator.specs.declared.said.Said.TheVariants as said
use Rattle.nodes_world.specs.Told.{Told, Known, Down, Aware, Called, Answered, Sent, Back, Dropped, RolledBack, RolledBackBy, Marked, Doubted, Refused, Journal, answer_part, flag_word, operation_of, status_word, words_of}
use Rattle.nodes_told.specs.Reading.{HasWords, IsAnswer, IsNamed, IsOneOf, IsPlain, IsPlainOctet, IsTold, bare_reasons, reasons_by, refused_words, told_words, words_beside}
use Rattle.nodes_told.proofs.Numbers.{number_is_plain}
use Rattle.nodes_told.proofs.Plain.{CanBeLine, fixed_is_plain, is_plain, name_is_plain}

-- the part is plain, if its name is a name
abbrev is_plain_part : Part → Bool
is_plain_part (Fixed octets) = is_plain octets
is_plain_part (Named name) = true
is_plain_part (Number number) = true

abbrev are_plain : List Part → Bool
are_plain some = list_all is_plain_part some

first_of_two : (a b : Bool) → (a && b) ≡ true → a ≡ true
first_of_two true b h = refl
first_of_two false b h = cc

last_of_two : (a b : Bool) → (a && b) ≡ true → b ≡ true
last_of_two true b h = h
last_of_two false b h = cc

-- ---- the lines of ots_model

vote_plain : (v : Vote) → is_plain (vote_word v) ≡ true
vote_plain votes.VoteCommit = refl
vote_plain _ = refl

word_plain : (v : Word) → is_plain (told_word v) ≡ true
word_plain phase_words.Prepare = refl
word_plain _ = refl

state_plain : (v : ResourceState) → is_plain (state_word v) ≡ true
state_plain states.Prepared = refl
state_plain _ = refl

decision_plain : (v : Decision) → is_plain (decision_word v) ≡ true
decision_plain decisions.Commit = refl
decision_plain _ = refl

ground_plain : (v : Ground) → is_plain (ground_word v) ≡ true
ground_plain grounds.Record = refl
ground_plain _ = refl

ending_plain : (v : Bool) → is_plain (ending_word v) ≡ true
ending_plain true = refl
ending_plain _ = refl

reason_plain : (reason : Reason (List ℕ)) → are_plain (reason_parts reason) ≡ true
reason_plain (phase_reasons.Vote g) = refl
reason_plain _ = refl

outcome_plain : (outcome : Outcome) → are_plain (outcome_parts outcome) ≡ true
outcome_plain (outcomes.Commit basis) = simp ground_plain
outcome_plain (outcomes.Rollback reason) = reason_plain reason
outcome_plain outcomes.Unknown = refl

ruleset plains = (vote_plain, word_plain, state_plain, decision_plain, ending_plain, outcome_plain)

line_plain : (line : Line) → are_plain (parts line) ≡ true
unfolding parts
line_plain (lines.Recv message) = refl
line_plain _ = first_of (cc, simp plains)

line_has_one : (line : Line) → 0 < length (map word_of (parts line))
unfolding parts
line_has_one (lines.Recv message) = omega arith
line_has_one _ = omega arith

-- ---- the other words

-- what holds of each of some words holds of one of them
pub one_of : (P : List ℕ → Type 0) (table : List (List ℕ)) → AllByRecursion P table → (word : List ℕ) → IsOneOf table word → P word
one_of P [] all word is = absurd is
one_of P (first ∷ others) all word (inl same) = subst P (sym same) all.0
one_of P (first ∷ others) all word (inr more) = one_of P others all.1 word more

flag_plain : (b : Bool) → is_plain (flag_word b) ≡ true
flag_plain true = refl
flag_plain _ = refl

status_plain : (s : Status) → is_plain (status_word s) ≡ true
status_plain status.Active = refl
status_plain _ = refl

-- the part is plain, if its name is a name
abbrev IsPlainPart : Part → Type 0
IsPlainPart (Fixed octets) = IsPlain octets
IsPlainPart (Named name) = Unit {0}
IsPlainPart (Number number) = Unit {0}

part_passes : (p : Part) → is_plain_part p ≡ true → IsPlainPart p
part_passes (Fixed octets) is = fixed_is_plain octets is
part_passes (Named name) is = tt
part_passes (Number number) is = tt

passes : (ps : List Part) → are_plain ps ≡ true → AllByRecursion IsPlainPart ps
passes [] is = tt
passes (p ∷ ps) is = (
  part_passes p (first_of_two (is_plain_part p) (are_plain ps) is),
  passes ps (last_of_two (is_plain_part p) (are_plain ps) is),
)

abbrev fixed_in : Part → List ℕ
fixed_in (Fixed octets) = octets
fixed_in _ = []

answer_plain : (answer : Said) → IsAnswer answer → IsPlainPart (answer_part answer)
answer_plain (said.Flag b) is = fixed_is_plain (flag_word b) (flag_plain b)
answer_plain (said.State s) is = fixed_is_plain (status_word s) (status_plain s)
answer_plain (said.Name name) is = is
answer_plain (said.Number number) is = tt
answer_plain (said.Voted vote) is = fixed_is_plain (vote_word vote) (vote_plain vote)
answer_plain answer is = fixed_is_plain (fixed_in (answer_part answer)) refl

-- an operation that a client calls is plain
abbrev is_plain_if : Option (List ℕ) → Bool
is_plain_if (Some word) = is_plain word
is_plain_if None = true

acts_plain : (act : Act) → is_plain_if (operation_of act) ≡ true
acts_plain acts.GetTerminator = refl
acts_plain _ = refl

operation_plain : (act : Act) (operation : List ℕ) → operation_of act ≡ Some operation → IsPlain operation
operation_plain act operation is = fixed_is_plain operation (subst (λ (o : Option (List ℕ)). is_plain_if o ≡ true) is (acts_plain act))

-- hex digits are plain
digit_among : (digits : List ℕ) (d : ℕ) → IsPlain digits → IsPlainOctet (slice_index digits d)
digit_among [] d is = (λ e. cc e, λ e. cc e)
digit_among (b ∷ digits) zero is = is.0
digit_among (b ∷ digits) (suc d) is = digit_among digits d is.1

digit_plain : (d : ℕ) → IsPlainOctet (slice_index lower_digits d)
digit_plain d = digit_among lower_digits d (fixed_is_plain lower_digits refl)

pub hex_plain : (octets : List ℕ) → IsPlain (encode_lower octets)
unfolding encode_with
hex_plain [] = tt
hex_plain (b ∷ rest) = (digit_plain (b / 16), (digit_plain (b % 16), hex_plain rest))

-- ---- a line

told_plain : (line : Told) → HasWords line → AllByRecursion IsPlainPart (words_of line)
unfolding words_of HasWords
told_plain (Known line) is = passes (parts line) (line_plain line)
told_plain (Down server) is = (fixed_is_plain (codes "down") refl, (tt, tt))
told_plain (Aware resource transaction end) is = (fixed_is_plain (codes "awr") refl, (tt, (tt, (tt, tt))))
told_plain (Called message operation transaction) is =
    (fixed_is_plain (codes "call") refl, (tt, (operation_plain is.0 operation is.1, (tt, tt))))
told_plain (Answered message answer) is = (fixed_is_plain (codes "ans") refl, (tt, (answer_plain answer is, tt)))
told_plain (Sent message operation registration) is =
    let plain = one_of (λ word. is_plain word ≡ true) words_beside (refl, (refl, (refl, (refl, (refl, (refl, (refl, tt))))))) operation is in
    (fixed_is_plain (codes "send") refl, (tt, (fixed_is_plain operation plain, (tt, tt))))
told_plain (Back message request answer) is = (fixed_is_plain (codes "back") refl, (tt, (tt, (answer_plain answer is, tt))))
told_plain (Dropped message) is = (fixed_is_plain (codes "drop") refl, (tt, tt))
told_plain (RolledBack transaction reason) is =
    let plain = one_of (λ word. is_plain word ≡ true) bare_reasons (refl, (refl, (refl, (refl, (refl, (refl, tt)))))) reason is in
    (fixed_is_plain (codes "decide") refl, (tt, (fixed_is_plain (codes "rollback") refl, (fixed_is_plain reason plain, tt))))
told_plain (RolledBackBy transaction reason synchronization) is =
    let plain = one_of (λ word. is_plain word ≡ true) reasons_by (refl, (refl, tt)) reason is in
    (fixed_is_plain (codes "decide") refl, (tt, (fixed_is_plain (codes "rollback") refl, (fixed_is_plain reason plain, (tt, tt)))))
told_plain (Marked transaction) is = (fixed_is_plain (codes "marked") refl, (tt, tt))
told_plain (Doubted transaction) is = (fixed_is_plain (codes "doubt") refl, (tt, tt))
told_plain (Refused word answer) is =
    let plain = one_of (λ w. is_plain w ≡ true) refused_words (refl, (refl, (refl, tt))) word is.0 in
    (fixed_is_plain (codes "no") refl, (fixed_is_plain word plain, (answer_plain answer is.1, tt)))
told_plain (Journal server octets) is = (fixed_is_plain (codes "journal") refl, (tt, (hex_plain octets, tt)))

has_one : (line : Told) → 0 < length (told_words line)
unfolding words_of
has_one (Known line) = line_has_one line
has_one (Down server) = omega arith
has_one _ = omega arith

part_plain : (p : Part) → IsPlainPart p → IsNamed p → IsPlain (word_of p)
part_plain (Fixed octets) is named = is
part_plain (Named name) is named = name_is_plain name named
part_plain (Number number) is named = number_is_plain number

parts_plain : (ps : List Part) → AllByRecursion IsPlainPart ps → AllByRecursion IsNamed ps → AllByRecursion IsPlain (map word_of ps)
parts_plain [] is named = tt
parts_plain (p ∷ ps) is named = (part_plain p is.0 named.0, parts_plain ps is.1 named.1)

pub can_be_line : (line : Told) → IsTold line → CanBeLine (told_words line)
can_be_line line is = record { one = has_one line; plain = parts_plain (words_of line) (told_plain line is.words) is.names }
