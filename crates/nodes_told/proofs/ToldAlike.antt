-- Told lines with the same words are the same line of ots_model, or both are none.
use Rattle.std.proofs.Common.{◌≡◌, ℕ, Bool, true, false, List, [], ◌∷◌, ◌++◌, map, get_or, Option, Some, None, refl, sym, ap, subst, ◌∙◌}
use Rattle.std.specs.Prelude.{◌&&◌, not, codes, bytes_eq}
use Rattle.std.specs.List.{list_any, join_with_byte, AllByRecursion}
use Rattle.std.proofs.lemmas.List.Elements.{All-from_recursion}
use Rattle.ots_model.specs.Line.{parts, spelling}
use Rattle.ots_model.specs.LineLaws.{DifferentLinesDiffer, IsLine}
use Rattle.ots_model.specs.Piece.{Part, Fixed, Named, Number, IsNumber, IsWell, word_of}
use Rattle.ots_model.specs.declared.completion.Outcome.TheVariants as outcomes
use Rattle.ots_model.specs.declared.completion.Reason.TheVariants as phase_reasons
use Rattle.ots_model.specs.declared.completion.Word.TheVariants as phase_words
use Rattle.ots_model.specs.declared.line.Line.{Line}
use Rattle.ots_model.specs.declared.line.Line.TheVariants as lines
use Rattle.nodes_world.specs.Told.{Told, Known, Sent, RolledBack, RolledBackBy, known_in, words_of}
use Rattle.nodes_told.specs.Reading.{HasNumbers, HasWords, IsCounted, IsNamed, IsTold, bare_reasons, reasons_by, told_words, words_beside}
use Rattle.nodes_told.proofs.Numbers.{same_number}
use Rattle.nodes_told.proofs.ToldPlain.{one_of}

-- ---- which words are those of a line of ots_model

abbrev word : List (List ℕ) → ℕ → List ℕ
word some i = get_or some i []

abbrev is_among : List (List ℕ) → List ℕ → Bool
is_among table w = list_any (bytes_eq w) table

abbrev other_firsts : List (List ℕ)
other_firsts =
    codes "down"
    ∷ codes "awr"
    ∷ codes "call"
    ∷ codes "ans"
    ∷ codes "back"
    ∷ codes "drop"
    ∷ codes "marked"
    ∷ codes "doubt"
    ∷ codes "no"
    ∷ codes "journal"
    ∷ []

abbrev is_beside : List (List ℕ) → Bool
is_beside some = bytes_eq (word some 0) (codes "send") && is_among words_beside (word some 2)

abbrev is_rolled_back : List (List ℕ) → Bool
is_rolled_back some =
    bytes_eq (word some 0) (codes "decide") && (bytes_eq (word some 2) (codes "rollback") && is_among (bare_reasons ++ reasons_by) (word some 3))

is_known : List (List ℕ) → Bool
is_known some = not (is_among other_firsts (word some 0)) && (not (is_beside some) && not (is_rolled_back some))

line_known : (line : Line) → is_known (map word_of (parts line)) ≡ true
unfolding parts is_known
line_known (lines.Send message phase_words.Prepare g) = refl
line_known (lines.Send message phase_words.Commit g) = refl
line_known (lines.Send message phase_words.CommitOnePhase g) = refl
line_known (lines.Send message phase_words.Rollback g) = refl
line_known (lines.Decide t (outcomes.Commit basis)) = refl
line_known (lines.Decide t (outcomes.Rollback (phase_reasons.Vote g))) = refl
line_known (lines.Decide t (outcomes.Rollback (phase_reasons.PrepareLost g))) = refl
line_known (lines.Decide t (outcomes.Rollback (phase_reasons.PrepareStarved g))) = refl
line_known (lines.Decide t (outcomes.Rollback (phase_reasons.PrepareFault g))) = refl
line_known (lines.Decide t (outcomes.Rollback (phase_reasons.JournalFull used need))) = refl
line_known (lines.Decide t outcomes.Unknown) = refl
line_known _ = refl

other_unknown : (line : Told) → HasWords line → known_in line ≡ None → is_known (told_words line) ≡ false
unfolding words_of HasWords is_known
other_unknown (Known line) is none = absurd cc
other_unknown (Sent message operation g) is none =
    one_of (λ w. is_known (told_words (Sent message w g)) ≡ false) words_beside (refl, (refl, (refl, (refl, (refl, (refl, (refl, tt))))))) operation is
other_unknown (RolledBack t reason) is none =
    one_of (λ w. is_known (told_words (RolledBack t w)) ≡ false) bare_reasons (refl, (refl, (refl, (refl, (refl, (refl, tt)))))) reason is
other_unknown (RolledBackBy t reason s) is none =
    one_of (λ w. is_known (told_words (RolledBackBy t w s)) ≡ false) reasons_by (refl, (refl, tt)) reason is
other_unknown _ is none = refl

-- ---- two lines of ots_model

-- a line that tells of a full journal
abbrev is_journal_full : List (List ℕ) → Bool
is_journal_full some =
    bytes_eq (word some 0) (codes "decide") && (bytes_eq (word some 2) (codes "rollback") && bytes_eq (word some 3) (codes "JournalFull"))

-- a line has the numbers of one with the same words
counted : (x y : Line) → AllByRecursion IsCounted (parts y) → map word_of (parts x) ≡ map word_of (parts y) → AllByRecursion IsCounted (parts x)
unfolding parts
counted (lines.Up s n) (lines.Up t m) is e = (tt, (tt, (subst IsNumber (sym (same_number n m is.1.1.0 cc)) is.1.1.0, tt)))
counted (lines.Up s n) y is e =
    let no : true ≡ false = ap (λ (some : List (List ℕ)). bytes_eq (word some 0) (codes "up")) e in absurd (cc no)
counted (lines.Send n v g) (lines.Send m w h) is e = (tt, (subst IsNumber (sym (same_number n m is.1.0 cc)) is.1.0, (tt, (tt, tt))))
counted (lines.Send n v g) y is e =
    let no : true ≡ false = ap (λ (some : List (List ℕ)). bytes_eq (word some 0) (codes "send")) e in absurd (cc no)
counted (lines.Recv n) (lines.Recv m) is e = (tt, (subst IsNumber (sym (same_number n m is.1.0 cc)) is.1.0, tt))
counted (lines.Recv n) y is e =
    let no : true ≡ false = ap (λ (some : List (List ℕ)). bytes_eq (word some 0) (codes "recv")) e in absurd (cc no)
counted (lines.Decide t (outcomes.Rollback (phase_reasons.JournalFull used need))) (lines.Decide s (outcomes.Rollback (phase_reasons.JournalFull other more))) is e =
    let first : IsNumber used = subst IsNumber (sym (same_number used other is.1.1.1.1.0 cc)) is.1.1.1.1.0 in
    let last : IsNumber need = subst IsNumber (sym (same_number need more is.1.1.1.1.1.0 cc)) is.1.1.1.1.1.0 in
    (tt, (tt, (tt, (tt, (first, (last, tt))))))
counted (lines.Decide t (outcomes.Rollback (phase_reasons.JournalFull used need))) (lines.Decide s (outcomes.Commit basis)) is e =
    let no : true ≡ false = ap is_journal_full e in absurd (cc no)
counted (lines.Decide t (outcomes.Rollback (phase_reasons.JournalFull used need))) (lines.Decide s (outcomes.Rollback (phase_reasons.Vote g))) is e =
    let no : true ≡ false = ap is_journal_full e in absurd (cc no)
counted (lines.Decide t (outcomes.Rollback (phase_reasons.JournalFull used need))) (lines.Decide s (outcomes.Rollback (phase_reasons.PrepareLost g))) is e =
    let no : true ≡ false = ap is_journal_full e in absurd (cc no)
counted (lines.Decide t (outcomes.Rollback (phase_reasons.JournalFull used need))) (lines.Decide s (outcomes.Rollback (phase_reasons.PrepareStarved g))) is e =
    let no : true ≡ false = ap is_journal_full e in absurd (cc no)
counted (lines.Decide t (outcomes.Rollback (phase_reasons.JournalFull used need))) (lines.Decide s (outcomes.Rollback (phase_reasons.PrepareFault g))) is e =
    let no : true ≡ false = ap is_journal_full e in absurd (cc no)
counted (lines.Decide t (outcomes.Rollback (phase_reasons.JournalFull used need))) (lines.Decide s outcomes.Unknown) is e =
    let no : true ≡ false = ap is_journal_full e in absurd (cc no)
counted (lines.Decide t (outcomes.Rollback (phase_reasons.JournalFull used need))) y is e =
    let no : true ≡ false = ap is_journal_full e in absurd (cc no)
counted (lines.Decide t (outcomes.Commit basis)) y is e = (tt, (tt, (tt, (tt, tt))))
counted (lines.Decide t (outcomes.Rollback reason)) y is e = (tt, (tt, (tt, (tt, (tt, tt)))))
counted (lines.Decide t outcomes.Unknown) y is e = (tt, (tt, (tt, tt)))
counted (lines.Top t n) y is e = (tt, (tt, (tt, tt)))
counted (lines.Sub t p) y is e = (tt, (tt, (tt, tt)))
counted (lines.Imp u t n) y is e = (tt, (tt, (tt, (tt, tt))))
counted (lines.Reg g t n) y is e = (tt, (tt, (tt, (tt, tt))))
counted (lines.Voted g v) y is e = (tt, (tt, (tt, tt)))
counted (lines.SubDone t c) y is e = (tt, (tt, (tt, tt)))
counted (lines.State g s) y is e = (tt, (tt, (tt, tt)))
counted (lines.Learn g d) y is e = (tt, (tt, (tt, tt)))
counted (lines.Done t) y is e = (tt, (tt, tt))

part_well : (p : Part) → IsNamed p → IsCounted p → IsWell p
part_well (Fixed octets) named is = tt
part_well (Named name) named is = named
part_well (Number number) named is = is

all_well : (ps : List Part) → AllByRecursion IsNamed ps → AllByRecursion IsCounted ps → AllByRecursion IsWell ps
all_well [] named is = tt
all_well (p ∷ ps) named is = (part_well p named.0 is.0, all_well ps named.1 is.1)

is_line : (x : Line) → AllByRecursion IsNamed (parts x) → AllByRecursion IsCounted (parts x) → IsLine x
unfolding IsLine
is_line x named is = All-from_recursion IsWell (parts x) (all_well (parts x) named is)

spelled_same : (x y : Line) → map word_of (parts x) ≡ map word_of (parts y) → spelling x ≡ spelling y
unfolding spelling
spelled_same x y e = ap (λ (some : List (List ℕ)). join_with_byte 32 some ++ 10 ∷ []) e

same_line : DifferentLinesDiffer → (x y : Line) → IsTold (Known x) → IsTold (Known y) → HasNumbers (Known y)
    → told_words (Known x) ≡ told_words (Known y) → x ≡ y
unfolding words_of HasNumbers
same_line differ x y ix iy is e = differ x y (is_line x ix.names (counted x y is e)) (is_line y iy.names is) (spelled_same x y e)

-- ---- two told lines

known_is : (line : Told) (x : Line) → known_in line ≡ Some x → line ≡ Known x
known_is (Known y) x is = cc
known_is _ x is = absurd cc

words_known : (line : Told) (x : Line) → known_in line ≡ Some x → is_known (told_words line) ≡ true
unfolding words_of
words_known line x at = subst (λ (l : Told). is_known (told_words l) ≡ true) (sym (known_is line x at)) (line_known x)

pub same_known : DifferentLinesDiffer → (a b : Told) → IsTold a → IsTold b → HasNumbers b → told_words a ≡ told_words b
    → known_in a ≡ known_in b
same_known differ a b ia ib is e = by (known_in a) (known_in b) refl refl
  where
    by : (oa ob : Option Line) → known_in a ≡ oa → known_in b ≡ ob → oa ≡ ob
    by (Some x) (Some y) at there =
        let first = known_is a x at in
        let last = known_is b y there in
        ap Some (same_line differ x y (subst IsTold first ia) (subst IsTold last ib) (subst HasNumbers last is)
        (sym (ap told_words first) ∙ e ∙ ap told_words last))
    by (Some x) None at there =
        let one = words_known a x at in
        let other = other_unknown b ib.words there in
        let same = ap is_known e in absurd cc
    by None (Some y) at there =
        let one = words_known b y there in
        let other = other_unknown a ia.words at in
        let same = ap is_known e in absurd cc
    by None None at there = refl
