-- A text of told lines is read back.
use Rattle.std.proofs.Common.{◌≡◌, ℕ, List, [], ◌∷◌, ◌++◌, map, Option, Some, None, refl, sym, ap, ◌∙◌, append_assoc, arith}
use Rattle.std.specs.List.{AllByRecursion, cons_option}
use Rattle.ots_model.specs.LineLaws.{DifferentLinesDiffer, HasNoLineFeed}
use Rattle.ots_model.specs.Safe.{AreSafe}
use Rattle.ots_model.specs.declared.line.Line.{Line}
use Rattle.nodes_world.specs.Told.{Told, known, known_in, spelled, text}
use Rattle.nodes_told.specs.Reading.{HasNumbers, IsTold, PartsHaveNoFeed, ReadLinesAreSafe, ToldLinesAlike, ToldReadsBack, told_words}
use Rattle.nodes_told.proofs.Plain.{CanBeLine, first_lines, lines, no_line, part_has_none, words_read}
use Rattle.nodes_told.proofs.ToldAlike.{same_known}
use Rattle.nodes_told.proofs.ToldPlain.{can_be_line}

-- the octets of lines are those of their words
by_words : (some : List Told) → text some ≡ lines (map told_words some)
unfolding spelled
by_words [] = refl
by_words (a ∷ some) = ap (λ (octets : List ℕ). spelled a ++ octets) (by_words some)

can_be : (some : List Told) → AllByRecursion IsTold some → AllByRecursion CanBeLine (map told_words some)
can_be [] is = tt
can_be (a ∷ some) is = (can_be_line a is.0, can_be some is.1)

cons_append : (o : Option Line) (some more : List Line) → cons_option o (some ++ more) ≡ cons_option o some ++ more
cons_append (Some line) some more = refl
cons_append None some more = refl

-- a part of a told line, less than the whole, has no line feed
pub part_without_feed : PartsHaveNoFeed
unfolding spelled
part_without_feed line n is low = part_has_none (told_words line) n (can_be_line line is) low

-- a front of safe lines is safe
front_safe : (all some more : List Line) → all ≡ some ++ more → AreSafe all → AreSafe some
front_safe all some more is safe front behind e =
    safe front (behind ++ more) (is ∙ ap (λ (ls : List Line). ls ++ more) e ∙ append_assoc front behind more)

module _ (differ : DifferentLinesDiffer) where
  same_lines : (some others : List Told) → AllByRecursion IsTold some → AllByRecursion IsTold others → AllByRecursion HasNumbers others
      → map told_words some ≡ map told_words others → known some ≡ known others
  same_lines [] [] is js numbers e = refl
  same_lines [] (b ∷ others) is js numbers e = absurd cc
  same_lines (a ∷ some) [] is js numbers e = absurd cc
  same_lines (a ∷ some) (b ∷ others) is js numbers e =
      let first : told_words a ≡ told_words b = cc in
      let behind : map told_words some ≡ map told_words others = cc in
      ap (λ (o : Option Line). cons_option o (known some)) (same_known differ a b is.0 js.0 numbers.0 first)
      ∙ ap (λ (more : List Line). cons_option (known_in b) more) (same_lines some others is.1 js.1 numbers.1 behind)

  pub told_reads : ToldReadsBack
  told_reads some others rest end is js numbers hr he e =
      let both : (map told_words some ≡ map told_words others) × (rest ≡ end) =
      words_read (map told_words some) (map told_words others) rest end (can_be some is) (can_be others js) hr he
      (ap (λ (octets : List ℕ). octets ++ rest) (sym (by_words some)) ∙ e ∙ ap (λ (octets : List ℕ). octets ++ end) (by_words others)) in
      record { words = both.0; lines = same_lines some others is js numbers both.0; behind = both.1 }

  pub told_alike : ToldLinesAlike
  told_alike a b ia ib is e =
      let both : ((told_words a ∷ []) ≡ (told_words b ∷ [])) × ([] ≡ []) =
      words_read (told_words a ∷ []) (told_words b ∷ []) [] [] (can_be_line a ia, tt) (can_be_line b ib, tt) nothing nothing
      (sym (ap (λ (octets : List ℕ). octets ++ []) (by_words (a ∷ []))) ∙ ap (λ (octets : List ℕ). (octets ++ []) ++ []) e
      ∙ ap (λ (octets : List ℕ). octets ++ []) (by_words (b ∷ []))) in
      let words : told_words a ≡ told_words b = cc in
      record { words = words; line = same_known differ a b ia ib is words }
    where
      nothing : HasNoLineFeed []
      nothing = λ k d low. absurd (omega (arith, low))

  -- the lines that a front of a text spells are a front of its lines
  front_of : (some others : List Told) (rest behind : List ℕ) → AllByRecursion IsTold some → AllByRecursion IsTold others
      → AllByRecursion HasNumbers others → HasNoLineFeed rest → text some ++ rest ≡ text others ++ behind
      → (more : List Line) × (known some ≡ known others ++ more)
  unfolding spelled
  front_of [] [] rest behind is js numbers none e = ([], refl)
  front_of [] (b ∷ others) rest behind is js numbers none e =
      absurd (no_line rest (text others ++ behind) (told_words b) (can_be_line b js.0) none (e ∙ append_assoc (spelled b) (text others) behind))
  front_of (a ∷ some) [] rest behind is js numbers none e = (known (a ∷ some), refl)
  front_of (a ∷ some) (b ∷ others) rest behind is js numbers none e =
      let one : (told_words a ≡ told_words b) × (text some ++ rest ≡ text others ++ behind) =
      first_lines (told_words a) (told_words b) (text some ++ rest) (text others ++ behind) (can_be_line a is.0) (can_be_line b js.0)
      (sym (append_assoc (spelled a) (text some) rest) ∙ e ∙ append_assoc (spelled b) (text others) behind) in
      let more : (back : List Line) × (known some ≡ known others ++ back) = front_of some others rest behind is.1 js.1 numbers.1 none one.1 in (
        more.0,
        ap (λ (o : Option Line). cons_option o (known some)) (same_known differ a b is.0 js.0 numbers.0 one.0)
            ∙ ap (λ (ls : List Line). cons_option (known_in b) ls) more.1 ∙ cons_append (known_in b) (known others) more.0,
      )

  pub read_lines_are_safe : ReadLinesAreSafe
  read_lines_are_safe some others rest behind is js numbers none e safe =
      let more : (back : List Line) × (known some ≡ known others ++ back) = front_of some others rest behind is js numbers none e in
      front_safe (known some) (known others) more.0 more.1 safe
