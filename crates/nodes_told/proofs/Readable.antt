-- The names of transactions are plain words, so answers can be read.
use Rattle.std.proofs.Common.{ℕ, suc, Bool, true, false, cond, List, [], ◌∷◌, ◌++◌, arith}
use Rattle.std.specs.Prelude.{ℤ, pos, negsuc}
use Rattle.std.specs.List.{AllByRecursion}
use Rattle.std.specs.Fmt.{signed_decimal}
use Rattle.otid_names.specs.Name.{dotted, foreign_words, own_words}
use Rattle.otid_names.specs.Otid.{OtidParts}
use Rattle.otid_names.specs.Own.{is_own, numbers_in}
use Rattle.otid_names.specs.declared.otid.OwnNumbers.{OwnNumbers}
use Rattle.coordinator.specs.Family.{Family}
use Rattle.coordinator.specs.Names.{name_of, otid_of}
use Rattle.nodes_told.specs.Reading.{IsPlain}
use Rattle.nodes_told.proofs.Numbers.{high_is_plain, number_is_plain}
use Rattle.nodes_told.proofs.ToldPlain.{hex_plain}

both_plain : (some more : List ℕ) → IsPlain some → IsPlain more → IsPlain (some ++ more)
both_plain [] more one other = other
both_plain (b ∷ some) more one other = (one.0, both_plain some more one.1 other)

-- plain words, parted by dots
dotted_plain : (words : List (List ℕ)) → AllByRecursion IsPlain words → IsPlain (dotted words)
dotted_plain [] is = tt
dotted_plain (w ∷ []) is = is.0
dotted_plain (w ∷ v ∷ words) is =
    both_plain w (46 ∷ dotted (v ∷ words)) is.0 (high_is_plain 46 (omega arith), dotted_plain (v ∷ words) is.1)

signed_plain : (z : ℤ) → IsPlain (signed_decimal z)
signed_plain (pos n) = number_is_plain n
signed_plain (negsuc n) = (high_is_plain 45 (omega arith), number_is_plain (suc n))

otid_plain : (own : Bool) (n : OwnNumbers) (o : OtidParts) → IsPlain (dotted (cond own (own_words n) (foreign_words o)))
otid_plain true n o =
    dotted_plain (own_words n)
    (number_is_plain n.service, (number_is_plain n.life, (number_is_plain n.generation, (number_is_plain n.branch, tt))))
otid_plain false n o = dotted_plain (foreign_words o) (signed_plain o.format, (hex_plain o.tid, tt))

pub name_plain : (f : Family) (b : ℕ) → IsPlain (name_of f b)
unfolding name_of
name_plain f b = otid_plain (is_own (otid_of f b)) (numbers_in (otid_of f b).tid) (otid_of f b)
