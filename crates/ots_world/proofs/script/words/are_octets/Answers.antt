use Rattle.std.proofs.Common.{inl, inr, arith, ◌∙◌}
use Rattle.ots_world.proofs.ImageLemmas.{digits_tell, others_tell}
use Rattle.ots_world.proofs.script.words.are_octets.Goals as goal
use Rattle.ots_world.proofs.script.words.are_octets.Goals.{then-word-eq1-via-then-word-eq1, then-word-eq1-via-else-word-eq1+then-octets-lt1, then-word-eq1-via-else-word-eq1+else-octets-lt1+then-octets-gt-IMAGE_LIMIT}

pub returns-then-word-eq1 : goal.returns-then-word-eq1
returns-then-word-eq1 c = others_tell c.args.word.now (elim c.then-word-eq1.branch [
  | then-word-eq1-via-then-word-eq1 w ↦ inl w.if-word-eq1.true
  | then-word-eq1-via-else-word-eq1+then-octets-lt1 w ↦ inr (inl w.if-octets-lt1.true)
  | then-word-eq1-via-else-word-eq1+else-octets-lt1+then-octets-gt-IMAGE_LIMIT w ↦ inr (inr w.if-octets-gt-IMAGE_LIMIT.true)
])

pub returns : goal.returns
returns c = c.are_digits.ensures ∙ digits_tell c.args.word.now (omega (arith, c.if-word-eq1.false)) c.if-octets-lt1.false c.if-octets-gt-IMAGE_LIMIT.false
