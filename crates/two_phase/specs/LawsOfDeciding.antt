-- When a decision begins to be wanted, in every completion of a tree (our profile).
use Rattle.std.specs.Prelude.{◌≡◌, true, false}
use Rattle.two_phase.specs.Course.{Course, wants_decision, is_last_asked}
use Rattle.two_phase.specs.LawsOfReached.{TreeBecomes}

-- a decision begins to be wanted only while the word that is out is the last that asks
abbrev pub LastAnswerDecides : Type 0
LastAnswerDecides = (c later : Course) → TreeBecomes c later → wants_decision c ≡ false → wants_decision later ≡ true → is_last_asked c ≡ true
