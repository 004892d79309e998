use Rattle.ots_world.proofs.ScriptLemmas.{words_at_space, words_without_space}
use Rattle.ots_world.proofs.script.words.first_word.Goals as goal

pub returns-in-Some : goal.returns-in-Some
returns-in-Some c = words_at_space _ _ cc

pub returns-in-None : goal.returns-in-None
returns-in-None c = words_without_space _ cc
