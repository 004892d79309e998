use Rattle.std.proofs.Common.{append_assoc}
use Rattle.std.proofs.lemmas.Result.{IfOk-equal}
use Rattle.ots_program.proofs.MessageLineLemmas.{first_and_others}
use Rattle.ots_program.proofs.message_line.write_contexts.Goals as goal

-- The first id, and the others behind it, are the word of the contexts.
pub returns-in_ok-write_field-in-len1-up-clause-ok :
    goal.returns-in_ok-write_field-in-len1-up-clause-ok
returns-in_ok-write_field-in-len1-up-clause-ok c =
    let word = first_and_others c.args.contexts.now c.first-item.result c.in-len1-up.len_at_least c.first-item.is in
    IfOk-equal c.write_other_ids.result _ _ _ c.write_other_ids.ensures.ok
    (rw (c.in_ok-write_field-in-len1-up.ensures.ok, c.from.ensures, word) (simp append_assoc))
