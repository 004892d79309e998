use Rattle.family_step.proofs.References.{not_refused}
use Rattle.family_step.proofs.family.context.reference.Goals as goal

pub returns-in-Err-clause-memory : goal.returns-in-Err-clause-memory
returns-in-Err-clause-memory c =
    not_refused c.args.type_id.now c.args.at.now c.args.key.now c.requires.few c.requires.plain c.requires.short c.requires.text
