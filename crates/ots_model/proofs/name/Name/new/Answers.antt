use Rattle.ots_model.proofs.NameLemmas.{padded_is_padded}
use Rattle.ots_model.proofs.name.Name.new.Goals as goal

pub invariant_of-result : goal.invariant_of-result
invariant_of-result c = padded_is_padded _ _ (c.is_name.ensures.0 c.if-not-is_name.false) c.copy_from_slice.ensures.after
