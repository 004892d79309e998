use Rattle.std.proofs.Common.{refl, get_or}
use Rattle.giop_frames.specs.declared.layout.Field.TheVariants as fields
use Rattle.giop_frames.proofs.Walking.{before_step, before_end, before_field, first_field, no_field}
use Rattle.giop_frames.proofs.walk.Walk.next_step.Goals as goal

pub returns-in-Some : goal.returns-in-Some
returns-in-Some c = before_step c.args.self.now c.in-Some.step c.in-Some.is

pub returns-in_default-fields : goal.returns-in_default-fields
returns-in_default-fields c = before_end c.args.self.now c.in_default.is (no_field c.args.self.now.fields.now c.in_default-fields.len_below)

pub returns : goal.returns
returns c =
    before_field c.args.self.now _ (get_or c.args.self.now.fields.now 0 fields.Id) c.in_default.is (first_field c.args.self.now.fields.now fields.Id c.in-len1-up.len_at_least) refl refl refl
