use Rattle.std.proofs.Common.{◌≡◌, ◌∙◌, Some, refl, ap, sym, subst}
use Rattle.std.specs.Prelude.{IfSome, IsSome}
use Rattle.resource_end.specs.declared.state.State.TheVariants as states
use Rattle.resource_end.specs.Calls.{bound}
use Rattle.resource_end.specs.End.{Resource, with_resource}
use Rattle.resource_end.specs.Inside.{IsUnrecorded, MayFollow, changed, numbered, placed, with_record_of}
use Rattle.resource_end.proofs.Again.{bound_there, if_there, now_bound, prepared_again, working_may}
use Rattle.resource_end.proofs.Claims.{at_known, known}
use Rattle.resource_end.proofs.contents.Contents.recall_prepared.Goals as goal

pub change-requires : goal.change-requires
change-requires c =
    let it = known (numbered c.args.id c.args.self.now.resources) c.requires.known IsUnrecorded c.requires.works in
    let after = at_known (numbered c.args.id c.args.self.now.resources) it.0
    (λ r. c.bind.new.self ≡ record c.args.self.now { resources = with_resource (bound c.args.recovery r) c.args.self.now.resources }) it.1.0 c.bind.ensures.after in
    let there = ap (λ s. numbered c.args.id s.resources) after ∙ bound_there c.args.id c.args.self.now.resources it.0 c.args.recovery it.1.0 it.1.1.unrecorded in
    record {
      known = subst IsSome (sym there) refl;
      follows = subst (λ o. IfSome o (λ r. MayFollow states.Prepared r.state)) (sym there)
          (working_may (bound c.args.recovery it.0).state (ap (λ (x : Resource). x.state) (now_bound c.args.recovery it.0 it.1.1.unrecorded) ∙ it.1.1.works));
    }

pub returns : goal.returns
returns c =
    let it = known (numbered c.args.id c.args.self.now.resources) c.requires.known IsUnrecorded c.requires.works in
    let after = at_known (numbered c.args.id c.args.self.now.resources) it.0
    (λ r. c.bind.new.self ≡ record c.args.self.now { resources = with_resource (bound c.args.recovery r) c.args.self.now.resources }) it.1.0 c.bind.ensures.after in
    let there = ap (λ s. numbered c.args.id s.resources) after ∙ bound_there c.args.id c.args.self.now.resources it.0 c.args.recovery it.1.0 it.1.1.unrecorded in
    let then = at_known (numbered c.args.id c.bind.new.self.resources) (bound c.args.recovery it.0)
    (λ r. c.change.new.self ≡ changed states.Prepared (placed states.Prepared (Some c.args.place) r) c.bind.new.self) there c.change.ensures in
    if_there (numbered c.args.id c.args.self.now.resources) it.0 (λ r. c.change.new.self ≡ changed states.Prepared (with_record_of c.args.recovery c.args.place r) c.args.self.now) it.1.0
    (prepared_again c.args.recovery c.args.place it.0 c.args.self.now c.bind.new.self c.change.new.self it.1.1.unrecorded after then)
