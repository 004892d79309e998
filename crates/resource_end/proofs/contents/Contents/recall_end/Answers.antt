use Rattle.std.proofs.Common.{◌≡◌, ◌∙◌, None, ap, sym, subst}
use Rattle.std.specs.Prelude.{find, IsSome}
use Rattle.resource_end.specs.States.{is_unfinished, state_of}
use Rattle.resource_end.specs.Recall.{is_recorded_at}
use Rattle.resource_end.specs.Inside.{AreRecorded, RecordedAlone, changed, ended, numbered, placed}
use Rattle.resource_end.proofs.Again.{all_may, changed_recorded, ends_over, own_recorded}
use Rattle.resource_end.proofs.Claims.{known}
use Rattle.resource_end.proofs.Told.{recorded_alone}
use Rattle.resource_end.proofs.contents.Contents.recall_end.Goals as goal

pub recorded-recorded-requires : goal.recorded-recorded-requires
recorded-recorded-requires c =
    subst (λ o. RecordedAlone c.args.place o c.self.inside.resources) (sym c.prepared_at.ensures)
    (recorded_alone c.args.standing.now c.args.place c.self.inside.resources
    (subst (λ s. AreRecorded c.args.standing.now s.resources) (sym c.self.view_is) c.requires.recorded))

pub change-requires : goal.change-requires
change-requires c = record {
  known = subst (λ s. IsSome (numbered c.in-Some.id s.resources)) c.self.view_is (subst IsSome c.in-Some.ensures.0 c.in-Some.ensures.1);
  follows = all_may c.of_end.result (numbered c.in-Some.id c.args.self.now.resources) (ap is_unfinished c.of_end.ensures ∙ ends_over c.args.end);
}

pub returns-in-Some : goal.returns-in-Some
returns-in-Some c =
    let found = subst (λ s. find (is_recorded_at c.args.place) s.resources ≡ numbered c.in-Some.id s.resources) c.self.view_is c.in-Some.ensures.0 in
    let there = subst (λ s. IsSome (numbered c.in-Some.id s.resources)) c.self.view_is (subst IsSome c.in-Some.ensures.0 c.in-Some.ensures.1) in
    let it = known (numbered c.in-Some.id c.args.self.now.resources) there
    (λ r. c.change.new.self ≡ changed c.of_end.result (placed c.of_end.result None r) c.args.self.now) c.change.ensures in
    record {
      after = it.1.1
          ∙ ap (λ s. changed s it.0 c.args.self.now) c.of_end.ensures
          ∙ ap (λ o. ended (state_of c.args.end) o c.args.self.now) (sym (found ∙ it.1.0));
      recorded = subst (λ s. AreRecorded c.args.standing.now s.resources) (sym it.1.1)
          (changed_recorded c.args.standing.now c.of_end.result it.0 c.args.self.now c.requires.recorded
          (own_recorded c.args.standing.now c.in-Some.id c.args.self.now.resources it.0 it.1.0 c.requires.recorded));
    }

pub returns-in_default : goal.returns-in_default
returns-in_default c = record {
  after = ap (λ o. ended (state_of c.args.end) o c.args.self.now)
      (sym (subst (λ s. find (is_recorded_at c.args.place) s.resources ≡ None) c.self.view_is c.in_default.ensures));
  recorded = c.requires.recorded;
}
