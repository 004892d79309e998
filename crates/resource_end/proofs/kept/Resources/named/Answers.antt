use Rattle.std.proofs.Common.{◌∙◌, Some, None, sym}
use Rattle.resource_end.specs.End.{Resource, is_named}
use Rattle.resource_end.specs.Inside.{resource_at}
use Rattle.resource_end.proofs.Named.{find_never, itself, named_alone, named_not, named_yes, other_index, other_service, other_slot}
use Rattle.resource_end.proofs.Numbered.{find_by, it_fails, it_passes, only_now}
use Rattle.resource_end.proofs.kept.Resources.named.Goals as goal
use Rattle.resource_end.proofs.kept.Resources.named.Goals.{then-key-service-via-then-key-service, then-key-service-via-else-key-service+then-key-ne0, then-key-service-via-else-key-service+else-key-ne0+then-key-ne0-2, in_default-via-in-Some+else-has_letter, in_default-via-in_default}

pub returns-then-key-service-clause-found : goal.returns-then-key-service-clause-found
returns-then-key-service-clause-found c = elim c.then-key-service.branch [
  | then-key-service-via-then-key-service w ↦ sym (find_never (is_named c.args.service c.args.key.now) (other_service c.args.service c.args.key.now w.if-key-service.true) c.args.self.now)
  | then-key-service-via-else-key-service+then-key-ne0 w ↦ sym (find_never (is_named c.args.service c.args.key.now) (other_slot c.args.service c.args.key.now w.if-key-ne0.true) c.args.self.now)
  | then-key-service-via-else-key-service+else-key-ne0+then-key-ne0-2 w ↦ sym (find_never (is_named c.args.service c.args.key.now) (other_index c.args.service c.args.key.now w.if-key-ne0-2.true) c.args.self.now)
]

pub returns-in-Some-clause-found : goal.returns-in-Some-clause-found
returns-in-Some-clause-found c =
    let it : Resource = resource_at (c.args.key.now.life, c.args.key.now.generation) c.in-Some.kept.now in
    sym (find_by (is_named c.args.service c.args.key.now) (c.args.key.now.life, c.args.key.now.generation) c.self.inside.map.entries c.args.self.now c.self.view_is c.self.invariant.0
    (named_alone c.args.service c.args.key.now c.args.self.now) (Some c.in-Some.kept.now) c.in-Some.ensures.value
    ∙ it_passes (is_named c.args.service c.args.key.now) it
    (named_yes c.args.service c.args.key.now it c.if-key-service.false c.if-key-ne0.false c.if-key-ne0-2.false (itself (c.args.key.now.life, c.args.key.now.generation)) (sym c.if-has_letter.ensures)))

pub returns-in_default-clause-found : goal.returns-in_default-clause-found
returns-in_default-clause-found c = elim c.in_default.branch [
  | in_default-via-in-Some+else-has_letter w ↦
      let it : Resource = resource_at (c.args.key.now.life, c.args.key.now.generation) w.in-Some.kept.now in
      sym (find_by (is_named c.args.service c.args.key.now) (c.args.key.now.life, c.args.key.now.generation) c.self.inside.map.entries c.args.self.now c.self.view_is c.self.invariant.0
      (named_alone c.args.service c.args.key.now c.args.self.now) (Some w.in-Some.kept.now) w.in-Some.ensures.value
      ∙ it_fails (is_named c.args.service c.args.key.now) it (named_not c.args.service c.args.key.now it (sym w.if-has_letter.ensures)))
  | in_default-via-in_default w ↦
      sym (find_by (is_named c.args.service c.args.key.now) (c.args.key.now.life, c.args.key.now.generation) c.self.inside.map.entries c.args.self.now c.self.view_is c.self.invariant.0
      (named_alone c.args.service c.args.key.now c.args.self.now) None w.in_default.ensures.value)
]

pub returns-then-key-service-clause-apart : goal.returns-then-key-service-clause-apart
returns-then-key-service-clause-apart c test id alone = only_now test id c.self.inside.map.entries c.args.self.now c.self.view_is c.self.invariant.0 alone

pub returns-in-Some-clause-apart : goal.returns-in-Some-clause-apart
returns-in-Some-clause-apart c test id alone = only_now test id c.self.inside.map.entries c.args.self.now c.self.view_is c.self.invariant.0 alone

pub returns-in_default-clause-apart : goal.returns-in_default-clause-apart
returns-in_default-clause-apart c test id alone = only_now test id c.self.inside.map.entries c.args.self.now c.self.view_is c.self.invariant.0 alone
