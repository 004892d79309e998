use Rattle.std.proofs.Common.{◌∙◌, ap, subst, sym}
use Rattle.resource_end.specs.States.{is_unfinished}
use Rattle.end_room.specs.Own.{Keeps, OwnState}
use Rattle.end_room.proofs.Keeping.{dropped, stay_so}
use Rattle.end_room.proofs.own_end.OwnEnd.tidy.Goals as goal
use Rattle.end_room.proofs.own_end.OwnEnd.tidy.Goals.{in-Some-get+else-is_unfinished, in_default-get}

pub returns-clause-names : goal.returns-clause-names
returns-clause-names g c =
    subst (λ (before : OwnState g.row.D.Denot). Keeps before.end.end before.names c.match-get-2.self-inside.given) c.self.view_is
    (elim c.match-get-2.branch [
      | in-Some-get+else-is_unfinished w ↦
          subst (λ after. Keeps c.self.inside.end.end c.self.inside.given after) (sym (ap (λ o. o.given) w.self-inside-is))
          (dropped c.self.inside.end.end c.self.inside.given w.remove.new.self c.as_slice-tid.result.now w.in-Some-get.enlisted
          (sym w.in-Some-get.ensures) (ap is_unfinished (sym w.state.ensures) ∙ sym w.is_unfinished.ensures ∙ w.if-is_unfinished.false) w.remove.ensures.own w.remove.ensures.others)
      | in_default-get w ↦ stay_so c.self.inside.end.end c.self.inside.given c.match-get-2.self-inside.given (ap (λ o. o.given) w.self-inside-is)
    ])
