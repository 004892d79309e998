use Rattle.std.proofs.Common.{◌∙◌, ◌≤◌, List, map, Result, Ok, Err, ap, sym, subst}
use Rattle.std.specs.Result.{IfOk}
use Rattle.decision_journal.specs.declared.record.Registration.{Registration as Recorded}
use Rattle.resource_votes.specs.History.{times}
use Rattle.resource_votes.specs.declared.registration.Registration.{Registration}
use Rattle.family_rules.specs.Recording.{recorded}
use Rattle.family_rules.proofs.Kept.{each_once}
use Rattle.family_rules.proofs.state.State.copy_participants.Goals as goal

where_ok : {A E : Type 0} {P Q : A → Type 0} (r : Result A E) → ((x : A) → P x → Q x) → IfOk r P → IfOk r Q
where_ok (Ok x) f p = f x p
where_ok (Err e) f p = tt

pub returns-clause-once : goal.returns-clause-once
returns-clause-once c =
    where_ok c.copy_all.result (λ copies same i.
    subst (λ (xs : List Recorded). times i (map (λ (x : Recorded). x.index) xs) ≤ 1)
    (sym (same ∙ ap (λ (rs : List Registration). map recorded rs) c.participants.ensures.participants))
    (each_once c.self.inside.votes.ballots c.self.invariant.order c.self.invariant.once i)) c.copy_all.ensures.copies
