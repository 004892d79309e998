-- A call that the records answer makes of a node what the definition says of a call.
use Rattle.std.proofs.Common.{◌≡◌, ◌∙◌, ◌⊎◌, ℕ, inl, inr, Bool, true, false, cond, not, List, [], ◌∷◌, ◌++◌, Option, Some, None, Result, refl, sym, ap, subst}
use Rattle.std.proofs.lemmas.List.{append-nil}
use Rattle.std.specs.Prelude.{◌==◌}
use Rattle.ior_refs.specs.declared.key.ObjectKey.{ObjectKey}
use Rattle.ots_model.specs.declared.completion.CallNumber.{CallNumber}
use Rattle.ots_model.specs.declared.completion.Stood.{Stood}
use Rattle.ots_model.specs.declared.completion.Stood.TheVariants as answers
use Rattle.ots_model.specs.declared.tree.Heard.{Heard}
use Rattle.ots_model.specs.declared.tree.Outward.{Outward}
use Rattle.ots_outside.specs.Disk.{DiskState}
use Rattle.recovery_coord.specs.Held.{is_held, without}
use Rattle.recovery_coord.specs.Hearing.{completed, records_after}
use Rattle.recovery_coord.specs.declared.held.Held.{Held}
use Rattle.coordinator.specs.declared.event.Event.{Event}
use Rattle.coordinator.specs.declared.node.NodeFault.{NodeFault}
use Rattle.coordinator.specs.declared.node.NodeFault.TheVariants as faults
use Rattle.coordinator.specs.declared.said.Said.{Said}
use Rattle.coordinator.specs.declared.said.StepAnswer.{StepAnswer}
use Rattle.coordinator.specs.Family.{Family}
use Rattle.coordinator.specs.Node.{Node, life}
use Rattle.coordinator.specs.NodeCalls.{Applied, RetoldAnswer, answers_recovered, applied_by, applies, by_records, call_wants, family_for, hears_record, records_hear, records_want, records_with, refuses, replies, retold_answer, wanted_by}
use Rattle.coordinator.specs.Step.{Wanted}
use Rattle.family_step.specs.Asking.{IsAsked}
use Rattle.service_node.specs.Applying.{IsApplied, IsUnapplied, call_takes, let_go, released, takes_by}
use Rattle.service_node.specs.Journaling.{IsAnsweredOrStarved, completed_by, done_of, once_asked, records_take}
use Rattle.service_node.specs.NodeState.{NodeState}
use Rattle.service_node.proofs.Answered.{none_completed}

-- ---- no word goes out

record_quiet : (o : Option Said) (n : Node) → (replies o n).words ≡ []
record_quiet (Some answer) n = refl
record_quiet None n = refl

hears_quiet : (number : CallNumber) (h : Heard) (stood : Option Stood) (n : Node) → (hears_record number h stood n).words ≡ []
unfolding hears_record
hears_quiet number h stood n = by_test (is_held number.generation n.recovered)
  where
    by_test : (b : Bool) → (cond b (records_hear number h stood n) (refuses faults.ObjectNotExist n)).words ≡ []
    by_test true = refl
    by_test false = refl

quiet : (o : Option RetoldAnswer) (k : ObjectKey) (e : Event) (stood : Option Stood) (n : Node) → (by_records o k e stood n).words ≡ []
quiet (Some a) k e stood n = hears_quiet a.number a.heard stood n
quiet None k e stood n = record_quiet _ n

-- ---- what is let go is let go once

without_twice : (place : ℕ) (rs : List Held) → without place (without place rs) ≡ without place rs
without_twice place [] = refl
without_twice place (r ∷ rs) = by_test (r.place == place) refl (without_twice place rs)
  where
    kept : (r.place == place) ≡ false → without place (r ∷ without place rs) ≡ r ∷ without place (without place rs)
    kept e = ap (λ (b : Bool). cond (not b) (r ∷ without place (without place rs)) (without place (without place rs))) e

    by_test : (b : Bool) → (r.place == place) ≡ b → without place (without place rs) ≡ without place rs
        → without place (cond (not b) (r ∷ without place rs) (without place rs)) ≡ cond (not b) (r ∷ without place rs) (without place rs)
    by_test true e rest = rest
    by_test false e rest = kept e ∙ ap (λ (xs : List Held). r ∷ xs) rest

held_twice : (complete : Option ℕ) (stood : Option Stood) (rs : List Held) → let_go (done_of complete) stood (records_with complete stood rs) ≡ records_with complete stood rs
held_twice (Some place) (Some (answers.Stands at)) rs = without_twice place rs
held_twice (Some place) (Some (answers.Full used need)) rs = refl
held_twice (Some place) (Some (answers.Unsure why)) rs = refl
held_twice (Some place) None rs = refl
held_twice None stood rs = refl

refused_once : (complete : Option ℕ) (stood : Option Stood) (n : Node) → complete ≡ None → released (done_of complete) stood n ≡ n
refused_once complete stood n none = ap (λ (o : Option ℕ). released (done_of o) stood n) none

hears_once : (number : CallNumber) (h : Heard) (stood : Option Stood) (n : Node)
    → released (done_of (completed (life n) number h n.recovered)) stood (hears_record number h stood n).node ≡ (hears_record number h stood n).node
unfolding hears_record
hears_once number h stood n = by_test (is_held number.generation n.recovered) refl
  where
    complete : Option ℕ
    complete = completed (life n) number h n.recovered

    by_test : (b : Bool) → is_held number.generation n.recovered ≡ b
        → released (done_of complete) stood (cond b (records_hear number h stood n) (refuses faults.ObjectNotExist n)).node
        ≡ (cond b (records_hear number h stood n) (refuses faults.ObjectNotExist n)).node
    by_test true is = ap (λ (xs : List Held). record (records_hear number h stood n).node { recovered = xs }) (held_twice complete stood (records_after (life n) number h n.recovered))
    by_test false is = refused_once complete stood n (none_completed (life n) number h n.recovered is)

once : (o : Option RetoldAnswer) (k : ObjectKey) (e : Event) (stood : Option Stood) (n : Node)
    → released (done_of (completed_by o n)) stood (by_records o k e stood n).node ≡ (by_records o k e stood n).node
once (Some a) k e stood n = hears_once a.number a.heard stood n
once None k e stood n = refl

-- ---- the call is the definition's

records_ask : (o : Option RetoldAnswer) (n : Node) → records_want o n ≡ done_of (completed_by o n)
records_ask (Some a) n = refl
records_ask None n = refl

module _ {D : Type 0} (told : D → Option DiskState) (counts : D → ℕ) (k : ObjectKey) (e : Event) (before after : NodeState D) (said : Result StepAnswer NodeFault)
    (words more : List Outward) (wants : Bool) (none : family_for k e before.node ≡ None) where
  abbrev n : Node
  n = before.node

  abbrev complete : Option ℕ
  complete = completed_by (retold_answer e.act) n

  wants_it : call_wants k e n ≡ done_of complete
  unfolding call_wants
  wants_it = ap (λ (o : Option Family). wanted_by o e n) none ∙ records_ask (retold_answer e.act) n

  applies_it : (stood : Option Stood) → applies k e stood n ≡ by_records (retold_answer e.act) k e stood n
  unfolding applies answers_recovered
  applies_it stood = ap (λ (o : Option Family). applied_by o k e stood n) none

  answers_it : (stood : Option Stood) → answers_recovered k e stood n ≡ by_records (retold_answer e.act) k e stood n
  unfolding answers_recovered
  answers_it stood = refl

  takes_it : call_takes k e n ≡ records_take (retold_answer e.act) n
  takes_it = ap (λ (o : Option Family). takes_by o e n) none

  pub replied : IsAnsweredOrStarved wants told counts before after said (records_take (retold_answer e.act) n) complete (answers_recovered k e) → more ≡ words
      → IsApplied wants told counts k e before after said words more ⊎ IsUnapplied k e before after said words more
  replied (inr starved) quiet_too = inr (record { wanted = takes_it ∙ starved.wanted; same = starved.same; fault = starved.answer; unsaid = quiet_too })
  replied (inl a) quiet_too = inl (record {
    stood = a.stood;
    asked = subst (λ (o : Option Wanted). IsAsked told counts o before.journal after.journal a.stood) (sym wants_it) a.asked;
    caused = a.caused;
    node_is =
        a.node
        ∙ ap (λ (x : Applied). once_asked (done_of complete) before.journal.failed after.journal.found x.node) (answers_it a.stood)
        ∙ ap (λ (x : Node). once_asked (done_of complete) before.journal.failed after.journal.found x) (sym (once (retold_answer e.act) k e a.stood n))
        ∙ ap (λ (x : Applied). once_asked (done_of complete) before.journal.failed after.journal.found (released (done_of complete) a.stood x.node)) (sym (applies_it a.stood))
        ∙ ap (λ (o : Option Wanted). once_asked o before.journal.failed after.journal.found (released o a.stood (applies k e a.stood n).node)) (sym wants_it);
    answer_is = a.answer ∙ ap (λ (x : Applied). x.answer) (answers_it a.stood) ∙ sym (ap (λ (x : Applied). x.answer) (applies_it a.stood));
    words_are =
        quiet_too ∙ sym (append-nil words)
        ∙ ap (λ (ws : List Outward). words ++ ws) (sym (quiet (retold_answer e.act) k e a.stood n))
        ∙ ap (λ (x : Applied). words ++ x.words) (sym (applies_it a.stood));
  })
