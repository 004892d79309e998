use Rattle.std.proofs.Common.{◌≡◌, ◌∙◌, Option, Some, None, List, ℕ, ap, sym, subst}
use Rattle.std.specs.Prelude.{IfSome}
use Rattle.std.specs.BTreeMap.{IsOrdered}
use Rattle.std.specs.Option.{option_map}
use Rattle.resource_end.specs.States.{is_unfinished}
use Rattle.resource_end.specs.End.{Resource}
use Rattle.resource_end.specs.Calls.{bound}
use Rattle.resource_end.specs.Inside.{id_cmp, numbered, unfinished_ids}
use Rattle.resource_end.proofs.Counted.{after_set, ids_set_same, it_is, of_none}
use Rattle.resource_end.proofs.kept.Resources.bind.Goals as goal
use Rattle.resource_end.proofs.kept.Resources.bind.Goals.{in-Some, in-None}

pub invariant_of-self : goal.invariant_of-self
invariant_of-self c = elim c.match-get_mut.branch [
  | in-Some w ↦
      let held = c.get_mut.follows.holds w.bind.new.self in (
        subst (λ s. IsOrdered id_cmp s.map) (sym w.self-inside-is) held.4,
        ap (λ s. s.unfinished.keys) w.self-inside-is
            ∙ c.self.invariant.1
            ∙ sym (ids_set_same c.args.id w.bind.new.self w.in-Some.kept.now c.self.inside.map.entries (sym w.in-Some.ensures.value) (ap is_unfinished w.bind.ensures.state))
            ∙ ap unfinished_ids (sym held.0)
            ∙ ap (λ s. unfinished_ids s.map.entries) (sym w.self-inside-is),
      )
  | in-None w ↦ (
    subst (λ s. IsOrdered id_cmp s.map) (sym w.self-inside-is) (subst (IsOrdered id_cmp) (sym c.get_mut.follows.holds-at-none) c.self.invariant.0),
    ap (λ s. s.unfinished.keys) w.self-inside-is
        ∙ c.self.invariant.1
        ∙ ap (λ m. unfinished_ids m.entries) (sym c.get_mut.follows.holds-at-none)
        ∙ ap (λ s. unfinished_ids s.map.entries) (sym w.self-inside-is),
  )
]

pub returns-clause-after : goal.returns-clause-after
returns-clause-after c = elim c.match-get_mut.branch [
  | in-Some w ↦
      let held = c.get_mut.follows.holds w.bind.new.self in
      after_set c.args.id c.self.inside.map.entries c.args.self.now c.self.view_is c.self.invariant.0 w.bind.new.self w.in-Some.kept.now (sym w.in-Some.ensures.value)
      c.match-get_mut.self-inside.map.entries (ap (λ s. s.map.entries) w.self-inside-is ∙ held.0) (bound c.args.recovery) (w.bind.ensures.after c.args.id)
  | in-None w ↦ of_none c.args.id c.self.inside.map.entries c.args.self.now c.self.view_is c.self.invariant.0 (sym w.in-None.ensures.value) _
]

before_is : (o : Option (List ℕ)) (old : List ℕ) (result : Option (List ℕ)) → o ≡ Some old → IfSome result (λ before. before ≡ old) → IfSome result (λ before. o ≡ Some before)
before_is o old None is same = tt
before_is o old (Some before) is same = is ∙ ap Some (sym same)

pub returns-clause-before : goal.returns-clause-before
returns-clause-before c = elim c.match-get_mut.branch [
  | in-Some w ↦
      let is = it_is c.args.id c.self.inside.map.entries c.args.self.now c.self.view_is c.self.invariant.0 w.in-Some.kept.now (sym w.in-Some.ensures.value) in
      subst (λ (o : Option (List ℕ)). IfSome o (λ before. option_map (λ (r : Resource). r.recovery) (numbered c.args.id c.args.self.now) ≡ Some before)) (sym w.result-is)
      (before_is _ w.in-Some.kept.now.recovery w.bind.result (ap (option_map (λ (r : Resource). r.recovery)) is) w.bind.ensures.before)
  | in-None w ↦
      subst (λ (o : Option (List ℕ)). IfSome o (λ before. option_map (λ (r : Resource). r.recovery) (numbered c.args.id c.args.self.now) ≡ Some before)) (sym w.result-is) tt
]
