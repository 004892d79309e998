use Rattle.std.proofs.Common.{◌≡◌, ◌∙◌, Err, inl, inr, refl, sym, ap, Ok}
use Rattle.std.proofs.lemmas.Result.{err_from_is_err_and}
use Rattle.ior_refs.specs.declared.key.ObjectKey.{ObjectKey}
use Rattle.coordinator.specs.declared.node.NodeFault.{NodeFault}
use Rattle.coordinator.specs.Family.{Family, FamilyParts, new_family}
use Rattle.coordinator.specs.NodeSlots.{Created, creates, deadline_after, with_new}
use Rattle.service_node.proofs.Free.{grants, made}
use Rattle.service_node.proofs.node.Node.create.Goals as goal

pub returns-in-None : goal.returns-in-None
unfolding creates
returns-in-None g c =
    let none = c.in-None.ensures.none refl _ in
    inl (record {
      node = sym (ap (λ (x : Created). x.node) none);
      answer = sym (ap (λ (x : Created). x.answer) none);
      journal = refl;
    })

pub returns : goal.returns
unfolding creates
returns g c =
    let n = c.args.self.now.node in
    let make : ObjectKey → Family = λ key. new_family key (deadline_after c.args.now c.args.seconds) in
    let all = made n make c.in-Some.slot c.in-Some.ensures.some.0 c.in-Some.ensures.some.2 in
    let family : c.in_ok-family.family.family ≡ make c.next_key-key.result =
    ap (λ (p : FamilyParts). p.family) c.in_ok-family.ensures.made ∙ ap (new_family c.next_key-key.result) c.deadline_after.ensures in
    inl (record {
      node = c.in_ok-begin.ensures.ok
          ∙ ap (λ (f : Family). with_new (λ (key : ObjectKey). f) c.in-Some.slot n) (family ∙ ap make c.next_key-key.ensures)
          ∙ sym (ap (λ (x : Created). x.node) all);
      answer = ap Ok c.next_key-key.ensures ∙ sym (ap (λ (x : Created). x.answer) all);
      journal = c.begin.ensures.journal;
    })

pub returns-in_err-family : goal.returns-in_err-family
unfolding creates
returns-in_err-family g c =
    let gone = err_from_is_err_and c.from_residual.result c.from_residual.ensures.1 in
    inr (record {
      granted = grants c.args.self.now.node (λ key. new_family key (deadline_after c.args.now c.args.seconds)) c.in-Some.slot
          c.in-Some.ensures.some.0 c.in-Some.ensures.some.2;
      same = refl;
      answer = gone.1 ∙ ap (λ (fault : NodeFault). Err fault) gone.2;
    })

pub returns-in_err-begin : goal.returns-in_err-begin
unfolding creates
returns-in_err-begin g c =
    let gone = err_from_is_err_and c.from_residual-in_err-begin.result c.from_residual-in_err-begin.ensures.1 in
    inr (record {
      granted = grants c.args.self.now.node (λ key. new_family key (deadline_after c.args.now c.args.seconds)) c.in-Some.slot
          c.in-Some.ensures.some.0 c.in-Some.ensures.some.2;
      same = c.in_err-begin.ensures.err.0;
      answer = gone.1 ∙ ap (λ (fault : NodeFault). Err fault) (gone.2 ∙ c.in_err-begin.ensures.err.1);
    })
