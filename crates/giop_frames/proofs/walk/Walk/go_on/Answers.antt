use Rattle.std.proofs.Common.{◌≡◌, ◌∙◌, ℕ, ap, refl, sym, subst, None, Some, arith}
use Rattle.std.proofs.lemmas.Result.{err_from_is_err_and}
use Rattle.cdr_values.specs.Reading.{Reading}
use Rattle.giop_frames.specs.Walk.{IsDone, IsNear, standing}
use Rattle.giop_frames.proofs.Walking.{all_walked, stands, step_fails, walked_before, walked_behind}
use Rattle.giop_frames.proofs.Near.{far_done, far_stuck}
use Rattle.giop_frames.proofs.walk.Walk.go_on.Goals as goal

pub returns-in_err-self-clause-fault : goal.returns-in_err-self-clause-fault
returns-in_err-self-clause-fault c =
    let content = c.args.content.now in
    let i = c.fields.invariant in
    let b = c.in-Some.ensures in
    let w = c.next_step.new.self in
    let walked = walked_before c.args.header content c.fields.self w (Some c.in-Some.step) i.walked b in
    let stood : c.fields.reader ≡ standing c.args.header.order content w.place = i.stands ∙ ap (standing c.args.header.order content) (sym b.place) in
    let p = err_from_is_err_and c.from_residual.result c.from_residual.ensures.1 in
    rw (p.1, p.2) (step_fails c.args.header content w c.in-Some.step c.fields.reader c.in_err-self.field-0.0 walked b.step stood c.in_err-self.ensures.0)

pub fields-preserved : goal.fields-preserved
fields-preserved c =
    let content = c.args.content.now in
    let i = c.fields.invariant in
    let b = c.in-Some.ensures in
    let w = c.next_step.new.self in
    let g = c.in_ok-self.ensures in
    let walked = walked_before c.args.header content c.fields.self w (Some c.in-Some.step) i.walked b in
    let stood : c.fields.reader ≡ standing c.args.header.order content w.place = i.stands ∙ ap (standing c.args.header.order content) (sym b.place) in
    record {
      walked = walked_behind c.args.header content w _ c.in-Some.step c.fields.reader c.make_step.new.reader walked b.step stood g c.place-self.ensures refl;
      forward = omega (arith, i.forward, b.place, ap (λ (x : Reading). x.place) stood, g.behind.place, c.place-self.ensures);
      stands = stands c.args.header.order content w.place c.fields.reader c.make_step.new.reader walked.behind_header stood g.behind ∙ ap (standing c.args.header.order content) (sym c.place-self.ensures);
    }

pub returns-in_err-self-clause-far : goal.returns-in_err-self-clause-far
returns-in_err-self-clause-far c =
    let content = c.args.content.now in
    let i = c.fields.invariant in
    let b = c.in-Some.ensures in
    let w = c.next_step.new.self in
    let fault = c.in_err-self.field-0.0 in
    let walked = walked_before c.args.header content c.fields.self w (Some c.in-Some.step) i.walked b in
    let stood : c.fields.reader ≡ standing c.args.header.order content w.place = i.stands ∙ ap (standing c.args.header.order content) (sym b.place) in
    let fails = step_fails c.args.header content w c.in-Some.step c.fields.reader fault walked b.step stood c.in_err-self.ensures.0 in
    far_stuck c.args.header content (record w { found = c.make_step.new.found }) fault fails (subst (λ (n : ℕ). IsNear n fault) (ap (λ (x : Reading). x.place) stood) c.in_err-self.ensures.2)

pub returns-in_err-self-clause-forward : goal.returns-in_err-self-clause-forward
returns-in_err-self-clause-forward c = omega (arith, c.fields.invariant.forward, c.in-Some.ensures.place)

pub returns-clause-far : goal.returns-clause-far
returns-clause-far c =
    let w = c.next_step.new.self in
    let b = c.in_default.ensures in
    far_done c.args.header c.args.content.now w (walked_before c.args.header c.args.content.now c.fields.self w None c.fields.invariant.walked b) (record { step = b.step; fields = b.ended refl })

pub returns-clause-forward : goal.returns-clause-forward
returns-clause-forward c = omega (arith, c.fields.invariant.forward, c.in_default.ensures.place)

pub overflow_sub-start : goal.overflow_sub-start
overflow_sub-start c = omega (arith, c.requires.walked.behind_header)

pub make_step-requires : goal.make_step-requires
make_step-requires c = rw c.in-Some.ensures.step at (c.in-Some.ensures.room c.fields.invariant.walked.room)

pub returns-in_err-self-clause-walked : goal.returns-in_err-self-clause-walked
returns-in_err-self-clause-walked c =
    let walked = walked_before c.args.header c.args.content.now c.fields.self c.next_step.new.self (Some c.in-Some.step) c.fields.invariant.walked c.in-Some.ensures in
    rw c.in_err-self.ensures.1 walked

pub returns-in_err-self-clause-done : goal.returns-in_err-self-clause-done
returns-in_err-self-clause-done c =
    let p = err_from_is_err_and c.from_residual.result c.from_residual.ensures.1 in
    rw p.1 tt

pub returns-clause-walked : goal.returns-clause-walked
returns-clause-walked c = walked_before c.args.header c.args.content.now c.fields.self c.next_step.new.self None c.fields.invariant.walked c.in_default.ensures

pub returns-clause-done : goal.returns-clause-done
returns-clause-done c = record { step = c.in_default.ensures.step; fields = c.in_default.ensures.ended refl }

pub returns-in_err-self-clause-whole : goal.returns-in_err-self-clause-whole
returns-in_err-self-clause-whole c =
    let p = err_from_is_err_and c.from_residual.result c.from_residual.ensures.1 in
    rw p.1 tt

pub returns-clause-whole : goal.returns-clause-whole
returns-clause-whole c =
    let walked = walked_before c.args.header c.args.content.now c.fields.self c.next_step.new.self None c.fields.invariant.walked c.in_default.ensures in
    let done : IsDone c.next_step.new.self = record { step = c.in_default.ensures.step; fields = c.in_default.ensures.ended refl } in
    rw (all_walked c.args.header c.args.content.now c.next_step.new.self walked done) refl

pub returns-clause-fault : goal.returns-clause-fault
returns-clause-fault c = tt
