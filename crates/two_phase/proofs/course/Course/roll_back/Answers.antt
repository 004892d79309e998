use Rattle.std.proofs.Common.{rules, arith, ◌≡◌, ◌≤◌, true, Some, None, ap, ◌∙◌, Option}
use Rattle.ots_model.specs.declared.completion.CallNumber.{CallNumber}
use Rattle.two_phase.specs.Course.{Course, may_roll_back, overtaken_number}
use Rattle.two_phase.specs.CourseInside.{if_out, if_overtaken}
use Rattle.two_phase.specs.declared.party.Errand.{Errand}
use Rattle.two_phase.proofs.Overtaken.{not_overtaken, number_less}
use Rattle.two_phase.proofs.course.Course.roll_back.Goals as goal

one_out : (o : Option Errand) → if_out o ≤ 1
one_out None = omega arith
one_out (Some e) = omega arith

pub invariant_of-self : goal.invariant_of-self
invariant_of-self c =
    let now = c.args.self.now in
    let may : may_roll_back now ≡ true = search rules in
    let none : if_overtaken c.self.inside.overtaken ≡ 0 = ap (λ (v : Course). if_overtaken v.overtaken) c.self.view_is ∙ ap if_overtaken (not_overtaken now may) in
    let before : c.self.inside.number.serial ≡ now.number.serial = ap (λ (v : Course). v.number.serial) c.self.view_is in
    let number : c.overtaken_number-number.result.serial ≡ (overtaken_number now).serial = ap (λ (n : CallNumber). n.serial) c.overtaken_number-number.ensures in
    let less = number_less now in
    let out = one_out c.self.inside.out in
    let old = c.self.invariant in
    record {
      few = old.few;
      serial = omega (arith, number, less, before, none, old.serial);
      unheard = tt;
      blanks = λ some. let bound = old.blanks some in omega (arith, bound, none, out);
      roomy = old.roomy;
      consented = old.consented;
      unasked = old.unasked;
      asked_at = tt;
      told = old.told;
    }
