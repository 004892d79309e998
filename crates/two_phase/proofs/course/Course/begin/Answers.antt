use Rattle.std.proofs.Common.{rules, arith, refl, ◌≡◌, ap}
use Rattle.two_phase.specs.Stages.{Room}
use Rattle.two_phase.proofs.Consented.{entered_length, entered_unasked}
use Rattle.two_phase.proofs.Reach.{entered_roomy, less_roomy}
use Rattle.two_phase.proofs.course.Course.begin.Goals as goal

pub enter-requires-clause-roomy : goal.enter-requires-clause-roomy
enter-requires-clause-roomy c =
    let octets : c.stock.inside.octets ≡ c.args.stock.octets = ap (λ (r : Room). r.octets) c.stock.view_is in
    let fits = c.requires.fits in
    less_roomy _ _ _ (omega (arith, fits, octets)) c.stock.invariant.roomy

pub invariant_of-result : goal.invariant_of-result
invariant_of-result c =
    let none = c.stock.invariant.parties_empty in
    let many = entered_length _ _ _ c.enter.ensures.parties none in
    let size : c.stock.inside.size ≡ c.args.stock.places = ap (λ (r : Room). r.places) c.stock.view_is in
    record {
      few = omega (arith, many, c.requires.few);
      serial = search rules;
      unheard = tt;
      blanks = λ some.
          let room = c.stock.invariant.blanks (omega (arith, some, many, c.requires.room, size)) in
          omega (arith, room, many, c.requires.room, size, c.enter.ensures.blanks);
      roomy = entered_roomy _ _ _ _ c.enter.ensures.parties none c.enter.ensures.roomy;
      consented = refl;
      unasked = entered_unasked _ _ _ c.enter.ensures.parties none;
      asked_at = tt;
      told = refl;
    }
