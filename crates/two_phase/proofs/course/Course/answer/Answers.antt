use Rattle.std.proofs.Common.{arith, refl, ◌≡◌, ◌+◌, ◌<◌, suc, length, sum_by, slice_set, vec_len, Some, ap, subst, sym, ◌∙◌}
use Rattle.std.specs.List.{slice_get}
use Rattle.std.proofs.lemmas.Option.{slice_get_within}
use Rattle.std.specs.Vec.{with_items}
use Rattle.std.proofs.lemmas.List.{length-set, with_items_is}
use Rattle.ots_model.specs.declared.completion.CallNumber.{CallNumber}
use Rattle.two_phase.specs.Course.{heard_at, heard_by}
use Rattle.two_phase.specs.CourseInside.{IsOpen, IsAskedAt, if_out, longest, reach}
use Rattle.two_phase.specs.Parties.{answers}
use Rattle.two_phase.specs.StockInside.{AreRoomy}
use Rattle.two_phase.proofs.Answered.{opened, answered_more, heard_is, serial_fits}
use Rattle.two_phase.proofs.Consented.{heard_consented, heard_unasked}
use Rattle.two_phase.proofs.Told.{heard_told}
use Rattle.two_phase.proofs.Reach.{longest_set, heard_to, reach_of}
use Rattle.two_phase.proofs.course.Course.answer.Goals as goal

pub following-next-requires : goal.following-next-requires
following-next-requires c =
    serial_fits c.self.inside.number.serial c.self.inside.parties.items c.self.inside.overtaken (omega (arith, c.self.invariant.few)) c.self.invariant.serial

pub hear-requires : goal.hear-requires
hear-requires c =
    let ps = c.self.inside.parties.items in
    let unheard : IsOpen ps (Some c.in-Some.errand) = subst (IsOpen ps) c.in-Some.is c.self.invariant.unheard in
    let o = opened ps c.in-Some.errand (slice_get ps c.in-Some.errand.place) refl unheard in
    let within = slice_get_within ps c.in-Some.errand.place o.0 o.1 in
    record { there = subst (λ qs. c.in-Some.errand.place < length qs) (sym c.deref_mut.ensures.value) within }

pub invariant_of-self : goal.invariant_of-self
invariant_of-self c =
    let ps = c.self.inside.parties.items in
    let e = c.in-Some.errand in
    let unheard : IsOpen ps (Some e) = subst (IsOpen ps) c.in-Some.is c.self.invariant.unheard in
    let o = opened ps e (slice_get ps e.place) refl unheard in
    let after : c.hear.new.parties ≡ slice_set ps e.place (heard_at e.stage c.args.heard o.0) =
    c.hear.ensures ∙ ap (λ qs. heard_by qs e c.args.heard) c.deref_mut.ensures.value ∙ heard_is ps e c.args.heard o.0 o.1 in
    let sum : sum_by answers c.hear.new.parties ≡ suc (sum_by answers ps) = ap (λ qs. sum_by answers qs) after ∙ answered_more ps e c.args.heard o.0 o.1 o.2 in
    let len : length c.hear.new.parties ≡ length ps = ap (λ qs. length qs) after ∙ length-set ps e.place (heard_at e.stage c.args.heard o.0) in
    let vec = with_items c.self.inside.parties c.hear.new.parties in
    let kept : vec.items ≡ c.hear.new.parties = with_items_is c.self.inside.parties c.hear.new.parties (omega (arith, len)) in
    let total : sum_by answers vec.items ≡ suc (sum_by answers ps) = ap (λ qs. sum_by answers qs) kept ∙ sum in
    let size : vec_len vec ≡ vec_len c.self.inside.parties = omega arith in
    let out : if_out c.self.inside.out ≡ 1 = ap if_out c.in-Some.is in
    let number : c.following-next.result.serial ≡ c.self.inside.number.serial + 1 = ap (λ (n : CallNumber). n.serial) c.following-next.ensures in
    let long : longest vec.items ≡ longest ps =
    ap (λ qs. longest qs) (kept ∙ after) ∙ longest_set ps e.place o.0 (heard_at e.stage c.args.heard o.0) o.1 (heard_to e.stage c.args.heard o.0) in
    let reached : reach vec.items ≡ reach ps = reach_of vec.items ps long in
    let old = c.self.invariant in
    let asked_at : IsAskedAt (Some e) c.self.inside.consented = subst (λ x. IsAskedAt x c.self.inside.consented) c.in-Some.is old.asked_at in
    record {
      few = omega (arith, size, old.few);
      serial = omega (arith, number, total, old.serial);
      unheard = tt;
      blanks = λ some. let bound = old.blanks (omega (arith, some, size)) in omega (arith, bound, total, size, out);
      roomy = subst (λ n. AreRoomy n c.self.inside.blanks.items) (sym reached) old.roomy;
      consented = rw (kept, after) (heard_consented c.self.inside.consented ps e c.args.heard o.0 o.1 o.2 old.consented);
      unasked = rw (kept, after) (heard_unasked c.self.inside.consented ps e c.args.heard o.0 o.1 asked_at old.unasked);
      asked_at = tt;
      told = rw (c.told_past-self-inside.ensures, kept, after) (heard_told c.self.inside.told ps e c.args.heard o.0 o.1 old.told);
    }
