use Rattle.std.proofs.Common.{rules, arith, refl, ◌≡◌, ◌<◌, ◌≤◌, ◌++◌, ◌∷◌, [], suc, length, vec_len, Some, ap, subst, sym, ◌∙◌}
use Rattle.std.specs.List.{slice_get}
use Rattle.std.specs.Option.{option_to_list}
use Rattle.std.proofs.lemmas.Option.{slice_get_within, get_or_from_slice_get}
use Rattle.two_phase.specs.Course.{Course}
use Rattle.two_phase.specs.CourseInside.{IsOpen, ConsentedBefore, if_out, reach}
use Rattle.two_phase.specs.StockInside.{AreRoomy}
use Rattle.two_phase.specs.declared.party.Party.{Party}
use Rattle.two_phase.proofs.Answered.{answered_less, opened, overtaken_few}
use Rattle.two_phase.proofs.Consented.{passed_consented, passed_unasked, passed_at}
use Rattle.two_phase.proofs.Reach.{last_roomy, longest_at, rest_roomy}
use Rattle.two_phase.proofs.course.Course.send.Goals as goal

pub unwrap-blank-requires : goal.unwrap-blank-requires
unwrap-blank-requires c =
    let same : c.self.inside.parties.items ≡ c.args.self.now.parties = ap (λ (v : Course). v.parties) c.self.view_is in
    let idle : c.self.inside.out ≡ c.args.self.now.out = ap (λ (v : Course). v.out) c.self.view_is in
    let none : if_out c.self.inside.out ≡ 0 = ap if_out (idle ∙ c.requires.idle) in
    let unheard : IsOpen c.self.inside.parties.items (Some c.args.errand) = subst (λ ps. IsOpen ps (Some c.args.errand)) (sym same) c.requires.unheard in
    let less = answered_less c.self.inside.parties.items c.args.errand unheard in
    let over = overtaken_few c.self.inside.overtaken in
    let bound = c.self.invariant.blanks (omega (arith, less)) in
    let some : 0 < vec_len c.self.inside.blanks = omega (arith, bound, less, none, over) in
    search rules

pub index-party-requires : goal.index-party-requires
index-party-requires c =
    let same : c.self.inside.parties.items ≡ c.args.self.now.parties = ap (λ (v : Course). v.parties) c.self.view_is in
    let unheard : IsOpen c.self.inside.parties.items (Some c.args.errand) = subst (λ ps. IsOpen ps (Some c.args.errand)) (sym same) c.requires.unheard in
    let o = opened c.self.inside.parties.items c.args.errand (slice_get c.self.inside.parties.items c.args.errand.place) refl unheard in
    let within = slice_get_within c.self.inside.parties.items c.args.errand.place o.0 o.1 in
    omega (arith, within)

pub filled-requires : goal.filled-requires
filled-requires c =
    let ps = c.self.inside.parties.items in
    let x = c.unwrap-blank.result in
    let same : ps ≡ c.args.self.now.parties = ap (λ (v : Course). v.parties) c.self.view_is in
    let unheard : IsOpen ps (Some c.args.errand) = subst (λ qs. IsOpen qs (Some c.args.errand)) (sym same) c.requires.unheard in
    let o = opened ps c.args.errand (slice_get ps c.args.errand.place) refl unheard in
    let party : c.index-party.result.now ≡ o.0 = c.index-party.ensures ∙ get_or_from_slice_get ps c.args.errand.place o.0 c.index-party.result.now o.1 in
    let to : length c.index-party.result.now.to ≡ length o.0.to = ap (λ (p : Party). length p.to) party in
    let long = longest_at ps c.args.errand.place o.0 o.1 in
    let items : c.self.inside.blanks.items ≡ c.pop.new.self.items ++ x ∷ [] =
    c.pop.ensures.items ∙ ap (λ o. c.pop.new.self.items ++ option_to_list o) c.unwrap-blank.ensures in
    let room : reach ps ≤ x = last_roomy (reach ps) x c.pop.new.self.items (subst (λ bs. AreRoomy (reach ps) bs) items c.self.invariant.roomy) in
    omega (arith, to, long, room)

pub returns-clause-word : goal.returns-clause-word
returns-clause-word c =
    let same : c.self.inside.parties.items ≡ c.args.self.now.parties = ap (λ (v : Course). v.parties) c.self.view_is in
    let number : c.self.inside.number ≡ c.args.self.now.number = ap (λ (v : Course). v.number) c.self.view_is in
    let o = opened c.args.self.now.parties c.args.errand (slice_get c.args.self.now.parties c.args.errand.place) refl c.requires.unheard in
    let there : slice_get c.self.inside.parties.items c.args.errand.place ≡ Some o.0 = ap (λ ps. slice_get ps c.args.errand.place) same ∙ o.1 in
    let party : c.index-party.result.now ≡ o.0 =
    c.index-party.ensures ∙ get_or_from_slice_get c.self.inside.parties.items c.args.errand.place o.0 c.index-party.result.now there in
    rw (o.1, c.receipt_of.ensures, c.record_place-place.ensures, c.filled.ensures, party, number) refl

pub invariant_of-self : goal.invariant_of-self
invariant_of-self c =
    let same : c.self.inside.parties.items ≡ c.args.self.now.parties = ap (λ (v : Course). v.parties) c.self.view_is in
    let idle : c.self.inside.out ≡ c.args.self.now.out = ap (λ (v : Course). v.out) c.self.view_is in
    let none : if_out c.self.inside.out ≡ 0 = ap if_out (idle ∙ c.requires.idle) in
    let unheard : IsOpen c.self.inside.parties.items (Some c.args.errand) = subst (λ ps. IsOpen ps (Some c.args.errand)) (sym same) c.requires.unheard in
    let o = opened c.self.inside.parties.items c.args.errand (slice_get c.self.inside.parties.items c.args.errand.place) refl unheard in
    let taken : vec_len c.self.inside.blanks ≡ suc (vec_len c.pop.new.self) =
    let one : length (option_to_list c.pop.result) ≡ 1 = ap (λ o. length (option_to_list o)) c.unwrap-blank.ensures in
    omega (arith, one, c.pop.ensures) in
    record {
      few = c.self.invariant.few;
      serial = c.self.invariant.serial;
      unheard = unheard;
      blanks = λ some. let bound = c.self.invariant.blanks some in omega (arith, bound, none, taken);
      roomy = rest_roomy (reach c.self.inside.parties.items) c.pop.new.self.items (option_to_list c.pop.result) (subst (AreRoomy (reach c.self.inside.parties.items)) c.pop.ensures.items c.self.invariant.roomy);
      consented = rw c.passed-self-inside.ensures (passed_consented c.args.errand.stage c.args.errand.place c.self.inside.consented c.self.inside.parties.items
          (subst (λ ps. ConsentedBefore c.args.errand.stage c.args.errand.place ps) (sym same) c.requires.behind) c.self.invariant.consented);
      unasked = rw c.passed-self-inside.ensures (passed_unasked c.args.errand.stage c.args.errand.place c.self.inside.consented c.self.inside.parties.items
          o.0 o.1 o.2 c.self.invariant.consented c.self.invariant.unasked);
      asked_at = rw c.passed-self-inside.ensures (passed_at c.args.errand.stage c.args.errand.place c.self.inside.consented);
      told = c.self.invariant.told;
    }
